-- What `last_of` gives, and the proof of `fordlinnet_make_gather` cites. Assumes nothing.
use Prim.Native.Nat.{ℕ, zero, suc, ◌+◌, ◌%◌, ◌^◌, ◌≤◌, ◌<◌}
use mathlib.Core.Path.{◌≡◌, refl, sym, ap, ◌∙◌, subst}
use mathlib.Core.Bool.{Bool, true, false, not, cond}
use mathlib.Core.List.{List, [], ◌∷◌, ◌++◌}
use native.Mathlib.Omega.{arith}
use lib.Dec.{ltb, eqb}
use lib.ListN.{length, get_or, take, length-append}
use borrow.Author.Tests.{eqb-true, eqb-false, eq-eqb, ne_eqb, ltb-false}
use Rattle.cursor.specs.declared.Cursor.{Cursor}
use Rattle.cursor.specs.Cursor.{in_range, step_of}
use Rattle.cursor.proofs.Laws.{range_is, step_none}
use Rattle.conn_answer.specs.declared.Placing.{Placing}
use Rattle.conn_record.specs.declared.RToken.{RToken}
use Rattle.conn_record.specs.declared.Record.{Record}
use Rattle.conn_record.specs.Connection.{zero_record, remote_ok}
use Rattle.conn_send.specs.Transmit.{rtoken_of, element_start, no_placing, placing_of}
use Rattle.conn_send.proofs.Laws.{element_fits}
use Rattle.conn_send.specs.Produced.{send_forbids, waits_b}
use Rattle.conn_gather.specs.Pieces.{stretch_of}
use Rattle.group_table.specs.declared.Links.{Links}
use Rattle.group_table.specs.Table.{index_of, record_at, with_record}
use Rattle.group_table.proofs.SlotsLaws.{record_at_returns, record_at_returns_2}
use Rattle.group_rules.specs.Rules.{Group, Says, on, send, gather, Answer, answer, group_of}
use Rattle.group_rules.proofs.Joined.{joined_left, joined_says}
use Rattle.plan.specs.declared.LinkStates.{LinkStates}
use Rattle.plan.specs.Direct.{refusal_at}
use Rattle.plan.specs.DirectMade.{named_in, Made, InEveryGroup}
use Rattle.plan_send.specs.declared.SendAnswer.{SendAnswer}
use Rattle.plan_send.specs.declared.Sending.{Sending}
use Rattle.plan_send.specs.Transmitting.{placing_in, unsent_answer, unsent, sent_by, sending_of}
use Rattle.plan_send.specs.Transmitted.{record_left, message_left}
use Rattle.c_send.specs.DirectSend.{send_answer_of, SendMade}
use Rattle.c_send.proofs.Laws.{send_made, send_refused}
use Rattle.plan_gather.specs.declared.Joined.{Joined}
use Rattle.plan_gather.specs.declared.GatherAnswer.{GatherAnswer}
use Rattle.plan_gather.specs.Cutting.{in_pieces}
use Rattle.c_gather.specs.GatherLeft.{end_of, last_by, refused_answer, GatherBy, GatherUnless}
use Rattle.c_gather.specs.DirectGather.{last_of, joined_of, says_in, shown_of, GatherMade}
use Rattle.c_gather.proofs.Pieces.{off_less, Took, took, says_sent, gather_said}

-- THE EMPTY PLACING of one record
pub last_refused : (rec : Record) (t : Sending) (p : Placing) → p ≡ no_placing → 0 < t.said.refusal → p ≡ last_by rec t
unfolding last_by
last_refused rec t p ep h = simp (ep, ne_eqb t.said.refusal 0 (λ e. absurd (omega (arith, e))))

pub last_here : (rec : Record) (t : Sending) (token : RToken) (p : Placing) → t.said.refusal ≤ 0 → token ≡ rtoken_of rec
    → p ≡ placing_in rec.remote.size rec.remote.index token (end_of t) → p ≡ last_by rec t
unfolding last_by
last_here rec t token p h et ep =
    let z : t.said.refusal ≡ 0 = omega arith in
    simp (ep, et, eq-eqb t.said.refusal 0 z)

-- WHERE Q IS AFTER A SEND
sending_steps : (rec : Record) (len : ℕ) → (sending_of false rec len).said.refusal ≡ 0
    → (sending_of false rec len).producer ≡ step_of rec.remote.size rec.outbound.producer (sending_of false rec len).said.taken
unfolding sending_of sent_by
sending_steps rec len = go (send_forbids rec.marks) (waits_b rec len)
  where
    all : Bool → Bool → Sending
    all f w = cond f (unsent 7 rec.outbound) (cond w (unsent 0 rec.outbound) (sent_by false rec len))

    go : (f w : Bool) → (all f w).said.refusal ≡ 0
        → (all f w).producer ≡ step_of rec.remote.size rec.outbound.producer (all f w).said.taken
    go true w e = absurd (omega (arith, e))
    go false true e = sym (step_none rec.remote.size rec.outbound.producer)
    go false false e = refl

ends_at : (rec : Record) → remote_ok rec.remote ≡ true → in_range rec.remote.size rec.outbound.producer ≡ true → (t : Sending)
    → t.producer ≡ step_of rec.remote.size rec.outbound.producer t.said.taken
    → placing_in rec.remote.size rec.remote.index (rtoken_of rec) (end_of t) ≡ placing_of rec (stretch_of rec t.said.taken 0)
unfolding placing_in placing_of
ends_at rec ok r t e =
    let n = t.said.taken in
    let off : t.producer.offset ≡ (step_of rec.remote.size rec.outbound.producer n).offset = ap (λ (c : Cursor). c.offset) e in
    let f = element_fits rec ok in
    let o = off_less rec.remote.size rec.outbound.producer r n in
    let x : (placing_in rec.remote.size rec.remote.index (rtoken_of rec) (end_of t)).address
    ≡ (placing_of rec (stretch_of rec n 0)).address = omega (arith, f, o, off) in
    λ i. record { key = (rtoken_of rec).key; address = x i; start = n; len = 0 }

-- THE GATHER
positive : (j : ℕ) → (j ≡ 0 → ⊥) → 0 < j
positive zero z = absurd (z refl)
positive (suc j) z = omega arith

module _
    (s n : ℕ) (m : List ℕ) (t : List Record) (states : LinkStates) (k : ℕ) (head body b : List ℕ) (first : ℕ)
    (eno : first ≡ refusal_at s n (length m) t states.active k) (a : Joined) (u : List Record) (c : List ℕ)
    (h : GatherUnless first t k head body b a u c) (ls : Links) (ea : ls.active ≡ states.active)
  where
    abbrev g : Group
    g = group_of s n t ls m

    abbrev rec : Record
    rec = record_at t k

    abbrev said : Answer
    said = answer g (on k (send (head ++ body)))

    abbrev Sent : SendAnswer → List Record → List ℕ → Type 0
    Sent y v d = SendMade g k (head ++ body) b y (group_of s n v ls m) d

    sends_by : (z : Bool) → eqb first 0 ≡ z → Sent a.sent u c
    sends_by true z =
        let l = h.0 (eqb-true first 0 z) in
        let e = ap (sending_of false rec) (sym (length-append head body)) in
        send_made false s n m t states k (head ++ body) b (sym eno ∙ eqb-true first 0 z) a.sent u c (
          l.0 ∙ ap (λ (q : Sending). q.said) e,
          l.2 ∙ ap (λ (q : Sending). with_record t k (record_left false rec q)) e,
          l.3 ∙ ap (λ (q : Sending). message_left false rec q b) e,
        )
        ls ea
    sends_by false z =
        let f = eqb-false first 0 z in
        let l = h.1 (positive first f) in
        subst (λ (v : List Record). Sent a.sent v c) (sym l.1)
        (subst (λ (d : List ℕ). Sent a.sent t d) (sym l.2)
        (send_refused false s n m t states k (head ++ body) b (λ x. f (eno ∙ x)) a.sent
        (ap (λ (x : Joined). x.sent) l.0 ∙ ap unsent_answer eno) ls ea))

    sends : Sent a.sent u c
    sends = sends_by (eqb first 0) refl

    answers : a.sent ≡ send_answer_of said
    answers = sends.answered

    -- the placing where Q is
    abbrev named : ℕ → ℕ → Placing
    named j x = cond (eqb j 0) (placing_of rec (stretch_of rec x 0)) no_placing

    by_sent : a.last ≡ named a.sent.refusal a.sent.taken → a.last ≡ last_of rec (named_in said.says)
    by_sent e = e ∙ ap (λ (y : SendAnswer). named y.refusal y.taken) answers

    abbrev x : SendAnswer
    x = send_answer_of said

    facts : eqb a.sent.refusal 0 ≡ true → Took rec x.taken (take x.placings (x.first ∷ x.second ∷ []))
    facts z =
        took g k (head ++ body) _ _
        (says_sent g k (head ++ body) (ap (λ (y : SendAnswer). eqb y.refusal 0) (sym answers) ∙ z))

    module _ (q : Sending) (eq : q ≡ sending_of false rec (length head + length body)) (es : a.sent ≡ q.said) (el : a.last ≡ last_by rec q) where
      steps : eqb a.sent.refusal 0 ≡ true → q.producer ≡ step_of rec.remote.size rec.outbound.producer q.said.taken
      steps z =
          let no : q.said.refusal ≡ 0 = ap (λ (x : SendAnswer). x.refusal) (sym es) ∙ eqb-true a.sent.refusal 0 z in
          subst (λ (x : Sending). x.producer ≡ step_of rec.remote.size rec.outbound.producer x.said.taken) (sym eq)
          (sending_steps rec (length head + length body) (ap (λ (x : Sending). x.said.refusal) (sym eq) ∙ no))

      last_by_lem : (z : Bool) → eqb a.sent.refusal 0 ≡ z → a.last ≡ named a.sent.refusal a.sent.taken
      unfolding last_by
      last_by_lem true z =
          let f = facts z in
          el
          ∙ ap (λ (x : SendAnswer). cond (eqb x.refusal 0) (placing_in rec.remote.size rec.remote.index (rtoken_of rec) (end_of q)) no_placing)
          (sym es)
          ∙ ap (λ (p : Placing). cond (eqb a.sent.refusal 0) p no_placing)
          (ends_at rec f.remote_ok_lem f.q_range q (steps z)
          ∙ ap (λ (x : SendAnswer). placing_of rec (stretch_of rec x.taken 0)) (sym es))
      last_by_lem false z =
          let no : (p : Placing) → cond (eqb a.sent.refusal 0) p no_placing ≡ no_placing =
          λ p. ap (λ (x : Bool). cond x p no_placing) z in
          el
          ∙ ap (λ (x : SendAnswer). cond (eqb x.refusal 0) (placing_in rec.remote.size rec.remote.index (rtoken_of rec) (end_of q)) no_placing)
          (sym es)
          ∙ no _
          ∙ sym (no _)

    last_number_is : (z : Bool) → eqb first 0 ≡ z → a.last ≡ named a.sent.refusal a.sent.taken
    last_number_is true z =
        let l = h.0 (eqb-true first 0 z) in
        last_by_lem (sending_of false rec (length head + length body)) refl l.0 l.1 (eqb a.sent.refusal 0) refl
    last_number_is false z =
        let l = h.1 (positive first (eqb-false first 0 z)) in
        let e : a ≡ refused_answer first = l.0 in
        subst (λ (x : Joined). x.last ≡ named x.sent.refusal x.sent.taken) (sym e)
        (ap (λ (x : Bool). cond x (placing_of rec (stretch_of rec 0 0)) no_placing) (sym z))

    whole : a ≡ joined_of rec said
    whole = λ i. record { sent = answers i; last = by_sent (last_number_is (eqb first 0) refl) i }

    pub gathers : (r : GatherAnswer) → r ≡ in_pieces a (length head) → GatherMade g k head body b r (group_of s n u ls m) c
    unfolding in_pieces
    gathers r er =
        let j = joined_says g k head body in
        record {
          sent = a;
          as_pieces = er;
          as_sent =
              record {
                answered = whole;
                next_left = sends.next_left;
                out_is_left = sends.out_is_left;
                message_is_left = sends.message_is_left;
              };
          did =
              record {
                answered =
                    λ i. (
                      (ap (λ (x : Joined). says_in x head body) whole ∙ gather_said g k head body) i,
                      (ap (λ (x : GatherAnswer). x.made) er ∙ ap (λ (x : SendAnswer). x.made) answers ∙ sym (ap (λ (x : Answer). x.made) j)) i,
                    );
                next_left = sends.next_left ∙ sym (joined_left g k head body);
                out_is_left = sends.out_is_left ∙ sym (ap (λ (x : Answer). x.out) j);
                message_is_left = sends.message_is_left ∙ sym (ap (λ (x : Answer). cond x.made x.message b) j);
              };
        }

pub fordlinnet_make_gather_returns : (s n : ℕ) (m : List ℕ) (t : List Record) (states : LinkStates) (k : ℕ) (head body b : List ℕ)
    → (first : ℕ) → first ≡ refusal_at s n (length m) t states.active k
    → (a : Joined) (u : List Record) (c : List ℕ) → GatherUnless first t k head body b a u c
    → (r : GatherAnswer) → r ≡ in_pieces a (length head)
    → InEveryGroup states.active (λ (ls : Links). GatherMade (group_of s n t ls m) k head body b r (group_of s n u ls m) c)
fordlinnet_make_gather_returns s n m t states k head body b first eno a u c l r er ls ea =
    gathers s n m t states k head body b first eno a u c l ls ea r er

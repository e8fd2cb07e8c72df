-- What the proof of `send` cites. Assumes nothing.
use Prim.Native.Nat.{ℕ, zero, suc, ◌<◌, ◌≤◌}
use mathlib.Core.Path.{◌≡◌, refl, sym, ap, ◌∙◌, subst}
use mathlib.Core.Bool.{Bool, true, false, not, cond}
use mathlib.Core.List.{List, []}
use native.Mathlib.Omega.{arith}
use lib.Dec.{ltb, eqb}
use lib.ListN.{length, get_or, set}
use borrow.Author.Tests.{eqb-true, eqb-false, lt-ltb, le-ltb, ltb-false}
use Rattle.cdc.specs.Cdc.{encode_of}
use Rattle.conn_record.specs.declared.Record.{Record}
use Rattle.conn_answer.specs.declared.Outcome.{Outcome}
use Rattle.conn_record.specs.Connection.{zero_record}
use Rattle.conn_answer.specs.Outcome.{no_message}
use Rattle.group_table.specs.declared.Links.{Links}
use Rattle.group_table.specs.declared.Turned.{Turned}
use Rattle.group_table.specs.Table.{sizes_b, index_of, record_at, with_record, active_b, found_of_all, settled_by}
use Rattle.group_table.proofs.Laws.{record_kept}
use Rattle.group_table.proofs.SlotsLaws.{record_at_returns, record_at_returns_2, put_record_returns, put_record_returns_2}
use Rattle.group_rules.specs.Rules.{Group, on, send, Answer, answer, Did, links_of, group_of, answer_of, element_in}
use Rattle.group_rules.specs.Rules as Rules
use Rattle.group_rules.proofs.Settled.{on_plain}
use Rattle.group_calls.proofs.SendingLaws.{send_turn_lem, urgent_turn}
use Rattle.plan.specs.declared.LinkStates.{LinkStates}
use Rattle.plan.specs.Direct.{held_of, refusal_at}
use Rattle.plan.proofs.Laws.{held_shut, links_stay}
use Rattle.plan.specs.DirectMade.{InEveryGroup}
use Rattle.plan.proofs.DirectMadeLaws.{made_by, told_same}
use Rattle.plan_send.specs.declared.SendAnswer.{SendAnswer}
use Rattle.plan_send.specs.declared.Sending.{Sending}
use Rattle.plan_send.specs.Transmitting.{unsent_answer, unsent, sending_of}
use Rattle.plan_send.specs.Transmitted.{inbound_left, place_left, outbound_moved, outbound_left, record_left, message_by, message_left}
use Rattle.c_send.specs.TableLeft.{LeftBy}
use Rattle.c_send.specs.DirectSend.{send_answer_of, request_of, Sends, SendMade, says_in, NothingLost, UrgentNothingLost}
use Rattle.c_send.proofs.Agree.{rule_of, sending_unless, refused_first, Agrees, agree}

-- nothing sent leaves the record as it was
left_unsent : (urgent : Bool) (rec : Record) (j : ℕ) → record_left urgent rec (unsent j rec.outbound) ≡ rec
unfolding record_left inbound_left outbound_left outbound_moved place_left
left_unsent urgent rec j = refl

-- what the rules do, by which of the two it is
did_by : (urgent active : Bool) (s n k : ℕ) (t : List Record) (ls : Links) (m bytes : List ℕ)
    → active ≡ active_b ls.active (record_at t k).id.link
    → (let a = settled_by (found_of_all s n (length m) (length t) k (record_at t k)) ls (record_at t k)
    (rule_of urgent n active (record_at t k) (length bytes)) in
    Did (group_of s n t ls m) (on k (request_of urgent bytes)) (answer_of a.answer [])
    (group_of s n (with_record t k a.after) a.answer.links m))
did_by true active s n k t ls m bytes ea =
    on_plain s n t ls m k (Rules.urgent bytes) (record_at t k) refl _ refl active ea _ _ refl
    (urgent_turn n active (record_at t k) (element_in (group_of s n t ls m) k) _ bytes refl)
did_by false active s n k t ls m bytes ea =
    on_plain s n t ls m k (send bytes) (record_at t k) refl _ refl active ea _ _ refl
    (send_turn_lem n active (record_at t k) (element_in (group_of s n t ls m) k) _ bytes refl)

-- THE SEND
module _
    (urgent : Bool) (s n : ℕ) (m : List ℕ) (t : List Record) (states : LinkStates) (k : ℕ) (bytes b : List ℕ) (first : ℕ)
    (eno : first ≡ refusal_at s n (length m) t states.active k) (r : Sending)
    (er : r ≡ sending_unless urgent first (record_at t k) (length bytes)) (c : List ℕ) (ec : c ≡ message_left urgent (record_at t k) r b)
    (u : List Record) (eu : u ≡ with_record t k (record_left urgent (record_at t k) r))
  where
    abbrev held : ℕ
    held = cond (sizes_b s n (length m) (length t)) (held_of s n states.active k (record_at t k)) 1

    held_is : first ≡ held
    unfolding refusal_at
    held_is = eno

    module _ (ls : Links) where
      abbrev active : Bool
      active = active_b states.active (record_at t k).id.link

      abbrev j : ℕ
      j = found_of_all s n (length m) (length t) k (record_at t k)

      abbrev o : Outcome
      o = rule_of urgent n active (record_at t k) (length bytes)

      abbrev a : Turned
      a = settled_by j ls (record_at t k) o

      ag : Agrees urgent (record_at t k) r a
      ag =
          subst (λ (q : Sending). Agrees urgent (record_at t k) q a)
          (sym (er ∙ ap (λ (x : ℕ). sending_unless urgent x (record_at t k) (length bytes)) held_is))
          (agree urgent s n (length m) (length t) k states.active (record_at t k) (length bytes) ls)

      did : ls.active ≡ states.active → Did (group_of s n t ls m) (on k (request_of urgent bytes)) (answer_of a.answer [])
          (group_of s n (with_record t k a.after) a.answer.links m)
      did ea = did_by urgent active s n k t ls m bytes (ap (λ (x : List Bool). active_b x (record_at t k).id.link) (sym ea))

      message_is : c ≡ cond a.answer.made a.answer.message b
      unfolding message_left
      message_is =
          ec
          ∙ told_same r.said.made (encode_of (message_by urgent (record_at t k) r)) no_message b
          ∙ (λ i. cond (ag.answers i).made (sym ag.message i) b)

      table_is : u ≡ with_record t k a.after
      table_is = eu ∙ ap (with_record t k) (sym ag.after)

      pub sends : ls.active ≡ states.active → Sends urgent (group_of s n t ls m) k bytes b r.said (group_of s n u ls m) c
      sends ea =
          made_by send_answer_of b
          (record {
            answered = (did ea).answered;
            left = (λ i. group_of s n (table_is i) (sym (links_stay j ls (record_at t k) o) i) m) ∙ (did ea).left;
          })
          ag.answers refl message_is

      -- so nothing is lost in the struct
      pub all_said : ls.active ≡ states.active
          → (let x = answer (group_of s n t ls m) (on k (request_of urgent bytes)) in says_in (send_answer_of x) ≡ x.says)
      all_said ea =
          subst (λ (x : Answer). says_in (send_answer_of x) ≡ x.says) (did ea).answered (ap says_in (sym ag.answers) ∙ ag.says)

-- the two ways of the code are one sending
module _ (urgent : Bool) (s n : ℕ) (m : List ℕ) (t : List Record) (states : LinkStates) (k : ℕ) (bytes b : List ℕ) where
  abbrev no : ℕ
  no = refusal_at s n (length m) t states.active k

  abbrev rec : Record
  rec = record_at t k

  abbrev all : Sending
  all = sending_unless urgent no rec (length bytes)

  abbrev Promised : SendAnswer → List Record → List ℕ → Type 0
  Promised a u c = InEveryGroup states.active (λ (ls : Links). Sends urgent (group_of s n t ls m) k bytes b a (group_of s n u ls m) c)

  by_one : (q : Sending) → q ≡ all → (a : SendAnswer) (u : List Record) (c : List ℕ) → a ≡ q.said
      → u ≡ with_record t k (record_left urgent rec q) → c ≡ message_left urgent rec q b → Promised a u c
  by_one q e a u c ea eu ec ls el =
      subst (λ (y : SendAnswer). Sends urgent (group_of s n t ls m) k bytes b y (group_of s n u ls m) c)
      (sym (ea ∙ ap (λ (x : Sending). x.said) e))
      (sends urgent s n m t states k bytes b no refl all refl c (ec ∙ ap (λ (x : Sending). message_left urgent rec x b) e) u
      (eu ∙ ap (λ (x : Sending). with_record t k (record_left urgent rec x)) e) ls el)

  -- one that 1, 2, 3 and 6 do not refuse
  pub send_made : no ≡ 0 → (a : SendAnswer) (u : List Record) (c : List ℕ) → LeftBy urgent t k bytes b a u c → Promised a u c
  send_made z a u c l =
      by_one (sending_of urgent rec (length bytes)) (ap (λ (x : ℕ). sending_unless urgent x rec (length bytes)) (sym z)) a u c
      l.0 l.1 l.2

  -- one that they refuse
  pub send_refused : (no ≡ 0 → ⊥) → (a : SendAnswer) → a ≡ unsent_answer no → Promised a t b
  unfolding message_left
  send_refused z a ea =
      by_one (unsent no rec.outbound) (sym (refused_first urgent no z rec (length bytes))) a t b ea
      (sym (record_kept t k) ∙ ap (with_record t k) (sym (left_unsent urgent rec no))) refl

lost_by : (urgent : Bool) (g : Group) (k : ℕ) (bytes : List ℕ)
    → (let a = answer g (on k (request_of urgent bytes)) in says_in (send_answer_of a) ≡ a.says)
lost_by urgent g k bytes =
    let t = g.table in
    let first = refusal_at g.S g.N (length g.memory) t g.links k in
    let q : Sending = sending_unless urgent first (record_at t k) (length bytes) in
    all_said urgent g.S g.N g.memory t (record { active = g.links }) k bytes [] first refl q refl
    (message_left urgent (record_at t k) q []) refl (with_record t k (record_left urgent (record_at t k) q)) refl (links_of g) refl

pub nothing_lost : NothingLost
nothing_lost = lost_by false

pub urgent_nothing_lost : UrgentNothingLost
urgent_nothing_lost = lost_by true

-- The small sending says what the rules' send and urgent send say. Assumes nothing.
use mathlib.Core.Path.{◌≡◌, refl, sym, ap, subst, ◌∙◌}
use mathlib.Core.Bool.{Bool, true, false, ◌&&◌, cond}
use mathlib.Core.List.{List, [], ◌∷◌}
use Prim.Native.Nat.{ℕ, ◌<◌}
use native.Mathlib.Omega.{arith}
use lib.Dec.{ltb, eqb}
use borrow.Author.Tests.{eq-eqb, ne_eqb}
use Rattle.cursor.specs.declared.Cursor.{Cursor}
use Rattle.cursor.specs.Cursor.{step_of}
use Rattle.cdc.specs.Cdc.{encode_of}
use Rattle.flow.specs.declared.Stretch.{Stretch}
use Rattle.flow.specs.declared.Stretches.{Stretches}
use Rattle.flow.specs.declared.Stretches.TheVariants.{Nowhere, One, Two}
use Rattle.flow.specs.Flow.{stretches_of, Placed, all_placed}
use Rattle.conn_answer.specs.declared.Placing.{Placing}
use Rattle.conn_record.specs.declared.Record.{Record}
use Rattle.conn_answer.specs.declared.Reply.{Reply}
use Rattle.conn_answer.specs.declared.Reply.TheVariants.{Sent}
use Rattle.conn_answer.specs.declared.Outcome.{Outcome}
use Rattle.conn_record.specs.Connection.{q_to, blocked_to, outbound_to, remote_ok, coherent_b, refusal_of}
use Rattle.conn_answer.specs.Outcome.{no_message, told_in, used_in, told_of, message_of, pending_of, outcome_of, urgent_outcome, refused_of}
use Rattle.conn_record.proofs.Laws.{coherent_facts, refusal_3, refusal_6, refusal_7, refusal_0}
use Rattle.conn_send.specs.Transmit.{no_placing, rtoken_of, placing_of, placings_of, sent_of, urgent_of, nothing_sent, send_of, urgent_send_of}
use Rattle.conn_send.specs.Produced.{send_forbids, waits_b, n_of, produced_out, produced_of, tells_of, urged_out, urged_of}
use Rattle.conn_send.proofs.Laws.{element_fits, taken_placed}
use Rattle.group_table.specs.declared.Links.{Links}
use Rattle.group_table.specs.declared.Turned.{Turned}
use Rattle.group_table.specs.Table.{sizes_b, slot_b, active_b, found_of_all, refused_by, kept_by_of, turned_by, settled_by}
use Rattle.group_rules.specs.Rules.{says_of}
use Rattle.plan.specs.Direct.{held_of}
use Rattle.plan_send.specs.declared.Sending.{Sending}
use Rattle.plan_send.specs.Transmitting.{taken_in_of, tells_in, placing_in, said, said_of, unsent, sent_by, sending_of}
use Rattle.plan_send.specs.Transmitted.{inbound_left, place_left, outbound_moved, outbound_left, record_left, moved_of, pending_if, message_by}
use Rattle.plan.specs.DirectMade.{named_in}
use Rattle.c_send.specs.DirectSend.{send_answer, says_in}
use Rattle.plan_send.proofs.Steps.{send_forbidden, send_waits, send_sent}

-- the rule of a send, or of an urgent one; and where bytes are offered
abbrev pub rule_of : Bool → ℕ → Bool → Record → ℕ → Outcome
rule_of true = urgent_send_of
rule_of false = send_of

abbrev offered_of : Bool → Record → ℕ → Outcome
offered_of true = urgent_of
offered_of false = sent_of

-- a send where `j` is what was refused before, 0 for nothing
abbrev pub sending_unless : Bool → ℕ → Record → ℕ → Sending
sending_unless urgent j rec len = cond (eqb j 0) (sending_of urgent rec len) (unsent j rec.outbound)

pub refused_first : (urgent : Bool) (j : ℕ) → (j ≡ 0 → ⊥) → (rec : Record) (len : ℕ)
    → sending_unless urgent j rec len ≡ unsent j rec.outbound
refused_first urgent j z rec len = simp (ne_eqb j 0 z)

-- what a sending t of the record rec shares with the answer and the record that the rules leave
pub record Agrees (urgent : Bool) (rec : Record) (t : Sending) (a : Turned) : Type 0 where
  pub answers : t.said ≡ send_answer (named_in (says_of a.answer.reply)) a.answer.made
  pub says : says_in t.said ≡ says_of a.answer.reply
  pub message : a.answer.message ≡ cond t.said.made (encode_of (message_by urgent rec t)) no_message
  pub after : a.after ≡ record_left urgent rec t

move : {urgent : Bool} {rec : Record} {x y : Sending} {a b : Turned} → x ≡ y → a ≡ b → Agrees urgent rec y b → Agrees urgent rec x a
move {urgent} {rec} {x} {y} {a} {b} p q g =
    subst (λ (w : Sending). Agrees urgent rec w a) (sym p) (subst (λ (w : Turned). Agrees urgent rec y w) (sym q) g)

-- where a stretch goes, by the peer's memory on the connection's own link
abbrev placing_by : Record → Stretch → Placing
placing_by rec = placing_in rec.remote.size rec.remote.index (rtoken_of rec)

-- where the peer's element is in range, an address in it has 64 bits
module _ (rec : Record) (ok : remote_ok rec.remote ≡ true) where
  placing_is : (s : Stretch) → s.offset < rec.remote.size → placing_of rec s ≡ placing_by rec s
  unfolding placing_of placing_in
  placing_is s h =
      let f = element_fits rec ok in
      let e : (placing_of rec s).address ≡ (placing_by rec s).address = omega (arith, f, h) in
      λ i. record { key = (placing_of rec s).key; address = e i; start = s.start; len = s.len }

  placed_is : (start : ℕ) (s : Stretch) → Placed rec.remote.size start s → placing_of rec s ≡ placing_by rec s
  placed_is start s h = placing_is s (omega (arith, h.some, h.high))

  -- so the answer names what the rules' reply does
  says_same : (n : ℕ) (tells : Bool) (s : Stretches) → all_placed rec.remote.size s
      → said_of (placing_by rec) n tells s ≡ send_answer (named_in (says_of (Sent n (placings_of rec s)))) tells
  says_same n tells Nowhere h = refl
  says_same n tells (One a) h = ap (λ (p : Placing). said n tells 1 p no_placing) (sym (placed_is 0 a h))
  says_same n tells (Two a b) h = λ i. said n tells 2 (sym (placed_is 0 a h.0) i) (sym (placed_is a.len b h.1) i)

  -- which says all of it
  says_all : (n : ℕ) (tells : Bool) (s : Stretches)
      → says_in (send_answer (named_in (says_of (Sent n (placings_of rec s)))) tells) ≡ says_of (Sent n (placings_of rec s))
  unfolding says_in
  says_all n tells Nowhere = refl
  says_all n tells (One a) = refl
  says_all n tells (Two a b) = refl

module _ (ls : Links) (rec : Record) where
  refused_agrees : (urgent : Bool) (j : ℕ) → (j ≡ 0 → ⊥) → Agrees urgent rec (unsent j rec.outbound) (kept_by_of rec (refused_by j ls))
  unfolding kept_by_of refused_by says_in record_left inbound_left outbound_left outbound_moved place_left
  refused_agrees urgent j z =
      record { answers = refl; says = simp (ne_eqb j 0 z); message = refl; after = refl }

  refused_same : (j : ℕ) → turned_by ls (refused_of j rec) ≡ kept_by_of rec (refused_by j ls)
  unfolding turned_by refused_of kept_by_of refused_by
  refused_same j = refl

  nothing_agrees : (urgent : Bool) → Agrees urgent rec (unsent 0 rec.outbound) (turned_by ls (nothing_sent rec))
  unfolding turned_by outcome_of says_in record_left inbound_left outbound_left outbound_moved place_left
  nothing_agrees urgent = record { answers = refl; says = refl; message = refl; after = refl }

  -- k bytes taken, that go to the stretches s; Q moved to q, B set to b
  module _ (ok : remote_ok rec.remote ≡ true) (k : ℕ) (s : Stretches) (placed : all_placed rec.remote.size s) (q : Cursor) where
    next : Bool → Record
    next b = outbound_to rec (blocked_to (q_to rec.outbound q) b)

    abbrev by : Bool → Bool → Sending
    by tells b = record { said = said_of (placing_by rec) k tells s; producer = q; blocked = b }

    abbrev reply : Reply
    reply = Sent k (placings_of rec s)

    -- by what its message and its record are
    agrees_by : (urgent tells b : Bool) (o : Outcome) → o.reply ≡ reply → o.made ≡ tells
        → o.message ≡ cond tells (encode_of (message_by urgent rec (by tells b))) no_message
        → o.after ≡ record_left urgent rec (by tells b) → Agrees urgent rec (by tells b) (turned_by ls o)
    unfolding turned_by
    agrees_by urgent tells b o r m e f =
        let w : said_of (placing_by rec) k tells s ≡ send_answer (named_in (says_of o.reply)) o.made =
        says_same rec ok k tells s placed ∙ (λ i. send_answer (named_in (says_of (sym r i))) (sym m i)) in
        record {
          answers = w;
          says = ap says_in (says_same rec ok k tells s placed) ∙ says_all rec ok k tells s ∙ ap says_of (sym r);
          message = e;
          after = f;
        }

    sent_by_lem : (tells b : Bool) → Agrees false rec (by tells b) (turned_by ls (outcome_of reply tells (next b)))
    unfolding next outcome_of told_of told_in used_in record_left inbound_left outbound_left outbound_moved place_left moved_of pending_if
    sent_by_lem true b = agrees_by false true b (outcome_of reply true (next b)) refl refl refl refl
    sent_by_lem false b = agrees_by false false b (outcome_of reply false (next b)) refl refl refl refl

    abbrev urgently : Bool → Outcome
    urgently b =
        cond b (urgent_outcome reply (pending_of (message_of (next b))) (next b))
        (urgent_outcome reply (message_of (urged_of (next b))) (urged_of (next b)))

    urged_by : (b : Bool) → Agrees true rec (by true b) (turned_by ls (urgently b))
    unfolding next urgent_outcome urged_of urged_out pending_of message_of told_of told_in used_in record_left inbound_left outbound_left outbound_moved
        place_left moved_of pending_if
    urged_by true = agrees_by true true true (urgently true) refl refl refl refl
    urged_by false = agrees_by true true false (urgently false) refl refl refl refl

  module _ (n : ℕ) (g : coherent_b n rec ≡ true) (len : ℕ) where
    abbrev ok : remote_ok rec.remote ≡ true
    ok = (coherent_facts n rec g).remote_ok_lem

    abbrev stretches : Stretches
    stretches = stretches_of rec.remote.size rec.outbound.producer (n_of rec len)

    abbrev placed : all_placed rec.remote.size stretches
    placed = taken_placed rec len (n_of rec len) ok (coherent_facts n rec g).q_range refl

    sent_agrees : (urgent : Bool) → Agrees urgent rec (sent_by urgent rec len) (turned_by ls (offered_of urgent rec len))
    unfolding sent_by sent_of urgent_of produced_of produced_out tells_in tells_of taken_in_of n_of next
    sent_agrees true =
        urged_by ok (n_of rec len) stretches placed (step_of rec.remote.size rec.outbound.producer (n_of rec len))
        (ltb (n_of rec len) len)
    sent_agrees false =
        sent_by_lem ok (n_of rec len) stretches placed (step_of rec.remote.size rec.outbound.producer (n_of rec len))
        (tells_of rec (n_of rec len) len) (ltb (n_of rec len) len)

-- what the rules' send gives, by its tests
module _ (n : ℕ) (active : Bool) (rec : Record) (len : ℕ) where
  abbrev no : ℕ
  no = refusal_of n active rec (send_forbids rec.marks)

  refused_is : (urgent : Bool) (j : ℕ) → (j ≡ 0 → ⊥) → no ≡ j → rule_of urgent n active rec len ≡ refused_of j rec
  unfolding send_of urgent_send_of
  refused_is true j z e = simp (e, ne_eqb j 0 z)
  refused_is false j z e = simp (e, ne_eqb j 0 z)

  waits_is : (urgent : Bool) → no ≡ 0 → waits_b rec len ≡ true → rule_of urgent n active rec len ≡ nothing_sent rec
  unfolding send_of urgent_send_of
  waits_is true e w = simp (eq-eqb no 0 e, w)
  waits_is false e w = simp (eq-eqb no 0 e, w)

  sent_is : (urgent : Bool) → no ≡ 0 → waits_b rec len ≡ false → rule_of urgent n active rec len ≡ offered_of urgent rec len
  unfolding send_of urgent_send_of
  sent_is true e w = simp (eq-eqb no 0 e, w)
  sent_is false e w = simp (eq-eqb no 0 e, w)

module _ (urgent : Bool) (s n size count k : ℕ) (active : List Bool) (rec : Record) (len : ℕ) (ls : Links) where
  abbrev up : Bool
  up = active_b active rec.id.link

  abbrev before : ℕ
  before = cond (sizes_b s n size count) (held_of s n active k rec) 1

  abbrev Both : Type 0
  Both =
      Agrees urgent rec (sending_unless urgent before rec len)
      (settled_by (found_of_all s n size count k rec) ls rec (rule_of urgent n up rec len))

  small_is : (j : ℕ) → (j ≡ 0 → ⊥) → before ≡ j → sending_unless urgent before rec len ≡ unsent j rec.outbound
  small_is j z e = ap (λ (x : ℕ). sending_unless urgent x rec len) e ∙ refused_first urgent j z rec len

  free_is : before ≡ 0 → sending_unless urgent before rec len ≡ sending_of urgent rec len
  free_is e = ap (λ (x : ℕ). sending_unless urgent x rec len) e

  kept-is : (j : ℕ) (o : Outcome) → (j ≡ 0 → ⊥) → settled_by j ls rec o ≡ kept_by_of rec (refused_by j ls)
  unfolding settled_by
  kept-is j o z = simp (ne_eqb j 0 z)

  -- 1 and 2
  found_both : (j : ℕ) → (j ≡ 0 → ⊥) → before ≡ j → found_of_all s n size count k rec ≡ j → Both
  found_both j z e f =
      move (small_is j z e)
      (ap (λ (x : ℕ). settled_by x ls rec (rule_of urgent n up rec len)) f ∙ kept-is j (rule_of urgent n up rec len) z)
      (refused_agrees ls rec urgent j z)

  unsized : sizes_b s n size count ≡ false → Both
  unfolding found_of_all
  unsized y = found_both 1 (λ e. absurd (omega (arith, e))) (simp y) (simp y)

  closed : sizes_b s n size count ≡ true → slot_b s k && rec.id.opened ≡ false → Both
  unfolding found_of_all held_of
  closed y w = found_both 2 (λ e. absurd (omega (arith, e))) (simp (y, w)) (simp (y, w))

  -- the step of the record
  module _ (y : sizes_b s n size count ≡ true) (w : slot_b s k && rec.id.opened ≡ true) where
    held_is : before ≡ refusal_of n up rec false
    unfolding held_of
    held_is = simp (y, w)

    turned_is : (o : Outcome) → settled_by (found_of_all s n size count k rec) ls rec o ≡ turned_by ls o
    unfolding settled_by found_of_all
    turned_is o = simp (y, w)

    abbrev whole : ℕ
    whole = refusal_of n up rec (send_forbids rec.marks)

    large_is : (o : Outcome) → rule_of urgent n up rec len ≡ o
        → settled_by (found_of_all s n size count k rec) ls rec (rule_of urgent n up rec len) ≡ turned_by ls o
    large_is o e = turned_is (rule_of urgent n up rec len) ∙ ap (turned_by ls) e

    large_refused : (j : ℕ) → (j ≡ 0 → ⊥) → whole ≡ j
        → settled_by (found_of_all s n size count k rec) ls rec (rule_of urgent n up rec len) ≡ kept_by_of rec (refused_by j ls)
    large_refused j z f = large_is (refused_of j rec) (refused_is n up rec len urgent j z f) ∙ refused_same ls rec j

    -- 3 and 6
    step_both : (j : ℕ) → (j ≡ 0 → ⊥) → refusal_of n up rec false ≡ j → whole ≡ j → Both
    step_both j z e f = move (small_is j z (held_is ∙ e)) (large_refused j z f) (refused_agrees ls rec urgent j z)

    by_marks : coherent_b n rec ≡ true → up ≡ true → (f : Bool) → send_forbids rec.marks ≡ f → (i : Bool) → waits_b rec len ≡ i → Both
    by_marks g a true f i v =
        let z : before ≡ 0 = held_is ∙ refusal_0 n up rec false g a refl in
        move (free_is z ∙ sym (send_forbidden urgent rec len (unsent 7 rec.outbound) f refl))
        (large_refused 7 (λ e. absurd (omega (arith, e))) (refusal_7 n up rec (send_forbids rec.marks) g a f))
        (refused_agrees ls rec urgent 7 (λ e. absurd (omega (arith, e))))
    by_marks g a false f true v =
        let z : before ≡ 0 = held_is ∙ refusal_0 n up rec false g a refl in
        move (free_is z ∙ sym (send_waits urgent rec len (unsent 0 rec.outbound) f v refl))
        (large_is (nothing_sent rec) (waits_is n up rec len urgent (refusal_0 n up rec (send_forbids rec.marks) g a f) v))
        (nothing_agrees ls rec urgent)
    by_marks g a false f false v =
        let z : before ≡ 0 = held_is ∙ refusal_0 n up rec false g a refl in
        move (free_is z ∙ sym (send_sent urgent rec len (sent_by urgent rec len) f v refl))
        (large_is (offered_of urgent rec len) (sent_is n up rec len urgent (refusal_0 n up rec (send_forbids rec.marks) g a f) v))
        (sent_agrees ls rec n g len urgent)

    by_link_lem : coherent_b n rec ≡ true → (a : Bool) → up ≡ a → Both
    by_link_lem g true a = by_marks g a (send_forbids rec.marks) refl (waits_b rec len) refl
    by_link_lem g false a =
        step_both 6 (λ e. absurd (omega (arith, e))) (refusal_6 n up rec false g a) (refusal_6 n up rec (send_forbids rec.marks) g a)

    by_record : (g : Bool) → coherent_b n rec ≡ g → Both
    by_record true g = by_link_lem g up refl
    by_record false g =
        step_both 3 (λ e. absurd (omega (arith, e))) (refusal_3 n up rec false g) (refusal_3 n up rec (send_forbids rec.marks) g)

  by_slot : sizes_b s n size count ≡ true → (w : Bool) → slot_b s k && rec.id.opened ≡ w → Both
  by_slot y true w = by_record y w (coherent_b n rec) refl
  by_slot y false w = closed y w

  by_sizes : (y : Bool) → sizes_b s n size count ≡ y → Both
  by_sizes true y = by_slot y (slot_b s k && rec.id.opened) refl
  by_sizes false y = unsized y

  pub agree : Both
  agree = by_sizes (sizes_b s n size count) refl

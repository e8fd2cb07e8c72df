-- The small reading says what the rules' read says. Assumes nothing.
use mathlib.Core.Path.{◌≡◌, refl, sym, ap, subst, ◌∙◌}
use mathlib.Core.Bool.{Bool, true, false, ◌&&◌, cond}
use mathlib.Core.List.{List}
use Prim.Native.Nat.{ℕ, ◌-◌}
use native.Mathlib.Omega.{arith}
use lib.Dec.{eqb}
use borrow.Author.Tests.{eq-eqb, ne_eqb}
use Rattle.cursor.specs.declared.Cursor.{Cursor}
use Rattle.cursor.specs.Cursor.{step_of}
use Rattle.cursor.proofs.Laws.{good_most}
use Rattle.cdc.specs.Cdc.{encode_of}
use Rattle.closing.specs.declared.Marks.{Marks}
use Rattle.flow.specs.Flow.{taken_of, window_of}
use Rattle.conn_record.specs.declared.Record.{Record}
use Rattle.conn_answer.specs.declared.Reply.TheVariants.{Read}
use Rattle.conn_answer.specs.declared.Outcome.{Outcome}
use Rattle.conn_record.specs.Connection.{no_place, c_to, urgent_in_to, inbound_to, marks_to, reached_b, passed_by, coherent_b, refusal_of}
use Rattle.conn_answer.specs.Outcome.{no_message, told_in, used_in, told_of, message_of, outcome_of, refused_of}
use Rattle.conn_record.proofs.Laws.{coherent_facts, refusal_3, refusal_6, refusal_7, refusal_0}
use Rattle.conn_receive.specs.Receive.{read_forbids, unread_of, consumed_in, cleared_in, consumed_of, update_of, torn_of, take_of, read_of}
use Rattle.conn_receive.proofs.Laws.{take_is}
use Rattle.group_table.specs.declared.Links.{Links}
use Rattle.group_table.specs.declared.Turned.{Turned}
use Rattle.group_table.specs.Table.{sizes_b, slot_b, active_b, found_of_all, refused_by, kept_by_of, turned_by, settled_by}
use Rattle.group_rules.specs.Rules.{says_of}
use Rattle.group_calls.specs.Receiving.{copied_of}
use Rattle.plan.specs.Direct.{held_of}
use Rattle.plan.proofs.Laws.{marks_kept, marks_aborted}
use Rattle.plan_read.specs.declared.Reading.{Reading}
use Rattle.plan_read.specs.Reading.{unread_in, due_in, took_of, torn_reading, reading_of, refused_reading, inbound_left, outbound_left, record_left, moved_of}
use Rattle.plan.specs.DirectMade.{named_in}
use Rattle.c_read.specs.DirectRead.{read_answer, says_in}
use Rattle.plan_read.proofs.Steps.{took_by_of, read_forbidden, read_took, read_torn}

-- what a reading t of the record rec shares with the answer and the record that the rules leave
pub record Agrees (rec : Record) (t : Reading) (a : Turned) : Type 0 where
  pub answers : t.said ≡ read_answer (named_in (says_of a.answer.reply)) a.answer.made
  pub says : says_in t.said ≡ says_of a.answer.reply
  pub message : a.answer.message ≡ cond t.said.made (encode_of (message_of (moved_of rec t))) no_message
  pub after : a.after ≡ cond (eqb t.said.refusal 0) (record_left rec t) rec
  pub copied : copied_of a.answer.reply ≡ t.said.count
  pub from_is : t.from ≡ rec.inbound.consumer.offset
  pub silent : (t.said.refusal ≡ 0 → ⊥) → (t.said.made ≡ false) × (t.said.count ≡ 0)

move : {rec : Record} {x y : Reading} {a b : Turned} → x ≡ y → a ≡ b → Agrees rec y b → Agrees rec x a
move {rec} {x} {y} {a} {b} p q g = subst (λ (w : Reading). Agrees rec w a) (sym p) (subst (λ (w : Turned). Agrees rec y w) (sym q) g)

-- the marks, as a read leaves them
-- in a coherent record, D less what is free is the distance C to P
unread_same : (n : ℕ) (rec : Record) → coherent_b n rec ≡ true → unread_in n rec.inbound ≡ unread_of n rec.inbound
unfolding unread_in unread_of window_of
unread_same n rec h =
    let most = good_most (n - 4) rec.inbound.consumer rec.inbound.producer (coherent_facts n rec h).cp_good in omega (arith, most)

module _ (ls : Links) (rec : Record) where
  refused_agrees : (j : ℕ) → (j ≡ 0 → ⊥) → Agrees rec (refused_reading j rec.inbound.consumer) (kept_by_of rec (refused_by j ls))
  unfolding kept_by_of refused_by says_in
  refused_agrees j z =
      record {
        says = simp (ne_eqb j 0 z);
        answers = refl;
        message = refl;
        after = simp (ne_eqb j 0 z);
        copied = refl;
        from_is = refl;
        silent = λ e. (refl, refl);
      }

  refused_same : (j : ℕ) → turned_by ls (refused_of j rec) ≡ kept_by_of rec (refused_by j ls)
  unfolding turned_by refused_of kept_by_of refused_by
  refused_same j = refl

  torn_agrees : Agrees rec (torn_reading rec.inbound.consumer) (turned_by ls (torn_of rec))
  unfolding turned_by torn_of outcome_of says_in told_of told_in used_in record_left inbound_left outbound_left marks_to moved_of
  torn_agrees =
      record {
        says = refl;
        answers = refl;
        message = ap (λ (w : Marks). encode_of (message_of (marks_to rec w))) (sym (marks_aborted rec.marks));
        after = ap (λ (w : Marks). told_of (marks_to rec w)) (sym (marks_aborted rec.marks));
        copied = refl;
        from_is = refl;
        silent = λ e. absurd (e refl);
      }

  -- k bytes taken, C moved to c, the place cleared or not
  module _ (k : ℕ) (c : Cursor) (reached : Bool) where
    abbrev moved : Record
    moved = inbound_to rec (c_to rec.inbound c)

    next : Record
    next = inbound_to rec (urgent_in_to (c_to rec.inbound c) (cond reached no_place rec.inbound.urgent))

    took_by : (tells : Bool) → Agrees rec (took_by_of rec.inbound k c reached tells) (turned_by ls (outcome_of (Read k) tells next))
    unfolding next turned_by outcome_of says_in told_of told_in used_in record_left inbound_left outbound_left marks_to moved_of message_of
    took_by true =
        record {
          says = refl;
          answers = refl;
          message = ap (λ (w : Marks). encode_of (message_of (marks_to moved w))) (sym (marks_kept rec.marks));
          after = ap (λ (w : Marks). marks_to (told_of next) w) (sym (marks_kept rec.marks));
          copied = refl;
          from_is = refl;
          silent = λ e. absurd (e refl);
        }
    took_by false =
        record {
          says = refl;
          answers = refl;
          message = refl;
          after = ap (λ (w : Marks). marks_to next w) (sym (marks_kept rec.marks));
          copied = refl;
          from_is = refl;
          silent = λ e. absurd (e refl);
        }

  module _ (n : ℕ) where
    abbrev took_at : ℕ → Reading
    took_at k =
        let i = rec.inbound in
        let c = step_of n i.consumer k in
        let reached = reached_b n c i.producer i.urgent in
        took_by_of i k c reached (due_in n i c k reached)

    took_at_lem : (k : ℕ)
        → Agrees rec (took_at k) (turned_by ls (outcome_of (Read k) (update_of n (consumed_in n rec.inbound k) k) (consumed_of n rec k)))
    unfolding next update_of consumed_in consumed_of cleared_in passed_by due_in
    took_at_lem k =
        let i = rec.inbound in
        let c = step_of n i.consumer k in
        let reached = reached_b n c i.producer i.urgent in
        took_by k c reached (due_in n i c k reached)

    took_is : (room : ℕ) → took_of n rec.inbound room ≡ took_at (taken_of (unread_in n rec.inbound) room)
    unfolding took_of
    took_is room = refl

    took_agrees : (room : ℕ) → coherent_b n rec ≡ true → Agrees rec (took_of n rec.inbound room) (turned_by ls (take_of n rec room))
    took_agrees room h =
        move (took_is room ∙ ap (λ (u : ℕ). took_at (taken_of u room)) (unread_same n rec h)) (ap (turned_by ls) (take_is n rec room))
        (took_at_lem (taken_of (unread_of n rec.inbound) room))

-- what the rules' read gives, by its tests
module _ (n : ℕ) (active : Bool) (rec : Record) (intact : Bool) (room : ℕ) where
  refused_is : (j : ℕ) → (j ≡ 0 → ⊥) → refusal_of n active rec (read_forbids rec.marks) ≡ j
      → read_of n active rec intact room ≡ refused_of j rec
  unfolding read_of
  refused_is j z e = simp (e, ne_eqb j 0 z)

  torn_is : refusal_of n active rec (read_forbids rec.marks) ≡ 0 → intact ≡ false → read_of n active rec intact room ≡ torn_of rec
  unfolding read_of
  torn_is e w = simp (eq-eqb (refusal_of n active rec (read_forbids rec.marks)) 0 e, w)

  whole_is : refusal_of n active rec (read_forbids rec.marks) ≡ 0 → intact ≡ true → read_of n active rec intact room ≡ take_of n rec room
  unfolding read_of
  whole_is e w = simp (eq-eqb (refusal_of n active rec (read_forbids rec.marks)) 0 e, w)

module _ (s n len count k : ℕ) (active : List Bool) (rec : Record) (intact : Bool) (room : ℕ) (ls : Links) where
  abbrev up : Bool
  up = active_b active rec.id.link

  -- what 1, 2, 3 and 6 say, and what the rules' read gives
  abbrev before : ℕ
  before = cond (sizes_b s n len count) (held_of s n active k rec) 1

  abbrev large : Turned
  large = settled_by (found_of_all s n len count k rec) ls rec (read_of n up rec intact room)

  abbrev Both : Type 0
  Both =
      ((before ≡ 0 → ⊥) → Agrees rec (refused_reading before rec.inbound.consumer) large)
      × (before ≡ 0 → Agrees rec (reading_of n intact rec room) large)

  refused_both : (j : ℕ) → (j ≡ 0 → ⊥) → before ≡ j → large ≡ kept_by_of rec (refused_by j ls) → Both
  refused_both j z e f = (
    λ _. move (ap (λ (x : ℕ). refused_reading x rec.inbound.consumer) e) f (refused_agrees ls rec j z),
    λ y. absurd (z (sym e ∙ y)),
  )

  accepted_both : before ≡ 0 → Agrees rec (reading_of n intact rec room) large → Both
  accepted_both e a = (λ z. absurd (z e), λ _. a)

  kept-is : (j : ℕ) (o : Outcome) → (j ≡ 0 → ⊥) → settled_by j ls rec o ≡ kept_by_of rec (refused_by j ls)
  unfolding settled_by
  kept-is j o z = simp (ne_eqb j 0 z)

  -- 1 and 2
  found_both : (j : ℕ) → (j ≡ 0 → ⊥) → before ≡ j → found_of_all s n len count k rec ≡ j → Both
  found_both j z e f =
      refused_both j z e
      (ap (λ (x : ℕ). settled_by x ls rec (read_of n up rec intact room)) f ∙ kept-is j (read_of n up rec intact room) z)

  unsized : sizes_b s n len count ≡ false → Both
  unfolding found_of_all
  unsized y = found_both 1 (λ e. absurd (omega (arith, e))) (simp y) (simp y)

  closed : sizes_b s n len count ≡ true → slot_b s k && rec.id.opened ≡ false → Both
  unfolding found_of_all held_of
  closed y w = found_both 2 (λ e. absurd (omega (arith, e))) (simp (y, w)) (simp (y, w))

  -- the step of the record
  module _ (y : sizes_b s n len count ≡ true) (w : slot_b s k && rec.id.opened ≡ true) where
    held_is : before ≡ refusal_of n up rec false
    unfolding held_of
    held_is = simp (y, w)

    turned_is : (o : Outcome) → settled_by (found_of_all s n len count k rec) ls rec o ≡ turned_by ls o
    unfolding settled_by found_of_all
    turned_is o = simp (y, w)

    abbrev whole : ℕ
    whole = refusal_of n up rec (read_forbids rec.marks)

    large_is : (o : Outcome) → read_of n up rec intact room ≡ o → large ≡ turned_by ls o
    large_is o e = turned_is (read_of n up rec intact room) ∙ ap (turned_by ls) e

    large_refused : (j : ℕ) → (j ≡ 0 → ⊥) → whole ≡ j → large ≡ kept_by_of rec (refused_by j ls)
    large_refused j z f = large_is (refused_of j rec) (refused_is n up rec intact room j z f) ∙ refused_same ls rec j

    -- 3 and 6
    step_both : (j : ℕ) → (j ≡ 0 → ⊥) → refusal_of n up rec false ≡ j → whole ≡ j → Both
    step_both j z e f = refused_both j z (held_is ∙ e) (large_refused j z f)

    by_marks : coherent_b n rec ≡ true → up ≡ true → (f : Bool) → read_forbids rec.marks ≡ f → (i : Bool) → intact ≡ i → Both
    by_marks g a true f i v =
        accepted_both (held_is ∙ refusal_0 n up rec false g a refl)
        (move (sym (read_forbidden n intact rec room (refused_reading 7 rec.inbound.consumer) f refl))
        (large_refused 7 (λ e. absurd (omega (arith, e))) (refusal_7 n up rec (read_forbids rec.marks) g a f))
        (refused_agrees ls rec 7 (λ e. absurd (omega (arith, e)))))
    by_marks g a false f true v =
        accepted_both (held_is ∙ refusal_0 n up rec false g a refl)
        (move (sym (read_took n intact rec room (took_of n rec.inbound room) f v refl))
        (large_is (take_of n rec room) (whole_is n up rec intact room (refusal_0 n up rec (read_forbids rec.marks) g a f) v))
        (took_agrees ls rec n room g))
    by_marks g a false f false v =
        accepted_both (held_is ∙ refusal_0 n up rec false g a refl)
        (move (sym (read_torn n intact rec room (torn_reading rec.inbound.consumer) f v refl))
        (large_is (torn_of rec) (torn_is n up rec intact room (refusal_0 n up rec (read_forbids rec.marks) g a f) v))
        (torn_agrees ls rec))

    by_link_lem : coherent_b n rec ≡ true → (a : Bool) → up ≡ a → Both
    by_link_lem g true a = by_marks g a (read_forbids rec.marks) refl intact refl
    by_link_lem g false a =
        step_both 6 (λ e. absurd (omega (arith, e))) (refusal_6 n up rec false g a) (refusal_6 n up rec (read_forbids rec.marks) g a)

    by_record : (g : Bool) → coherent_b n rec ≡ g → Both
    by_record true g = by_link_lem g up refl
    by_record false g =
        step_both 3 (λ e. absurd (omega (arith, e))) (refusal_3 n up rec false g) (refusal_3 n up rec (read_forbids rec.marks) g)

  by_slot : sizes_b s n len count ≡ true → (w : Bool) → slot_b s k && rec.id.opened ≡ w → Both
  by_slot y true w = by_record y w (coherent_b n rec) refl
  by_slot y false w = closed y w

  by_sizes : (y : Bool) → sizes_b s n len count ≡ y → Both
  by_sizes true y = by_slot y (slot_b s k && rec.id.opened) refl
  by_sizes false y = unsized y

  both : Both
  both = by_sizes (sizes_b s n len count) refl

  pub refused_agree : (before ≡ 0 → ⊥) → Agrees rec (refused_reading before rec.inbound.consumer) large
  refused_agree = both.0

  pub agree : before ≡ 0 → Agrees rec (reading_of n intact rec room) large
  agree = both.1

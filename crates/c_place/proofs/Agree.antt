-- The number that a place answers says what the rules' place says. Assumes nothing.
use mathlib.Core.Path.{◌≡◌, refl, sym, ap, ◌∙◌}
use mathlib.Core.Bool.{Bool, true, false, ◌&&◌, cond}
use mathlib.Core.List.{List}
use Prim.Native.Nat.{ℕ}
use native.Mathlib.Omega.{arith}
use lib.Dec.{eqb}
use borrow.Author.Tests.{eq-eqb, ne_eqb}
use Rattle.conn_record.specs.declared.Record.{Record}
use Rattle.conn_answer.specs.declared.Reply.{Reply}
use Rattle.conn_answer.specs.declared.Reply.TheVariants.{Refused, Accepted}
use Rattle.conn_answer.specs.declared.Outcome.{Outcome}
use Rattle.conn_record.specs.Connection.{coherent_b, refusal_of}
use Rattle.conn_answer.specs.Outcome.{no_message, outcome_of, refused_of}
use Rattle.conn_record.proofs.Laws.{refusal_3, refusal_6, refusal_7, refusal_0}
use Rattle.conn_receive.specs.Receive.{place_forbids, may_place, place_of}
use Rattle.group_table.specs.declared.Links.{Links}
use Rattle.group_table.specs.declared.Answered.{Answered}
use Rattle.group_table.specs.declared.Turned.{Turned}
use Rattle.group_table.specs.Table.{sizes_b, slot_b, active_b, found_of_all, refused_by, kept_by_of, turned_by, settled_by}
use Rattle.plan.specs.Direct.{held_of}
use Rattle.c_place.specs.Placing.{placing_of}
use Rattle.c_place.proofs.Steps.{placing_before, placing_forbidden, placing_may, placing_not}

-- the table's answer that the number stands for
unfoldable pub reply_by : ℕ → Reply
reply_by r = cond (eqb r 0) Accepted (Refused r)

abbrev pub answered_by : ℕ → Links → Answered
answered_by r ls = record { reply = reply_by r; made = false; message = no_message; links = ls }

module _ (ls : Links) (rec : Record) where
  refused_same : (j r : ℕ) → (j ≡ 0 → ⊥) → j ≡ r → kept_by_of rec (refused_by j ls) ≡ kept_by_of rec (answered_by r ls)
  unfolding refused_by reply_by
  refused_same j r z e =
      let same : Refused j ≡ reply_by j = simp (ne_eqb j 0 z) in
      ap (λ (x : Reply). kept_by_of rec (record { reply = x; made = false; message = no_message; links = ls })) (same ∙ ap reply_by e)

  kept-is : (j : ℕ) (o : Outcome) → (j ≡ 0 → ⊥) → settled_by j ls rec o ≡ kept_by_of rec (refused_by j ls)
  unfolding settled_by
  kept-is j o z = simp (ne_eqb j 0 z)

  turned_refused : (j : ℕ) → turned_by ls (refused_of j rec) ≡ kept_by_of rec (refused_by j ls)
  unfolding turned_by refused_of kept_by_of refused_by
  turned_refused j = refl

  accepted_same : (r : ℕ) → 0 ≡ r → turned_by ls (outcome_of Accepted false rec) ≡ kept_by_of rec (answered_by r ls)
  unfolding turned_by outcome_of kept_by_of reply_by
  accepted_same r e = ap (λ (x : ℕ). kept_by_of rec (answered_by x ls)) e

-- what the rules' place gives, by its tests
module _ (n : ℕ) (active : Bool) (rec : Record) (at len : ℕ) where
  refused_is : (j : ℕ) → (j ≡ 0 → ⊥) → refusal_of n active rec (place_forbids rec.marks) ≡ j
      → place_of n active rec at len ≡ refused_of j rec
  unfolding place_of
  refused_is j z e = simp (e, ne_eqb j 0 z)

  accepted_is : refusal_of n active rec (place_forbids rec.marks) ≡ 0 → may_place n rec.inbound at len ≡ true
      → place_of n active rec at len ≡ outcome_of Accepted false rec
  unfolding place_of
  accepted_is e w = simp (eq-eqb (refusal_of n active rec (place_forbids rec.marks)) 0 e, w)

  not_is : refusal_of n active rec (place_forbids rec.marks) ≡ 0 → may_place n rec.inbound at len ≡ false
      → place_of n active rec at len ≡ refused_of 9 rec
  unfolding place_of
  not_is e w = simp (eq-eqb (refusal_of n active rec (place_forbids rec.marks)) 0 e, w)

module _ (s n len count k : ℕ) (active : List Bool) (rec : Record) (at many : ℕ) (ls : Links) where
  abbrev up : Bool
  up = active_b active rec.id.link

  abbrev before : ℕ
  before = cond (sizes_b s n len count) (held_of s n active k rec) 1

  abbrev small : ℕ
  small = placing_of n rec before at many

  abbrev large : Turned
  large = settled_by (found_of_all s n len count k rec) ls rec (place_of n up rec at many)

  abbrev Both : Type 0
  Both = large ≡ kept_by_of rec (answered_by small ls)

  small_is : (j : ℕ) → (j ≡ 0 → ⊥) → before ≡ j → j ≡ small
  small_is j z e = placing_before n rec j at many z ∙ ap (λ (x : ℕ). placing_of n rec x at many) (sym e)

  -- 1 and 2
  found_both : (j : ℕ) → (j ≡ 0 → ⊥) → before ≡ j → found_of_all s n len count k rec ≡ j → Both
  found_both j z e f =
      ap (λ (x : ℕ). settled_by x ls rec (place_of n up rec at many)) f
      ∙ kept-is ls rec j (place_of n up rec at many) z
      ∙ refused_same ls rec j small z (small_is j z e)

  unsized : sizes_b s n len count ≡ false → Both
  unfolding found_of_all
  unsized y = found_both 1 (λ e. absurd (omega (arith, e))) (simp y) (simp y)

  closed : sizes_b s n len count ≡ true → slot_b s k && rec.id.opened ≡ false → Both
  unfolding found_of_all held_of
  closed y w = found_both 2 (λ e. absurd (omega (arith, e))) (simp (y, w)) (simp (y, w))

  -- the step of the record
  module _ (y : sizes_b s n len count ≡ true) (w : slot_b s k && rec.id.opened ≡ true) where
    held_is : before ≡ refusal_of n up rec false
    unfolding held_of
    held_is = simp (y, w)

    turned_is : (o : Outcome) → settled_by (found_of_all s n len count k rec) ls rec o ≡ turned_by ls o
    unfolding settled_by found_of_all
    turned_is o = simp (y, w)

    large_is : (o : Outcome) → place_of n up rec at many ≡ o → large ≡ turned_by ls o
    large_is o e = turned_is (place_of n up rec at many) ∙ ap (turned_by ls) e

    refused_both : (j : ℕ) → (j ≡ 0 → ⊥) → place_of n up rec at many ≡ refused_of j rec → j ≡ small → Both
    refused_both j z e f = large_is (refused_of j rec) e ∙ turned_refused ls rec j ∙ refused_same ls rec j small z f

    -- 3 and 6
    step_both : (j : ℕ) → (j ≡ 0 → ⊥) → refusal_of n up rec false ≡ j → refusal_of n up rec (place_forbids rec.marks) ≡ j → Both
    step_both j z e f = refused_both j z (refused_is n up rec at many j z f) (small_is j z (held_is ∙ e))

    -- 7 and 9
    by_marks : coherent_b n rec ≡ true → up ≡ true → (f : Bool) → place_forbids rec.marks ≡ f
        → (i : Bool) → may_place n rec.inbound at many ≡ i → Both
    by_marks g a true f i v =
        let z : before ≡ 0 = held_is ∙ refusal_0 n up rec false g a refl in
        refused_both 7 (λ e. absurd (omega (arith, e)))
        (refused_is n up rec at many 7 (λ e. absurd (omega (arith, e))) (refusal_7 n up rec (place_forbids rec.marks) g a f))
        (placing_forbidden n rec before at many z f)
    by_marks g a false f true v =
        let z : before ≡ 0 = held_is ∙ refusal_0 n up rec false g a refl in
        large_is (outcome_of Accepted false rec) (accepted_is n up rec at many (refusal_0 n up rec (place_forbids rec.marks) g a f) v)
        ∙ accepted_same ls rec small (placing_may n rec before at many z f v)
    by_marks g a false f false v =
        let z : before ≡ 0 = held_is ∙ refusal_0 n up rec false g a refl in
        refused_both 9 (λ e. absurd (omega (arith, e)))
        (not_is n up rec at many (refusal_0 n up rec (place_forbids rec.marks) g a f) v)
        (placing_not n rec before at many z f v)

    by_link_lem : coherent_b n rec ≡ true → (a : Bool) → up ≡ a → Both
    by_link_lem g true a = by_marks g a (place_forbids rec.marks) refl (may_place n rec.inbound at many) refl
    by_link_lem g false a =
        step_both 6 (λ e. absurd (omega (arith, e))) (refusal_6 n up rec false g a) (refusal_6 n up rec (place_forbids rec.marks) g a)

    by_record : (g : Bool) → coherent_b n rec ≡ g → Both
    by_record true g = by_link_lem g up refl
    by_record false g =
        step_both 3 (λ e. absurd (omega (arith, e))) (refusal_3 n up rec false g) (refusal_3 n up rec (place_forbids rec.marks) g)

  by_slot : sizes_b s n len count ≡ true → (w : Bool) → slot_b s k && rec.id.opened ≡ w → Both
  by_slot y true w = by_record y w (coherent_b n rec) refl
  by_slot y false w = closed y w

  by_sizes : (y : Bool) → sizes_b s n len count ≡ y → Both
  by_sizes true y = by_slot y (slot_b s k && rec.id.opened) refl
  by_sizes false y = unsized y

  pub agree : Both
  agree = by_sizes (sizes_b s n len count) refl

-- What refuses first, and then the step: one law for every call on a slot. Assumes nothing.
use mathlib.Core.Path.{◌≡◌, refl}
use mathlib.Core.Bool.{Bool, true, false, ◌&&◌, cond}
use mathlib.Core.List.{List}
use Prim.Native.Nat.{ℕ}
use lib.Dec.{eqb}
use Rattle.conn_record.specs.declared.Record.{Record}
use Rattle.conn_record.specs.Connection.{refusal_of}
use Rattle.conn_answer.specs.declared.Outcome.{Outcome}
use Rattle.conn_answer.specs.Outcome.{refused_of}
use Rattle.group_table.specs.declared.Links.{Links}
use Rattle.group_table.specs.Table.{sizes_b, slot_b, active_b, found_of_all, refused_by, kept_by_of, turned_by, settled_by}
use Rattle.plan.specs.Direct.{held_of}
use Rattle.plan.specs.Step.{Step, settle_by, step_by}

module _ (s n len count k : ℕ) (active : List Bool) (rec : Record) (ls : Links) (o : Outcome) where
  abbrev no : ℕ
  no = refusal_of n (active_b active rec.id.link) rec false

  abbrev before : ℕ
  before = cond (sizes_b s n len count) (held_of s n active k rec) 1

  abbrev Same : Type 0
  Same =
      settled_by (found_of_all s n len count k rec) ls rec (cond (eqb no 0) o (refused_of no rec))
      ≡ cond (eqb before 0) (turned_by ls o) (kept_by_of rec (refused_by before ls))

  refused_same : (j : ℕ) → turned_by ls (refused_of j rec) ≡ kept_by_of rec (refused_by j ls)
  unfolding turned_by refused_of kept_by_of refused_by
  refused_same j = refl

  step : (z : Bool) (j : ℕ) → turned_by ls (cond z o (refused_of j rec)) ≡ cond z (turned_by ls o) (kept_by_of rec (refused_by j ls))
  step true j = refl
  step false j = refused_same j

  by_slot : sizes_b s n len count ≡ true → (w : Bool) → slot_b s k && rec.id.opened ≡ w → Same
  unfolding settled_by found_of_all held_of
  by_slot y true w = simp (y, w) (step (eqb no 0) no)
  by_slot y false w = simp (y, w)

  by_sizes : (y : Bool) → sizes_b s n len count ≡ y → Same
  unfolding settled_by found_of_all
  by_sizes true y = by_slot y (slot_b s k && rec.id.opened) refl
  by_sizes false y = simp y

  pub held_then : Same
  held_then = by_sizes (sizes_b s n len count) refl

-- and then the step
pub step_held : (s n len count k : ℕ) (active : List Bool) (rec : Record) (ls : Links) (t : Step)
    → let before = cond (sizes_b s n len count) (held_of s n active k rec) 1 in
    settled_by (found_of_all s n len count k rec) ls rec (step_by n (active_b active rec.id.link) rec t)
    ≡ cond (eqb before 0) (turned_by ls (settle_by rec t)) (kept_by_of rec (refused_by before ls))
unfolding step_by
step_held s n len count k active rec ls t = held_then s n len count k active rec ls (settle_by rec t)

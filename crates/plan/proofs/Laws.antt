-- The links' states, refusals 1, 2, 3 and 6, and the abort mark: what each definition gives. Assumes nothing.
use Prim.Native.Nat.{ℕ, zero, suc}
use mathlib.Core.Path.{◌≡◌, refl, sym, ap, ◌∙◌}
use mathlib.Core.Bool.{Bool, true, false, ◌&&◌, ◌||◌, cond}
use mathlib.Core.List.{List}
use native.Mathlib.Omega.{arith}
use lib.Dec.{eqb}
use Rattle.std.specs.Prelude.{Option, None, Some}
use lib.ListN.{length, get_or}
use mir.Val.{Val}
use denote.Laws.{Is}
use Rattle.closing.specs.declared.Marks.{Marks}
use Rattle.closing.specs.Closing.{abort_sent}
use Rattle.conn_record.specs.declared.Record.{Record}
use Rattle.conn_answer.specs.declared.Outcome.{Outcome}
use Rattle.conn_record.specs.Connection.{refusal_of, zero_record}
use Rattle.group_table.specs.declared.Links.{Links}
use Rattle.group_table.specs.Table.{sizes_b, slot_b, index_of, record_at, active_b, refused_by, kept_by_of, turned_by, settled_by}
use Rattle.plan.specs.declared.LinkStates.{LinkStates}
use Rattle.plan.specs.Direct.{held_of, refusal_at, refusal_in, marks_left}
use Rattle.plan.specs.contracts.LinkStates.{the_row}

-- four links, which a value of the type has
pub states_length : (l : LinkStates) (vs : List Val) (is : Is the_row l vs) → length l.active ≡ 4
states_length l vs is = is.1.1.0.1.0.1

-- a slot outside the table is closed
shut : (b : Bool) (x : ℕ) → cond (b && false) x 2 ≡ 2
shut true x = refl
shut false x = refl

module _ (s n : ℕ) (active : List Bool) (k : ℕ) where
  pub held_shut : held_of s n active k zero_record ≡ 2
  unfolding held_of zero_record
  held_shut = shut (slot_b s k) (refusal_of n (active_b active zero_record.id.link) zero_record false)

-- the tests of a record, as `held` makes them
module _ (s n : ℕ) (active : List Bool) (k : ℕ) (c : Record) {b : Bool} (e : b ≡ slot_b s k) where
  pub held_is : b && c.id.opened ≡ true → {a : Bool} → a ≡ active_b active c.id.link → {j : ℕ} → j ≡ refusal_of n a c false
      → j ≡ held_of s n active k c
  unfolding held_of
  held_is h f g = simp (← e, h, g, f)

  pub held_none : b && c.id.opened ≡ false → 2 ≡ held_of s n active k c
  unfolding held_of
  held_none h = simp (← e, h)

-- a refusal's number, or none
pub refusal_some : (j : ℕ) → (j ≡ 0 → ⊥) → Some j ≡ refusal_in j
refusal_some zero z = absurd (z refl)
refusal_some (suc j) z = refl

pub was_none : (j : ℕ) → refusal_in j ≡ None → j ≡ 0
was_none zero e = refl
was_none (suc j) e = cc

pub was_some : (j x : ℕ) → refusal_in j ≡ Some x → (x ≡ j) × (j ≡ 0 → ⊥)
was_some zero x e = cc
was_some (suc j) x e = (cc, λ z. absurd (omega (arith, z)))

-- 1 before them
module _ (s n len : ℕ) (t : List Record) (active : List Bool) (k : ℕ) {b : Bool} (e : b ≡ sizes_b s n len (length t)) where
  pub sized : b ≡ true → held_of s n active k (record_at t k) ≡ refusal_at s n len t active k
  unfolding refusal_at
  sized h = simp (← e, h)

  pub unsized : b ≡ false → 1 ≡ refusal_at s n len t active k
  unfolding refusal_at
  unsized h = simp (← e, h)

-- no call on a record changes the links
pub links_stay : (j : ℕ) (ls : Links) (c : Record) (o : Outcome) → (settled_by j ls c o).answer.links ≡ ls
unfolding settled_by turned_by kept_by_of refused_by
links_stay j ls c o = by_test (eqb j 0)
  where
    by_test : (b : Bool) → (cond b (turned_by ls o) (kept_by_of c (refused_by j ls))).answer.links ≡ ls
    by_test true = refl
    by_test false = refl

-- the marks after a call that sends A, and after one that does not
or-false : (b : Bool) → b || false ≡ b
or-false true = refl
or-false false = refl

or-true : (b : Bool) → b || true ≡ true
or-true true = refl
or-true false = refl

pub marks_kept : (m : Marks) → marks_left m false ≡ m
unfolding marks_left
marks_kept m = λ i. record { sent = m.sent; heard = m.heard; first = m.first; abort = or-false m.abort i }

pub marks_aborted : (m : Marks) → marks_left m true ≡ abort_sent m
unfolding marks_left abort_sent
marks_aborted m = λ i. record { sent = m.sent; heard = m.heard; first = m.first; abort = or-true m.abort i }

-- `group_desk::open_refusal` meets its contract. Assumes nothing.
use borrow.Author.Tests.{lt-ltb, le-ltb}
use Rattle.group_rules.specs.Promises.{open_number}
use Rattle.group_desk.proofs.open_refusal.Goals as goal

pub returns-then-not-sizes_ok : goal.returns-then-not-sizes_ok
unfolding open_number
returns-then-not-sizes_ok c = simp (← c.sizes_ok.ensures, c.if-not-sizes_ok.true)

pub returns-then-not-slot_ok : goal.returns-then-not-slot_ok
unfolding open_number
returns-then-not-slot_ok c = simp (← c.sizes_ok.ensures, c.if-not-sizes_ok.false, ← c.slot_ok.ensures, c.if-not-slot_ok.true)

pub returns-then-view : goal.returns-then-view
unfolding open_number
returns-then-view c = simp (← c.sizes_ok.ensures, c.if-not-sizes_ok.false, ← c.slot_ok.ensures, c.if-not-slot_ok.false, c.if-view.true)

pub returns-then-bad_opening : goal.returns-then-bad_opening
unfolding open_number
returns-then-bad_opening c = simp (← c.sizes_ok.ensures, c.if-not-sizes_ok.false, ← c.slot_ok.ensures, c.if-not-slot_ok.false, c.if-view.false, ← c.bad_opening.ensures, c.if-bad_opening.true)

pub returns-then-not-link_ok : goal.returns-then-not-link_ok
unfolding open_number
returns-then-not-link_ok c = simp (← c.sizes_ok.ensures, c.if-not-sizes_ok.false, ← c.slot_ok.ensures, c.if-not-slot_ok.false, c.if-view.false, ← c.bad_opening.ensures, c.if-bad_opening.false, ← c.link_ok.ensures, c.if-not-link_ok.true)

pub returns-then-not-link_active : goal.returns-then-not-link_active
unfolding open_number
returns-then-not-link_active c = simp (← c.sizes_ok.ensures, c.if-not-sizes_ok.false, ← c.slot_ok.ensures, c.if-not-slot_ok.false, c.if-view.false, ← c.bad_opening.ensures, c.if-bad_opening.false, ← c.link_ok.ensures, c.if-not-link_ok.false, ← c.link_active.ensures, c.if-not-link_active.true)

pub returns-then-holder-gt0 : goal.returns-then-holder-gt0
unfolding open_number
returns-then-holder-gt0 c = simp (← c.sizes_ok.ensures, c.if-not-sizes_ok.false, ← c.slot_ok.ensures, c.if-not-slot_ok.false, c.if-view.false, ← c.bad_opening.ensures, c.if-bad_opening.false, ← c.link_ok.ensures, c.if-not-link_ok.false, ← c.link_active.ensures, c.if-not-link_active.false, lt-ltb _ _ c.if-holder-gt0.true)

pub returns-else-holder-gt0 : goal.returns-else-holder-gt0
unfolding open_number
returns-else-holder-gt0 c = simp (← c.sizes_ok.ensures, c.if-not-sizes_ok.false, ← c.slot_ok.ensures, c.if-not-slot_ok.false, c.if-view.false, ← c.bad_opening.ensures, c.if-bad_opening.false, ← c.link_ok.ensures, c.if-not-link_ok.false, ← c.link_active.ensures, c.if-not-link_active.false, le-ltb _ _ c.if-holder-gt0.false)

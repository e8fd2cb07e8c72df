-- `group_desk::free_refusal` meets its contract. Assumes nothing.
use Rattle.group_rules.specs.Promises.{free_number}
use Rattle.group_desk.proofs.free_refusal.Goals as goal

pub returns-then-not-sizes_ok : goal.returns-then-not-sizes_ok
unfolding free_number
returns-then-not-sizes_ok c = simp (← c.sizes_ok.ensures, c.if-not-sizes_ok.true)

pub returns-then-not-slot_ok-view : goal.returns-then-not-slot_ok-view
unfolding free_number
returns-then-not-slot_ok-view c = simp (← c.sizes_ok.ensures, c.if-not-sizes_ok.false, ← c.slot_ok.ensures, c.if-not-slot_ok-view.true)

pub returns-then-not-coherent : goal.returns-then-not-coherent
unfolding free_number
returns-then-not-coherent c = simp (← c.sizes_ok.ensures, c.if-not-sizes_ok.false, ← c.slot_ok.ensures, c.if-not-slot_ok-view.false, ← c.coherent.ensures, c.if-not-coherent.true)

pub returns-then-not-view : goal.returns-then-not-view
unfolding free_number
returns-then-not-view c = simp (← c.sizes_ok.ensures, c.if-not-sizes_ok.false, ← c.slot_ok.ensures, c.if-not-slot_ok-view.false, ← c.coherent.ensures, c.if-not-coherent.false, c.if-not-view.true)

pub returns-else-not-view : goal.returns-else-not-view
unfolding free_number
returns-else-not-view c = simp (← c.sizes_ok.ensures, c.if-not-sizes_ok.false, ← c.slot_ok.ensures, c.if-not-slot_ok-view.false, ← c.coherent.ensures, c.if-not-coherent.false, c.if-not-view.false)

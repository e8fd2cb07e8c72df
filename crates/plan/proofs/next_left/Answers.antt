-- `plan::next_left` meets its contract. Assumes nothing.
use Rattle.plan.proofs.next_left.Goals as goal

pub returns-then-made : goal.returns-then-made
returns-then-made c = simp c.if-made.true

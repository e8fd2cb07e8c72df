-- `plan::place_left` meets its contract. Assumes nothing.
use Rattle.plan.proofs.place_left.Goals as goal

pub returns-then-passed : goal.returns-then-passed
returns-then-passed c = simp c.if-passed.true

-- `plan_send::place_left` meets its contract. Assumes nothing.
use Rattle.plan_send.specs.Transmitted.{place_left}
use Rattle.plan_send.proofs.place_left.Goals as goal

pub returns-then-t-urgent : goal.returns-then-t-urgent
unfolding place_left
returns-then-t-urgent c = simp c.if-t-urgent.true

pub returns : goal.returns
unfolding place_left
returns c = simp c.if-t-urgent.false

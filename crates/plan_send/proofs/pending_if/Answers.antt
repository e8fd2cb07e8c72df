-- `plan_send::pending_if` meets its contract. Assumes nothing.
use Rattle.plan_send.specs.Transmitted.{pending_if}
use Rattle.plan_send.proofs.pending_if.Goals as goal

pub returns-then-urgent : goal.returns-then-urgent
unfolding pending_if
returns-then-urgent c = simp (c.if-urgent.true, c.pending.ensures)

pub returns : goal.returns
unfolding pending_if
returns c = simp c.if-urgent.false

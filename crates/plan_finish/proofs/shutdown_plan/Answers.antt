-- `plan_finish::shutdown_plan` meets its contract. Assumes nothing.
use Rattle.plan_finish.specs.Finishing.{shutdown_plan}
use Rattle.conn_finish.specs.Finish.{shutdown_forbids}
use Rattle.plan_finish.proofs.shutdown_plan.Goals as goal

pub returns-then-m : goal.returns-then-m
unfolding shutdown_plan shutdown_forbids
returns-then-m c = simp (c.if-m.true, c.stays.ensures)

pub returns : goal.returns
unfolding shutdown_plan shutdown_forbids
returns c = let d = c in simp (d.if-m.false, ← d.done_sent.ensures, c.marks.ensures)

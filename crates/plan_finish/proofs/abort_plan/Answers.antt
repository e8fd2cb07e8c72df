-- `plan_finish::abort_plan` meets its contract. Assumes nothing.
use Rattle.plan_finish.specs.Finishing.{abort_plan}
use Rattle.plan_finish.proofs.abort_plan.Goals as goal

pub returns-then-m : goal.returns-then-m
unfolding abort_plan
returns-then-m c = simp (c.if-m.true, c.stays.ensures)

pub returns : goal.returns
unfolding abort_plan
returns c = let d = c in simp (d.if-m.false, ← d.abort_sent.ensures, c.marks.ensures)

-- `plan_finish::plan` meets its contract. Assumes nothing.
use Rattle.plan_finish.proofs.plan.Goals as goal

pub returns-in-Shutdown : goal.returns-in-Shutdown
returns-in-Shutdown c = simp (c.in-Shutdown.is, c.shutdown_plan.ensures)

pub returns-in-Close : goal.returns-in-Close
returns-in-Close c = simp (c.in-Close.is, c.close_plan.ensures)

pub returns-in-Abort : goal.returns-in-Abort
returns-in-Abort c = simp (c.in-Abort.is, c.abort_plan.ensures)

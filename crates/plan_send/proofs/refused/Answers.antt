-- `plan_send::refused` meets its contract. Assumes nothing.
use Rattle.plan_send.proofs.refused.Goals as goal

pub returns : goal.returns
returns c = simp (c.no_placing.ensures, c.no_placing-2.ensures)

-- `plan_send::nothing` meets its contract. Assumes nothing.
use Rattle.plan_send.proofs.nothing.Goals as goal

pub returns : goal.returns
returns c = simp c.refused-said.ensures

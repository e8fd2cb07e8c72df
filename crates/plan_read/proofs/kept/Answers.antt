-- `plan_read::kept` meets its contract. Assumes nothing.
use Rattle.plan_read.proofs.Steps.{kept_parts}
use Rattle.plan_read.proofs.kept.Goals as goal

pub returns : goal.returns
returns c = kept_parts _ _ _ c.refused.ensures

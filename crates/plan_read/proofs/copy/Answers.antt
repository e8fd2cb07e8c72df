-- `plan_read::copy` meets its contract. Assumes nothing.
use Rattle.plan_read.proofs.Steps.{copied_parts}
use Rattle.plan_read.proofs.copy.Goals as goal

pub returns : goal.returns
returns c =
    let r = c in
    let b = r in
    copied_parts _ _ _ _ _ _ _ b.base_of-base.ensures r.read.ensures

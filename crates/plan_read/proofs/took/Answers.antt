-- `plan_read::took` meets its contract. Assumes nothing.
use Rattle.plan_read.proofs.Steps.{took_parts}
use Rattle.plan_read.proofs.took.Goals as goal

pub returns : goal.returns
returns c =
    let r = c in
    let s = r in
    took_parts _ _ _ _ _ _ _ s.taken-k.ensures s.step-moved.ensures r.reached-reached.ensures c.due-tells.ensures

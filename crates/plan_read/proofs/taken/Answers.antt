-- `plan_read::taken` meets its contract. Assumes nothing.
use Rattle.plan_read.proofs.Steps.{taken_parts}
use Rattle.plan_read.proofs.taken.Goals as goal

pub returns : goal.returns
returns c =
    let w = c in
    taken_parts _ _ _ _ _ _ w.data_size-d.ensures w.window-free.ensures.0 c.taken.ensures.0

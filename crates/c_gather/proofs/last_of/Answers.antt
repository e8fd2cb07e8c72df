-- `c_gather::last_of` meets its contract. Assumes nothing.
use Rattle.c_gather.proofs.Laws.{last_refused, last_here}
use Rattle.c_gather.proofs.last_of.Goals as goal

pub returns-then-t-gt0 : goal.returns-then-t-gt0
returns-then-t-gt0 c = last_refused _ _ _ c.no_placing.ensures c.if-t-gt0.true

pub returns : goal.returns
returns c =
    let k = c in
    last_here _ _ _ _ k.if-t-gt0.false k.rtoken_of-token.ensures c.placing.ensures

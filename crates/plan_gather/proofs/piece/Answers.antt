-- `plan_gather::piece` meets its contract. Assumes nothing.
use Rattle.plan_gather.proofs.Laws.{piece_is}
use Rattle.plan_gather.proofs.piece.Goals as goal

pub returns : goal.returns
returns c =
    let w = c in
    piece_is _ _ _ _ _ _ w.min-at.ensures w.placing_with-p.ensures c.cut.ensures

-- `plan_gather::piece_or_none` meets its contract. Assumes nothing.
use Rattle.plan_gather.proofs.Laws.{some_piece, no_piece_lem}
use Rattle.plan_gather.proofs.piece_or_none.Goals as goal

pub returns-then-k-a : goal.returns-then-k-a
returns-then-k-a c = some_piece _ _ _ _ c.if-k-a.true c.piece.ensures

pub returns : goal.returns
returns c = no_piece_lem c.args.a c.args.head _ c.if-k-a.false

-- `plan_gather::in_pieces` meets its contract. Assumes nothing.
use Rattle.std.proofs.Common.{arith}
use Rattle.plan_gather.proofs.Laws.{pieces_is}
use Rattle.plan_gather.proofs.in_pieces.Goals as goal

pub returns : goal.returns
returns c =
    pieces_is _ _ _ _ _ _ c.piece_or_none-first.ensures c.piece_or_none-second.ensures
    (omega (arith, c.saturating_sub.ensures, c.saturating_sub-rest.ensures, c.saturating_sub-k.ensures)) c.piece_or_none-third.ensures

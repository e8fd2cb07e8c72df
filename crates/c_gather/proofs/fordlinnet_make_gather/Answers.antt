-- `c_gather::fordlinnet_make_gather` meets its contract. Assumes nothing.
use mathlib.Core.Path.{refl}
use Rattle.c_gather.proofs.Laws.{fordlinnet_make_gather_returns}
use Rattle.c_gather.proofs.fordlinnet_make_gather.Goals as goal

pub returns : goal.returns
returns c =
    fordlinnet_make_gather_returns _ _ _ _ c.args.links _ _ _ _ _ refl _ _ _ c.gathered-a.ensures _ c.in_pieces.ensures

-- `c_urgent::fordlinnet_make_urgent_send` meets its contract. Assumes nothing.
use Rattle.c_urgent.proofs.Laws.{fordlinnet_make_urgent_send_returns}
use Rattle.c_urgent.proofs.fordlinnet_make_urgent_send.Goals as goal

pub returns : goal.returns
returns c = λ ls ea. fordlinnet_make_urgent_send_returns _ _ _ _ _ _ _ (c.send.ensures ls ea)

-- `c_exports::fordlinnet_links_down` meets its contract. Assumes nothing.
use Rattle.c_exports.proofs.Laws.{down_is}
use Rattle.c_exports.proofs.fordlinnet_links_down.Goals as goal

pub returns : goal.returns
returns c = down_is _ _ _ _ c.cleared-unheard.ensures c.no_exchange-idle.ensures c.empty_queue-none.ensures

-- `text_replay::fresh_links` meets its contract. Assumes nothing.
use Rattle.text_replay.specs.ReplayCalls.{no_links}
use Rattle.text_replay.proofs.fresh_links.Goals as goal

pub returns : goal.returns
unfolding no_links
returns c = simp (c.cleared-cleared.ensures, c.no_exchange.ensures, c.empty_queue.ensures)

-- `cursor::good` meets its contract. Assumes nothing.
use Rattle.cursor.proofs.Laws.{good_is}
use Rattle.cursor.proofs.good.Goals as goal

pub returns : goal.returns
returns c = simp (c.lead-l.ensures.0, good_is)

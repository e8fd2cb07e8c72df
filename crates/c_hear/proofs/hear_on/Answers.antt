-- `c_hear::hear_on` meets its contract. Assumes nothing.
use Rattle.c_hear.proofs.Laws.{hear_outside}
use Rattle.c_hear.proofs.hear_on.Goals as goal

pub returns-else-i-table : goal.returns-else-i-table
returns-else-i-table c = hear_outside _ _ _ _ _ _ _ c.index-i.ensures c.if-i-table.false _ c.hear_none.ensures

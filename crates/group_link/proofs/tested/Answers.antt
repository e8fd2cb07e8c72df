-- `group_link::tested` meets its contract. Assumes nothing.
use Rattle.group_link.specs.LinkDesk.{lent_of}
use Rattle.group_link.proofs.tested.Goals as goal

pub returns-then-lent_ok : goal.returns-then-lent_ok
unfolding lent_of
returns-then-lent_ok c = simp (← c.lent_ok.ensures, c.if-lent_ok.true, c.work_on.ensures)

pub returns-else-lent_ok : goal.returns-else-lent_ok
unfolding lent_of
returns-else-lent_ok c = simp (← c.lent_ok.ensures, c.if-lent_ok.false, c.bare.ensures)

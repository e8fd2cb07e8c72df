-- `group_link::lent_ok` meets its contract. Assumes nothing.
use Rattle.group_link.specs.LinkDesk.{lent_b}
use Rattle.group_link.proofs.lent_ok.Goals as goal

pub returns : goal.returns
unfolding lent_b
returns c = simp c.sizes_ok.ensures

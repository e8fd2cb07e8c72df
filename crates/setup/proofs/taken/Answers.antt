-- `setup::taken` meets its contract. Assumes nothing.
use Rattle.setup.specs.Setup.{taken_b}
use Rattle.setup.proofs.taken.Goals as goal

pub returns : goal.returns
unfolding taken_b
returns c = simp c.size_of-n.ensures

-- `setup::say` meets its contract. Assumes nothing.
use Rattle.setup.specs.Setup.{saying}
use Rattle.setup.proofs.say.Goals as goal

pub returns : goal.returns
unfolding saying
returns c = simp (c.write-count.ensures.0, c.write-count.ensures.1)

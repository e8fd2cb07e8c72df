-- `setup::quiet` meets its contract. Assumes nothing.
use Rattle.std.proofs.Common.{refl}
use Rattle.setup.specs.Setup.{silent}
use Rattle.setup.proofs.quiet.Goals as goal

pub returns : goal.returns
unfolding silent
returns c = refl

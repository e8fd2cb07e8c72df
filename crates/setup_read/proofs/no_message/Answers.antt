-- `setup_read::no_message` meets its contract. Assumes nothing.
use Rattle.setup_read.specs.Places.{no_message}
use mathlib.Core.Path.{refl}
use Rattle.setup_read.proofs.no_message.Goals as goal

pub returns : goal.returns
unfolding no_message
returns c = refl

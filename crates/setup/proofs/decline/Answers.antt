-- `setup::decline` meets its contract. Assumes nothing.
use Rattle.setup_read.specs.Places.{no_message}
use Rattle.setup.specs.Setup.{our_decline}
use Rattle.setup.proofs.decline.Goals as goal

pub returns : goal.returns
unfolding our_decline no_message
returns c = simp c.no_message.ensures

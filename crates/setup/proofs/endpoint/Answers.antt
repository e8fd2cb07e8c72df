-- `setup::endpoint` meets its contract. Assumes nothing.
use Rattle.setup_read.specs.Places.{no_message}
use Rattle.setup.specs.Setup.{ours}
use Rattle.setup.proofs.endpoint.Goals as goal

pub returns : goal.returns
unfolding ours no_message
returns c = simp (c.no_message.ensures, c.code_of.ensures)

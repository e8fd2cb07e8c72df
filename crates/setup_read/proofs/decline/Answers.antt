-- `setup_read::decline` meets its contract. Assumes nothing.
use Rattle.setup_read.specs.Places.{no_message, decline_at}
use Rattle.setup_read.proofs.decline.Goals as goal

pub returns : goal.returns
unfolding decline_at no_message
returns c = simp (c.no_message.ensures, c.u8_at-b.ensures, c.u32_at-diagnosis.ensures, c.bytes.ensures)

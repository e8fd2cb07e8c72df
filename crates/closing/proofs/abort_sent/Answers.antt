-- `closing::abort_sent` meets its contract.
-- Assumes nothing.
use mathlib.Core.Path.{refl}
use Rattle.closing.specs.Closing.{abort_sent}
use Rattle.closing.proofs.abort_sent.Goals as goal

pub returns : goal.returns
unfolding abort_sent
returns c = refl

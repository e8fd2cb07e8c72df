-- `gauge::cleared` meets its contract: 0.0 is the zero without a sign, by its bit pattern. Assumes nothing.
use mathlib.Core.Path.{refl}
use lib.Ieee.{of_bits}
use Rattle.gauge.proofs.cleared.Goals as goal

pub returns : goal.returns
unfolding of_bits
returns c = refl

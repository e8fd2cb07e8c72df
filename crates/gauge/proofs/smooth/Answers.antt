-- `gauge::smooth` meets its contract: 0.125 is what its bit pattern stands for. Assumes nothing.
use mathlib.Core.Path.{refl}
use lib.Ieee.{of_bits}
use Rattle.gauge.specs.Gauge.{smoothed}
use Rattle.gauge.proofs.smooth.Goals as goal

pub returns : goal.returns
unfolding smoothed of_bits
returns c = refl

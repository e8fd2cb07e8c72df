-- `gauge::is_late` meets its contract: 4.0 and 20.0 are what their bit patterns stand for. Assumes nothing.
use mathlib.Core.Path.{refl}
use lib.Ieee.{of_bits}
use Rattle.gauge.specs.Gauge.{late_at}
use Rattle.gauge.proofs.is_late.Goals as goal

pub returns : goal.returns
unfolding late_at of_bits
returns c = refl

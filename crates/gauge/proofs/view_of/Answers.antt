-- `gauge::view_of` meets its contract: each arm is what the definition has for its case. Assumes nothing.
use lib.Ieee.{of_bits}
use Rattle.gauge.specs.Gauge.{view_of}
use Rattle.gauge.proofs.view_of.Goals as goal

pub returns-in-Unheard : goal.returns-in-Unheard
unfolding view_of of_bits
returns-in-Unheard c = rw c.in-Unheard.is

pub returns-in-Steady : goal.returns-in-Steady
unfolding view_of of_bits
returns-in-Steady c = rw c.in-Steady.is

pub returns-in-Late : goal.returns-in-Late
unfolding view_of of_bits
returns-in-Late c = rw c.in-Late.is

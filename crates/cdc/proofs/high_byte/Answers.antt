-- `cdc::high_byte` meets its contract. Assumes nothing.
use native.Mathlib.Omega.{arith}
use Rattle.cdc.specs.Cdc.{high_byte}
use Rattle.cdc.proofs.Laws.{weight_from}
use Rattle.cdc.proofs.high_byte.Goals as goal

pub returns : goal.returns
unfolding high_byte
returns c = grind (arith, weight_from)

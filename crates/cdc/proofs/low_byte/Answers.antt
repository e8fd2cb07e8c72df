-- `cdc::low_byte` meets its contract. Assumes nothing.
use native.Mathlib.Omega.{arith}
use Rattle.cdc.specs.Cdc.{low_byte}
use Rattle.cdc.proofs.Laws.{weight_from}
use Rattle.cdc.proofs.low_byte.Goals as goal

pub returns : goal.returns
unfolding low_byte
returns c = grind (arith, weight_from)

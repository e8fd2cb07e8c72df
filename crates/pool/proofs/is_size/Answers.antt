-- `pool::is_size` meets its contract. Assumes nothing.
use mathlib.Core.Path.{refl}
use Rattle.pool.specs.Pool.{size_b}
use Rattle.pool.proofs.is_size.Goals as goal

pub returns : goal.returns
unfolding size_b
returns c = refl

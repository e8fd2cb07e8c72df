-- `setup_read::eye_at` meets its contract. Assumes nothing.
use lib.Dec.{eqb}
use Prim.Native.Nat.{ℕ}
use mathlib.Core.Path.{ap}
use Rattle.setup_read.proofs.eye_at.Goals as goal

pub returns : goal.returns
returns c = ap (λ (x : ℕ). eqb x 3805594585) c.number.ensures.0

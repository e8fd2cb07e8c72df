-- `c_call::bare_answer` meets its contract. Assumes nothing.
use mathlib.Core.Path.{refl}
use lib.Ieee.{of_bits}
use Rattle.c_call.specs.Flat.{bare}
use Rattle.c_call.proofs.bare_answer.Goals as goal

pub returns : goal.returns
unfolding bare of_bits
returns c = refl

-- `gauge::one_more` meets its contract. Assumes nothing.
use native.Mathlib.Omega.{arith}
use Rattle.std.proofs.lemmas.Bool.Decides.{nat_tests}
use Rattle.gauge.proofs.one_more.Goals as goal

pub returns : goal.returns
returns c = grind (arith, nat_tests)

-- `plan::marks_left` meets its contract. Assumes nothing.
use mathlib.Core.Path.{refl}
use Rattle.plan.specs.Direct.{marks_left}
use Rattle.plan.proofs.marks_left.Goals as goal

pub returns : goal.returns
unfolding marks_left
returns c = refl

-- `group_desk::health_answer` meets its contract. Assumes nothing.
use mathlib.Core.Path.{refl}
use Rattle.group_desk.specs.Linkstate.{health_by}
use Rattle.group_desk.proofs.health_answer.Goals as goal

pub returns : goal.returns
unfolding health_by
returns c = refl

-- `plan_finish::told_in` meets its contract. Assumes nothing.
use mathlib.Core.Path.{refl}
use Rattle.conn_answer.specs.Outcome.{told_in}
use Rattle.plan_finish.proofs.told_in.Goals as goal

pub returns : goal.returns
unfolding told_in
returns c = refl

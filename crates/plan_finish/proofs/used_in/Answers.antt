-- `plan_finish::used_in` meets its contract. Assumes nothing.
use Rattle.conn_answer.specs.Outcome.{used_in}
use Rattle.plan_finish.proofs.used_in.Goals as goal

pub returns : goal.returns
unfolding used_in
returns c = simp c.next_left-s.ensures

-- `plan_finish::left` meets its contract. Assumes nothing.
use Rattle.conn_record.specs.Connection.{marks_to}
use Rattle.conn_answer.specs.Outcome.{told_of}
use Rattle.plan_finish.specs.Finishing.{marked_record}
use Rattle.plan_finish.proofs.left.Goals as goal

pub returns : goal.returns
unfolding marked_record told_of marks_to
returns c = simp (c.used_in-o.ensures, c.told_in-i.ensures)

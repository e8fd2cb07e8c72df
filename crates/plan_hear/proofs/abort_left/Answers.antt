-- `plan_hear::abort_left` meets its contract. Assumes nothing.
use Rattle.conn_record.specs.Connection.{marks_to}
use Rattle.conn_answer.specs.Outcome.{told_in, used_in, told_of}
use Rattle.plan_hear.specs.Hearing.{abort_left}
use Rattle.plan_hear.proofs.abort_left.Goals as goal

pub returns : goal.returns
unfolding abort_left told_of told_in used_in marks_to
returns c = simp (c.abort_sent-marks.ensures, c.next_left.ensures)

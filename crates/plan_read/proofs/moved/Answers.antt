-- `plan_read::moved` meets its contract. Assumes nothing.
use Rattle.conn_record.specs.Connection.{marks_to}
use Rattle.plan_read.specs.Reading.{moved_of}
use Rattle.plan_read.proofs.moved.Goals as goal

pub returns : goal.returns
unfolding moved_of marks_to
returns c = simp c.marks_left-m.ensures

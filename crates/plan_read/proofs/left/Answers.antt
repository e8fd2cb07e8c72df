-- `plan_read::left` meets its contract. Assumes nothing.
use Rattle.conn_record.specs.Connection.{marks_to}
use Rattle.plan_read.specs.Reading.{record_left}
use Rattle.plan_read.proofs.left.Goals as goal

pub returns : goal.returns
unfolding record_left marks_to
returns c =
    let o = c in
    simp (c.marks_left-m.ensures, o.outbound_left-o.ensures, o.inbound_left-i.ensures)

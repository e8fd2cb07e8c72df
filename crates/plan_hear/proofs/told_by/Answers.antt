-- `plan_hear::told_by` meets its contract. Assumes nothing.
use Rattle.conn_record.specs.Connection.{marks_to}
use Rattle.plan_hear.specs.Hearing.{told_by}
use Rattle.plan_hear.proofs.told_by.Goals as goal

pub returns : goal.returns
unfolding told_by marks_to
returns c =
    let m = c in
    simp (m.marks_left-marks.ensures, m.place_left-u.ensures)

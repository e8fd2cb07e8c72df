-- `plan_finish::close_plan` meets its contract. Assumes nothing.
use Rattle.conn_finish.specs.Finish.{close_forbids}
use Rattle.plan_finish.specs.Finishing.{close_plan}
use Rattle.plan_finish.proofs.close_plan.Goals as goal

pub returns-then-m : goal.returns-then-m
unfolding close_plan close_forbids
returns-then-m c = simp (c.if-m.true, c.stays.ensures)

pub returns-then-has_unread : goal.returns-then-has_unread
unfolding close_plan close_forbids
returns-then-has_unread c =
    let d = c in
    let u = d in
    simp (u.if-m.false, ← u.has_unread.ensures, d.if-has_unread.true, ← d.abort_sent.ensures, c.marks.ensures)

pub returns : goal.returns
unfolding close_plan close_forbids
returns c =
    let d = c in
    let u = d in
    simp (u.if-m.false, ← u.has_unread.ensures, d.if-has_unread.false, ← d.closed_sent.ensures, c.marks-2.ensures)

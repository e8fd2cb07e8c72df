-- `plan_hear::ended` meets its contract. Assumes nothing.
use Rattle.plan_hear.specs.Hearing.{ended_of}
use Rattle.plan_hear.proofs.ended.Goals as goal

pub returns-then-t : goal.returns-then-t
unfolding ended_of
returns-then-t c = simp (c.if-t.true, c.zero_record.ensures)

pub returns : goal.returns
unfolding ended_of
returns c = simp (c.if-t.false, c.abort_left.ensures)

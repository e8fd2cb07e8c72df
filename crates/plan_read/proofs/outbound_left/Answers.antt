-- `plan_read::outbound_left` meets its contract. Assumes nothing.
use Rattle.plan_read.specs.Reading.{outbound_left}
use Rattle.plan_read.proofs.outbound_left.Goals as goal

pub returns : goal.returns
unfolding outbound_left
returns c = simp c.next_left-s.ensures

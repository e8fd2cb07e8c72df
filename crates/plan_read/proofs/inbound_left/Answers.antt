-- `plan_read::inbound_left` meets its contract. Assumes nothing.
use Rattle.plan_read.specs.Reading.{inbound_left}
use Rattle.plan_read.proofs.inbound_left.Goals as goal

pub returns : goal.returns
unfolding inbound_left
returns c = simp (c.place_left-u.ensures, c.told_left-told.ensures)

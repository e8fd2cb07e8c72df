-- `plan_hear::inbound_left` meets its contract. Assumes nothing.
use Rattle.plan_hear.specs.Hearing.{inbound_left}
use Rattle.plan_hear.proofs.inbound_left.Goals as goal

pub returns : goal.returns
unfolding inbound_left
returns c = simp (c.urgent_left-u.ensures, c.told_left-told.ensures)

-- `plan_hear::outbound_left` meets its contract. Assumes nothing.
use Rattle.plan_hear.specs.Hearing.{outbound_left}
use Rattle.plan_hear.proofs.outbound_left.Goals as goal

pub returns : goal.returns
unfolding outbound_left
returns c = simp (c.place_left-u.ensures, c.next_left-s.ensures)

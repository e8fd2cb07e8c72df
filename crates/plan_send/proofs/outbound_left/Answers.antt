-- `plan_send::outbound_left` meets its contract. Assumes nothing.
use Rattle.plan_send.specs.Transmitted.{outbound_left}
use Rattle.plan_send.proofs.outbound_left.Goals as goal

pub returns : goal.returns
unfolding outbound_left
returns c = simp (c.outbound_moved-next.ensures, c.next_left-s.ensures)

-- `plan_send::left` meets its contract. Assumes nothing.
use Rattle.plan_send.specs.Transmitted.{record_left}
use Rattle.plan_send.proofs.left.Goals as goal

pub returns : goal.returns
unfolding record_left
returns c = simp (c.outbound_left-o.ensures, c.inbound_left-i.ensures)

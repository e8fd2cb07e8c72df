-- `plan_send::outbound_moved` meets its contract. Assumes nothing.
use Rattle.plan_send.specs.Transmitted.{outbound_moved}
use Rattle.plan_send.proofs.outbound_moved.Goals as goal

pub returns : goal.returns
unfolding outbound_moved
returns c = simp c.place_left-u.ensures

-- `plan_send::inbound_left` meets its contract. Assumes nothing.
use Rattle.plan_send.specs.Transmitted.{inbound_left}
use Rattle.plan_send.proofs.inbound_left.Goals as goal

pub returns : goal.returns
unfolding inbound_left
returns c = simp c.told_left-told.ensures

-- `plan_send::moved` meets its contract. Assumes nothing.
use Rattle.plan_send.specs.Transmitted.{moved_of}
use Rattle.plan_send.proofs.moved.Goals as goal

pub returns : goal.returns
unfolding moved_of
returns c = simp c.outbound_moved-next.ensures

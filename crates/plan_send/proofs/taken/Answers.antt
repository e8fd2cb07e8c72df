-- `plan_send::taken` meets its contract. Assumes nothing.
use Rattle.plan_send.specs.Transmitting.{taken_in_of}
use Rattle.plan_send.proofs.taken.Goals as goal

pub returns : goal.returns
unfolding taken_in_of
returns c = simp (c.taken.ensures.0, c.room-room.ensures.0)

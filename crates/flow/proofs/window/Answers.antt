-- `flow::window` meets its contract: room and window are one difference. Assumes nothing.
use Rattle.flow.specs.Flow.{room_of, window_of}
use Rattle.flow.proofs.window.Goals as goal

pub returns : goal.returns
unfolding room_of window_of
returns c = c.room.ensures

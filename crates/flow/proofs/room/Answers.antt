-- `flow::room` meets its contract. Assumes nothing.
use native.Mathlib.Omega.{arith}
use Rattle.flow.specs.Flow.{room_of}
use Rattle.flow.proofs.room.Goals as goal

pub returns-then-d-g : goal.returns-then-d-g
unfolding room_of
returns-then-d-g c =
    let b = c in
    (simp (← b.data_size-d.ensures, ← c.gap-g.ensures.0) (omega arith), omega arith)

pub returns-else-d-g : goal.returns-else-d-g
unfolding room_of
returns-else-d-g c =
    let b = c in
    (simp (← b.data_size-d.ensures, ← c.gap-g.ensures.0), omega arith)

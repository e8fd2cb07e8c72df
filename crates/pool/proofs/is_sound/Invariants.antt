-- `pool::is_sound` meets its contract. The loop's invariant: what the blocks from i on say is the answer. Assumes nothing.
use Prim.Native.Nat.{◌-◌, ◌≤◌}
use Rattle.pool.specs.Pool.{every, sound_b}
use Rattle.pool.specs.Steps.{alone_b}
use mathlib.Core.Path.{◌≡◌}
use Rattle.pool.proofs.is_sound.Given as goal

abbrev pub invariant-loop-i : goal.invariant-loop-i
invariant-loop-i l = (l.i ≤ 64) × (sound_b l.b ≡ every (alone_b l.b) l.i (64 - l.i))

abbrev pub decreases-loop-i : goal.decreases-loop-i
decreases-loop-i l = 64 - l.i

-- `pool::find`: what is left of the part has the answer. Both measures are the size, which falls by half.
use mathlib.Core.Path.{◌≡◌}
use Prim.Native.Nat.{◌≤◌}
use Rattle.pool.specs.Pool.{lowest, fits_b}
use Rattle.pool.specs.Steps.{Part}
use Rattle.pool.proofs.+find.Given as goal

abbrev pub decreases-find : goal.decreases-find
decreases-find l = l.size

abbrev pub invariant-loop-size : goal.invariant-loop-size
invariant-loop-size l =
    Part l.b l.want l.at l.size × (l.size ≤ l.fn.size)
    × (lowest (fits_b l.b l.want) l.fn.at l.fn.size ≡ lowest (fits_b l.b l.want) l.at l.size)

abbrev pub decreases-loop-size : goal.decreases-loop-size
decreases-loop-size l = l.size

-- `pool::none_starts`: what the units from k on say is the answer. Assumes nothing.
use Prim.Native.Nat.{◌+◌, ◌-◌}
use Rattle.pool.specs.Pool.{every}
use Rattle.pool.specs.Steps.{empty_b}
use mathlib.Core.Path.{◌≡◌}
use Rattle.pool.proofs.none_starts.Given as goal

abbrev pub invariant-loop-k : goal.invariant-loop-k
invariant-loop-k l = every (empty_b l.b) l.start l.n ≡ every (empty_b l.b) l.k (l.start + l.n - l.k)

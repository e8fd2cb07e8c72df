-- `layout::number`: the number of the bytes so far. Assumes nothing.
use Prim.Native.Nat.{◌*◌, ◌<◌, ◌^◌}
use mathlib.Core.Path.{◌≡◌}
use Rattle.layout.specs.Layout.{number_at}
use Rattle.layout.proofs.number.Given as goal

abbrev pub invariant-loop-i : goal.invariant-loop-i
invariant-loop-i l = (l.x ≡ number_at l.s l.at l.i) × (l.x < 2 ^ (8 * l.i))

-- `text_stream::input::Input::octets` keeps the length of what it fills, and adds nothing to what may still come. Assumes nothing.
use Prim.Native.Nat.{◌≤◌}
use lib.ListN.{length}
use mathlib.Core.Path.{◌≡◌}
use Rattle.text_stream.proofs.input.Input.octets.Given as goal

abbrev pub invariant-loop-k : goal.invariant-loop-k
invariant-loop-k l = (length l.to ≡ length l.initial.to) × (l.self.left ≤ l.initial.self.left)

-- `text_stream::input::Input::digits` ends: each digit takes a byte of what may still come. Assumes nothing.
use Prim.Native.Nat.{◌≤◌}
use Rattle.text_stream.proofs.input.Input.digits.Given as goal

abbrev pub invariant-loop-self : goal.invariant-loop-self
invariant-loop-self l = l.self.left ≤ l.initial.self.left

abbrev pub decreases-loop-self : goal.decreases-loop-self
decreases-loop-self l = l.self.left

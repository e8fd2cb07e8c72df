-- `text_stream::input::Input::next_line` ends: each byte that is passed over is one of those that may still come. Assumes nothing.
use Prim.Native.Nat.{◌≤◌}
use Rattle.text_stream.proofs.input.Input.next_line.Given as goal

abbrev pub invariant-loop-self : goal.invariant-loop-self
invariant-loop-self l = l.self.left ≤ l.initial.self.left

abbrev pub decreases-loop-self : goal.decreases-loop-self
decreases-loop-self l = l.self.left

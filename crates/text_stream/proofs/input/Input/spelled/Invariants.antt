-- `text_stream::input::Input::spelled` adds nothing to what may still come. Assumes nothing.
use Prim.Native.Nat.{◌≤◌}
use Rattle.text_stream.proofs.input.Input.spelled.Given as goal

abbrev pub invariant-loop-b : goal.invariant-loop-b
invariant-loop-b l = l.self.left ≤ l.initial.self.left

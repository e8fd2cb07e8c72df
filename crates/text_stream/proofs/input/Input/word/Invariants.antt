-- `text_stream::input::Input::word` adds nothing to what may still come. Assumes nothing.
use Prim.Native.Nat.{◌≤◌}
use Rattle.text_stream.proofs.input.Input.word.Given as goal

abbrev pub invariant-loop-k : goal.invariant-loop-k
invariant-loop-k l = l.self.left ≤ l.initial.self.left

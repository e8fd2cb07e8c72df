-- `text_link_read::read_values` keeps its bound: no byte comes back. Assumes nothing.
use Rattle.std.proofs.Common.{◌≤◌}
use Rattle.text_link_read.proofs.read_values.Given as goal

abbrev pub invariant-loop-k : goal.invariant-loop-k
invariant-loop-k l = l.input.left ≤ l.initial.input.left

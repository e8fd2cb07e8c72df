-- What holds at the head of the loop of `group_link::move_each`. Assumes nothing.
use Rattle.group_link.proofs.MovingLaws.{move_each_Stands}
use Rattle.group_link.proofs.move_each.Given as goal

abbrev pub invariant-loop-slot : goal.invariant-loop-slot
invariant-loop-slot l = move_each_Stands l.fn.table l.n l.p l.fn.out l.slot l.written l.table l.out

-- `group_link::move_each` meets its contract. Assumes nothing.
use native.Mathlib.Omega.{arith}
use Rattle.group_link.proofs.MovingLaws.{move_each_turn, move_each_returns}
use Rattle.group_link.proofs.move_each.Goals as goal

pub loop-slot-preserved : goal.loop-slot-preserved
loop-slot-preserved c =
    move_each_turn c.args.table.now c.args.n c.args.p c.args.out.now c.loop-slot.slot c.loop-slot.written c.loop-slot.table c.loop-slot.out
    c.loop-slot.invariant (omega arith) c.turn-written.result c.turn-written.new.table c.turn-written.new.out c.turn-written.ensures

pub returns : goal.returns
returns c =
    move_each_returns c.args.table.now c.args.n c.args.p c.args.out.now c.loop-slot.slot c.loop-slot.written c.loop-slot.table c.loop-slot.out
    c.loop-slot.invariant (omega arith)

-- `group_link::turn` meets its contract. Assumes nothing.
use Rattle.group_link.proofs.MovingLaws.{turn_returns}
use Rattle.group_link.proofs.turn.Goals as goal

pub returns : goal.returns
returns c =
    turn_returns c.args.table.now c.args.slot c.args.n c.args.p c.args.out.now c.args.written
    c.record_at-rec.result c.record_at-rec.ensures c.moves-goes.result c.moves-goes.ensures c.linked-after.result c.linked-after.ensures
    c.put_record.result c.put_record.new.table c.put_record.ensures c.tell.result c.tell.new.out c.tell.ensures

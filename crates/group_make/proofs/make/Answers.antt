-- `group_make::make` meets its contract. Assumes nothing.
use Rattle.group_make.proofs.Laws.{make_returns}
use Rattle.group_make.proofs.make.Goals as goal

pub returns : goal.returns
returns c =
    make_returns c.args.s c.args.n c.args.mem.now c.args.table.now c.args.links c.args.command c.args.bytes.now c.args.out.now
    c.token_of-token.result c.token_of-token.ensures c.find-holder.result c.find-holder.ensures c.slot_of-slot.result c.slot_of-slot.ensures
    c.record_at-rec.result c.record_at-rec.ensures c.turn-d.result c.turn-d.new.mem c.turn-d.new.out c.turn-d.ensures
    c.put_record.new.table c.put_record.ensures

-- `group_gather::gather` meets its contract. Assumes nothing.
use Rattle.group_gather.proofs.Laws.{gather_returns}
use Rattle.group_gather.proofs.gather.Goals as goal

pub returns : goal.returns
returns c =
    gather_returns c.args.s c.args.n c.args.mem.now c.args.table.now c.args.links c.args.slot c.args.head.now c.args.body.now
    c.record_at-found.result c.record_at-found.ensures c.turn-d.result c.turn-d.ensures c.put_record.new.table c.put_record.ensures

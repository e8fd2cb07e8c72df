-- `group_link::make` meets its contract. Assumes nothing.
use Rattle.group_link.proofs.Returns.{make_returns}
use Rattle.group_link.proofs.make.Goals as goal

pub returns : goal.returns
returns c =
    make_returns c.args.s c.args.n c.args.mem.now c.args.table.now c.args.links c.args.command c.args.bytes.now c.args.given c.args.out.now
    c.tested-w.result c.tested-w.ensures c.plan_of-p.result c.plan_of-p.ensures c.move_all-written.result c.move_all-written.new.table
    c.move_all-written.new.out c.move_all-written.ensures c.done.result c.done.ensures

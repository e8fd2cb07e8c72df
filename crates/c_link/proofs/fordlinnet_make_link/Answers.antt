-- `c_link::fordlinnet_make_link` meets its contract. Assumes nothing.
use Rattle.c_link.proofs.Laws.{fordlinnet_make_link_returns}
use Rattle.c_link.proofs.fordlinnet_make_link.Goals as goal

pub returns : goal.returns
returns c =
    fordlinnet_make_link_returns c.args.s c.args.n c.args.mem.now c.args.table.now c.args.links c.args.command c.args.bytes.now c.args.out.now
    c.from-own.result c.from-own.ensures c.command_of-named.result c.command_of-named.ensures
    c.values_of-given.result c.values_of-given.ensures c.make-d.result c.make-d.new.table c.make-d.new.out c.make-d.ensures
    c.told.result c.told.ensures

-- `c_exports::fordlinnet_make` meets its contract. Assumes nothing.
use Rattle.c_exports.proofs.Laws.{fordlinnet_make_returns}
use Rattle.c_exports.proofs.fordlinnet_make.Goals as goal

pub returns : goal.returns
returns c =
    fordlinnet_make_returns c.args.s c.args.n c.args.mem.now c.args.table.now c.args.links c.args.command c.args.bytes.now c.args.out.now
    c.from-own.result c.from-own.ensures c.command_of-named.result c.command_of-named.ensures
    c.make-a.result c.make-a.new.mem c.make-a.new.table c.make-a.new.out c.make-a.ensures c.told.result c.told.ensures

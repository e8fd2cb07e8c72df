-- `example_series::make_two` meets its contract. Assumes nothing.
use Rattle.example_series.proofs.Laws.{make_two_returns}
use Rattle.example_series.proofs.make_two.Goals as goal

pub returns : goal.returns
returns c =
    make_two_returns c.args.s c.args.n c.args.mem.now c.args.table.now c.args.links c.args.c c.args.given.now c.args.out.now
    c.args.d c.args.also.now c.args.into.now c.make-first.result c.make-first.new.mem c.make-first.new.table c.make-first.new.out
    c.make-first.ensures c.make-second.result c.make-second.new.mem c.make-second.new.table c.make-second.new.out c.make-second.ensures

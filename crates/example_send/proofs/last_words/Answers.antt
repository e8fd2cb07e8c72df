-- `example_send::last_words` meets its contract. Assumes nothing.
use Rattle.example_send.proofs.Laws.{last_words_returns}
use Rattle.example_send.proofs.last_words.Goals as goal

pub returns : goal.returns
returns c =
    last_words_returns c.args.s c.args.n c.args.mem.now c.args.table.now c.args.links c.args.slot c.args.bytes.now c.args.out.now
    c.make-sent.result c.make-sent.new.mem c.make-sent.new.table c.make-sent.new.out c.make-sent.ensures
    c.make-done.result c.make-done.new.mem c.make-done.new.table c.make-done.new.out c.make-done.ensures

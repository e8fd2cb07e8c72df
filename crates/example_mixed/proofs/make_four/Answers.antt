-- `example_mixed::make_four` meets its contract. Assumes nothing.
use Rattle.example_mixed.proofs.Laws.{make_four_returns}
use Rattle.example_mixed.proofs.make_four.Goals as goal

pub returns : goal.returns
returns c =
    make_four_returns c.args.s c.args.n c.args.mem.now c.args.table.now c.args.links c.args.slot c.args.bytes.now c.args.message.now
    c.args.other c.args.head.now c.args.body.now c.args.link c.args.told.now c.args.buffer.now c.args.command c.args.lent.now c.args.out.now
    c.fordlinnet_make_send-sent.result c.fordlinnet_make_send-sent.new.table c.fordlinnet_make_send-sent.new.message
    c.fordlinnet_make_send-sent.ensures
    c.gather-gathered.result c.gather-gathered.new.table c.gather-gathered.ensures
    c.hear_link-heard.result c.hear_link-heard.new.table c.hear_link-heard.new.buffer c.hear_link-heard.ensures
    c.make-made.result c.make-made.new.mem c.make-made.new.table c.make-made.new.out c.make-made.ensures

-- `group_link::move_all` meets its contract. Assumes nothing.
use Rattle.group_link.proofs.MovingLaws.{move_all_returns_2}
use Rattle.group_link.proofs.move_all.Goals as goal

pub returns-else-some : goal.returns-else-some
returns-else-some c =
    move_all_returns_2 c.args.table.now c.args.n c.args.p c.args.out.now c.some.result c.some.ensures c.if-some.false

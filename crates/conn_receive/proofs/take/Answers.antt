-- `conn_receive::take` meets its contract. Assumes nothing.
use Rattle.conn_receive.proofs.Laws.{take_parts}
use Rattle.conn_receive.proofs.take.Goals as goal

pub returns : goal.returns
returns c =
    let x = c in
    let u = x in
    let m = u in
    let k = m in
    take_parts _ _ _ _ _ _ _ _ _ k.unread.ensures k.taken-k.ensures.0 m.consumed_in.ensures u.updates-tells.ensures
    x.consumed-next.ensures c.outcome_of.ensures

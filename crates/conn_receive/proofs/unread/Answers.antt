-- `conn_receive::unread` meets its contract. Assumes nothing.
use native.Mathlib.Omega.{arith}
use Rattle.conn_receive.proofs.Laws.{unread_is}
use Rattle.conn_receive.proofs.unread.Goals as goal

pub overflow_cast-result : goal.overflow_cast-result
overflow_cast-result c =
    let d = c in
    let a = d.args in
    omega (arith, unread_is a.n a.i d.data_size-d.result c.gap.result d.data_size-d.ensures c.gap.ensures.0)

pub returns : goal.returns
returns c = unread_is _ _ _ _ c.data_size-d.ensures c.gap.ensures.0

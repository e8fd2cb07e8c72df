-- `conn_send::placing_at` meets its contract. Assumes nothing.
use Rattle.conn_send.specs.Transmit.{placing_at}
use Rattle.conn_send.proofs.Laws.{ok_parts}
use Rattle.conn_send.proofs.placing_at.Goals as goal

pub placing_of-requires : goal.placing_of-requires
placing_of-requires c = ok_parts _ _ _ _ c.remote_ok.ensures c.if-ok.true

pub returns-then-ok : goal.returns-then-ok
unfolding placing_at
returns-then-ok c = simp (← c.remote_ok.ensures, c.if-ok.true, c.placing_of.ensures)

pub returns : goal.returns
unfolding placing_at
returns c = simp (← c.remote_ok.ensures, c.if-ok.false)

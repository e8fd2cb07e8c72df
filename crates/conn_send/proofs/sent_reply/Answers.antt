-- `conn_send::sent_reply` meets its contract. Assumes nothing.
use Rattle.conn_send.proofs.Laws.{code_placed}
use Rattle.conn_send.proofs.sent_reply.Goals as goal

pub placings_of-placings-requires : goal.placings_of-placings-requires
placings_of-placings-requires c = let s = c in (s.requires.0, code_placed s.args.rec s.args.k _ c.stretches_of.ensures s.requires.1)

pub returns : goal.returns
returns c = simp (c.placings_of-placings.ensures, c.stretches_of.ensures)

-- `conn_gather::piece` meets its contract. Assumes nothing.
use native.Mathlib.Omega.{arith}
use Rattle.conn_gather.proofs.Laws.{part_long, of_head, of_body, in_head, in_body}
use Rattle.conn_gather.proofs.piece.Goals as goal

pub returns-then-at-h-clause-part : goal.returns-then-at-h-clause-part
returns-then-at-h-clause-part c = (
  of_head _ _ _ _ _ _ _ _ c.allowed-most.ensures.0 c.if-at-h.true c.min-l.ensures,
  part_long _ _ _ _ _ (omega (arith, c.min-l.ensures)) c.allowed-most.ensures.1,
)

pub returns-else-at-h-clause-part : goal.returns-else-at-h-clause-part
returns-else-at-h-clause-part c = (
  of_body _ _ _ _ _ _ _ _ c.allowed-most.ensures.0 _ c.if-at-h.false c.min-s.ensures c.min-l-else-at-h.ensures,
  part_long _ _ _ _ _ (omega (arith, c.min-l-else-at-h.ensures)) c.allowed-most.ensures.1,
)

-- `conn_hear::producer_ok` meets its contract.
-- Assumes nothing.
use Rattle.cursor.specs.Cursor.{same_b}
use Rattle.conn_hear.specs.Heard.{producer_b}
use Rattle.conn_hear.proofs.producer_ok.Goals as goal

pub returns : goal.returns
unfolding producer_b same_b
returns c =
    let g = c in
    let b = g in
    let r = b in
    simp (
      c.eq.ensures,
      g.gap-2.ensures.0,
      g.gap.ensures.0,
      b.good.ensures,
      r.in_range.ensures,
      r.data_size-d.ensures,
    )

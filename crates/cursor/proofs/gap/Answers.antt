-- `cursor::gap` meets its contract. Assumes nothing.
use native.Mathlib.Omega.{arith}
use Rattle.cursor.proofs.Laws.{gap_is}
use Rattle.cursor.proofs.gap.Goals as goal

pub returns : goal.returns
returns c =
    let e = gap_is c.args.d c.args.from c.args.to in
    (omega arith, omega arith)

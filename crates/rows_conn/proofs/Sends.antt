-- The rows of specs/Sends, computed. Assumes nothing.
use mathlib.Core.Path.{refl}
use Rattle.rows_conn.specs.Sends.{rows, RowsRight}
use Rattle.rows_conn.proofs.Rules.{rules}

pub sends_right : RowsRight
unfolding rules rows
sends_right = refl

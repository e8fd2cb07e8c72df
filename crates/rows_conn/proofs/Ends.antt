-- The rows of specs/Ends, computed. Assumes nothing.
use mathlib.Core.Path.{refl}
use Rattle.rows_conn.specs.Ends.{rows, RowsRight}
use Rattle.rows_conn.proofs.Rules.{rules}

pub ends_right : RowsRight
unfolding rules rows
ends_right = refl

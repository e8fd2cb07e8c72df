-- The rows of specs/Refused, computed. Assumes nothing.
use mathlib.Core.Path.{refl}
use Rattle.rows_conn.specs.Refused.{rows, RowsRight}
use Rattle.rows_conn.proofs.Rules.{rules}

pub refused_right : RowsRight
unfolding rules rows
refused_right = refl

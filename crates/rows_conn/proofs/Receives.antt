-- The rows of specs/Receives, computed. Assumes nothing.
use mathlib.Core.Path.{refl}
use Rattle.rows_conn.specs.Receives.{rows, RowsRight}
use Rattle.rows_conn.proofs.Rules.{rules}

pub receives_right : RowsRight
unfolding rules rows
receives_right = refl

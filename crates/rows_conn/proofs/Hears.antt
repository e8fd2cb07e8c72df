-- The rows of specs/Hears, computed. Assumes nothing.
use mathlib.Core.Path.{refl}
use Rattle.rows_conn.specs.Hears.{rows, RowsRight}
use Rattle.rows_conn.proofs.Rules.{rules}

pub hears_right : RowsRight
unfolding rules rows
hears_right = refl

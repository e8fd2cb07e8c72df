-- The rows of specs/Opens, computed. Assumes nothing.
use mathlib.Core.Path.{refl}
use Rattle.rows_conn.specs.Opens.{rows, RowsRight}
use Rattle.rows_conn.proofs.Rules.{rules}

pub opens_right : RowsRight
unfolding rules rows
opens_right = refl

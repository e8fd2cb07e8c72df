-- The rows of specs/Coherent, computed. Assumes nothing.
use mathlib.Core.Path.{refl}
use Rattle.rows_conn.specs.Coherent.{rows, RowsRight}
use Rattle.rows_conn.proofs.Rules.{rules}

pub coherent_right : RowsRight
unfolding rules rows
coherent_right = refl

-- The rows of specs/Moves, computed. Assumes nothing.
use mathlib.Core.Path.{refl}
use Rattle.rows_conn.specs.Moves.{rows, RowsRight}
use Rattle.rows_conn.proofs.Rules.{rules}

pub moves_right : RowsRight
unfolding rules rows
moves_right = refl

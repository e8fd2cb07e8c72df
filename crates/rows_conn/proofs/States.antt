-- The rows of specs/States, computed. Assumes nothing.
use mathlib.Core.Path.{refl}
use Rattle.rows_conn.specs.States.{rows, RowsRight, marks, MarksRight, aborted, AbortedRight}
use Rattle.rows_conn.proofs.Rules.{rules}

pub states_right : RowsRight
unfolding rules rows
states_right = refl

pub marks_right : MarksRight
unfolding rules marks
marks_right = refl

pub aborted_right : AbortedRight
unfolding rules aborted
aborted_right = refl

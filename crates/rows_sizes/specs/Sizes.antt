-- Document 01: "N from 8 to 65,540, lent as S x N bytes"; request 2026-06: "Raise S to 255", "1 covers a table not of S records". The
-- upper edges of S and N; the lower ones are in conn_rows, these apart, since a wrong rule is tried in seconds there. Assumes nothing.
use Rattle.std.specs.Prelude.{ℕ, List, [], ◌∷◌, ◌++◌, replicate}
use Rattle.group_rules.specs.Rules.{Group}
use Rattle.rows_conn.specs.Rows.{zeros, Row, Right}
use Rattle.rows_conn.specs.Refused.{slot_of8, sized, one, wrong_size, right_size}

-- S slots of 8 bytes, and a memory of b bytes
abbrev of_slots : ℕ → ℕ → Group
of_slots s b = sized s 8 (replicate s slot_of8) (zeros b)

unfoldable pub rows : List Row
rows =
    wrong_size (of_slots 256 2048)
    ++ (wrong_size (one 65541 65541)
    ++ (right_size (of_slots 255 2040) 255
    ∷ right_size (of_slots 255 2040) 1
    ∷ right_size (one 65540 65540) 1
    -- a memory of more than 65,540 bytes
    ∷ right_size (sized 2 32771 (slot_of8 ∷ slot_of8 ∷ []) (zeros 65542)) 2
    ∷ []))

abbrev pub RowsRight : Type 0
RowsRight = Right rows

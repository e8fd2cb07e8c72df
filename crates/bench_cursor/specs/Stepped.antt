-- A cursor as the two numbers that C sees, and back.
-- Assumes nothing.
use Rattle.std.specs.Prelude.{ℕ}
use Rattle.cursor.specs.declared.Cursor.{Cursor}
use Rattle.bench_cursor.specs.declared.Stepped.{Stepped}

abbrev pub cursor_of : ℕ → ℕ → Cursor
cursor_of offset wrap = record { offset = offset; wrap = wrap }

abbrev pub stepped_of : Cursor → Stepped
stepped_of c = record { offset = c.offset; wrap = c.wrap }

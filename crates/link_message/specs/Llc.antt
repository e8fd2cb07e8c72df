-- Document 01, "Desk calls": the classes of first bytes.
-- Assumes nothing.
use Rattle.std.specs.Prelude.{ℕ, Bool, ◌&&◌, ◌||◌, cond, leb, eqb}

-- the classes' numbers
abbrev pub unknown : ℕ
unknown = 0

abbrev pub named : ℕ
named = 1

abbrev pub cursor_message : ℕ
cursor_message = 2

abbrev pub optional : ℕ
optional = 3

abbrev pub between : ℕ → ℕ → ℕ → Bool
between a b x = leb a x && leb x b

-- 01 to 04 and 06 to 09 named, FE cursor message, 80 to BF (high bits 10) optional, all else unknown
unfoldable pub class_of : ℕ → ℕ
class_of b =
    cond (between 0x01 0x04 b || between 0x06 0x09 b) named
    (cond (eqb b 0xFE) cursor_message
    (cond (between 0x80 0xBF b) optional unknown))

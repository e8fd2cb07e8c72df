-- Document 01, "The memory and the tables": cursors, a step, the distance from one cursor to another. A wrap number is a 16-bit number by
-- the type of the code's field; no definition or law here needs it to be.
-- Assumes nothing.
use Rattle.std.specs.Prelude.{ℕ, ◌+◌, ◌-◌, ◌*◌, ◌/◌, ◌%◌, ◌≤◌, ◌<◌, ◌≡◌, Bool, true, false, ◌&&◌, cond, ltb, leb, eqb, ℤ, pos, negsuc}
use Rattle.std.proofs.Math.IntN.{sub_ℕ}
use Rattle.cursor.specs.declared.Cursor.{Cursor}

-- D = N - 4: an element of N bytes has the eye catcher and D data bytes (exact: N is 8 or more; 0 below 4)
abbrev pub data_of : ℕ → ℕ
data_of n = n - 4

-- offsets run from 4 to N - 1
unfoldable pub in_range : ℕ → Cursor → Bool
in_range n c = leb 4 c.offset && ltb c.offset n

unfoldable pub same_b : Cursor → Cursor → Bool
same_b a b = eqb a.offset b.offset && eqb a.wrap b.wrap

-- the wrap number plus one, 65,535 going on to 0
abbrev pub next_wrap : ℕ → ℕ
next_wrap w = (w + 1) % 65536

-- a step of k that reaches N gives 4 and the wrap number plus one, 65,535 going on to 0 (the subtraction is exact: N is reached)
unfoldable pub moved_of : ℕ → Cursor → ℕ → Cursor
moved_of n c k =
    cond (ltb (c.offset + k) n)
    (record { offset = c.offset + k; wrap = c.wrap })
    (record { offset = c.offset + k - n + 4; wrap = next_wrap c.wrap })

-- the page gives a step a meaning for an offset in range and at most D bytes; elsewhere the cursor stays
unfoldable pub step_of : ℕ → Cursor → ℕ → Cursor
step_of n c k = cond (in_range n c && leb (k + 4) n) (moved_of n c k) c

-- The same step by dividing: from the data's start, turns and rest of the sum by D (request 2026-02: the code divides nowhere, and the
-- law `StepDivides` says that its step is this). The subtraction is exact: an offset in range is 4 or more
unfoldable pub divided_of : ℕ → Cursor → ℕ → Cursor
divided_of n c k =
    let turns = (c.offset - 4 + k) / data_of n in
    let rest = (c.offset - 4 + k) % data_of n in
    record { offset = 4 + rest; wrap = (c.wrap + turns) % 65536 }

-- for every cursor in range, any 16-bit wrap number, and every step up to D, the step is the step by dividing
abbrev pub StepDivides : Type 0
StepDivides = (n : ℕ) (c : Cursor) (k : ℕ) → in_range n c ≡ true → c.wrap < 65536 → k ≤ data_of n → step_of n c k ≡ divided_of n c k

-- z mod m, of an integer (exact: k % m is below m)
abbrev pub modℤ : ℤ → ℕ → ℕ
modℤ (pos k) m = k % m
modℤ (negsuc k) m = m - 1 - k % m

-- (w2 - w1) mod 65,536; `sub_ℕ a b` is the integer a - b
unfoldable pub turns_of : ℕ → ℕ → ℕ
turns_of w1 w2 = modℤ (sub_ℕ w2 w1) 65536

-- the distance from (c1, w1) to (c2, w2): ((w2 - w1) mod 65,536) x D + c2 - c1, an integer that may be below zero
unfoldable pub distance_of : ℕ → Cursor → Cursor → ℤ
distance_of d from to = sub_ℕ (turns_of from.wrap to.wrap * d + to.offset) from.offset

-- it counts as good only from 0 to D
abbrev pub from_zero_to : ℕ → ℤ → Bool
from_zero_to d (pos k) = leb k d
from_zero_to d (negsuc k) = false

unfoldable pub good_b : ℕ → Cursor → Cursor → Bool
good_b d from to = from_zero_to d (distance_of d from to)

-- an integer as a natural number, where it is not below zero
abbrev pub natural : ℤ → ℕ
natural (pos k) = k
natural (negsuc k) = 0

-- the distance as a natural number: the distance itself wherever it is good
unfoldable pub gap_of : ℕ → Cursor → Cursor → ℕ
gap_of d from to = natural (distance_of d from to)

-- No rule below: what the code computes, and what laws are stated with.

-- the distance with the first cursor's offset added, which is never below zero
unfoldable pub lead_of : ℕ → Cursor → Cursor → ℕ
lead_of d from to = turns_of from.wrap to.wrap * d + to.offset

-- the cursor of a position: x bytes from the open, counted without wrapping, in an element with d data bytes
unfoldable pub cursor_at : ℕ → ℕ → Cursor
cursor_at d x = record { offset = 4 + x % d; wrap = x / d % 65536 }

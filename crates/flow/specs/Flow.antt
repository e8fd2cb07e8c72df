-- Document 01, "Calls of a connection": the numbers of Send and of Read.
-- Assumes nothing.
use Rattle.std.specs.Prelude.{ℕ, ◌+◌, ◌-◌, ◌*◌, ◌≤◌, ◌<◌, min, ◌≡◌, Bool, ◌&&◌, cond, ltb, leb, eqb}
use Rattle.cursor.specs.declared.Cursor.{Cursor}
use Rattle.cursor.specs.Cursor.{data_of, gap_of}
use Rattle.flow.specs.declared.Stretch.{Stretch}
use Rattle.flow.specs.declared.Stretches.{Stretches}
use Rattle.flow.specs.declared.Stretches.TheVariants.{Nowhere, One, Two}

-- Send. Room is D' minus the distance R to Q (exact: that distance is good in a coherent record)
unfoldable pub room_of : ℕ → Cursor → Cursor → ℕ
room_of size r q = data_of size - gap_of (data_of size) r q

-- it takes n, the smaller of room and length
unfoldable pub taken_of : ℕ → ℕ → ℕ
taken_of room len = min room len

-- the length of the first placing: from Q's offset to the element's end at most (exact: the offset is in range)
unfoldable pub first_of : ℕ → Cursor → ℕ → ℕ
first_of size q n = min n (size - q.offset)

-- at most two placings, each by its offset, the second from 4; empty placings are not named (exact: the first length is at most n)
unfoldable pub stretches_of : ℕ → Cursor → ℕ → Stretches
stretches_of size q n =
    let first = first_of size q n in
    let one : Stretch = record { offset = q.offset; start = 0; len = first } in
    let two : Stretch = record { offset = 4; start = first; len = n - first } in
    cond (eqb n 0) Nowhere (cond (eqb n first) (One one) (Two one two))

-- Read. The peer's window: D minus the distance T to P (exact: in a coherent record it is T to C and C to P added, at most D)
unfoldable pub window_of : ℕ → Cursor → Cursor → ℕ
window_of N t p = data_of N - gap_of (data_of N) t p

-- twice the peer's window is below D and ten times the distance T to the new C is at least D (4.5.1); that distance is good: the new C
-- lies between the old C and P
unfoldable pub update_due : ℕ → Cursor → Cursor → Cursor → Bool
update_due N t p c = ltb (2 * window_of N t p) (data_of N) && leb (data_of N) (10 * gap_of (data_of N) t c)

-- What laws say of placings, and no contract cites. How many bytes they name in all
abbrev pub stretches_total : Stretches → ℕ
stretches_total Nowhere = 0
stretches_total (One p) = p.len
stretches_total (Two p q) = p.len + q.len

-- a placing that is not empty, lies in the data of an element, 4 to size - 1, and takes the bytes from `start` on
pub record Placed (size start : ℕ) (p : Stretch) : Type 0 where
  pub some : 0 < p.len
  pub low : 4 ≤ p.offset
  pub high : p.offset + p.len ≤ size
  pub follows : p.start ≡ start

-- each placing is so, a second one takes the bytes that follow, and ends where the first begins or before
abbrev pub all_placed : ℕ → Stretches → Type 0
all_placed size Nowhere = Unit
all_placed size (One p) = Placed size 0 p
all_placed size (Two p q) = Placed size 0 p × Placed size p.len q × (q.offset + q.len ≤ p.offset)

-- Laws of room, of what is taken, of placings and of the window. Assumes nothing.
use mathlib.Core.Path.{◌≡◌, refl}
use Prim.Native.Nat.{ℕ, ◌+◌, ◌-◌, ◌≤◌, ◌<◌}
use native.Mathlib.Omega.{arith}
use native.Mathlib.Decide.{dec_le}
use borrow.Author.Tests.{eq-eqb, ne_eqb}
use Rattle.cursor.specs.declared.Cursor.{Cursor}
use Rattle.cursor.specs.Cursor.{gap_of}
use Rattle.flow.specs.declared.Stretch.{Stretch}
use Rattle.flow.specs.declared.Stretches.{Stretches}
use Rattle.flow.specs.declared.Stretches.TheVariants.{Nowhere, One, Two}
use Rattle.flow.specs.Flow.{room_of, taken_of, first_of, stretches_of, stretches_total, all_placed, window_of}

-- what is taken
module _ (room len : ℕ) where
  pub taken_most : taken_of room len ≤ room
  unfolding taken_of
  taken_most = omega arith

  pub taken_len : taken_of room len ≤ len
  unfolding taken_of
  taken_len = omega arith

  -- with room and bytes, one byte at least
  pub taken_some : 0 < room → 0 < len → 0 < taken_of room len
  unfolding taken_of
  taken_some r l = omega arith

-- room
module _ (size : ℕ) (r q : Cursor) where
  pub room_most : room_of size r q ≤ size - 4
  unfolding room_of
  room_most = omega arith

  -- room is exact where the distance is good
  pub room_rest : gap_of (size - 4) r q ≤ size - 4 → gap_of (size - 4) r q + room_of size r q ≡ size - 4
  unfolding room_of
  room_rest g = omega arith

-- the peer's window is its room
pub window_room : (n : ℕ) (t p : Cursor) → window_of n t p ≡ room_of n t p
unfolding window_of room_of
window_room n t p = refl

-- placings, by cases
abbrev pub stretch : ℕ → ℕ → ℕ → Stretch
stretch o s l = record { offset = o; start = s; len = l }

module _ (size : ℕ) (q : Cursor) where
  first_all : (n : ℕ) → n ≤ size - q.offset → first_of size q n ≡ n
  unfolding first_of
  first_all n h = omega arith

  first_part : (n : ℕ) → size - q.offset ≤ n → first_of size q n ≡ size - q.offset
  unfolding first_of
  first_part n h = omega arith

  pub stretches_none : stretches_of size q 0 ≡ Nowhere
  unfolding stretches_of
  stretches_none = refl

  pub stretches_one : (n : ℕ) → 0 < n → n ≤ size - q.offset → stretches_of size q n ≡ One (stretch q.offset 0 n)
  unfolding stretches_of
  stretches_one n l h = simp (first_all n h, ne_eqb n 0 (λ e. omega arith), eq-eqb n n refl)

  pub stretches_two : (n : ℕ) → size - q.offset < n
      → stretches_of size q n ≡ Two (stretch q.offset 0 (size - q.offset)) (stretch 4 (size - q.offset) (n - (size - q.offset)))
  unfolding stretches_of
  stretches_two n h =
      simp (first_part n (omega arith), ne_eqb n 0 (λ e. omega arith), ne_eqb n (size - q.offset) (λ e. omega arith))

  -- what holds in each of the three cases holds of the placings
  pub stretches_by : (n : ℕ) (P : Stretches → Type 0) → (n ≡ 0 → P Nowhere)
      → (0 < n → n ≤ size - q.offset → P (One (stretch q.offset 0 n)))
      → (size - q.offset < n → P (Two (stretch q.offset 0 (size - q.offset)) (stretch 4 (size - q.offset) (n - (size - q.offset)))))
      → P (stretches_of size q n)
  stretches_by n P none one two =
      elim (dec_le n 0) [
        | yes z ↦ let e : n ≡ 0 = omega arith in rw (e, stretches_none) (none e)
        | no z ↦
            elim (dec_le n (size - q.offset)) [
              | yes h ↦ rw (stretches_one n (omega arith) h) (one (omega arith) h)
              | no h ↦ rw (stretches_two n (omega arith)) (two (omega arith))
            ]
      ]

  -- the lengths sum to n, whatever the cursor
  pub stretches_total_lem : (n : ℕ) → stretches_total (stretches_of size q n) ≡ n
  stretches_total_lem n =
      stretches_by n (λ (p : Stretches). stretches_total p ≡ n) (λ e. omega arith) (λ l h. refl) (λ h. omega arith)

  -- from a cursor in range, for at most D bytes, every placing named has bytes and lies in the data, and one follows the other
  pub stretches_placed : (n : ℕ) → 4 ≤ q.offset → q.offset < size → n + 4 ≤ size → all_placed size (stretches_of size q n)
  stretches_placed n l u m =
      stretches_by n (all_placed size) (λ e. tt)
      (λ s h. record { some = s; low = l; high = omega arith; follows = refl })
      (λ h. (
        record { some = omega arith; low = l; high = omega arith; follows = refl },
        record { some = omega arith; low = omega arith; high = omega arith; follows = refl },
        omega arith,
      ))

-- Positions and their places in the element: a place's position past another, a read's offsets, and cursors with a wrap number of any size.
-- Assumes nothing.
use mathlib.Core.Path.{◌≡◌, sym, ap, ◌∙◌}
use mathlib.Core.Bool.{true}
use Prim.Native.Nat.{ℕ, ◌+◌, ◌-◌, ◌*◌, ◌%◌, ◌≤◌, ◌<◌}
use native.Mathlib.Nat.{mod-lt, mod-eq_of_lt}
use native.Mathlib.Omega.{arith}
use native.Mathlib.Decide.{dec_le, dec_lt}
use borrow.Author.Tests.{lt-ltb, le-ltb}
use Rattle.cursor.specs.declared.Cursor.{Cursor}
use Rattle.cursor.specs.Cursor.{in_range, turns_of, good_b, gap_of, lead_of, cursor_at}
use Rattle.cursor.proofs.Laws.{turns_is, lead_is, good_is, gap_is}
use Rattle.cursor.proofs.Positions.{same_place, run_at, over_at, reached}
use Rattle.element.specs.Element.{free_from}
use Rattle.element.proofs.Free.{from_up, from_down}
use Rattle.thm_safety.specs.Statement.{offset_from}
use Rattle.thm_positions.specs.Positions.{offset_of}

-- a cursor with its wrap number below 65,536
abbrev pub norm : Cursor → Cursor
norm c = record { offset = c.offset; wrap = c.wrap % 65536 }

module _ (d : ℕ) (a c : Cursor) where
  turns_norm : turns_of a.wrap (c.wrap % 65536) ≡ turns_of a.wrap c.wrap
  turns_norm = turns_is a.wrap (c.wrap % 65536) ∙ omega (arith, turns_is a.wrap c.wrap)

  lead_norm : lead_of d a (norm c) ≡ lead_of d a c
  lead_norm = lead_is d a (norm c) ∙ ap (λ t. t * d + c.offset) turns_norm ∙ sym (lead_is d a c)

  pub good_norm : good_b d a (norm c) ≡ good_b d a c
  good_norm = good_is d a (norm c) ∙ rw lead_norm (sym (good_is d a c))

  pub gap_norm : gap_of d a (norm c) ≡ gap_of d a c
  gap_norm = gap_is d a (norm c) ∙ rw lead_norm (sym (gap_is d a c))

module _ (d : ℕ) (full : 0 < d) where
  pub place_in : (y : ℕ) → (4 ≤ offset_of d y) × (offset_of d y < d + 4)
  place_in y = (omega arith, omega (arith, mod-lt y full))

  -- positions less than d apart that have one place are one
  pub one_place : (y z : ℕ) → y < z + d → z < y + d → offset_of d y ≡ offset_of d z → y ≡ z
  one_place y z l m e = same_place d full y z l m (omega arith)

  -- the position past a of the offset x: (x - the place of a) mod d further on
  pub place_past : (a x : ℕ) → 4 ≤ x → x < d + 4 → offset_of d (a + free_from d (offset_of d a) x) ≡ x
  place_past a x low high =
      let r = mod-lt a full in
      elim (dec_le (offset_of d a) x) [
        | yes h ↦
            let e : free_from d (offset_of d a) x ≡ x - offset_of d a = from_up d (offset_of d a) x h ∙ mod-eq_of_lt (omega arith) in
            rw e (omega (arith, run_at d full a (x - offset_of d a) (omega arith)))
        | no h ↦
            let k = offset_of d a - x - 1 in
            let m : k % d ≡ k = mod-eq_of_lt (omega arith) in
            let e : free_from d (offset_of d a) x ≡ d - 1 - k = from_down d (offset_of d a) x (omega arith) ∙ ap (λ (z : ℕ). d - 1 - z) m in
            rw e (omega (arith, over_at d full a (d - 1 - k) (omega arith) (omega arith)))
      ]

  -- byte number i of a read from the place of a stands at the place of a + i
  pub offset_place : (a i : ℕ) → i < d → offset_from (d + 4) (offset_of d a) i ≡ offset_of d (a + i)
  offset_place a i l =
      let r = mod-lt a full in
      elim (dec_lt (offset_of d a + i) (d + 4)) [
        | yes h ↦ rw (lt-ltb (offset_of d a + i) (d + 4) h) (omega (arith, run_at d full a i (omega arith)))
        | no h ↦ rw (le-ltb (offset_of d a + i) (d + 4) (omega arith)) (omega (arith, over_at d full a i (omega arith) (omega arith)))
      ]

  -- a cursor at a good distance after a position
  pub reached_norm : (x : ℕ) (c : Cursor) → in_range (d + 4) c ≡ true → good_b d (cursor_at d x) c ≡ true
      → norm c ≡ cursor_at d (x + gap_of d (cursor_at d x) c)
  unfolding in_range
  reached_norm x c r g =
      reached d full x (norm c) r (omega arith) (good_norm d (cursor_at d x) c ∙ g)
      ∙ ap (λ (k : ℕ). cursor_at d (x + k)) (gap_norm d (cursor_at d x) c)

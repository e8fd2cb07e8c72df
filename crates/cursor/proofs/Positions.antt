-- Cursors of positions: a step goes on by so many, a distance is the difference, and what is less than d apart lies apart in the ring.
-- Assumes nothing.
use mathlib.Core.Path.{◌≡◌, sym, ap, ◌∙◌}
use mathlib.Core.Logic.{◌≢◌}
use mathlib.Core.Bool.{true, false, ◌&&◌}
use Prim.Native.Nat.{ℕ, ◌+◌, ◌-◌, ◌*◌, ◌/◌, ◌%◌, ◌≤◌, ◌<◌}
use native.Mathlib.Nat.{div-add-mod', mod-lt, div-lt_iff_lt-mul, le-div_iff_mul-le, mod-eq_of_lt, div-eq_of_lt, mul-add-div_right, mul-add-mod_self_right}
use native.Mathlib.Omega.{arith}
use native.Mathlib.Decide.{dec_le, dec_lt}
use lib.Dec.{leb}
use lib.IntN.{pos}
use borrow.Author.Tests.{le-leb, lt-leb}
use Rattle.cursor.specs.declared.Cursor.{Cursor}
use Rattle.cursor.specs.Cursor.{in_range, moved_of, step_of, turns_of, distance_of, good_b, gap_of, lead_of, cursor_at, divided_of, next_wrap, StepDivides}
use Rattle.cursor.proofs.Laws.{good_is, gap_is, lead_is, good_lead, lead_good, good_most, distance_good, range_is, is_range, step_in, moved_short, moved_over, turn_of_lem, turn_sum, no_less}

-- y is at most d after x: in the same turn of the ring, or in the next
pub data Ahead (d x y : ℕ) : Type 0 where
  same_turn : y / d ≡ x / d → y % d ≡ x % d + (y - x) → Ahead d x y
  next_turn : y / d ≡ x / d + 1 → y % d + d ≡ x % d + (y - x) → Ahead d x y

module _ (d : ℕ) (full : 0 < d) where
  pub ahead : (x y : ℕ) → x ≤ y → y ≤ x + d → Ahead d x y
  ahead x y h k =
      let ex : x / d * d + x % d ≡ x = div-add-mod' x d in
      let ey : y / d * d + y % d ≡ y = div-add-mod' y d in
      let rx : x % d < d = mod-lt x full in
      let ry : y % d < d = mod-lt y full in
      let low : x / d ≤ y / d = (le-div_iff_mul-le full).1 (omega arith) in
      let high : y / d < x / d + 2 = (div-lt_iff_lt-mul full).1 (omega arith) in
      elim (dec_le (y / d) (x / d)) [
        | yes l ↦
            let e : y / d ≡ x / d = omega arith in
            let f : x / d * d + y % d ≡ y = rw e at ey in
            same_turn e (omega arith)
        | no l ↦
            let e : y / d ≡ x / d + 1 = omega arith in
            let f : (x / d + 1) * d + y % d ≡ y = rw e at ey in
            next_turn e (omega arith)
      ]

  pub range_at : (x : ℕ) → in_range (d + 4) (cursor_at d x) ≡ true
  unfolding cursor_at
  range_at x = is_range (d + 4) (cursor_at d x) (omega arith) (omega (arith, mod-lt x full))

  pub wrap_at : (x : ℕ) → (cursor_at d x).wrap < 65536
  unfolding cursor_at
  wrap_at x = omega arith

  -- a step by k is k bytes further on
  pub step_at : (x k : ℕ) → k ≤ d → step_of (d + 4) (cursor_at d x) k ≡ cursor_at d (x + k)
  unfolding cursor_at
  step_at x k h =
      step_in (d + 4) (cursor_at d x) k (range_at x) (omega arith) ∙ go (ahead x (x + k) (omega arith) (omega arith))
    where
      go : Ahead d x (x + k) → moved_of (d + 4) (cursor_at d x) k ≡ cursor_at d (x + k)
      go (same_turn e f) =
          let r : (x + k) % d < d = mod-lt (x + k) full in
          let o : 4 + x % d + k ≡ 4 + (x + k) % d = omega arith in
          let w : x / d % 65536 ≡ (x + k) / d % 65536 = rw e in
          moved_short (d + 4) (cursor_at d x) k (omega arith) ∙ (λ i. record { offset = o i; wrap = w i })
      go (next_turn e f) =
          let o : 4 + x % d + k - (d + 4) + 4 ≡ 4 + (x + k) % d = omega arith in
          let w : (x / d % 65536 + 1) % 65536 ≡ (x + k) / d % 65536 = rw e (omega arith) in
          moved_over (d + 4) (cursor_at d x) k (omega arith) ∙ (λ i. record { offset = o i; wrap = w i })

  -- turns between quotients
  turn_at : (p q t : ℕ) → t < 65536 → (t + p) % 65536 ≡ q % 65536 → turns_of (p % 65536) (q % 65536) ≡ t
  turn_at p q t h e = turn_of_lem (p % 65536) (q % 65536) t h (omega arith)

  pub lead_at : (x y : ℕ) → x ≤ y → y ≤ x + d → lead_of d (cursor_at d x) (cursor_at d y) ≡ 4 + x % d + (y - x)
  unfolding cursor_at
  lead_at x y h k = lead_is d (cursor_at d x) (cursor_at d y) ∙ go (ahead x y h k)
    where
      go : Ahead d x y → turns_of (x / d % 65536) (y / d % 65536) * d + (4 + y % d) ≡ 4 + x % d + (y - x)
      go (same_turn e f) = rw (turn_at (x / d) (y / d) 0 (omega arith) (rw e (omega arith))) (omega arith)
      go (next_turn e f) = rw (turn_at (x / d) (y / d) 1 (omega arith) (rw e (omega arith))) (omega arith)

  -- the distance from one position to another at most d after it is their difference
  pub gap_at : (x y : ℕ) → x ≤ y → y ≤ x + d → gap_of d (cursor_at d x) (cursor_at d y) ≡ y - x
  unfolding cursor_at
  gap_at x y h k = omega (arith, gap_is d (cursor_at d x) (cursor_at d y), lead_at x y h k)

  pub good_at : (x y : ℕ) → x ≤ y → y ≤ x + d → good_b d (cursor_at d x) (cursor_at d y) ≡ true
  unfolding cursor_at
  good_at x y h k = let l = lead_at x y h k in lead_good d (cursor_at d x) (cursor_at d y) (omega arith) (omega arith)

  -- the page's distance, an integer that may be below zero
  pub distance_at : (x y : ℕ) → x ≤ y → y ≤ x + d → distance_of d (cursor_at d x) (cursor_at d y) ≡ pos (y - x)
  distance_at x y h k = distance_good d (cursor_at d x) (cursor_at d y) (good_at x y h k) ∙ ap pos (gap_at x y h k)

  -- one position at most d before another is at no good distance after it
  pub bad_at : (x y : ℕ) → y < x → x ≤ y + d → good_b d (cursor_at d x) (cursor_at d y) ≡ false
  unfolding cursor_at
  bad_at x y h k = good_is d (cursor_at d x) (cursor_at d y) ∙ simp lead_is (go (ahead y x (omega arith) k))
    where
      rx : x % d < d
      rx = mod-lt x full

      go : Ahead d y x
          → (leb (4 + x % d) (turns_of (x / d % 65536) (y / d % 65536) * d + (4 + y % d))
          && leb (turns_of (x / d % 65536) (y / d % 65536) * d + (4 + y % d)) (4 + x % d + d)) ≡ false
      go (same_turn e f) =
          let t : turns_of (x / d % 65536) (y / d % 65536) ≡ 0 = turn_at (x / d) (y / d) 0 (omega arith) (rw e (omega arith)) in
          simp (t, lt-leb (4 + x % d) (0 * d + (4 + y % d)) (omega arith))
      go (next_turn e f) =
          let t : turns_of (x / d % 65536) (y / d % 65536) ≡ 65535 = turn_at (x / d) (y / d) 65535 (omega arith) (rw e (omega arith)) in
          let l = 65535 * d + (4 + y % d) in
          simp (t, le-leb (4 + x % d) l (omega arith), lt-leb l (4 + x % d + d) (omega arith))

  -- two positions less than d apart have places of their own
  pub apart : (x y : ℕ) → x < y → y < x + d → x % d ≢ y % d
  apart x y h k = go (ahead x y (omega arith) (omega arith))
    where
      go : Ahead d x y → x % d ≢ y % d
      go (same_turn e f) = omega arith
      go (next_turn e f) = omega arith

  -- positions less than d apart that have one place are one
  pub same_place : (x y : ℕ) → x < y + d → y < x + d → x % d ≡ y % d → x ≡ y
  same_place x y h k e =
      elim (dec_lt x y) [
        | yes l ↦ absurd (apart x y l k e)
        | no l ↦ elim (dec_lt y x) [ yes m ↦ absurd (apart y x m h (sym e)) | no m ↦ omega arith ]
      ]

  -- a run that does not pass the end lies in one piece
  pub run_at : (x i : ℕ) → x % d + i < d → (x + i) % d ≡ x % d + i
  run_at x i h = go (ahead x (x + i) (omega arith) (omega arith))
    where
      go : Ahead d x (x + i) → (x + i) % d ≡ x % d + i
      go (same_turn e f) = omega arith
      go (next_turn e f) = absurd (omega arith)

  -- one that passes it goes on from the start
  pub over_at : (x i : ℕ) → d ≤ x % d + i → i ≤ d → (x + i) % d ≡ x % d + i - d
  over_at x i h k = go (ahead x (x + i) (omega arith) (omega arith))
    where
      go : Ahead d x (x + i) → (x + i) % d ≡ x % d + i - d
      go (same_turn e f) = absurd (omega (arith, mod-lt (x + i) full))
      go (next_turn e f) = omega arith

  -- a cursor in range is that of a position
  pub position_of : (c : Cursor) → in_range (d + 4) c ≡ true → c.wrap < 65536 → (x : ℕ) × (c ≡ cursor_at d x)
  unfolding cursor_at
  position_of c r w =
      let oc = range_is (d + 4) c r in
      let p = c.offset - 4 in
      let x = c.wrap * d + p in
      let m : x % d ≡ p = mul-add-mod_self_right c.wrap d p ∙ mod-eq_of_lt (omega arith) in
      let q : x / d ≡ c.wrap + p / d = mul-add-div_right full c.wrap p in
      let z : p / d ≡ 0 = div-eq_of_lt (omega arith) in
      let o : c.offset ≡ 4 + x % d = omega arith in
      let v : c.wrap ≡ x / d % 65536 = omega arith in
      (x, λ i. record { offset = o i; wrap = v i })

  -- cursors in range at one good distance after a third are one
  pub one_gap : (a b c : Cursor) → in_range (d + 4) b ≡ true → in_range (d + 4) c ≡ true → b.wrap < 65536 → c.wrap < 65536
      → good_b d a b ≡ true → good_b d a c ≡ true → gap_of d a b ≡ gap_of d a c → b ≡ c
  one_gap a b c rb rc wb wc gb gc e =
      let ob = range_is (d + 4) b rb in
      let oc = range_is (d + 4) c rc in
      let hb = good_lead d a b gb in
      let hc = good_lead d a c gc in
      let ib = gap_is d a b in
      let ic = gap_is d a c in
      let lb = lead_is d a b in
      let lc = lead_is d a c in
      let t = turns_of a.wrap b.wrap in
      let u = turns_of a.wrap c.wrap in
      let tu : t ≤ u = no_less t u d (omega arith) in
      let ut : u ≤ t = no_less u t d (omega arith) in
      let s : t ≡ u = omega arith in
      let p : t * d ≡ u * d = ap (λ (k : ℕ). k * d) s in
      let o : b.offset ≡ c.offset = omega arith in
      let m : b.wrap % 65536 ≡ c.wrap % 65536 =
      sym (turn_sum a.wrap b.wrap) ∙ ap (λ (k : ℕ). (k + a.wrap) % 65536) s ∙ turn_sum a.wrap c.wrap
      in
      let w : b.wrap ≡ c.wrap = same_wrap b.wrap c.wrap wb wc m in
      λ i. record { offset = o i; wrap = w i }
    where
      same_wrap : (v w : ℕ) → v < 65536 → w < 65536 → v % 65536 ≡ w % 65536 → v ≡ w
      same_wrap v w h k e = omega arith

  -- a cursor at a good distance after a position is that of the position so far on
  pub reached : (x : ℕ) (c : Cursor) → in_range (d + 4) c ≡ true → c.wrap < 65536 → good_b d (cursor_at d x) c ≡ true
      → c ≡ cursor_at d (x + gap_of d (cursor_at d x) c)
  reached x c r w g =
      let k = gap_of d (cursor_at d x) c in
      let m : k ≤ d = good_most d (cursor_at d x) c g in
      let b = cursor_at d (x + k) in
      one_gap (cursor_at d x) c b r (range_at (x + k)) w (wrap_at (x + k)) g (good_at x (x + k) (omega arith) (omega arith))
      (omega (arith, gap_at x (x + k) (omega arith) (omega arith)))

-- the code's step, by a comparison and a subtraction, is the step by dividing
pub step_divides : StepDivides
unfolding divided_of
step_divides n c k r w most =
    let o = range_is n c r in
    let d = n - 4 in
    let x = c.offset - 4 + k in
    step_in n c k r (omega arith)
    ∙ elim (dec_lt (c.offset + k) n) [
      | yes h ↦
          let q : x / d ≡ 0 = div-eq_of_lt (omega arith) in
          let m : x % d ≡ x = mod-eq_of_lt (omega arith) in
          let e : c.offset + k ≡ 4 + x % d = omega arith in
          let f : c.wrap ≡ (c.wrap + x / d) % 65536 = rw q (omega arith) in
          moved_short n c k h ∙ (λ i. record { offset = e i; wrap = f i })
      | no h ↦
          let s : x ≡ 1 * d + (x - d) = omega arith in
          let q : x / d ≡ 1 =
          ap (λ (y : ℕ). y / d) s ∙ mul-add-div_right (omega arith) 1 (x - d) ∙ ap (λ (y : ℕ). 1 + y) (div-eq_of_lt (omega arith)) in
          let m : x % d ≡ x - d = ap (λ (y : ℕ). y % d) s ∙ mul-add-mod_self_right 1 d (x - d) ∙ mod-eq_of_lt (omega arith) in
          let e : c.offset + k - n + 4 ≡ 4 + x % d = omega arith in
          let f : next_wrap c.wrap ≡ (c.wrap + x / d) % 65536 = rw q in
          moved_over n c k (omega arith) ∙ (λ i. record { offset = e i; wrap = f i })
    ]

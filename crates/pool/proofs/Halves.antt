-- The pool halved, and halved again: the parts, and what the search finds in them. Assumes nothing.
use mathlib.Core.Path.{◌≡◌, refl, sym, ap, ◌∙◌}
use mathlib.Core.Bool.{Bool, true, false, cond, false≢true}
use Rattle.std.specs.Option.{is_some}
use mathlib.Core.Logic.{inl, inr}
use Prim.Native.Nat.{ℕ, ◌+◌, ◌/◌, ◌%◌, ◌≤◌, ◌<◌}
use native.Mathlib.Nat.{eq-or-lt_of_le}
use native.Mathlib.Omega.{arith}
use lib.Dec.{ltb, eqb}
use borrow.Author.Tests.{ltb-true, ltb-false, eqb-true}
use Rattle.std.proofs.Common.{Option, Some, None}
use Rattle.pool.specs.Pool.{Books, size_at, every, size_b, sound_b, fits_b, lowest}
use Rattle.pool.specs.Statement.{In, Starts, Held}
use Rattle.pool.specs.Steps.{empty_b, Part}
use Rattle.pool.proofs.Every.{every_at, every_of, lowest_split, lowest_first, none_lowest}
use Rattle.pool.proofs.Sizes.{sizes, size_most, size_some, one_goes, between, next, through, together, fits_off}
use Rattle.pool.proofs.Sound.{same_bool, own, some_of, sound_of}
use Rattle.pool.proofs.Units.{fits_of_lem, of_fits}

-- the whole pool
pub whole_pool : (b : Books) (n : ℕ) → sound_b b ≡ true → size_b n ≡ true → Part b n 0 64
unfolding size_b
whole_pool b n s e =
    record {
      sound = s;
      asked = e;
      sized = refl;
      no_less = size_most n e;
      multiple = refl;
      within = omega arith;
      clear = λ k l. absurd (let z : ⊥ = omega arith in z);
    }

-- the half of a size
halves : (n : ℕ) → size_b n ≡ true → 1 < n → (size_b (n / 2) ≡ true) × (n ≡ n / 2 + n / 2) × (n % (n / 2) ≡ 0) × (n / 2 % (n / 2) ≡ 0)
unfolding size_b
halves = sizes (λ n. 1 < n → (size_b (n / 2) ≡ true) × (n ≡ n / 2 + n / 2) × (n % (n / 2) ≡ 0) × (n / 2 % (n / 2) ≡ 0)) (λ l. absurd (let z : ⊥ = omega arith in z)) (λ _. (refl, refl, refl, refl)) (λ _. (refl, refl, refl, refl)) (λ _. (refl, refl, refl, refl)) (λ _. (refl, refl, refl, refl)) (λ _. (refl, refl, refl, refl)) (λ _. (refl, refl, refl, refl))

module _ (b : Books) (w at size : ℕ) (p : Part b w at size) where
  some : 0 < w
  some = size_some w p.asked

  pub in_pool : at < 64
  in_pool = let s = size_some size p.sized in let h = p.within in omega arith

  pub whole : size ≤ w → size ≡ w
  whole l = let m = p.no_less in omega arith

  -- one block holds all of it: nothing fits
  pub all_held : (held : ℕ) → held ≡ size_at b at → size ≤ held → lowest (fits_b b w) at size ≡ None
  all_held held d m = none_lowest (fits_b b w) at size (λ k x y. no k x y (fits_b b w k) refl)
    where
      l : size ≤ size_at b at
      l = rw d at m

      more : (s n : ℕ) → 0 < s → s ≤ n → 0 < n
      more s n x y = omega arith

      further : (k s n : ℕ) → k < at + s → s ≤ n → k < at + n
      further k s n x y = omega arith

      self : (k w : ℕ) → 0 < w → In k w k
      self k w x = (omega arith, omega arith)

      no : (k : ℕ) → at ≤ k → k < at + size → (t : Bool) → fits_b b w k ≡ t → fits_b b w k ≡ false
      no k x y false e = e
      no k x y true e =
          let s : Starts b at = record { below = in_pool; some = more size (size_at b at) (size_some size p.sized) l } in
          absurd ((fits_of_lem b w k e).free k (self k w some) (record { start = at; starts = s; has = (x, further k size (size_at b at) y l) }))

  -- it has the size asked: it fits where no block starts in it
  last_part : size ≤ w → lowest (fits_b b w) at size ≡ cond (every (empty_b b) at w) (Some at) None
  last_part l =
      ap (λ (n : ℕ). lowest (fits_b b w) at n) (whole l)
      ∙ lowest_first (fits_b b w) at w some (λ k x y. fits_off b w k (between w at k multiple x y))
      ∙ ap (λ (t : Bool). cond t (Some at) None) (same_bool _ _ none_starts none_holds)
    where
      multiple : at % w ≡ 0
      multiple = rw (whole l) at p.multiple

      within : at + w ≤ 64
      within = rw (whole l) at p.within

      none_starts : fits_b b w at ≡ true → every (empty_b b) at w ≡ true
      none_starts e = every_of (empty_b b) at w (λ k x y. by k x y (eqb (size_at b k) 0) refl)
        where
          lower : (k : ℕ) → k < at + w → at + w ≤ 64 → k < 64
          lower k x y = omega arith

          by : (k : ℕ) → at ≤ k → k < at + w → (t : Bool) → eqb (size_at b k) 0 ≡ t → empty_b b k ≡ true
          by k x y true f = f
          by k x y false f =
              let s : Starts b k = record { below = lower k y within; some = some_of (size_at b k) f } in
              absurd ((fits_of_lem b w at e).free k (x, y) (record { start = k; starts = s; has = own b k s }))

      none_holds : every (empty_b b) at w ≡ true → fits_b b w at ≡ true
      none_holds e = of_fits b w at (record { multiple = multiple; within = within; free = no })
        where
          far : (k n u : ℕ) → k + n ≤ at → u < k + n → at ≤ u → ⊥
          far k n u m y z = omega arith

          less : (k u m : ℕ) → k ≤ u → u < m → k < m
          less k u m y z = omega arith

          none : (n : ℕ) → n ≡ 0 → 0 < n → ⊥
          none n z l = omega arith

          no : (u : ℕ) → In at w u → Held b u → ⊥
          no u x h = by (ltb h.start at) refl
            where
              by : (t : Bool) → ltb h.start at ≡ t → ⊥
              by true f = far h.start (size_at b h.start) u (p.clear h.start (ltb-true h.start at f)) h.has.1 x.0
              by false f = none (size_at b h.start) (eqb-true (size_at b h.start) 0 (every_at (empty_b b) at w h.start e (ltb-false h.start at f) (less h.start u (at + w) h.has.0 x.1))) h.starts.some

  pub last_free : size ≤ w → every (empty_b b) at w ≡ true → lowest (fits_b b w) at size ≡ Some at
  last_free l e = last_part l ∙ rw e

  pub last_held : size ≤ w → every (empty_b b) at w ≡ false → lowest (fits_b b w) at size ≡ None
  last_held l e = last_part l ∙ rw e

  module _ (more : w < size) where
    half : (size_b (size / 2) ≡ true) × (size ≡ size / 2 + size / 2) × (size % (size / 2) ≡ 0) × (size / 2 % (size / 2) ≡ 0)
    half = halves size p.sized (let s = some in omega arith)

    -- a size below the whole is at most the half
    at_most : (n : ℕ) → size_b n ≡ true → n < size → n ≤ size / 2
    at_most n s l = elim (one_goes (size / 2) half.0 n s) [
      | inl h ↦ h.0
      | inr h ↦ absurd (between (size / 2) (size / 2) n half.3 h.0 (rw (← half.1) l) h.1)
    ]

    pub lower : Part b w at (size / 2)
    lower =
        record {
          sound = p.sound;
          asked = p.asked;
          sized = half.0;
          no_less = at_most w p.asked more;
          multiple = through size (size / 2) at p.multiple half.2;
          within = let h = half.1 in omega (arith, p.within);
          clear = p.clear;
        }

    pub upper : (held : ℕ) → held ≡ size_at b at → held < size → Part b w (at + size / 2) (size / 2)
    upper held d m =
        record {
          sound = p.sound;
          asked = p.asked;
          sized = half.0;
          no_less = at_most w p.asked more;
          multiple = together (size / 2) at (size / 2) lower.multiple half.3;
          within = let h = half.1 in omega (arith, p.within);
          clear = λ k l. by k l (ltb k at) refl (eqb (size_at b k) 0) refl;
        }
      where
        small : size_at b at < size
        small = rw d at m

        before : (x h : ℕ) → x ≤ at → x ≤ at + h
        before x h l = omega arith

        none : (k n m : ℕ) → k < m → n ≡ 0 → k + n ≤ m
        none k n m l e = omega arith

        first : (n h : ℕ) → n ≤ h → at + n ≤ at + h
        first n h l = omega arith

        within_pool : (k : ℕ) → k < at + size / 2 → k < 64
        within_pool k l = let h = lower.within in omega arith

        by : (k : ℕ) → k < at + size / 2 → (t : Bool) → ltb k at ≡ t → (e : Bool) → eqb (size_at b k) 0 ≡ e → k + size_at b k ≤ at + size / 2
        by k l true f e g = before (k + size_at b k) (size / 2) (p.clear k (ltb-true k at f))
        by k l false f true g = none k (size_at b k) (at + size / 2) l (eqb-true (size_at b k) 0 g)
        by k l false f false g =
            let o = sound_of b p.sound in
            let s : Starts b k = record { below = within_pool k l; some = some_of (size_at b k) g } in
            let d = o.multiple k s in
            elim (eq-or-lt_of_le (ltb-false k at f)) [
              | inl e ↦ rw (← e) (first (size_at b at) (size / 2) (at_most (size_at b at) (rw (← e) at (o.sized k s)) small))
              | inr m ↦ elim (one_goes (size / 2) half.0 (size_at b k) (o.sized k s)) [
                | inl h ↦ next (size_at b k) k (at + size / 2) d (together (size_at b k) at (size / 2) (through (size / 2) (size_at b k) at lower.multiple h.1) h.1) l
                | inr h ↦ absurd (between (size / 2) at k lower.multiple m l (through (size_at b k) (size / 2) k d h.1))
              ]
            ]

    -- the lower half first
    split : lowest (fits_b b w) at size ≡ lowest (fits_b b w) at (size / 2 + size / 2)
    split = ap (λ (n : ℕ). lowest (fits_b b w) at n) half.1

    pub in_lower : (f : Option ℕ) → f ≡ lowest (fits_b b w) at (size / 2) → is_some f ≡ true → f ≡ lowest (fits_b b w) at size
    in_lower (Some i) e s = sym (split ∙ rw (lowest_split (fits_b b w) at (size / 2) (size / 2), ← e))
    in_lower None e s = absurd (false≢true s)

    pub in_upper : (f : Option ℕ) → f ≡ lowest (fits_b b w) at (size / 2) → is_some f ≡ false
        → lowest (fits_b b w) at size ≡ lowest (fits_b b w) (at + size / 2) (size / 2)
    in_upper (Some i) e s = absurd (false≢true (sym s))
    in_upper None e s = split ∙ rw (lowest_split (fits_b b w) at (size / 2) (size / 2), ← e)

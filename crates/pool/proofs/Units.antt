-- Blocks and units: what fits, what is given out, and which units a changed book holds. Assumes nothing.
use mathlib.Core.Path.{◌≡◌, refl, sym, ◌∙◌}
use mathlib.Core.Bool.{Bool, true, false, not, true≢false}
use mathlib.Core.Logic.{◌⊎◌, inl, inr}
use Prim.Native.Nat.{ℕ, ◌+◌, ◌%◌, ◌<◌, zero-le}
use native.Mathlib.Omega.{arith}
use lib.Dec.{ltb, leb, eqb}
use lib.ListN.{length, set}
use lib.Seq.{get_or-set_same, get_or-set_other}
use borrow.Author.Tests.{ltb-true, ltb-false, leb-true, eqb-true, eqb-false, not-true, lt-ltb, eq-eqb, ne_eqb}
use Rattle.pool.specs.Pool.{Books, size_at, free_b, size_b, fits_b, lowest, given_out_b}
use Rattle.pool.specs.Statement.{In, Starts, Held, Fits, GivenOut, NoneFree}
use Rattle.std.proofs.Common.{None}
use Rattle.pool.proofs.Every.{every_at, every_of, every_not, lowest_none, none_lowest}
use Rattle.pool.proofs.Sizes.{fits_on, size_some}
use Rattle.pool.proofs.Sound.{both, starts, held_of, of_held}

pub free_of : (b : Books) (u : ℕ) → (Held b u → ⊥) → free_b b u ≡ true
free_of b u h = by (free_b b u) refl
  where
    by : (t : Bool) → free_b b u ≡ t → free_b b u ≡ true
    by true e = e
    by false e = absurd (h (held_of b u e))

pub not_held : (b : Books) (u : ℕ) → free_b b u ≡ true → Held b u → ⊥
not_held b u e h = true≢false (sym e ∙ of_held b u h)

-- ---- what fits
pub fits_of_lem : (b : Books) (n i : ℕ) → fits_b b n i ≡ true → Fits b n i
unfolding fits_b
fits_of_lem b n i e =
    let p = both (eqb (i % n) 0) _ e in
    let q = both (leb (i + n) 64) _ p.1 in
    record {
      multiple = eqb-true (i % n) 0 p.0;
      within = leb-true (i + n) 64 q.0;
      free = λ u x. not_held b u (every_at (free_b b) i n u q.1 x.0 x.1);
    }

pub of_fits : (b : Books) (n i : ℕ) → Fits b n i → fits_b b n i ≡ true
of_fits b n i f = fits_on b n i f.multiple f.within ∙ every_of (free_b b) i n (λ u x y. free_of b u (f.free u (x, y)))

-- nothing is found exactly where every block has a held unit
pub none_free : (b : Books) (n : ℕ) → size_b n ≡ true → lowest (fits_b b n) 0 64 ≡ None → NoneFree b n
none_free b n z e j d w =
    let s = size_some n z in
    let f : fits_b b n j ≡ false = lowest_none (fits_b b n) 0 64 e j zero-le (omega arith) in
    let r = every_not (free_b b) j n (sym (fits_on b n j d w) ∙ f) in
    (r.at, (r.low, r.high), held_of b r.at r.fails)

pub of_none_free : (b : Books) (n : ℕ) → NoneFree b n → lowest (fits_b b n) 0 64 ≡ None
of_none_free b n h = none_lowest (fits_b b n) 0 64 (λ k _ _. by k (fits_b b n k) refl)
  where
    by : (k : ℕ) (t : Bool) → fits_b b n k ≡ t → fits_b b n k ≡ false
    by k false e = e
    by k true e =
        let f = fits_of_lem b n k e in
        let r = h k f.multiple f.within in
        absurd (f.free r.0 r.1 r.2)

-- ---- what was given out
pub given_of_lem : (b : Books) (i n : ℕ) → given_out_b b i n ≡ true → GivenOut b i n
unfolding given_out_b
given_of_lem b i n e =
    let p = both (ltb i 64) _ e in
    let q = both (not (eqb n 0)) _ p.1 in
    let d : size_at b i ≡ n = eqb-true (size_at b i) n q.1 in
    let z = eqb-false n 0 (not-true (eqb n 0) q.0) in
    (record { below = ltb-true i 64 p.0; some = rw d (pos n z) }, d)
  where
    pos : (n : ℕ) → (n ≡ 0 → ⊥) → 0 < n
    pos n h = by (ltb 0 n) refl
      where
        by : (t : Bool) → ltb 0 n ≡ t → 0 < n
        by true e = ltb-true 0 n e
        by false e = absurd (h (let l = ltb-false 0 n e in omega arith))

pub of_given : (b : Books) (i n : ℕ) → GivenOut b i n → given_out_b b i n ≡ true
unfolding given_out_b
of_given b i n (s, d) = rw (lt-ltb i 64 s.below, ne_eqb n 0 (no n (rw d at s.some)), eq-eqb (size_at b i) n d)
  where
    no : (n : ℕ) → 0 < n → n ≡ 0 → ⊥
    no n l e = omega arith

-- ---- books with another number at i
module _ (b : Books) (L : length b ≡ 64) (i : ℕ) (I : i < 64) where
  pub size_here : (n : ℕ) → size_at (set b i n) i ≡ n
  size_here n = get_or-set_same b i n 0 (rw L I)

  pub size_there : (n k : ℕ) → (k ≡ i → ⊥) → size_at (set b i n) k ≡ size_at b k
  size_there n k ne = get_or-set_other b i k n 0 ne

  pub which : (k : ℕ) → (k ≡ i) ⊎ (k ≡ i → ⊥)
  which k = by (eqb k i) refl
    where
      by : (t : Bool) → eqb k i ≡ t → (k ≡ i) ⊎ (k ≡ i → ⊥)
      by true e = inl (eqb-true k i e)
      by false e = inr (eqb-false k i e)

  -- another block than that at i: in the one books as in the others
  module _ (n k : ℕ) (ne : k ≡ i → ⊥) where
    pub starts_there : Starts (set b i n) k → Starts b k
    starts_there s = record { below = s.below; some = rw (size_there n k ne) at s.some }

    pub there_starts : Starts b k → Starts (set b i n) k
    there_starts s = record { below = s.below; some = rw (size_there n k ne) s.some }

    pub in_there : (u : ℕ) → In k (size_at (set b i n) k) u → In k (size_at b k) u
    in_there u p = rw (size_there n k ne) at p

    pub there_in : (u : ℕ) → In k (size_at b k) u → In k (size_at (set b i n) k) u
    there_in u p = rw (size_there n k ne) p

  -- a unit that the changed books hold is held by the block at i, or was held
  pub held_then : (n u : ℕ) → Held (set b i n) u → In i n u ⊎ ((h : Held b u) × (h.start ≡ i → ⊥))
  held_then n u h = elim (which h.start) [
    | inl e ↦ inl (own_in e h.has)
    | inr ne ↦ inr (record { start = h.start; starts = starts_there n h.start ne h.starts; has = in_there n h.start ne u h.has }, ne)
  ]
    where
      own_in : {k : ℕ} → k ≡ i → In k (size_at (set b i n) k) u → In i n u
      own_in {k} e p = rw (size_here n) at (rw e at p)

  pub then_held : (n u : ℕ) (h : Held b u) → (h.start ≡ i → ⊥) → Held (set b i n) u
  then_held n u h ne = record { start = h.start; starts = there_starts n h.start ne h.starts; has = there_in n h.start ne u h.has }

  pub here_held : (n u : ℕ) → In i n u → Held (set b i n) u
  here_held n u p = record { start = i; starts = starts (set b i n) i u I (rw (size_here n) p); has = rw (size_here n) p }

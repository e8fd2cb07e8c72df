-- The sizes and their multiples, and what fits by them. Assumes nothing.
use mathlib.Core.Path.{◌≡◌, refl, sym, ap, ◌∙◌}
use mathlib.Core.Bool.{Bool, true, false, ◌&&◌, ◌||◌, true≢false}
use mathlib.Core.Logic.{◌⊎◌, inl, inr}
use Prim.Native.Nat.{ℕ, suc, ◌+◌, ◌*◌, ◌/◌, ◌%◌, ◌≤◌, ◌<◌}
use native.Mathlib.Nat.{add-zero, zero-add, suc-mul, mul_assoc, zero-mod, add-mul-mod_self_right, div-add-mod', lt_of_mul-lt-mul_right}
use native.Mathlib.Omega.{arith}
use lib.Dec.{ltb, leb, eqb}
use borrow.Author.Tests.{ltb-true, ltb-false, leb-true, eqb-true, eq-eqb, ne_eqb, le-leb}
use Rattle.pool.specs.Pool.{Books, block_free_b, size_b, fits_b}

-- what holds of 1, 2, 4, 8, 16, 32 and 64 holds of each size
pub sizes : (P : ℕ → Type 0) → P 1 → P 2 → P 4 → P 8 → P 16 → P 32 → P 64 → (n : ℕ) → size_b n ≡ true → P n
unfolding size_b
sizes P a b c d e f g n h = try 1 a (λ h. try 2 b (λ h. try 4 c (λ h. try 8 d (λ h. try 16 e (λ h. try 32 f (λ h. is 64 g h) h) h) h) h) h) h
  where
    is : (k : ℕ) → P k → eqb n k ≡ true → P n
    is k p h = rw (eqb-true n k h) p

    try : (k : ℕ) → P k → {rest : Bool} → (rest ≡ true → P n) → (eqb n k || rest) ≡ true → P n
    try k p {rest} more h = by (eqb n k) refl h
      where
        by : (t : Bool) → eqb n k ≡ t → (t || rest) ≡ true → P n
        by true e h = is k p e
        by false e h = more h

pub size_most : (n : ℕ) → size_b n ≡ true → n ≤ 64
size_most = sizes (λ n. n ≤ 64) (omega arith) (omega arith) (omega arith) (omega arith) (omega arith) (omega arith) (omega arith)

pub size_some : (n : ℕ) → size_b n ≡ true → 0 < n
size_some = sizes (λ n. 0 < n) (omega arith) (omega arith) (omega arith) (omega arith) (omega arith) (omega arith) (omega arith)

-- of two sizes the smaller goes into the larger
goes : ℕ → ℕ → Bool
goes n m = (leb m n && eqb (n % m) 0) || (ltb n m && eqb (m % n) 0)

pub one_goes : (n : ℕ) → size_b n ≡ true → (m : ℕ) → size_b m ≡ true → ((m ≤ n) × (n % m ≡ 0)) ⊎ ((n < m) × (m % n ≡ 0))
unfolding goes
one_goes n s m t = by (leb m n) refl (eqb (n % m) 0) refl (ltb n m) refl (eqb (m % n) 0) refl (all n s m t)
  where
    row : (n : ℕ) → goes n 1 ≡ true → goes n 2 ≡ true → goes n 4 ≡ true → goes n 8 ≡ true → goes n 16 ≡ true → goes n 32 ≡ true → goes n 64 ≡ true
        → (m : ℕ) → size_b m ≡ true → goes n m ≡ true
    row n = sizes (λ m. goes n m ≡ true)

    all : (n : ℕ) → size_b n ≡ true → (m : ℕ) → size_b m ≡ true → goes n m ≡ true
    all = sizes (λ n. (m : ℕ) → size_b m ≡ true → goes n m ≡ true) (row 1 refl refl refl refl refl refl refl) (row 2 refl refl refl refl refl refl refl) (row 4 refl refl refl refl refl refl refl) (row 8 refl refl refl refl refl refl refl) (row 16 refl refl refl refl refl refl refl) (row 32 refl refl refl refl refl refl refl) (row 64 refl refl refl refl refl refl refl)

    by : (a : Bool) → leb m n ≡ a → (b : Bool) → eqb (n % m) 0 ≡ b → (c : Bool) → ltb n m ≡ c → (d : Bool) → eqb (m % n) 0 ≡ d
        → ((a && b) || (c && d)) ≡ true → ((m ≤ n) × (n % m ≡ 0)) ⊎ ((n < m) × (m % n ≡ 0))
    by true f true g c h d i e = inl (leb-true m n f, eqb-true (n % m) 0 g)
    by true f false g true h true i e = inr (ltb-true n m h, eqb-true (m % n) 0 i)
    by true f false g true h false i e = absurd (true≢false (sym e))
    by true f false g false h d i e = absurd (true≢false (sym e))
    by false f b g true h true i e = inr (ltb-true n m h, eqb-true (m % n) 0 i)
    by false f b g true h false i e = absurd (true≢false (sym e))
    by false f b g false h d i e = absurd (true≢false (sym e))

-- a multiple of w is so many w
multiple_is : (w j : ℕ) → j % w ≡ 0 → j / w * w ≡ j
multiple_is w j e = sym (add-zero (j / w * w)) ∙ ap (λ (x : ℕ). j / w * w + x) (sym e) ∙ div-add-mod' j w

-- between two neighbouring multiples lies none
pub between : (w j k : ℕ) → j % w ≡ 0 → j < k → k < j + w → k % w ≡ 0 → ⊥
between w j k d l h e =
    let a = multiple_is w j d in
    let b = multiple_is w k e in
    let x : j / w < k / w = lt_of_mul-lt-mul_right w (rw (a, b) l) in
    let y : k / w < suc (j / w) = lt_of_mul-lt-mul_right w (rw (suc-mul, a, b) h) in
    omega arith

-- the next multiple
pub next : (w j k : ℕ) → j % w ≡ 0 → k % w ≡ 0 → j < k → j + w ≤ k
next w j k d e l = by (ltb k (j + w)) refl
  where
    by : (t : Bool) → ltb k (j + w) ≡ t → j + w ≤ k
    by true f = absurd (between w j k d l (ltb-true k (j + w) f) e)
    by false f = ltb-false k (j + w) f

-- multiples of a multiple, and their sum
pub through : (w s j : ℕ) → j % w ≡ 0 → w % s ≡ 0 → j % s ≡ 0
through w s j d e =
    let f : 0 + j / w * (w / s) * s ≡ j = zero-add (j / w * (w / s) * s) ∙ mul_assoc (j / w) (w / s) s ∙ ap (λ (x : ℕ). j / w * x) (multiple_is s w e) ∙ multiple_is w j d in
    ap (λ (x : ℕ). x % s) (sym f) ∙ add-mul-mod_self_right 0 (j / w * (w / s)) s ∙ zero-mod s

pub together : (w j k : ℕ) → j % w ≡ 0 → k % w ≡ 0 → (j + k) % w ≡ 0
together w j k d e = ap (λ (x : ℕ). (j + x) % w) (sym (multiple_is w k e)) ∙ add-mul-mod_self_right j (k / w) w ∙ d

-- a block off its multiple does not fit; at a multiple, in the pool, it fits where it is wholly free
pub fits_off : (b : Books) (w k : ℕ) → (k % w ≡ 0 → ⊥) → fits_b b w k ≡ false
unfolding fits_b
fits_off b w k n = rw (ne_eqb (k % w) 0 n)

pub fits_on : (b : Books) (w k : ℕ) → k % w ≡ 0 → k + w ≤ 64 → fits_b b w k ≡ block_free_b b k w
unfolding fits_b
fits_on b w k d h = rw (eq-eqb (k % w) 0 d, le-leb (k + w) 64 h)

-- How many units are not free, before and after a block's units change hands. Assumes nothing.
use mathlib.Core.Path.{◌≡◌, refl, ap, ◌∙◌}
use mathlib.Core.Bool.{Bool, true, false, not, cond}
use Prim.Native.Nat.{ℕ, zero, suc, ◌+◌, ◌-◌, ◌≤◌, ◌<◌}
use native.Mathlib.Nat.{add_assoc, add-zero, zero-add, suc-add, le_refl}
use native.Mathlib.Omega.{arith}
use Rattle.pool.specs.Pool.{Books, free_b}
use Rattle.pool.specs.Statement.{In, count, not_free}

-- ---- counts over a run
count_split : (p : ℕ → Bool) (j m n : ℕ) → count p j (m + n) ≡ count p j m + count p (j + m) n
unfolding count
count_split p j zero n = rw (zero-add, zero-add, add-zero)
count_split p j (suc m) n =
    let e : j + 1 + m ≡ j + suc m = omega arith in
    rw (suc-add m n, count_split p (j + 1) m n, ← add_assoc (cond (p j) 1 0) (count p (j + 1) m) (count p (j + 1 + m) n), e)

count_same : (p q : ℕ → Bool) (j n : ℕ) → ((u : ℕ) → j ≤ u → u < j + n → p u ≡ q u) → count p j n ≡ count q j n
unfolding count
count_same p q j zero h = refl
count_same p q j (suc n) h = rw (h j (le_refl j) (omega arith), count_same p q (j + 1) n (λ u x y. h u (omega arith) (omega arith)))

count_all : (p : ℕ → Bool) (j n : ℕ) → ((u : ℕ) → j ≤ u → u < j + n → p u ≡ true) → count p j n ≡ n
unfolding count
count_all p j zero h = refl
count_all p j (suc n) h = rw (h j (le_refl j) (omega arith), count_all p (j + 1) n (λ u x y. h u (omega arith) (omega arith))) (omega arith)

pub count_none : (p : ℕ → Bool) (j n : ℕ) → ((u : ℕ) → j ≤ u → u < j + n → p u ≡ false) → count p j n ≡ 0
unfolding count
count_none p j zero h = refl
count_none p j (suc n) h = rw (h j (le_refl j) (omega arith), count_none p (j + 1) n (λ u x y. h u (omega arith) (omega arith)))

-- ---- the units of a block are free in the one books and held in the others, and all else is alike: these have so many more that are not free
pub gained : (b after : Books) (i n : ℕ) → i + n ≤ 64 → ((u : ℕ) → (In i n u → ⊥) → free_b after u ≡ free_b b u)
    → ((u : ℕ) → In i n u → free_b b u ≡ true) → ((u : ℕ) → In i n u → free_b after u ≡ false) → not_free after ≡ not_free b + n
gained b after i n w alike free held =
    cut after
    ∙ rw (
      count_same (taken after) (taken b) 0 i (λ u _ y. ap not (alike u (λ p. below u p.0 y))),
      count_all (taken after) i n (λ u x y. ap not (held u (x, y))),
      count_same (taken after) (taken b) (i + n) rest (λ u x _. ap not (alike u (λ p. above u p.1 x))),
    ) (rw (cut b, count_none (taken b) i n (λ u x y. ap not (free u (x, y)))) (omega arith))
  where
    taken : Books → ℕ → Bool
    taken x u = not (free_b x u)

    rest : ℕ
    rest = 64 - (i + n)

    parts : 64 ≡ i + (n + rest)
    parts = omega arith

    cut : (x : Books) → not_free x ≡ count (taken x) 0 i + (count (taken x) i n + count (taken x) (i + n) rest)
    cut x =
        ap (λ (m : ℕ). count (taken x) 0 m) parts
        ∙ count_split (taken x) 0 i (n + rest)
        ∙ ap (λ (m : ℕ). count (taken x) 0 i + count (taken x) m (n + rest)) (zero-add i)
        ∙ ap (λ (m : ℕ). count (taken x) 0 i + m) (count_split (taken x) i n rest)

    below : (u : ℕ) → i ≤ u → u < 0 + i → ⊥
    below u x y = omega arith

    above : (u : ℕ) → u < i + n → i + n ≤ u → ⊥
    above u x y = omega arith

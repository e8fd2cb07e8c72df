-- The books gone over from block to block: what may be passed over. Assumes nothing.
use mathlib.Core.Path.{◌≡◌, refl, ap, ◌∙◌}
use mathlib.Core.Bool.{Bool, true}
use mathlib.Core.Logic.{inl, inr}
use Prim.Native.Nat.{ℕ, zero, suc, ◌+◌, ◌-◌, ◌≤◌, ◌<◌}
use native.Mathlib.Nat.{add-zero, le_refl, eq-or-lt_of_le}
use native.Mathlib.Omega.{arith}
use borrow.Author.Tests.{leb-true}
use Rattle.pool.specs.Pool.{Books, size_at, every}
use Rattle.pool.specs.Steps.{empty_b, alone_b}
use Rattle.pool.specs.Statement.{Starts}
use Rattle.pool.proofs.Every.{every_on, every_at}
use Rattle.pool.proofs.Sound.{alone}

-- what is true of m numbers need not be asked
every_past : (p : ℕ → Bool) (end m j : ℕ) → j + m ≤ end → ((k : ℕ) → j ≤ k → k < j + m → p k ≡ true) → every p j (end - j) ≡ every p (j + m) (end - (j + m))
every_past p end zero j l h = rw (add-zero j)
every_past p end (suc m) j l h =
    every_on p j end (omega arith) (h j (le_refl j) (omega arith))
    ∙ every_past p end m (j + 1) (omega arith) (λ k x y. h k (omega arith) (omega arith))
    ∙ ap (λ (x : ℕ). every p x (end - x)) e
  where
    e : j + 1 + m ≡ j + suc m
    e = omega arith

-- behind a block that is as it should be
pub past_block : (b : Books) (i : ℕ) → i < 64 → alone_b b i ≡ true → (size_at b i ≡ 0 → ⊥)
    → (i + size_at b i ≤ 64) × (every (alone_b b) i (64 - i) ≡ every (alone_b b) (i + size_at b i) (64 - (i + size_at b i)))
unfolding alone_b
past_block b i l a ne =
    let s : Starts b i = record { below = l; some = pos (size_at b i) ne } in
    let r = alone b i a s in
    let w : i + size_at b i ≤ 64 = leb-true (i + size_at b i) 64 r.within in
    (w, every_past (alone_b b) 64 (size_at b i) i w (λ k x y. elim (eq-or-lt_of_le x) [ inl d ↦ rw d at a | inr m ↦ inside k m y r.none ]))
  where
    pos : (n : ℕ) → (n ≡ 0 → ⊥) → 0 < n
    pos zero h = absurd (h refl)
    pos (suc n) h = omega arith

    inside : (k : ℕ) → i < k → k < i + size_at b i → every (empty_b b) (i + 1) (size_at b i - 1) ≡ true → alone_b b k ≡ true
    inside k m y n = rw (every_at (empty_b b) (i + 1) (size_at b i - 1) k n (omega arith) (omega arith))

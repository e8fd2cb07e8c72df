-- `every` and `lowest` over a run of numbers: as a loop meets them, and what they say of each number. Assumes nothing.
use mathlib.Core.Path.{◌≡◌, refl, sym, ap, ◌∙◌}
use mathlib.Core.Bool.{Bool, true, false, ◌&&◌, cond, true≢false}
use mathlib.Core.Logic.{inl, inr}
use Prim.Native.Nat.{ℕ, zero, suc, ◌+◌, ◌-◌, ◌≤◌, ◌<◌}
use native.Mathlib.Nat.{add-zero, zero-add, suc-add, le_refl, eq-or-lt_of_le, not-le_of_lt}
use native.Mathlib.Omega.{arith}
use lib.Dec.{ltb}
use borrow.Author.Tests.{ltb-true, ltb-false}
use Rattle.std.proofs.Common.{Option, Some, None}
use Rattle.pool.specs.Pool.{every, lowest}

-- no number lies in an empty run
none : (j k : ℕ) → j ≤ k → k < j + 0 → ⊥
none j k x y = omega arith

-- one number more is looked at
one_less : (j end : ℕ) → j < end → end - j ≡ suc (end - (j + 1))
one_less j end h = omega arith

-- a loop that has come to j, of a run that stops before `end`
module _ (p : ℕ → Bool) (j end : ℕ) where
  pub every_here : j < end → p j ≡ false → every p j (end - j) ≡ false
  unfolding every
  every_here h e = rw (one_less j end h, e)

  pub every_on : j < end → p j ≡ true → every p j (end - j) ≡ every p (j + 1) (end - (j + 1))
  unfolding every
  every_on h e = rw (one_less j end h, e)

  pub every_end : end ≤ j → every p j (end - j) ≡ true
  unfolding every
  every_end h = let e : end - j ≡ 0 = omega arith in rw e

pub every_start : (p : ℕ → Bool) (j n : ℕ) → every p j n ≡ every p j (j + n - j)
every_start p j n = let e : j + n - j ≡ n = omega arith in rw e

-- true of the run: true of each
pub every_at : (p : ℕ → Bool) (j n k : ℕ) → every p j n ≡ true → j ≤ k → k < j + n → p k ≡ true
unfolding every
every_at p j zero k e x y = absurd (none j k x y)
every_at p j (suc n) k e x y = by (p j) refl e (λ r z. every_at p (j + 1) n k r z (omega arith))
  where
    by : (t : Bool) → p j ≡ t → (t && every p (j + 1) n) ≡ true → (every p (j + 1) n ≡ true → j + 1 ≤ k → p k ≡ true) → p k ≡ true
    by false f e ih = absurd (true≢false (sym e))
    by true f e ih = elim (eq-or-lt_of_le x) [ inl d ↦ rw (← d) f | inr l ↦ ih e (omega arith) ]

pub every_of : (p : ℕ → Bool) (j n : ℕ) → ((k : ℕ) → j ≤ k → k < j + n → p k ≡ true) → every p j n ≡ true
unfolding every
every_of p j zero h = refl
every_of p j (suc n) h = rw (h j (le_refl j) (omega arith)) (every_of p (j + 1) n (λ k x y. h k (omega arith) (omega arith)))

-- not true of the run: of one it is false
pub record Fails (p : ℕ → Bool) (j n : ℕ) : Type 0 where
  pub at : ℕ
  pub low : j ≤ at
  pub high : at < j + n
  pub fails : p at ≡ false

pub every_not : (p : ℕ → Bool) (j n : ℕ) → every p j n ≡ false → Fails p j n
unfolding every
every_not p j zero e = absurd (true≢false e)
every_not p j (suc n) e = by (p j) refl e (λ r. every_not p (j + 1) n r)
  where
    by : (t : Bool) → p j ≡ t → (t && every p (j + 1) n) ≡ false → (every p (j + 1) n ≡ false → Fails p (j + 1) n) → Fails p j (suc n)
    by false f e ih = record { at = j; low = le_refl j; high = omega arith; fails = f }
    by true f e ih = let r = ih e in record { at = r.at; low = omega arith; high = omega arith; fails = r.fails }

pub every_false : (p : ℕ → Bool) (j n k : ℕ) → j ≤ k → k < j + n → p k ≡ false → every p j n ≡ false
every_false p j n k x y e = by (every p j n) refl
  where
    by : (t : Bool) → every p j n ≡ t → every p j n ≡ false
    by false f = f
    by true f = absurd (true≢false (sym (every_at p j n k f x y) ∙ e))

-- a run in two parts
abbrev pub or_else : Option ℕ → Option ℕ → Option ℕ
or_else (Some i) f = Some i
or_else None f = f

pub lowest_split : (p : ℕ → Bool) (j m n : ℕ) → lowest p j (m + n) ≡ or_else (lowest p j m) (lowest p (j + m) n)
unfolding lowest
lowest_split p j zero n = rw (zero-add, add-zero)
lowest_split p j (suc m) n = rw suc-add (by (p j) (lowest_split p (j + 1) m n))
  where
    e : j + 1 + m ≡ j + suc m
    e = omega arith

    by : (t : Bool) → lowest p (j + 1) (m + n) ≡ or_else (lowest p (j + 1) m) (lowest p (j + 1 + m) n)
        → cond t (Some j) (lowest p (j + 1) (m + n)) ≡ or_else (cond t (Some j) (lowest p (j + 1) m)) (lowest p (j + suc m) n)
    by true h = refl
    by false h = rw (← e) h

-- what is found: it passes, and no lower one does
pub record Lowest (p : ℕ → Bool) (j n i : ℕ) : Type 0 where
  pub low : j ≤ i
  pub high : i < j + n
  pub passes : p i ≡ true
  pub no_lower : (k : ℕ) → j ≤ k → k < i → p k ≡ false

pub lowest_at : (p : ℕ → Bool) (j n i : ℕ) → lowest p j n ≡ Some i → Lowest p j n i
unfolding lowest
lowest_at p j zero i e = let z : ◌≡◌ {A = ℕ} 0 1 = cc in absurd (let f : ⊥ = omega arith in f)
lowest_at p j (suc n) i e = by (p j) refl e (λ r. lowest_at p (j + 1) n i r)
  where
    by : (t : Bool) → p j ≡ t → cond t (Some j) (lowest p (j + 1) n) ≡ Some i → (lowest p (j + 1) n ≡ Some i → Lowest p (j + 1) n i) → Lowest p j (suc n) i
    by true f e ih =
        let d : j ≡ i = cc in
        record { low = omega arith; high = omega arith; passes = rw d at f; no_lower = λ k x y. absurd (not-le_of_lt (rw (← d) at y) x) }
    by false f e ih =
        let r = ih e in
        record { low = omega arith; high = omega arith; passes = r.passes; no_lower = λ k x y. elim (eq-or-lt_of_le x) [ inl d ↦ rw (← d) f | inr l ↦ r.no_lower k (omega arith) y ] }

pub lowest_none : (p : ℕ → Bool) (j n : ℕ) → lowest p j n ≡ None → (k : ℕ) → j ≤ k → k < j + n → p k ≡ false
unfolding lowest
lowest_none p j zero e k x y = absurd (none j k x y)
lowest_none p j (suc n) e k x y = by (p j) refl e (λ r z. lowest_none p (j + 1) n r k z (omega arith))
  where
    by : (t : Bool) → p j ≡ t → cond t (Some j) (lowest p (j + 1) n) ≡ None → (lowest p (j + 1) n ≡ None → j + 1 ≤ k → p k ≡ false) → p k ≡ false
    by true f e ih = let z : ◌≡◌ {A = ℕ} 0 1 = cc in absurd (let g : ⊥ = omega arith in g)
    by false f e ih = elim (eq-or-lt_of_le x) [ inl d ↦ rw (← d) f | inr l ↦ ih e (omega arith) ]

-- where nothing passes, nothing is found
pub none_lowest : (p : ℕ → Bool) (j n : ℕ) → ((k : ℕ) → j ≤ k → k < j + n → p k ≡ false) → lowest p j n ≡ None
unfolding lowest
none_lowest p j zero h = refl
none_lowest p j (suc n) h = rw (h j (le_refl j) (omega arith)) (none_lowest p (j + 1) n (λ k x y. h k (omega arith) (omega arith)))

-- where no later one passes, the first decides
pub lowest_first : (p : ℕ → Bool) (j n : ℕ) → 0 < n → ((k : ℕ) → j < k → k < j + n → p k ≡ false) → lowest p j n ≡ cond (p j) (Some j) None
unfolding lowest
lowest_first p j zero l h = absurd (none 0 0 (le_refl 0) l)
lowest_first p j (suc n) l h = rw (none_lowest p (j + 1) n (λ k x y. h k (omega arith) (omega arith)))

-- two lowest numbers are the same
pub lowest_is : (p : ℕ → Bool) (j n i : ℕ) → Lowest p j n i → lowest p j n ≡ Some i
lowest_is p j n i l = by (lowest p j n) refl
  where
    by : (f : Option ℕ) → lowest p j n ≡ f → lowest p j n ≡ Some i
    by None e = absurd (true≢false (sym l.passes ∙ lowest_none p j n e i l.low l.high))
    by (Some k) e = let r = lowest_at p j n k e in e ∙ ap Some (pick r (ltb k i) refl (ltb i k) refl)
      where
        pick : Lowest p j n k → (s : Bool) → ltb k i ≡ s → (t : Bool) → ltb i k ≡ t → k ≡ i
        pick r true x t y = absurd (true≢false (sym r.passes ∙ l.no_lower k r.low (ltb-true k i x)))
        pick r false x true y = absurd (true≢false (sym l.passes ∙ r.no_lower i l.low (ltb-true i k y)))
        pick r false x false y = let a : i ≤ k = ltb-false k i x in let b : k ≤ i = ltb-false i k y in omega arith

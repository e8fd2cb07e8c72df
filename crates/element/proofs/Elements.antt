-- Elements of one memory: each lies in it, a store in one is a store in that element, and every other element stays. Assumes nothing.
use mathlib.Core.Path.{◌≡◌, sym, ap, ◌∙◌}
use mathlib.Core.List.{List}
use Prim.Native.Nat.{ℕ, ◌+◌, ◌-◌, ◌*◌, ◌≤◌, ◌<◌}
use native.Mathlib.Nat.{one-mul, add-mul, sub-add_cancel, mul-le-mul_right}
use native.Mathlib.Omega.{arith}
use native.Mathlib.Decide.{dec_lt}
use lib.ListN.{length}
use Rattle.element.specs.Element.{part, splice, element_of, base_of, fresh_element, cleared_of}
use Rattle.element.proofs.Laws.{part_length}
use Rattle.element.proofs.Calls.{cleared_in_lem}
use Rattle.element.proofs.Others.{part_same, part_before, part_after, part_splice, splice_part, fresh_length}

-- element k ends where k elements do
pub base_end : (n k : ℕ) → 1 ≤ k → base_of n k + n ≡ k * n
base_end n k h =
    ap (λ (x : ℕ). (k - 1) * n + x) (sym (one-mul n))
    ∙ sym (add-mul (k - 1) 1 n)
    ∙ ap (λ (x : ℕ). x * n) (sub-add_cancel h)

-- and before a later one begins
pub base_next : (n j k : ℕ) → 1 ≤ j → j < k → base_of n j + n ≤ base_of n k
base_next n j k h l = omega (arith, base_end n j h, mul-le-mul_right {m = j} {n = k - 1} n (omega arith))

-- element k of s lies in a memory of s * n bytes
pub element_in_lem : (n k s len : ℕ) → 1 ≤ k → k ≤ s → s * n ≤ len → base_of n k + n ≤ len
element_in_lem n k s len h l m = omega (arith, base_end n k h, mul-le-mul_right {m = k} {n = s} n l)

module _ {A : Type 0} (n k : ℕ) (m : List A) (inside : base_of n k + n ≤ length m) where
  pub element_length : length (element_of n k m) ≡ n
  unfolding element_of
  element_length = part_length m (base_of n k) n inside

  module _ (b : List A) (a : ℕ) (fits : a + length b ≤ n) where
    pub element_store : element_of n k (splice m (base_of n k + a) b) ≡ splice (element_of n k m) a b
    unfolding element_of
    element_store = part_splice m b (base_of n k) n a inside fits

    pub element_back : splice m (base_of n k + a) b ≡ splice m (base_of n k) (splice (element_of n k m) a b)
    unfolding element_of
    element_back = splice_part m b (base_of n k) n a inside fits

    pub element_other : (j : ℕ) → 1 ≤ j → 1 ≤ k → (j ≡ k → ⊥) → element_of n j (splice m (base_of n k + a) b) ≡ element_of n j m
    unfolding element_of
    element_other j h l ne =
        elim (dec_lt j k) [
          | yes c ↦
              part_before m b (base_of n k + a) (omega arith) (base_of n j) n (omega (arith, base_next n j k h c))
          | no c ↦
              part_after m b (base_of n k + a) (omega arith) (base_of n j) n (omega (arith, base_next n k j l (omega arith)))
        ]

-- an element that was cleared
module _ (n k : ℕ) (m : List ℕ) (inside : base_of n k + n ≤ length m) (four : 4 ≤ n) where
  pub element_cleared : element_of n k (cleared_of m (base_of n k) n) ≡ fresh_element n
  unfolding element_of
  element_cleared =
      let e : length (fresh_element n) ≡ n = fresh_length n four in
      ap (λ (l : List ℕ). part l (base_of n k) n) (cleared_in_lem m (base_of n k) n inside four)
      ∙ ap (λ (i : ℕ). part (splice m (base_of n k) (fresh_element n)) (base_of n k) i) (sym e)
      ∙ part_same m (fresh_element n) (base_of n k) (omega arith)

  pub cleared_other : (j : ℕ) → 1 ≤ j → 1 ≤ k → (j ≡ k → ⊥) → element_of n j (cleared_of m (base_of n k) n) ≡ element_of n j m
  cleared_other j h l ne =
      let e : length (fresh_element n) ≡ n = fresh_length n four in
      let z : base_of n k + 0 ≡ base_of n k = omega arith in
      ap (element_of n j) (cleared_in_lem m (base_of n k) n inside four ∙ ap (λ (i : ℕ). splice m i (fresh_element n)) (sym z))
      ∙ element_other n k m inside (fresh_element n) 0 (omega arith) j h l ne

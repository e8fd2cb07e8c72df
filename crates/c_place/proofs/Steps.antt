-- What the parts of a place come to, by the code's tests. Assumes nothing.
use mathlib.Core.Path.{◌≡◌}
use mathlib.Core.Bool.{true, false}
use mathlib.Core.List.{List}
use Prim.Native.Nat.{ℕ, ◌+◌, ◌-◌, ◌^◌, ◌<◌}
use native.Mathlib.Nat.{mul-le-mul_right}
use native.Mathlib.Omega.{arith}
use borrow.Author.Tests.{eq-eqb, ne_eqb}
use Rattle.element.specs.Element as Element
use Rattle.conn_record.specs.declared.Record.{Record}
use Rattle.conn_receive.specs.Receive.{place_forbids, may_place}
use Rattle.c_place.specs.Placing.{placing_of, stored_by}

-- a place, test by test
module _ (n : ℕ) (rec : Record) (j at len : ℕ) where
  pub placing_before : (j ≡ 0 → ⊥) → j ≡ placing_of n rec j at len
  unfolding placing_of
  placing_before z = simp (ne_eqb j 0 z)

  pub placing_forbidden : j ≡ 0 → place_forbids rec.marks ≡ true → 7 ≡ placing_of n rec j at len
  unfolding placing_of
  placing_forbidden z f = simp (eq-eqb j 0 z, f)

  pub placing_may : j ≡ 0 → place_forbids rec.marks ≡ false → may_place n rec.inbound at len ≡ true → 0 ≡ placing_of n rec j at len
  unfolding placing_of
  placing_may z f w = simp (eq-eqb j 0 z, f, w)

  pub placing_not : j ≡ 0 → place_forbids rec.marks ≡ false → may_place n rec.inbound at len ≡ false → 9 ≡ placing_of n rec j at len
  unfolding placing_of
  placing_not z f w = simp (eq-eqb j 0 z, f, w)

-- where the bytes go: the sum of a product of two numbers of 32 bits and a third fits 64
pub place_fits : (n k at base : ℕ) → n < 2 ^ 32 → k < 2 ^ 32 → at < 2 ^ 32 → base ≡ Element.base_of n k → base + at < 2 ^ 64
place_fits n k at base hn hk ha e =
    omega (arith, e, mul-le-mul_right {m = k - 1} {n = 2 ^ 32 - 1} n (omega arith))

-- the bytes stored, or the memory as it was
module _ (n : ℕ) (m : List ℕ) (k j at : ℕ) (b : List ℕ) where
  pub stored_parts : (l : List ℕ) (base : ℕ) → j ≡ 0 → base ≡ Element.base_of n k
      → l ≡ Element.stored_of m (base + at) b → l ≡ stored_by n m k j at b
  unfolding stored_by
  stored_parts l base z e h = simp (h, e, eq-eqb j 0 z)

  pub stored_none : (j ≡ 0 → ⊥) → m ≡ stored_by n m k j at b
  unfolding stored_by
  stored_none z = simp (ne_eqb j 0 z)

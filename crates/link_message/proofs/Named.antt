-- A byte is named exactly where it is the byte of its kind.
-- Assumes nothing.
use Prim.Native.Nat.{ℕ, zero, suc, ◌≤◌}
use mathlib.Core.Path.{◌≡◌, ◌∙◌, refl, sym}
use mathlib.Core.Bool.{Bool, true, false, cond}
use native.Mathlib.Omega.{arith}
use lib.Dec.{eqb}
use borrow.Author.Tests.{ne_eqb, le-leb, lt-leb}
use Rattle.link_message.specs.Llc.{class_of}
use Rattle.link_message.specs.Layouts.{code_of, kind_of, named_b, KindsNamed}

far : (x : ℕ) → 10 ≤ x → eqb (code_of (kind_of x)) x ≡ eqb (class_of x) 1
unfolding kind_of class_of
far x h =
    rw (
      ne_eqb x 1 (λ e. omega (arith, e)),
      ne_eqb x 2 (λ e. omega (arith, e)),
      ne_eqb x 3 (λ e. omega (arith, e)),
      ne_eqb x 4 (λ e. omega (arith, e)),
      ne_eqb x 6 (λ e. omega (arith, e)),
      ne_eqb x 7 (λ e. omega (arith, e)),
      ne_eqb x 8 (λ e. omega (arith, e)),
      le-leb 1 x (omega arith),
      le-leb 6 x (omega arith),
      lt-leb x 4 (omega arith),
      lt-leb x 9 (omega arith),
    )
    (ne_eqb 9 x (λ e. omega (arith, e)) ∙ search go)
  where
    go : (f o : Bool) → false ≡ eqb (cond f 2 (cond o 3 0)) 1
    go true o = refl
    go false true = refl
    go false false = refl

pub kinds_named : KindsNamed
unfolding named_b kind_of class_of
kinds_named zero = refl
kinds_named (suc zero) = refl
kinds_named (suc (suc zero)) = refl
kinds_named (suc (suc (suc zero))) = refl
kinds_named (suc (suc (suc (suc zero)))) = refl
kinds_named (suc (suc (suc (suc (suc zero))))) = refl
kinds_named (suc (suc (suc (suc (suc (suc zero)))))) = refl
kinds_named (suc (suc (suc (suc (suc (suc (suc zero))))))) = refl
kinds_named (suc (suc (suc (suc (suc (suc (suc (suc zero)))))))) = refl
kinds_named (suc (suc (suc (suc (suc (suc (suc (suc (suc zero))))))))) = refl
kinds_named (suc (suc (suc (suc (suc (suc (suc (suc (suc (suc n)))))))))) =
    sym (far (suc (suc (suc (suc (suc (suc (suc (suc (suc (suc n)))))))))) (omega arith))

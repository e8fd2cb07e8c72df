-- The table's rule, at all of its entries by one computation.
-- Assumes nothing.
use mathlib.Core.Path.{◌≡◌, ◌∙◌, subst, sym}
use mathlib.Core.Bool.{Bool, true, false, ◌&&◌}
use mathlib.Core.List.{List, [], ◌∷◌}
use Prim.Native.Nat.{ℕ, zero, suc, ◌+◌, ◌<◌}
use native.Mathlib.Nat.{add-zero, zero-add, add-suc, suc-add, le_of_suc-le-suc, not-suc-le-zero}
use lib.Dec.{T, eqb, eqb→eq}
use lib.ListN.{length, get_or}
use Rattle.link_message.specs.Llc.{class_of}

left : (a b : Bool) → T (a && b) → T a
left true b t = tt
left false b t = t

right : (a b : Bool) → T (a && b) → T b
right true b t = t
right false b t = absurd t

-- each entry of a table is its place's class, counted from i
abbrev pub right_from : ℕ → List ℕ → Bool
right_from i [] = true
right_from i (x ∷ xs) = eqb x (class_of i) && right_from (suc i) xs

entry : (xs : List ℕ) (i : ℕ) → T (right_from i xs) → (k : ℕ) → k < length xs → get_or xs k 0 ≡ class_of (i + k)
entry [] i t k h = absurd (not-suc-le-zero h)
entry (x ∷ xs) i t zero h = rw add-zero (eqb→eq _ _ (left (eqb x (class_of i)) (right_from (suc i) xs) t))
entry (x ∷ xs) i t (suc k) h =
    subst (λ (m : ℕ). get_or xs k 0 ≡ class_of m) (suc-add i k ∙ sym (add-suc i k))
    (entry xs (suc i) (right (eqb x (class_of i)) (right_from (suc i) xs) t) k (le_of_suc-le-suc h))

-- a table that passes the test has each byte's class at its place
pub table_right : (table : List ℕ) (k : ℕ) → T (right_from 0 table) → k < length table → get_or table k 0 ≡ class_of k
table_right table k t h = subst (λ (m : ℕ). get_or table k 0 ≡ class_of m) (zero-add k) (entry table 0 t k h)

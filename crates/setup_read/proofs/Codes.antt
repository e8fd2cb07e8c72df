-- The size codes' table has its rule at each entry, by one computation; the codes both ways.
-- Assumes nothing.
use mathlib.Core.Path.{◌≡◌, ◌∙◌, refl, sym, subst}
use mathlib.Core.Bool.{Bool, true, false, ◌&&◌, cond}
use mathlib.Core.List.{List, [], ◌∷◌}
use Prim.Native.Nat.{ℕ, zero, suc, ◌+◌, ◌≤◌, ◌<◌}
use native.Mathlib.Nat.{add-zero, zero-add, add-suc, suc-add, le_of_suc-le-suc, not-suc-le-zero}
use native.Mathlib.Omega.{arith}
use lib.Dec.{T, eqb, eqb→eq}
use lib.ListN.{length, get_or}
use borrow.Author.Tests.{eqb-true, lt-leb}
use Rattle.setup_read.specs.Codes.{bytes_of_code, code_of, no_code, CodeBack, SizeBack, Small}

left : (a b : Bool) → T (a && b) → T a
left true b t = tt
left false b t = t

right : (a b : Bool) → T (a && b) → T b
right true b t = t
right false b t = absurd t

-- each entry of a table is its place's bytes, counted from i
abbrev pub right_from : ℕ → List ℕ → Bool
right_from i [] = true
right_from i (x ∷ xs) = eqb x (bytes_of_code i) && right_from (suc i) xs

entry : (xs : List ℕ) (i : ℕ) → T (right_from i xs) → (k : ℕ) → k < length xs → get_or xs k 0 ≡ bytes_of_code (i + k)
entry [] i t k h = absurd (not-suc-le-zero h)
entry (x ∷ xs) i t zero h = rw add-zero (eqb→eq _ _ (left (eqb x (bytes_of_code i)) (right_from (suc i) xs) t))
entry (x ∷ xs) i t (suc k) h =
    subst (λ (m : ℕ). get_or xs k 0 ≡ bytes_of_code m) (suc-add i k ∙ sym (add-suc i k))
    (entry xs (suc i) (right (eqb x (bytes_of_code i)) (right_from (suc i) xs) t) k (le_of_suc-le-suc h))

-- a table that passes the test has each code's bytes at its place
pub table_right : (table : List ℕ) (k : ℕ) → T (right_from 0 table) → k < length table → get_or table k 0 ≡ bytes_of_code k
table_right table k t h = subst (λ (m : ℕ). get_or table k 0 ≡ bytes_of_code m) (zero-add k) (entry table 0 t k h)

pub no_bytes : (c : ℕ) → 5 < c → bytes_of_code c ≡ 0
unfolding bytes_of_code
no_bytes c h = simp (lt-leb _ _ h)

pub code_back : CodeBack
unfolding code_of bytes_of_code
code_back zero h = refl
code_back (suc zero) h = refl
code_back (suc (suc zero)) h = refl
code_back (suc (suc (suc zero))) h = refl
code_back (suc (suc (suc (suc zero)))) h = refl
code_back (suc (suc (suc (suc (suc zero))))) h = refl
code_back (suc (suc (suc (suc (suc (suc c)))))) h = absurd (omega arith)

-- the first of the sizes that n is, or none
picked : (n c d x : ℕ) → bytes_of_code c ≡ x → (d < no_code → bytes_of_code d ≡ n) → cond (eqb n x) c d < no_code → bytes_of_code (cond (eqb n x) c d) ≡ n
picked n c d x e f = go (eqb n x) refl
  where
    go : (t : Bool) → eqb n x ≡ t → cond t c d < no_code → bytes_of_code (cond t c d) ≡ n
    go true p h = e ∙ sym (eqb-true n x p)
    go false p h = f h

pub size_back : SizeBack
unfolding code_of bytes_of_code
size_back n =
    picked n 0 _ 16384 refl
    (picked n 1 _ 32768 refl
    (picked n 2 _ 65536 refl
    (picked n 3 _ 131072 refl
    (picked n 4 _ 262144 refl
    (picked n 5 no_code 524288 refl (λ h. absurd (omega arith)))))))

pub small : Small
unfolding bytes_of_code
small zero = (λ h. omega arith, λ h. (omega arith, omega arith))
small (suc zero) = (λ h. omega arith, λ h. (omega arith, omega arith))
small (suc (suc zero)) = (λ h. omega arith, λ h. (omega arith, omega arith))
small (suc (suc (suc zero))) = (λ h. absurd (omega arith), λ h. absurd (omega arith))
small (suc (suc (suc (suc zero)))) = (λ h. absurd (omega arith), λ h. absurd (omega arith))
small (suc (suc (suc (suc (suc zero))))) = (λ h. absurd (omega arith), λ h. absurd (omega arith))
small (suc (suc (suc (suc (suc (suc c)))))) =
    (λ h. absurd (omega (arith, no_bytes (suc (suc (suc (suc (suc (suc c)))))) (omega arith))), λ h. absurd (omega arith))

least_of : (t : Bool) (c d : ℕ) → c ≤ no_code → d ≤ no_code → cond t c d ≤ no_code
least_of true c d h k = h
least_of false c d h k = k

-- a code is at most the mark of none
pub code_most : (n : ℕ) → code_of n ≤ no_code
unfolding code_of
code_most n =
    least_of (eqb n 16384) 0 _ (omega arith)
    (least_of (eqb n 32768) 1 _ (omega arith)
    (least_of (eqb n 65536) 2 _ (omega arith)
    (least_of (eqb n 131072) 3 _ (omega arith)
    (least_of (eqb n 262144) 4 _ (omega arith)
    (least_of (eqb n 524288) 5 no_code (omega arith) (omega arith))))))

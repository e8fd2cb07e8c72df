-- The table of fates, at all of its entries by one computation.
-- Assumes nothing.
use mathlib.Core.Path.{◌≡◌, ◌∙◌, refl, ap, subst, sym}
use mathlib.Core.Bool.{Bool, true, false, ◌&&◌, ◌||◌, cond}
use mathlib.Core.List.{List, [], ◌∷◌}
use Prim.Native.Nat.{ℕ, zero, suc, ◌+◌, ◌*◌, ◌/◌, ◌%◌, ◌<◌}
use native.Mathlib.Nat.{add-zero, zero-add, add-suc, suc-add, le_of_suc-le-suc, not-suc-le-zero}
use native.Mathlib.Omega.{arith}
use lib.Dec.{T, eqb, leb, eqb→eq}
use lib.ListN.{length, get_or}
use Rattle.link_exchange.specs.declared.Exchange.{Exchange}
use Rattle.link_exchange.specs.declared.Said.{Said}
use Rattle.link_exchange.specs.declared.Fate.{Fate}
use Rattle.link_exchange.specs.Exchange.{sort_of}
use Rattle.link_exchange.specs.Fates.{arriving_of, fate_at, fate_number}

left : (a b : Bool) → T (a && b) → T a
left true b t = tt
left false b t = t

right : (a b : Bool) → T (a && b) → T b
right true b t = t
right false b t = absurd t

-- the rule at a place: four to a line
abbrev pub rule_at : ℕ → ℕ
rule_at i = fate_number (fate_at (i / 4) (i % 4))

abbrev pub right_from : ℕ → List ℕ → Bool
right_from i [] = true
right_from i (x ∷ xs) = eqb x (rule_at i) && right_from (suc i) xs

entry : (xs : List ℕ) (i : ℕ) → T (right_from i xs) → (k : ℕ) → k < length xs → get_or xs k 0 ≡ rule_at (i + k)
entry [] i t k h = absurd (not-suc-le-zero h)
entry (x ∷ xs) i t zero h = rw add-zero (eqb→eq _ _ (left (eqb x (rule_at i)) (right_from (suc i) xs) t))
entry (x ∷ xs) i t (suc k) h =
    subst (λ (m : ℕ). get_or xs k 0 ≡ rule_at m) (suc-add i k ∙ sym (add-suc i k))
    (entry xs (suc i) (right (eqb x (rule_at i)) (right_from (suc i) xs) t) k (le_of_suc-le-suc h))

-- a table of 44 that passes the test has each line's and column's fate at its place
pub table_right : (table : List ℕ) (k s : ℕ) → T (right_from 0 table && eqb (length table) 44) → k < 11 → s < 4
    → get_or table (k * 4 + s) 0 ≡ fate_number (fate_at k s)
table_right table k s t a b =
    let n : length table ≡ 44 = eqb→eq _ _ (right (right_from 0 table) (eqb (length table) 44) t) in
    entry table 0 (left (right_from 0 table) (eqb (length table) 44) t) (k * 4 + s) (omega arith)
    ∙ ap rule_at (zero-add (k * 4 + s))
    ∙ (λ i. fate_number (fate_at (line i) (column i)))
  where
    line : (k * 4 + s) / 4 ≡ k
    line = omega arith

    column : (k * 4 + s) % 4 ≡ s
    column = omega arith

cond_less : (b : Bool) (x y n : ℕ) → x < n → y < n → cond b x y < n
cond_less true x y n h k = h
cond_less false x y n h k = k

pub sort_less : (x : Exchange) → sort_of x < 4
unfolding sort_of
sort_less x =
    let s = x.stage in
    let a : cond (eqb s 5) 2 3 < 4 = cond_less (eqb s 5) 2 3 4 (omega arith) (omega arith) in
    let b : cond (leb s 4) 1 (cond (eqb s 5) 2 3) < 4 = cond_less (leb s 4) 1 (cond (eqb s 5) 2 3) 4 (omega arith) a in
    cond_less (eqb s 0) 0 (cond (leb s 4) 1 (cond (eqb s 5) 2 3)) 4 (omega arith) b

-- the line's tests
line_less : (b7 r b1 b2 c b4 a b6 b9 : Bool)
    → cond b7 9 (cond r 10 (cond b1 0 (cond b2 (cond c 1 2) (cond b4 (cond a 5 (cond c 3 4)) (cond b6 (cond c 6 7) (cond b9 8 10)))))) < 11
line_less true r b1 b2 c b4 a b6 b9 = omega arith
line_less false true b1 b2 c b4 a b6 b9 = omega arith
line_less false false true b2 c b4 a b6 b9 = omega arith
line_less false false false true c b4 a b6 b9 = cond_less c 1 2 11 (omega arith) (omega arith)
line_less false false false false c true true b6 b9 = omega arith
line_less false false false false c true false b6 b9 = cond_less c 3 4 11 (omega arith) (omega arith)
line_less false false false false c false a true b9 = cond_less c 6 7 11 (omega arith) (omega arith)
line_less false false false false c false a false true = omega arith
line_less false false false false c false a false false = omega arith

pub arriving_less : (m : Said) → arriving_of m < 11
unfolding arriving_of
arriving_less m =
    line_less (eqb m.kind 0x07) m.reply (eqb m.kind 0x01) (eqb m.kind 0x02) m.client (eqb m.kind 0x04) m.a
    (eqb m.kind 0x06 || eqb m.kind 0x08) (eqb m.kind 0x09)

pub fate_number_lem : (b : Bool) (x y : Fate) → fate_number (cond b x y) ≡ cond b (fate_number x) (fate_number y)
fate_number_lem true x y = refl
fate_number_lem false x y = refl

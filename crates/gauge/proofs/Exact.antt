-- Where no operation of the mean rounds. Through the first eight samples the mean is a whole number over 2,097,152, which is 8 ^ 7.
-- Assumes nothing.
use mathlib.Core.Path.{◌≡◌, refl, sym, ap, ap₂, ◌∙◌}
use mathlib.Core.Bool.{Bool, true, false, not, true≢false}
use mathlib.Core.List.{List, [], ◌∷◌}
use Prim.Native.Nat.{ℕ, zero, suc, ◌+◌, ◌-◌, ◌*◌, ◌/◌, ◌^◌, ◌≤◌, ◌<◌}
use native.Mathlib.Nat.{lt_of_lt_of_le, mul_assoc, mul_comm, mul_right_comm, mul-one, one-mul, mul-pos, add-mul, mul-le-mul_right, mul-lt-mul_of_pos_right, lt_of_mul-lt-mul_right, le_of_mul-le-mul_right, sub-add_cancel, mul-sub, eq_of_mul-eq-mul_right, pow-suc, mul-div_cancel, add-zero, not-suc-le-zero, le_of_suc-le-suc}
use native.Mathlib.Omega.{arith}
use lib.Dec.{T, ltb, ltb→lt, nltb→le, lit≤, lit<}
use borrow.Author.Tests.{lt-ltb, le-ltb, eq-eqb, ne_eqb, ltb-true, ltb-false}
use lib.IntN.{pos}
use lib.Pow.{pow-add, pow_pos, pow_mono, shl_lt}
use lib.Ieee.{Float, nan, inf, fin, Format, binary64, prec, emax, low, up, down, unlike, round, add, sub, mul, neg, of_int, sum, lt}
use lib.Ieee.Fits.{reach, down_pos}
use lib.ListN.{length}
use lib.Ieee.Exact.{HasValue, round_exact}
use lib.Ieee.Scale.{round_same}
use Rattle.gauge.specs.declared.Gauge.{Gauge}
use Rattle.gauge.specs.Gauge.{eighth, four, twenty, late_at, smoothed, sampled_of, after, next_whole, whole_from, NoRemainder, Samples, ThroughEight}

-- ---- a whole number below 2 ^ prec, over a power of two that the format reaches, is not rounded
room : (p l c e : ℕ) → p ≤ suc e → p + (l - c) ≤ l + suc e
room p l c e h = omega arith

pub exact : (f : Format) (s : Bool) (a c : ℕ) → c ≤ low f → a < 2 ^ prec f → HasValue (round f s a (2 ^ c)) s a (2 ^ c)
exact f s a c C A =
    let j = low f - c in
    round_exact f s a (2 ^ c) a j (pow_pos c) A (lt_of_lt_of_le (shl_lt (prec f) j A) (pow_mono (room (prec f) (low f) c (emax f) (reach f))))
    (ap (λ (x : ℕ). a * 2 ^ x) (sym (sub-add_cancel C)) ∙ ap (λ (x : ℕ). a * x) (pow-add 2 j c) ∙ sym (mul_assoc a (2 ^ j) (2 ^ c)))

-- ---- operands of the same denominator C: a sum, a difference and an eighth are the numerators', rounded once
-- x is a / C and y is b / C: as the operation has them, over down e * down d
over : (x y de dd a b C : ℕ) → x * C ≡ a * de → y * C ≡ b * dd → (x * dd * C ≡ a * (de * dd)) × (y * de * C ≡ b * (de * dd))
over x y de dd a b C p q = (
  mul_right_comm x dd C ∙ ap (λ (z : ℕ). z * dd) p ∙ mul_assoc a de dd,
  mul_right_comm y de C ∙ ap (λ (z : ℕ). z * de) q ∙ mul_assoc b dd de ∙ ap (λ (z : ℕ). b * z) (mul_comm dd de),
)

sub-mul : (x y k : ℕ) → (x - y) * k ≡ x * k - y * k
sub-mul x y k = mul_comm (x - y) k ∙ mul-sub k x y ∙ ap (λ (z : ℕ). z - k * y) (mul_comm k x) ∙ ap (λ (z : ℕ). x * k - z) (mul_comm k y)

pub plus : (f : Format) (x y : Float) (a b C : ℕ) → 0 < C → HasValue x false a C → HasValue y false b C → add f x y ≡ round f false (a + b) C
unfolding add sum
plus f nan y a b C P p q = elim p [ ]
plus f (inf _) y a b C P p q = elim p [ ]
plus f (fin false m e) nan a b C P p q = elim q [ ]
plus f (fin false m e) (inf _) a b C P p q = elim q [ ]
plus f (fin false m e) (fin false n d) a b C P p q =
    let h = over (m * up e) (n * up d) (down e) (down d) a b C p.1 q.1 in
    round_same f false (m * up e * down d + n * up d * down e) (down e * down d) (a + b) C (mul-pos (down_pos e) (down_pos d)) P
    (add-mul (m * up e * down d) (n * up d * down e) C ∙ ap₂ (λ (u v : ℕ). u + v) h.0 h.1 ∙ sym (add-mul a b (down e * down d)))
plus f (fin true m e) y a b C P p q = absurd (true≢false p.0)
plus f (fin false m e) (fin true n d) a b C P p q = absurd (true≢false q.0)

-- x - |y|, where |y| is no larger
pub less : (f : Format) (x y : Float) (a b C : ℕ) → 0 < C → b ≤ a → HasValue x false a C → HasValue y true b C → add f x y ≡ round f false (a - b) C
unfolding add sum
less f nan y a b C P l p q = elim p [ ]
less f (inf _) y a b C P l p q = elim p [ ]
less f (fin false m e) nan a b C P l p q = elim q [ ]
less f (fin false m e) (inf _) a b C P l p q = elim q [ ]
less f (fin false m e) (fin true n d) a b C P l p q =
    let h = over (m * up e) (n * up d) (down e) (down d) a b C p.1 q.1 in
    let D = down e * down d in
    let g : n * up d * down e ≤ m * up e * down d = le_of_mul-le-mul_right (rw (h.0, h.1) (mul-le-mul_right D l)) P in
    rw (le-ltb (m * up e * down d) (n * up d * down e) g)
    (round_same f false (m * up e * down d - n * up d * down e) D (a - b) C (mul-pos (down_pos e) (down_pos d)) P
    (sub-mul (m * up e * down d) (n * up d * down e) C ∙ ap₂ (λ (u v : ℕ). u - v) h.0 h.1 ∙ sym (sub-mul a b D)))
less f (fin true m e) y a b C P l p q = absurd (true≢false p.0)
less f (fin false m e) (fin false n d) a b C P l p q = absurd (true≢false (sym q.0))

-- x - |y|, where |y| is larger
pub under : (f : Format) (x y : Float) (a b C : ℕ) → 0 < C → a < b → HasValue x false a C → HasValue y true b C → add f x y ≡ round f true (b - a) C
unfolding add sum
under f nan y a b C P l p q = elim p [ ]
under f (inf _) y a b C P l p q = elim p [ ]
under f (fin false m e) nan a b C P l p q = elim q [ ]
under f (fin false m e) (inf _) a b C P l p q = elim q [ ]
under f (fin false m e) (fin true n d) a b C P l p q =
    let h = over (m * up e) (n * up d) (down e) (down d) a b C p.1 q.1 in
    let D = down e * down d in
    let g : m * up e * down d < n * up d * down e = lt_of_mul-lt-mul_right C (rw (h.0, h.1) (mul-lt-mul_of_pos_right l (mul-pos (down_pos e) (down_pos d)))) in
    rw (lt-ltb (m * up e * down d) (n * up d * down e) g)
    (round_same f true (n * up d * down e - m * up e * down d) D (b - a) C (mul-pos (down_pos e) (down_pos d)) P
    (sub-mul (n * up d * down e) (m * up e * down d) C ∙ ap₂ (λ (u v : ℕ). u - v) h.1 h.0 ∙ sym (sub-mul b a D)))
under f (fin true m e) y a b C P l p q = absurd (true≢false p.0)
under f (fin false m e) (fin false n d) a b C P l p q = absurd (true≢false (sym q.0))

pub minus_value : (y : Float) (b C : ℕ) → HasValue y false b C → HasValue (neg y) true b C
unfolding neg
minus_value nan b C q = elim q [ ]
minus_value (inf _) b C q = elim q [ ]
minus_value (fin false n d) b C q = (refl, q.1)
minus_value (fin true n d) b C q = absurd (true≢false q.0)

-- an eighth of x
pub eighth_of : (f : Format) (x : Float) (s : Bool) (a C : ℕ) → 0 < C → HasValue x s a C → mul f x eighth ≡ round f s a (C * 8)
unfolding mul
eighth_of f nan s a C P p = elim p [ ]
eighth_of f (inf _) s a C P p = elim p [ ]
eighth_of f (fin t m e) s a C P p =
    let g : unlike t false ≡ s = plain t ∙ p.0 in
    rw g
    (round_same f s (m * up e * (1 * 1)) (down e * 8) a (C * 8) (mul-pos (down_pos e) (lit< tt)) (mul-pos P (lit< tt))
    (ap (λ (z : ℕ). z * (C * 8)) (mul-one (m * up e)) ∙ sym (mul_assoc (m * up e) C 8) ∙ ap (λ (z : ℕ). z * 8) p.1 ∙ mul_assoc a (down e) 8))
  where
    plain : (t : Bool) → unlike t false ≡ t
    plain true = refl
    plain false = refl

-- the same value over k times the denominator, and back
pub scaled : (x : Float) (s : Bool) (a C k : ℕ) → HasValue x s a C → HasValue x s (a * k) (C * k)
scaled nan s a C k p = elim p [ ]
scaled (inf _) s a C k p = elim p [ ]
scaled (fin t m e) s a C k p = (p.0, sym (mul_assoc (m * up e) C k) ∙ ap (λ (z : ℕ). z * k) p.1 ∙ mul_right_comm a (down e) k)

pub unscaled : (x : Float) (s : Bool) (a C k : ℕ) → 0 < k → HasValue x s (a * k) (C * k) → HasValue x s a C
unscaled nan s a C k K p = elim p [ ]
unscaled (inf _) s a C k K p = elim p [ ]
unscaled (fin t m e) s a C k K p = (p.0, eq_of_mul-eq-mul_right k K (m * up e * C) (a * down e) (mul_assoc (m * up e) C k ∙ p.1 ∙ mul_right_comm a k (down e)))

-- ---- one step: none of the three operations rounds
module _ (m s : Float) (w n : ℕ) (W : w ≤ 60000 * 2097152) (N : n ≤ 60000) (vm : HasValue m false w 2097152) (vs : HasValue s false (n * 2097152) 2097152) where
  grown : w ≤ n * 2097152 → HasValue (smoothed m s) false (7 * w + n * 2097152) 16777216
  unfolding smoothed sub
  grown h =
      let d = n * 2097152 - w in
      let D : d < 2 ^ 53 = omega arith in
      let E : w * 8 + d < 2 ^ 53 = omega arith in
      let e : w * 8 + d ≡ 7 * w + n * 2097152 = omega arith in
      let v1 : HasValue (add binary64 s (neg m)) false d 2097152 = rw (less binary64 s (neg m) (n * 2097152) w 2097152 (lit< tt) h vs (minus_value m w 2097152 vm)) (exact binary64 false d 21 (lit≤ tt) D) in
      let v2 : HasValue (mul binary64 (add binary64 s (neg m)) eighth) false d 16777216 = rw (eighth_of binary64 (add binary64 s (neg m)) false d 2097152 (lit< tt) v1) (exact binary64 false d 24 (lit≤ tt) D) in
      rw (plus binary64 m (mul binary64 (add binary64 s (neg m)) eighth) (w * 8) d 16777216 (lit< tt) (scaled m false w 2097152 8 vm) v2, ← e) (exact binary64 false (w * 8 + d) 24 (lit≤ tt) E)

  shrunk : n * 2097152 < w → HasValue (smoothed m s) false (7 * w + n * 2097152) 16777216
  unfolding smoothed sub
  shrunk h =
      let d = w - n * 2097152 in
      let D : d < 2 ^ 53 = omega arith in
      let E : w * 8 - d < 2 ^ 53 = omega arith in
      let l : d ≤ w * 8 = omega arith in
      let e : w * 8 - d ≡ 7 * w + n * 2097152 = omega arith in
      let v1 : HasValue (add binary64 s (neg m)) true d 2097152 = rw (under binary64 s (neg m) (n * 2097152) w 2097152 (lit< tt) h vs (minus_value m w 2097152 vm)) (exact binary64 true d 21 (lit≤ tt) D) in
      let v2 : HasValue (mul binary64 (add binary64 s (neg m)) eighth) true d 16777216 = rw (eighth_of binary64 (add binary64 s (neg m)) true d 2097152 (lit< tt) v1) (exact binary64 true d 24 (lit≤ tt) D) in
      rw (less binary64 m (mul binary64 (add binary64 s (neg m)) eighth) (w * 8) d 16777216 (lit< tt) l (scaled m false w 2097152 8 vm) v2, ← e) (exact binary64 false (w * 8 - d) 24 (lit≤ tt) E)

  pub step : HasValue (smoothed m s) false (7 * w + n * 2097152) 16777216
  step = go (ltb (n * 2097152) w) (ltb→lt (n * 2097152) w) (nltb→le (n * 2097152) w)
    where
      go : (b : Bool) → (T b → n * 2097152 < w) → (T (not b) → w ≤ n * 2097152) → HasValue (smoothed m s) false (7 * w + n * 2097152) 16777216
      go true h k = shrunk (h tt)
      go false h k = grown (k tt)

-- ---- the whole numbers: after k samples the whole number is a multiple of 8 ^ (8 - k), so that an eighth of the next is whole
abbrev Multiple : ℕ → ℕ → Type 0
Multiple j w = (q : ℕ) × (w ≡ q * 8 ^ j)

top : (j : ℕ) → j ≤ 6 → (6 - j) + suc j ≡ 7
top j h = omega arith

next : (j w n : ℕ) → j ≤ 6 → Multiple (suc j) w → Multiple j (next_whole w n) × (next_whole w n * 8 ≡ 7 * w + n * 2097152)
next j w n h (q, e) =
    let r = 7 * q + n * 8 ^ (6 - j) in
    let a : 2097152 ≡ 8 ^ (6 - j) * 8 ^ suc j = ap (λ (x : ℕ). 8 ^ x) (sym (top j h)) ∙ pow-add 8 (6 - j) (suc j) in
    let b : 7 * w + n * 2097152 ≡ r * 8 ^ suc j =
    ap₂ (λ (x y : ℕ). 7 * x + n * y) e a ∙ ap₂ (λ (x y : ℕ). x + y) (sym (mul_assoc 7 q (8 ^ suc j))) (sym (mul_assoc n (8 ^ (6 - j)) (8 ^ suc j))) ∙ sym (add-mul (7 * q) (n * 8 ^ (6 - j)) (8 ^ suc j)) in
    let d : r * 8 ^ suc j ≡ r * 8 ^ j * 8 = ap (λ (x : ℕ). r * x) (pow-suc 8 j) ∙ sym (mul_assoc r (8 ^ j) 8) in
    let f : next_whole w n ≡ r * 8 ^ j = ap (λ (x : ℕ). x / 8) (b ∙ d) ∙ mul-div_cancel (r * 8 ^ j) (lit< tt) in
    ((r, f), ap (λ (x : ℕ). x * 8) f ∙ sym (b ∙ d))

bound : (w n x : ℕ) → w ≤ 60000 * 2097152 → n ≤ 60000 → x * 8 ≡ 7 * w + n * 2097152 → x ≤ 60000 * 2097152
bound w n x W N e = omega arith

-- a sample as a float is that whole number
pub of_whole : (n : ℕ) → n ≤ 60000 → HasValue (of_int binary64 (pos n)) false (n * 2097152) 2097152
unfolding of_int
of_whole n h = let l : n < 2 ^ 53 = omega arith in rw (← one-mul 2097152) (scaled (round binary64 false n 1) false n 1 2097152 (exact binary64 false n 0 (lit≤ tt) l))

-- ---- the mean of a sampled_of gauge, and its count
first_mean : (g : Gauge) (n : ℕ) → g.count ≡ 0 → (sampled_of g n).mean ≡ of_int binary64 (pos n)
unfolding sampled_of
first_mean g n h = rw (eq-eqb g.count 0 h)

first_count : (g : Gauge) (n : ℕ) → g.count ≡ 0 → (sampled_of g n).count ≡ 1
unfolding sampled_of
first_count g n h = rw (eq-eqb g.count 0 h)

positive : (x : ℕ) → 0 < x → x ≡ 0 → ⊥
positive x h e = omega arith

later_mean : (g : Gauge) (n : ℕ) → 0 < g.count → (sampled_of g n).mean ≡ smoothed g.mean (of_int binary64 (pos n))
unfolding sampled_of
later_mean g n h = rw (ne_eqb g.count 0 (positive g.count h))

later_count : (g : Gauge) (n : ℕ) → 0 < g.count → g.count < 8 → (sampled_of g n).count ≡ g.count + 1
unfolding sampled_of
later_count g n h l = rw (ne_eqb g.count 0 (positive g.count h), lt-ltb g.count 8 l)

-- ---- through the first eight samples
later : (ns : List ℕ) (g : Gauge) (w j : ℕ) → length ns ≤ j → g.count + j ≡ 8 → 0 < g.count → Samples ns → w ≤ 60000 * 2097152 → Multiple j w
    → HasValue g.mean false w 2097152
    → HasValue (after g ns).mean false (whole_from w ns) 2097152 × ((after g ns).count ≡ g.count + length ns) × NoRemainder w ns
unfolding after whole_from NoRemainder
later [] g w j L K P S W M v = (v, sym (add-zero g.count), tt)
later (n ∷ ns) g w zero L K P S W M v = absurd (not-suc-le-zero L)
later (n ∷ ns) g w (suc j) L K P S W M v =
    let c = g.count in
    let J : j ≤ 6 = omega arith in
    let l : c < 8 = omega arith in
    let t = next j w n J M in
    let x = next_whole w n in
    let u : HasValue (sampled_of g n).mean false x 2097152 =
    rw (later_mean g n P)
    (unscaled (smoothed g.mean (of_int binary64 (pos n))) false x 2097152 8 (lit< tt)
    (rw t.1 (step g.mean (of_int binary64 (pos n)) w n W S.0 v (of_whole n S.0)))) in
    let k : (sampled_of g n).count ≡ c + 1 = later_count g n P l in
    let K' : (sampled_of g n).count + j ≡ 8 = rw k (omega arith) in
    let P' : 0 < (sampled_of g n).count = rw k (omega arith) in
    let i = later ns (sampled_of g n) x j (le_of_suc-le-suc L) K' P' S.1 (bound w n x W S.0 t.1) t.0 u in
    (i.0, i.1 ∙ rw k (omega arith), (t.1, i.2))

-- Through the first eight samples n ∷ ns of a gauge that has none, the mean is exactly the whole number over 2,097,152 that the recurrence gives, and the count is how many there are.
pub through_eight : ThroughEight
unfolding after
through_eight g n ns z L S =
    let k : (sampled_of g n).count ≡ 1 = first_count g n z in
    let i =
    later ns (sampled_of g n) (n * 2097152) 7 L (rw k) (rw k (lit< tt)) S.1 (mul-le-mul_right 2097152 S.0) (n, refl) (rw (first_mean g n z) (of_whole n S.0)) in
    record { mean = i.0; whole = i.2; count = i.1 ∙ rw k (omega arith) }

-- ---- the test of lateness in whole numbers: through the first eight samples nothing of it rounds either
pub four_of_lem : (f : Format) (x : Float) (a C : ℕ) → 0 < C → HasValue x false a C → mul f four x ≡ round f false (4 * a) C
unfolding mul
four_of_lem f nan a C P p = elim p [ ]
four_of_lem f (inf _) a C P p = elim p [ ]
four_of_lem f (fin false m e) a C P p =
    round_same f false (1 * 4 * (m * up e)) (1 * down e) (4 * a) C (mul-pos (lit< tt) (down_pos e)) P
    (mul_assoc 4 (m * up e) C ∙ ap (λ (z : ℕ). 4 * z) p.1 ∙ sym (mul_assoc 4 a (down e)) ∙ ap (λ (z : ℕ). 4 * a * z) (sym (one-mul (down e))))
four_of_lem f (fin true m e) a C P p = absurd (true≢false p.0)

pub less_than : (x y : Float) (a b C : ℕ) → 0 < C → HasValue x false a C → HasValue y false b C → lt x y ≡ ltb a b
unfolding lt
less_than nan y a b C P p q = elim p [ ]
less_than (inf _) y a b C P p q = elim p [ ]
less_than (fin false m e) nan a b C P p q = elim q [ ]
less_than (fin false m e) (inf _) a b C P p q = elim q [ ]
less_than (fin false m e) (fin false n d) a b C P p q =
    let h = over (m * up e) (n * up d) (down e) (down d) a b C p.1 q.1 in
    let D = down e * down d in
    by (m * up e * down d) (n * up d * down e) D (mul-pos (down_pos e) (down_pos d)) h.0 h.1 (ltb a b) refl
  where
    by : (A B D : ℕ) → 0 < D → A * C ≡ a * D → B * C ≡ b * D → (t : Bool) → ltb a b ≡ t → ltb A B ≡ t
    by A B D Q u v true e = lt-ltb A B (lt_of_mul-lt-mul_right C (rw (u, v) (mul-lt-mul_of_pos_right (ltb-true a b e) Q)))
    by A B D Q u v false e = le-ltb A B (le_of_mul-le-mul_right (rw (u, v) (mul-le-mul_right D (ltb-false a b e))) P)
less_than (fin true m e) y a b C P p q = absurd (true≢false p.0)
less_than (fin false m e) (fin true n d) a b C P p q = absurd (true≢false q.0)

pub late_whole : (m s : Float) (w n : ℕ) → w ≤ 60000 * 2097152 → HasValue m false w 2097152 → HasValue s false (n * 2097152) 2097152 → late_at m s ≡ ltb (4 * w + 20 * 2097152) (n * 2097152)
unfolding late_at
late_whole m s w n W vm vs =
    let A : 4 * w < 2 ^ 53 = omega arith in
    let B : 4 * w + 20 * 2097152 < 2 ^ 53 = omega arith in
    let v1 : HasValue (mul binary64 four m) false (4 * w) 2097152 = rw (four_of_lem binary64 m w 2097152 (lit< tt) vm) (exact binary64 false (4 * w) 21 (lit≤ tt) A) in
    let v2 : HasValue (add binary64 (mul binary64 four m) twenty) false (4 * w + 20 * 2097152) 2097152 =
    rw (plus binary64 (mul binary64 four m) twenty (4 * w) (20 * 2097152) 2097152 (lit< tt) v1 (refl, refl)) (exact binary64 false (4 * w + 20 * 2097152) 21 (lit≤ tt) B) in
    less_than (add binary64 (mul binary64 four m) twenty) s (4 * w + 20 * 2097152) (n * 2097152) 2097152 (lit< tt) v2 vs

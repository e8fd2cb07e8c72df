-- Rows written one after the other: each adds its value to the number of its bytes.
-- Assumes nothing.
use mathlib.Core.Path.{◌≡◌, ◌∙◌, refl, ap, sym}
use mathlib.Core.Bool.{Bool, true, ◌&&◌}
use mathlib.Core.List.{List, [], ◌∷◌, ◌++◌, append_assoc}
use Prim.Native.Nat.{ℕ, zero, suc, ◌+◌, ◌-◌, ◌*◌, ◌/◌, ◌%◌, ◌^◌, ◌≤◌, ◌<◌}
use native.Mathlib.Nat.{mod-eq_of_lt, mod-lt, zero-mod, add-mul, mul_assoc, div-add-mod', div-lt_iff_lt-mul, mul-le-mul_right}
use native.Mathlib.Omega.{arith}
use lib.ListN.{length, take, drop, get_or, set, replicate, length-append, length-take, length-drop, take-append-drop, get_or-eq_default}
use lib.Seq.{take-nil, length-take-le, drop-drop, take_all, set_at}
use lib.Dec.{leb, ltb}
use lib.Pow.{pow_pos, pow-add, mod-pow-add}
use borrow.Author.Tests.{leb-true, ltb-true}
use Rattle.layout.specs.Layout.{bits_of, number_of, spread, gather, lay_out, are_bytes, written_of, number_at, be_of, laid_at}
use Rattle.layout.proofs.Bits.{and_left, and_right, bits_length, number_bits, number_one, number_append, spread-length, spread_append, gather_bytes, gather_spread, spread_gather}
use Rattle.layout.proofs.Places.{number_at_lem, number_bound, laid_in, be_length, be_bytes, spread_be, append_bytes}
use Rattle.link_message.specs.declared.Kind.{Kind}
use Rattle.link_message.specs.declared.Kind.TheVariants.{ConfirmLink, AddLink, AddLinkContinuation, DeleteLink, ConfirmRkey, TestLink, ConfirmRkeyContinuation, DeleteRkey}
use Rattle.link_message.specs.declared.Place.{Place}
use Rattle.link_message.specs.Layouts.{code_of, mark, table_of, count_of, no_place, most_rows, filled, value_at, values_in, reduced, third_first, in_message, end_of, bits_of_all, laid_rows, rows_of, nums, encode_of, within_b}
use Rattle.link_message.proofs.Rows.{made, sum_of}
use Rattle.link_message.proofs.RoundTrip.{sound, fit_in, written}
use Rattle.link_message.proofs.Table.{count_is}

-- the i-th value read, and reduced
pub value_at_lem : (t : List Place) (l : List ℕ) (i : ℕ) → i < length t → get_or (values_in t l) i 0 ≡ value_at l (get_or t i no_place)
unfolding values_in
value_at_lem [] l i h = absurd (omega arith)
value_at_lem (p ∷ t) l zero h = refl
value_at_lem (p ∷ t) l (suc i) h = value_at_lem t l i (omega arith)

pub values_length : (t : List Place) (l : List ℕ) → length (values_in t l) ≡ length t
unfolding values_in
values_length [] l = refl
values_length (p ∷ t) l = ap suc (values_length t l)

get_or_later : (vs : List ℕ) (i : ℕ) → get_or (drop 1 vs) i 0 ≡ get_or vs (suc i) 0
get_or_later [] i = refl
get_or_later (v ∷ vs) i = refl

pub reduced_at : (t : List Place) (vs : List ℕ) (i : ℕ) → i < length t → get_or (reduced t vs) i 0 ≡ get_or vs i 0 % 2 ^ (get_or t i no_place).3
unfolding reduced
reduced_at [] vs i h = absurd (omega arith)
reduced_at (p ∷ t) vs zero h = refl
reduced_at (p ∷ t) vs (suc i) h =
    reduced_at t (drop 1 vs) i (omega arith) ∙ ap (λ (v : ℕ). v % 2 ^ (get_or t i no_place).3) (get_or_later vs i)

pub reduced_length : (t : List Place) (vs : List ℕ) → length (reduced t vs) ≡ length t
unfolding reduced
reduced_length [] vs = refl
reduced_length (p ∷ t) vs = ap suc (reduced_length t (drop 1 vs))

-- twelve places, filled one after the other
unfoldable pub filled_to : List ℕ → ℕ → List ℕ
filled_to vs i = take i vs ++ replicate (most_rows - i) 0

pub filled_none : (vs : List ℕ) → replicate most_rows 0 ≡ filled_to vs 0
unfolding filled_to
filled_none vs = refl

pub filled_more : (vs : List ℕ) (i x : ℕ) → i < length vs → i < most_rows → x ≡ get_or vs i 0 → set (filled_to vs i) i x ≡ filled_to vs (i + 1)
unfolding filled_to
filled_more vs i x h k e =
    ap (λ (n : ℕ). set (take i vs ++ replicate n 0) i x) {x = most_rows - i} {y = suc (most_rows - (i + 1))} (omega arith)
    ∙ set_at (take i vs) 0 (replicate (most_rows - (i + 1)) 0) x i (length-take-le i vs (omega arith))
    ∙ ap (λ (v : ℕ). take i vs ++ v ∷ replicate (most_rows - (i + 1)) 0) e
    ∙ sym (append_assoc (take i vs) (get_or vs i 0 ∷ []) (replicate (most_rows - (i + 1)) 0))
    ∙ ap (λ (l : List ℕ). l ++ replicate (most_rows - (i + 1)) 0) (sym (next vs i h))
  where
    next : (vs : List ℕ) (i : ℕ) → i < length vs → take (i + 1) vs ≡ take i vs ++ (get_or vs i 0 ∷ [])
    next [] i h = absurd (omega arith)
    next (v ∷ vs) zero h = refl
    next (v ∷ vs) (suc i) h = ap (λ (n : ℕ). take n (v ∷ vs)) {x = suc i + 1} {y = suc (i + 1)} (omega arith) ∙ ap (λ (l : List ℕ). v ∷ l) (next vs i (omega arith))

pub filled_all : (vs : List ℕ) (i : ℕ) → i ≡ length vs → filled_to vs i ≡ filled vs
unfolding filled_to filled
filled_all vs i e = (λ j. take_all i vs (omega arith) j ++ replicate (most_rows - e j) 0)

-- the rows' bounds
pub record Within (p : Place) : Type 0 where
  pub inside : p.2 + p.3 ≤ 8 * p.1
  pub small : p.1 ≤ 8
  pub before : p.0 + p.1 ≤ 44
  pub low : p.2 < 64

all_within : List Place → Bool
all_within [] = true
all_within (p ∷ t) = (within_b p && ltb p.2 64) && all_within t

all_within_lem : (k : Kind) → all_within (table_of k) ≡ true
unfolding all_within within_b table_of
all_within_lem ConfirmLink = refl
all_within_lem AddLink = refl
all_within_lem AddLinkContinuation = refl
all_within_lem DeleteLink = refl
all_within_lem ConfirmRkey = refl
all_within_lem TestLink = refl
all_within_lem ConfirmRkeyContinuation = refl
all_within_lem DeleteRkey = refl

within_one : (p : Place) → (within_b p && ltb p.2 64) ≡ true → Within p
unfolding within_b
within_one p h =
    let a = and_left (within_b p) (ltb p.2 64) h in
    let d = and_right (leb (p.2 + p.3) (8 * p.1)) (leb p.1 8 && leb (p.0 + p.1) 44) a in
    let e : p.1 ≤ 8 = leb-true _ _ (and_left (leb p.1 8) (leb (p.0 + p.1) 44) d) in
    record {
      inside = leb-true _ _ (and_left (leb (p.2 + p.3) (8 * p.1)) (leb p.1 8 && leb (p.0 + p.1) 44) a);
      small = e;
      before = leb-true _ _ (and_right (leb p.1 8) (leb (p.0 + p.1) 44) d);
      low = ltb-true _ _ (and_right (within_b p) (ltb p.2 64) h);
    }

within_at : (t : List Place) (i : ℕ) → i < length t → all_within t ≡ true → Within (get_or t i no_place)
unfolding all_within
within_at [] i h a = absurd (omega arith)
within_at (p ∷ t) zero h a = within_one p (and_left (within_b p && ltb p.2 64) (all_within t) a)
within_at (p ∷ t) (suc i) h a = within_at t i (omega arith) (and_right (within_b p && ltb p.2 64) (all_within t) a)

pub within : (k : Kind) (i : ℕ) → i < count_of k → Within (get_or (table_of k) i no_place)
within k i h = within_at (table_of k) i (omega (arith, count_is k)) (all_within_lem k)

-- room for a value where the row's bits are zero
pub room : (N n low w x : ℕ) → N < 2 ^ (8 * n) → low + w ≤ 8 * n → N / 2 ^ low % 2 ^ w ≡ 0 → x < 2 ^ w → N + x * 2 ^ low < 2 ^ (8 * n)
room N n low w x h k z l =
    let c = 8 * n - (w + low) in
    let M = 2 ^ (w + low) in
    let e : 2 ^ (8 * n) ≡ 2 ^ c * M = ap (λ (j : ℕ). 2 ^ j) {x = 8 * n} {y = c + (w + low)} (omega arith) ∙ pow-add 2 c (w + low) in
    let m : M ≡ 2 ^ w * 2 ^ low = pow-add 2 w low in
    let r : N % M ≡ N % 2 ^ low = mod-pow-add N w low ∙ ap (λ (q : ℕ). q * 2 ^ low + N % 2 ^ low) z ∙ omega arith in
    let b : N % 2 ^ low < 2 ^ low = mod-lt N (pow_pos low) in
    let q : N / M < 2 ^ c = (div-lt_iff_lt-mul {k = M} {x = N} {y = 2 ^ c} (pow_pos (w + low))).1 (omega arith) in
    let s : (N / M + 1) * M ≤ 2 ^ c * M = mul-le-mul_right M (omega arith) in
    let t : (x + 1) * 2 ^ low ≤ 2 ^ w * 2 ^ low = mul-le-mul_right (2 ^ low) (omega arith) in
    omega (arith, div-add-mod' N M, add-mul (N / M) 1 M, add-mul x 1 (2 ^ low))

-- bytes with one number laid anew
take_bytes : (n : ℕ) (l : List ℕ) → are_bytes l ≡ true → are_bytes (take n l) ≡ true
unfolding are_bytes
take_bytes zero l h = refl
take_bytes (suc n) [] h = refl
take_bytes (suc n) (b ∷ l) h = λ i. and_left (ltb b 256) (are_bytes l) h i && take_bytes n l (and_right (ltb b 256) (are_bytes l) h) i

drop_bytes : (n : ℕ) (l : List ℕ) → are_bytes l ≡ true → are_bytes (drop n l) ≡ true
unfolding are_bytes
drop_bytes zero l h = h
drop_bytes (suc n) [] h = refl
drop_bytes (suc n) (b ∷ l) h = drop_bytes n l (and_right (ltb b 256) (are_bytes l) h)

pub record Laid (l r : List ℕ) (add : ℕ) : Type 0 where
  pub size : length r ≡ length l
  pub bytes : are_bytes r ≡ true
  pub sum : number_of (spread r) ≡ number_of (spread l) + add

three : (a b d : List ℕ) → number_of (spread (a ++ (b ++ d)))
    ≡ number_of (spread a) * 2 ^ (8 * (length b + length d)) + (number_of (spread b) * 2 ^ (8 * length d) + number_of (spread d))
three a b d =
    ap number_of (spread_append a (b ++ d))
    ∙ number_append (spread a) (spread (b ++ d))
    ∙ (λ i.
    number_of (spread a) * 2 ^ (spread-length (b ++ d) ∙ ap (λ (n : ℕ). 8 * n) (length-append b d)) i
    + (ap number_of (spread_append b d) ∙ number_append (spread b) (spread d)) i)
    ∙ ap (λ (n : ℕ). number_of (spread a) * 2 ^ (8 * (length b + length d)) + (number_of (spread b) * 2 ^ n + number_of (spread d))) (spread-length d)

pub laid_sum : (l : List ℕ) (i n y : ℕ) → are_bytes l ≡ true → i + n ≤ length l → number_at l i n + y < 2 ^ (8 * n)
    → Laid l (laid_at l i (be_of n (number_at l i n + y))) (y * 2 ^ (8 * (length l - (i + n))))
laid_sum l i n y ok h f =
    let N = number_at l i n in
    let A = take i l in
    let P = take n (drop i l) in
    let Q = be_of n (N + y) in
    let D = drop (i + n) l in
    let l_p : length P ≡ n = length-take-le n (drop i l) (omega (arith, length-drop i l)) in
    let l_q : length Q ≡ n = be_length n (N + y) in
    let l_d : length D ≡ length l - (i + n) = length-drop (i + n) l in
    let l_a : length A ≡ i = length-take-le i l (omega arith) in
    let whole : l ≡ A ++ (P ++ D) =
    sym (take-append-drop i l)
    ∙ ap (λ (t : List ℕ). A ++ t) (sym (take-append-drop n (drop i l)) ∙ ap (λ (t : List ℕ). P ++ t) (drop-drop n i l)) in
    let laid : laid_at l i Q ≡ A ++ (Q ++ D) =
    laid_in l Q i (omega arith) ∙ ap (λ (j : ℕ). A ++ (Q ++ drop (i + j) l)) l_q in
    let q : number_of (spread Q) ≡ N + y =
    ap number_of (spread_be n (N + y)) ∙ number_bits (8 * n) (N + y) ∙ mod-eq_of_lt f in
    let before : number_of (spread l)
    ≡ number_of (spread A) * 2 ^ (8 * (n + length D)) + (N * 2 ^ (8 * length D) + number_of (spread D)) =
    ap (λ (t : List ℕ). number_of (spread t)) whole
    ∙ three A P D
    ∙ (λ j. number_of (spread A) * 2 ^ (8 * (l_p j + length D)) + (sym (number_at_lem l i n) j * 2 ^ (8 * length D) + number_of (spread D))) in
    let after : number_of (spread (laid_at l i Q))
    ≡ number_of (spread A) * 2 ^ (8 * (n + length D)) + ((N + y) * 2 ^ (8 * length D) + number_of (spread D)) =
    ap (λ (t : List ℕ). number_of (spread t)) laid
    ∙ three A Q D
    ∙ (λ j. number_of (spread A) * 2 ^ (8 * (l_q j + length D)) + (q j * 2 ^ (8 * length D) + number_of (spread D))) in
    record {
      size = ap length laid ∙ length-append A (Q ++ D) ∙ omega (arith, length-append Q D);
      bytes =
          ap are_bytes laid
          ∙ append_bytes A (Q ++ D) (take_bytes i l ok) (append_bytes Q D (be_bytes n (N + y)) (drop_bytes (i + n) l ok));
      sum =
          after
          ∙ omega (arith, add-mul N y (2 ^ (8 * length D)))
          ∙ (λ j. sym before j + y * 2 ^ (8 * l_d j));
    }

-- bytes, as many and of one number, are the same
pub same_bytes : (a b : List ℕ) → are_bytes a ≡ true → are_bytes b ≡ true → length a ≡ length b
    → number_of (spread a) ≡ number_of (spread b) → a ≡ b
same_bytes a b ba bb e n =
    sym (gather_spread a ba)
    ∙ (λ i. gather (e i) (number_one (spread a) (spread b) (spread-length a ∙ ap (λ (k : ℕ). 8 * k) e ∙ sym (spread-length b)) n i))
    ∙ gather_spread b bb

-- the number of what is written
sum_third : (a b c : Place) (t : List Place) (vs : List ℕ)
    → sum_of (third_first (a ∷ b ∷ c ∷ t)) (third_first (reduced (a ∷ b ∷ c ∷ t) vs)) ≡ sum_of (a ∷ b ∷ c ∷ t) (reduced (a ∷ b ∷ c ∷ t) vs)
unfolding sum_of reduced third_first
sum_third a b c t vs =
    swap (get_or vs 0 0 % 2 ^ a.3 * 2 ^ (bits_of_all - end_of a)) (get_or (drop 1 vs) 0 0 % 2 ^ b.3 * 2 ^ (bits_of_all - end_of b))
    (get_or (drop 1 (drop 1 vs)) 0 0 % 2 ^ c.3 * 2 ^ (bits_of_all - end_of c)) (sum_of t (reduced t (drop 1 (drop 1 (drop 1 vs)))))
  where
    swap : (x y z s : ℕ) → z + (x + (y + s)) ≡ x + (y + (z + s))
    swap x y z s = omega arith

sum_in : (k : Kind) (vs : List ℕ) → sum_of (in_message k (table_of k)) (in_message k (reduced (table_of k) vs)) ≡ sum_of (table_of k) (reduced (table_of k) vs)
unfolding table_of
sum_in ConfirmLink vs = refl
sum_in AddLink vs = sum_third _ _ _ _ vs
sum_in AddLinkContinuation vs = refl
sum_in DeleteLink vs = refl
sum_in ConfirmRkey vs = refl
sum_in TestLink vs = refl
sum_in ConfirmRkeyContinuation vs = refl
sum_in DeleteRkey vs = refl

unfoldable pub head_of : Kind → ℕ
head_of k = number_of (bits_of 8 (code_of k) ++ bits_of 8 mark) * 2 ^ 336

pub encode_number : (k : Kind) (vs : List ℕ) → number_of (spread (encode_of k vs)) ≡ head_of k + sum_of (table_of k) (reduced (table_of k) vs)
unfolding encode_of written_of rows_of lay_out head_of
encode_number k vs =
    let ws = in_message k (reduced (table_of k) vs) in
    let r = made 16 (in_message k (table_of k)) ws (sound k) (fit_in k vs) in
    let m = lay_out (laid_rows 16 (in_message k (table_of k))) (nums ws) in
    let a = bits_of 8 (code_of k) in
    let b = bits_of 8 mark in
    let e : length (a ++ (b ++ m)) ≡ 352 =
    length-append a (b ++ m) ∙ omega (arith, length-append b m, bits_length 8 (code_of k), bits_length 8 mark, r.long) in
    ap number_of (spread_gather 44 (a ++ (b ++ m)) e ∙ sym (append_assoc a b m))
    ∙ number_append (a ++ b) m
    ∙ (λ i. number_of (a ++ b) * 2 ^ r.long i + (r.sum ∙ sum_in k vs) i)

encode_bytes : (k : Kind) (vs : List ℕ) → are_bytes (encode_of k vs) ≡ true
unfolding encode_of written_of
encode_bytes k vs = gather_bytes 44 _

-- one more value
sum_more : (t : List Place) (vs : List ℕ) (i : ℕ) → i < length t
    → sum_of t (reduced t (take (suc i) vs))
    ≡ sum_of t (reduced t (take i vs)) + get_or vs i 0 % 2 ^ (get_or t i no_place).3 * 2 ^ (bits_of_all - end_of (get_or t i no_place))
unfolding sum_of reduced
sum_more [] vs i h = absurd (omega arith)
sum_more (p ∷ t) [] zero h =
    let z : 0 % 2 ^ p.3 * 2 ^ (bits_of_all - end_of p) ≡ 0 = ap (λ (x : ℕ). x * 2 ^ (bits_of_all - end_of p)) (zero-mod (2 ^ p.3)) ∙ omega arith in
    (λ i. get_or (take-nil 1 i) 0 0 % 2 ^ p.3 * 2 ^ (bits_of_all - end_of p) + sum_of t (reduced t (drop 1 (take-nil 1 i)))) ∙ omega arith
sum_more (p ∷ t) (v ∷ vs) zero h =
    let z : 0 % 2 ^ p.3 * 2 ^ (bits_of_all - end_of p) ≡ 0 = ap (λ (x : ℕ). x * 2 ^ (bits_of_all - end_of p)) (zero-mod (2 ^ p.3)) ∙ omega arith in
    omega arith
sum_more (p ∷ t) [] (suc i) h =
    let q = get_or t i no_place in
    let z : 0 % 2 ^ q.3 * 2 ^ (bits_of_all - end_of q) ≡ 0 = ap (λ (x : ℕ). x * 2 ^ (bits_of_all - end_of q)) (zero-mod (2 ^ q.3)) ∙ omega arith in
    omega arith
sum_more (p ∷ t) (v ∷ vs) (suc i) h = omega (arith, sum_more t vs i (omega arith))

-- a row of a message in which it is zero
pub record Step (k : Kind) (vs : List ℕ) (i : ℕ) (p : Place) (x : ℕ) : Type 0 where
  pub fits : number_at (encode_of k (take i vs)) p.0 p.1 + x < 2 ^ (8 * p.1)
  pub more : laid_at (encode_of k (take i vs)) p.0 (be_of p.1 (number_at (encode_of k (take i vs)) p.0 p.1 + x)) ≡ encode_of k (take (i + 1) vs)

past_end : (vs : List ℕ) (i : ℕ) → get_or (take i vs) i 0 ≡ 0
past_end vs i = get_or-eq_default (take i vs) 0 (omega (arith, length-take i vs))

zero-there : (k : Kind) (vs : List ℕ) (i : ℕ) → i < count_of k → value_at (encode_of k (take i vs)) (get_or (table_of k) i no_place) ≡ 0
zero-there k vs i h =
    let t = table_of k in
    let n : i < length t = omega (arith, count_is k) in
    sym (value_at_lem t (encode_of k (take i vs)) i n)
    ∙ ap (λ (l : List ℕ). get_or l i 0) (written k (take i vs)).back
    ∙ reduced_at t (take i vs) i n
    ∙ ap (λ (v : ℕ). v % 2 ^ (get_or t i no_place).3) (past_end vs i)
    ∙ zero-mod _

pub step : (k : Kind) (vs : List ℕ) (i : ℕ) → i < count_of k
    → Step k vs i (get_or (table_of k) i no_place) (get_or vs i 0 % 2 ^ (get_or (table_of k) i no_place).3 * 2 ^ (get_or (table_of k) i no_place).2)
unfolding value_at
step k vs i h =
    let t = table_of k in
    let p = get_or t i no_place in
    let v = get_or vs i 0 % 2 ^ p.3 in
    let l = encode_of k (take i vs) in
    let l' = encode_of k (take (i + 1) vs) in
    let w = within k i h in
    let size : length l ≡ 44 = (written k (take i vs)).size in
    let f : number_at l p.0 p.1 + v * 2 ^ p.2 < 2 ^ (8 * p.1) =
    room (number_at l p.0 p.1) p.1 p.2 p.3 v (number_bound l p.0 p.1) w.inside (zero-there k vs i h)
    (mod-lt (get_or vs i 0) (pow_pos p.3)) in
    let r = laid_sum l p.0 p.1 (v * 2 ^ p.2) (encode_bytes k (take i vs)) (omega (arith, w.before)) f in
    let weight : v * 2 ^ p.2 * 2 ^ (8 * (length l - (p.0 + p.1))) ≡ v * 2 ^ (bits_of_all - end_of p) =
    mul_assoc v (2 ^ p.2) (2 ^ (8 * (length l - (p.0 + p.1))))
    ∙ ap (λ (x : ℕ). v * x) (sym (pow-add 2 p.2 (8 * (length l - (p.0 + p.1)))))
    ∙ ap (λ (x : ℕ). v * 2 ^ x) {x = p.2 + 8 * (length l - (p.0 + p.1))} {y = bits_of_all - end_of p} (omega (arith, w.before, w.inside)) in
    let sums : number_of (spread l') ≡ number_of (spread l) + v * 2 ^ (bits_of_all - end_of p) =
    ap (λ (n : ℕ). number_of (spread (encode_of k (take n vs)))) {x = i + 1} {y = suc i} (omega arith)
    ∙ encode_number k (take (suc i) vs)
    ∙ ap (λ (x : ℕ). head_of k + x) (sum_more t vs i (omega (arith, count_is k)))
    ∙ omega (arith, encode_number k (take i vs)) in
    record {
      fits = f;
      more =
          same_bytes _ l' r.bytes (encode_bytes k (take (i + 1) vs)) (r.size ∙ size ∙ sym (written k (take (i + 1) vs)).size)
          (r.sum ∙ ap (λ (x : ℕ). number_of (spread l) + x) weight ∙ sym sums);
    }

-- at first there are the kind and 2C
pub none_yet : (k : Kind) → code_of k ∷ mark ∷ replicate 42 0 ≡ encode_of k []
unfolding encode_of written_of rows_of lay_out laid_rows nums reduced table_of third_first gather bits_of number_of
none_yet ConfirmLink = refl
none_yet AddLink = refl
none_yet AddLinkContinuation = refl
none_yet DeleteLink = refl
none_yet ConfirmRkey = refl
none_yet TestLink = refl
none_yet ConfirmRkeyContinuation = refl
none_yet DeleteRkey = refl

reduced_take : (t : List Place) (vs : List ℕ) (n : ℕ) → length t ≤ n → reduced t (take n vs) ≡ reduced t vs
unfolding reduced
reduced_take [] vs n h = refl
reduced_take (p ∷ t) [] zero h = absurd (omega arith)
reduced_take (p ∷ t) [] (suc n) h = refl
reduced_take (p ∷ t) (v ∷ vs) zero h = absurd (omega arith)
reduced_take (p ∷ t) (v ∷ vs) (suc n) h = ap (λ (l : List ℕ). v % 2 ^ p.3 ∷ l) (reduced_take t vs n (omega arith))

pub all_there : (k : Kind) (vs : List ℕ) (n : ℕ) → count_of k ≤ n → encode_of k (take n vs) ≡ encode_of k vs
unfolding encode_of
all_there k vs n h =
    ap (λ (ws : List ℕ). written_of 44 (rows_of k) (nums (in_message k ws))) (reduced_take (table_of k) vs n (omega (arith, count_is k)))

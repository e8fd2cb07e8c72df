-- Bits and the number that they spell; bytes and their bits.
-- Assumes nothing.
use mathlib.Core.Path.{◌≡◌, ◌∙◌, refl, ap, sym, subst}
use mathlib.Core.Bool.{Bool, true, false, cond, ◌&&◌}
use mathlib.Core.List.{List, [], ◌∷◌, ◌++◌, append_assoc}
use Prim.Native.Nat.{ℕ, zero, suc, ◌+◌, ◌*◌, ◌/◌, ◌%◌, ◌^◌, ◌≤◌, ◌<◌}
use native.Mathlib.Nat.{pow-suc, mod-eq_of_lt, mod-one, div-div-eq-div-mul, add-mul, mul_comm, zero-add, suc-add}
use native.Mathlib.Numerals.{one-add}
use native.Mathlib.Omega.{arith}
use lib.ListN.{length, take, drop, get_or, length-append, length-take, length-drop, take-append-drop}
use lib.Seq.{take_at, drop_at, length-take-le, drop-drop, drop-nil, take-append-le, drop-append-le}
use lib.Pow.{pow-add, pow_mono, mod-pow-add}
use lib.Dec.{eqb, ltb}
use borrow.Author.Tests.{ltb-true, lt-ltb}
use Rattle.layout.specs.Layout.{bits_of, number_of, spread, gather, are_bytes}

pub and_left : (a b : Bool) → (a && b) ≡ true → a ≡ true
and_left true b e = refl
and_left false b e = e

pub and_right : (a b : Bool) → (a && b) ≡ true → b ≡ true
and_right true b e = e
and_right false b e = let z : ◌≡◌ {A = ℕ} 0 1 = cc in absurd (omega arith)

pub bits_length : (w x : ℕ) → length (bits_of w x) ≡ w
unfolding bits_of
bits_length zero x = refl
bits_length (suc w) x = ap suc (bits_length w x)

-- a bit as a number
weight : (y p : ℕ) → y < 2 → cond (eqb y 1) p 0 ≡ y * p
weight zero p h = omega arith
weight (suc zero) p h = omega arith
weight (suc (suc y)) p h = absurd (omega arith)

-- x modulo 2^(w+1), from its digit at 2^w
mod_next : (x w : ℕ) → x / 2 ^ w % 2 * 2 ^ w + x % 2 ^ w ≡ x % 2 ^ suc w
mod_next x w = sym (mod-pow-add x 1 w) ∙ ap (λ (n : ℕ). x % 2 ^ n) (one-add w)

-- the w low bits of x spell x modulo 2^w
pub number_bits : (w x : ℕ) → number_of (bits_of w x) ≡ x % 2 ^ w
unfolding bits_of number_of
number_bits zero x = sym (mod-one x)
number_bits (suc w) x =
    let e : cond (eqb (x / 2 ^ w % 2) 1) (2 ^ length (bits_of w x)) 0 ≡ x / 2 ^ w % 2 * 2 ^ w =
    ap (λ (k : ℕ). cond (eqb (x / 2 ^ w % 2) 1) (2 ^ k) 0) (bits_length w x) ∙ weight (x / 2 ^ w % 2) (2 ^ w) (omega arith) in
    (λ i. e i + number_bits w x i) ∙ mod_next x w

pub number_less : (m : List Bool) → number_of m < 2 ^ length m
unfolding number_of
number_less [] = omega arith
number_less (true ∷ m) = omega (arith, number_less m, pow-suc 2 (length m))
number_less (false ∷ m) = omega (arith, number_less m, pow-suc 2 (length m))

-- bits, as many and of one number, are the same
pub number_one : (a b : List Bool) → length a ≡ length b → number_of a ≡ number_of b → a ≡ b
unfolding number_of
number_one [] [] h e = refl
number_one [] (y ∷ b) h e = absurd (omega arith)
number_one (x ∷ a) [] h e = absurd (omega arith)
number_one (x ∷ a) (y ∷ b) h e = go x y (ap (λ (n : ℕ). 2 ^ n) k) e (number_one a b k)
  where
    k : length a ≡ length b
    k = omega arith

    go : (x y : Bool) → 2 ^ length a ≡ 2 ^ length b → number_of (x ∷ a) ≡ number_of (y ∷ b) → (number_of a ≡ number_of b → a ≡ b) → x ∷ a ≡ y ∷ b
    go true true p e f = ap (λ (t : List Bool). true ∷ t) (f (omega arith))
    go false false p e f = ap (λ (t : List Bool). false ∷ t) (f (omega arith))
    go true false p e f = absurd (omega (arith, number_less a, number_less b))
    go false true p e f = absurd (omega (arith, number_less a, number_less b))

pub number_append : (a b : List Bool) → number_of (a ++ b) ≡ number_of a * 2 ^ length b + number_of b
unfolding number_of
number_append [] b = omega arith
number_append (x ∷ a) b = go x (number_append a b) (ap (λ (n : ℕ). 2 ^ n) (length-append a b) ∙ pow-add 2 (length a) (length b))
  where
    go : (x : Bool) → number_of (a ++ b) ≡ number_of a * 2 ^ length b + number_of b → 2 ^ length (a ++ b) ≡ 2 ^ length a * 2 ^ length b
        → number_of (x ∷ (a ++ b)) ≡ number_of (x ∷ a) * 2 ^ length b + number_of b
    go true h p = omega (arith, add-mul (2 ^ length a) (number_of a) (2 ^ length b))
    go false h p = omega (arith, add-mul 0 (number_of a) (2 ^ length b))

-- bits are those of their number
pub bits_number : (m : List Bool) → bits_of (length m) (number_of m) ≡ m
bits_number m =
    number_one (bits_of (length m) (number_of m)) m (bits_length (length m) (number_of m))
    (number_bits (length m) (number_of m) ∙ mod-eq_of_lt (number_less m))

pub bits_of_lem : (m : List Bool) (w : ℕ) → length m ≡ w → bits_of w (number_of m) ≡ m
bits_of_lem m w e = subst (λ (k : ℕ). bits_of k (number_of m) ≡ m) e (bits_number m)

-- two numbers' bits, one behind the other
pub bits_join : (a b x y : ℕ) → x < 2 ^ a → y < 2 ^ b → bits_of a x ++ bits_of b y ≡ bits_of (a + b) (x * 2 ^ b + y)
bits_join a b x y hx hy =
    let m = bits_of a x ++ bits_of b y in
    let e : number_of m ≡ x * 2 ^ b + y =
    number_append (bits_of a x) (bits_of b y)
    ∙ (λ i. (number_bits a x ∙ mod-eq_of_lt hx) i * 2 ^ bits_length b y i + (number_bits b y ∙ mod-eq_of_lt hy) i) in
    sym (bits_of_lem m (a + b) (length-append (bits_of a x) (bits_of b y) ∙ (λ i. bits_length a x i + bits_length b y i)))
    ∙ ap (bits_of (a + b)) e

-- a number's bits, high and low
pub bits_split : (a b x : ℕ) → bits_of (a + b) x ≡ bits_of a (x / 2 ^ b) ++ bits_of b x
unfolding bits_of
bits_split zero b x = ap (λ (n : ℕ). bits_of n x) (zero-add b)
bits_split (suc a) b x =
    ap (λ (n : ℕ). bits_of n x) (suc-add a b)
    ∙ (λ i. eqb (e i % 2) 1 ∷ bits_split a b x i)
  where
    e : x / 2 ^ (a + b) ≡ x / 2 ^ b / 2 ^ a
    e = ap (λ (p : ℕ). x / p) (pow-add 2 a b ∙ mul_comm (2 ^ a) (2 ^ b)) ∙ sym (div-div-eq-div-mul x (2 ^ b) (2 ^ a))

-- the bits of zero
pub number_zero : (m : List Bool) → number_of m ≡ 0 → m ≡ bits_of (length m) 0
number_zero m e = sym (bits_number m) ∙ ap (bits_of (length m)) e

pub bytes_at_lem : (l : List ℕ) → are_bytes l ≡ true → (i : ℕ) → get_or l i 0 < 256
unfolding are_bytes
bytes_at_lem [] e i = omega arith
bytes_at_lem (b ∷ l) e zero = ltb-true b 256 (and_left _ _ e)
bytes_at_lem (b ∷ l) e (suc i) = bytes_at_lem l (and_right (ltb b 256) _ e) i

pub are_bytes_lem : (l : List ℕ) → ((i : ℕ) → get_or l i 0 < 256) → are_bytes l ≡ true
unfolding are_bytes
are_bytes_lem [] h = refl
are_bytes_lem (b ∷ l) h = λ i. lt-ltb b 256 (h 0) i && are_bytes_lem l (λ j. h (suc j)) i

pub spread-length : (l : List ℕ) → length (spread l) ≡ 8 * length l
unfolding spread
spread-length [] = refl
spread-length (b ∷ l) = length-append (bits_of 8 b) (spread l) ∙ omega (arith, bits_length 8 b, spread-length l)

pub spread_append : (a b : List ℕ) → spread (a ++ b) ≡ spread a ++ spread b
unfolding spread
spread_append [] b = refl
spread_append (x ∷ a) b = ap (λ (t : List Bool). bits_of 8 x ++ t) (spread_append a b) ∙ sym (append_assoc (bits_of 8 x) (spread a) (spread b))

pub spread_drop : (i : ℕ) (l : List ℕ) → drop (8 * i) (spread l) ≡ spread (drop i l)
unfolding spread
spread_drop zero l = refl
spread_drop (suc i) [] = drop-nil (8 * suc i)
spread_drop (suc i) (b ∷ l) =
    ap (λ (n : ℕ). drop n (bits_of 8 b ++ spread l)) {x = 8 * suc i} {y = 8 + 8 * i} (omega arith)
    ∙ sym (drop-drop (8 * i) 8 (bits_of 8 b ++ spread l))
    ∙ ap (drop (8 * i)) (drop_at (bits_of 8 b) (spread l) 8 (bits_length 8 b))
    ∙ spread_drop i l

pub gather_length : (n : ℕ) (m : List Bool) → length (gather n m) ≡ n
unfolding gather
gather_length zero m = refl
gather_length (suc n) m = ap suc (gather_length n (drop 8 m))

pub gather_bytes : (n : ℕ) (m : List Bool) → are_bytes (gather n m) ≡ true
unfolding gather are_bytes
gather_bytes zero m = refl
gather_bytes (suc n) m =
    let le : length (take 8 m) ≤ 8 = omega (arith, length-take 8 m) in
    let h : number_of (take 8 m) < 256 = omega (arith, number_less (take 8 m), pow_mono le) in
    λ i. lt-ltb (number_of (take 8 m)) 256 h i && gather_bytes n (drop 8 m) i

-- bytes, spread and gathered
pub gather_spread : (l : List ℕ) → are_bytes l ≡ true → gather (length l) (spread l) ≡ l
unfolding gather spread are_bytes
gather_spread [] e = refl
gather_spread (b ∷ l) e =
    let h : b < 256 = ltb-true b 256 (and_left _ _ e) in
    λ i.
    (ap number_of (take_at (bits_of 8 b) (spread l) 8 (bits_length 8 b)) ∙ number_bits 8 b ∙ mod-eq_of_lt h) i
    ∷ (ap (gather (length l)) (drop_at (bits_of 8 b) (spread l) 8 (bits_length 8 b)) ∙ gather_spread l (and_right (ltb b 256) _ e)) i

-- bits, gathered and spread
pub spread_gather : (n : ℕ) (m : List Bool) → length m ≡ 8 * n → spread (gather n m) ≡ m
unfolding gather spread
spread_gather zero [] e = refl
spread_gather zero (b ∷ m) e = absurd (omega arith)
spread_gather (suc n) m e =
    (λ i.
    bits_of_lem (take 8 m) 8 (length-take-le 8 m (omega arith)) i
    ++ spread_gather n (drop 8 m) (length-drop 8 m ∙ omega arith) i)
    ∙ take-append-drop 8 m

pub gather_append : (a b : ℕ) (x y : List Bool) → length x ≡ 8 * a → gather (a + b) (x ++ y) ≡ gather a x ++ gather b y
unfolding gather
gather_append zero b [] y e = ap (λ (n : ℕ). gather n y) (zero-add b)
gather_append zero b (c ∷ x) y e = absurd (omega arith)
gather_append (suc a) b x y e =
    ap (λ (n : ℕ). gather n (x ++ y)) (suc-add a b)
    ∙ (λ i.
    number_of (take-append-le 8 x y (omega arith) i)
    ∷ (ap (gather (a + b)) (drop-append-le 8 x y (omega arith)) ∙ gather_append a b (drop 8 x) y (length-drop 8 x ∙ omega arith)) i)

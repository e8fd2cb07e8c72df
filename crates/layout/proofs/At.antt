-- Rows by the bit where each begins; a part of a number's bits.
-- Assumes nothing.
use mathlib.Core.Path.{◌≡◌, ◌∙◌, refl, ap, sym, subst}
use mathlib.Core.Bool.{Bool, true, ◌&&◌}
use mathlib.Core.List.{List, [], ◌∷◌}
use Prim.Native.Nat.{ℕ, ◌+◌, ◌*◌, ◌/◌, ◌%◌, ◌^◌, ◌≤◌, ◌<◌}
use native.Mathlib.Nat.{add-mul, mul_assoc, mod-eq_of_lt, mul-add-mod_self_right, mul-add-div_right, div-eq_of_lt, add-zero}
use native.Mathlib.Omega.{arith}
use lib.ListN.{length, take, drop, length-drop, take-append-drop}
use lib.Seq.{drop-drop, length-take-le, drop-append-le, take-append-le}
use lib.Dec.{eqb}
use lib.Pow.{pow_pos, pow-add}
use Rattle.layout.specs.Layout.{number_of, spread, gather, Row, Field, cut, as_given, number_at, bytes_at}
use Rattle.layout.specs.Layout.Row.{fixed, reserved, number, bytes}
use Rattle.layout.specs.Layout.Field.{num, str}
use Rattle.layout.proofs.Bits.{number_less, number_append, spread-length}

-- the number of w bits, and n bytes, from bit k on
unfoldable pub number_from : List Bool → ℕ → ℕ → ℕ
number_from m k w = number_of (take w (drop k m))

unfoldable pub bytes_from : List Bool → ℕ → ℕ → List ℕ
bytes_from m k n = gather n (take (8 * n) (drop k m))

pub number_from_lem : (l : List ℕ) (i n : ℕ) → number_from (spread l) (8 * i) (8 * n) ≡ number_at l i n
unfolding number_from number_at
number_from_lem l i n = refl

pub bytes_from_lem : (l : List ℕ) (i n : ℕ) → bytes_from (spread l) (8 * i) n ≡ bytes_at l i n
unfolding bytes_from bytes_at
bytes_from_lem l i n = refl

unfoldable pub cut_at : List Row → ℕ → List Bool → List Field
cut_at [] k m = []
cut_at (fixed w v ∷ rows) k m = cut_at rows (k + w) m
cut_at (reserved w ∷ rows) k m = cut_at rows (k + w) m
cut_at (number w ∷ rows) k m = num (number_from m k w) ∷ cut_at rows (k + w) m
cut_at (bytes n ∷ rows) k m = str (bytes_from m k n) ∷ cut_at rows (k + 8 * n) m

pub cut_at_lem : (rows : List Row) (k : ℕ) (m : List Bool) → cut rows (drop k m) ≡ cut_at rows k m
unfolding cut cut_at number_from bytes_from
cut_at_lem [] k m = refl
cut_at_lem (fixed w v ∷ rows) k m = ap (cut rows) (drop-drop w k m) ∙ cut_at_lem rows (k + w) m
cut_at_lem (reserved w ∷ rows) k m = ap (cut rows) (drop-drop w k m) ∙ cut_at_lem rows (k + w) m
cut_at_lem (number w ∷ rows) k m =
    ap (λ (t : List Field). num (number_of (take w (drop k m))) ∷ t) (ap (cut rows) (drop-drop w k m) ∙ cut_at_lem rows (k + w) m)
cut_at_lem (bytes n ∷ rows) k m =
    ap (λ (t : List Field). str (gather n (take (8 * n) (drop k m))) ∷ t)
    (ap (cut rows) (drop-drop (8 * n) k m) ∙ cut_at_lem rows (k + 8 * n) m)

unfoldable pub given_at : List Row → ℕ → List Bool → Bool
given_at [] k m = true
given_at (fixed w v ∷ rows) k m = eqb (number_from m k w) v && given_at rows (k + w) m
given_at (reserved w ∷ rows) k m = given_at rows (k + w) m
given_at (number w ∷ rows) k m = given_at rows (k + w) m
given_at (bytes n ∷ rows) k m = given_at rows (k + 8 * n) m

pub given_at_lem : (rows : List Row) (k : ℕ) (m : List Bool) → as_given rows (drop k m) ≡ given_at rows k m
unfolding as_given given_at number_from
given_at_lem [] k m = refl
given_at_lem (fixed w v ∷ rows) k m =
    ap (λ (t : Bool). eqb (number_of (take w (drop k m))) v && t) (ap (as_given rows) (drop-drop w k m) ∙ given_at_lem rows (k + w) m)
given_at_lem (reserved w ∷ rows) k m = ap (as_given rows) (drop-drop w k m) ∙ given_at_lem rows (k + w) m
given_at_lem (number w ∷ rows) k m = ap (as_given rows) (drop-drop w k m) ∙ given_at_lem rows (k + w) m
given_at_lem (bytes n ∷ rows) k m = ap (as_given rows) (drop-drop (8 * n) k m) ∙ given_at_lem rows (k + 8 * n) m

-- w bits with b bits behind them: the number / 2^b mod 2^w
pub number_part : (m : List Bool) (a w b : ℕ) → length m ≡ a + (w + b) → number_of (take w (drop a m)) ≡ number_of m / 2 ^ b % 2 ^ w
number_part m a w b e =
    let t = drop a m in
    let x = take w t in
    let y = drop w t in
    let lt : length t ≡ w + b = length-drop a m ∙ omega arith in
    let lx : length x ≡ w = length-take-le w t (omega arith) in
    let ly : length y ≡ b = length-drop w t ∙ omega arith in
    let hx : number_of x < 2 ^ w = subst (λ (n : ℕ). number_of x < 2 ^ n) lx (number_less x) in
    let hy : number_of y < 2 ^ b = subst (λ (n : ℕ). number_of y < 2 ^ n) ly (number_less y) in
    let et : number_of t ≡ number_of x * 2 ^ b + number_of y =
    ap number_of (sym (take-append-drop w t)) ∙ number_append x y ∙ ap (λ (n : ℕ). number_of x * 2 ^ n + number_of y) ly in
    let em : number_of m ≡ (number_of (take a m) * 2 ^ w + number_of x) * 2 ^ b + number_of y =
    ap number_of (sym (take-append-drop a m))
    ∙ number_append (take a m) t
    ∙ (λ i. number_of (take a m) * 2 ^ lt i + et i)
    ∙ split (number_of (take a m)) (number_of x) (number_of y) in
    let q : number_of m / 2 ^ b ≡ number_of (take a m) * 2 ^ w + number_of x =
    ap (λ (n : ℕ). n / 2 ^ b) em
    ∙ mul-add-div_right (pow_pos b) (number_of (take a m) * 2 ^ w + number_of x) (number_of y)
    ∙ ap (λ (n : ℕ). number_of (take a m) * 2 ^ w + number_of x + n) (div-eq_of_lt hy)
    ∙ add-zero _ in
    sym (ap (λ (n : ℕ). n % 2 ^ w) q ∙ mul-add-mod_self_right (number_of (take a m)) (2 ^ w) (number_of x) ∙ mod-eq_of_lt hx)
  where
    split : (p x y : ℕ) → p * 2 ^ (w + b) + (x * 2 ^ b + y) ≡ (p * 2 ^ w + x) * 2 ^ b + y
    split p x y =
        omega (arith, ap (λ (n : ℕ). p * n) (pow-add 2 w b), mul_assoc p (2 ^ w) (2 ^ b), add-mul (p * 2 ^ w) x (2 ^ b))

-- a row within n whole bytes from byte i on, a bits behind their start and b bits before their end
pub number_within : (l : List ℕ) (i n a w b : ℕ) → i + n ≤ length l → 8 * n ≡ a + (w + b)
    → number_from (spread l) (8 * i + a) w ≡ number_at l i n / 2 ^ b % 2 ^ w
unfolding number_at number_from
number_within l i n a w b h e =
    let s = spread l in
    let t = drop (8 * i) s in
    let m = take (8 * n) t in
    let long : 8 * n ≤ length t = omega (arith, length-drop (8 * i) s, spread-length l) in
    let lm : length m ≡ a + (w + b) = length-take-le (8 * n) t long ∙ e in
    let apart : take w (drop a t) ≡ take w (drop a m) =
    ap (λ (u : List Bool). take w (drop a u)) (sym (take-append-drop (8 * n) t))
    ∙ ap (take w) (drop-append-le a m (drop (8 * n) t) (omega arith))
    ∙ take-append-le w (drop a m) (drop (8 * n) t) (omega (arith, length-drop a m)) in
    ap number_of (ap (take w) (sym (drop-drop a (8 * i) s)) ∙ apart) ∙ number_part m a w b lm

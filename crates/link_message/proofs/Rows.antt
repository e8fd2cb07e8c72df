-- Rows by their places, on the crate layout: laid with what is reserved between them, cut, and the number that they make.
-- Assumes nothing.
use mathlib.Core.Path.{◌≡◌, ◌∙◌, refl, ap}
use mathlib.Core.Bool.{true, false, ◌&&◌}
use mathlib.Core.List.{List, [], ◌∷◌, ◌++◌}
use Prim.Native.Nat.{ℕ, ◌+◌, ◌-◌, ◌*◌, ◌/◌, ◌%◌, ◌^◌, ◌≤◌}
use native.Mathlib.Nat.{mod-eq_of_lt, mod-lt}
use native.Mathlib.Omega.{arith}
use lib.ListN.{length, drop, get_or, length-append}
use lib.Dec.{leb, ltb}
use lib.Pow.{pow_pos}
use borrow.Author.Tests.{leb-true, ltb-true, lt-ltb}
use Rattle.layout.specs.Layout.{bits_of, number_of, spread, width_of, fits, lay_out, given_fit, number_at}
use Rattle.layout.specs.Layout.Field.{num}
use Rattle.layout.proofs.Bits.{and_left, and_right, bits_length, number_bits, number_append}
use Rattle.layout.proofs.At.{number_from, cut_at, number_within}
use Rattle.link_message.specs.declared.Place.{Place}
use Rattle.link_message.specs.Layouts.{value_at, values_in, reduced, start_of, end_of, bits_of_all, laid_rows, nums, within_b, apart_from, fit_b}

never : {A : Type 0} → false ≡ true → A
never e = let z : ◌≡◌ {A = ℕ} 0 1 = cc in absurd (omega arith)

-- what the test of a first row says
pub record Apart (at : ℕ) (p : Place) (t : List Place) : Type 0 where
  pub within : p.2 + p.3 ≤ 8 * p.1
  pub small : p.1 ≤ 8
  pub before : p.0 + p.1 ≤ 44
  pub behind : at ≤ start_of p
  pub rest : apart_from (end_of p) t ≡ true

pub apart : (at : ℕ) (p : Place) (t : List Place) → apart_from at (p ∷ t) ≡ true → Apart at p t
unfolding apart_from within_b
apart at p t h =
    let a = and_left (within_b p) _ h in
    let b = and_right (within_b p) _ h in
    let d = and_right (leb (p.2 + p.3) (8 * p.1)) _ a in
    record {
      within = leb-true _ _ (and_left _ _ a);
      small = leb-true _ _ (and_left _ _ d);
      before = leb-true _ _ (and_right (leb p.1 8) _ d);
      behind = leb-true _ _ (and_left _ _ b);
      rest = and_right (leb at (start_of p)) _ b;
    }

ends_last : (at : ℕ) → apart_from at [] ≡ true → at ≤ bits_of_all
unfolding apart_from
ends_last at h = leb-true at bits_of_all h

pub ends_in : (at : ℕ) (t : List Place) → apart_from at t ≡ true → at ≤ bits_of_all
ends_in at [] h = ends_last at h
ends_in at (p ∷ t) h = let a = apart at p t h in omega (arith, a.behind, a.within, ends_in (end_of p) t a.rest)

pub width : (at : ℕ) (t : List Place) → apart_from at t ≡ true → width_of (laid_rows at t) ≡ bits_of_all - at
unfolding width_of laid_rows
width at [] h = omega arith
width at (p ∷ t) h =
    let a = apart at p t h in omega (arith, a.behind, a.within, ends_in (end_of p) t a.rest, width (end_of p) t a.rest)

pub given_fit_lem : (at : ℕ) (t : List Place) → given_fit (laid_rows at t) ≡ true
unfolding given_fit laid_rows
given_fit_lem at [] = refl
given_fit_lem at (p ∷ t) = given_fit_lem (end_of p) t

pub rows_fit : (at : ℕ) (t : List Place) (vs : List ℕ) → fit_b t vs ≡ true → fits (laid_rows at t) (nums vs) ≡ true
unfolding fits laid_rows nums fit_b
rows_fit at [] [] h = refl
rows_fit at [] (v ∷ vs) h = never h
rows_fit at (p ∷ t) [] h = never h
rows_fit at (p ∷ t) (v ∷ vs) h = λ i. and_left (ltb v (2 ^ p.3)) (fit_b t vs) h i && rows_fit (end_of p) t vs (and_right (ltb v (2 ^ p.3)) _ h) i

pub reduced_fit : (t : List Place) (vs : List ℕ) → fit_b t (reduced t vs) ≡ true
unfolding fit_b reduced
reduced_fit [] vs = refl
reduced_fit (p ∷ t) vs = λ i. lt-ltb (get_or vs 0 0 % 2 ^ p.3) _ (mod-lt (get_or vs 0 0) (pow_pos p.3)) i && reduced_fit t (drop 1 vs) i

-- values that fit are reduced to themselves
pub fit_reduced : (t : List Place) (vs : List ℕ) → fit_b t vs ≡ true → reduced t vs ≡ vs
unfolding fit_b reduced
fit_reduced [] [] h = refl
fit_reduced [] (v ∷ vs) h = never h
fit_reduced (p ∷ t) [] h = never h
fit_reduced (p ∷ t) (v ∷ vs) h =
    λ i. mod-eq_of_lt (ltb-true v _ (and_left _ _ h)) i ∷ fit_reduced t vs (and_right (ltb v (2 ^ p.3)) _ h) i

-- what is read fits
pub values_fit : (t : List Place) (l : List ℕ) → fit_b t (values_in t l) ≡ true
unfolding fit_b values_in value_at
values_fit [] l = refl
values_fit (p ∷ t) l = λ i. lt-ltb _ _ (mod-lt (number_at l p.0 p.1 / 2 ^ p.2) (pow_pos p.3)) i && values_fit t l i

-- the rows cut are the values
pub value_from : (l : List ℕ) (p : Place) → p.2 + p.3 ≤ 8 * p.1 → p.0 + p.1 ≤ length l
    → number_from (spread l) (start_of p) p.3 ≡ value_at l p
unfolding value_at
value_from l p h k =
    ap (λ (j : ℕ). number_from (spread l) j p.3) {x = start_of p} {y = 8 * p.0 + (8 * p.1 - (p.2 + p.3))} (omega arith)
    ∙ number_within l p.0 p.1 (8 * p.1 - (p.2 + p.3)) p.3 p.2 (omega arith) (omega arith)

pub cut_values : (at : ℕ) (t : List Place) (l : List ℕ) → apart_from at t ≡ true → length l ≡ 44
    → cut_at (laid_rows at t) at (spread l) ≡ nums (values_in t l)
unfolding cut_at laid_rows nums values_in
cut_values at [] l h e = refl
cut_values at (p ∷ t) l h e =
    let a = apart at p t h in
    let z = ends_in (end_of p) t a.rest in
    let b : at + (start_of p - at) ≡ start_of p = omega (arith, a.behind) in
    let c : at + (start_of p - at) + p.3 ≡ end_of p = omega (arith, a.behind, a.within) in
    λ i.
    num ((ap (λ (j : ℕ). number_from (spread l) j p.3) b ∙ value_from l p a.within (omega (arith, a.before))) i)
    ∷ (ap (λ (j : ℕ). cut_at (laid_rows (end_of p) t) j (spread l)) c ∙ cut_values (end_of p) t l a.rest e) i

-- the number that rows make: each value at its place
unfoldable pub sum_of : List Place → List ℕ → ℕ
sum_of [] vs = 0
sum_of (p ∷ t) [] = 0
sum_of (p ∷ t) (v ∷ vs) = v * 2 ^ (bits_of_all - end_of p) + sum_of t vs

none : (n : ℕ) → number_of (bits_of n 0 ++ []) ≡ 0
unfolding number_of
none n = number_append (bits_of n 0) [] ∙ (λ i. (number_bits n 0 ∙ mod-eq_of_lt (pow_pos n)) i * 1 + 0)

pub record Made (at : ℕ) (t : List Place) (vs : List ℕ) : Type 0 where
  pub long : length (lay_out (laid_rows at t) (nums vs)) ≡ bits_of_all - at
  pub sum : number_of (lay_out (laid_rows at t) (nums vs)) ≡ sum_of t vs

pub made : (at : ℕ) (t : List Place) (vs : List ℕ) → apart_from at t ≡ true → fit_b t vs ≡ true → Made at t vs
unfolding lay_out laid_rows nums fit_b sum_of
made at [] [] h f =
    record {
      long = length-append (bits_of (bits_of_all - at) 0) [] ∙ omega (arith, bits_length (bits_of_all - at) 0);
      sum = none (bits_of_all - at);
    }
made at [] (v ∷ vs) h f = never f
made at (p ∷ t) [] h f = never f
made at (p ∷ t) (v ∷ vs) h f =
    let a = apart at p t h in
    let z = ends_in (end_of p) t a.rest in
    let r = made (end_of p) t vs a.rest (and_right (ltb v (2 ^ p.3)) _ f) in
    let m = lay_out (laid_rows (end_of p) t) (nums vs) in
    let n = start_of p - at in
    let vl = ltb-true v _ (and_left _ _ f) in
    record {
      long =
          length-append (bits_of n 0) (bits_of p.3 v ++ m)
          ∙ omega (arith, length-append (bits_of p.3 v) m, bits_length n 0, bits_length p.3 v, r.long, a.behind, a.within);
      sum =
          number_append (bits_of n 0) (bits_of p.3 v ++ m)
          ∙ (λ i. (number_bits n 0 ∙ mod-eq_of_lt (pow_pos n)) i * 2 ^ length (bits_of p.3 v ++ m) + number_append (bits_of p.3 v) m i)
          ∙ omega arith
          ∙ (λ i. (number_bits p.3 v ∙ mod-eq_of_lt vl) i * 2 ^ r.long i + r.sum i);
    }

-- The laws of laying out and cutting, over any list of rows.
-- Assumes nothing.
use mathlib.Core.Path.{◌≡◌, ◌∙◌, refl, ap, sym, subst}
use mathlib.Core.Bool.{Bool, true, false, ◌&&◌}
use mathlib.Core.List.{List, [], ◌∷◌, ◌++◌}
use Prim.Native.Nat.{ℕ, ◌+◌, ◌*◌, ◌^◌, ◌<◌}
use native.Mathlib.Nat.{mod-eq_of_lt}
use native.Mathlib.Omega.{arith}
use lib.ListN.{length, take, drop, length-append, length-drop, take-append-drop}
use lib.Seq.{take_at, drop_at, length-take-le}
use lib.Dec.{eqb, ltb}
use lib.Pow.{pow_pos}
use borrow.Author.Tests.{eqb-true, eq-eqb, ltb-true, lt-ltb}
use Rattle.layout.specs.Layout.{bits_of, number_of, spread, gather, Row, Field, width_of, are_bytes, fits, lay_out, cut, as_given}
use Rattle.layout.specs.Layout.{reserved_zero, given_fit, written_of, fields_of, ReadsBack, ReadFits, WrittenAgain}
use Rattle.layout.specs.Layout.Row.{fixed, reserved, number, bytes}
use Rattle.layout.specs.Layout.Field.{num, str}
use Rattle.layout.proofs.Bits.{and_left, and_right, bits_length, number_bits, number_less, bits_of_lem, spread-length, gather_length}
use Rattle.layout.proofs.Bits.{gather_bytes, gather_spread, spread_gather}

never : {A : Type 0} → false ≡ true → A
never e = let z : ◌≡◌ {A = ℕ} 0 1 = cc in absurd (omega arith)

-- the first row of what is laid out, and the rest
module _ (w x : ℕ) (m : List Bool) where
  first : take w (bits_of w x ++ m) ≡ bits_of w x
  first = take_at (bits_of w x) m w (bits_length w x)

  after : drop w (bits_of w x ++ m) ≡ m
  after = drop_at (bits_of w x) m w (bits_length w x)

  first_number_lem : x < 2 ^ w → number_of (take w (bits_of w x ++ m)) ≡ x
  first_number_lem h = ap number_of first ∙ number_bits w x ∙ mod-eq_of_lt h

-- what is laid out is as wide as its rows, cuts back to its fields, and has its = rows as given and its reserved rows zero
pub record Laid (rows : List Row) (fs : List Field) : Type 0 where
  pub width : length (lay_out rows fs) ≡ width_of rows
  pub back : cut rows (lay_out rows fs) ≡ fs
  pub given : as_given rows (lay_out rows fs) ≡ true
  pub zeros : reserved_zero rows (lay_out rows fs) ≡ true

pub laid : (rows : List Row) (fs : List Field) → given_fit rows ≡ true → fits rows fs ≡ true → Laid rows fs
unfolding width_of fits lay_out cut as_given reserved_zero given_fit
laid [] [] g f = record { width = refl; back = refl; given = refl; zeros = refl }
laid [] (x ∷ fs) g f = never f
laid (fixed w v ∷ rows) fs g f =
    let r = laid rows fs (and_right (ltb v (2 ^ w)) _ g) f in
    let m = lay_out rows fs in
    record {
      width = length-append (bits_of w v) m ∙ (λ i. bits_length w v i + r.width i);
      back = ap (cut rows) (after w v m) ∙ r.back;
      given = λ i.
          eq-eqb _ _ (first_number_lem w v m (ltb-true v (2 ^ w) (and_left _ _ g))) i && (ap (as_given rows) (after w v m) ∙ r.given) i;
      zeros = ap (reserved_zero rows) (after w v m) ∙ r.zeros;
    }
laid (reserved w ∷ rows) fs g f =
    let r = laid rows fs g f in
    let m = lay_out rows fs in
    record {
      width = length-append (bits_of w 0) m ∙ (λ i. bits_length w 0 i + r.width i);
      back = ap (cut rows) (after w 0 m) ∙ r.back;
      given = ap (as_given rows) (after w 0 m) ∙ r.given;
      zeros = λ i. eq-eqb _ _ (first_number_lem w 0 m (pow_pos w)) i && (ap (reserved_zero rows) (after w 0 m) ∙ r.zeros) i;
    }
laid (number w ∷ rows) [] g f = never f
laid (number w ∷ rows) (str b ∷ fs) g f = never f
laid (number w ∷ rows) (num x ∷ fs) g f =
    let r = laid rows fs g (and_right (ltb x (2 ^ w)) _ f) in
    let m = lay_out rows fs in
    record {
      width = length-append (bits_of w x) m ∙ (λ i. bits_length w x i + r.width i);
      back = λ i. num (first_number_lem w x m (ltb-true x (2 ^ w) (and_left _ _ f)) i) ∷ (ap (cut rows) (after w x m) ∙ r.back) i;
      given = ap (as_given rows) (after w x m) ∙ r.given;
      zeros = ap (reserved_zero rows) (after w x m) ∙ r.zeros;
    }
laid (bytes n ∷ rows) [] g f = never f
laid (bytes n ∷ rows) (num x ∷ fs) g f = never f
laid (bytes n ∷ rows) (str b ∷ fs) g f =
    let e : length b ≡ n = eqb-true (length b) n (and_left _ _ f) in
    let k = and_right (eqb (length b) n) _ f in
    let r = laid rows fs g (and_right (are_bytes b) _ k) in
    let m = lay_out rows fs in
    let long : length (spread b) ≡ 8 * n = spread-length b ∙ ap (λ (j : ℕ). 8 * j) e in
    let rest : drop (8 * n) (spread b ++ m) ≡ m = drop_at (spread b) m (8 * n) long in
    let whole : gather n (take (8 * n) (spread b ++ m)) ≡ b =
    ap (gather n) (take_at (spread b) m (8 * n) long)
    ∙ ap (λ (j : ℕ). gather j (spread b)) (sym e)
    ∙ gather_spread b (and_left _ _ k) in
    record {
      width = length-append (spread b) m ∙ (λ i. long i + r.width i);
      back = λ i. str (whole i) ∷ (ap (cut rows) rest ∙ r.back) i;
      given = ap (as_given rows) rest ∙ r.given;
      zeros = ap (reserved_zero rows) rest ∙ r.zeros;
    }

-- what is cut fits, and is laid out again to the same bits
pub record Cuts (rows : List Row) (m : List Bool) : Type 0 where
  pub fit : fits rows (cut rows m) ≡ true
  pub again : as_given rows m ≡ true → reserved_zero rows m ≡ true → lay_out rows (cut rows m) ≡ m

-- a row's bits, and what is left
module _ (w : ℕ) (rows : List Row) (m : List Bool) (e : length m ≡ w + width_of rows) where
  row_length : length (take w m) ≡ w
  row_length = length-take-le w m (omega arith)

  left_length : length (drop w m) ≡ width_of rows
  left_length = length-drop w m ∙ omega arith

  row_again : {t : List Bool} (x : ℕ) → number_of (take w m) ≡ x → t ≡ drop w m → bits_of w x ++ t ≡ m
  row_again x h k =
      (λ i. bits_of w (sym h i) ++ k i) ∙ ap (λ (a : List Bool). a ++ drop w m) (bits_of_lem (take w m) w row_length) ∙ take-append-drop w m

pub cuts : (rows : List Row) (m : List Bool) → length m ≡ width_of rows → Cuts rows m
unfolding width_of fits lay_out cut as_given reserved_zero
cuts [] [] e = record { fit = refl; again = λ g z. refl }
cuts [] (b ∷ m) e = absurd (omega arith)
cuts (fixed w v ∷ rows) m e =
    let r = cuts rows (drop w m) (left_length w rows m e) in
    record {
      fit = r.fit;
      again = λ g z. row_again w rows m e v (eqb-true _ v (and_left _ _ g)) (r.again (and_right (eqb (number_of (take w m)) v) _ g) z);
    }
cuts (reserved w ∷ rows) m e =
    let r = cuts rows (drop w m) (left_length w rows m e) in
    record {
      fit = r.fit;
      again = λ g z. row_again w rows m e 0 (eqb-true _ 0 (and_left _ _ z)) (r.again g (and_right (eqb (number_of (take w m)) 0) _ z));
    }
cuts (number w ∷ rows) m e =
    let r = cuts rows (drop w m) (left_length w rows m e) in
    let h : number_of (take w m) < 2 ^ w =
    subst (λ (k : ℕ). number_of (take w m) < 2 ^ k) (row_length w rows m e) (number_less (take w m)) in
    record {
      fit = λ i. lt-ltb _ (2 ^ w) h i && r.fit i;
      again = λ g z. row_again w rows m e (number_of (take w m)) refl (r.again g z);
    }
cuts (bytes n ∷ rows) m e =
    let r = cuts rows (drop (8 * n) m) (left_length (8 * n) rows m e) in
    let b = take (8 * n) m in
    record {
      fit = λ i. eq-eqb _ n (gather_length n b) i && (gather_bytes n b i && r.fit i);
      again = λ g z. (λ i. spread_gather n b (row_length (8 * n) rows m e) i ++ r.again g z i) ∙ take-append-drop (8 * n) m;
    }

-- the three laws
pub reads_back : ReadsBack
unfolding written_of fields_of
reads_back rows n fs w g f =
    let r = laid rows fs g f in
    let e : spread (gather n (lay_out rows fs)) ≡ lay_out rows fs = spread_gather n (lay_out rows fs) (r.width ∙ w) in
    record { back = ap (cut rows) e ∙ r.back; given = ap (as_given rows) e ∙ r.given; zeros = ap (reserved_zero rows) e ∙ r.zeros }

pub read_fits : ReadFits
unfolding fields_of
read_fits rows l w = (cuts rows (spread l) (spread-length l ∙ sym w)).fit

pub written_again : WrittenAgain
unfolding written_of fields_of
written_again rows l b w g z =
    ap (gather (length l)) ((cuts rows (spread l) (spread-length l ∙ sym w)).again g z) ∙ gather_spread l b

-- The claims of reading and writing, once over all kinds and rows.
-- Assumes nothing.
use mathlib.Core.Path.{◌≡◌, ◌∙◌, refl, ap, sym}
use mathlib.Core.Bool.{Bool, true, false, ◌&&◌}
use mathlib.Core.List.{List, [], ◌∷◌}
use Prim.Native.Nat.{ℕ, ◌%◌, ◌^◌}
use native.Mathlib.Omega.{arith}
use lib.ListN.{length, drop, get_or}
use lib.Dec.{eqb, ltb}
use borrow.Author.Tests.{eqb-true, eq-eqb}
use Rattle.layout.specs.Layout.{spread, Row, Field, width_of, fits, as_given, given_fit, written_of, fields_of, number_at}
use Rattle.layout.specs.Layout.Field.{num, str}
use Rattle.layout.proofs.Bits.{and_left, and_right, gather_length}
use Rattle.layout.proofs.Laws as L
use Rattle.layout.proofs.At.{number_from, number_from_lem, cut_at, cut_at_lem, given_at, given_at_lem}
use Rattle.link_message.specs.declared.Kind.{Kind}
use Rattle.link_message.specs.declared.Kind.TheVariants.{ConfirmLink, AddLink, AddLinkContinuation, DeleteLink, ConfirmRkey, TestLink, ConfirmRkeyContinuation, DeleteRkey}
use Rattle.link_message.specs.declared.Place.{Place}
use Rattle.link_message.specs.Layouts.{code_of, mark, table_of, values_in, reduced, third_first, in_message, end_of, laid_rows, rows_of, nums, encode_of, within_b, apart_from, Sound, fit_b, Written, ReadsBack, WrittenAgain}
use Rattle.link_message.proofs.Rows.{width, given_fit_lem, rows_fit, reduced_fit, fit_reduced, values_fit, cut_values}

-- the table, computed
pub sound : Sound
unfolding within_b apart_from table_of third_first
sound ConfirmLink = refl
sound AddLink = refl
sound AddLinkContinuation = refl
sound DeleteLink = refl
sound ConfirmRkey = refl
sound TestLink = refl
sound ConfirmRkeyContinuation = refl
sound DeleteRkey = refl

-- ADD LINK's order, and back
values_third : (t : List Place) (l : List ℕ) → values_in (third_first t) l ≡ third_first (values_in t l)
unfolding values_in third_first
values_third [] l = refl
values_third (a ∷ []) l = refl
values_third (a ∷ b ∷ []) l = refl
values_third (a ∷ b ∷ c ∷ t) l = refl

swapped : (a b c d : Bool) → (a && (b && (c && d))) ≡ true → (c && (a && (b && d))) ≡ true
swapped true true true d e = e
swapped true true false d e = e
swapped true false true d e = e
swapped true false false d e = e
swapped false true true d e = e
swapped false false true d e = e
swapped false true false d e = e
swapped false false false d e = e

fit_third : (a b c : Place) (t : List Place) (vs : List ℕ) → fit_b (third_first (a ∷ b ∷ c ∷ t)) (third_first (reduced (a ∷ b ∷ c ∷ t) vs)) ≡ true
unfolding fit_b reduced third_first
fit_third a b c t vs =
    let test : ℕ → Place → Bool = λ v p. ltb (v % 2 ^ p.3) (2 ^ p.3) in
    swapped (test (get_or vs 0 0) a) (test (get_or (drop 1 vs) 0 0) b) (test (get_or (drop 1 (drop 1 vs)) 0 0) c)
    (fit_b t (reduced t (drop 1 (drop 1 (drop 1 vs))))) (reduced_fit (a ∷ b ∷ c ∷ t) vs)

back_third : {A : Type 0} → List A → List A
back_third [] = []
back_third (a ∷ []) = a ∷ []
back_third (a ∷ b ∷ []) = a ∷ b ∷ []
back_third (c ∷ a ∷ b ∷ l) = a ∷ b ∷ c ∷ l

third_back : (l : List ℕ) → back_third (third_first l) ≡ l
unfolding third_first back_third
third_back [] = refl
third_back (a ∷ []) = refl
third_back (a ∷ b ∷ []) = refl
third_back (a ∷ b ∷ c ∷ l) = refl

pub values_in_lem : (k : Kind) (l : List ℕ) → values_in (in_message k (table_of k)) l ≡ in_message k (values_in (table_of k) l)
values_in_lem ConfirmLink l = refl
values_in_lem AddLink l = values_third (table_of AddLink) l
values_in_lem AddLinkContinuation l = refl
values_in_lem DeleteLink l = refl
values_in_lem ConfirmRkey l = refl
values_in_lem TestLink l = refl
values_in_lem ConfirmRkeyContinuation l = refl
values_in_lem DeleteRkey l = refl

pub fit_in : (k : Kind) (vs : List ℕ) → fit_b (in_message k (table_of k)) (in_message k (reduced (table_of k) vs)) ≡ true
unfolding table_of
fit_in ConfirmLink vs = reduced_fit (table_of ConfirmLink) vs
fit_in AddLink vs = fit_third _ _ _ _ vs
fit_in AddLinkContinuation vs = reduced_fit (table_of AddLinkContinuation) vs
fit_in DeleteLink vs = reduced_fit (table_of DeleteLink) vs
fit_in ConfirmRkey vs = reduced_fit (table_of ConfirmRkey) vs
fit_in TestLink vs = reduced_fit (table_of TestLink) vs
fit_in ConfirmRkeyContinuation vs = reduced_fit (table_of ConfirmRkeyContinuation) vs
fit_in DeleteRkey vs = reduced_fit (table_of DeleteRkey) vs

in_one : (k : Kind) (a b : List ℕ) → in_message k a ≡ in_message k b → a ≡ b
in_one ConfirmLink a b e = e
in_one AddLink a b e = sym (third_back a) ∙ ap back_third e ∙ third_back b
in_one AddLinkContinuation a b e = e
in_one DeleteLink a b e = e
in_one ConfirmRkey a b e = e
in_one TestLink a b e = e
in_one ConfirmRkeyContinuation a b e = e
in_one DeleteRkey a b e = e

in_nums : List Field → List ℕ
in_nums [] = []
in_nums (num v ∷ fs) = v ∷ in_nums fs
in_nums (str b ∷ fs) = in_nums fs

nums_back : (vs : List ℕ) → in_nums (nums vs) ≡ vs
unfolding nums in_nums
nums_back [] = refl
nums_back (v ∷ vs) = ap (λ (t : List ℕ). v ∷ t) (nums_back vs)

-- a whole message's rows
rows_width : (k : Kind) → width_of (rows_of k) ≡ 352
unfolding rows_of width_of
rows_width k = omega (arith, width 16 (in_message k (table_of k)) (sound k))

rows_given : (k : Kind) → given_fit (rows_of k) ≡ true
unfolding rows_of given_fit
rows_given ConfirmLink = given_fit_lem 16 (table_of ConfirmLink)
rows_given AddLink = given_fit_lem 16 (third_first (table_of AddLink))
rows_given AddLinkContinuation = given_fit_lem 16 (table_of AddLinkContinuation)
rows_given DeleteLink = given_fit_lem 16 (table_of DeleteLink)
rows_given ConfirmRkey = given_fit_lem 16 (table_of ConfirmRkey)
rows_given TestLink = given_fit_lem 16 (table_of TestLink)
rows_given ConfirmRkeyContinuation = given_fit_lem 16 (table_of ConfirmRkeyContinuation)
rows_given DeleteRkey = given_fit_lem 16 (table_of DeleteRkey)

rows_fits : (k : Kind) (vs : List ℕ) → fit_b (in_message k (table_of k)) vs ≡ true → fits (rows_of k) (nums vs) ≡ true
unfolding rows_of fits
rows_fits k vs h = rows_fit 16 (in_message k (table_of k)) vs h

rows_cut : (k : Kind) (l : List ℕ) → length l ≡ 44 → fields_of (rows_of k) l ≡ nums (in_message k (values_in (table_of k) l))
unfolding rows_of fields_of cut_at
rows_cut k l e =
    cut_at_lem (rows_of k) 0 (spread l) ∙ cut_values 16 (in_message k (table_of k)) l (sound k) e ∙ ap nums (values_in_lem k l)

-- the two bytes before the rows
record Head (k : Kind) (l : List ℕ) : Type 0 where
  pub kind : number_at l 0 1 ≡ code_of k
  pub marked : number_at l 1 1 ≡ mark

none_given : (at : ℕ) (t : List Place) (m : List Bool) (j : ℕ) → given_at (laid_rows at t) j m ≡ true
unfolding given_at laid_rows
none_given at [] m j = refl
none_given at (p ∷ t) m j = none_given (end_of p) t m _

head : (k : Kind) (l : List ℕ) → as_given (rows_of k) (spread l) ≡ true → Head k l
unfolding rows_of given_at
head k l g =
    let h : given_at (rows_of k) 0 (spread l) ≡ true = sym (given_at_lem (rows_of k) 0 (spread l)) ∙ g in
    let r = and_right (eqb (number_from (spread l) 0 8) (code_of k)) _ h in
    record {
      kind = sym (number_from_lem l 0 1) ∙ eqb-true _ _ (and_left _ _ h);
      marked = sym (number_from_lem l 1 1) ∙ eqb-true _ _ (and_left _ _ r);
    }

head_given : (k : Kind) (l : List ℕ) → number_at l 0 1 ≡ code_of k → number_at l 1 1 ≡ mark → as_given (rows_of k) (spread l) ≡ true
unfolding rows_of given_at
head_given k l a b =
    given_at_lem (rows_of k) 0 (spread l)
    ∙ (λ i.
    eq-eqb _ _ (number_from_lem l 0 1 ∙ a) i
    && (eq-eqb _ _ (number_from_lem l 1 1 ∙ b) i && none_given 16 (in_message k (table_of k)) (spread l) 16 i))

long : (rows : List Row) (fs : List Field) → length (written_of 44 rows fs) ≡ 44
unfolding written_of
long rows fs = gather_length 44 _

-- what is written
pub written : Written
unfolding encode_of
written k vs =
    let ws = in_message k (reduced (table_of k) vs) in
    let w = L.reads_back (rows_of k) 44 (nums ws) (rows_width k) (rows_given k) (rows_fits k ws (fit_in k vs)) in
    let l = written_of 44 (rows_of k) (nums ws) in
    let size : length l ≡ 44 = long (rows_of k) (nums ws) in
    let e : nums (in_message k (values_in (table_of k) l)) ≡ nums ws = sym (rows_cut k l size) ∙ w.back in
    let h = head k l w.given in
    record {
      size = size;
      kind = h.kind;
      marked = h.marked;
      zeros = w.zeros;
      back = in_one k _ _ (sym (nums_back (in_message k (values_in (table_of k) l))) ∙ ap in_nums e ∙ nums_back ws);
    }

pub reads_back : ReadsBack
reads_back k vs h = (written k vs).back ∙ fit_reduced (table_of k) vs h

pub written_again : WrittenAgain
unfolding encode_of
written_again k l b e a m z =
    let same : reduced (table_of k) (values_in (table_of k) l) ≡ values_in (table_of k) l =
    fit_reduced (table_of k) (values_in (table_of k) l) (values_fit (table_of k) l) in
    ap (λ (vs : List ℕ). written_of 44 (rows_of k) (nums (in_message k vs))) same
    ∙ ap (written_of 44 (rows_of k)) (sym (rows_cut k l e))
    ∙ ap (λ (n : ℕ). written_of n (rows_of k) (fields_of (rows_of k) l)) (sym e)
    ∙ L.written_again (rows_of k) l b (rows_width k ∙ omega arith) (head_given k l a m) z

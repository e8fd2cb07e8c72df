-- The page's three claims of reading and writing, from the laws over any rows.
-- Assumes nothing.
use Rattle.std.specs.Prelude.{Option, Some, None}
use Prim.Native.Nat.{ℕ, zero, suc, ◌+◌, ◌-◌, ◌*◌, ◌/◌, ◌%◌, ◌≤◌, ◌<◌}
use mathlib.Core.Path.{◌≡◌, ◌∙◌, refl, ap, sym, subst}
use mathlib.Core.Bool.{Bool, true, false, ◌&&◌}
use mathlib.Core.List.{List, [], ◌∷◌, ◌++◌}
use native.Mathlib.Omega.{arith}
use lib.ListN.{length, take}
use lib.Seq.{take_at}
use lib.Dec.{eqb, leb}
use borrow.Author.Tests.{le-leb, lt-ltb, eq-eqb, ne_eqb, eqb-true, leb-true}
use Rattle.layout.specs.Layout.{Row, Field, spread, width_of, as_given, given_fit, written_of, fields_of, number_at, bytes_at, WellWritten}
use Rattle.layout.specs.Layout.Field.{num, str}
use Rattle.layout.proofs.Bits.{and_left, and_right, gather_length, gather_bytes}
use Rattle.layout.proofs.Laws as L
use Rattle.layout.proofs.At.{number_from, number_from_lem, bytes_from_lem, cut_at, cut_at_lem, given_at, given_at_lem}
use Rattle.layout.proofs.Places.{number_bound}
use Rattle.setup_read.specs.declared.Kind.{Kind}
use Rattle.setup_read.specs.declared.Kind.TheVariants.{Proposal, Accept, Confirm, Decline}
use Rattle.setup_read.specs.declared.Message.{Message}
use Rattle.setup_read.specs.Clc.{eye_catcher, type_of, length_of, only_proposal, table, rows_in, chosen, restored, values, message_of, lines_of, rows_of}
use Rattle.setup_read.specs.Clc.{chosen_of, size_of, fits_of, encode_of, tidy_of, begins_b, sized_b, message_b, kind_of, message_in, read_of, offset_at}
use Rattle.setup_read.specs.Clc.{count_at, flag, number_in, nth, ReadsBack, ReadFits, WrittenAgain}
use Rattle.setup_read.specs.Places.{proposal_at, endpoint_at, decline_at, bit08, zeros, high}
use Rattle.setup_write.proofs.Known.{Bytes, Typed}
use Rattle.setup_write.proofs.Writing.{both, zeros_is}
use Rattle.setup_read.proofs.Reading.{high_four, low_four, bit_08, number_later, bytes_later}
use Rattle.setup_read.proofs.Messages.{Begins, is_message, proposal_sizes, decline_size, endpoint_size, kind_in_lem, read_kind, read_proposal}
use Rattle.setup_read.proofs.Messages.{read_accept, read_confirm, read_decline}
use Rattle.setup_write.proofs.Fits.{endpoint_fits, proposal_fits, decline_fits, proposal_fit, decline_fit, accept_fit, confirm_fit}

-- what is read has its types' bounds
bytes_is : (l : List ℕ) (i n : ℕ) → Bytes n (bytes_at l i n)
unfolding bytes_at
bytes_is l i n = record { size = gather_length n _; small = gather_bytes n _ }

byte_less : (l : List ℕ) (i : ℕ) → number_at l i 1 < 256
byte_less l i = number_bound l i 1

endpoint_typed : (k : Kind) (f : Bool) (l : List ℕ) → Typed (endpoint_at k f l)
unfolding endpoint_at
endpoint_typed k f l =
    record {
      version = omega (arith, byte_less l 7);
      peer = bytes_is l 8 8;
      gid = bytes_is l 16 16;
      mac = bytes_is l 32 6;
      qp = omega (arith, number_bound l 38 3);
      key = number_bound l 41 4;
      index = number_bound l 45 1;
      token = number_bound l 46 4;
      code = omega (arith, byte_less l 50);
      mtu = omega (arith, byte_less l 50);
      base = number_bound l 52 8;
      psn = omega (arith, number_bound l 61 3);
      offset = omega arith;
      mask = zeros_is 4;
      masklen = omega arith;
      count = omega arith;
      prefixes = zeros_is 136;
      diagnosis = omega arith;
    }

decline_typed : (l : List ℕ) → Typed (decline_at l)
unfolding decline_at
decline_typed l =
    record {
      version = omega (arith, byte_less l 7);
      peer = bytes_is l 8 8;
      gid = zeros_is 16;
      mac = zeros_is 6;
      qp = omega arith;
      key = omega arith;
      index = omega arith;
      token = omega arith;
      code = omega arith;
      mtu = omega arith;
      base = omega arith;
      psn = omega arith;
      offset = omega arith;
      mask = zeros_is 4;
      masklen = omega arith;
      count = omega arith;
      prefixes = zeros_is 136;
      diagnosis = number_bound l 16 4;
    }

proposal_typed : (l : List ℕ) → count_at l ≤ 8 → Typed (proposal_at l)
unfolding proposal_at
proposal_typed l h =
    let b = bytes_is l (48 + offset_at l) (17 * count_at l) in
    let z = zeros_is (136 - 17 * count_at l) in
    let n : 17 * count_at l + (136 - 17 * count_at l) ≡ 136 = omega arith in
    record {
      version = omega (arith, byte_less l 7);
      peer = bytes_is l 8 8;
      gid = bytes_is l 16 16;
      mac = bytes_is l 32 6;
      qp = omega arith;
      key = omega arith;
      index = omega arith;
      token = omega arith;
      code = omega arith;
      mtu = omega arith;
      base = omega arith;
      psn = omega arith;
      offset = number_bound l 38 2;
      mask = bytes_is l (40 + offset_at l) 4;
      masklen = number_bound l (44 + offset_at l) 1;
      count = number_bound l (47 + offset_at l) 1;
      prefixes = subst (λ (k : ℕ). Bytes k (bytes_at l (48 + offset_at l) (17 * count_at l) ++ zeros (136 - 17 * count_at l))) n (both b z);
      diagnosis = omega arith;
    }

-- each message read fits
endpoint_read_fits : (k : Kind) (f : Bool) (l : List ℕ) → 1 ≤ number_at l 7 1 / 16 → endpoint_fits (endpoint_at k f l) ≡ true
unfolding endpoint_at
endpoint_read_fits k f l h =
    simp (
      le-leb 1 (high l 7) h,
      lt-ltb (high l 7) 16 (omega (arith, byte_less l 7)),
      lt-ltb (number_at l 38 3) 16777216 (number_bound l 38 3),
      lt-ltb (high l 50) 16 (omega (arith, byte_less l 50)),
      lt-ltb (number_at l 50 1 % 16) 16 (omega arith),
      lt-ltb (number_at l 61 3) 16777216 (number_bound l 61 3),
    )

proposal_read_fits : (l : List ℕ) → 1 ≤ number_at l 7 1 / 16 → count_at l ≤ 8 → 52 + offset_at l + 17 * count_at l ≤ 65535
    → proposal_fits (proposal_at l) ≡ true
unfolding proposal_at
proposal_read_fits l h few n =
    simp (
      le-leb 1 (high l 7) h,
      le-leb (count_at l) 8 few,
      le-leb (52 + offset_at l + 17 * count_at l) 65535 n,
      lt-ltb (high l 7) 16 (omega (arith, byte_less l 7)),
    )

decline_read_fits : (l : List ℕ) → 1 ≤ number_at l 7 1 / 16 → decline_fits (decline_at l) ≡ true
unfolding decline_at
decline_read_fits l h = simp (le-leb 1 (high l 7) h, lt-ltb (high l 7) 16 (omega (arith, byte_less l 7)))

-- a length that stands in two bytes
length_less : (l : List ℕ) → Begins l → length l ≤ 65535
length_less l b = omega (arith, number_bound l 5 2, b.size)

-- what of a kind's own record: that it fits, and that its fields are those that the rows cut
pub record Again (l : List ℕ) (m : Message) : Type 0 where
  pub fit : fits_of m ≡ true
  pub fields : chosen_of m ≡ fields_of (rows_of m) l
  pub size : size_of m ≡ length l
  pub wide : width_of (rows_of m) ≡ 8 * length l
  pub given : as_given (rows_of m) (spread l) ≡ true

flag_back : (x : ℕ) → x < 2 → flag (eqb x 1) ≡ x
flag_back zero h = refl
flag_back (suc zero) h = refl
flag_back (suc (suc x)) h = absurd (omega arith)

-- the = rows, from the tests
given_four : (a b c d : Bool) → a ≡ true → b ≡ true → c ≡ true → d ≡ true → (a && (b && (c && (d && true)))) ≡ true
given_four a b c d ea eb ec ed = λ i. ea i && (eb i && (ec i && (ed i && true)))

module _ (l : List ℕ) (m : message_b l ≡ true) where
  b : Begins l
  b = is_message l m

  eyes : eqb (number_from (spread l) 0 32) eye_catcher ≡ true
  eyes = eq-eqb _ _ (number_from_lem l 0 4 ∙ b.eye)

  kinds : (t : ℕ) → number_at l 4 1 ≡ t → eqb (number_from (spread l) 32 8) t ≡ true
  kinds t e = eq-eqb _ _ (number_from_lem l 4 1 ∙ e)

  lengths : (n : ℕ) → length l ≡ n → eqb (number_from (spread l) 40 16) n ≡ true
  lengths n e = eq-eqb _ _ (number_from_lem l 5 2 ∙ b.size ∙ e)

  ends : (k : ℕ) → k ≡ 8 * (length l - 4) → eqb (number_from (spread l) k 32) eye_catcher ≡ true
  ends k e = eq-eqb _ _ (number_later l k (length l - 4) 4 e ∙ b.end)

  decline_again : number_at l 4 1 ≡ 4 → Again l (decline_at l)
  unfolding decline_at rows_of lines_of chosen_of size_of rows_in table chosen values cut_at given_at width_of fields_of
  decline_again e =
      let n = decline_size l b.sized e in
      let s = spread l in
      let x : number_at l 7 1 / 8 % 2 < 2 = omega arith in
      record {
        fit = (decline_fit (decline_at l) (decline_typed l) refl).0 ∙ decline_read_fits l b.version;
        fields =
            (λ i.
            num (sym (high_four l 7 (omega arith)) i)
            ∷ num ((flag_back _ x ∙ sym (bit_08 l 7 (omega arith))) i)
            ∷ str (sym (bytes_from_lem l 8 8) i)
            ∷ num (sym (number_from_lem l 16 4) i)
            ∷ [])
            ∙ sym (cut_at_lem (rows_of (decline_at l)) 0 s);
        size = sym n;
        wide = ap (λ (k : ℕ). 8 * k) (sym n);
        given =
            given_at_lem (rows_of (decline_at l)) 0 s
            ∙ given_four _ _ _ _ eyes (kinds 4 e) (lengths 28 n) (ends 192 (omega arith));
      }

  accept_again : number_at l 4 1 ≡ 2 → Again l (endpoint_at Accept (bit08 l 7) l)
  unfolding endpoint_at rows_of lines_of chosen_of size_of rows_in table chosen values cut_at given_at width_of fields_of
  accept_again e =
      let n = endpoint_size l b.sized (λ f. omega arith) (λ f. omega arith) in
      let s = spread l in
      let x : number_at l 7 1 / 8 % 2 < 2 = omega arith in
      record {
        fit = (accept_fit (endpoint_at Accept (bit08 l 7) l) (endpoint_typed Accept (bit08 l 7) l) refl).0 ∙ endpoint_read_fits Accept (bit08 l 7) l b.version;
        fields =
            (λ i.
            num (sym (high_four l 7 (omega arith)) i)
            ∷ num ((flag_back _ x ∙ sym (bit_08 l 7 (omega arith))) i)
            ∷ str (sym (bytes_from_lem l 8 8) i)
            ∷ str (sym (bytes_from_lem l 16 16) i)
            ∷ str (sym (bytes_from_lem l 32 6) i)
            ∷ num (sym (number_from_lem l 38 3) i)
            ∷ num (sym (number_from_lem l 41 4) i)
            ∷ num (sym (number_from_lem l 45 1) i)
            ∷ num (sym (number_from_lem l 46 4) i)
            ∷ num (sym (high_four l 50 (omega arith)) i)
            ∷ num (sym (low_four l 50 (omega arith)) i)
            ∷ num (sym (number_from_lem l 52 8) i)
            ∷ num (sym (number_from_lem l 61 3) i)
            ∷ [])
            ∙ sym (cut_at_lem (rows_of (endpoint_at Accept (bit08 l 7) l)) 0 s);
        size = sym n;
        wide = ap (λ (k : ℕ). 8 * k) (sym n);
        given = given_at_lem (rows_of (endpoint_at Accept (bit08 l 7) l)) 0 s ∙ given_four _ _ _ _ eyes (kinds 2 e) (lengths 68 n) (ends 512 (omega arith));
      }

  confirm_again : number_at l 4 1 ≡ 3 → Again l (endpoint_at Confirm false l)
  unfolding endpoint_at rows_of lines_of chosen_of size_of rows_in table chosen values cut_at given_at width_of fields_of
  confirm_again e =
      let n = endpoint_size l b.sized (λ f. omega arith) (λ f. omega arith) in
      let s = spread l in
      record {
        fit = (confirm_fit (endpoint_at Confirm false l) (endpoint_typed Confirm false l) refl).0 ∙ endpoint_read_fits Confirm false l b.version;
        fields =
            (λ i.
            num (sym (high_four l 7 (omega arith)) i)
            ∷ str (sym (bytes_from_lem l 8 8) i)
            ∷ str (sym (bytes_from_lem l 16 16) i)
            ∷ str (sym (bytes_from_lem l 32 6) i)
            ∷ num (sym (number_from_lem l 38 3) i)
            ∷ num (sym (number_from_lem l 41 4) i)
            ∷ num (sym (number_from_lem l 45 1) i)
            ∷ num (sym (number_from_lem l 46 4) i)
            ∷ num (sym (high_four l 50 (omega arith)) i)
            ∷ num (sym (low_four l 50 (omega arith)) i)
            ∷ num (sym (number_from_lem l 52 8) i)
            ∷ num (sym (number_from_lem l 61 3) i)
            ∷ [])
            ∙ sym (cut_at_lem (rows_of (endpoint_at Confirm false l)) 0 s);
        size = sym n;
        wide = ap (λ (k : ℕ). 8 * k) (sym n);
        given = given_at_lem (rows_of (endpoint_at Confirm false l)) 0 s ∙ given_four _ _ _ _ eyes (kinds 3 e) (lengths 68 n) (ends 512 (omega arith));
      }

  proposal_again : number_at l 4 1 ≡ 1 → Again l (proposal_at l)
  unfolding proposal_at rows_of lines_of chosen_of size_of rows_in table chosen values cut_at given_at width_of fields_of
  proposal_again e =
      let z = proposal_sizes l b.sized e in
      let n = z.whole in
      let s = spread l in
      let o = offset_at l in
      let p = count_at l in
      let d = bytes_at l (48 + o) (17 * p) in
      let front : take (17 * p) (d ++ zeros (136 - 17 * p)) ≡ d = take_at d (zeros (136 - 17 * p)) (17 * p) (bytes_is l (48 + o) (17 * p)).size in
      record {
        fit =
            (proposal_fit (proposal_at l) (proposal_typed l z.few) refl).0
            ∙ proposal_read_fits l b.version z.few (omega (arith, length_less l b));
        fields =
            (λ i.
            num (sym (high_four l 7 (omega arith)) i)
            ∷ str (sym (bytes_from_lem l 8 8) i)
            ∷ str (sym (bytes_from_lem l 16 16) i)
            ∷ str (sym (bytes_from_lem l 32 6) i)
            ∷ num (sym (number_from_lem l 38 2) i)
            ∷ str (sym (bytes_later l (320 + 8 * o) (40 + o) 4 (omega arith)) i)
            ∷ num (sym (number_later l (320 + 8 * o + 32) (44 + o) 1 (omega arith)) i)
            ∷ num (sym (number_later l (320 + 8 * o + 32 + 8 + 16) (47 + o) 1 (omega arith)) i)
            ∷ str ((front ∙ sym (bytes_later l (320 + 8 * o + 32 + 8 + 16 + 8) (48 + o) (17 * p) (omega arith))) i)
            ∷ [])
            ∙ sym (cut_at_lem (rows_of (proposal_at l)) 0 s);
        size = sym n;
        wide = omega arith;
        given =
            given_at_lem (rows_of (proposal_at l)) 0 s
            ∙ given_four _ _ _ _ eyes (kinds 1 e) (lengths (52 + o + 17 * p) n)
            (ends (320 + 8 * o + 32 + 8 + 16 + 8 + 8 * (17 * p)) (omega arith));
      }

  -- of whatever kind
  read_again : Again l (read_of l)
  read_again = go (number_at l 4 1) refl b.low b.high
    where
      go : (t : ℕ) → number_at l 4 1 ≡ t → 1 ≤ t → t ≤ 4 → Again l (read_of l)
      go zero e a c = absurd (omega arith)
      go (suc zero) e a c = subst (Again l) (sym (read_proposal l m e)) (proposal_again e)
      go (suc (suc zero)) e a c = subst (Again l) (sym (read_accept l m e)) (accept_again e)
      go (suc (suc (suc zero))) e a c = subst (Again l) (sym (read_confirm l m e)) (confirm_again e)
      go (suc (suc (suc (suc zero)))) e a c = subst (Again l) (sym (read_decline l m e)) (decline_again e)
      go (suc (suc (suc (suc (suc t))))) e a c = absurd (omega arith)

pub read_fits : ReadFits
read_fits l m = (read_again l m).fit

pub written_again : WrittenAgain
unfolding encode_of
written_again l small m z =
    let a = read_again l m in
    (λ i. written_of (a.size i) (rows_of (read_of l)) (a.fields i))
    ∙ L.written_again (rows_of (read_of l)) l small a.wide a.given z

-- fields that fit read back
width_as : (k : Option Kind) (o p : ℕ) → width_of (rows_in k (table k o p)) ≡ 8 * length_of k o p
unfolding width_of rows_in table
width_as None o p = refl
width_as (Some Proposal) o p = omega arith
width_as (Some Accept) o p = refl
width_as (Some Confirm) o p = refl
width_as (Some Decline) o p = refl

given_as : (k : Option Kind) (o p : ℕ) → length_of k o p ≤ 65535 → given_fit (rows_in k (table k o p)) ≡ true
unfolding given_fit rows_in table
given_as None o p h = refl
given_as (Some Proposal) o p h = simp (lt-ltb (52 + o + 17 * p) 65536 (omega arith))
given_as (Some Accept) o p h = refl
given_as (Some Confirm) o p h = refl
given_as (Some Decline) o p h = refl

-- the tests, from what they say
begins_message : (l : List ℕ) → Begins l → message_b l ≡ true
unfolding message_b begins_b
begins_message l b =
    λ i.
    (le-leb 28 (length l) b.long i
    && (eq-eqb (number_at l 0 4) eye_catcher b.eye i
    && (le-leb 1 (number_at l 4 1) b.low i
    && (le-leb (number_at l 4 1) 4 b.high i
    && (le-leb 1 (number_at l 7 1 / 16) b.version i
    && eq-eqb (number_at l 5 2) (length l) b.size i)))))
    && (b.sized i && eq-eqb (number_at l (length l - 4) 4) eye_catcher b.end i)

module _ (l : List ℕ) where
  sized_decline : number_at l 4 1 ≡ 4 → length l ≡ 28 → sized_b l ≡ true
  unfolding sized_b
  sized_decline e n = simp (eq-eqb _ 4 e, eq-eqb _ 28 n)

  sized_endpoint : (number_at l 4 1 ≡ 1 → ⊥) → (number_at l 4 1 ≡ 4 → ⊥) → length l ≡ 68 → sized_b l ≡ true
  unfolding sized_b
  sized_endpoint a c n = simp (ne_eqb (number_at l 4 1) 1 a, ne_eqb (number_at l 4 1) 4 c, eq-eqb _ 68 n)

  sized_proposal : number_at l 4 1 ≡ 1 → count_at l ≤ 8 → length l ≡ 52 + offset_at l + 17 * count_at l → sized_b l ≡ true
  unfolding sized_b
  sized_proposal e few n =
      simp (
        eq-eqb _ 1 e,
        ne_eqb (number_at l 4 1) 4 (λ f. omega arith),
        le-leb 52 (length l) (omega arith),
        le-leb (52 + offset_at l) (length l) (omega arith),
        le-leb (count_at l) 8 few,
        eq-eqb (length l) _ n,
      )

-- the four = rows, and where the last begins
record Given (l : List ℕ) (t n k : ℕ) : Type 0 where
  eye : number_at l 0 4 ≡ eye_catcher
  kind : number_at l 4 1 ≡ t
  size : number_at l 5 2 ≡ n
  end : number_from (spread l) k 32 ≡ eye_catcher

four_given : (l : List ℕ) (t n k : ℕ)
    → (eqb (number_from (spread l) 0 32) eye_catcher
    && (eqb (number_from (spread l) 32 8) t
    && (eqb (number_from (spread l) 40 16) n
    && (eqb (number_from (spread l) k 32) eye_catcher && true)))) ≡ true
    → Given l t n k
four_given l t n k g =
    let s = spread l in
    let g1 = and_right (eqb (number_from s 0 32) eye_catcher) _ g in
    let g2 = and_right (eqb (number_from s 32 8) t) _ g1 in
    let g3 = and_right (eqb (number_from s 40 16) n) _ g2 in
    record {
      eye = sym (number_from_lem l 0 4) ∙ eqb-true _ eye_catcher (and_left _ _ g);
      kind = sym (number_from_lem l 4 1) ∙ eqb-true _ t (and_left _ _ g1);
      size = sym (number_from_lem l 5 2) ∙ eqb-true _ n (and_left _ _ g2);
      end = eqb-true _ eye_catcher (and_left _ _ g3);
    }

-- what a kind's rows and fields are, and what is read of a message written by them
rows_as : Option Kind → Message → List Row
rows_as k m = rows_in k (table k (only_proposal k m.offset) (only_proposal k m.count))

chosen_as : Option Kind → Message → List Field
chosen_as k m =
    chosen k (table k (only_proposal k m.offset) (only_proposal k m.count)) (values (only_proposal k m.count) m)

tidy_as : Option Kind → Message → Message
tidy_as k m = message_of k (restored k (table k (only_proposal k m.offset) (only_proposal k m.count)) (chosen_as k m))

module _ (m : Message) (f : fits_of m ≡ true) where
  l : List ℕ
  l = encode_of m

  version_one : 1 ≤ m.version
  unfolding fits_of
  version_one = leb-true 1 m.version (and_left _ _ (and_right (leb 1 (type_of m.kind)) _ f))

  few : only_proposal m.kind m.count ≤ 8
  unfolding fits_of
  few = leb-true _ 8 (and_left _ _ (and_right (leb 1 m.version) _ (and_right (leb 1 (type_of m.kind)) _ f)))

  well : WellWritten (rows_of m) (chosen_of m) l
  unfolding l fits_of encode_of rows_of lines_of size_of
  well =
      let f1 = and_right (leb 1 (type_of m.kind)) _ f in
      let f2 = and_right (leb 1 m.version) _ f1 in
      let f3 = and_right (leb (only_proposal m.kind m.count) 8) _ f2 in
      let o = only_proposal m.kind m.offset in
      let p = only_proposal m.kind m.count in
      L.reads_back (rows_of m) (size_of m) (chosen_of m) (width_as m.kind o p)
      (given_as m.kind o p (leb-true (length_of m.kind o p) 65535 (and_left _ _ f3)))
      (and_right (leb (length_of m.kind o p) 65535) _ f3)

  size_is : length l ≡ size_of m
  unfolding l encode_of written_of
  size_is = gather_length (size_of m) _

  well_as : (k : Option Kind) → m.kind ≡ k → WellWritten (rows_as k m) (chosen_as k m) l
  unfolding rows_as chosen_as rows_of chosen_of lines_of
  well_as k e = subst (λ (j : Option Kind). WellWritten (rows_as j m) (chosen_as j m) l) e well

  long_as : (k : Option Kind) → m.kind ≡ k → length l ≡ length_of k (only_proposal k m.offset) (only_proposal k m.count)
  unfolding size_of
  long_as k e = size_is ∙ (λ i. length_of (e i) (only_proposal (e i) m.offset) (only_proposal (e i) m.count))

  tidy_as_lem : (k : Option Kind) → m.kind ≡ k → tidy_as k m ≡ tidy_of m
  unfolding tidy_as chosen_as tidy_of chosen_of lines_of
  tidy_as_lem k e = ap (λ (j : Option Kind). tidy_as j m) (sym e)

  back_at : (k : Option Kind) → m.kind ≡ k → cut_at (rows_as k m) 0 (spread l) ≡ chosen_as k m
  unfolding fields_of
  back_at k e = sym (cut_at_lem (rows_as k m) 0 (spread l)) ∙ (well_as k e).back

  marks_at : (k : Option Kind) → m.kind ≡ k → given_at (rows_as k m) 0 (spread l) ≡ true
  marks_at k e = sym (given_at_lem (rows_as k m) 0 (spread l)) ∙ (well_as k e).given

  -- byte 7's high half is the first field of each
  version_back : 28 ≤ length l → number_from (spread l) 56 4 ≡ m.version → 1 ≤ number_at l 7 1 / 16
  version_back h e = omega (arith, sym (high_four l 7 (omega arith)) ∙ e, version_one)

  -- read as a kind without o and p
  read_plain : (k : Option Kind) (t : ℕ) → m.kind ≡ k → Some (kind_of t) ≡ k → number_at l 4 1 ≡ t → message_b l ≡ true
      → message_in k (only_proposal k (offset_at l)) (only_proposal k (count_at l)) l ≡ tidy_as k m → read_of l ≡ tidy_of m
  read_plain k t e et ek mb r = read_kind l k (kind_in_lem l t mb ek ∙ et) ∙ r ∙ tidy_as_lem k e

  decline_back : m.kind ≡ Some Decline → read_of l ≡ tidy_of m
  unfolding rows_as chosen_as tidy_as message_in kind_of rows_in table chosen values cut_at given_at
  decline_back e =
      let n : length l ≡ 28 = long_as (Some Decline) e in
      let g = four_given l 4 28 192 (marks_at (Some Decline) e) in
      let v : number_from (spread l) 56 4 ≡ m.version = ap (λ (x : List Field). number_in (nth x 0)) (back_at (Some Decline) e) in
      let b : Begins l =
      record {
        long = omega arith;
        eye = g.eye;
        low = omega (arith, g.kind);
        high = omega (arith, g.kind);
        version = version_back (omega arith) v;
        size = g.size ∙ sym n;
        sized = sized_decline l g.kind n;
        end = sym (number_later l 192 (length l - 4) 4 (omega arith)) ∙ g.end;
      } in
      read_plain (Some Decline) 4 e refl g.kind (begins_message l b)
      (ap (λ (x : List Field). message_of (Some Decline) (restored (Some Decline) (table (Some Decline) 0 0) x)) (well_as (Some Decline) e).back)

  accept_back : m.kind ≡ Some Accept → read_of l ≡ tidy_of m
  unfolding rows_as chosen_as tidy_as message_in kind_of rows_in table chosen values cut_at given_at
  accept_back e =
      let n : length l ≡ 68 = long_as (Some Accept) e in
      let g = four_given l 2 68 512 (marks_at (Some Accept) e) in
      let v : number_from (spread l) 56 4 ≡ m.version = ap (λ (x : List Field). number_in (nth x 0)) (back_at (Some Accept) e) in
      let b : Begins l =
      record {
        long = omega arith;
        eye = g.eye;
        low = omega (arith, g.kind);
        high = omega (arith, g.kind);
        version = version_back (omega arith) v;
        size = g.size ∙ sym n;
        sized = sized_endpoint l (λ q. omega (arith, g.kind)) (λ q. omega (arith, g.kind)) n;
        end = sym (number_later l 512 (length l - 4) 4 (omega arith)) ∙ g.end;
      } in
      read_plain (Some Accept) 2 e refl g.kind (begins_message l b)
      (ap (λ (x : List Field). message_of (Some Accept) (restored (Some Accept) (table (Some Accept) 0 0) x)) (well_as (Some Accept) e).back)

  confirm_back : m.kind ≡ Some Confirm → read_of l ≡ tidy_of m
  unfolding rows_as chosen_as tidy_as message_in kind_of rows_in table chosen values cut_at given_at
  confirm_back e =
      let n : length l ≡ 68 = long_as (Some Confirm) e in
      let g = four_given l 3 68 512 (marks_at (Some Confirm) e) in
      let v : number_from (spread l) 56 4 ≡ m.version = ap (λ (x : List Field). number_in (nth x 0)) (back_at (Some Confirm) e) in
      let b : Begins l =
      record {
        long = omega arith;
        eye = g.eye;
        low = omega (arith, g.kind);
        high = omega (arith, g.kind);
        version = version_back (omega arith) v;
        size = g.size ∙ sym n;
        sized = sized_endpoint l (λ q. omega (arith, g.kind)) (λ q. omega (arith, g.kind)) n;
        end = sym (number_later l 512 (length l - 4) 4 (omega arith)) ∙ g.end;
      } in
      read_plain (Some Confirm) 3 e refl g.kind (begins_message l b)
      (ap (λ (x : List Field). message_of (Some Confirm) (restored (Some Confirm) (table (Some Confirm) 0 0) x)) (well_as (Some Confirm) e).back)

  proposal_back : m.kind ≡ Some Proposal → read_of l ≡ tidy_of m
  unfolding rows_as chosen_as tidy_as message_in kind_of rows_in table chosen values cut_at given_at
  proposal_back e =
      let o = m.offset in
      let p = m.count in
      let n : length l ≡ 52 + o + 17 * p = long_as (Some Proposal) e in
      let g = four_given l 1 (52 + o + 17 * p) (320 + 8 * o + 32 + 8 + 16 + 8 + 8 * (17 * p)) (marks_at (Some Proposal) e) in
      let f = back_at (Some Proposal) e in
      let v : number_from (spread l) 56 4 ≡ m.version = ap (λ (x : List Field). number_in (nth x 0)) f in
      let eo : offset_at l ≡ o = sym (number_from_lem l 38 2) ∙ ap (λ (x : List Field). number_in (nth x 4)) f in
      let ep : count_at l ≡ p =
      ap (λ (x : ℕ). number_at l (47 + x) 1) eo
      ∙ sym (number_later l (320 + 8 * o + 32 + 8 + 16) (47 + o) 1 (omega arith))
      ∙ ap (λ (x : List Field). number_in (nth x 7)) f in
      let h : p ≤ 8 = subst (λ (j : Option Kind). only_proposal j p ≤ 8) e few in
      let b : Begins l =
      record {
        long = omega arith;
        eye = g.eye;
        low = omega (arith, g.kind);
        high = omega (arith, g.kind);
        version = version_back (omega arith) v;
        size = g.size ∙ sym n;
        sized = sized_proposal l g.kind (omega arith) (omega arith);
        end = sym (number_later l _ (length l - 4) 4 (omega (arith, n))) ∙ g.end;
      } in
      read_plain (Some Proposal) 1 e refl g.kind (begins_message l b)
      ((λ i. message_in (Some Proposal) (eo i) (ep i) l)
      ∙ ap (λ (x : List Field). message_of (Some Proposal) (restored (Some Proposal) (table (Some Proposal) o p) x)) (well_as (Some Proposal) e).back)

pub reads_back : ReadsBack
unfolding l fits_of
reads_back m f = go m.kind refl
  where
    go : (k : Option Kind) → m.kind ≡ k → read_of (encode_of m) ≡ tidy_of m
    go None e = let z : ◌≡◌ {A = ℕ} 0 1 = cc in absurd (omega arith)
    go (Some Proposal) e = proposal_back m f e
    go (Some Accept) e = accept_back m f e
    go (Some Confirm) e = confirm_back m f e
    go (Some Decline) e = decline_back m f e

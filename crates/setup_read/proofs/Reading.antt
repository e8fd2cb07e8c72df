-- What the rows give, by places.
-- Assumes nothing.
use Rattle.std.specs.Prelude.{Option, Some, None}
use Prim.Native.Nat.{ℕ, zero, suc, ◌+◌, ◌-◌, ◌*◌, ◌/◌, ◌%◌, ◌≤◌}
use mathlib.Core.Path.{◌≡◌, ◌∙◌, refl, ap}
use mathlib.Core.Bool.{true, false}
use mathlib.Core.List.{List, ◌++◌}
use native.Mathlib.Nat.{mod-eq_of_lt, div-one}
use native.Mathlib.Omega.{arith}
use lib.ListN.{length, take, drop}
use lib.Seq.{length-take-le}
use lib.Dec.{eqb, leb}
use borrow.Author.Tests.{leb-true}
use Rattle.layout.specs.Layout.{spread, cut, fields_of, number_at, bytes_at, Field}
use Rattle.layout.proofs.At.{number_from, bytes_from, number_from_lem, bytes_from_lem, cut_at, cut_at_lem, number_within}
use Rattle.layout.proofs.Bits.{gather_length, and_left}
use Rattle.layout.proofs.Places.{number_bound}
use Rattle.setup_read.specs.declared.Kind.{Kind}
use Rattle.setup_read.specs.declared.Kind.TheVariants.{Proposal, Accept, Confirm, Decline}
use Rattle.setup_read.specs.declared.Message.{Message}
use Rattle.setup_read.specs.Clc.{table, rows_in, restored, message_of, message_in, offset_at, count_at, begins_b}
use Rattle.setup_read.specs.Places.{no_message, proposal_at, endpoint_at, decline_at, bit08, zeros}

-- parts of a byte
module _ (l : List ℕ) (i : ℕ) (h : i + 1 ≤ length l) where
  pub high_four : number_from (spread l) (8 * i) 4 ≡ number_at l i 1 / 16
  high_four =
      ap (λ (k : ℕ). number_from (spread l) k 4) {x = 8 * i} {y = 8 * i + 0} (omega arith)
      ∙ number_within l i 1 0 4 4 h refl
      ∙ mod-eq_of_lt (omega (arith, number_bound l i 1))

  pub low_four : number_from (spread l) (8 * i + 4) 4 ≡ number_at l i 1 % 16
  low_four = number_within l i 1 4 4 0 h refl ∙ ap (λ (n : ℕ). n % 16) (div-one (number_at l i 1))

  pub bit_08 : number_from (spread l) (8 * i + 4) 1 ≡ number_at l i 1 / 8 % 2
  bit_08 = number_within l i 1 4 1 3 h refl

-- what is read of a kind, with each row cut where it begins
placed : Option Kind → ℕ → ℕ → List ℕ → Message
placed k o p l = message_of k (restored k (table k o p) (cut_at (rows_in k (table k o p)) 0 (spread l)))

by_places : (k : Option Kind) (o p : ℕ) (l : List ℕ) → message_in k o p l ≡ placed k o p l
unfolding message_in fields_of placed
by_places k o p l = ap (λ (fs : List Field). message_of k (restored k (table k o p) fs)) (cut_at_lem (rows_in k (table k o p)) 0 (spread l))

pub nothing_read : (l : List ℕ) → message_in None 0 0 l ≡ no_message
unfolding message_in message_of restored table rows_in fields_of cut no_message
nothing_read l = refl

pub decline_read : (l : List ℕ) → 28 ≤ length l → message_in (Some Decline) 0 0 l ≡ decline_at l
unfolding placed message_of restored table rows_in cut_at decline_at
decline_read l h =
    by_places (Some Decline) 0 0 l
    ∙ λ i.
    record {
      kind = Some Decline;
      version = high_four l 7 (omega arith) i;
      first = false;
      sync = eqb (bit_08 l 7 (omega arith) i) 1;
      peer = bytes_from_lem l 8 8 i;
      gid = zeros 16;
      mac = zeros 6;
      qp = 0;
      key = 0;
      index = 0;
      token = 0;
      code = 0;
      mtu = 0;
      base = 0;
      psn = 0;
      offset = 0;
      mask = zeros 4;
      masklen = 0;
      count = 0;
      prefixes = zeros 136;
      diagnosis = number_from_lem l 16 4 i;
    }

pub accept_read : (l : List ℕ) → 68 ≤ length l → message_in (Some Accept) 0 0 l ≡ endpoint_at Accept (bit08 l 7) l
unfolding placed message_of restored table rows_in cut_at endpoint_at
accept_read l h =
    by_places (Some Accept) 0 0 l
    ∙ λ i.
    record {
      kind = Some Accept;
      version = high_four l 7 (omega arith) i;
      first = eqb (bit_08 l 7 (omega arith) i) 1;
      sync = false;
      peer = bytes_from_lem l 8 8 i;
      gid = bytes_from_lem l 16 16 i;
      mac = bytes_from_lem l 32 6 i;
      qp = number_from_lem l 38 3 i;
      key = number_from_lem l 41 4 i;
      index = number_from_lem l 45 1 i;
      token = number_from_lem l 46 4 i;
      code = high_four l 50 (omega arith) i;
      mtu = low_four l 50 (omega arith) i;
      base = number_from_lem l 52 8 i;
      psn = number_from_lem l 61 3 i;
      offset = 0;
      mask = zeros 4;
      masklen = 0;
      count = 0;
      prefixes = zeros 136;
      diagnosis = 0;
    }

pub confirm_read : (l : List ℕ) → 68 ≤ length l → message_in (Some Confirm) 0 0 l ≡ endpoint_at Confirm false l
unfolding placed message_of restored table rows_in cut_at endpoint_at
confirm_read l h =
    by_places (Some Confirm) 0 0 l
    ∙ λ i.
    record {
      kind = Some Confirm;
      version = high_four l 7 (omega arith) i;
      first = false;
      sync = false;
      peer = bytes_from_lem l 8 8 i;
      gid = bytes_from_lem l 16 16 i;
      mac = bytes_from_lem l 32 6 i;
      qp = number_from_lem l 38 3 i;
      key = number_from_lem l 41 4 i;
      index = number_from_lem l 45 1 i;
      token = number_from_lem l 46 4 i;
      code = high_four l 50 (omega arith) i;
      mtu = low_four l 50 (omega arith) i;
      base = number_from_lem l 52 8 i;
      psn = number_from_lem l 61 3 i;
      offset = 0;
      mask = zeros 4;
      masklen = 0;
      count = 0;
      prefixes = zeros 136;
      diagnosis = 0;
    }

-- the same, from a bit that o moves
pub number_later : (l : List ℕ) (k i n : ℕ) → k ≡ 8 * i → number_from (spread l) k (8 * n) ≡ number_at l i n
number_later l k i n e = ap (λ (j : ℕ). number_from (spread l) j (8 * n)) e ∙ number_from_lem l i n

pub bytes_later : (l : List ℕ) (k i n : ℕ) → k ≡ 8 * i → bytes_from (spread l) k n ≡ bytes_at l i n
bytes_later l k i n e = ap (λ (j : ℕ). bytes_from (spread l) j n) e ∙ bytes_from_lem l i n

-- zeros behind the prefixes
filled : (l : List ℕ) (k i n : ℕ) → k ≡ 8 * i
    → bytes_from (spread l) k n ++ zeros (136 - length (bytes_from (spread l) k n)) ≡ bytes_at l i n ++ zeros (136 - n)
unfolding bytes_from
filled l k i n e = λ j. bytes_later l k i n e j ++ zeros (136 - gather_length n (take (8 * n) (drop k (spread l))) j)

pub proposal_read : (l : List ℕ) → 52 ≤ length l → message_in (Some Proposal) (offset_at l) (count_at l) l ≡ proposal_at l
unfolding placed message_of restored table rows_in cut_at proposal_at
proposal_read l h =
    by_places (Some Proposal) (offset_at l) (count_at l) l
    ∙ λ i.
    record {
      kind = Some Proposal;
      version = high_four l 7 (omega arith) i;
      first = false;
      sync = false;
      peer = bytes_from_lem l 8 8 i;
      gid = bytes_from_lem l 16 16 i;
      mac = bytes_from_lem l 32 6 i;
      qp = 0;
      key = 0;
      index = 0;
      token = 0;
      code = 0;
      mtu = 0;
      base = 0;
      psn = 0;
      offset = number_from_lem l 38 2 i;
      mask = bytes_later l (320 + 8 * offset_at l) (40 + offset_at l) 4 (omega arith) i;
      masklen = number_later l (320 + 8 * offset_at l + 32) (44 + offset_at l) 1 (omega arith) i;
      count = number_later l (320 + 8 * offset_at l + 32 + 8 + 16) (47 + offset_at l) 1 (omega arith) i;
      prefixes = filled l (320 + 8 * offset_at l + 32 + 8 + 16 + 8) (48 + offset_at l) (17 * count_at l) (omega arith) i;
      diagnosis = 0;
    }

-- what begins as a message has 28 bytes or more
pub begins_long : (l : List ℕ) → begins_b l ≡ true → 28 ≤ length l
unfolding begins_b
begins_long l e = leb-true 28 (length l) (and_left (leb 28 (length l)) _ e)

-- a part of zeros that was filled
pub prefixes_filled : (l x : List ℕ) (i n : ℕ) → n ≤ 136 → x ≡ bytes_at l i (length (take (n - 0) (zeros 136)))
    → x ++ drop (n - 0) (zeros 136) ≡ bytes_at l i n ++ zeros (136 - n)
prefixes_filled l x i n h e =
    let k : n - 0 ≡ n = omega arith in
    let z = zeros 136 in
    (λ j. (e ∙ ap (bytes_at l i) (ap (λ (m : ℕ). length (take m z)) k ∙ length-take-le n z h)) j ++ drop (k j) z)
    ∙ ap (λ (t : List ℕ). bytes_at l i n ++ t) (drop_zeros n 136)
  where
    drop_zeros : (k n : ℕ) → drop k (zeros n) ≡ zeros (n - k)
    drop_zeros zero n = ap zeros {x = n} {y = n - 0} (omega arith)
    drop_zeros (suc k) zero = ap zeros {x = 0} {y = 0 - suc k} (omega arith)
    drop_zeros (suc k) (suc n) = drop_zeros k n ∙ ap zeros {x = n - k} {y = suc n - suc k} (omega arith)

-- Request 2026-01, part 1, "The layouts (Appendix A.3)": one table of 71 rows; reading and writing from it.
-- Assumes nothing.
use Rattle.std.specs.Prelude.{ℕ, ◌+◌, ◌-◌, ◌*◌, ◌/◌, ◌%◌, ◌^◌, ◌≡◌, Bool, true, false, ◌&&◌, cond, List, [], ◌∷◌, ◌++◌, length, get_or, drop, replicate, leb, ltb, eqb}
use Rattle.link_message.specs.Llc.{class_of, named}
use Rattle.layout.specs.Layout.{Row, Field, spread, are_bytes, reserved_zero, written_of, number_at}
use Rattle.layout.specs.Layout.Row.{fixed, reserved, number}
use Rattle.layout.specs.Layout.Field.{num}
use Rattle.link_message.specs.declared.Kind.{Kind}
use Rattle.link_message.specs.declared.Kind.TheVariants.{ConfirmLink, AddLink, AddLinkContinuation, DeleteLink, ConfirmRkey, TestLink, ConfirmRkeyContinuation, DeleteRkey}
use Rattle.link_message.specs.declared.Place.{Place}

-- "byte 0 is the kind"
abbrev pub code_of : Kind → ℕ
code_of ConfirmLink = 0x01
code_of AddLink = 0x02
code_of AddLinkContinuation = 0x03
code_of DeleteLink = 0x04
code_of ConfirmRkey = 0x06
code_of TestLink = 0x07
code_of ConfirmRkeyContinuation = 0x08
code_of DeleteRkey = 0x09

-- "byte 1 is 2C"
abbrev pub mark : ℕ
mark = 0x2C

-- the kind of a byte 0, where it is one
unfoldable pub kind_of : ℕ → Kind
kind_of b =
    cond (eqb b 0x01) ConfirmLink
    (cond (eqb b 0x02) AddLink
    (cond (eqb b 0x03) AddLinkContinuation
    (cond (eqb b 0x04) DeleteLink
    (cond (eqb b 0x06) ConfirmRkey
    (cond (eqb b 0x07) TestLink
    (cond (eqb b 0x08) ConfirmRkeyContinuation DeleteRkey))))))

-- the byte of a kind: which bytes are named, `Llc` says, whose table of 256 entries classes every first byte by one rule
unfoldable pub named_b : ℕ → Bool
named_b b = eqb (class_of b) named

-- "a row is (kind, field, first byte, bytes, low, bits)": its kind and field are its place in the table
abbrev pub place : ℕ → ℕ → ℕ → ℕ → Place
place first bytes low bits = record { 0 = first; 1 = bytes; 2 = low; 3 = bits }

-- f 26:3, whole bytes
abbrev whole : ℕ → ℕ → Place
whole i n = place i n 0 (8 * n)

-- f 3.7, one bit
abbrev bit : ℕ → ℕ → Place
bit i b = place i 1 b 1

-- f 30.0:4, low four bits
abbrev low : ℕ → ℕ → Place
low i n = place i 1 0 n

-- the table
unfoldable pub table_of : Kind → List Place
-- R, mac, gid1, gid2, qp, link, user, max
table_of ConfirmLink = bit 3 7 ∷ whole 4 6 ∷ whole 10 8 ∷ whole 18 8 ∷ whole 26 3 ∷ whole 29 1 ∷ whole 30 4 ∷ whole 34 1 ∷ []
-- R, Z, reason, mac, gid1, gid2, qp, link, mtu, psn
table_of AddLink =
    bit 3 7 ∷ bit 3 6 ∷ low 2 4 ∷ whole 4 6 ∷ whole 10 8 ∷ whole 18 8 ∷ whole 26 3 ∷ whole 29 1 ∷ low 30 4 ∷ whole 31 3 ∷ []
-- R, link, num, ref1, key1, addr1, ref2, key2, addr2
table_of AddLinkContinuation =
    bit 3 7 ∷ whole 4 1 ∷ whole 5 1 ∷ whole 8 4 ∷ whole 12 4 ∷ whole 16 8 ∷ whole 24 4 ∷ whole 28 4 ∷ whole 32 8 ∷ []
-- R, A, O, link, reason
table_of DeleteLink = bit 3 7 ∷ bit 3 6 ∷ bit 3 5 ∷ whole 4 1 ∷ whole 5 4 ∷ []
-- R, Z, C, num, key, addr, link1, key1, addr1, link2, key2, addr2
table_of ConfirmRkey =
    bit 3 7 ∷ bit 3 5 ∷ bit 3 4 ∷ whole 4 1 ∷ whole 5 4 ∷ whole 9 8 ∷ whole 17 1 ∷ whole 18 4 ∷ whole 22 8 ∷ whole 30 1 ∷ whole 31 4
    ∷ whole 35 8 ∷ []
-- R, user1, user2
table_of TestLink = bit 3 7 ∷ whole 4 8 ∷ whole 12 8 ∷ []
-- R, Z, num, link1, key1, addr1, link2, key2, addr2, link3, key3, addr3
table_of ConfirmRkeyContinuation =
    bit 3 7 ∷ bit 3 5 ∷ whole 4 1 ∷ whole 5 1 ∷ whole 6 4 ∷ whole 10 8 ∷ whole 18 1 ∷ whole 19 4 ∷ whole 23 8 ∷ whole 31 1 ∷ whole 32 4
    ∷ whole 36 8 ∷ []
-- R, Z, count, mask, key1, key2, key3, key4, key5, key6, key7, key8
table_of DeleteRkey =
    bit 3 7 ∷ bit 3 5 ∷ whole 4 1 ∷ whole 5 1 ∷ whole 8 4 ∷ whole 12 4 ∷ whole 16 4 ∷ whole 20 4 ∷ whole 24 4 ∷ whole 28 4 ∷ whole 32 4
    ∷ whole 36 4 ∷ []

-- READING. "The field is (the big-endian number of those bytes / 2^low) mod 2^bits"
unfoldable pub value_at : List ℕ → Place → ℕ
value_at l p = number_at l p.0 p.1 / 2 ^ p.2 % 2 ^ p.3

-- "its values in row order"
unfoldable pub values_in : List Place → List ℕ → List ℕ
values_in [] l = []
values_in (p ∷ t) l = value_at l p ∷ values_in t l

-- "values are first reduced to their rows' bits; missing ones are 0, surplus ones ignored"
unfoldable pub reduced : List Place → List ℕ → List ℕ
reduced [] vs = []
reduced (p ∷ t) vs = get_or vs 0 0 % 2 ^ p.3 ∷ reduced t (drop 1 vs)

-- the code's values are twelve: zeros behind those of the kind
abbrev pub most_rows : ℕ
most_rows = 12

unfoldable pub filled : List ℕ → List ℕ
filled vs = vs ++ replicate (most_rows - length vs) 0

unfoldable pub read_of : Kind → List ℕ → List ℕ
read_of k l = filled (values_in (table_of k) l)

unfoldable pub reduced_of : Kind → List ℕ → List ℕ
reduced_of k vs = filled (reduced (table_of k) vs)

-- WRITING, by the crate layout, which takes rows as they stand in the message: ADD LINK's reason stands before R and Z there, and all
-- other rows stand as they are listed
unfoldable pub third_first : {A : Type 0} → List A → List A
third_first [] = []
third_first (a ∷ []) = a ∷ []
third_first (a ∷ b ∷ []) = a ∷ b ∷ []
third_first (a ∷ b ∷ c ∷ l) = c ∷ a ∷ b ∷ l

abbrev pub in_message : {A : Type 0} → Kind → List A → List A
in_message ConfirmLink l = l
in_message AddLink l = third_first l
in_message AddLinkContinuation l = l
in_message DeleteLink l = l
in_message ConfirmRkey l = l
in_message TestLink l = l
in_message ConfirmRkeyContinuation l = l
in_message DeleteRkey l = l

-- the bit where a row begins, and the bit behind it
abbrev pub start_of : Place → ℕ
start_of p = 8 * (p.0 + p.1) - (p.2 + p.3)

abbrev pub end_of : Place → ℕ
end_of p = 8 * (p.0 + p.1) - p.2

abbrev pub bits_of_all : ℕ
bits_of_all = 352

-- "bits that no row names are reserved"
unfoldable pub laid_rows : ℕ → List Place → List Row
laid_rows at [] = reserved (bits_of_all - at) ∷ []
laid_rows at (p ∷ t) = reserved (start_of p - at) ∷ number p.3 ∷ laid_rows (end_of p) t

unfoldable pub rows_of : Kind → List Row
rows_of k = fixed 8 (code_of k) ∷ fixed 8 mark ∷ laid_rows 16 (in_message k (table_of k))

unfoldable pub nums : List ℕ → List Field
nums [] = []
nums (v ∷ vs) = num v ∷ nums vs

unfoldable pub encode_of : Kind → List ℕ → List ℕ
encode_of k vs = written_of 44 (rows_of k) (nums (in_message k (reduced (table_of k) vs)))

-- THE CLAIMS; proofs/Named proves the first, proofs/RoundTrip the others.
-- the kinds are the bytes that are named: a byte is named exactly where it is the byte of its kind
abbrev pub KindsNamed : Type 0
KindsNamed = (b : ℕ) → named_b b ≡ eqb (code_of (kind_of b)) b

-- "the rows of a kind don't overlap and lie in bytes 2 to 43": each lies within its bytes, at most eight and before byte 44, and begins
-- where the one before it has ended, the first from bit 16 on
unfoldable pub within_b : Place → Bool
within_b p = leb (p.2 + p.3) (8 * p.1) && (leb p.1 8 && leb (p.0 + p.1) 44)

unfoldable pub apart_from : ℕ → List Place → Bool
apart_from at [] = leb at bits_of_all
apart_from at (p ∷ t) = within_b p && (leb at (start_of p) && apart_from (end_of p) t)

abbrev pub Sound : Type 0
Sound = (k : Kind) → apart_from 16 (in_message k (table_of k)) ≡ true

-- values fit if each is below 2 to its row's bits, and there is one for each row
unfoldable pub fit_b : List Place → List ℕ → Bool
fit_b [] [] = true
fit_b [] (v ∷ vs) = false
fit_b (p ∷ t) [] = false
fit_b (p ∷ t) (v ∷ vs) = ltb v (2 ^ p.3) && fit_b t vs

-- what is written: its kind, 2C, reserved bits zero, and the values as they were reduced
pub record WellWritten (k : Kind) (vs l : List ℕ) : Type 0 where
  pub size : length l ≡ 44
  pub kind : number_at l 0 1 ≡ code_of k
  pub marked : number_at l 1 1 ≡ mark
  pub zeros : reserved_zero (rows_of k) (spread l) ≡ true
  pub back : values_in (table_of k) l ≡ reduced (table_of k) vs

abbrev pub Written : Type 0
Written = (k : Kind) (vs : List ℕ) → WellWritten k vs (encode_of k vs)

-- "fields whose values fit read back to themselves after writing"
abbrev pub ReadsBack : Type 0
ReadsBack = (k : Kind) (vs : List ℕ) → fit_b (table_of k) vs ≡ true → values_in (table_of k) (encode_of k vs) ≡ vs

-- "44 bytes of a named kind with byte 1 2C and reserved bits zero are written again byte for byte"
abbrev pub WrittenAgain : Type 0
WrittenAgain =
    (k : Kind) (l : List ℕ) → are_bytes l ≡ true → length l ≡ 44 → number_at l 0 1 ≡ code_of k → number_at l 1 1 ≡ mark
    → reserved_zero (rows_of k) (spread l) ≡ true → encode_of k (values_in (table_of k) l) ≡ l

-- the code's 71 rows, kind after kind: where each kind's begin, and how many they are
abbrev pub start_row : Kind → ℕ
start_row ConfirmLink = 0
start_row AddLink = 8
start_row AddLinkContinuation = 18
start_row DeleteLink = 27
start_row ConfirmRkey = 32
start_row TestLink = 44
start_row ConfirmRkeyContinuation = 47
start_row DeleteRkey = 59

abbrev pub count_of : Kind → ℕ
count_of ConfirmLink = 8
count_of AddLink = 10
count_of AddLinkContinuation = 9
count_of DeleteLink = 5
count_of ConfirmRkey = 12
count_of TestLink = 3
count_of ConfirmRkeyContinuation = 12
count_of DeleteRkey = 12

abbrev pub no_place : Place
no_place = place 0 0 0 0

-- Document 01, "The 44-byte message": its bytes, and its fields.
-- Assumes nothing.
use Rattle.std.specs.Prelude.{ℕ, ◌+◌, ◌*◌, ◌/◌, ◌%◌, ◌≤◌, ◌<◌, ◌≡◌, Bool, true, false, cond, List, [], ◌∷◌, ◌++◌, length, get_or, replicate, eqb}
use Rattle.cursor.specs.declared.Cursor.{Cursor}
use Rattle.cdc.specs.declared.Flags.{Flags}
use Rattle.cdc.specs.declared.Message.{Message}
use Rattle.cdc.specs.declared.Decoded.{Decoded}
use Rattle.cdc.specs.declared.Decoded.TheVariants.{Good, Malformed}

-- big-endian; x is a 16-bit or a 32-bit number by its type, so the first is a byte too
abbrev pub be16 : ℕ → List ℕ
be16 x = x / 256 ∷ x % 256 ∷ []

abbrev pub be32 : ℕ → List ℕ
be32 x = x / 16777216 ∷ x / 65536 % 256 ∷ x / 256 % 256 ∷ x % 256 ∷ []

-- the reserved bytes, written zero
abbrev pub zeros : ℕ → List ℕ
zeros k = replicate k 0

-- a flag's weight in its byte where it is on, and 0 where it is off
abbrev pub weight_of : Bool → ℕ → ℕ
weight_of true w = w
weight_of false w = 0

-- byte 24, high bit down: B, P, U, R, F
unfoldable pub high_byte : Flags → ℕ
high_byte f = weight_of f.blocked 128 + weight_of f.pending 64 + weight_of f.urgent 32 + weight_of f.request 16 + weight_of f.failover 8

-- byte 25, high bit down: D, C, A
unfoldable pub low_byte : Flags → ℕ
low_byte f = weight_of f.done 128 + weight_of f.closed 64 + weight_of f.abort 32

-- byte 0 FE, byte 1 2C, bytes 2-3 sequence, 4-7 alert token, 10-11 producer wrap, 12-15 producer offset, 18-19 consumer wrap,
-- 20-23 consumer offset, the flags' two bytes; the rest is reserved
unfoldable pub encode_of : Message → List ℕ
encode_of m =
    0xFE ∷ 0x2C ∷ (be16 m.sequence ++ (be32 m.token
    ++ (zeros 2 ++ (be16 m.producer.wrap ++ (be32 m.producer.offset
    ++ (zeros 2 ++ (be16 m.consumer.wrap ++ (be32 m.consumer.offset
    ++ (high_byte m.flags ∷ low_byte m.flags ∷ zeros 18)))))))))

-- the byte at a place
abbrev pub at : List ℕ → ℕ → ℕ
at l i = get_or l i 0

-- the numbers of two and of four bytes that start at a place
unfoldable pub num2 : List ℕ → ℕ → ℕ
num2 l i = at l i * 256 + at l (i + 1)

abbrev pub joined : ℕ → ℕ → ℕ → ℕ → ℕ
joined a b c d = a * 16777216 + b * 65536 + c * 256 + d

unfoldable pub num4 : List ℕ → ℕ → ℕ
num4 l i = joined (at l i) (at l (i + 1)) (at l (i + 2)) (at l (i + 3))

-- a wrap number and, after it, an offset
unfoldable pub cursor_of : List ℕ → ℕ → Cursor
cursor_of l i = record { offset = num4 l (i + 2); wrap = num2 l i }

-- whether the bit of weight w is on
abbrev pub bit_of : ℕ → ℕ → Bool
bit_of x w = eqb (x / w % 2) 1

unfoldable pub flags_of : ℕ → ℕ → Flags
flags_of h l =
    record {
      blocked = bit_of h 128;
      pending = bit_of h 64;
      urgent = bit_of h 32;
      request = bit_of h 16;
      failover = bit_of h 8;
      done = bit_of l 128;
      closed = bit_of l 64;
      abort = bit_of l 32;
    }

unfoldable pub fields_of : List ℕ → Message
fields_of l =
    record {
      sequence = num2 l 2;
      token = num4 l 4;
      producer = cursor_of l 10;
      consumer = cursor_of l 18;
      flags = flags_of (at l 24) (at l 25);
    }

-- refusal 4's case: bytes are not 44, byte 0 is not FE, byte 1 is not 2C
unfoldable pub decode_of : List ℕ → Decoded
decode_of l =
    cond (eqb (length l) 44)
    (cond (eqb (at l 0) 0xFE) (cond (eqb (at l 1) 0x2C) (Good (fields_of l)) Malformed) Malformed)
    Malformed

-- each byte is below 256, and the reserved bytes and bits are zero
pub record ReservedZero (l : List ℕ) : Type 0 where
  pub bytes : (i : ℕ) → at l i < 256
  pub r8 : at l 8 ≡ 0
  pub r9 : at l 9 ≡ 0
  pub r16 : at l 16 ≡ 0
  pub r17 : at l 17 ≡ 0
  pub high : at l 24 % 8 ≡ 0
  pub low : at l 25 % 32 ≡ 0
  pub rest : (i : ℕ) → 26 ≤ i → at l i ≡ 0

-- the two claims of demand 2; proofs/RoundTrip proves both
-- a message that we write reads back to the same fields
abbrev pub ReadsBack : Type 0
ReadsBack = (m : Message) → decode_of (encode_of m) ≡ Good m

-- a well-formed one with its reserved bits zero is written again byte for byte
abbrev pub WrittenAgain : Type 0
WrittenAgain = (l : List ℕ) (m : Message) → decode_of l ≡ Good m → ReservedZero l → encode_of m ≡ l

-- the page's whole example: the first message of scenario 1, peer token 01020304
abbrev pub whole_example : List ℕ
whole_example =
    0xFE ∷ 0x2C ∷ 0x00 ∷ 0x01 ∷ 0x01 ∷ 0x02 ∷ 0x03 ∷ 0x04 ∷ 0x00 ∷ 0x00 ∷ 0x00 ∷ 0x00 ∷ 0x00 ∷ 0x00 ∷ 0x03 ∷ 0xEC
    ∷ 0x00 ∷ 0x00 ∷ 0x00 ∷ 0x00 ∷ 0x00 ∷ 0x00 ∷ 0x00 ∷ 0x04 ∷ 0x00 ∷ 0x00 ∷ replicate 18 0

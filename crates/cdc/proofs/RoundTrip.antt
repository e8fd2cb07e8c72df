-- The two round trips of demand 2, and document 01's whole example.
-- Assumes nothing.
use mathlib.Core.Path.{◌≡◌, ◌∙◌, refl, ap, sym}
use mathlib.Core.Bool.{false}
use mathlib.Core.List.{List, ◌∷◌, ◌++◌}
use Prim.Native.Nat.{ℕ, zero, suc, ◌≤◌}
use native.Mathlib.Omega.{arith}
use lib.ListN.{length}
use Rattle.cdc.specs.declared.Message.{Message}
use Rattle.cdc.specs.declared.Decoded.TheVariants.{Good}
use Rattle.cdc.specs.Cdc.{encode_of, decode_of, fields_of, num2, num4, cursor_of, high_byte, low_byte, at, zeros, ReservedZero, ReadsBack, WrittenAgain, whole_example}
use Rattle.cdc.proofs.Laws.{whole16, whole32, bytes16, bytes32, flags_back, high_again, low_again, from, from_start, Decodes, decodes}

pub encode_length : (m : Message) → length (encode_of m) ≡ 44
unfolding encode_of
encode_length m = refl

pub reads_back : ReadsBack
unfolding decode_of encode_of fields_of cursor_of num2 num4
reads_back m =
    λ i.
    Good
    (record {
      sequence = whole16 m.sequence i;
      token = whole32 m.token i;
      producer = record { offset = whole32 m.producer.offset i; wrap = whole16 m.producer.wrap i };
      consumer = record { offset = whole32 m.consumer.offset i; wrap = whole16 m.consumer.wrap i };
      flags = flags_back m.flags i;
    })

pub encoded : (m : Message) → Decodes (encode_of m) m
encoded m = decodes (encode_of m) m (reads_back m)

-- the fields of 44 bytes, written again: each byte at its place
written : (l : List ℕ) → at l 0 ≡ 0xFE → at l 1 ≡ 0x2C → ReservedZero l → encode_of (fields_of l) ≡ from l 0 44
unfolding encode_of fields_of cursor_of
written l e0 e1 z =
    let b16 = bytes16 l z.bytes in
    let b32 = bytes32 l z.bytes in
    λ i.
    sym e0 i ∷ sym e1 i ∷ (b16 2 i ++ (b32 4 i
    ++ (sym z.r8 i ∷ sym z.r9 i ∷ (b16 10 i ++ (b32 12 i
    ++ (sym z.r16 i ∷ sym z.r17 i ∷ (b16 18 i ++ (b32 20 i
    ++ (high_again (at l 24) (at l 25) (z.bytes 24) z.high i ∷ low_again (at l 24) (at l 25) (z.bytes 25) z.low i
    ∷ rest 26 18 (omega arith) i)))))))))
  where
    rest : (j n : ℕ) → 26 ≤ j → zeros n ≡ from l j n
    rest j zero h = refl
    rest j (suc n) h = λ i. sym (z.rest j h) i ∷ rest (suc j) n (omega arith) i

pub written_again : WrittenAgain
written_again l m e z =
    let d = decodes l m e in
    ap encode_of (sym d.fields) ∙ written l d.byte0 d.byte1 z ∙ ap (from l 0) (sym d.size) ∙ from_start l

abbrev pub first_message : Message
first_message =
    record {
      sequence = 1;
      token = 0x01020304;
      producer = record { offset = 1004; wrap = 0 };
      consumer = record { offset = 4; wrap = 0 };
      flags = record { blocked = false; pending = false; urgent = false; request = false; failover = false; done = false; closed = false; abort = false };
    }

pub whole_example_lem : encode_of first_message ≡ whole_example
unfolding encode_of high_byte low_byte
whole_example_lem = refl

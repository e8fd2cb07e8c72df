-- The bytes of a number, a flag in its byte, a list by its places, and what decodes.
-- Assumes nothing.
use mathlib.Core.Path.{◌≡◌, ◌∙◌, refl, ap}
use mathlib.Core.Bool.{Bool, true, false, cond}
use mathlib.Core.List.{List, [], ◌∷◌}
use Prim.Native.Nat.{ℕ, zero, suc, ◌+◌, ◌*◌, ◌/◌, ◌%◌, ◌≤◌, ◌<◌}
use native.Mathlib.Nat.{add-mul, mul_right_comm, div-add-mod', mod-add-div', div-eq_of_lt, div-eq_of_lt-le, div-div-eq-div-mul}
use native.Mathlib.Omega.{arith}
use lib.ListN.{length}
use lib.Dec.{eqb}
use Rattle.std.specs.Int.{from_bool, w16, w32, to_be_bytes}
use borrow.Author.Tests.{eqb-true, eq-eqb}
use Rattle.cdc.specs.declared.Flags.{Flags}
use Rattle.cdc.specs.declared.Message.{Message}
use Rattle.cdc.specs.declared.Decoded.{Decoded}
use Rattle.cdc.specs.declared.Decoded.TheVariants.{Good, Malformed}
use Rattle.cdc.specs.Cdc.{be16, be32, joined, at, num2, num4, weight_of, bit_of, high_byte, low_byte, flags_of, fields_of, decode_of}

-- a number is that of its bytes
pub whole16 : (x : ℕ) → x / 256 * 256 + x % 256 ≡ x
whole16 x = omega arith

pub whole32 : (x : ℕ) → joined (x / 16777216) (x / 65536 % 256) (x / 256 % 256) (x % 256) ≡ x
whole32 x = omega arith

-- the library's bytes of a number, and its number of bytes
pub bytes_of16 : (x : ℕ) (b : List ℕ) → x < 65536 → b ≡ to_be_bytes w16 x → b ≡ be16 x
bytes_of16 x b h e = e ∙ (let d : x / 256 % 256 ≡ x / 256 = omega arith in λ i. d i ∷ x % 256 ∷ [])

pub bytes_of32 : (x : ℕ) (b : List ℕ) → x < 4294967296 → b ≡ to_be_bytes w32 x → b ≡ be32 x
bytes_of32 x b h e =
    e ∙ (let d : x / 16777216 % 256 ≡ x / 16777216 = omega arith in λ i. d i ∷ x / 65536 % 256 ∷ x / 256 % 256 ∷ x % 256 ∷ [])

-- bytes are those of their number
module _ (l : List ℕ) (small : (i : ℕ) → at l i < 256) (i : ℕ) where
  pub bytes16 : be16 (num2 l i) ≡ at l i ∷ at l (i + 1) ∷ []
  unfolding num2
  bytes16 =
      let b = small (i + 1) in
      let e0 : num2 l i / 256 ≡ at l i = omega arith in
      let e1 : num2 l i % 256 ≡ at l (i + 1) = omega arith in
      λ j. e0 j ∷ e1 j ∷ []

  pub bytes32 : be32 (num4 l i) ≡ at l i ∷ at l (i + 1) ∷ at l (i + 2) ∷ at l (i + 3) ∷ []
  unfolding num4
  bytes32 =
      let b = small (i + 1) in
      let c = small (i + 2) in
      let d = small (i + 3) in
      let e0 : num4 l i / 16777216 ≡ at l i = omega arith in
      let e1 : num4 l i / 65536 % 256 ≡ at l (i + 1) = omega arith in
      let e2 : num4 l i / 256 % 256 ≡ at l (i + 2) = omega arith in
      let e3 : num4 l i % 256 ≡ at l (i + 3) = omega arith in
      λ j. e0 j ∷ e1 j ∷ e2 j ∷ e3 j ∷ []

-- a flag's number, times its weight
pub weight_from : (b : Bool) (w n : ℕ) → n ≡ from_bool b → n * w ≡ weight_of b w
weight_from true w n e = simp e (omega arith)
weight_from false w n e = simp e (omega arith)

-- a flag as a number
abbrev on : Bool → ℕ
on true = 1
on false = 0

weight_on : (b : Bool) (w : ℕ) → (weight_of b w ≡ on b * w) × (on b ≤ 1)
weight_on true w = (omega arith, omega arith)
weight_on false w = (omega arith, omega arith)

on_eqb : (b : Bool) → eqb (on b) 1 ≡ b
on_eqb true = refl
on_eqb false = refl

eqb_on : (y : ℕ) → y < 2 → on (eqb y 1) ≡ y
eqb_on zero h = refl
eqb_on (suc zero) h = refl
eqb_on (suc (suc y)) h = absurd (omega arith)

-- the bit of weight w is the flag that stands there, under the bits of q and over what is less than w
bit_back : (x w q : ℕ) (b : Bool) → (q * 2 + on b) * w ≤ x → x < (q * 2 + on b + 1) * w → bit_of x w ≡ b
bit_back x w q b l h =
    let d : x / w ≡ q * 2 + on b = div-eq_of_lt-le w l h in
    let s = (weight_on b w).1 in
    let e : x / w % 2 ≡ on b = omega arith in
    ap (λ (y : ℕ). eqb y 1) e ∙ on_eqb b

-- the flags read back
pub flags_back : (f : Flags) → flags_of (high_byte f) (low_byte f) ≡ f
unfolding flags_of high_byte low_byte
flags_back f =
    let wb = weight_on f.blocked 128 in
    let wp = weight_on f.pending 64 in
    let wu = weight_on f.urgent 32 in
    let wr = weight_on f.request 16 in
    let wo = weight_on f.failover 8 in
    let wd = weight_on f.done 128 in
    let wc = weight_on f.closed 64 in
    let wa = weight_on f.abort 32 in
    let b = on f.blocked in
    let p = b * 2 + on f.pending in
    let u = p * 2 + on f.urgent in
    let r = u * 2 + on f.request in
    let d = on f.done in
    let c = d * 2 + on f.closed in
    λ i.
    record {
      blocked = bit_back (high_byte f) 128 0 f.blocked (omega arith) (omega arith) i;
      pending = bit_back (high_byte f) 64 b f.pending (omega arith) (omega arith) i;
      urgent = bit_back (high_byte f) 32 p f.urgent (omega arith) (omega arith) i;
      request = bit_back (high_byte f) 16 u f.request (omega arith) (omega arith) i;
      failover = bit_back (high_byte f) 8 r f.failover (omega arith) (omega arith) i;
      done = bit_back (low_byte f) 128 0 f.done (omega arith) (omega arith) i;
      closed = bit_back (low_byte f) 64 d f.closed (omega arith) (omega arith) i;
      abort = bit_back (low_byte f) 32 c f.abort (omega arith) (omega arith) i;
    }

-- what the bits from weight w up come to
above : ℕ → ℕ → ℕ
above x w = x / w * w

above_all : (x w : ℕ) → x % w ≡ 0 → above x w ≡ x
unfolding above
above_all x w e = omega (arith, div-add-mod' x w)

above_none : (x w : ℕ) → x < w → above x w ≡ 0
unfolding above
above_none x w h = rw (div-eq_of_lt h) (omega arith)

-- the bit of weight w, written again, with the bits above it
bit_again : (x w : ℕ) → weight_of (bit_of x w) w + above x (w * 2) ≡ above x w
unfolding above
bit_again x w =
    let q = x / w in
    let e : weight_of (bit_of x w) w ≡ q % 2 * w = (weight_on (bit_of x w) w).0 ∙ ap (λ (y : ℕ). y * w) (eqb_on (q % 2) (omega arith)) in
    rw (e, ← div-div-eq-div-mul x w 2)
    (omega (arith, add-mul (q % 2) (q / 2 * 2) w, ap (λ (y : ℕ). y * w) (mod-add-div' q 2), mul_right_comm (q / 2) 2 w))

-- bytes 24 and 25 are written again, where their reserved bits are zero
module _ (h l : ℕ) where
  pub high_again : h < 256 → h % 8 ≡ 0 → high_byte (flags_of h l) ≡ h
  unfolding high_byte flags_of
  high_again s z = omega (arith, above_none h 256 s, bit_again h 128, bit_again h 64, bit_again h 32, bit_again h 16, bit_again h 8, above_all h 8 z)

  pub low_again : l < 256 → l % 32 ≡ 0 → low_byte (flags_of h l) ≡ l
  unfolding low_byte flags_of
  low_again s z = omega (arith, above_none l 256 s, bit_again l 128, bit_again l 64, bit_again l 32, above_all l 32 z)

-- n bytes from place i on
abbrev pub from : List ℕ → ℕ → ℕ → List ℕ
from l i zero = []
from l i (suc n) = at l i ∷ from l (suc i) n

pub from_start : (l : List ℕ) → from l 0 (length l) ≡ l
from_start [] = refl
from_start (x ∷ l) = ap (λ (t : List ℕ). x ∷ t) (later x l 0 (length l) ∙ from_start l)
  where
    later : (x : ℕ) (l : List ℕ) (i n : ℕ) → from (x ∷ l) (suc i) n ≡ from l i n
    later x l i zero = refl
    later x l i (suc n) = ap (λ (t : List ℕ). at l i ∷ t) (later x l (suc i) n)

-- what decodes: 44 bytes, FE and 2C first; their fields are the message
pub record Decodes (l : List ℕ) (m : Message) : Type 0 where
  pub size : length l ≡ 44
  pub byte0 : at l 0 ≡ 0xFE
  pub byte1 : at l 1 ≡ 0x2C
  pub fields : fields_of l ≡ m

pub decodes : (l : List ℕ) (m : Message) → decode_of l ≡ Good m → Decodes l m
unfolding decode_of
decodes l m e =
    let p = picked (eqb (length l) 44) _ m e in
    let q = picked (eqb (at l 0) 0xFE) _ m p.1 in
    let r = picked (eqb (at l 1) 0x2C) _ m q.1 in
    record {
      size = eqb-true (length l) 44 p.0;
      byte0 = eqb-true (at l 0) 0xFE q.0;
      byte1 = eqb-true (at l 1) 0x2C r.0;
      fields = held (fields_of l) m r.1;
    }
  where
    picked : (b : Bool) (x : Decoded) (m : Message) → cond b x Malformed ≡ Good m → (b ≡ true) × (x ≡ Good m)
    picked true x m e = (refl, e)
    picked false x m e = let z : ◌≡◌ {A = ℕ} 0 1 = cc in absurd (omega arith)

    held : (m n : Message) → Good m ≡ Good n → m ≡ n
    held m n e = cc

pub decoded : (l : List ℕ) (m : Message) → Decodes l m → decode_of l ≡ Good m
unfolding decode_of
decoded l m d = simp (eq-eqb _ _ d.size, eq-eqb _ _ d.byte0, eq-eqb _ _ d.byte1, d.fields)

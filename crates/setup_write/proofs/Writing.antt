-- The rows laid out are the pieces, one behind the other.
-- Assumes nothing.
use Rattle.std.specs.Prelude.{Option, Some}
use Prim.Native.Nat.{ℕ, zero, suc, ◌+◌, ◌*◌, ◌≤◌, ◌<◌}
use mathlib.Core.Path.{◌≡◌, ◌∙◌, refl, ap, sym}
use mathlib.Core.Bool.{Bool, true, false, ◌&&◌, ◌||◌, cond}
use mathlib.Core.List.{List, [], ◌∷◌, ◌++◌, append_assoc, append-nil}
use native.Mathlib.Omega.{arith}
use lib.ListN.{take, length-append, length-replicate}
use lib.Seq.{length-take-le}
use lib.Dec.{ltb}
use Rattle.layout.specs.Layout.{bits_of, spread, gather, are_bytes, lay_out, written_of, be_of}
use Rattle.layout.proofs.Bits.{and_left, and_right, bits_join, spread_append, gather_spread}
use Rattle.layout.proofs.Places.{be_length, be_bytes, spread_be, append_bytes, zeros_bytes, spread_zeros}
use Rattle.setup_read.specs.declared.Kind.{Kind}
use Rattle.setup_read.specs.declared.Kind.TheVariants.{Proposal, Accept, Confirm, Decline}
use Rattle.setup_read.specs.declared.Message.{Message}
use Rattle.setup_read.specs.Clc.{eye_catcher, only_proposal, length_of, table, rows_in, chosen, values, lines_of, rows_of, chosen_of, size_of, encode_of}
use Rattle.setup_read.specs.Clc.{flag}
use Rattle.setup_read.specs.Places.{zeros}
use Rattle.setup_write.specs.Pieces.{head_of, port_of, rmb_of, networks_of, diagnosis_of, flag_of}
use Rattle.setup_write.proofs.Known.{Bytes, Typed}

-- parts of a byte, joined
pub two_halves : (a b : ℕ) (t : List Bool) → a < 16 → b < 16 → bits_of 4 a ++ (bits_of 4 b ++ t) ≡ bits_of 8 (a * 16 + b) ++ t
two_halves a b t ha hb = sym (append_assoc (bits_of 4 a) (bits_of 4 b) t) ∙ ap (λ (x : List Bool). x ++ t) (bits_join 4 4 a b ha hb)

pub half_and_flag : (a f : ℕ) (t : List Bool) → a < 16 → f < 2 → bits_of 4 a ++ (bits_of 1 f ++ (bits_of 3 0 ++ t)) ≡ bits_of 8 (a * 16 + f * 8) ++ t
half_and_flag a f t ha hf =
    ap (λ (x : List Bool). bits_of 4 a ++ x)
    (sym (append_assoc (bits_of 1 f) (bits_of 3 0) t)
    ∙ ap (λ (x : List Bool). x ++ t) (bits_join 1 3 f 0 hf (omega arith) ∙ ap (bits_of 4) {x = f * 8 + 0} {y = f * 8} (omega arith)))
    ∙ two_halves a (f * 8) t ha (omega arith)

three : (a b c : List ℕ) → spread a ++ (spread b ++ spread c) ≡ spread (a ++ b ++ c)
three a b c = sym (simp (spread_append, append_assoc))

-- the head, with what stands in byte 7
head_rows : (t n b : ℕ) (peer : List ℕ) (r : List Bool)
    → bits_of 32 eye_catcher ++ (bits_of 8 t ++ (bits_of 16 n ++ (bits_of 8 b ++ (spread peer ++ r))))
    ≡ spread (be_of 4 eye_catcher ++ be_of 1 t ++ be_of 2 n ++ be_of 1 b ++ peer) ++ r
head_rows t n b peer r = sym (simp (spread_append, append_assoc, spread_be))

port_rows : (m : Message) (r : List Bool) → spread m.gid ++ (spread m.mac ++ r) ≡ spread (port_of m) ++ r
unfolding port_of
port_rows m r = sym (simp (spread_append, append_assoc))

rmb_rows : (m : Message) → m.code < 16 → m.mtu < 16
    → bits_of 24 m.qp ++ (bits_of 32 m.key ++ (bits_of 8 m.index ++ (bits_of 32 m.token ++ (bits_of 4 m.code ++ (bits_of 4 m.mtu
    ++ (bits_of 8 0 ++ (bits_of 64 m.base ++ (bits_of 8 0 ++ (bits_of 24 m.psn ++ (bits_of 32 eye_catcher ++ []))))))))))
    ≡ spread (rmb_of m)
unfolding rmb_of
rmb_rows m hc hm =
    let t = bits_of 8 0 ++ (bits_of 64 m.base ++ (bits_of 8 0 ++ (bits_of 24 m.psn ++ (bits_of 32 eye_catcher ++ [])))) in
    (λ i. bits_of 24 m.qp ++ (bits_of 32 m.key ++ (bits_of 8 m.index ++ (bits_of 32 m.token ++ two_halves m.code m.mtu t hc hm i))))
    ∙ sym (simp (spread_append, spread_be, spread_zeros 1) (simp (append_assoc, append-nil)))

networks_rows : (m : Message)
    → bits_of 16 m.offset ++ (bits_of (8 * m.offset) 0 ++ (spread m.mask ++ (bits_of 8 m.masklen ++ (bits_of 16 0 ++ (bits_of 8 m.count
    ++ (spread (take (17 * m.count) m.prefixes) ++ (bits_of 32 eye_catcher ++ [])))))))
    ≡ spread (networks_of m)
unfolding networks_of
networks_rows m = sym (simp (spread_append, spread_be, spread_zeros 2, spread_zeros m.offset) (simp (append_assoc, append-nil)))

diagnosis_rows : (m : Message) → bits_of 32 m.diagnosis ++ (bits_of 32 0 ++ (bits_of 32 eye_catcher ++ [])) ≡ spread (diagnosis_of m)
unfolding diagnosis_of
diagnosis_rows m = sym (simp (spread_append, spread_be, spread_zeros 4) (simp (append_assoc, append-nil)))

-- what the rows of a kind give
rows_as : Option Kind → Message → List Bool
rows_as k m =
    let o = only_proposal k m.offset in
    let p = only_proposal k m.count in
    lay_out (rows_in k (table k o p)) (chosen k (table k o p) (values p m))

encode_as : (k : Option Kind) (m : Message) → m.kind ≡ k → encode_of m ≡ gather (length_of k (only_proposal k m.offset) (only_proposal k m.count)) (rows_as k m)
unfolding encode_of written_of rows_of chosen_of lines_of size_of rows_as
encode_as k m e = λ i. gather (length_of (e i) (only_proposal (e i) m.offset) (only_proposal (e i) m.count)) (rows_as (e i) m)

-- byte 7: version and, in an Accept and a Decline, a flag
pub flag_small : (b : Bool) → flag b < 2
flag_small true = omega arith
flag_small false = omega arith

flag_first : (m : Message) → flag m.first * 8 ≡ cond (flag_of 2 m) 8 0
flag_first m = go m.first
  where
    go : (b : Bool) → flag b * 8 ≡ cond (b || false) 8 0
    go true = refl
    go false = refl

flag_sync : (m : Message) → flag m.sync * 8 ≡ cond (flag_of 4 m) 8 0
flag_sync m = go m.sync
  where
    go : (b : Bool) → flag b * 8 ≡ cond b 8 0
    go true = refl
    go false = refl

module _ (m : Message) (hv : m.version < 16) where
  flagged_head : (t n : ℕ) (f : Bool) (r : List Bool) → flag f * 8 ≡ cond (flag_of t m) 8 0
      → bits_of 32 eye_catcher ++ (bits_of 8 t ++ (bits_of 16 n ++ (bits_of 4 m.version ++ (bits_of 1 (flag f) ++ (bits_of 3 0 ++ (spread m.peer ++ r))))))
      ≡ spread (head_of t n m) ++ r
  unfolding head_of
  flagged_head t n f r e =
      (λ i. bits_of 32 eye_catcher ++ (bits_of 8 t ++ (bits_of 16 n ++ half_and_flag m.version (flag f) (spread m.peer ++ r) hv (flag_small f) i)))
      ∙ head_rows t n (m.version * 16 + flag f * 8) m.peer r
      ∙ (λ i. spread (be_of 4 eye_catcher ++ be_of 1 t ++ be_of 2 n ++ be_of 1 (m.version * 16 + e i) ++ m.peer) ++ r)

  plain_head : (t n : ℕ) (r : List Bool) → ◌≡◌ {A = ℕ} (cond (flag_of t m) 8 0) 0
      → bits_of 32 eye_catcher ++ (bits_of 8 t ++ (bits_of 16 n ++ (bits_of 4 m.version ++ (bits_of 4 0 ++ (spread m.peer ++ r)))))
      ≡ spread (head_of t n m) ++ r
  unfolding head_of
  plain_head t n r e =
      (λ i. bits_of 32 eye_catcher ++ (bits_of 8 t ++ (bits_of 16 n ++ two_halves m.version 0 (spread m.peer ++ r) hv (omega arith) i)))
      ∙ head_rows t n (m.version * 16 + 0) m.peer r
      ∙ (λ i. spread (be_of 4 eye_catcher ++ be_of 1 t ++ be_of 2 n ++ be_of 1 (m.version * 16 + sym e i) ++ m.peer) ++ r)

  decline_rows : rows_as (Some Decline) m ≡ spread (head_of 4 28 m ++ diagnosis_of m)
  unfolding rows_as lay_out rows_in table chosen values
  decline_rows =
      flagged_head 4 28 m.sync _ (flag_sync m)
      ∙ ap (λ (x : List Bool). spread (head_of 4 28 m) ++ x) (diagnosis_rows m)
      ∙ sym (spread_append (head_of 4 28 m) (diagnosis_of m))

  accept_rows : m.code < 16 → m.mtu < 16 → rows_as (Some Accept) m ≡ spread (head_of 2 68 m ++ port_of m ++ rmb_of m)
  unfolding rows_as lay_out rows_in table chosen values
  accept_rows hc hm =
      flagged_head 2 68 m.first _ (flag_first m)
      ∙ ap (λ (x : List Bool). spread (head_of 2 68 m) ++ x) (port_rows m _ ∙ ap (λ (x : List Bool). spread (port_of m) ++ x) (rmb_rows m hc hm))
      ∙ three (head_of 2 68 m) (port_of m) (rmb_of m)

  confirm_rows : m.code < 16 → m.mtu < 16 → rows_as (Some Confirm) m ≡ spread (head_of 3 68 m ++ port_of m ++ rmb_of m)
  unfolding rows_as lay_out rows_in table chosen values
  confirm_rows hc hm =
      plain_head 3 68 _ refl
      ∙ ap (λ (x : List Bool). spread (head_of 3 68 m) ++ x) (port_rows m _ ∙ ap (λ (x : List Bool). spread (port_of m) ++ x) (rmb_rows m hc hm))
      ∙ three (head_of 3 68 m) (port_of m) (rmb_of m)

  proposal_rows : rows_as (Some Proposal) m ≡ spread (head_of 1 (52 + m.offset + 17 * m.count) m ++ port_of m ++ networks_of m)
  unfolding rows_as lay_out rows_in table chosen values
  proposal_rows =
      let h = head_of 1 (52 + m.offset + 17 * m.count) m in
      plain_head 1 (52 + m.offset + 17 * m.count) _ refl
      ∙ ap (λ (x : List Bool). spread h ++ x) (port_rows m _ ∙ ap (λ (x : List Bool). spread (port_of m) ++ x) (networks_rows m))
      ∙ three h (port_of m) (networks_of m)

-- pieces: how many bytes each has
pub both : {n k : ℕ} {a b : List ℕ} → Bytes n a → Bytes k b → Bytes (n + k) (a ++ b)
both {n} {k} {a} {b} x y =
    record { size = length-append a b ∙ (λ i. x.size i + y.size i); small = append_bytes a b x.small y.small }

pub be_is : (n x : ℕ) → Bytes n (be_of n x)
be_is n x = record { size = be_length n x; small = be_bytes n x }

pub zeros_is : (n : ℕ) → Bytes n (zeros n)
zeros_is n = record { size = length-replicate n 0; small = zeros_bytes n }

take_bytes : (n : ℕ) (b : List ℕ) → are_bytes b ≡ true → are_bytes (take n b) ≡ true
unfolding are_bytes
take_bytes zero b e = refl
take_bytes (suc n) [] e = refl
take_bytes (suc n) (x ∷ b) e = λ i. and_left (ltb x 256) _ e i && take_bytes n b (and_right (ltb x 256) _ e) i

pub taken_is : (n k : ℕ) (b : List ℕ) → n ≤ k → Bytes k b → Bytes n (take n b)
taken_is n k b h x = record { size = length-take-le n b (omega (arith, x.size)); small = take_bytes n b x.small }

module _ (m : Message) (t : Typed m) where
  pub head_is : (k n : ℕ) → Bytes 16 (head_of k n m)
  unfolding head_of
  head_is k n = both (both (both (both (be_is 4 eye_catcher) (be_is 1 k)) (be_is 2 n)) (be_is 1 _)) t.peer

  pub port_is : Bytes 22 (port_of m)
  unfolding port_of
  port_is = both t.gid t.mac

  pub rmb_is : Bytes 30 (rmb_of m)
  unfolding rmb_of
  rmb_is =
      both (both (both (both (both (both (both (both (both
      (be_is 3 m.qp)
      (be_is 4 m.key))
      (be_is 1 m.index))
      (be_is 4 m.token))
      (be_is 1 (m.code * 16 + m.mtu)))
      (zeros_is 1))
      (be_is 8 m.base))
      (zeros_is 1))
      (be_is 3 m.psn))
      (be_is 4 eye_catcher)

  pub diagnosis_is : Bytes 12 (diagnosis_of m)
  unfolding diagnosis_of
  diagnosis_is = both (both (be_is 4 m.diagnosis) (zeros_is 4)) (be_is 4 eye_catcher)

  pub networks_is : m.count ≤ 8 → Bytes (2 + m.offset + 4 + 1 + 2 + 1 + 17 * m.count + 4) (networks_of m)
  unfolding networks_of
  networks_is h =
      both (both (both (both (both (both (both
      (be_is 2 m.offset)
      (zeros_is m.offset))
      t.mask)
      (be_is 1 m.masklen))
      (zeros_is 2))
      (be_is 1 m.count))
      (taken_is (17 * m.count) 136 m.prefixes (omega arith) t.prefixes))
      (be_is 4 eye_catcher)

whole : {n : ℕ} {w : List ℕ} (b : List Bool) → Bytes n w → b ≡ spread w → gather n b ≡ w
whole {n} {w} b x e = ap (gather n) e ∙ ap (λ (k : ℕ). gather k (spread w)) (sym x.size) ∙ gather_spread w x.small

-- the bytes of each kind
module _ (m : Message) (t : Typed m) (hv : m.version < 16) where
  pub decline_bytes : m.kind ≡ Some Decline → encode_of m ≡ head_of 4 28 m ++ diagnosis_of m
  decline_bytes e = encode_as (Some Decline) m e ∙ whole (rows_as (Some Decline) m) (both (head_is m t 4 28) (diagnosis_is m t)) (decline_rows m hv)

  module _ (hc : m.code < 16) (hm : m.mtu < 16) where
    pub accept_bytes : m.kind ≡ Some Accept → encode_of m ≡ head_of 2 68 m ++ port_of m ++ rmb_of m
    accept_bytes e =
        encode_as (Some Accept) m e ∙ whole (rows_as (Some Accept) m) (both (both (head_is m t 2 68) (port_is m t)) (rmb_is m t)) (accept_rows m hv hc hm)

    pub confirm_bytes : m.kind ≡ Some Confirm → encode_of m ≡ head_of 3 68 m ++ port_of m ++ rmb_of m
    confirm_bytes e =
        encode_as (Some Confirm) m e ∙ whole (rows_as (Some Confirm) m) (both (both (head_is m t 3 68) (port_is m t)) (rmb_is m t)) (confirm_rows m hv hc hm)

  pub proposal_bytes : m.count ≤ 8 → m.kind ≡ Some Proposal
      → encode_of m ≡ head_of 1 (52 + m.offset + 17 * m.count) m ++ port_of m ++ networks_of m
  proposal_bytes h e =
      let n = 52 + m.offset + 17 * m.count in
      let x = both (both (head_is m t 1 n) (port_is m t)) (networks_is m t h) in
      let k : 16 + 22 + (2 + m.offset + 4 + 1 + 2 + 1 + 17 * m.count + 4) ≡ n = omega arith in
      encode_as (Some Proposal) m e
      ∙ ap (λ (j : ℕ). gather j (rows_as (Some Proposal) m)) (sym k)
      ∙ whole (rows_as (Some Proposal) m) x (proposal_rows m hv)

-- When a message's fields fit, for each kind.
-- Assumes nothing.
use Rattle.std.specs.Prelude.{Option, Some, None}
use Prim.Native.Nat.{ℕ, ◌+◌, ◌*◌, ◌≤◌, ◌<◌}
use mathlib.Core.Path.{◌≡◌, ◌∙◌, refl, ap, sym}
use mathlib.Core.Bool.{Bool, true, false, ◌&&◌, cond, and-true}
use mathlib.Core.Logic.{◌⊎◌, inl, inr}
use mathlib.Core.List.{◌++◌}
use native.Mathlib.Omega.{arith}
use lib.ListN.{take}
use lib.Dec.{ltb, leb}
use borrow.Author.Tests.{lt-ltb, eq-eqb, leb-true, ltb-true}
use Rattle.layout.specs.Layout.{fits}
use Rattle.layout.proofs.Bits.{and_left, and_right}
use Rattle.setup_read.specs.declared.Kind.{Kind}
use Rattle.setup_read.specs.declared.Kind.TheVariants.{Proposal, Accept, Confirm, Decline}
use Rattle.setup_read.specs.declared.Message.{Message}
use Rattle.setup_read.specs.Clc.{type_of, only_proposal, length_of, table, rows_in, chosen, values, lines_of, rows_of, chosen_of, size_of, fits_of}
use Rattle.setup_read.specs.Clc.{encode_of, flag}
use Rattle.setup_write.specs.Pieces.{head_of, port_of, rmb_of, networks_of, diagnosis_of}
use Rattle.setup_write.proofs.Known.{Bytes, Typed}
use Rattle.setup_write.proofs.Writing.{taken_is, flag_small, decline_bytes, proposal_bytes, accept_bytes, confirm_bytes}

never : {A : Type 0} → false ≡ true → A
never e = let z : ◌≡◌ {A = ℕ} 0 1 = cc in absurd (omega arith)

fits_as : Option Kind → Message → Bool
fits_as k m =
    let o = only_proposal k m.offset in
    let p = only_proposal k m.count in
    leb 1 (type_of k) && (leb 1 m.version && (leb p 8 && (leb (length_of k o p) 65535 && fits (rows_in k (table k o p)) (chosen k (table k o p) (values p m)))))

fits_as_lem : (k : Option Kind) (m : Message) → m.kind ≡ k → fits_of m ≡ fits_as k m
unfolding fits_of rows_of chosen_of lines_of size_of fits_as
fits_as_lem k m e = ap (λ (j : Option Kind). fits_as j m) e

size_as : (k : Option Kind) (m : Message) → m.kind ≡ k → size_of m ≡ length_of k (only_proposal k m.offset) (only_proposal k m.count)
unfolding size_of
size_as k m e = λ i. length_of (e i) (only_proposal (e i) m.offset) (only_proposal (e i) m.count)

-- the tests that are left: all else is so by the fields' types
abbrev pub endpoint_fits : Message → Bool
endpoint_fits m = leb 1 m.version && (ltb m.version 16 && (ltb m.qp 16777216 && (ltb m.code 16 && (ltb m.mtu 16 && ltb m.psn 16777216))))

abbrev pub proposal_fits : Message → Bool
proposal_fits m = leb 1 m.version && (leb m.count 8 && (leb (52 + m.offset + 17 * m.count) 65535 && ltb m.version 16))

abbrev pub decline_fits : Message → Bool
decline_fits m = leb 1 m.version && ltb m.version 16

module _ (m : Message) (t : Typed m) where
  decline_fits_lem : fits_as (Some Decline) m ≡ decline_fits m
  unfolding fits_as fits rows_in table chosen values
  decline_fits_lem =
      simp (
        lt-ltb (flag m.sync) 2 (flag_small m.sync),
        eq-eqb _ _ t.peer.size,
        t.peer.small,
        lt-ltb m.diagnosis 4294967296 t.diagnosis,
        and-true,
      )

  accept_fits : fits_as (Some Accept) m ≡ endpoint_fits m
  unfolding fits_as fits rows_in table chosen values
  accept_fits =
      simp (
        lt-ltb (flag m.first) 2 (flag_small m.first),
        eq-eqb _ _ t.peer.size,
        t.peer.small,
        eq-eqb _ _ t.gid.size,
        t.gid.small,
        eq-eqb _ _ t.mac.size,
        t.mac.small,
        lt-ltb m.key 4294967296 t.key,
        lt-ltb m.index 256 t.index,
        lt-ltb m.token 4294967296 t.token,
        lt-ltb m.base 18446744073709551616 t.base,
        and-true,
      )

  confirm_fits : fits_as (Some Confirm) m ≡ endpoint_fits m
  unfolding fits_as fits rows_in table chosen values
  confirm_fits =
      simp (
        eq-eqb _ _ t.peer.size,
        t.peer.small,
        eq-eqb _ _ t.gid.size,
        t.gid.small,
        eq-eqb _ _ t.mac.size,
        t.mac.small,
        lt-ltb m.key 4294967296 t.key,
        lt-ltb m.index 256 t.index,
        lt-ltb m.token 4294967296 t.token,
        lt-ltb m.base 18446744073709551616 t.base,
        and-true,
      )

  proposal_fits_lem : fits_as (Some Proposal) m ≡ proposal_fits m
  unfolding fits_as fits rows_in table chosen values
  proposal_fits_lem = go (leb m.count 8) refl
    where
      few : leb m.count 8 ≡ true → Bytes (17 * m.count) (take (17 * m.count) m.prefixes)
      few e = taken_is (17 * m.count) 136 m.prefixes (omega (arith, leb-true m.count 8 e)) t.prefixes

      go : (b : Bool) → leb m.count 8 ≡ b → fits_as (Some Proposal) m ≡ proposal_fits m
      go false e = simp e
      go true e =
          simp (
            e,
            eq-eqb _ _ t.peer.size,
            t.peer.small,
            eq-eqb _ _ t.gid.size,
            t.gid.small,
            eq-eqb _ _ t.mac.size,
            t.mac.small,
            lt-ltb m.offset 65536 t.offset,
            eq-eqb _ _ t.mask.size,
            t.mask.small,
            lt-ltb m.masklen 256 t.masklen,
            lt-ltb m.count 256 t.count,
            eq-eqb _ _ (few e).size,
            (few e).small,
            and-true,
          )

-- by the kind
module _ (m : Message) (t : Typed m) where
  pub proposal_fit : m.kind ≡ Some Proposal → (fits_of m ≡ proposal_fits m) × (size_of m ≡ 52 + m.offset + 17 * m.count)
  proposal_fit q = (fits_as_lem (Some Proposal) m q ∙ proposal_fits_lem m t, size_as (Some Proposal) m q)

  pub accept_fit : m.kind ≡ Some Accept → (fits_of m ≡ endpoint_fits m) × (size_of m ≡ 68)
  accept_fit q = (fits_as_lem (Some Accept) m q ∙ accept_fits m t, size_as (Some Accept) m q)

  pub confirm_fit : m.kind ≡ Some Confirm → (fits_of m ≡ endpoint_fits m) × (size_of m ≡ 68)
  confirm_fit q = (fits_as_lem (Some Confirm) m q ∙ confirm_fits m t, size_as (Some Confirm) m q)

  pub endpoint_fit : (m.kind ≡ Some Accept) ⊎ (m.kind ≡ Some Confirm) → (fits_of m ≡ endpoint_fits m) × (size_of m ≡ 68)
  endpoint_fit (inl q) = accept_fit q
  endpoint_fit (inr q) = confirm_fit q

  pub decline_fit : m.kind ≡ Some Decline → (fits_of m ≡ decline_fits m) × (size_of m ≡ 28)
  decline_fit q = (fits_as_lem (Some Decline) m q ∙ decline_fits_lem m t, size_as (Some Decline) m q)

-- what the code answers where the tests come out x
pub size_is : (m : Message) (t x : Bool) (n : ℕ) → fits_of m ≡ t → size_of m ≡ n → t ≡ x → cond x (Some n) None ≡ cond (fits_of m) (Some (size_of m)) None
size_is m t x n f s e = sym ((λ i. cond (f i) (Some (s i)) None) ∙ ap (λ (y : Bool). cond y (Some n) None) e)

pub nothing_fit : (m : Message) → m.kind ≡ None → fits_of m ≡ false
unfolding fits_as
nothing_fit m q = fits_as_lem None m q

-- a message that fits has 28 bytes or more
pub fit_size : (m : Message) → fits_of m ≡ true → 28 ≤ size_of m
unfolding fits_as
fit_size m h = go m.kind refl
  where
    go : (j : Option Kind) → m.kind ≡ j → 28 ≤ size_of m
    go None q = never (sym (fits_as_lem None m q) ∙ h)
    go (Some Proposal) q = omega (arith, size_as (Some Proposal) m q)
    go (Some Accept) q = omega (arith, size_as (Some Accept) m q)
    go (Some Confirm) q = omega (arith, size_as (Some Confirm) m q)
    go (Some Decline) q = omega (arith, size_as (Some Decline) m q)

-- what the code writes, piece by piece
pub record Fine (m : Message) : Type 0 where
  pub version : m.version < 16
  pub code : m.code < 16
  pub mtu : m.mtu < 16

module _ (m : Message) (t : Typed m) (h : fits_of m ≡ true) where
  pub decline_written : m.kind ≡ Some Decline → (size_of m ≡ 28) × (encode_of m ≡ head_of (type_of m.kind) 28 m ++ diagnosis_of m)
  decline_written q =
      let f = decline_fit m t q in
      let v = ltb-true m.version 16 (and_right (leb 1 m.version) _ (sym f.0 ∙ h)) in
      (f.1, decline_bytes m t v q ∙ ap (λ (k : Option Kind). head_of (type_of k) 28 m ++ diagnosis_of m) (sym q))

  pub proposal_written : m.kind ≡ Some Proposal
      → (m.count ≤ 8) × (size_of m ≡ 52 + m.offset + 17 * m.count)
      × (encode_of m ≡ head_of (type_of m.kind) (size_of m) m ++ port_of m ++ networks_of m)
  proposal_written q =
      let f = proposal_fit m t q in
      let a = and_right (leb 1 m.version) _ (sym f.0 ∙ h) in
      let few = leb-true m.count 8 (and_left (leb m.count 8) _ a) in
      let b = and_right (leb m.count 8) _ a in
      let v = ltb-true m.version 16 (and_right (leb (52 + m.offset + 17 * m.count) 65535) _ b) in
      (few, f.1, proposal_bytes m t v few q ∙ (λ i. head_of (type_of (sym q i)) (sym f.1 i) m ++ port_of m ++ networks_of m))

  fine : endpoint_fits m ≡ true → Fine m
  fine x =
      let x1 = and_right (leb 1 m.version) _ x in
      let x2 = and_right (ltb m.version 16) _ x1 in
      let x3 = and_right (ltb m.qp 16777216) _ x2 in
      let x4 = and_right (ltb m.code 16) _ x3 in
      record {
        version = ltb-true m.version 16 (and_left (ltb m.version 16) _ x1);
        code = ltb-true m.code 16 (and_left (ltb m.code 16) _ x3);
        mtu = ltb-true m.mtu 16 (and_left (ltb m.mtu 16) _ x4);
      }

  pub endpoint_written : (m.kind ≡ Some Accept) ⊎ (m.kind ≡ Some Confirm)
      → (size_of m ≡ 68) × (encode_of m ≡ head_of (type_of m.kind) 68 m ++ port_of m ++ rmb_of m)
  endpoint_written (inl q) =
      let e = accept_fit m t q in
      let f = fine (sym e.0 ∙ h) in
      (e.1, accept_bytes m t f.version f.code f.mtu q ∙ ap (λ (k : Option Kind). head_of (type_of k) 68 m ++ port_of m ++ rmb_of m) (sym q))
  endpoint_written (inr q) =
      let e = confirm_fit m t q in
      let f = fine (sym e.0 ∙ h) in
      (e.1, confirm_bytes m t f.version f.code f.mtu q ∙ ap (λ (k : Option Kind). head_of (type_of k) 68 m ++ port_of m ++ rmb_of m) (sym q))

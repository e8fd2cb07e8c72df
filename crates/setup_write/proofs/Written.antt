-- What `write` leaves: the pieces, one behind the other, over the front of the buffer.
-- Assumes nothing.
use Prim.Native.Nat.{ℕ, ◌+◌, ◌*◌, ◌≤◌, ◌<◌}
use mathlib.Core.Path.{◌≡◌, ◌∙◌, refl, ap, sym, subst}
use mathlib.Core.Bool.{Bool, true, false, ◌&&◌, cond, and-false}
use mathlib.Core.Logic.{◌⊎◌, inl, inr}
use mathlib.Core.List.{List, ◌++◌}
use Rattle.std.specs.Prelude.{Option, Some, None}
use Rattle.setup_read.specs.declared.Kind.{Kind}
use Rattle.setup_read.specs.declared.Kind.TheVariants.{Proposal, Accept, Confirm, Decline}
use native.Mathlib.Nat.{zero-add}
use native.Mathlib.Omega.{arith}
use lib.ListN.{length, drop}
use lib.Dec.{leb}
use borrow.Author.Tests.{le-leb, lt-leb}
use Rattle.layout.specs.Layout.{laid_at}
use Rattle.layout.proofs.Places.{Over, over_first, over_next, over_length, laid_in}
use Rattle.setup_read.specs.declared.Message.{Message}
use Rattle.setup_read.specs.Clc.{type_of, fits_of, size_of, encode_of, writes_b, written_count, written_over}
use Rattle.setup_write.specs.Pieces.{head_of, port_of, rmb_of, networks_of, diagnosis_of}
use Rattle.setup_write.proofs.Known.{Typed}
use Rattle.setup_write.proofs.Writing.{head_is, port_is, rmb_is, networks_is, diagnosis_is}
use Rattle.setup_write.proofs.Fits.{fit_size, decline_written, proposal_written, endpoint_written}

-- both parts of the answer
abbrev pub Written : Message → List ℕ → ℕ → List ℕ → Type 0
Written m l n r = (n ≡ written_count m l) × (r ≡ written_over m l)

-- nothing is written where the fields do not fit, or the buffer is shorter
none_written : (m : Message) (l : List ℕ) → writes_b m l ≡ false → Written m l 0 l
unfolding written_count written_over
none_written m l e = (simp e, simp e)

pub endpoint : {o : Option Kind} {k : Kind} → o ≡ Some k → (k ≡ Accept) ⊎ (k ≡ Confirm) → (o ≡ Some Accept) ⊎ (o ≡ Some Confirm)
endpoint e (inl a) = inl (e ∙ ap (λ (k : Kind). Some k) a)
endpoint e (inr a) = inr (e ∙ ap (λ (k : Kind). Some k) a)

-- no size, and one
pub sizeless : (m : Message) → cond (fits_of m) (Some (size_of m)) None ≡ None → fits_of m ≡ false
sizeless m e = go (fits_of m) refl e
  where
    go : (b : Bool) → fits_of m ≡ b → cond b (Some (size_of m)) None ≡ None → fits_of m ≡ false
    go false f e = f
    go true f e = let z : ◌≡◌ {A = ℕ} 0 1 = cc in absurd (omega arith)

pub sized : (m : Message) (n : ℕ) → cond (fits_of m) (Some (size_of m)) None ≡ Some n → (fits_of m ≡ true) × (n ≡ size_of m)
sized m n e = go (fits_of m) refl e
  where
    go : (b : Bool) → fits_of m ≡ b → cond b (Some (size_of m)) None ≡ Some n → (fits_of m ≡ true) × (n ≡ size_of m)
    go true f e = (f, cc)
    go false f e = let z : ◌≡◌ {A = ℕ} 0 1 = cc in absurd (omega arith)

pub unfit : (m : Message) (l : List ℕ) → fits_of m ≡ false → Written m l 0 l
unfolding writes_b
unfit m l f = none_written m l (ap (λ (b : Bool). b && leb (size_of m) (length l)) f)

pub short : (m : Message) (l : List ℕ) (n : ℕ) → cond (fits_of m) (Some (size_of m)) None ≡ Some n → length l < n → Written m l 0 l
unfolding writes_b
short m l n e h =
    none_written m l (ap (λ (b : Bool). fits_of m && b) (lt-leb (size_of m) (length l) (omega (arith, (sized m n e).1))) ∙ and-false (fits_of m))

pub record Ready (m : Message) (l : List ℕ) (n : ℕ) : Type 0 where
  pub typed : Typed m
  pub fit : fits_of m ≡ true
  pub size : n ≡ size_of m
  pub least : 28 ≤ n
  pub room : n ≤ length l

pub ready : (m : Message) (l : List ℕ) (n : ℕ) → Typed m → cond (fits_of m) (Some (size_of m)) None ≡ Some n → n ≤ length l → Ready m l n
ready m l n t e h =
    let c = sized m n e in
    record { typed = t; fit = c.0; size = c.1; least = omega (arith, fit_size m c.0, c.1); room = h }

module _ {m : Message} {l : List ℕ} {n : ℕ} (y : Ready m l n) where
  abbrev pub k : ℕ
  k = type_of m.kind

  whole : (w r : List ℕ) → encode_of m ≡ w → Over l 0 w n r → Written m l n r
  unfolding written_count written_over writes_b
  whole w r e o =
      let s = y.size in
      let b : writes_b m l ≡ true = λ i. y.fit i && le-leb (size_of m) (length l) (omega (arith, s, y.room)) i in
      let f : length w ≡ size_of m = o.size ∙ s in
      let is : r ≡ w ++ drop (length w) l =
      o.is ∙ laid_in l w 0 (omega (arith, y.room, o.size)) ∙ ap (λ (x : ℕ). w ++ drop x l) (zero-add (length w)) in (
        s ∙ ap (λ (x : Bool). cond x (size_of m) 0) (sym b),
        is ∙ (λ i. sym e i ++ drop (f i) l) ∙ ap (λ (x : Bool). cond x (encode_of m ++ drop (size_of m) l) l) (sym b),
      )

  module _ (r : List ℕ) (h : r ≡ laid_at l 0 (head_of k n m)) where
    pub head_over : Over l 0 (head_of k n m) 16 r
    head_over = over_first l (head_of k n m) r 0 16 (head_is m y.typed k n).size (omega (arith, y.least, y.room)) h

    pub after_head : length r ≡ length l
    after_head = over_length head_over

    pub declined : (q : List ℕ) → m.kind ≡ Some Decline → q ≡ laid_at r 16 (diagnosis_of m) → Written m l n q × (length q ≡ length l)
    declined q a e =
        let d = decline_written m y.typed y.fit a in
        let size : n ≡ 28 = y.size ∙ d.0 in
        let o = over_next head_over 16 (diagnosis_of m) q 12 (diagnosis_is m y.typed).size refl (omega (arith, y.room)) e in
        let same : encode_of m ≡ head_of k n m ++ diagnosis_of m = d.1 ∙ ap (λ (x : ℕ). head_of k x m ++ diagnosis_of m) (sym size) in
        (whole _ q same (subst (λ (x : ℕ). Over l 0 (head_of k n m ++ diagnosis_of m) x q) (sym size) o), over_length o)

    module _ (p : List ℕ) (j : 52 ≤ n) (g : p ≡ laid_at r 16 (port_of m)) where
      port_over : Over l 0 (head_of k n m ++ port_of m) 38 p
      port_over = over_next head_over 16 (port_of m) p 22 (port_is m y.typed).size refl (omega (arith, j, y.room)) g

      pub after_port : length p ≡ length l
      after_port = over_length port_over

    -- a Proposal has 52 bytes or more
    module _ (a : m.kind ≡ Some Proposal) where
      pub proposal_long : 52 ≤ n
      proposal_long = omega (arith, (proposal_written m y.typed y.fit a).1, y.size)

      module _ (p : List ℕ) (g : p ≡ laid_at r 16 (port_of m)) where
        pub networks_room : (m.count ≤ 8) × (52 + m.offset + 17 * m.count ≤ length p)
        networks_room =
            let d = proposal_written m y.typed y.fit a in
            (d.0, omega (arith, d.1, y.size, y.room, after_port p proposal_long g))

        pub proposed : (q : List ℕ) → q ≡ laid_at p 38 (networks_of m) → Written m l n q × (length q ≡ length l)
        proposed q e =
            let d = proposal_written m y.typed y.fit a in
            let z = 2 + m.offset + 4 + 1 + 2 + 1 + 17 * m.count + 4 in
            let size : 38 + z ≡ n = omega (arith, d.1, y.size) in
            let o = over_next (port_over p proposal_long g) 38 (networks_of m) q z (networks_is m y.typed d.0).size refl (omega (arith, y.room)) e in
            let same : encode_of m ≡ head_of k n m ++ port_of m ++ networks_of m =
            d.2 ∙ ap (λ (x : ℕ). head_of k x m ++ port_of m ++ networks_of m) (sym y.size) in
            (whole _ q same (subst (λ (x : ℕ). Over l 0 (head_of k n m ++ port_of m ++ networks_of m) x q) size o), over_length o)

    -- an Accept or a Confirm has 68
    module _ (a : (m.kind ≡ Some Accept) ⊎ (m.kind ≡ Some Confirm)) where
      pub endpoint_long : 52 ≤ n
      endpoint_long = omega (arith, (endpoint_written m y.typed y.fit a).0, y.size)

      module _ (p : List ℕ) (g : p ≡ laid_at r 16 (port_of m)) where
        pub rmb_room : 68 ≤ length p
        rmb_room = omega (arith, (endpoint_written m y.typed y.fit a).0, y.size, y.room, after_port p endpoint_long g)

        pub answered : (q : List ℕ) → q ≡ laid_at p 38 (rmb_of m) → Written m l n q × (length q ≡ length l)
        answered q e =
            let d = endpoint_written m y.typed y.fit a in
            let size : n ≡ 68 = y.size ∙ d.0 in
            let o = over_next (port_over p endpoint_long g) 38 (rmb_of m) q 30 (rmb_is m y.typed).size refl (omega (arith, y.room)) e in
            let same : encode_of m ≡ head_of k n m ++ port_of m ++ rmb_of m = d.1 ∙ ap (λ (x : ℕ). head_of k x m ++ port_of m ++ rmb_of m) (sym size) in
            (whole _ q same (subst (λ (x : ℕ). Over l 0 (head_of k n m ++ port_of m ++ rmb_of m) x q) (sym size) o), over_length o)

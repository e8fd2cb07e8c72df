-- What it is to be a message of A.2, and what is read of one.
-- Assumes nothing.
use Rattle.std.specs.Prelude.{Option, Some, None}
use Prim.Native.Nat.{ℕ, ◌+◌, ◌-◌, ◌*◌, ◌/◌, ◌≤◌}
use mathlib.Core.Path.{◌≡◌, ◌∙◌, refl, ap, sym}
use mathlib.Core.Bool.{Bool, true, false}
use mathlib.Core.List.{List}
use native.Mathlib.Omega.{arith}
use lib.ListN.{length}
use lib.Dec.{eqb, leb}
use borrow.Author.Tests.{leb-true, eqb-true, eq-eqb, ne_eqb}
use Rattle.layout.specs.Layout.{number_at}
use Rattle.layout.proofs.Bits.{and_left, and_right}
use Rattle.setup_read.specs.declared.Kind.{Kind}
use Rattle.setup_read.specs.declared.Kind.TheVariants.{Proposal, Accept, Confirm, Decline}
use Rattle.setup_read.specs.Clc.{eye_catcher, only_proposal, offset_at, count_at, begins_b, sized_b, message_b, kind_of, kind_in, message_in, read_of}
use Rattle.setup_read.specs.Places.{no_message, proposal_at, endpoint_at, decline_at, bit08}
use Rattle.setup_read.proofs.Reading.{nothing_read, proposal_read, accept_read, confirm_read, decline_read}

pub record Begins (l : List ℕ) : Type 0 where
  pub long : 28 ≤ length l
  pub eye : number_at l 0 4 ≡ eye_catcher
  pub low : 1 ≤ number_at l 4 1
  pub high : number_at l 4 1 ≤ 4
  pub version : 1 ≤ number_at l 7 1 / 16
  pub size : number_at l 5 2 ≡ length l
  pub sized : sized_b l ≡ true
  pub end : number_at l (length l - 4) 4 ≡ eye_catcher

pub is_message : (l : List ℕ) → message_b l ≡ true → Begins l
unfolding message_b begins_b
is_message l e =
    let b = and_left (begins_b l) _ e in
    let r = and_right (begins_b l) _ e in
    let b1 = and_right (leb 28 (length l)) _ b in
    let b2 = and_right (eqb (number_at l 0 4) eye_catcher) _ b1 in
    let b3 = and_right (leb 1 (number_at l 4 1)) _ b2 in
    let b4 = and_right (leb (number_at l 4 1) 4) _ b3 in
    record {
      long = leb-true 28 (length l) (and_left _ _ b);
      eye = eqb-true (number_at l 0 4) eye_catcher (and_left _ _ b1);
      low = leb-true 1 (number_at l 4 1) (and_left _ _ b2);
      high = leb-true (number_at l 4 1) 4 (and_left _ _ b3);
      version = leb-true 1 (number_at l 7 1 / 16) (and_left _ _ b4);
      size = eqb-true (number_at l 5 2) (length l) (and_right (leb 1 (number_at l 7 1 / 16)) _ b4);
      sized = and_left (sized_b l) _ r;
      end = eqb-true (number_at l (length l - 4) 4) eye_catcher (and_right (sized_b l) _ r);
    }

-- a Proposal's sizes
pub record Sizes (l : List ℕ) : Type 0 where
  pub some : 52 ≤ length l
  pub room : 52 + offset_at l ≤ length l
  pub few : count_at l ≤ 8
  pub whole : length l ≡ 52 + offset_at l + 17 * count_at l

module _ (l : List ℕ) (s : sized_b l ≡ true) where
  pub proposal_sizes : number_at l 4 1 ≡ 1 → Sizes l
  unfolding sized_b
  proposal_sizes e =
      let s0 = simp (eq-eqb _ 1 e, ne_eqb (number_at l 4 1) 4 (λ f. omega arith)) at s in
      let s1 = and_right (leb 52 (length l)) _ s0 in
      let s2 = and_right (leb (52 + offset_at l) (length l)) _ s1 in
      record {
        some = leb-true 52 (length l) (and_left _ _ s0);
        room = leb-true (52 + offset_at l) (length l) (and_left _ _ s1);
        few = leb-true (count_at l) 8 (and_left _ _ s2);
        whole = eqb-true (length l) (52 + offset_at l + 17 * count_at l) (and_right (leb (count_at l) 8) _ s2);
      }

  pub decline_size : number_at l 4 1 ≡ 4 → length l ≡ 28
  unfolding sized_b
  decline_size e = eqb-true (length l) 28 (simp (eq-eqb _ 4 e) at s)

  pub endpoint_size : (number_at l 4 1 ≡ 1 → ⊥) → (number_at l 4 1 ≡ 4 → ⊥) → length l ≡ 68
  unfolding sized_b
  endpoint_size e f = eqb-true (length l) 68 (simp (ne_eqb (number_at l 4 1) 1 e, ne_eqb (number_at l 4 1) 4 f) at s)

-- what kind the bytes are, and what is read of each kind
pub kind_in_lem : (l : List ℕ) (t : ℕ) → message_b l ≡ true → number_at l 4 1 ≡ t → kind_in l ≡ Some (kind_of t)
unfolding kind_in
kind_in_lem l t m e = simp m (ap (λ (t : ℕ). Some (kind_of t)) e)

pub kind_none : (l : List ℕ) → message_b l ≡ false → kind_in l ≡ None
unfolding kind_in
kind_none l m = simp m

pub read_kind : (l : List ℕ) (k : Option Kind) → kind_in l ≡ k → read_of l ≡ message_in k (only_proposal k (offset_at l)) (only_proposal k (count_at l)) l
unfolding read_of
read_kind l k e = λ i. message_in (e i) (only_proposal (e i) (offset_at l)) (only_proposal (e i) (count_at l)) l

pub read_none : (l : List ℕ) → message_b l ≡ false → read_of l ≡ no_message
read_none l m = read_kind l None (kind_none l m) ∙ nothing_read l

module _ (l : List ℕ) (m : message_b l ≡ true) where
  pub read_proposal : number_at l 4 1 ≡ 1 → read_of l ≡ proposal_at l
  unfolding kind_of
  read_proposal e = read_kind l (Some Proposal) (kind_in_lem l 1 m e) ∙ proposal_read l (proposal_sizes l (is_message l m).sized e).some

  pub read_accept : number_at l 4 1 ≡ 2 → read_of l ≡ endpoint_at Accept (bit08 l 7) l
  unfolding kind_of
  read_accept e =
      let n : length l ≡ 68 = endpoint_size l (is_message l m).sized (λ f. omega arith) (λ f. omega arith) in
      read_kind l (Some Accept) (kind_in_lem l 2 m e) ∙ accept_read l (omega arith)

  pub read_confirm : number_at l 4 1 ≡ 3 → read_of l ≡ endpoint_at Confirm false l
  unfolding kind_of
  read_confirm e =
      let n : length l ≡ 68 = endpoint_size l (is_message l m).sized (λ f. omega arith) (λ f. omega arith) in
      read_kind l (Some Confirm) (kind_in_lem l 3 m e) ∙ confirm_read l (omega arith)

  pub read_decline : number_at l 4 1 ≡ 4 → read_of l ≡ decline_at l
  unfolding kind_of
  read_decline e = read_kind l (Some Decline) (kind_in_lem l 4 m e) ∙ decline_read l (is_message l m).long

-- of bytes whose kind is Decline, those fields are read
pub decline_of : (l : List ℕ) → kind_in l ≡ Some Decline → read_of l ≡ decline_at l
unfolding kind_in
decline_of l k = go (message_b l) refl
  where
    go : (b : Bool) → message_b l ≡ b → read_of l ≡ decline_at l
    go true e = read_kind l (Some Decline) k ∙ decline_read l (is_message l e).long
    go false e =
        let n : None ≡ (Some Decline) = sym (kind_none l e) ∙ k in
        let z : ◌≡◌ {A = ℕ} 0 1 = cc in absurd (omega arith)

-- A call on a slot: what it does and answers where the slot is open, and where an accepted place lies. Assumes nothing.
use mathlib.Core.Path.{◌≡◌, refl, sym, ap, ◌∙◌}
use mathlib.Core.Bool.{Bool, true, false}
use mathlib.Core.List.{List}
use Prim.Native.Nat.{ℕ, zero, suc}
use lib.Dec.{eqb-suc-zero}
use lib.ListN.{length}
use Rattle.cdc.specs.declared.Message.{Message}
use Rattle.cdc.specs.declared.Decoded.TheVariants.{Good}
use Rattle.cdc.specs.Cdc.{decode_of}
use Rattle.conn_answer.specs.declared.Reply.{Reply}
use Rattle.conn_answer.specs.declared.Reply.TheVariants.{Refused, Accepted, Sent, Read, Torn, Reset, Heard, Sampled}
use Rattle.conn_receive.specs.Receive.{place_of}
use Rattle.conn_receive.proofs.Laws.{Placeable, place_accepted}
use Rattle.group_table.specs.Table.{open_b}
use Rattle.group_rules.specs.Rules.{Group, Request, place, on, hear, refusal, accepted, says_of, turn_of, request_turn, hear_turn, Done, does, answer, refuses, put_turn, on_does, hear_does, hear_at, out_of, record_of_all, element_in, link_of, holder_of, sizes_ok}
use Rattle.thm_safety.specs.Statement.{OpenAt}
use Rattle.thm_refusals.proofs.Answers.{clash}
use Rattle.thm_safety.proofs.Invariant.{Sound, no_slot_0}

module _ (g : Group) (k : ℕ) (q : Request) (ok : sizes_ok g ≡ true) where
  pub on_open : OpenAt g k → does g (on k q) ≡ put_turn g k (request_turn g.N (link_of g k) (record_of_all g k) (element_in g k) q)
  unfolding on_does
  on_open o = rw (ok, o)

  pub on_closed : open_b g.S g.table k ≡ false → does g (on k q) ≡ refuses g 2 (out_of q)
  unfolding on_does
  on_closed o = rw (ok, o)

  -- one that is not refused is on an open slot
  pub on_was_open : ((n : ℕ) → (answer g (on k q)).says ≡ refusal n → ⊥) → OpenAt g k
  unfolding refuses
  on_was_open h = go (open_b g.S g.table k) refl
    where
      go : (t : Bool) → open_b g.S g.table k ≡ t → open_b g.S g.table k ≡ true
      go true e = e
      go false e = absurd (h 2 (ap (λ (x : Done). x.answer.says) (on_closed e)))

  pub on_answer : OpenAt g k → answer g (on k q) ≡ (request_turn g.N (link_of g k) (record_of_all g k) (element_in g k) q).answer
  unfolding put_turn
  on_answer o = ap (λ (x : Done). x.answer) (on_open o)

-- a message with the token of an open slot
pub hear_open : (g : Group) → sizes_ok g ≡ true → (k : ℕ) → OpenAt g k → (b : List ℕ) (m : Message) → decode_of b ≡ Good m
    → holder_of g m.token ≡ k → does g (hear b) ≡ put_turn g k (hear_turn g.N (link_of g k) (record_of_all g k) (element_in g k) m)
unfolding hear_does hear_at
hear_open g ok zero o b m d e = absurd (no_slot_0 g o)
hear_open g ok (suc i) o b m d e = rw (ok, d, e, eqb-suc-zero i)

accepted_is : (r : Reply) → says_of r ≡ accepted → r ≡ Accepted
accepted_is (Refused k) e = clash (cc)
accepted_is Accepted e = refl
accepted_is (Sent n p) e = clash (cc)
accepted_is (Read n) e = clash (cc)
accepted_is Torn e = clash (cc)
accepted_is (Heard moved state) e = clash (cc)
accepted_is Reset e = clash (cc)
accepted_is (Sampled q) e = clash (cc)

-- an accepted place lies in the data, or has no bytes
pub placed_inside : (g : Group) → Sound g → (k at : ℕ) (b : List ℕ) → (answer g (on k (place at b))).says ≡ accepted
    → Placeable g.N (record_of_all g k).inbound at (length b)
unfolding request_turn turn_of
placed_inside g s k at b e =
    let o = on_was_open g k (place at b) s.good.sizes (λ n r. clash (cc)) in
    let r = (place_of g.N (link_of g k) (record_of_all g k) at (length b)).reply in
    let says = ap (λ a. a.says) (on_answer g k (place at b) s.good.sizes o) in
    place_accepted g.N (link_of g k) (record_of_all g k) at (length b) (accepted_is r (sym says ∙ e))

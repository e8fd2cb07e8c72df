-- What a call does to the connection's slot at an end where it is open: one of the connection is a turn of its record and element; one
-- elsewhere leaves both, puts the record on another link, or closes the slot. And that open. Assumes nothing.
use mathlib.Core.Path.{◌≡◌, refl, sym, ap, ◌∙◌, subst}
use mathlib.Core.Bool.{Bool, true, false, cond, false≢true}
use mathlib.Core.List.{List, []}
use Prim.Native.Nat.{ℕ, zero, suc}
use native.Mathlib.Decide.{ℕ_discrete}
use native.Mathlib.Omega.{arith}
use lib.Dec.{eqb}
use lib.ListN.{length}
use borrow.Author.Tests.{eqb-true, eq-eqb}
use Rattle.cdc.specs.declared.Message.{Message}
use Rattle.cdc.specs.declared.Decoded.TheVariants.{Good}
use Rattle.cdc.specs.Cdc.{decode_of}
use Rattle.conn_record.specs.declared.Opening as Given
use Rattle.conn_record.specs.Connection.{opened_record, zero_record, coherent_b}
use Rattle.element.specs.Element.{element_of, intact_b}
use Rattle.link_failover.specs.Failover.{plan_of}
use Rattle.link_failover.proofs.Keeps.{ButLink, moved_keeps}
use Rattle.thm_links.specs.Statements.{Call as LinkCall}
use Rattle.group_rules.specs.Rules.{Group, Request, send, urgent, gather, place, read, shutdown, close, abort, open_slot, Call, on, hear, manage}
use Rattle.group_rules.specs.Rules.{Turn, request_turn, hear_turn, Done, does, answer, next, refuses, put_turn, record_of_all, element_in, link_of}
use Rattle.group_rules.specs.Rules.{holder_of, open_refusal, open_does, sizes_ok}
use Rattle.thm_order.proofs.Near.{enough}
use Rattle.thm_order.proofs.Slots.{slot_in, open_in, element_long, Put, put}
use Rattle.thm_changes.proofs.Acted.{acts_in, acts_high, acts_long}
use Rattle.thm_safety.specs.Statement.{OpenAt, own_of, accepted_b}
use Rattle.thm_safety.specs.Links.{call_of}
use Rattle.thm_safety.proofs.Invariant.{Sound, sizes, no_slot_0}
use Rattle.thm_safety.proofs.Failing.{only_the_link}
use Rattle.thm_safety.proofs.OnSlot.{hear_open, on_open}
use Rattle.thm_safety.proofs.Theorem.{the_only}
use Rattle.thm_safety.proofs.Effects.{Openable, open_turn, open_facts, Acts, asks, hears, opens, frees, Effect, refuses_it, links_it, samples_it}
use Rattle.thm_safety.proofs.Effects.{puts_turn, effect}
use Rattle.thm_positions.specs.Positions.{names_b}
use Rattle.thm_sent.specs.Books.{Names, Aim, elsewhere, asked, aim_of}
use Rattle.thm_sent.specs.Plain.{mine_b}

-- the turn t is put back in slot k
pub record Turned (g : Group) (c : Call) (k : ℕ) (t : Turn) : Type 0 where
  pub answer_is : answer g c ≡ t.answer
  pub record_is : record_of_all (next g c) k ≡ t.after
  pub element_is : element_in (next g c) k ≡ t.element

module _ (g : Group) (s : Sound g) where
  there : (c : Call) (l : ℕ) (t : Turn) → sizes_ok g ≡ true → Acts g c (suc l) t → Put g l t (put_turn g (suc l) t).group
  there c l t ok a =
      let high = acts_high g c l t ok a in
      put g l t (sizes g s).whole high (omega (arith, enough g s.good, high)) (acts_long g c l t ok a)

  acts_turned : (c : Call) (k : ℕ) (t : Turn) → Acts g c k t → does g c ≡ put_turn g k t → Turned g c k t
  unfolding put_turn
  acts_turned c zero t a did = absurd (omega (arith, slot_in g.S 0 (acts_in g c 0 t s.good.sizes a)))
  acts_turned c (suc i) t a did =
      let w = there c i t s.good.sizes a in
      record {
        answer_is = ap (λ (d : Done). d.answer) did;
        record_is = ap (λ (d : Done). record_of_all d.group (suc i)) did ∙ w.this_record;
        element_is = ap (λ (d : Done). element_in d.group (suc i)) did ∙ w.this_element;
      }

  -- WHAT HOLDS OF AN OPEN SLOT
  pub record Slot (k : ℕ) : Type 0 where
    pub coherent : coherent_b g.N (record_of_all g k) ≡ true
    pub intact : intact_b (element_in g k) ≡ true
    pub long : length (element_in g k) ≡ g.N
    pub holder : holder_of g (own_of g k) ≡ k

  pub slot_of : (k : ℕ) → OpenAt g k → Slot k
  slot_of zero o = absurd (no_slot_0 g o)
  slot_of (suc i) o =
      record {
        coherent = s.coherent i o;
        intact = s.intact i o;
        long = element_long g.N g.S g.memory (sizes g s).whole i (open_in g.S g.table (suc i) o).high;
        holder = the_only g s i (own_of g (suc i)) o refl;
      }

  module _ (k : ℕ) (o : OpenAt g k) where
    -- A CALL ON THE SLOT
    pub on_turned : (q : Request) → Turned g (on k q) k (request_turn g.N (link_of g k) (record_of_all g k) (element_in g k) q)
    on_turned q = acts_turned (on k q) k _ (asks q refl o refl) (on_open g k q s.good.sizes o)

    -- A MESSAGE WITH ITS TOKEN
    pub hear_turned : (b : List ℕ) (m : Message) → decode_of b ≡ Good m → own_of g k ≡ m.token
        → Turned g (hear b) k (hear_turn g.N (link_of g k) (record_of_all g k) (element_in g k) m)
    hear_turned b m d e =
        let h : holder_of g m.token ≡ k = ap (holder_of g) (sym e) ∙ (slot_of k o).holder in
        acts_turned (hear b) k _ (hears b m refl d h o e refl) (hear_open g s.good.sizes k o b m d h)

    -- A CALL ELSEWHERE: the record stays, all but its link, or the slot closes
    pub data Elsewhere (c : Call) : Type 0 where
      stays : ButLink (record_of_all g k) (record_of_all (next g c) k) → element_in (next g c) k ≡ element_in g k → Elsewhere c
      closes : record_of_all (next g c) k ≡ zero_record → element_in (next g c) k ≡ element_in g k → Elsewhere c

    same : (c : Call) (h : Group) → (does g c).group ≡ h → record_of_all h k ≡ record_of_all g k → element_in h k ≡ element_in g k → Elsewhere c
    same c h q r x =
        stays
        (subst (ButLink (record_of_all g k)) (sym (ap (λ (y : Group). record_of_all y k) q ∙ r))
        search)
        (ap (λ (y : Group). element_in y k) q ∙ x)

    linked : (j : LinkCall) (b : List ℕ) → Elsewhere (call_of j b)
    linked j b =
        let w = only_the_link g j b in
        stays (subst (ButLink (record_of_all g k)) (sym (w.each k))
        (moved_keeps g.N (plan_of g.links (next g (call_of j b)).links) (record_of_all g k)))
        (λ i. element_of (w.same_N i) k (w.same_memory i))

    module _ (n : Names) (slot_is : n.slot ≡ k) (own_is : own_of g k ≡ n.own) (c : Call) (not-mine : mine_b (aim_of n c) ≡ false) where
      asked_mine : (q : Request) → mine_b (asked q) ≡ true
      asked_mine (send b) = refl
      asked_mine (urgent b) = refl
      asked_mine (gather h b) = refl
      asked_mine (place at b) = refl
      asked_mine (read out) = refl
      asked_mine shutdown = refl
      asked_mine close = refl
      asked_mine abort = refl

      on_mine : (q : Request) → c ≡ on k q → ⊥
      unfolding aim_of
      on_mine q p =
          let a : aim_of n c ≡ asked q = ap (aim_of n) p ∙ ap (λ (t : Bool). cond t (asked q) elsewhere) (eq-eqb k n.slot (sym slot_is)) in
          false≢true (sym not-mine ∙ ap mine_b a ∙ asked_mine q)

      hear_mine : (b : List ℕ) (m : Message) → c ≡ hear b → decode_of b ≡ Good m → own_of g k ≡ m.token → ⊥
      unfolding aim_of
      hear_mine b m p d e =
          let t : names_b n.own (decode_of b) ≡ true = ap (names_b n.own) d ∙ eq-eqb m.token n.own (sym e ∙ own_is) in
          false≢true (sym not-mine ∙ ap mine_b (ap (aim_of n) p ∙ ap (λ (u : Bool). cond u (Aim.hears b) elsewhere) t))

      this : (t : Turn) → Turned g c k t → Acts g c k t → Elsewhere c
      this t w (asks q p x r) = absurd (on_mine q p)
      this t w (hears b m p d h x e r) = absurd (hear_mine b m p d e)
      this t w (opens given p x r) =
          absurd (false≢true (sym (open_facts g k given x).was_closed ∙ (open_in g.S g.table k o).is_open))
      this t w (frees p x r) = closes (w.record_is ∙ ap (λ (u : Turn). u.after) r) (w.element_is ∙ ap (λ (u : Turn). u.element) r)

      pub elsewhere_turned : Elsewhere c
      unfolding refuses put_turn
      elsewhere_turned = go (does g c) refl (effect g c)
        where
          other : (i l : ℕ) → k ≡ suc i → (t : Turn) → does g c ≡ put_turn g (suc l) t → sizes_ok g ≡ true → Acts g c (suc l) t → Elsewhere c
          other i l z t did ok a =
              elim (ℕ_discrete i l) [
                | yes e ↦
                    let same_slot : suc l ≡ k = ap suc (sym e) ∙ sym z in
                    let a' = subst (λ (j : ℕ). Acts g c j t) same_slot a in
                    this t (acts_turned c k t a' (did ∙ ap (λ (j : ℕ). put_turn g j t) same_slot)) a'
                | no e ↦
                    let w = there c l t ok a in
                    same c _ (ap (λ (x : Done). x.group) did)
                    (subst (λ (j : ℕ). record_of_all (put_turn g (suc l) t).group j ≡ record_of_all g j) (sym z) (w.other_record i e))
                    (subst (λ (j : ℕ). element_in (put_turn g (suc l) t).group j ≡ element_in g j) (sym z) (w.other_element i e))
              ]

          turned : (l j : ℕ) → k ≡ j → (t : Turn) → does g c ≡ put_turn g l t → sizes_ok g ≡ true → Acts g c l t → Elsewhere c
          turned zero j z t did ok a = absurd (omega (arith, slot_in g.S 0 (acts_in g c 0 t ok a)))
          turned (suc l) zero z t did ok a = absurd (no_slot_0 g (subst (OpenAt g) z o))
          turned (suc l) (suc i) z t did ok a = other i l z t did ok a

          go : (x : Done) → does g c ≡ x → Effect g c x → Elsewhere c
          go x q (refuses_it j h e) = same c _ (ap (λ (d : Done). d.group) (q ∙ e)) refl refl
          go x q (links_it j b p a e) = subst Elsewhere (sym p) (linked j b)
          go x q (samples_it l ms p y e) = same c _ (ap (λ (d : Done). d.group) (q ∙ e)) refl refl
          go x q (puts_turn l t ok a e) = turned l k refl t (q ∙ e) ok a

  -- THAT OPEN: an accepted open of a slot leaves the opened record there
  module _ (given : Given.Opening) (k : ℕ) where
    pub record Opened : Type 0 where
      pub record_is : record_of_all (next g (manage (open_slot k given))) k ≡ opened_record given
      pub facts : Openable g k given

    pub open_turned : accepted_b (answer g (manage (open_slot k given))).says ≡ true → Opened
    unfolding open_does refuses
    open_turned e = go (eqb (open_refusal g k given) 0) refl e
      where
        go : (z : Bool) → eqb (open_refusal g k given) 0 ≡ z
            → accepted_b (cond z (put_turn g k (open_turn g given)) (refuses g (open_refusal g k given) [])).answer.says ≡ true → Opened
        go false q e = absurd (false≢true e)
        go true q e =
            let no = eqb-true (open_refusal g k given) 0 q in
            let did : does g (manage (open_slot k given)) ≡ put_turn g k (open_turn g given) =
            ap (λ (z : Bool). cond z (put_turn g k (open_turn g given)) (refuses g (open_refusal g k given) [])) q
            in
            record {
              record_is = (acts_turned (manage (open_slot k given)) k (open_turn g given) (opens given refl no refl) did).record_is;
              facts = open_facts g k given no;
            }

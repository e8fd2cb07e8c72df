-- Claim 2 of specs/Resilience: one link is enough. Assumes nothing.
use Prim.Native.Nat.{ℕ, zero, suc}
use mathlib.Core.Path.{◌≡◌, refl, sym, ap, ◌∙◌, subst}
use mathlib.Core.Logic.{inl, inr}
use mathlib.Core.Bool.{Bool, true, false, false≢true, ◌||◌, not, cond}
use mathlib.Core.Option.{Option, some}
use mathlib.Core.List.{List, [], ◌∷◌}
use native.Mathlib.Omega.{arith}
use native.Mathlib.Decide.{ℕ_discrete}
use lib.Dec.{ltb, eqb}
use lib.ListN.{take}
use borrow.Author.Tests.{not-false, eqb-false, ltb-false}
use Rattle.cdc.specs.Cdc.{fields_of}
use Rattle.conn_record.specs.declared.Opening as Given
use Rattle.conn_record.specs.declared.Record.{Record}
use Rattle.conn_record.specs.Connection.{zero_record, opened_record}
use Rattle.group_table.specs.Table.{slot_b, link_in, active_b, find_from}
use Rattle.group_rules.specs.Rules.{Group, Request, send, gather, urgent, place, read, shutdown, close, abort, Call, on, hear, manage, Turn, Done}
use Rattle.group_rules.specs.Rules.{next, does, refuses, put_turn, record_of_all, link_of, holder_of, bad_opening, open_refusal, sizes_ok}
use Rattle.thm_order.specs.Statement.{leaves}
use Rattle.thm_order.proofs.Near as near
use Rattle.thm_order.proofs.Acts.{Conn}
use Rattle.thm_order.proofs.Slots.{slot_in, slot_is, open_in, open_is, record_same, found_open}
use Rattle.thm_refusals.specs.Refusals.{sizes_wrong, slot_outside, slot_closed, incoherent, malformed, token_unheld, connection_down, state_forbids}
use Rattle.thm_refusals.specs.Refusals.{not_next, cursor_broken, Test, ◌when◌, place_test, tests, first_of}
use Rattle.thm_refusals.proofs.Exactly.{exactly_when}
use Rattle.thm_refusals.proofs.Answers.{clash}
use Rattle.thm_safety.specs.Statement.{OpenAt}
use Rattle.thm_safety.specs.Links.{call_of}
use Rattle.thm_safety.proofs.Failing.{only_the_link}
use Rattle.link_failover.proofs.Keeps.{moved_keeps}
use Rattle.thm_changes.proofs.Acted.{acts_slot, acts_in, acts_high}
use Rattle.thm_changes.proofs.Changes.{one_record, acts_aside}
use Rattle.thm_safety.proofs.Effects.{Acts, asks, hears, opens, frees, Effect, refuses_it, links_it, samples_it, puts_turn, effect}
use Rattle.thm_safety.proofs.Invariant.{Sound, no_slot_0}
use Rattle.thm_safety.proofs.Sound.{sound_fresh, sound_next}
use Rattle.thm_failover.specs.Resilience.{any_active, Linked, Connection, AllLinked, OneLinkEnough}
use Rattle.thm_failover.proofs.Moves.{none_left_behind}

-- every open slot's link is active
abbrev Holds : Group → Type 0
Holds h = (k : ℕ) → OpenAt h k → link_of h k ≡ true

-- an accepted open was given an active link
past : (t : Bool) (x y : ℕ) → cond t (suc x) y ≡ 0 → (t ≡ false) × (y ≡ 0)
past true x y e = absurd (omega (arith, e))
past false x y e = (refl, e)

opens_active : (g : Group) (k : ℕ) (given : Given.Opening) → open_refusal g k given ≡ 0 → active_b g.links given.link ≡ true
unfolding open_refusal
opens_active g k given e =
    let a = past (not (sizes_ok g)) 0 _ e in
    let b = past (not (slot_b g.S k)) 1 _ a.1 in
    let c = past (record_of_all g k).id.opened 9 _ b.1 in
    let d = past (bad_opening given) 11 _ c.1 in
    let x = past (not (link_in given.link)) 12 _ d.1 in
    let y = past (not (active_b g.links given.link)) 5 _ x.1 in
    not-false (active_b g.links given.link) y.0

-- ONE CALL ON
module _ (g : Group) (s : Sound g) (w : Holds g) (c : Call) where
  abbrev h : Group
  h = next g c

  was_open : (k : ℕ) → (record_of_all h k).id.opened ≡ (record_of_all g k).id.opened → OpenAt h k → OpenAt g k
  was_open k e o =
      let v = open_in h.S h.table k o in
      open_is g.S g.table k (rw (one_record g c).same_S at v.slot) (sym e ∙ v.is_open)

  -- a record that stays, and links that stay
  as_it_was : (k : ℕ) → h.links ≡ g.links → record_of_all h k ≡ record_of_all g k → OpenAt h k → link_of h k ≡ true
  as_it_was k e r o =
      (λ i. active_b (e i) (r i).id.link) ∙ w k (was_open k (ap (λ (c : Record). c.id.opened) r) o)

  -- a connection's call keeps who each connection is
  by_connection : Conn c → Holds h
  by_connection t zero o = absurd (no_slot_0 h o)
  by_connection t (suc i) o =
      let n = near.near_next g g (near.near_start g s.good) c t in
      let v = n.kept_open i o in
      (λ j. active_b (n.kept_links j).active (v.1 j).link) ∙ w (suc i) v.0

  holds_after : Linked h → Holds h
  unfolding refuses put_turn opened_record zero_record
  holds_after l = go (does g c) refl (effect g c)
    where
      -- the slot that a desk call turned
      turned : (i : ℕ) (t : Turn) → does g c ≡ put_turn g (suc i) t → sizes_ok g ≡ true → Acts g c (suc i) t
          → (record_of_all h (suc i) ≡ t.after → OpenAt h (suc i) → link_of h (suc i) ≡ true) → Holds h
      turned i t did ok a this k o = by (ℕ_discrete (suc i) k)
        where
          put : record_of_all h (suc i) ≡ t.after
          put =
              ap (λ (x : Done). record_of_all x.group (suc i)) did
              ∙ record_same g.table i t.after (omega (arith, near.enough g s.good, acts_high g c i t ok a))

          by : Dec (suc i ≡ k) → link_of h k ≡ true
          by (yes e) = subst (λ j. link_of h j ≡ true) e (this put (subst (OpenAt h) (sym e) o))
          by (no d) =
              as_it_was k (ap (λ (x : Done). x.group.links) did)
              ((one_record g c).others k (λ p. d (sym (p ∙ acts_slot g c (suc i) t ok a))) ∙ acts_aside g c (suc i) t (record_of_all g k) a) o

      acted : (k : ℕ) (t : Turn) → does g c ≡ put_turn g k t → sizes_ok g ≡ true → Acts g c k t → Holds h
      acted zero t did ok a = absurd (omega (arith, slot_in g.S 0 (acts_in g c 0 t ok a)))
      acted (suc i) t did ok (asks q p o r) = by_connection (subst Conn (sym p) tt)
      acted (suc i) t did ok (hears b m p d x o v r) = by_connection (subst Conn (sym p) tt)
      acted (suc i) t did ok (opens given p n r) =
          turned i t did ok (opens given p n r)
          (λ e o.
          (λ j. active_b (ap (λ (x : Done). x.group.links) did j) ((e ∙ ap (λ (t : Turn). t.after) r) j).id.link)
          ∙ opens_active g (suc i) given n)
      acted (suc i) t did ok (frees p n r) =
          turned i t did ok (frees p n r)
          (λ e o.
          absurd
          (false≢true
          (sym (ap (λ (c : Record). c.id.opened) (e ∙ ap (λ (t : Turn). t.after) r)) ∙ (open_in h.S h.table (suc i) o).is_open)))

      go : (x : Done) → does g c ≡ x → Effect g c x → Holds h
      go x q (refuses_it n z e) = subst Holds (sym (ap (λ (d : Done). d.group) (q ∙ e))) w
      go x q (links_it i b p a e) = linked l
        where
          is : h ≡ next g (call_of i b)
          is = ap (λ (z : Call). next g z) p

          linked : Linked h → Holds h
          linked (inr shut) k o = absurd (shut k o)
          linked (inl t) zero o = absurd (no_slot_0 h o)
          linked (inl t) (suc j) o =
              let e =
              ap (λ (z : Group). record_of_all z (suc j)) is ∙ (only_the_link g i b).each (suc j) in
              let was = was_open (suc j) (ap (λ (c : Record). c.id.opened) e ∙ (moved_keeps g.N _ (record_of_all g (suc j))).opened) o in
              ap (λ (z : Group). link_of z (suc j)) is
              ∙ none_left_behind g i b (suc j) (sym (ap any_active is) ∙ t) was (s.coherent j was) (w (suc j) was)
      go x q (samples_it l ms p z e) =
          λ k o. as_it_was k (ap (λ (d : Done). d.group.links) (q ∙ e)) (ap (λ (d : Done). record_of_all d.group k) (q ∙ e)) o
      go x q (puts_turn k t ok a e) = acted k t (q ∙ e) ok a

-- REFUSAL 6 is not given where every open slot's link is active
module _ (h : Group) (w : Holds h) where
  closed_is : (k : ℕ) → slot_closed h k ≡ false → OpenAt h k
  closed_is k e =
      let a = none_of (slot_outside h k) _ e in
      let b = none_of (ltb k 1) _ a.0 in
      open_is h.S h.table k (slot_is h.S k (ltb-false k 1 b.0) (ltb-false h.S k b.1))
      (not-false (record_of_all h k).id.opened a.1)
    where
      none_of : (a b : Bool) → a || b ≡ false → (a ≡ false) × (b ≡ false)
      none_of true b e = absurd (false≢true (sym e))
      none_of false b e = (refl, e)

  held_is : (token : ℕ) → token_unheld h token ≡ false → OpenAt h (holder_of h token)
  held_is token e = go (eqb token 0) (find_from h.table token h.S) refl refl e
    where
      go : (t : Bool) (k : ℕ) → eqb token 0 ≡ t → find_from h.table token h.S ≡ k → t || eqb k 0 ≡ false → OpenAt h (cond t 0 k)
      go true k z f v = absurd (false≢true (sym v))
      go false zero z f v = absurd (false≢true (sym v))
      go false (suc k) z f v = (found_open h.S h.table token k f).0

  up_is : (k : ℕ) → OpenAt h k → connection_down h k ≡ false
  up_is k o = ap not (w k o)

  some_6 : (n : ℕ) → eqb n 6 ≡ false → ◌≡◌ {A = Option ℕ} (some n) (some 6) → ⊥
  some_6 n e p = let q : n ≡ 6 = cc in eqb-false n 6 e q

  -- a test whose number is not 6, and the tests after it
  past_6 : (n : ℕ) (t : Bool) (l : List Test) → eqb n 6 ≡ false → (t ≡ false → first_of l ≡ some 6 → ⊥) → first_of (n when t ∷ l) ≡ some 6 → ⊥
  unfolding first_of
  past_6 n true l e k = some_6 n e
  past_6 n false l e k = k refl

  at_6 : (t : Bool) (l : List Test) → t ≡ false → (first_of l ≡ some 6 → ⊥) → first_of (6 when t ∷ l) ≡ some 6 → ⊥
  unfolding first_of
  at_6 t l e k = go t e
    where
      go : (t : Bool) → t ≡ false → cond t (some 6) (first_of l) ≡ some 6 → ⊥
      go true e = absurd (false≢true (sym e))
      go false e = k

  end_6 : first_of [] ≡ some 6 → ⊥
  unfolding first_of
  end_6 p = clash (cc)

  place_6 : (k : ℕ) (q : Request) → first_of (place_test h k q) ≡ some 6 → ⊥
  place_6 k (send b) = end_6
  place_6 k (urgent b) = end_6
  place_6 k (gather head body) = end_6
  place_6 k (place at b) = past_6 9 _ [] refl (λ e. end_6)
  place_6 k (read out) = end_6
  place_6 k shutdown = end_6
  place_6 k close = end_6
  place_6 k abort = end_6

  none_6 : (c : Call) → Connection c → first_of (tests h c) ≡ some 6 → ⊥
  none_6 (on k q) t =
      past_6 1 (sizes_wrong h) _ refl
      (λ a.
      past_6 2 (slot_closed h k) _ refl
      (λ b.
      past_6 3 (incoherent h k) _ refl
      (λ c. at_6 (connection_down h k) _ (up_is k (closed_is k b)) (past_6 7 (state_forbids h k q) _ refl (λ d. place_6 k q)))))
  none_6 (hear b) t =
      let m = fields_of b in
      let k = holder_of h m.token in
      past_6 1 (sizes_wrong h) _ refl
      (λ a.
      past_6 4 (malformed b) _ refl
      (λ x.
      past_6 5 (token_unheld h m.token) _ refl
      (λ y.
      past_6 3 (incoherent h k) _ refl
      (λ c.
      at_6 (connection_down h k) _ (up_is k (held_is m.token y))
      (past_6 16 (not_next h k m) _ refl (λ d. past_6 8 (cursor_broken h k m) [] refl (λ e. end_6)))))))
  none_6 (manage d) t = absurd t

  all_linked : AllLinked h
  all_linked =
      record {
        every_open = w;
        never_6 = λ c t p. none_6 c t (((exactly_when h c).refused 6).0 p);
      }

-- ALL CALLS
list_linked : (cs : List Call) (g : Group) → Sound g → Holds g → ((i : ℕ) → Linked (leaves g (take i cs))) → (i : ℕ)
    → Holds (leaves g (take i cs))
unfolding leaves
list_linked cs g s w l zero = w
list_linked [] g s w l (suc i) = w
list_linked (c ∷ cs) g s w l (suc i) =
    list_linked cs (next g c) (sound_next g s c) (holds_after g s w c (l 1)) (λ j. l (suc j)) i

pub one_link_enough : OneLinkEnough
one_link_enough g f cs l i =
    all_linked (leaves g (take i cs)) (list_linked cs g (sound_fresh g f) (λ k o. absurd (false≢true (sym (f.closed k) ∙ o))) l i)

-- What a call on one record promises, from the number of its refusal and what its step gave: of what it is given, for all inputs; and in any
-- table that shows the record, the answer and the group that is left are what the rules say. Assumes nothing.
use Prim.Native.Nat.{ℕ}
use mathlib.Core.Path.{◌≡◌, refl, sym, ap, ◌∙◌, subst}
use mathlib.Core.Bool.{Bool, true, false, ◌&&◌, not, cond}
use mathlib.Core.List.{List}
use lib.Dec.{eqb}
use lib.ListN.{length}
use borrow.Author.Tests.{eqb-true, eqb-false}
use Rattle.element.specs.Element.{splice, base_of, element_of}
use Rattle.conn_record.specs.declared.Record.{Record}
use Rattle.conn_answer.specs.declared.Outcome.{Outcome}
use Rattle.group_table.specs.declared.Links.{Links}
use Rattle.group_table.specs.declared.Turned.{Turned}
use Rattle.group_table.specs.Table.{sizes_b, slot_b, record_at, open_b, with_record, found_of_all, refused_by, kept_by_of, turned_by, settled_by}
use Rattle.group_table.proofs.Laws.{record_kept, found_sized, found_slot, found_open}
use Rattle.group_rules.specs.Rules.{Group, Request, Call, Turn, Done, group_of, does, turn_of, put_turn, request_turn, refuses, on_does, out_of, record_of_all, element_in, link_of}
use Rattle.group_rules.specs.Promises.{shown_by, keeps_all, shows_turn, active_for, on_record, InTable, Promise}
use Rattle.group_rules.proofs.Memory.{kept_memory}

-- REFUSALS 1 AND 2
two_tests : {A : Type 0} (f : ℕ → A) (x : A) (a b : Bool) (j : ℕ) → j ≡ cond (not a) 1 (cond (not b) 2 0) → (j ≡ 0 → ⊥)
    → cond a (cond b x (f 2)) (f 1) ≡ f j
two_tests f x true true j e h = absurd (h e)
two_tests f x true false j e h = ap f (sym e)
two_tests f x false b j e h = ap f (sym e)

-- OF WHAT IT IS GIVEN: any call on one record, by the number of its refusal; x is the turn, and u the memory that it leaves
pub shown : (ls : Links) (m : List ℕ) (c : Record) (o : Outcome) (j : ℕ) (a : Turned) → a ≡ settled_by j ls c o → (e out l : List ℕ)
    → (x : Turn) (u filled : List ℕ)
    → (j ≡ 0 → (x ≡ turn_of o e out) × (l ≡ u))
    → ((j ≡ 0 → ⊥) → (out ≡ filled) × (l ≡ m))
    → shown_by a out l ≡ cond (eqb j 0) (shows_turn ls u x) (keeps_all ls m c j filled)
unfolding settled_by turned_by turn_of shows_turn refused_by kept_by_of keeps_all
shown ls m c o j a p e out l x u filled yes-then no-then = go (eqb j 0) refl
  where
    go : (z : Bool) → eqb j 0 ≡ z → shown_by a out l ≡ cond z (shows_turn ls u x) (keeps_all ls m c j filled)
    go true h =
        let y = yes-then (eqb-true j 0 h) in
        let r : a ≡ turned_by ls o = p ∙ (simp h) in
        ap (λ (b : Turned). shown_by b out l) r ∙ (λ i. shows_turn ls (y.1 i) (sym y.0 i))
    go false h =
        let y = no-then (eqb-false j 0 h) in
        let r : a ≡ kept_by_of c (refused_by j ls) = p ∙ (simp h) in
        ap (λ (b : Turned). shown_by b out l) r ∙ (λ i. shown_by (kept_by_of c (refused_by j ls)) (y.0 i) (y.1 i))

-- a call on a slot
module _
    (s n : ℕ) (m : List ℕ) (count : ℕ) (ls : Links) (k : ℕ) (q : Request) (c : Record) (j : ℕ)
    (f : j ≡ found_of_all s n (length m) count k c) (active : Bool) (ha : active ≡ active_for ls c) (o : Outcome) (a : Turned)
    (p : a ≡ settled_by j ls c o)
  where
    abbrev turn : Turn
    turn = request_turn n (active_for ls c) c (element_of n k m) q

    pub on_shown : (e out l : List ℕ)
        → (j ≡ 0 → (request_turn n active c (element_of n k m) q ≡ turn_of o e out) × (l ≡ splice m (base_of n k) e))
        → ((j ≡ 0 → ⊥) → (out ≡ out_of q) × (l ≡ m))
        → shown_by a out l ≡ on_record s n m count ls k c q
    unfolding on_record turn_of
    on_shown e out l yes-then no-then =
        shown ls m c o j a p e out l turn (splice m (base_of n k) turn.element) (out_of q)
        (λ z.
        let y = yes-then z in
        let r : turn ≡ turn_of o e out = ap (λ (b : Bool). request_turn n b c (element_of n k m) q) (sym ha) ∙ y.0 in
        (r, y.1 ∙ sym (ap (λ (w : Turn). splice m (base_of n k) w.element) r)))
        no-then
        ∙ ap
        (λ (i : ℕ). cond (eqb i 0) (shows_turn ls (splice m (base_of n k) turn.element) turn) (keeps_all ls m c i (out_of q)))
        f

    -- one that stores and reads no bytes
    pub on_shown_plain : request_turn n active c (element_of n k m) q ≡ turn_of o (element_of n k m) (out_of q)
        → shown_by a (out_of q) m ≡ on_record s n m count ls k c q
    on_shown_plain r =
        on_shown (element_of n k m) (out_of q) m (λ z. (r, sym (kept_memory s n m count k (found_sized s n (length m) count k c j f z) (found_slot s n (length m) count k c j f z)))) (λ h. (refl, refl))

module _ (s n : ℕ) (t : List Record) (ls : Links) (m : List ℕ) where
  abbrev g : Group
  g = group_of s n t ls m

  -- IN A TABLE: what the rules refuse, and what they put back into a slot
  pub refused_in : (call : Call) (out : List ℕ) (k j : ℕ) → does g call ≡ refuses g j out
      → InTable s n m t ls call k (keeps_all ls m (record_at t k) j out)
  unfolding refuses keeps_all
  refused_in call out k j d =
      record {
        answered = sym (ap (λ (w : Done). w.answer) d);
        left = ap (λ (u : List Record). group_of s n u ls m) (record_kept t k) ∙ sym (ap (λ (w : Done). w.group) d);
      }

  pub turned_in : (call : Call) (k : ℕ) (x : Turn) (l : List ℕ) → does g call ≡ put_turn g k x → l ≡ splice m (base_of n k) x.element
      → InTable s n m t ls call k (shows_turn ls l x)
  unfolding put_turn shows_turn
  turned_in call k x l d h =
      record {
        answered = sym (ap (λ (w : Done). w.answer) d);
        left = ap (group_of s n (with_record t k x.after) ls) h ∙ sym (ap (λ (w : Done). w.group) d);
      }

  -- A CALL ON A SLOT
  module _ (k : ℕ) (q : Request) (c : Record) (hc : c ≡ record_at t k) (j : ℕ) (f : j ≡ found_of_all s n (length m) (length t) k c) where
    found_is : j ≡ cond (not (sizes_b s n (length m) (length t))) 1 (cond (not (open_b s t k)) 2 0)
    unfolding found_of_all open_b
    found_is = f ∙ ap (λ (r : Record). cond (not (sizes_b s n (length m) (length t))) 1 (cond (not (slot_b s k && r.id.opened)) 2 0)) hc

    on_refuses : (j ≡ 0 → ⊥) → on_does g k q ≡ refuses g j (out_of q)
    unfolding on_does
    on_refuses h =
        two_tests (λ (i : ℕ). refuses g i (out_of q)) (put_turn g k (request_turn n (link_of g k) (record_of_all g k) (element_in g k) q))
        (sizes_b s n (length m) (length t)) (open_b s t k) j found_is h

    on_does_lem : j ≡ 0 → on_does g k q ≡ put_turn g k (request_turn n (link_of g k) (record_of_all g k) (element_in g k) q)
    unfolding on_does open_b
    on_does_lem z =
        let o : (record_at t k).id.opened ≡ true =
        ap (λ (r : Record). r.id.opened) (sym hc) ∙ found_open s n (length m) (length t) k c j f z in
        simp (found_sized s n (length m) (length t) k c j f z, found_slot s n (length m) (length t) k c j f z, o)

-- in every table that shows the record
module _ (s n : ℕ) (t : List Record) (ls : Links) (m : List ℕ) (k : ℕ) (q : Request) where
  pub on_in_table : (count : ℕ) → length t ≡ count → (c : Record) → c ≡ record_at t k
      → InTable s n m t ls (Call.on k q) k (on_record s n m count ls k c q)
  unfolding on_record
  on_in_table count long c hc =
      subst (InTable s n m t ls (Call.on k q) k) (λ i. on_record s n m (long i) ls k (sym hc i) q)
      (go (eqb j 0) refl)
    where
      j : ℕ
      j = found_of_all s n (length m) (length t) k (record_at t k)

      turn : Turn
      turn = request_turn n (active_for ls (record_at t k)) (record_at t k) (element_of n k m) q

      go : (z : Bool) → eqb j 0 ≡ z
          → InTable s n m t ls (Call.on k q) k
          (cond z (shows_turn ls (splice m (base_of n k) turn.element) turn) (keeps_all ls m (record_at t k) j (out_of q)))
      go true h = turned_in s n t ls m (Call.on k q) k turn _ (on_does_lem s n t ls m k q (record_at t k) refl j refl (eqb-true j 0 h)) refl
      go false h =
          refused_in s n t ls m (Call.on k q) (out_of q) k j (on_refuses s n t ls m k q (record_at t k) refl j refl (eqb-false j 0 h))

  module _ (c : Record) (hc : c ≡ record_at t k) where
    -- what was shown of it, promised
    pub on_promised : (a : Turned) (out l : List ℕ) → shown_by a out l ≡ on_record s n m (length t) ls k c q
        → Promise s n m l t ls (Call.on k q) k a out
    on_promised a out l e = subst (InTable s n m t ls (Call.on k q) k) (sym e) (on_in_table (length t) refl c hc)

    pub on_plain : (j : ℕ) → j ≡ found_of_all s n (length m) (length t) k c → (active : Bool) → active ≡ active_for ls c → (o : Outcome)
        → (a : Turned) → a ≡ settled_by j ls c o → request_turn n active c (element_of n k m) q ≡ turn_of o (element_of n k m) (out_of q)
        → Promise s n m m t ls (Call.on k q) k a (out_of q)
    on_plain j f active ha o a p r =
        on_promised a (out_of q) m (on_shown_plain s n m (length t) ls k q c j f active ha o a p r)

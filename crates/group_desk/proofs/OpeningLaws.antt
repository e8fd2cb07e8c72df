-- Open and free, from what their parts gave: of what they are given; and in any table that shows the record, the answer and the group that
-- is left are what the rules say. Assumes nothing.
use Prim.Native.Nat.{ℕ}
use mathlib.Core.Path.{◌≡◌, refl, sym, ap, ◌∙◌, subst}
use mathlib.Core.Bool.{Bool, true, false, ◌||◌, not, cond}
use mathlib.Core.List.{List, []}
use lib.Dec.{ltb, eqb}
use lib.ListN.{length}
use borrow.Author.Tests.{eqb-true, eqb-false}
use Rattle.element.specs.Element.{base_of, element_of, splice, fresh_element, cleared_of}
use Rattle.conn_record.specs.declared.Record.{Record}
use Rattle.conn_record.specs.declared.Opening.{Opening}
use Rattle.conn_answer.specs.declared.Outcome.{Outcome}
use Rattle.conn_answer.specs.declared.Reply.TheVariants.{Accepted}
use Rattle.conn_record.specs.Connection.{zero_record, opened_record}
use Rattle.conn_answer.specs.Outcome.{outcome_of}
use Rattle.group_table.specs.declared.Links.{Links}
use Rattle.group_table.specs.declared.Turned.{Turned}
use Rattle.group_table.specs.Table.{sizes_b, slot_b, record_at, open_b, link_in, active_b, find_from, holder_in, settled_by}
use Rattle.group_table.proofs.Laws.{sizes_facts, two_passed, open_facts, holder_some}
use Rattle.group_rules.specs.Rules.{Group, Call, Management, Turn, group_of, turn_of, plain_turn, sizes_ok, bad_opening, open_refusal, open_does, free_refusal, free_does}
use Rattle.group_rules.specs.Promises.{Shown, shown_by, keeps_all, shows_turn, open_number, open_record, free_number, free_record, InTable}
use Rattle.group_rules.proofs.Memory.{kept_memory, cleared_memory}
use Rattle.group_rules.proofs.Settled.{shown, refused_in, turned_in}

-- the turn of an accepted call that names nothing and makes no message
plain_turn_lem : (c : Record) (e : List ℕ) → turn_of (outcome_of Accepted false c) e [] ≡ plain_turn c e
unfolding turn_of outcome_of
plain_turn_lem c e = refl

either_false : (a b : Bool) → a || b ≡ false → a ≡ false
either_false true b h = h
either_false false b h = refl

-- OF WHAT THEY ARE GIVEN
module _ (s n : ℕ) (m : List ℕ) (count : ℕ) (ls : Links) (k : ℕ) (c : Record) (o : Outcome) (a : Turned) (j : ℕ) (p : a ≡ settled_by j ls c o) where
  module _ (holder : ℕ) (given : Opening) (f : j ≡ open_number s n (length m) count ls holder k c given)
      (ho : o ≡ outcome_of Accepted false (opened_record given)) where
    sized_slot : j ≡ 0 → (sizes_b s n (length m) count ≡ true) × (slot_b s k ≡ true)
    unfolding open_number
    sized_slot z = two_passed (sizes_b s n (length m) count) (slot_b s k) _ (sym f ∙ z)

    pub open_shown : (l : List ℕ) → (j ≡ 0 → l ≡ cleared_of m (base_of n k) n) → ((j ≡ 0 → ⊥) → l ≡ m)
        → shown_by a [] l ≡ open_record s n m count ls holder k c given
    unfolding open_record
    open_shown l yes-then no-then =
        let x = plain_turn (opened_record given) (fresh_element n) in
        let u = splice m (base_of n k) (fresh_element n) in
        shown ls m c o j a p (fresh_element n) [] l x u []
        (λ z. (
          sym (ap (λ (w : Outcome). turn_of w (fresh_element n) []) ho ∙ plain_turn_lem (opened_record given) (fresh_element n)),
          yes-then z ∙ cleared_memory s n m count k (sized_slot z).0 (sized_slot z).1,
        ))
        (λ h. (refl, no-then h))
        ∙ ap (λ (i : ℕ). cond (eqb i 0) (shows_turn ls u x) (keeps_all ls m c i [])) f

  pub free_shown : j ≡ free_number s n (length m) count k c → o ≡ outcome_of Accepted false zero_record
      → shown_by a [] m ≡ free_record s n m count ls k c
  unfolding free_record
  free_shown f ho =
      let x = plain_turn zero_record (element_of n k m) in
      shown ls m c o j a p (element_of n k m) [] m x m []
      (λ z. (sym (ap (λ (w : Outcome). turn_of w (element_of n k m) []) ho ∙ plain_turn_lem zero_record (element_of n k m)), refl)) (λ h. (refl, refl))
      ∙ ap (λ (i : ℕ). cond (eqb i 0) (shows_turn ls m x) (keeps_all ls m c i [])) f

-- IN A TABLE that shows the record
module _ (s n : ℕ) (t : List Record) (ls : Links) (m : List ℕ) (k : ℕ) where
  abbrev g : Group
  g = group_of s n t ls m

  abbrev rec : Record
  rec = record_at t k

  -- OPEN
  module _ (given : Opening) (holder : ℕ) (hh : holder ≡ holder_in t given.own) where
    abbrev later : ℕ → ℕ
    later i = cond (not (link_in given.link)) 13 (cond (not (active_b ls.active given.link)) 6 (cond (ltb 0 i) 11 0))

    -- the slot found is the rules' holder, where it is asked for
    open_number_lem : open_number s n (length m) (length t) ls holder k rec given ≡ open_refusal g k given
    unfolding open_refusal open_number
    open_number_lem =
        go (sizes_ok g) (bad_opening given) refl refl (later holder) (later (find_from t given.own s))
        (λ y h.
        ap later
        (hh ∙ holder_some t given.own (eqb-false given.own 0 (either_false (eqb given.own 0) _ h))
        ∙ ap (find_from t given.own) (sizes_facts s n (length m) (length t) y).count_is))
      where
        go : (z b : Bool) → sizes_ok g ≡ z → bad_opening given ≡ b → (x y : ℕ) → (sizes_ok g ≡ true → bad_opening given ≡ false → x ≡ y)
            → cond (not (sizes_ok g)) 1 (cond (not (slot_b s k)) 2 (cond rec.id.opened 10 (cond (bad_opening given) 12 x)))
            ≡ cond (not (sizes_ok g)) 1 (cond (not (slot_b s k)) 2 (cond rec.id.opened 10 (cond (bad_opening given) 12 y)))
        go false b d e x y h = rw d
        go true true d e x y h = rw e
        go true false d e x y h =
            ap
            (λ (i : ℕ). cond (not (sizes_ok g)) 1 (cond (not (slot_b s k)) 2 (cond rec.id.opened 10 (cond (bad_opening given) 12 i))))
            (h d e)

    abbrev Opens : Shown → Type 0
    Opens = InTable s n m t ls (Call.manage (Management.open_slot k given)) k

    pub open_in_table : (count : ℕ) → length t ≡ count → (c : Record) → c ≡ rec → Opens (open_record s n m count ls holder k c given)
    unfolding open_record open_does
    open_in_table count long c hc =
        subst Opens (λ i. open_record s n m (long i) ls holder k (sym hc i) given) (go (eqb j 0) refl)
      where
        j : ℕ
        j = open_number s n (length m) (length t) ls holder k rec given

        x : Turn
        x = plain_turn (opened_record given) (fresh_element n)

        go : (z : Bool) → eqb j 0 ≡ z
            → Opens (cond z (shows_turn ls (splice m (base_of n k) (fresh_element n)) x) (keeps_all ls m rec j []))
        go true z =
            turned_in s n t ls m (Call.manage (Management.open_slot k given)) k x _ (simp (← open_number_lem, z)) refl
        go false z =
            refused_in s n t ls m (Call.manage (Management.open_slot k given)) [] k j (simp (← open_number_lem, z))

  -- FREE
  free_number_lem : free_number s n (length m) (length t) k rec ≡ free_refusal g k
  unfolding free_refusal free_number open_b
  free_number_lem = refl

  abbrev Frees : Shown → Type 0
  Frees = InTable s n m t ls (Call.manage (Management.free_slot k)) k

  free_kept : free_refusal g k ≡ 0 → (sizes_ok g ≡ true) × (open_b s t k ≡ true)
  unfolding free_refusal
  free_kept z = two_passed (sizes_ok g) (open_b s t k) _ z

  pub free_in_table : (count : ℕ) → length t ≡ count → (c : Record) → c ≡ rec → Frees (free_record s n m count ls k c)
  unfolding free_record free_does
  free_in_table count long c hc = subst Frees (λ i. free_record s n m (long i) ls k (sym hc i)) (go (eqb j 0) refl)
    where
      j : ℕ
      j = free_number s n (length m) (length t) k rec

      x : Turn
      x = plain_turn zero_record (element_of n k m)

      go : (z : Bool) → eqb j 0 ≡ z → Frees (cond z (shows_turn ls m x) (keeps_all ls m rec j []))
      go true z =
          let f = free_kept (sym free_number_lem ∙ eqb-true j 0 z) in
          turned_in s n t ls m (Call.manage (Management.free_slot k)) k x m (simp (← free_number_lem, z))
          (sym (kept_memory s n m (length t) k f.0 (open_facts s t k f.1).0))
      go false z = refused_in s n t ls m (Call.manage (Management.free_slot k)) [] k j (simp (← free_number_lem, z))

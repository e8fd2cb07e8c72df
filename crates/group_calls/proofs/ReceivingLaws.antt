-- Place and read, from what their parts gave: of what they are given; and in any table that shows the record, the answer and the group that
-- is left are what the rules say. Assumes nothing.
use Prim.Native.Nat.{ℕ, zero, suc, ◌+◌, ◌-◌, ◌*◌, ◌≤◌}
use mathlib.Core.Path.{◌≡◌, refl, sym, ap, ◌∙◌}
use mathlib.Core.Bool.{Bool, true, false, false≢true}
use mathlib.Core.List.{List, []}
use mathlib.Core.Logic.{inl, inr, ⊎_elim}
use native.Mathlib.Omega.{arith}
use lib.ListN.{length}
use borrow.Author.Tests.{eq-eqb, ne_eqb}
use Rattle.element.specs.Element.{splice, base_of, element_of, intact_b, intact_at, stored_of}
use Rattle.element.specs.Element as Element
use Rattle.conn_record.specs.declared.Record.{Record}
use Rattle.conn_answer.specs.declared.Reply.{Reply}
use Rattle.conn_answer.specs.declared.Reply.TheVariants.{Refused, Accepted}
use Rattle.conn_answer.specs.declared.Outcome.{Outcome}
use Rattle.conn_record.specs.Connection.{most_size}
use Rattle.conn_receive.specs.Receive.{place_of, read_of}
use Rattle.conn_receive.proofs.Laws.{place_accepted}
use Rattle.group_table.specs.declared.Links.{Links}
use Rattle.group_table.specs.declared.Turned.{Turned}
use Rattle.group_table.specs.Table.{most_slots, record_at, found_of_all, refused_by, kept_by_of, turned_by, settled_by}
use Rattle.group_table.proofs.Laws.{sizes_facts, found_sized, found_slot}
use Rattle.group_rules.specs.Rules.{Request, Call, turn_of, request_turn, placed_in, read_into}
use Rattle.group_rules.specs.Promises.{shown_by, active_for, on_record, Promise}
use Rattle.group_rules.proofs.Memory.{within_memory, base_most, kept_memory, intact_memory}
use Rattle.group_rules.proofs.Settled.{on_shown, on_promised}
use Rattle.group_calls.specs.Receiving.{stores_b, copied_of}
use Rattle.group_calls.proofs.Bytes.{store_in, stores_is, placed_not, read_none, read_into_lem, readable}

-- what was answered is the step's reply, or a refusal
module _ (j : ℕ) (ls : Links) (c : Record) (o : Outcome) (a : Turned) (p : a ≡ settled_by j ls c o) where
  pub reply_turned : j ≡ 0 → a.answer.reply ≡ o.reply
  unfolding settled_by turned_by
  reply_turned z =
      let e : settled_by j ls c o ≡ turned_by ls o = simp (eq-eqb j 0 z) in ap (λ (x : Turned). x.answer.reply) (p ∙ e)

  pub reply_refused : (j ≡ 0 → ⊥) → a.answer.reply ≡ Refused j
  unfolding settled_by kept_by_of refused_by
  reply_refused h =
      let e : settled_by j ls c o ≡ kept_by_of c (refused_by j ls) = simp (ne_eqb j 0 h) in
      ap (λ (x : Turned). x.answer.reply) (p ∙ e)

  pub stores_found : stores_b a.answer.reply ≡ true → j ≡ 0
  stores_found h = go j refl
    where
      go : (i : ℕ) → j ≡ i → j ≡ 0
      go zero z = z
      go (suc i) z = absurd (false≢true (sym (ap stores_b (reply_refused (λ x. absurd (omega (arith, x, z))))) ∙ h))

-- where a place's bytes go is no large number
pub place_base : (s n : ℕ) (m : List ℕ) (count k : ℕ) (c : Record) (j : ℕ) → j ≡ found_of_all s n (length m) count k c → j ≡ 0
    → base_of n k ≤ (most_slots - 1) * most_size
place_base s n m count k c j f z =
    base_most s n m count k (found_sized s n (length m) count k c j f z) (found_slot s n (length m) count k c j f z)

module _ (s n : ℕ) (m : List ℕ) (count : ℕ) (ls : Links) where
  -- PLACE: the bytes are stored where it is accepted, and nothing else
  module _
      (k at : ℕ) (b : List ℕ) (c : Record) (j : ℕ) (f : j ≡ found_of_all s n (length m) count k c)
      (active : Bool) (ha : active ≡ active_for ls c) (o : Outcome) (ho : o ≡ place_of n active c at (length b))
      (a : Turned) (p : a ≡ settled_by j ls c o)
    where
      abbrev Places : List ℕ → Type 0
      Places l = shown_by a [] l ≡ on_record s n m count ls k c (Request.place at b)

      place_turn : (e : List ℕ) → placed_in o.reply (element_of n k m) at b ≡ e
          → request_turn n active c (element_of n k m) (Request.place at b) ≡ turn_of o e []
      unfolding request_turn
      place_turn e h =
          (λ i. turn_of (sym ho i) (placed_in (sym ho i).reply (element_of n k m) at b) []) ∙ ap (λ (x : List ℕ). turn_of o x []) h

      stored_memory : j ≡ 0 → o.reply ≡ Accepted
          → stored_of m (base_of n k + at) b ≡ splice m (base_of n k) (splice (element_of n k m) at b)
      unfolding element_of
      stored_memory z h =
          let zd = found_sized s n (length m) count k c j f z in
          let y = place_accepted n active c at (length b) (ap (λ (w : Outcome). w.reply) (sym ho) ∙ h) in
          store_in m b (base_of n k) n at (within_memory s n m count k zd (found_slot s n (length m) count k c j f z))
          (sizes_facts s n (length m) count zd).n_most (⊎_elim inl (λ w. inr (w.0, w.1)) y)

      pub place_stores : (l : List ℕ) → stores_b a.answer.reply ≡ true → l ≡ stored_of m (base_of n k + at) b → Places l
      place_stores l h d =
          let z = stores_found j ls c o a p h in
          let y = stores_is o.reply (ap stores_b (sym (reply_turned j ls c o a p z)) ∙ h) in
          on_shown s n m count ls k (Request.place at b) c j f active ha o a p (splice (element_of n k m) at b) [] l
          (λ x. (
            place_turn (splice (element_of n k m) at b) (ap (λ (r : Reply). placed_in r (element_of n k m) at b) y),
            d ∙ stored_memory z y,
          ))
          (λ x. absurd (x z))

      pub place_keeps : (l : List ℕ) → stores_b a.answer.reply ≡ false → l ≡ m → Places l
      place_keeps l h d =
          on_shown s n m count ls k (Request.place at b) c j f active ha o a p (element_of n k m) [] l
          (λ z. (
            place_turn (element_of n k m) (placed_not o.reply (element_of n k m) at b
                (ap stores_b (sym (reply_turned j ls c o a p z)) ∙ h)),
            d ∙ sym (kept_memory s n m count k (found_sized s n (length m) count k c j f z) (found_slot s n (length m) count k c j f z)),
          ))
          (λ x. (refl, d))

  -- READ: the unread bytes are copied to out where they are read; else it is as it was
  module _
      (k : ℕ) (out : List ℕ) (c : Record) (j : ℕ) (f : j ≡ found_of_all s n (length m) count k c)
      (active : Bool) (ha : active ≡ active_for ls c) (whole : Bool) (hw : whole ≡ intact_at m (base_of n k))
      (o : Outcome) (ho : o ≡ read_of n active c whole (length out))
    where
      read_out : j ≡ 0 → Element.read_of m (base_of n k) n c.inbound.consumer.offset (copied_of o.reply) out
          ≡ read_into o.reply c.inbound.consumer (element_of n k m) out
      unfolding element_of
      read_out z =
          let zd = found_sized s n (length m) count k c j f z in
          let y = sizes_facts s n (length m) count zd in
          read_into_lem o.reply c.inbound.consumer m (base_of n k) n out
          (λ i e.
          readable m (base_of n k) n active c whole out i
          (within_memory s n m count k zd (found_slot s n (length m) count k c j f z))
          y.n_least y.n_most (ap (λ (w : Outcome). w.reply) (sym ho) ∙ e))

      whole_is : j ≡ 0 → whole ≡ intact_b (element_of n k m)
      whole_is z =
          hw
          ∙ intact_memory s n m count k (found_sized s n (length m) count k c j f z) (found_slot s n (length m) count k c j f z)

      read_turn : j ≡ 0
          → request_turn n active c (element_of n k m) (Request.read out)
          ≡ turn_of o (element_of n k m) (read_into o.reply c.inbound.consumer (element_of n k m) out)
      unfolding request_turn
      read_turn z =
          let y : read_of n active c (intact_b (element_of n k m)) (length out) ≡ o =
          sym (ho ∙ ap (λ (w : Bool). read_of n active c w (length out)) (whole_is z)) in
          λ i. turn_of (y i) (element_of n k m) (read_into (y i).reply c.inbound.consumer (element_of n k m) out)

      pub reads : (a : Turned) → a ≡ settled_by j ls c o → (i : ℕ) → i ≡ copied_of a.answer.reply → (l : List ℕ)
          → l ≡ Element.read_of m (base_of n k) n c.inbound.consumer.offset i out
          → shown_by a l m ≡ on_record s n m count ls k c (Request.read out)
      reads a p i hi l hl =
          on_shown s n m count ls k (Request.read out) c j f active ha o a p (element_of n k m) l m
          (λ z. (
            read_turn z ∙ ap (turn_of o (element_of n k m)) (sym (hl ∙ copied (hi ∙ ap copied_of (reply_turned j ls c o a p z)) ∙ read_out z)),
            sym (kept_memory s n m count k (found_sized s n (length m) count k c j f z) (found_slot s n (length m) count k c j f z)),
          ))
          (λ h. (hl ∙ copied (hi ∙ ap copied_of (reply_refused j ls c o a p h)) ∙ read_none m (base_of n k) n c.inbound.consumer.offset out, refl))
        where
          copied : {x : ℕ} → i ≡ x
              → Element.read_of m (base_of n k) n c.inbound.consumer.offset i out
              ≡ Element.read_of m (base_of n k) n c.inbound.consumer.offset x out
          copied e = ap (λ (y : ℕ). Element.read_of m (base_of n k) n c.inbound.consumer.offset y out) e

-- IN A TABLE that shows the record
module _ (s n : ℕ) (t : List Record) (ls : Links) (m : List ℕ) where
  module _
      (k at : ℕ) (b : List ℕ) (c : Record) (hc : c ≡ record_at t k) (j : ℕ) (f : j ≡ found_of_all s n (length m) (length t) k c)
      (active : Bool) (ha : active ≡ active_for ls c) (o : Outcome) (ho : o ≡ place_of n active c at (length b))
      (a : Turned) (p : a ≡ settled_by j ls c o) (l : List ℕ)
    where
      abbrev Placed : Type 0
      Placed = Promise s n m l t ls (Call.on k (Request.place at b)) k a []

      pub place_stored : stores_b a.answer.reply ≡ true → l ≡ stored_of m (base_of n k + at) b → Placed
      place_stored h d =
          on_promised s n t ls m k (Request.place at b) c hc a [] l
          (place_stores s n m (length t) ls k at b c j f active ha o ho a p l h d)

      pub place_kept : stores_b a.answer.reply ≡ false → l ≡ m → Placed
      place_kept h d =
          on_promised s n t ls m k (Request.place at b) c hc a [] l
          (place_keeps s n m (length t) ls k at b c j f active ha o ho a p l h d)

  pub read_did : (k : ℕ) (out : List ℕ) (c : Record) → c ≡ record_at t k → (j : ℕ) → j ≡ found_of_all s n (length m) (length t) k c
      → (active : Bool) → active ≡ active_for ls c → (whole : Bool) → whole ≡ intact_at m (base_of n k)
      → (o : Outcome) → o ≡ read_of n active c whole (length out)
      → (a : Turned) → a ≡ settled_by j ls c o → (i : ℕ) → i ≡ copied_of a.answer.reply → (l : List ℕ)
      → l ≡ Element.read_of m (base_of n k) n c.inbound.consumer.offset i out
      → Promise s n m m t ls (Call.on k (Request.read out)) k a l
  read_did k out c hc j f active ha whole hw o ho a p i hi l hl =
      on_promised s n t ls m k (Request.read out) c hc a l m
      (reads s n m (length t) ls k out c j f active ha whole hw o ho a p i hi l hl)

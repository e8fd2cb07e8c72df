-- Laws of place and read: what their functions' parts come to, what the calls keep of a record, what a place that is accepted shows, and
-- what a read takes.
-- Assumes nothing.
use mathlib.Core.Path.{◌≡◌, refl, sym, ap, ◌∙◌}
use mathlib.Core.Bool.{Bool, true, false, ◌&&◌, ◌||◌, cond}
use mathlib.Core.Logic.{◌⊎◌, inl, inr}
use Prim.Native.Nat.{ℕ, ◌+◌, ◌-◌, ◌≤◌, ◌<◌}
use native.Mathlib.Omega.{arith}
use lib.Dec.{leb, eqb}
use borrow.Author.Rules.{rules}
use borrow.Author.Tests.{leb-true, eqb-true, eq-eqb, ne_eqb, le-leb, lt-leb}
use Rattle.cursor.specs.Cursor.{good_b, gap_of, step_of}
use Rattle.cursor.proofs.Laws.{good_most, step_range, step_gap, gap_self, gap_rest}
use Rattle.closing.specs.Closing.{abort_sent}
use Rattle.flow.specs.Flow.{taken_of, window_of}
use Rattle.flow.proofs.Laws.{taken_most, taken_len}
use Rattle.element.specs.Element.{in_data, all_free}
use Rattle.conn_record.specs.declared.Inbound.{Inbound}
use Rattle.conn_record.specs.declared.Record.{Record}
use Rattle.conn_answer.specs.declared.Reply.TheVariants.{Accepted, Read, Torn}
use Rattle.conn_answer.specs.declared.Outcome.{Outcome}
use Rattle.conn_record.specs.Connection.{coherent_b, refusal_of, marks_to}
use Rattle.conn_answer.specs.Outcome.{refused_of, outcome_of}
use Rattle.conn_record.proofs.Laws.{Coherent, and_left, and_right, coherent_facts, coherent_from, place_passed, refusal_none, marks_coherent}
use Rattle.conn_answer.proofs.Laws.{refused_reply, refused_after, outcome_reply, outcome_after, outcome_id, outcome_p, outcome_c, outcome_coherent}
use Rattle.conn_receive.specs.Receive.{place_forbids, may_place, place_of, read_forbids, unread_of, consumed_in, cleared_in, consumed_of, update_of, torn_of, take_of, read_of}

-- what may be placed, by the code's tests
module _ (n : ℕ) (i : Inbound) (at k : ℕ) where
  pub may_none : k ≡ 0 → true ≡ may_place n i at k
  unfolding may_place
  may_none e = simp (eq-eqb k 0 e)

  pub may_before : (k ≡ 0 → ⊥) → at < 4 → false ≡ may_place n i at k
  unfolding may_place
  may_before e l = simp (ne_eqb k 0 e, lt-leb 4 at l)

  pub may_past : (k ≡ 0 → ⊥) → 4 ≤ at → n < at + k → false ≡ may_place n i at k
  unfolding may_place
  may_past e l h = simp (ne_eqb k 0 e, le-leb 4 at l, lt-leb (at + k) n h)

  pub may_free : (d w : ℕ) (r : Bool) → (k ≡ 0 → ⊥) → 4 ≤ at → at + k ≤ n → d ≡ n - 4 → w ≡ window_of n i.told i.producer
      → r ≡ all_free d i.producer.offset w at k → r ≡ may_place n i at k
  unfolding may_place
  may_free d w r e l h hd hw hr = simp (hr, hw, hd, ne_eqb k 0 e, le-leb 4 at l, le-leb (at + k) n h)

-- no bytes; or all lie in the data and are free, by what the peer was told
abbrev pub Placeable : ℕ → Inbound → ℕ → ℕ → Type 0
Placeable n i at k =
    (k ≡ 0)
    ⊎ ((4 ≤ at)
    × (at + k ≤ n)
    × (all_free (n - 4) i.producer.offset (window_of n i.told i.producer) at k ≡ true))

pub may_all : (n : ℕ) (i : Inbound) (at k : ℕ) → may_place n i at k ≡ true → Placeable n i at k
unfolding may_place
may_all n i at k e = go (eqb k 0) refl e
  where
    free : Bool
    free = all_free (n - 4) i.producer.offset (window_of n i.told i.producer) at k

    go : (z : Bool) → eqb k 0 ≡ z → z || (in_data n at k && free) ≡ true → (k ≡ 0) ⊎ ((4 ≤ at) × (at + k ≤ n) × (free ≡ true))
    go true q h = inl (eqb-true k 0 q)
    go false q h =
        let d = and_left (in_data n at k) free h in
        let low = leb-true 4 at (and_left (leb 4 at) (leb (at + k) n) d) in
        let high = leb-true (at + k) n (and_right (leb 4 at) (leb (at + k) n) d) in
        inr (low, high, and_right (in_data n at k) free h)

-- the distance C to P, by the code's calls
pub unread_is : (n : ℕ) (i : Inbound) (d g : ℕ) → d ≡ n - 4 → g ≡ gap_of d i.consumer i.producer → g ≡ unread_of n i
unfolding unread_of
unread_is n i d g hd hg = simp (hg, hd)

-- and of a record that is not refused it is at most D
pub unread_most : (n : ℕ) (active : Bool) (rec : Record) (forbids : Bool) → refusal_of n active rec forbids ≡ 0
    → unread_of n rec.inbound ≤ n - 4
unfolding unread_of
unread_most n active rec forbids e =
    good_most (n - 4) rec.inbound.consumer rec.inbound.producer
    (coherent_facts n rec (refusal_none n active rec forbids e).0).cp_good

-- an accepted read of an intact element, put together
pub take_parts : (n : ℕ) (rec : Record) (room u k : ℕ) (moved : Inbound) (tells : Bool) (next : Record) (o : Outcome) → u ≡ unread_of n rec.inbound
    → k ≡ taken_of u room → moved ≡ consumed_in n rec.inbound k → tells ≡ update_of n moved k → next ≡ consumed_of n rec k → o ≡ outcome_of (Read k) tells next
    → o ≡ take_of n rec room
unfolding take_of
take_parts n rec room u k moved tells next o hu hk hm ht hx ho = simp (ho, hx, ht, hm, hk, hu)

-- what holds of both outcomes of a test holds of the one it picks
pick : (P : Outcome → Type 0) (b : Bool) (x y : Outcome) → (b ≡ true → P x) → (b ≡ false → P y) → P (cond b x y)
pick P true x y f g = f refl
pick P false x y f g = g refl

-- the tests of place, walked once
module _ (n : ℕ) (active : Bool) (rec : Record) (at k : ℕ) where
  pub place_cases : (P : Outcome → Type 0) → ((j : ℕ) → P (refused_of j rec))
      → (may_place n rec.inbound at k ≡ true → P (outcome_of Accepted false rec)) → P (place_of n active rec at k)
  unfolding place_of
  place_cases P refused accepted =
      let no = refusal_of n active rec (place_forbids rec.marks) in
      pick P (eqb no 0) _ _ (λ e. pick P (may_place n rec.inbound at k) _ _ accepted (λ m. refused 9)) (λ e. refused no)

  -- place leaves the record as it is
  pub place_keeps : (place_of n active rec at k).after ≡ rec
  place_keeps = place_cases (λ o. o.after ≡ rec) (λ j. refused_after j rec) (λ m. outcome_after Accepted false rec)

  pub place_keeps_id : (place_of n active rec at k).after.id ≡ rec.id
  place_keeps_id = ap (λ (w : Record). w.id) place_keeps

  pub place_coherent : coherent_b n rec ≡ true → coherent_b n (place_of n active rec at k).after ≡ true
  place_coherent e = rw place_keeps e

  -- where it accepts, it may place
  pub place_accepted : (place_of n active rec at k).reply ≡ Accepted → Placeable n rec.inbound at k
  place_accepted =
      place_cases (λ o. o.reply ≡ Accepted → Placeable n rec.inbound at k)
      (λ j r. let bad : ◌≡◌ {A = ℕ} 0 1 = cc (refused_reply j rec) in absurd (omega arith))
      (λ m r. may_all n rec.inbound at k m)

-- the distance C to P
abbrev pub gap_cp : ℕ → Record → ℕ
gap_cp n rec = gap_of (n - 4) rec.inbound.consumer rec.inbound.producer

-- C moved by k, at most the distance C to P
module _ (n : ℕ) (rec : Record) (k : ℕ) (f : Coherent n rec) (h : k ≤ gap_cp n rec) where
  consumed-tc :
      (good_b (n - 4) rec.inbound.told (step_of n rec.inbound.consumer k) ≡ true)
      × (gap_of (n - 4) rec.inbound.told (step_of n rec.inbound.consumer k)
      ≡ gap_of (n - 4) rec.inbound.told rec.inbound.consumer + k)
  consumed-tc =
      let i = rec.inbound in
      let sum = f.sum in
      step_gap n i.told i.consumer k f.t_range f.c_range f.tc_good (omega arith)

  pub consumed-cp :
      (good_b (n - 4) (step_of n rec.inbound.consumer k) rec.inbound.producer ≡ true)
      × (gap_of (n - 4) (step_of n rec.inbound.consumer k) rec.inbound.producer + k ≡ gap_cp n rec)
  consumed-cp =
      let i = rec.inbound in
      let most = good_most (n - 4) i.consumer i.producer f.cp_good in
      let self = gap_self (n - 4) i.consumer in
      let moved = step_gap n i.consumer i.consumer k f.c_range f.c_range self.0 (omega arith) in
      let rest =
      gap_rest n i.consumer (step_of n i.consumer k) i.producer f.c_range
      (step_range n i.consumer k f.c_range) f.p_range moved.0 f.cp_good (omega arith) in
      (rest.0, omega arith)

  consumed_facts : Coherent n (consumed_of n rec k)
  unfolding consumed_of consumed_in cleared_in
  consumed_facts =
      let tc = consumed-tc in
      let cp = consumed-cp in
      let i = rec.inbound in
      let r = step_range n i.consumer k f.c_range in
      let stands =
      place_passed n i.consumer (step_of n i.consumer k) i.producer i.urgent f.c_range r f.p_range f.cp_good cp.0
      f.at_their_place
      in
      search rules

-- how many bytes a read takes
abbrev pub taking : ℕ → Record → ℕ → ℕ
taking n rec room = taken_of (unread_of n rec.inbound) room

module _ (n : ℕ) (rec : Record) (room : ℕ) where
  pub taking_most : (taking n rec room ≤ gap_cp n rec) × (taking n rec room ≤ room)
  unfolding unread_of
  taking_most = (taken_most (gap_cp n rec) room, taken_len (gap_cp n rec) room)

  abbrev pub left : Record
  left = consumed_of n rec (taking n rec room)

  abbrev pub tells : Bool
  tells = update_of n (consumed_in n rec.inbound (taking n rec room)) (taking n rec room)

  pub take_is : take_of n rec room ≡ outcome_of (Read (taking n rec room)) tells left
  unfolding take_of
  take_is = refl

  take_reply : (take_of n rec room).reply ≡ Read (taking n rec room)
  take_reply = ap (λ (o : Outcome). o.reply) take_is ∙ outcome_reply (Read (taking n rec room)) tells left

  take_id : (take_of n rec room).after.id ≡ rec.id
  unfolding consumed_of
  take_id = ap (λ (o : Outcome). o.after.id) take_is ∙ outcome_id (Read (taking n rec room)) tells left

  take_coherent : coherent_b n rec ≡ true → coherent_b n (take_of n rec room).after ≡ true
  take_coherent e =
      let kept = coherent_from n left (consumed_facts n rec (taking n rec room) (coherent_facts n rec e) taking_most.0) in
      rw take_is (outcome_coherent n left (Read (taking n rec room)) tells kept)

  take_gap : Coherent n rec → gap_cp n (take_of n rec room).after + taking n rec room ≡ gap_cp n rec
  unfolding consumed_of consumed_in cleared_in
  take_gap f =
      let answer = Read (taking n rec room) in
      let same : gap_cp n (outcome_of answer tells left).after ≡ gap_cp n left = simp (outcome_c answer tells left, outcome_p answer tells left) in
      let to = (consumed-cp n rec (taking n rec room) f taking_most.0).1 in
      omega (arith, ap (λ (o : Outcome). gap_cp n o.after) take_is)

-- a damaged element
module _ (rec : Record) where
  torn_reply : (torn_of rec).reply ≡ Torn
  unfolding torn_of
  torn_reply = outcome_reply Torn true (marks_to rec (abort_sent rec.marks))

  torn_id : (torn_of rec).after.id ≡ rec.id
  unfolding torn_of marks_to
  torn_id = outcome_id Torn true (marks_to rec (abort_sent rec.marks))

  torn_coherent : (n : ℕ) → coherent_b n rec ≡ true → coherent_b n (torn_of rec).after ≡ true
  unfolding torn_of abort_sent
  torn_coherent n e =
      let m = abort_sent rec.marks in
      outcome_coherent n (marks_to rec m) Torn true (marks_coherent n rec m e (coherent_facts n rec e).not_both)

module _ (n : ℕ) (active : Bool) (rec : Record) (intact : Bool) (room : ℕ) where
  -- the tests of read, walked once
  pub read_cases : (P : Outcome → Type 0) → ((j : ℕ) → P (refused_of j rec)) → (intact ≡ false → P (torn_of rec))
      → (coherent_b n rec ≡ true → P (take_of n rec room)) → P (read_of n active rec intact room)
  unfolding read_of
  read_cases P refused torn taken =
      let no = refusal_of n active rec (read_forbids rec.marks) in
      pick P (eqb no 0) _ _
      (λ e. pick P intact _ _ (λ i. taken (refusal_none n active rec (read_forbids rec.marks) (eqb-true no 0 e)).0) torn)
      (λ e. refused no)

  -- read leaves the record coherent
  pub read_coherent : coherent_b n rec ≡ true → coherent_b n (read_of n active rec intact room).after ≡ true
  read_coherent e =
      read_cases (λ o. coherent_b n o.after ≡ true)
      (λ j. rw (refused_after j rec) e)
      (λ i. torn_coherent rec n e)
      (take_coherent n rec room)

  -- and keeps its identity
  pub read_keeps_id : (read_of n active rec intact room).after.id ≡ rec.id
  read_keeps_id =
      read_cases (λ o. o.after.id ≡ rec.id)
      (λ j. ap (λ (w : Record). w.id) (refused_after j rec))
      (λ i. torn_id rec)
      (λ e. take_id n rec room)

  -- whatever k a read names: it is at most what is unread and at most the room in out, and the distance C to P is k less
  module _ (k : ℕ) (e : (read_of n active rec intact room).reply ≡ Read k) where
    not_refused : {A : Type 0} (j : ℕ) → (refused_of j rec).reply ≡ Read k → A
    not_refused j r = let bad : ◌≡◌ {A = ℕ} 0 1 = cc (refused_reply j rec) in absurd (omega arith)

    not_torn : {A : Type 0} → intact ≡ false → (torn_of rec).reply ≡ Read k → A
    not_torn i r = let bad : ◌≡◌ {A = ℕ} 0 1 = cc (torn_reply rec) in absurd (omega arith)

    taking_is : (take_of n rec room).reply ≡ Read k → taking n rec room ≡ k
    taking_is r = let s : Read (taking n rec room) ≡ Read k = sym (take_reply n rec room) ∙ r in cc

    pub read_most : (k ≤ unread_of n rec.inbound) × (k ≤ room)
    unfolding unread_of
    read_most =
        read_cases (λ o. o.reply ≡ Read k → (k ≤ gap_cp n rec) × (k ≤ room)) not_refused not_torn
        (λ g r. rw (← (taking_is r)) (taking_most n rec room))
        e

    pub read_less : gap_cp n (read_of n active rec intact room).after + k ≡ gap_cp n rec
    read_less =
        read_cases (λ o. o.reply ≡ Read k → gap_cp n o.after + k ≡ gap_cp n rec) (λ j r. not_refused j r) not_torn
        (λ g r. rw (← (taking_is r)) (take_gap n rec room (coherent_facts n rec g)))
        e

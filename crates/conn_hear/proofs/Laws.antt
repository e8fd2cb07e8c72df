-- What hear keeps and what its answer names: the record stays coherent or is closed, its identity stays, and the number in the answer is
-- how far P moved. Assumes nothing.
use mathlib.Core.Path.{◌≡◌, refl, ap, subst⁻¹, ◌∙◌}
use mathlib.Core.Bool.{Bool, true, false, ◌&&◌, cond}
use mathlib.Core.Logic.{◌⊎◌, inl, inr}
use Prim.Native.Nat.{ℕ, ◌-◌}
use native.Mathlib.Omega.{arith}
use lib.Dec.{eqb}
use Rattle.cursor.specs.Cursor.{gap_of}
use Rattle.cdc.specs.declared.Message.{Message}
use Rattle.closing.specs.declared.State.TheVariants.{PeerAbortWait}
use Rattle.closing.specs.Closing.{state_of, abort_sent}
use Rattle.conn_record.specs.declared.Record.{Record}
use Rattle.conn_record.specs.Connection.{zero_record, coherent_b, refusal_of, marks_to}
use Rattle.conn_record.proofs.Laws.{and_left, and_right, Coherent, coherent_facts, coherent_from, refusal_0, marks_coherent}
use Rattle.conn_answer.specs.declared.Reply.{Reply}
use Rattle.conn_answer.specs.declared.Reply.TheVariants.{Heard}
use Rattle.conn_answer.specs.declared.Outcome.{Outcome}
use Rattle.conn_answer.specs.Outcome.{outcome_of, refused_of, closed_if}
use Rattle.conn_answer.proofs.Laws.{outcome_reply, outcome_id, outcome_coherent, refused_after, closed_reply, closed_after, closed_not}
use Rattle.conn_hear.specs.Heard.{producer_b, consumer_b, heard_record, answers_b, next_b}
use Rattle.conn_hear.proofs.HeardLaws.{Produces, Consumes, producer_rules, consumer_rules, hear_moved, heard_facts, heard_id}
use Rattle.conn_hear.specs.Hear.{aborted_of, accepted_of, ruled_of, validated_of, followed_of, hear_of}

both_rules : (n : ℕ) (rec : Record) (m : Message) → producer_b n rec m.producer && consumer_b rec m.consumer ≡ true
    → Produces n rec m.producer × Consumes rec m.consumer
both_rules n rec m e =
    let p = producer_b n rec m.producer in
    let r = consumer_b rec m.consumer in
    (producer_rules n rec m.producer (and_left p r e), consumer_rules rec m.consumer (and_right p r e))

pub aborted_shut : (rec : Record) → (aborted_of rec).after ≡ zero_record
unfolding aborted_of
aborted_shut rec = closed_after true _

-- an accepted message: whether C is then heard and sent, what the answer names, and the outcome before the slot may be closed
abbrev pub shut_by : ℕ → Record → Message → Bool
shut_by n rec m = (heard_record n rec m).marks.heard.closed && (heard_record n rec m).marks.sent.closed

abbrev pub replied_to : ℕ → Record → Message → Reply
replied_to n rec m = Heard (gap_of (n - 4) rec.inbound.producer m.producer) (state_of (heard_record n rec m).marks)

abbrev pub heard_outcome : ℕ → Record → Message → Outcome
heard_outcome n rec m = outcome_of (replied_to n rec m) (answers_b n rec.inbound m) (heard_record n rec m)

module _ (n : ℕ) (rec : Record) (m : Message) where
  pub accepted_is : accepted_of n rec m ≡ closed_if (shut_by n rec m) (heard_outcome n rec m)
  unfolding accepted_of
  accepted_is = refl

  pub accepted_reply : (accepted_of n rec m).reply ≡ replied_to n rec m
  accepted_reply =
      ap (λ (o : Outcome). o.reply) accepted_is
      ∙ closed_reply (shut_by n rec m) (heard_outcome n rec m)
      ∙ outcome_reply (replied_to n rec m) (answers_b n rec.inbound m) (heard_record n rec m)

  pub accepted_shut : shut_by n rec m ≡ true → (accepted_of n rec m).after ≡ zero_record
  accepted_shut e =
      ap (λ (o : Outcome). o.after) accepted_is
      ∙ closed_after (shut_by n rec m) (heard_outcome n rec m)
      ∙ ap (λ (s : Bool). cond s zero_record (heard_outcome n rec m).after) e

  pub accepted_open : shut_by n rec m ≡ false → accepted_of n rec m ≡ heard_outcome n rec m
  accepted_open e = accepted_is ∙ ap (λ (s : Bool). closed_if s (heard_outcome n rec m)) e ∙ closed_not (heard_outcome n rec m)

  -- it leaves the slot closed, or what holds of the outcome before
  accepted_left : (P : Record → Type 0) → (shut_by n rec m ≡ false → P (heard_outcome n rec m).after)
      → ((accepted_of n rec m).after ≡ zero_record) ⊎ P (accepted_of n rec m).after
  accepted_left P h = go (shut_by n rec m) refl
    where
      go : (s : Bool) → shut_by n rec m ≡ s → ((accepted_of n rec m).after ≡ zero_record) ⊎ P (accepted_of n rec m).after
      go true e = inl (accepted_shut e)
      go false e = inr (subst⁻¹ (λ (o : Outcome). P o.after) (accepted_open e) (h e))

  pub accepted_id : ((accepted_of n rec m).after ≡ zero_record) ⊎ ((accepted_of n rec m).after.id ≡ rec.id)
  accepted_id =
      let kept = outcome_id (replied_to n rec m) (answers_b n rec.inbound m) (heard_record n rec m) in
      accepted_left (λ w. w.id ≡ rec.id) (λ s. kept ∙ heard_id n rec m)

  pub accepted_coherent : Coherent n rec → Produces n rec m.producer → Consumes rec m.consumer
      → ((accepted_of n rec m).after ≡ zero_record) ⊎ (coherent_b n (accepted_of n rec m).after ≡ true)
  accepted_coherent f k r =
      let kept = outcome_coherent n (heard_record n rec m) (replied_to n rec m) (answers_b n rec.inbound m) in
      accepted_left (λ w. coherent_b n w ≡ true) (λ s. kept (coherent_from n (heard_record n rec m) (heard_facts n rec m f k r s)))

-- the tests of hear, walked once: what holds of each outcome that they lead to holds of hear's
module _ (n : ℕ) (active : Bool) (rec : Record) (m : Message) (P : Outcome → Type 0) where
  pick : (b : Bool) (x y : Outcome) → (b ≡ true → P x) → P y → P (cond b x y)
  pick true x y f g = f refl
  pick false x y f g = g

  pub hear_cases : ((k : ℕ) → P (refused_of k rec)) → P (aborted_of rec) → P (outcome_of (Heard 0 PeerAbortWait) false rec)
      → P (outcome_of (Heard 0 (state_of rec.marks)) false rec) → P (outcome_of (Heard 0 PeerAbortWait) true (marks_to rec (abort_sent rec.marks)))
      → (Produces n rec m.producer → Consumes rec m.consumer → P (accepted_of n rec m)) → P (hear_of n active rec m)
  unfolding hear_of followed_of validated_of ruled_of
  hear_cases refused aborted waiting agrees differs accepted =
      let ok = producer_b n rec m.producer && consumer_b rec m.consumer in
      let ruled = pick ok _ _ (λ e. let h = both_rules n rec m e in accepted h.0 h.1) (refused 8) in
      let next = pick (next_b rec m) _ _ (λ e. ruled) (refused 16) in
      let validated = pick (eqb m.sequence rec.inbound.last) _ _ (λ e. agrees) differs in
      let told = pick m.flags.failover _ _ (λ e. validated) next in
      let followed = pick rec.marks.abort _ _ (λ e. waiting) told in
      let answered = pick m.flags.abort _ _ (λ e. aborted) followed in
      pick (eqb (refusal_of n active rec false) 0) _ _ (λ e. answered) (refused (refusal_of n active rec false))

-- the abort mark changes neither coherence nor who the connection is
abort_coherent : (n : ℕ) (rec : Record) → coherent_b n rec ≡ true → coherent_b n (marks_to rec (abort_sent rec.marks)) ≡ true
unfolding abort_sent
abort_coherent n rec e = marks_coherent n rec (abort_sent rec.marks) e (coherent_facts n rec e).not_both

abort_id : (rec : Record) → (marks_to rec (abort_sent rec.marks)).id ≡ rec.id
unfolding marks_to
abort_id rec = refl

-- hear leaves the slot closed, or its record coherent
pub hear_coherent : (n : ℕ) (active : Bool) (rec : Record) (m : Message) → coherent_b n rec ≡ true
    → ((hear_of n active rec m).after ≡ zero_record) ⊎ (coherent_b n (hear_of n active rec m).after ≡ true)
hear_coherent n active rec m e =
    hear_cases n active rec m (λ o. (o.after ≡ zero_record) ⊎ (coherent_b n o.after ≡ true))
    (λ k. inr (rw (refused_after k rec) e))
    (inl (aborted_shut rec))
    (inr (outcome_coherent n rec (Heard 0 PeerAbortWait) false e))
    (inr (outcome_coherent n rec (Heard 0 (state_of rec.marks)) false e))
    (inr (outcome_coherent n (marks_to rec (abort_sent rec.marks)) (Heard 0 PeerAbortWait) true (abort_coherent n rec e)))
    (accepted_coherent n rec m (coherent_facts n rec e))

-- and a slot that it leaves open keeps its identity
pub hear_keeps_id : (n : ℕ) (active : Bool) (rec : Record) (m : Message)
    → ((hear_of n active rec m).after ≡ zero_record) ⊎ ((hear_of n active rec m).after.id ≡ rec.id)
hear_keeps_id n active rec m =
    hear_cases n active rec m (λ o. (o.after ≡ zero_record) ⊎ (o.after.id ≡ rec.id))
    (λ k. inr (ap (λ (w : Record). w.id) (refused_after k rec)))
    (inl (aborted_shut rec))
    (inr (outcome_id (Heard 0 PeerAbortWait) false rec))
    (inr (outcome_id (Heard 0 (state_of rec.marks)) false rec))
    (inr (outcome_id (Heard 0 PeerAbortWait) true (marks_to rec (abort_sent rec.marks)) ∙ abort_id rec))
    (λ k r. accepted_id n rec m)

-- hear accepts a message without A whose cursors keep the rules, and the answer names how much further P is from T
module _ (n : ℕ) (active : Bool) (rec : Record) (m : Message) (k : coherent_b n rec ≡ true) (up : active ≡ true)
    (a : m.flags.abort ≡ false) (b : rec.marks.abort ≡ false) (f : m.flags.failover ≡ false) (s : next_b rec m ≡ true) (p : producer_b n rec m.producer ≡ true)
    (r : consumer_b rec m.consumer ≡ true) where
  pub hear_accepts : hear_of n active rec m ≡ accepted_of n rec m
  unfolding hear_of followed_of ruled_of
  hear_accepts = simp (refusal_0 n active rec false k up refl, a, b, f, s, p, r)

  pub hear-names :
      (hear_of n active rec m).reply
      ≡ Heard (gap_of (n - 4) rec.inbound.told m.producer - gap_of (n - 4) rec.inbound.told rec.inbound.producer)
      (state_of (heard_record n rec m).marks)
  hear-names =
      let moved = hear_moved n rec m.producer (coherent_facts n rec k) p in
      ap (λ (o : Outcome). o.reply) hear_accepts
      ∙ accepted_reply n rec m
      ∙ ap (λ (x : ℕ). Heard x (state_of (heard_record n rec m).marks)) (omega (arith, moved))

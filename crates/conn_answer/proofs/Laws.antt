-- Laws of an outcome: what making a message keeps, what a refusal and a closed slot leave.
-- Assumes nothing.
use mathlib.Core.Path.{◌≡◌, refl}
use mathlib.Core.Bool.{Bool, true, false, cond}
use Prim.Native.Nat.{ℕ, ◌-◌}
use borrow.Author.Rules.{rules}
use Rattle.cursor.proofs.Laws.{gap_self, good_most}
use Rattle.cdc.specs.declared.Message.{Message}
use Rattle.cdc.specs.Cdc.{encode_of}
use Rattle.conn_record.specs.declared.Record.{Record}
use Rattle.conn_record.specs.Connection.{coherent_b, zero_record}
use Rattle.conn_record.proofs.Laws.{Coherent, coherent_facts, coherent_from}
use Rattle.conn_answer.specs.declared.Reply.{Reply}
use Rattle.conn_answer.specs.declared.Reply.TheVariants.{Refused}
use Rattle.conn_answer.specs.declared.Outcome.{Outcome}
use Rattle.conn_answer.specs.Outcome.{message_of, no_message, sequence_after, told_in, used_in, told_of, outcome_of, urgent_outcome, refused_of, closed_if}

-- after a message is made T is C
module _ (reply : Reply) (rec : Record) where
  pub told_is : (outcome_of reply true rec).after.inbound.told ≡ (outcome_of reply true rec).after.inbound.consumer
  unfolding outcome_of told_of told_in
  told_is = refl

module _ (reply : Reply) (tells : Bool) (rec : Record) where
  pub outcome_reply : (outcome_of reply tells rec).reply ≡ reply
  unfolding outcome_of
  outcome_reply = elim tells as (λ (z : Bool). (outcome_of reply z rec).reply ≡ reply) [ true ↦ refl | false ↦ refl ]

  pub outcome_made : (outcome_of reply tells rec).made ≡ tells
  unfolding outcome_of
  outcome_made = elim tells as (λ (z : Bool). (outcome_of reply z rec).made ≡ z) [ true ↦ refl | false ↦ refl ]

  pub outcome_after : (outcome_of reply tells rec).after ≡ cond tells (told_of rec) rec
  unfolding outcome_of
  outcome_after = elim tells as (λ (z : Bool). (outcome_of reply z rec).after ≡ cond z (told_of rec) rec) [ true ↦ refl | false ↦ refl ]

  pub outcome_message : (outcome_of reply tells rec).message ≡ cond tells (encode_of (message_of rec)) no_message
  unfolding outcome_of
  outcome_message = elim tells as (λ (z : Bool). (outcome_of reply z rec).message ≡ cond z (encode_of (message_of rec)) no_message) [ true ↦ refl | false ↦ refl ]

  -- making a message keeps the record but for T and the next sequence number
  pub outcome_id : (outcome_of reply tells rec).after.id ≡ rec.id
  unfolding outcome_of told_of
  outcome_id = elim tells as (λ (z : Bool). (outcome_of reply z rec).after.id ≡ rec.id) [ true ↦ refl | false ↦ refl ]

  pub outcome_marks : (outcome_of reply tells rec).after.marks ≡ rec.marks
  unfolding outcome_of told_of
  outcome_marks = elim tells as (λ (z : Bool). (outcome_of reply z rec).after.marks ≡ rec.marks) [ true ↦ refl | false ↦ refl ]

  pub outcome_p : (outcome_of reply tells rec).after.inbound.producer ≡ rec.inbound.producer
  unfolding outcome_of told_of told_in
  outcome_p = elim tells as (λ (z : Bool). (outcome_of reply z rec).after.inbound.producer ≡ rec.inbound.producer) [ true ↦ refl | false ↦ refl ]

  pub outcome_c : (outcome_of reply tells rec).after.inbound.consumer ≡ rec.inbound.consumer
  unfolding outcome_of told_of told_in
  outcome_c = elim tells as (λ (z : Bool). (outcome_of reply z rec).after.inbound.consumer ≡ rec.inbound.consumer) [ true ↦ refl | false ↦ refl ]

  pub outcome_remote : (outcome_of reply tells rec).after.remote ≡ rec.remote
  unfolding outcome_of told_of
  outcome_remote = elim tells as (λ (z : Bool). (outcome_of reply z rec).after.remote ≡ rec.remote) [ true ↦ refl | false ↦ refl ]

  pub outcome_q : (outcome_of reply tells rec).after.outbound.producer ≡ rec.outbound.producer
  unfolding outcome_of told_of used_in
  outcome_q = elim tells as (λ (z : Bool). (outcome_of reply z rec).after.outbound.producer ≡ rec.outbound.producer) [ true ↦ refl | false ↦ refl ]

  pub outcome_r : (outcome_of reply tells rec).after.outbound.consumer ≡ rec.outbound.consumer
  unfolding outcome_of told_of used_in
  outcome_r = elim tells as (λ (z : Bool). (outcome_of reply z rec).after.outbound.consumer ≡ rec.outbound.consumer) [ true ↦ refl | false ↦ refl ]

  pub outcome_t : (outcome_of reply tells rec).after.inbound.told ≡ cond tells rec.inbound.consumer rec.inbound.told
  unfolding outcome_of told_of told_in
  outcome_t = elim tells as (λ (z : Bool). (outcome_of reply z rec).after.inbound.told ≡ cond z rec.inbound.consumer rec.inbound.told) [ true ↦ refl | false ↦ refl ]

  pub outcome_next : (outcome_of reply tells rec).after.outbound.next ≡ cond tells (sequence_after rec.outbound.next) rec.outbound.next
  unfolding outcome_of told_of used_in
  outcome_next = elim tells as (λ (z : Bool). (outcome_of reply z rec).after.outbound.next ≡ cond z (sequence_after rec.outbound.next) rec.outbound.next) [ true ↦ refl | false ↦ refl ]

-- an urgent send differs from another call that tells in its message alone
module _ (reply : Reply) (m : Message) (rec : Record) where
  pub urgent_reply : (urgent_outcome reply m rec).reply ≡ reply
  unfolding urgent_outcome
  urgent_reply = refl

  pub urgent_made : (urgent_outcome reply m rec).made ≡ true
  unfolding urgent_outcome
  urgent_made = refl

  pub urgent_message : (urgent_outcome reply m rec).message ≡ encode_of m
  unfolding urgent_outcome
  urgent_message = refl

  pub urgent_after : (urgent_outcome reply m rec).after ≡ told_of rec
  unfolding urgent_outcome
  urgent_after = refl

module _ (k : ℕ) (rec : Record) where
  pub refused_reply : (refused_of k rec).reply ≡ Refused k
  unfolding refused_of
  refused_reply = refl

  pub refused_made : (refused_of k rec).made ≡ false
  unfolding refused_of
  refused_made = refl

  pub refused_after : (refused_of k rec).after ≡ rec
  unfolding refused_of
  refused_after = refl

-- closing keeps the answer
module _ (shut : Bool) (o : Outcome) where
  pub closed_reply : (closed_if shut o).reply ≡ o.reply
  unfolding closed_if
  closed_reply = elim shut as (λ (z : Bool). (closed_if z o).reply ≡ o.reply) [ true ↦ refl | false ↦ refl ]

  pub closed_made : (closed_if shut o).made ≡ o.made
  unfolding closed_if
  closed_made = elim shut as (λ (z : Bool). (closed_if z o).made ≡ o.made) [ true ↦ refl | false ↦ refl ]

  pub closed_message : (closed_if shut o).message ≡ o.message
  unfolding closed_if
  closed_message = elim shut as (λ (z : Bool). (closed_if z o).message ≡ o.message) [ true ↦ refl | false ↦ refl ]

  pub closed_after : (closed_if shut o).after ≡ cond shut zero_record o.after
  unfolding closed_if
  closed_after = elim shut as (λ (z : Bool). (closed_if z o).after ≡ cond z zero_record o.after) [ true ↦ refl | false ↦ refl ]

module _ (o : Outcome) where
  pub closed_shut : (closed_if true o).after.id.opened ≡ false
  unfolding closed_if zero_record
  closed_shut = refl

  pub closed_not : closed_if false o ≡ o
  unfolding closed_if
  closed_not = refl

-- coherence is kept
module _ (n : ℕ) (rec : Record) where
  pub told_facts : Coherent n rec → Coherent n (told_of rec)
  unfolding told_of told_in used_in
  told_facts f =
      let g = gap_self (n - 4) rec.inbound.consumer in
      let up = good_most (n - 4) rec.inbound.consumer rec.inbound.producer f.cp_good in
      search rules

  pub told_coherent : coherent_b n rec ≡ true → coherent_b n (told_of rec) ≡ true
  told_coherent e = coherent_from n (told_of rec) (told_facts (coherent_facts n rec e))

  pub outcome_coherent : (reply : Reply) (tells : Bool) → coherent_b n rec ≡ true → coherent_b n (outcome_of reply tells rec).after ≡ true
  outcome_coherent reply tells e =
      rw (outcome_after reply tells rec) (elim tells as (λ (z : Bool). coherent_b n (cond z (told_of rec) rec) ≡ true) [ true ↦ told_coherent e | false ↦ e ])

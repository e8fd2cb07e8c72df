-- The small hearing says what the rules' hear says. Assumes nothing.
use Prim.Native.Nat.{ℕ}
use mathlib.Core.Path.{◌≡◌, refl, sym, ap}
use mathlib.Core.Bool.{Bool, true, false, ◌&&◌, ◌||◌, not, cond}
use lib.Dec.{ltb, eqb}
use Rattle.cursor.specs.Cursor.{same_b}
use Rattle.cdc.specs.declared.Message.{Message}
use Rattle.cdc.specs.Cdc.{encode_of}
use Rattle.closing.specs.declared.Marks.{Marks}
use Rattle.closing.specs.declared.State.{State}
use Rattle.closing.specs.declared.State.TheVariants.{PeerAbortWait, Closed}
use Rattle.closing.specs.Closing.{number_of, state_at, state_of, abort_sent, marks_heard}
use Rattle.closing.proofs.Laws.{state_back}
use Rattle.conn_record.specs.declared.Record.{Record}
use Rattle.conn_record.specs.Connection.{no_place, place_at, reached_b, passed_by, refusal_of}
use Rattle.conn_record.specs.Connection.{p_to, last_to, flags_to, urgent_in_to, r_to, urgent_out_to, inbound_to, outbound_to, marks_to}
use Rattle.conn_answer.specs.declared.Reply.TheVariants.{Heard}
use Rattle.conn_answer.specs.declared.Outcome.{Outcome}
use Rattle.conn_answer.specs.Outcome.{no_message, told_in, used_in, told_of, message_of, outcome_of, refused_of, closed_if}
use Rattle.conn_hear.specs.Heard.{producer_b, consumer_b, moved_by, urges_b, urgent_in, heard_in, heard_out, heard_record, answers_b, next_b}
use Rattle.conn_hear.specs.Hear.{aborted_of, accepted_of, ruled_of, validated_of, followed_of, hear_of}
use Rattle.group_rules.specs.Rules.{heard, says_of}
use Rattle.plan_hear.specs.declared.Hearing.{Hearing}
use Rattle.plan_hear.specs.Hearing.{refused_hearing, abort_hearing, kept_hearing, break_hearing, validated_hearing, accepted_hearing, ruled_hearing}
use Rattle.plan_hear.specs.Hearing.{hearing_of, inbound_left, outbound_left, record_left, abort_left, ended_of, told_by}
use Rattle.plan.proofs.Laws.{marks_kept, marks_aborted}
use Rattle.plan.specs.DirectMade.{named_in}
use Rattle.c_hear.specs.DirectHear.{hear_answer, says_in}

-- the record that a hearing leaves
abbrev pub left_of : Record → Message → Hearing → Record
left_of rec m t = cond (t.closes || t.aborts) (ended_of rec t) (cond t.takes (record_left rec m t) rec)

-- what a hearing t of the record rec shares with the outcome of the rules
pub record Agrees (rec : Record) (m : Message) (t : Hearing) (o : Outcome) : Type 0 where
  pub answers : t.said ≡ hear_answer (named_in (says_of o.reply)) o.made
  pub says : says_in t.said ≡ says_of o.reply
  pub message : o.message ≡ cond t.said.made (encode_of (message_of (told_by rec t))) no_message
  pub after : o.after ≡ left_of rec m t
  pub apart : t.takes && (t.closes || t.aborts) ≡ false

module _ (rec : Record) (m : Message) where
  by_test : {x y : Hearing} {o p : Outcome} (b : Bool) → (b ≡ true → Agrees rec m x o) → (b ≡ false → Agrees rec m y p)
      → Agrees rec m (cond b x y) (cond b o p)
  by_test true f g = f refl
  by_test false f g = g refl

  pub refused_agrees : (j : ℕ) → eqb j 0 ≡ false → Agrees rec m (refused_hearing j) (refused_of j rec)
  unfolding refused_of says_in
  refused_agrees j e = record { says = simp e; answers = refl; message = refl; after = refl; apart = refl }

  -- with A
  aborted_by : (sent : Bool)
      → Agrees rec m (abort_hearing sent) (closed_if true (outcome_of (Heard 0 Closed) (not sent) (marks_to rec (abort_sent rec.marks))))
  unfolding closed_if outcome_of says_in state_at told_by ended_of marks_to
  aborted_by true = record { says = refl; answers = refl; message = refl; after = refl; apart = refl }
  aborted_by false =
      record {
        says = refl;
        answers = refl;
        message = ap (λ (w : Marks). encode_of (message_of (marks_to rec w))) (sym (marks_aborted rec.marks));
        after = refl;
        apart = refl;
      }

  aborted_agrees : Agrees rec m (abort_hearing rec.marks.abort) (aborted_of rec)
  unfolding aborted_of
  aborted_agrees = aborted_by rec.marks.abort

  -- no change
  kept_agrees : (state : State) → Agrees rec m (kept_hearing (number_of state)) (outcome_of (Heard 0 state) false rec)
  unfolding outcome_of says_in
  kept_agrees state = record { says = ap (heard 0) (state_back state); answers = refl; message = refl; after = refl; apart = refl }

  -- with F
  break_agrees : Agrees rec m break_hearing (outcome_of (Heard 0 PeerAbortWait) true (marks_to rec (abort_sent rec.marks)))
  unfolding outcome_of says_in state_at told_by ended_of abort_left marks_to
  break_agrees =
      record {
        says = refl;
        answers = refl;
        message = ap (λ (w : Marks). encode_of (message_of (marks_to rec w))) (sym (marks_aborted rec.marks));
        after = refl;
        apart = refl;
      }

  validated_agrees : Agrees rec m (validated_hearing rec m) (validated_of rec m)
  unfolding validated_hearing validated_of
  validated_agrees = by_test (eqb m.sequence rec.inbound.last) (λ e. kept_agrees (state_of rec.marks)) (λ e. break_agrees)

  -- accepted: by how far P moves, the state, whether a message is made, whether the slot is closed, and what becomes of the urgent places
  module _ (moved : ℕ) (state : State) (urged passed : Bool) where
    abbrev next : Record
    next =
        marks_to
        (outbound_to
        (inbound_to rec
        (urgent_in_to (flags_to (last_to (p_to rec.inbound m.producer) m.sequence) m.flags.blocked m.flags.request)
        (cond urged (place_at m.producer) rec.inbound.urgent)))
        (urgent_out_to (r_to rec.outbound m.consumer) (cond passed no_place rec.outbound.urgent)))
        (marks_heard rec.marks m.flags.done m.flags.closed)

    abbrev small : Bool → Bool → Hearing
    small made shut =
        record {
          said = record { refusal = 0; made = made; state = number_of state; moved = moved };
          takes = not shut;
          closes = shut;
          urged = urged;
          passed = passed;
          aborts = false;
        }

    abbrev tells : Record
    tells = outbound_to rec (urgent_out_to rec.outbound (cond passed no_place rec.outbound.urgent))

    says_is : (made shut : Bool) → says_in (small made shut).said ≡ heard moved state
    unfolding says_in
    says_is made shut = ap (heard moved) (state_back state)

    message_is : (shut : Bool) → encode_of (message_of next) ≡ encode_of (message_of (told_by rec (small true shut)))
    unfolding message_of told_by marks_to marks_heard
    message_is shut = ap (λ (w : Marks). encode_of (message_of (marks_to tells w))) (sym (marks_kept rec.marks))

    accepted_by_lem : (made shut : Bool) → Agrees rec m (small made shut) (closed_if shut (outcome_of (Heard moved state) made next))
    unfolding closed_if outcome_of told_of told_in used_in record_left inbound_left outbound_left ended_of marks_to
    accepted_by_lem true true =
        record { says = says_is true true; answers = refl; message = message_is true; after = refl; apart = refl }
    accepted_by_lem true false =
        record { says = says_is true false; answers = refl; message = message_is false; after = refl; apart = refl }
    accepted_by_lem false true = record { says = says_is false true; answers = refl; message = refl; after = refl; apart = refl }
    accepted_by_lem false false = record { says = says_is false false; answers = refl; message = refl; after = refl; apart = refl }

  module _ (n : ℕ) where
    accepted_agrees : Agrees rec m (accepted_hearing n rec m) (accepted_of n rec m)
    unfolding accepted_hearing accepted_of heard_record heard_in heard_out urgent_in passed_by answers_b urges_b marks_to
    accepted_agrees =
        let moved = moved_by n rec.inbound m in
        let marks = marks_heard rec.marks m.flags.done m.flags.closed in
        let urged = m.flags.urgent && ltb 0 moved in
        accepted_by_lem moved (state_of marks) urged
        (reached_b rec.remote.size m.consumer rec.outbound.producer rec.outbound.urgent)
        (urged || (m.flags.request && not (same_b rec.inbound.told rec.inbound.consumer)))
        (marks.heard.closed && marks.sent.closed)

    ruled_agrees : Agrees rec m (ruled_hearing n rec m) (ruled_of n rec m)
    unfolding ruled_hearing ruled_of
    ruled_agrees =
        by_test (producer_b n rec m.producer && consumer_b rec m.consumer) (λ e. accepted_agrees) (λ e. refused_agrees 8 refl)

    pub agree : (active : Bool) → Agrees rec m (hearing_of n active rec m 0) (hear_of n active rec m)
    unfolding hearing_of hear_of followed_of
    agree active =
        let no = refusal_of n active rec false in
        by_test (eqb no 0)
        (λ e.
        by_test m.flags.abort (λ e. aborted_agrees)
        (λ e.
        by_test rec.marks.abort (λ e. kept_agrees PeerAbortWait)
        (λ e.
        by_test m.flags.failover (λ e. validated_agrees)
        (λ e. by_test (next_b rec m) (λ e. ruled_agrees) (λ e. refused_agrees 16 refl)))))
        (λ e. refused_agrees no e)

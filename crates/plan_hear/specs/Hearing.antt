-- A hear as the code takes it apart: what it answers and does with its record, in few values (`Hearing`), and the record and the message by
-- these. Assumes nothing.
use Rattle.std.specs.Prelude.{ℕ, Bool, true, false, ◌&&◌, ◌||◌, not, cond, List, ltb, eqb}
use Rattle.cursor.specs.Cursor.{same_b}
use Rattle.cdc.specs.declared.Message.{Message}
use Rattle.cdc.specs.declared.Decoded.{Decoded}
use Rattle.cdc.specs.declared.Decoded.TheVariants.{Good, Malformed}
use Rattle.cdc.specs.Cdc.{encode_of, decode_of}
use Rattle.closing.specs.declared.Marks.{Marks}
use Rattle.closing.specs.Closing.{number_of, state_of, abort_sent, marks_heard}
use Rattle.conn_record.specs.declared.Inbound.{Inbound}
use Rattle.conn_record.specs.declared.Outbound.{Outbound}
use Rattle.conn_record.specs.declared.Record.{Record}
use Rattle.conn_record.specs.Connection.{zero_cursor, zero_record, no_place, place_at, reached_b, refusal_of}
use Rattle.conn_record.specs.Connection.{p_to, t_to, last_to, flags_to, urgent_in_to, r_to, next_to, urgent_out_to, inbound_to, outbound_to, marks_to}
use Rattle.conn_answer.specs.Outcome.{sequence_after, told_of, message_of}
use Rattle.conn_hear.specs.Heard.{producer_b, consumer_b, moved_by, next_b}
use Rattle.group_table.specs.Table.{sizes_b}
use Rattle.plan.specs.Direct.{marks_left}
use Rattle.plan_hear.specs.declared.HearAnswer.{HearAnswer}
use Rattle.plan_hear.specs.declared.Parsed.{Parsed}
use Rattle.plan_hear.specs.declared.Hearing.{Hearing}

abbrev pub no_heard : Message
no_heard =
    record {
      sequence = 0;
      token = 0;
      producer = zero_cursor;
      consumer = zero_cursor;
      flags =
          record {
            blocked = false;
            pending = false;
            urgent = false;
            request = false;
            failover = false;
            done = false;
            closed = false;
            abort = false;
          };
    }

-- what bytes are read as; zeros where they are no message
abbrev pub parsed_of : Decoded → Parsed
parsed_of (Good m) = record { good = true; message = m }
parsed_of Malformed = record { good = false; message = no_heard }

unfoldable pub parsed_in : List ℕ → Parsed
parsed_in b = parsed_of (decode_of b)

-- 1, then 4, then 5; 0: none of them
unfoldable pub refused_before : ℕ → ℕ → ℕ → ℕ → Bool → ℕ → ℕ
refused_before s n len count good slot = cond (sizes_b s n len count) (cond good (cond (eqb slot 0) 5 0) 4) 1

abbrev pub refused_answer : ℕ → HearAnswer
refused_answer j = record { refusal = j; made = false; state = 0; moved = 0 }

abbrev pub refused_hearing : ℕ → Hearing
refused_hearing j =
    record {
      said = refused_answer j;
      takes = false;
      closes = false;
      urged = false;
      passed = false;
      aborts = false;
    }

-- with A, where `sent`: we had sent A
abbrev pub abort_hearing : Bool → Hearing
abort_hearing sent =
    record {
      said = record { refusal = 0; made = not sent; state = 6; moved = 0 };
      takes = false;
      closes = true;
      urged = false;
      passed = false;
      aborts = true;
    }

-- without A, where nothing changes: the state's number
abbrev pub kept_hearing : ℕ → Hearing
kept_hearing state =
    record {
      said = record { refusal = 0; made = false; state = state; moved = 0 };
      takes = false;
      closes = false;
      urged = false;
      passed = false;
      aborts = false;
    }

-- with F and another number than the last heard
abbrev pub break_hearing : Hearing
break_hearing =
    record {
      said = record { refusal = 0; made = true; state = 5; moved = 0 };
      takes = false;
      closes = false;
      urged = false;
      passed = false;
      aborts = true;
    }

unfoldable pub validated_hearing : Record → Message → Hearing
validated_hearing rec m = cond (eqb m.sequence rec.inbound.last) (kept_hearing (number_of (state_of rec.marks))) break_hearing

-- what an accepted message does: how far P moves, the marks after it, whether it clears our urgent place, whether T is C
abbrev pub accepted_by : Record → Message → ℕ → Marks → Bool → Bool → Hearing
accepted_by rec m moved marks passed same =
    let urged = m.flags.urgent && ltb 0 moved in
    let shut = marks.heard.closed && marks.sent.closed in
    record {
      said = record { refusal = 0; made = urged || (m.flags.request && not same); state = number_of (state_of marks); moved = moved };
      takes = not shut;
      closes = shut;
      urged = urged;
      passed = passed;
      aborts = false;
    }

unfoldable pub accepted_hearing : ℕ → Record → Message → Hearing
accepted_hearing N rec m =
    accepted_by rec m (moved_by N rec.inbound m) (marks_heard rec.marks m.flags.done m.flags.closed)
    (reached_b rec.remote.size m.consumer rec.outbound.producer rec.outbound.urgent)
    (same_b rec.inbound.told rec.inbound.consumer)

unfoldable pub ruled_hearing : ℕ → Record → Message → Hearing
ruled_hearing N rec m =
    cond (producer_b N rec m.producer && consumer_b rec m.consumer) (accepted_hearing N rec m) (refused_hearing 8)

-- `j` is what was refused before, 0 for nothing; then 3, 6, and without A and F 16, 8
unfoldable pub hearing_of : ℕ → Bool → Record → Message → ℕ → Hearing
hearing_of N active rec m j =
    let no = refusal_of N active rec false in
    cond (eqb j 0)
    (cond (eqb no 0)
    (cond m.flags.abort (abort_hearing rec.marks.abort)
    (cond rec.marks.abort (kept_hearing 5)
    (cond m.flags.failover (validated_hearing rec m)
    (cond (next_b rec m) (ruled_hearing N rec m) (refused_hearing 16)))))
    (refused_hearing no))
    (refused_hearing j)

-- of a record that is all zeros
unfoldable pub none_hearing : ℕ → Hearing
none_hearing j = cond (eqb j 0) (refused_hearing 3) (refused_hearing j)

-- P, sequence, B and R flag, the urgent place where it is a new one, T where a message is made
unfoldable pub inbound_left : Inbound → Message → Hearing → Inbound
inbound_left i m t =
    urgent_in_to
    (flags_to (last_to (t_to (p_to i m.producer) (cond t.said.made i.consumer i.told)) m.sequence) m.flags.blocked
    m.flags.request)
    (cond t.urged (place_at m.producer) i.urgent)

-- R, our urgent place where it is cleared, the sequence number where a message is made
unfoldable pub outbound_left : Outbound → Message → Hearing → Outbound
outbound_left o m t =
    urgent_out_to (next_to (r_to o m.consumer) (cond t.said.made (sequence_after o.next) o.next))
    (cond t.passed no_place o.urgent)

unfoldable pub record_left : Record → Message → Hearing → Record
record_left rec m t =
    marks_to (outbound_to (inbound_to rec (inbound_left rec.inbound m t)) (outbound_left rec.outbound m t))
    (marks_heard rec.marks m.flags.done m.flags.closed)

-- A, once its message is made
unfoldable pub abort_left : Record → Record
abort_left rec = told_of (marks_to rec (abort_sent rec.marks))

-- that, or zeros where the slot is closed
unfoldable pub ended_of : Record → Hearing → Record
ended_of rec t = cond t.closes zero_record (abort_left rec)

-- what a message tells of the record: our urgent place where it was not cleared, and A
unfoldable pub told_by : Record → Hearing → Record
told_by rec t =
    marks_to (outbound_to rec (urgent_out_to rec.outbound (cond t.passed no_place rec.outbound.urgent)))
    (marks_left rec.marks t.aborts)

unfoldable pub message_left : Record → Hearing → List ℕ → List ℕ
message_left rec t b = cond t.said.made (encode_of (message_of (told_by rec t))) b

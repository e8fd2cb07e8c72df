-- Document 01, "Calls of a connection": Hear.
-- Assumes nothing.
use Rattle.std.specs.Prelude.{ℕ, Bool, true, false, ◌&&◌, not, cond, eqb}
use Rattle.cdc.specs.declared.Message.{Message}
use Rattle.closing.specs.declared.State.TheVariants.{PeerAbortWait, Closed}
use Rattle.closing.specs.Closing.{state_of, abort_sent}
use Rattle.conn_record.specs.declared.Record.{Record}
use Rattle.conn_record.specs.Connection.{marks_to, refusal_of}
use Rattle.conn_answer.specs.declared.Reply.TheVariants.{Heard}
use Rattle.conn_answer.specs.declared.Outcome.{Outcome}
use Rattle.conn_answer.specs.Outcome.{refused_of, outcome_of, closed_if}
use Rattle.conn_hear.specs.Heard.{producer_b, consumer_b, moved_by, heard_record, answers_b, next_b}

-- With A: if we had not sent A, one abort message is made; the slot is then closed, cursors not looked at. P isn't replaced: 0.
-- The state named is the slot's after the call: Closed
unfoldable pub aborted_of : Record → Outcome
aborted_of rec = closed_if true (outcome_of (Heard 0 Closed) (not rec.marks.abort) (marks_to rec (abort_sent rec.marks)))

-- after that, C heard and C sent: closed. The answer names how far P moved and the state
unfoldable pub accepted_of : ℕ → Record → Message → Outcome
accepted_of N rec m =
    let next = heard_record N rec m in
    closed_if (next.marks.heard.closed && next.marks.sent.closed)
    (outcome_of (Heard (moved_by N rec.inbound m) (state_of next.marks)) (answers_b N rec.inbound m) next)

-- the cursors' rules, or 8
unfoldable pub ruled_of : ℕ → Record → Message → Outcome
ruled_of N rec m =
    cond (producer_b N rec m.producer && consumer_b rec m.consumer) (accepted_of N rec m) (refused_of 8 rec)

-- A message with F is validated (request 2026-13): "its number equal to the last heard is accepted with no change, anything else makes an
-- abort message and sets the abort mark"
unfoldable pub validated_of : Record → Message → Outcome
validated_of rec m =
    cond (eqb m.sequence rec.inbound.last)
    (outcome_of (Heard 0 (state_of rec.marks)) false rec)
    (outcome_of (Heard 0 PeerAbortWait) true (marks_to rec (abort_sent rec.marks)))

-- if we had sent A and this has none: accepted, no change, whatever its number and F; with F: validated; otherwise the number is next, or
-- 16, tested before 8
unfoldable pub followed_of : ℕ → Record → Message → Outcome
followed_of N rec m =
    cond rec.marks.abort (outcome_of (Heard 0 PeerAbortWait) false rec)
    (cond m.flags.failover (validated_of rec m)
    (cond (next_b rec m) (ruled_of N rec m) (refused_of 16 rec)))

-- hear gives no 7; a message with A is exempt from 16 and 8, and so is one with F
unfoldable pub hear_of : ℕ → Bool → Record → Message → Outcome
hear_of N active rec m =
    let no = refusal_of N active rec false in
    cond (eqb no 0) (cond m.flags.abort (aborted_of rec) (followed_of N rec m)) (refused_of no rec)

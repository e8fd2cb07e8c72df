-- Document 01, "Calls of a connection": Shutdown, Close and Abort.
-- Assumes nothing.
use Rattle.std.specs.Prelude.{ℕ, Bool, true, ◌||◌, cond, ltb, eqb}
use Rattle.closing.specs.declared.Marks.{Marks}
use Rattle.closing.specs.Closing.{done_sent, closed_sent, abort_sent}
use Rattle.conn_record.specs.declared.Record.{Record}
use Rattle.conn_answer.specs.declared.Reply.TheVariants.{Accepted, Reset}
use Rattle.conn_answer.specs.declared.Outcome.{Outcome}
use Rattle.conn_record.specs.Connection.{refusal_of, marks_to}
use Rattle.conn_answer.specs.Outcome.{refused_of, outcome_of, closed_if}
use Rattle.conn_receive.specs.Receive.{unread_of}

-- 7: shutdown after D, C or A sent
unfoldable pub shutdown_forbids : Marks → Bool
shutdown_forbids m = m.sent.done || (m.sent.closed || m.abort)

-- shutdown sends D
unfoldable pub shutdown_of : ℕ → Bool → Record → Outcome
shutdown_of N active rec =
    let no = refusal_of N active rec (shutdown_forbids rec.marks) in
    cond (eqb no 0) (outcome_of Accepted true (marks_to rec (done_sent rec.marks))) (refused_of no rec)

-- 7: close after C or A sent
unfoldable pub close_forbids : Marks → Bool
close_forbids m = m.sent.closed || m.abort

-- a close with unread bytes makes an abort message, sets the abort mark and answers "reset"; no C is sent, and the slot stays open in
-- PeerAbortWait even where C was heard (request 2026-03)
unfoldable pub reset_of : Record → Outcome
reset_of rec = outcome_of Reset true (marks_to rec (abort_sent rec.marks))

-- with none, close sends C, and the slot is closed if C was heard
unfoldable pub closing_of : Record → Outcome
closing_of rec = closed_if rec.marks.heard.closed (outcome_of Accepted true (marks_to rec (closed_sent rec.marks)))

-- unread bytes: the distance C to P is above 0
unfoldable pub close_of : ℕ → Bool → Record → Outcome
close_of N active rec =
    let no = refusal_of N active rec (close_forbids rec.marks) in
    cond (eqb no 0) (cond (ltb 0 (unread_of N rec.inbound)) (reset_of rec) (closing_of rec)) (refused_of no rec)

-- abort sends A; 7: abort after A sent
unfoldable pub abort_of : ℕ → Bool → Record → Outcome
abort_of N active rec =
    let no = refusal_of N active rec rec.marks.abort in
    cond (eqb no 0) (outcome_of Accepted true (marks_to rec (abort_sent rec.marks))) (refused_of no rec)

-- Shutdown, close and abort as the code takes them apart: what each answers and does with its record, in few values (`Finishing`).
-- Assumes nothing.
use Rattle.std.specs.Prelude.{ℕ, Bool, true, false, cond, List, ltb}
use Rattle.cdc.specs.Cdc.{encode_of}
use Rattle.closing.specs.declared.Marks.{Marks}
use Rattle.closing.specs.Closing.{done_sent, closed_sent, abort_sent}
use Rattle.conn_record.specs.declared.Record.{Record}
use Rattle.conn_record.specs.Connection.{zero_record, marks_to}
use Rattle.conn_answer.specs.Outcome.{no_message, message_of, told_of}
use Rattle.conn_receive.specs.Receive.{unread_of}
use Rattle.conn_finish.specs.Finish.{shutdown_forbids, close_forbids}
use Rattle.plan_finish.specs.declared.FinishAnswer.{FinishAnswer}
use Rattle.plan_finish.specs.declared.Ending.{Ending}
use Rattle.plan_finish.specs.declared.Ending.TheVariants.{Shutdown, Close, Abort}
use Rattle.plan_finish.specs.declared.Finishing.{Finishing}
use Rattle.plan_finish.specs.declared.Finished.{Finished}

-- a refusal's number
abbrev pub refused_answer : ℕ → FinishAnswer
refused_answer j = record { refusal = j; made = false; reset = false }

abbrev pub refused_plan : ℕ → Marks → Finishing
refused_plan j m = record { said = refused_answer j; marks = m; closes = false }

-- a message is made of the marks m; a close that met unread bytes says "reset"; the slot is closed, or not
abbrev pub marked : Marks → Bool → Bool → Finishing
marked m reset closes = record { said = record { refusal = 0; made = true; reset = reset }; marks = m; closes = closes }

-- shutdown sends D
unfoldable pub shutdown_plan : Marks → Finishing
shutdown_plan m = cond (shutdown_forbids m) (refused_plan 7 m) (marked (done_sent m) false false)

-- close sends A where bytes are unread; else C, and the slot is closed if C was heard
unfoldable pub close_plan : ℕ → Record → Finishing
close_plan N rec =
    let m = rec.marks in
    cond (close_forbids m) (refused_plan 7 m)
    (cond (ltb 0 (unread_of N rec.inbound)) (marked (abort_sent m) true false) (marked (closed_sent m) false m.heard.closed))

-- abort sends A
unfoldable pub abort_plan : Marks → Finishing
abort_plan m = cond m.abort (refused_plan 7 m) (marked (abort_sent m) false false)

abbrev pub plan_of : Ending → ℕ → Record → Finishing
plan_of Shutdown N rec = shutdown_plan rec.marks
plan_of Close N rec = close_plan N rec
plan_of Abort N rec = abort_plan rec.marks

-- the message that tells the record with these marks
unfoldable pub message_by : Record → Marks → List ℕ
message_by rec m = encode_of (message_of (marks_to rec m))

-- the record once it is made; what is left in the slot
unfoldable pub marked_record : Record → Marks → Record
marked_record rec m = told_of (marks_to rec m)

abbrev pub leaves_of : Record → Marks → Bool → Record
leaves_of rec m closes = cond closes zero_record (marked_record rec m)

-- an answer without a message, and with the one that tells the record
abbrev pub silently : FinishAnswer → Finished
silently a = record { said = a; message = no_message }

abbrev pub telling : Record → Finishing → Finished
telling rec t = record { said = t.said; message = message_by rec t.marks }

-- what is answered, and left of the record, by the plan t
unfoldable pub finished_by : Record → Finishing → Finished
finished_by rec t = cond (ltb 0 t.said.refusal) (silently t.said) (telling rec t)

unfoldable pub record_left : Record → Finishing → Record
record_left rec t = cond (ltb 0 t.said.refusal) rec (leaves_of rec t.marks t.closes)

-- What any call of a connection does with its record: it refuses, or leaves a record, which a message then tells or not, and perhaps
-- closes the slot. Assumes nothing.
use Rattle.std.specs.Prelude.{ℕ, Bool, true, false, ◌&&◌, cond, List, eqb}
use Rattle.cdc.specs.declared.Message.{Message}
use Rattle.cdc.specs.Cdc.{encode_of}
use Rattle.conn_record.specs.declared.Record.{Record}
use Rattle.conn_record.specs.Connection.{zero_record, refusal_of}
use Rattle.conn_answer.specs.declared.Reply.{Reply}
use Rattle.conn_answer.specs.declared.Reply.TheVariants.{Accepted}
use Rattle.conn_answer.specs.declared.Outcome.{Outcome}
use Rattle.group_table.specs.Table.{with_record}
use Rattle.group_rules.specs.Rules.{Says, refusal, says_of, Answer, Group, Done, with_table, record_of_all}
use Rattle.group_rules.specs.Rules as Rules
use Rattle.conn_answer.specs.Outcome.{no_message, message_of, pending_of, told_of, silent_of, refused_of, closed_if}

-- a refusal's number, or 0; the reply; the record before a message tells; whether one is made, and with P whatever stands; whether the
-- slot is closed after it
pub record Step : Type 0 where
  pub refusal : ℕ
  pub reply : Reply
  pub before : Record
  pub made : Bool
  pub pending : Bool
  pub closes : Bool

abbrev pub refuses : ℕ → Record → Step
refuses j rec = record { refusal = j; reply = Accepted; before = rec; made = false; pending = false; closes = false }

abbrev pub leaves : Reply → Bool → Record → Step
leaves reply made next = record { refusal = 0; reply = reply; before = next; made = made; pending = false; closes = false }

abbrev pub closing : Reply → Bool → Record → Bool → Step
closing reply made next shut = record { refusal = 0; reply = reply; before = next; made = made; pending = false; closes = shut }

-- 7 where the marks forbid the call
abbrev pub unless7 : Bool → Record → Step → Step
unless7 forbids rec t = cond forbids (refuses 7 rec) t

abbrev pub message_by : Record → Bool → Message
message_by next pending = cond pending (pending_of (message_of next)) (message_of next)

-- told or not
unfoldable pub tell_by : Reply → Bool → Bool → Record → Outcome
tell_by reply made pending next =
    cond made (record { reply = reply; made = true; message = encode_of (message_by next pending); after = told_of next }) (silent_of reply next)

-- perhaps closed; or refused
unfoldable pub settle_by : Record → Step → Outcome
settle_by rec t =
    cond (eqb t.refusal 0) (closed_if t.closes (tell_by t.reply t.made t.pending t.before)) (refused_of t.refusal rec)

-- 3 and 6 before it
unfoldable pub step_by : ℕ → Bool → Record → Step → Outcome
step_by N active rec t =
    let no = refusal_of N active rec false in
    cond (eqb no 0) (settle_by rec t) (refused_of no rec)

-- what the one function that stores leaves of the record, and the one that tells writes
unfoldable pub left_by_of : Record → Step → Record
left_by_of rec t = cond (eqb t.refusal 0) (cond t.closes zero_record (cond t.made (told_of t.before) t.before)) rec

abbrev pub made_by_of : Step → Bool
made_by_of t = eqb t.refusal 0 && t.made

unfoldable pub bytes_by : Step → List ℕ
bytes_by t = cond (made_by_of t) (encode_of (message_by t.before t.pending)) no_message

abbrev pub says_by : Step → Says
says_by t = cond (eqb t.refusal 0) (says_of t.reply) (refusal t.refusal)

abbrev pub answer_by : Step → List ℕ → Answer
answer_by t out = record { says = says_by t; made = made_by_of t; message = bytes_by t; out = out }

-- ANY CALL ON A SLOT that stores and reads no bytes: refused by j, or what its step answers and leaves of the slot's record
unfoldable pub done_by : Group → ℕ → ℕ → Step → List ℕ → Done
done_by g k j t out =
    cond (eqb j 0) (record { answer = answer_by t out; group = with_table g (with_record g.table k (left_by_of (record_of_all g k) t)) })
    (Rules.refuses g j out)

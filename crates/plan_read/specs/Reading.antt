-- A read of one record as the code takes it apart: what it answers and does with its record, in few values (`Reading`), and the record,
-- the message and the out buffer by these. Assumes nothing.
use Rattle.std.specs.Prelude.{ℕ, ◌-◌, Bool, true, false, ◌&&◌, ◌||◌, cond, List, ltb}
use Rattle.cursor.specs.declared.Cursor.{Cursor}
use Rattle.cursor.specs.Cursor.{data_of, step_of}
use Rattle.cdc.specs.Cdc.{encode_of}
use Rattle.flow.specs.Flow.{taken_of, window_of, update_due}
use Rattle.element.specs.Element as Element
use Rattle.conn_record.specs.declared.Inbound.{Inbound}
use Rattle.conn_record.specs.declared.Outbound.{Outbound}
use Rattle.conn_record.specs.declared.Record.{Record}
use Rattle.conn_record.specs.Connection.{no_place, c_to, t_to, urgent_in_to, next_to, inbound_to, outbound_to, marks_to, reached_b}
use Rattle.conn_answer.specs.Outcome.{sequence_after, message_of}
use Rattle.conn_receive.specs.Receive.{read_forbids}
use Rattle.plan.specs.Direct.{marks_left}
use Rattle.plan_read.specs.declared.ReadAnswer.{ReadAnswer}
use Rattle.plan_read.specs.declared.Reading.{Reading}

-- unread, as D less what is free (the distance C to P, where that is good)
unfoldable pub unread_in : ℕ → Inbound → ℕ
unread_in N i = data_of N - window_of N i.consumer i.producer

-- a message is made: of n bytes read, the new C, and whether the urgent place is cleared
unfoldable pub due_in : ℕ → Inbound → Cursor → ℕ → Bool → Bool
due_in N i c n reached = ltb 0 n && ((i.blocked || i.request) || (reached || update_due N i.told i.producer c))

abbrev pub refused_answer : ℕ → ReadAnswer
refused_answer j = record { refusal = j; torn = false; made = false; count = 0 }

abbrev pub refused_reading : ℕ → Cursor → Reading
refused_reading j c = record { said = refused_answer j; consumer = c; cleared = false; from = c.offset }

abbrev pub torn_reading : Cursor → Reading
torn_reading c =
    record { said = record { refusal = 0; torn = true; made = true; count = 0 }; consumer = c; cleared = false; from = c.offset }

unfoldable pub took_of : ℕ → Inbound → ℕ → Reading
took_of N i room =
    let n = taken_of (unread_in N i) room in
    let c = step_of N i.consumer n in
    let reached = reached_b N c i.producer i.urgent in
    record {
      said = record { refusal = 0; torn = false; made = due_in N i c n reached; count = n };
      consumer = c;
      cleared = reached;
      from = i.consumer.offset;
    }

-- a read that 1, 2, 3 and 6 do not refuse, into `room` bytes
unfoldable pub reading_of : ℕ → Bool → Record → ℕ → Reading
reading_of N intact rec room =
    let c = rec.inbound.consumer in
    cond (read_forbids rec.marks) (refused_reading 7 c) (cond intact (took_of N rec.inbound room) (torn_reading c))

-- C, T where a message is made, the urgent place where it is cleared; the sequence number; the abort mark
unfoldable pub inbound_left : Inbound → Reading → Inbound
inbound_left i t =
    urgent_in_to (t_to (c_to i t.consumer) (cond t.said.made t.consumer i.told)) (cond t.cleared no_place i.urgent)

unfoldable pub outbound_left : Outbound → Bool → Outbound
outbound_left o made = next_to o (cond made (sequence_after o.next) o.next)

unfoldable pub record_left : Record → Reading → Record
record_left rec t =
    marks_to (outbound_to (inbound_to rec (inbound_left rec.inbound t)) (outbound_left rec.outbound t.said.made))
    (marks_left rec.marks t.said.torn)

-- what a message tells: the record with C moved, before the number is used
unfoldable pub moved_of : Record → Reading → Record
moved_of rec t = marks_to (inbound_to rec (c_to rec.inbound t.consumer)) (marks_left rec.marks t.said.torn)

unfoldable pub message_left : Record → Reading → List ℕ → List ℕ
message_left rec t b = cond t.said.made (encode_of (message_of (moved_of rec t))) b

unfoldable pub copied_by : ℕ → List ℕ → ℕ → Reading → List ℕ → List ℕ
copied_by N m k t out = Element.read_of m (Element.base_of N k) N t.from t.said.count out

-- The record and the message that a send or an urgent send leaves, by the sending; `urgent` tells the two
-- apart. Assumes nothing.
use Rattle.std.specs.Prelude.{ℕ, Bool, cond, not, ◌&&◌, List}
use Rattle.cdc.specs.declared.Message.{Message}
use Rattle.cdc.specs.Cdc.{encode_of}
use Rattle.conn_record.specs.declared.Inbound.{Inbound}
use Rattle.conn_record.specs.declared.Outbound.{Outbound}
use Rattle.conn_record.specs.declared.Urgent.{Urgent}
use Rattle.conn_record.specs.declared.Record.{Record}
use Rattle.conn_record.specs.Connection.{place_at, t_to, q_to, blocked_to, next_to, urgent_out_to, inbound_to, outbound_to}
use Rattle.conn_answer.specs.Outcome.{sequence_after, message_of, pending_of}
use Rattle.plan_send.specs.declared.Sending.{Sending}

-- T where a message is made; Q, B, the urgent place and the sequence number
unfoldable pub inbound_left : Inbound → Bool → Inbound
inbound_left i made = t_to i (cond made i.consumer i.told)

-- the urgent place of an urgent send that is taken whole: Q
unfoldable pub place_left : Bool → Urgent → Sending → Urgent
place_left urgent old t = cond (t.said.made && (urgent && not t.blocked)) (place_at t.producer) old

-- what a message tells: Q, B and the urgent place, before the number is used
unfoldable pub outbound_moved : Bool → Outbound → Sending → Outbound
outbound_moved urgent o t = urgent_out_to (blocked_to (q_to o t.producer) t.blocked) (place_left urgent o.urgent t)

unfoldable pub outbound_left : Bool → Outbound → Sending → Outbound
outbound_left urgent o t = next_to (outbound_moved urgent o t) (cond t.said.made (sequence_after o.next) o.next)

unfoldable pub record_left : Bool → Record → Sending → Record
record_left urgent rec t =
    outbound_to (inbound_to rec (inbound_left rec.inbound t.said.made)) (outbound_left urgent rec.outbound t)

unfoldable pub moved_of : Bool → Record → Sending → Record
moved_of urgent rec t = outbound_to rec (outbound_moved urgent rec.outbound t)

-- an urgent send's message has P: by the place that stands where it is taken whole, and where it is cut short whatever stands
unfoldable pub pending_if : Bool → Message → Message
pending_if urgent m = cond urgent (pending_of m) m

abbrev pub message_by : Bool → Record → Sending → Message
message_by urgent rec t = pending_if urgent (message_of (moved_of urgent rec t))

unfoldable pub message_left : Bool → Record → Sending → List ℕ → List ℕ
message_left urgent rec t b = cond t.said.made (encode_of (message_by urgent rec t)) b

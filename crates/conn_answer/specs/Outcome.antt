-- Document 01, "The 44-byte message": what a call on one record answers and leaves, and making a message.
-- Assumes nothing.
use Rattle.std.specs.Prelude.{ℕ, ◌+◌, ◌%◌, Bool, true, false, cond, List, replicate}
use Rattle.cdc.specs.declared.Message.{Message}
use Rattle.cdc.specs.Cdc.{encode_of}
use Rattle.conn_record.specs.declared.Inbound.{Inbound}
use Rattle.conn_record.specs.declared.Outbound.{Outbound}
use Rattle.conn_record.specs.declared.Record.{Record}
use Rattle.conn_record.specs.Connection.{zero_record, t_to, next_to, inbound_to, outbound_to}
use Rattle.conn_answer.specs.declared.Reply.{Reply}
use Rattle.conn_answer.specs.declared.Reply.TheVariants.{Refused, Accepted, Sent, Read, Torn, Heard, Reset, Sampled}
use Rattle.conn_answer.specs.declared.Outcome.{Outcome}

-- each message carries the peer token, Q, C, our present B, P and U while an urgent place of our own stands, and D, C or A for the marks
-- we have sent; R and F stay zero
unfoldable pub message_of : Record → Message
message_of rec =
    record {
      sequence = rec.outbound.next;
      token = rec.id.peer;
      producer = rec.outbound.producer;
      consumer = rec.inbound.consumer;
      flags =
          record {
            blocked = rec.outbound.blocked;
            pending = rec.outbound.urgent.standing;
            urgent = rec.outbound.urgent.standing;
            request = false;
            failover = false;
            done = rec.marks.sent.done;
            closed = rec.marks.sent.closed;
            abort = rec.marks.abort;
          };
    }

-- the message of an urgent send that is cut short has P whatever stands
unfoldable pub pending_of : Message → Message
pending_of m =
    record {
      sequence = m.sequence;
      token = m.token;
      producer = m.producer;
      consumer = m.consumer;
      flags =
          record {
            blocked = m.flags.blocked;
            pending = true;
            urgent = m.flags.urgent;
            request = m.flags.request;
            failover = m.flags.failover;
            done = m.flags.done;
            closed = m.flags.closed;
            abort = m.flags.abort;
          };
    }

-- after 65,535 comes 0
abbrev pub sequence_after : ℕ → ℕ
sequence_after s = (s + 1) % 65536

-- making one sets T to C
unfoldable pub told_in : Inbound → Inbound
told_in i = t_to i i.consumer

-- and uses the next sequence number
unfoldable pub used_in : Outbound → Outbound
used_in o = next_to o (sequence_after o.next)

unfoldable pub told_of : Record → Record
told_of rec = outbound_to (inbound_to rec (told_in rec.inbound)) (used_in rec.outbound)

abbrev pub no_message : List ℕ
no_message = replicate 44 0

-- an answer without a message
abbrev pub silent_of : Reply → Record → Outcome
silent_of reply rec = record { reply = reply; made = false; message = no_message; after = rec }

-- a call that is accepted and left the record rec: a message is made where `tells`
unfoldable pub outcome_of : Reply → Bool → Record → Outcome
outcome_of reply tells rec =
    cond tells
    (record { reply = reply; made = true; message = encode_of (message_of rec); after = told_of rec })
    (silent_of reply rec)

-- an urgent send always makes one: m, which tells the record rec
unfoldable pub urgent_outcome : Reply → Message → Record → Outcome
urgent_outcome reply m rec = record { reply = reply; made = true; message = encode_of m; after = told_of rec }

-- a refusal returns its number only, and changes nothing
unfoldable pub refused_of : ℕ → Record → Outcome
refused_of k rec = silent_of (Refused k) rec

-- the slot is closed, where `shut`
unfoldable pub closed_if : Bool → Outcome → Outcome
closed_if shut o =
    cond shut (record { reply = o.reply; made = o.made; message = o.message; after = zero_record }) o

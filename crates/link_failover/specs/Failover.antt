-- Request 2026-13: which connections move when links go down, the record that a move leaves, and the message with F.
-- Assumes nothing.
use Rattle.std.specs.Prelude.{ℕ, ◌+◌, ◌*◌, ◌%◌, Bool, true, false, ◌&&◌, ◌||◌, not, cond, List, [], ◌∷◌, ◌++◌, map, ltb, leb, length, drop}
use Rattle.cdc.specs.declared.Message.{Message}
use Rattle.cdc.specs.Cdc.{encode_of}
use Rattle.layout.specs.Layout.{laid_at}
use Rattle.conn_record.specs.declared.Record.{Record}
use Rattle.conn_record.specs.Connection.{coherent_b}
use Rattle.conn_answer.specs.Outcome.{message_of}
use Rattle.group_table.specs.Table.{active_b}
use Rattle.link_failover.specs.declared.Plan.{Plan}

-- THE LINKS. "the lowest-numbered active link"; 0: none is active
unfoldable pub target_of : List Bool → ℕ
target_of after = cond (active_b after 1) 1 (cond (active_b after 2) 2 (cond (active_b after 3) 3 (cond (active_b after 4) 4 0)))

-- the links before a call and after it, and where connections move to
unfoldable pub plan_of : List Bool → List Bool → Plan
plan_of before after = record { before = before; after = after; target = target_of after }

-- link l went down: it was active before the call and is down after
unfoldable pub gone_b : Plan → ℕ → Bool
gone_b p l = active_b p.before l && not (active_b p.after l)

-- ONE RECORD. "every open, coherent connection on them moves", where a link is active after the call
unfoldable pub moves_b : ℕ → Plan → Record → Bool
moves_b N p c = (ltb 0 p.target && (c.id.opened && gone_b p c.id.link)) && coherent_b N c

-- "PeerAbortWait slots move but send nothing"
unfoldable pub tells_b : ℕ → Plan → Record → Bool
tells_b N p c = moves_b N p c && not c.marks.abort

-- the record on another link (a setter of a record: it belongs with those of `connection`)
abbrev pub link_to : Record → ℕ → Record
link_to c l =
    record {
      id = record { opened = c.id.opened; own = c.id.own; peer = c.id.peer; link = l };
      remote = c.remote;
      inbound = c.inbound;
      outbound = c.outbound;
      marks = c.marks;
    }

-- nothing else of the record changes: "it uses up no number and moves no cursor, T included"
unfoldable pub moved_of : ℕ → Plan → Record → Record
moved_of N p c = cond (moves_b N p c) (link_to c p.target) c

-- "its last sequence number sent, 0 before the first": open sets the next to 1, and after 65,535 comes 0
abbrev pub sequence_before : ℕ → ℕ
sequence_before s = (s + 65535) % 65536

-- the message of the record, but for its number and F
unfoldable pub failover_of : Record → Message
failover_of c =
    let m = message_of c in
    record {
      sequence = sequence_before c.outbound.next;
      token = m.token;
      producer = m.producer;
      consumer = m.consumer;
      flags =
          record {
            blocked = m.flags.blocked;
            pending = m.flags.pending;
            urgent = m.flags.urgent;
            request = m.flags.request;
            failover = true;
            done = m.flags.done;
            closed = m.flags.closed;
            abort = m.flags.abort;
          };
    }

-- its bytes, where the record tells; else none
unfoldable pub told_of : ℕ → Plan → Record → List ℕ
told_of N p c = cond (tells_b N p c) (encode_of (failover_of c)) []

-- THE TABLE. Every record moves or stays
unfoldable pub moved_all : ℕ → Plan → List Record → List Record
moved_all N p t = map (moved_of N p) t

-- "The messages stand in slot order"
unfoldable pub messages_of : ℕ → Plan → List Record → List ℕ
messages_of N p [] = []
messages_of N p (c ∷ t) = told_of N p c ++ messages_of N p t

-- "the answer counts them"
abbrev pub one : Bool → ℕ
one true = 1
one false = 0

unfoldable pub count_of : ℕ → Plan → List Record → ℕ
count_of N p [] = 0
count_of N p (c ∷ t) = one (tells_b N p c) + count_of N p t

-- "at the front of a lent buffer, whose rest stays"
unfoldable pub buffer_left : List ℕ → List ℕ → List ℕ
buffer_left messages b = messages ++ drop (length messages) b

-- WHAT THE CODE DOES, one record after the other, in a buffer of any length. At byte `at` of the buffer b the next message goes; one that
-- does not fit is left out
pub record Told : Type 0 where
  pub at : ℕ
  pub buffer : List ℕ

abbrev pub standing : ℕ → List ℕ → Told
standing at b = record { at = at; buffer = b }

unfoldable pub writes_b : Bool → Record → Told → Bool
writes_b goes c s = (goes && not c.marks.abort) && leb (s.at + 44) (length s.buffer)

unfoldable pub told_if : Bool → Record → Told → Told
told_if goes c s =
    cond (writes_b goes c s)
    (standing (s.at + 44) (laid_at s.buffer s.at (encode_of (failover_of c))))
    s

unfoldable pub told_by : ℕ → Plan → Record → Told → Told
told_by N p c s = told_if (moves_b N p c) c s

unfoldable pub told_from : ℕ → Plan → List Record → Told → Told
told_from N p [] s = s
told_from N p (c ∷ t) s = told_from N p t (told_by N p c s)

-- from the front of the buffer b
abbrev pub told_all : ℕ → Plan → List Record → List ℕ → Told
told_all N p t b = told_from N p t (standing 0 b)

-- whether anything can move
unfoldable pub any_gone : Plan → Bool
any_gone p = gone_b p 1 || (gone_b p 2 || (gone_b p 3 || gone_b p 4))

unfoldable pub some_b : Plan → Bool
some_b p = ltb 0 p.target && any_gone p

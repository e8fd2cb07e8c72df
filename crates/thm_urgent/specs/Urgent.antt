-- Urgent data (request 2026-04): claims about the rules that every contract cites. The first two are of any group, however it came about,
-- the third of any list of calls from any fresh group; the fourth is of two records, the ends of one connection, as far as one direction
-- goes. proofs/Urgent and proofs/UrgentEnds prove them. Assumes nothing.
use Rattle.std.specs.Prelude.{ℕ, ◌+◌, ◌≤◌, ◌<◌, ◌≡◌, true, false, List, [], ◌∷◌}
use Rattle.cursor.specs.Cursor.{data_of, gap_of}
use Rattle.cdc.specs.declared.Message.{Message}
use Rattle.cdc.specs.declared.Decoded.TheVariants.{Good}
use Rattle.cdc.specs.Cdc.{decode_of}
use Rattle.flow.specs.Flow.{room_of}
use Rattle.conn_record.specs.declared.Record.{Record}
use Rattle.conn_answer.specs.declared.Placings.{Placings}
use Rattle.conn_answer.specs.declared.Reply.TheVariants.{Refused, Sent}
use Rattle.conn_answer.specs.declared.Outcome.{Outcome}
use Rattle.conn_record.specs.Connection.{place_at, coherent_b}
use Rattle.conn_send.specs.Transmit.{urgent_send_of}
use Rattle.conn_receive.specs.Receive.{read_forbids, unread_of, read_of}
use Rattle.conn_hear.specs.Hear.{hear_of}
use Rattle.group_rules.specs.Rules.{Group, Request, Call, on, refusal, sent, answer, next, record_of_all}
use Rattle.thm_safety.specs.Statement.{Always, OpenAt, Sends}

-- an urgent place of our own stands at slot k; it is Q
abbrev pub Waits : Group → ℕ → Type 0
Waits g k = (record_of_all g k).outbound.urgent.standing ≡ true

abbrev pub PlaceIsQ : Record → Type 0
PlaceIsQ c = c.outbound.urgent.standing ≡ true → c.outbound.urgent.place ≡ c.outbound.producer

-- 1. WHILE IT STANDS Q DOES NOT MOVE, whatever call is made
abbrev pub QStays : Type 0
QStays =
    (g : Group) (c : Call) (k : ℕ) → OpenAt g k → OpenAt (next g c) k → Waits g k
    → (record_of_all (next g c) k).outbound.producer ≡ (record_of_all g k).outbound.producer

-- 2. AND EVERY SEND WAITS: one that is not refused takes 0 bytes, names no placings, makes no message, and changes nothing
pub record Nothing (g : Group) (c : Call) : Type 0 where
  pub takes_none : (answer g c).says ≡ sent 0 []
  pub tells_none : (answer g c).made ≡ false
  pub changes_none : next g c ≡ g

abbrev pub SendsWait : Type 0
SendsWait =
    (g : Group) (k : ℕ) (q : Request) → Sends q → Waits g k → ((n : ℕ) → (answer g (on k q)).says ≡ refusal n → ⊥) → Nothing g (on k q)

-- 3. FROM A FRESH GROUP THE PLACE IS Q, in every open slot where one stands
pub record AllAtQ (h : Group) : Type 0 where
  pub every_open : (k : ℕ) → OpenAt h k → PlaceIsQ (record_of_all h k)

abbrev pub AlwaysAtQ : Type 0
AlwaysAtQ = Always AllAtQ

-- 4. WE SEND AGAIN. A record hears the bytes of a message: it is not refused, neither side has sent A, and the slot stays open
pub record Hears (N : ℕ) (c : Record) (bytes : List ℕ) (m : Message) : Type 0 where
  pub reads : decode_of bytes ≡ Good m
  pub took : (n : ℕ) → (hear_of N true c m).reply ≡ Refused n → ⊥
  pub no_A : m.flags.abort ≡ false
  pub no_own_A : c.marks.abort ≡ false
  pub no_F : m.flags.failover ≡ false
  pub open_after : (hear_of N true c m).after.id.opened ≡ true

-- our record a, in a group whose elements have M bytes, and the peer's b, in one whose elements have N: both coherent, the peer's element
-- is the one that we write to, and the peer may read it
pub record Ends (M N : ℕ) (a b : Record) : Type 0 where
  pub ours : coherent_b M a ≡ true
  pub theirs : coherent_b N b ≡ true
  pub one_size : a.remote.size ≡ N
  pub may_read : read_forbids b.marks ≡ false

-- both have Q for the urgent place, and the peer has heard of all up to Q
pub record Pending (M N : ℕ) (a b : Record) : Type 0 where
  pub ends : Ends M N a b
  pub at_own_place : a.outbound.urgent ≡ place_at a.outbound.producer
  pub at_their_place : b.inbound.urgent ≡ place_at a.outbound.producer
  pub heard_all : b.inbound.producer ≡ a.outbound.producer

-- An urgent send taken whole, its message heard by a peer that had heard all before: the peer makes a message
pub record Announced (M N : ℕ) (a b : Record) (len : ℕ) (m : Message) : Type 0 where
  pub pending : Pending M N (urgent_send_of M true a len).after (hear_of N true b m).after
  pub answered : (hear_of N true b m).made ≡ true

abbrev pub UrgentHeard : Type 0
UrgentHeard =
    (M N : ℕ) (a b : Record) (len : ℕ) (p : Placings) (m : Message) → Ends M N a b → b.inbound.producer ≡ a.outbound.producer
    → 0 < len → (urgent_send_of M true a len).reply ≡ Sent len p → Hears N b (urgent_send_of M true a len).message m
    → Announced M N a b len m

-- The peer's reads of an element that is intact, each with its room in out, one after the other: one of them makes a message that tells all
-- up to Q, from which its consumer cursor is at distance 0
abbrev pub TellsAll : Record → Message → Type 0
TellsAll a m = gap_of (data_of a.remote.size) m.consumer a.outbound.producer ≡ 0

abbrev pub read_now : ℕ → Record → ℕ → Outcome
read_now N b room = read_of N true b true room

pub data Tells (N : ℕ) (a : Record) : Record → List ℕ → Type 0 where
  here : {b : Record} {room : ℕ} {rooms : List ℕ} (m : Message) → (read_now N b room).made ≡ true → decode_of (read_now N b room).message ≡ Good m
      → TellsAll a m → Tells N a b (room ∷ rooms)
  later : {b : Record} {room : ℕ} {rooms : List ℕ} → Tells N a (read_now N b room).after rooms → Tells N a b (room ∷ rooms)

abbrev pub sum_of : List ℕ → ℕ
sum_of [] = 0
sum_of (x ∷ l) = x + sum_of l

-- whatever the rooms, once they come to what is unread
abbrev pub UrgentRead : Type 0
UrgentRead =
    (M N : ℕ) (a b : Record) (rooms : List ℕ) → Pending M N a b → unread_of N b.inbound ≤ sum_of rooms → Tells N a b rooms

-- and such a message, heard by us, clears our place and leaves room
pub record Free (N : ℕ) (a : Record) : Type 0 where
  pub none_stands : a.outbound.urgent.standing ≡ false
  pub room : 0 < room_of N a.outbound.consumer a.outbound.producer

abbrev pub UrgentPassed : Type 0
UrgentPassed =
    (M : ℕ) (a : Record) (bytes : List ℕ) (m : Message) → coherent_b M a ≡ true → a.outbound.urgent ≡ place_at a.outbound.producer
    → TellsAll a m → Hears M a bytes m → Free a.remote.size (hear_of M true a m).after

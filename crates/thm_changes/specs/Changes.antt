-- Who may change what: seven claims about the rules that every contract cites (`answer`, `next`), of any group, however it came about, and
-- any call. proofs/Changes proves each. Assumes nothing.
use Rattle.std.specs.Prelude.{ℕ, ◌+◌, ◌*◌, ◌≤◌, ◌<◌, ◌≡◌, ◌⊎◌, ◌≢◌, true, false, ◌&&◌, ◌||◌, not, List, length}
use Rattle.std.proofs.Math.ListN.{get_elem?}
use Rattle.cursor.specs.declared.Cursor.{Cursor}
use Rattle.cursor.specs.Cursor.{data_of, good_b}
use Rattle.cdc.specs.declared.Message.{Message}
use Rattle.cdc.specs.declared.Decoded.TheVariants.{Good}
use Rattle.cdc.specs.Cdc.{encode_of, decode_of}
use Rattle.closing.specs.declared.Marks.{Marks}
use Rattle.closing.specs.declared.State.TheVariants.{Closed}
use Rattle.closing.specs.Closing.{marked}
use Rattle.element.specs.Element.{base_of}
use Rattle.conn_record.specs.declared.Record.{Record}
use Rattle.conn_record.specs.Connection.{zero_record}
use Rattle.link_failover.specs.Failover.{plan_of, moved_of}
use Rattle.link_calls.specs.Calls.{touched}
use Rattle.thm_links.specs.Statements as Link
use Rattle.thm_links.specs.Statements.{Call as LinkCall}
use Rattle.conn_record.specs.declared.Opening as Given
use Rattle.group_rules.specs.Rules.{Group, place, close, open_slot, free_slot, link_change, link_message, link_send, sample, Call, on, hear, manage, refusal, accepted, heard, answer, next, record_of_all, holder_of, links_of}
use Rattle.thm_order.specs.Statement.{hearer}
use Rattle.thm_safety.specs.Statement.{OpenAt, InData}
use Rattle.thm_safety.specs.Links.{call_of}

-- the slot on which a call acts: for hear, the one that has the token; 0: none
abbrev pub slot_of_all : Group → Call → ℕ
slot_of_all g (on k q) = k
slot_of_all g (hear b) = hearer g (decode_of b)
slot_of_all g (manage (open_slot k given)) = k
slot_of_all g (manage (free_slot k)) = k
slot_of_all g (manage (link_change l up b)) = 0
slot_of_all g (manage (link_message l bytes b)) = 0
slot_of_all g (manage (link_send l k vs b)) = 0
slot_of_all g (manage (sample l ms)) = 0

-- what a call leaves of a record that it does not act on: a call on the links may put it on another link (request 2026-13), and every
-- other call leaves it as it was
abbrev pub aside_of : Group → Call → Record → Record
aside_of g (on k q) r = r
aside_of g (hear b) r = r
aside_of g (manage (open_slot k given)) r = r
aside_of g (manage (free_slot k)) r = r
aside_of g (manage (link_change l up b)) r = moved_of g.N (plan_of g.links (next g (manage (link_change l up b))).links) r
aside_of g (manage (link_message l bytes b)) r = moved_of g.N (plan_of g.links (next g (manage (link_message l bytes b))).links) r
aside_of g (manage (link_send l k vs b)) r = moved_of g.N (plan_of g.links (next g (manage (link_send l k vs b))).links) r
aside_of g (manage (sample l ms)) r = r

-- 1. ONE RECORD. Every record but that of the slot acted on stays, in every field, its link aside where connections move. S, N, the table's length and the memory's stay.
pub record OneTurned (g : Group) (c : Call) (h : Group) : Type 0 where
  pub same_S : h.S ≡ g.S
  pub same_N : h.N ≡ g.N
  pub as_many : length h.table ≡ length g.table
  pub as_long : length h.memory ≡ length g.memory
  pub others : (k : ℕ) → k ≢ slot_of_all g c → record_of_all h k ≡ aside_of g c (record_of_all g k)

abbrev pub OneRecord : Type 0
OneRecord = (g : Group) (c : Call) → OneTurned g c (next g c)

-- 2. LINKS change by link change, link message and link send alone, as what they do to them says: one becomes active, or one goes down, or
-- all four do. The crate thm_links has the causes (`BecomesActive`, `GoesDown`, `AllGoDown`)
pub record Touches (g : Group) (c : Call) : Type 0 where
  pub call : LinkCall
  pub lent : List ℕ
  pub is : c ≡ call_of call lent
  pub touches : (next g c).links ≡ (touched (links_of g) (Link.does (links_of g) call).touch).active

abbrev pub LinksByLinkCalls : Type 0
LinksByLinkCalls = (g : Group) (c : Call) → ((next g c).links ≡ g.links) ⊎ Touches g c

-- 3. BYTES. A byte of the memory changes only by an accepted place on its slot that covers it, or by an accepted open of its slot.
-- Byte x lies in element k: bytes (k-1)N to kN-1
abbrev pub InElement : Group → ℕ → ℕ → Type 0
InElement g k x = (base_of g.N k ≤ x) × (x < k * g.N)

pub data MayChange (g : Group) (c : Call) (x : ℕ) : Type 0 where
  by_place : (k at : ℕ) (b : List ℕ) → c ≡ on k (place at b) → (answer g c).says ≡ accepted → InData g k x
      → base_of g.N k + at ≤ x → x < base_of g.N k + at + length b → MayChange g c x
  by_open : (k : ℕ) (given : Given.Opening) → c ≡ manage (open_slot k given) → (answer g c).says ≡ accepted → InElement g k x
      → MayChange g c x

abbrev pub BytesByPlaceAndOpen : Type 0
BytesByPlaceAndOpen = (g : Group) (c : Call) (x : ℕ) → (get_elem? (next g c).memory x ≡ get_elem? g.memory x) ⊎ MayChange g c x

-- 4. CLOSING. The message m is heard for slot k, which has its token, and is not refused
pub record HeardFor (g : Group) (c : Call) (k : ℕ) (m : Message) : Type 0 where
  pub bytes : List ℕ
  pub is : c ≡ hear bytes
  pub reads : decode_of bytes ≡ Good m
  pub holder : holder_of g m.token ≡ k
  pub took : (n : ℕ) → (answer g c).says ≡ refusal n → ⊥

abbrev pub marks_of : Group → ℕ → Marks
marks_of g k = (record_of_all g k).marks

-- a slot closes only by C with C, by A heard, or by free after A sent
pub data Closes (g : Group) (c : Call) (k : ℕ) : Type 0 where
  -- close sends C, and C was heard
  by_close : c ≡ on k close → (answer g c).says ≡ accepted → (marks_of g k).heard.closed ≡ true → Closes g c k
  -- C was heard, or is now, and C was sent (and no A, after which a message without A changes nothing; and no F, which closes nothing)
  by_hear : (m : Message) → HeardFor g c k m → ((marks_of g k).heard.closed || m.flags.closed) && (marks_of g k).sent.closed ≡ true
      → (marks_of g k).abort ≡ false → m.flags.failover ≡ false → Closes g c k
  by_abort : (m : Message) → HeardFor g c k m → m.flags.abort ≡ true → Closes g c k
  by_free : c ≡ manage (free_slot k) → (answer g c).says ≡ accepted → (marks_of g k).abort ≡ true → Closes g c k

-- it does by each of these, and a closed record is all zeros
pub record Closing (g : Group) (c : Call) (k : ℕ) : Type 0 where
  pub only_by : OpenAt (next g c) k ⊎ Closes g c k
  pub zeroed : Closes g c k → record_of_all (next g c) k ≡ zero_record

abbrev pub ClosedBy : Type 0
ClosedBy = (g : Group) (c : Call) (k : ℕ) → OpenAt g k → Closing g c k

-- 5. CURSORS. P and R of slot k, and the peer's element size N'
abbrev pub producer_of : Group → ℕ → Cursor
producer_of g k = (record_of_all g k).inbound.producer

abbrev pub peer_consumer_of : Group → ℕ → Cursor
peer_consumer_of g k = (record_of_all g k).outbound.consumer

abbrev pub peer_size_of : Group → ℕ → ℕ
peer_size_of g k = (record_of_all g k).remote.size

-- neither goes back: the distance from where it was to where it is, is good. P does not move once D or C was heard
pub record Forward (g h : Group) (k : ℕ) : Type 0 where
  pub P_forward : good_b (data_of g.N) (producer_of g k) (producer_of h k) ≡ true
  pub R_forward : good_b (data_of (peer_size_of g k)) (peer_consumer_of g k) (peer_consumer_of h k) ≡ true
  pub P_stays : marked (marks_of g k).heard ≡ true → producer_of h k ≡ producer_of g k

abbrev pub NeverBack : Type 0
NeverBack = (g : Group) (c : Call) (k : ℕ) → OpenAt g k → OpenAt (next g c) k → Forward g (next g c) k

-- 6. MARKS. A mark once sent or heard stays while the slot is open: D and C sent, D and C heard, ours first, A sent
pub record Kept (m n : Marks) : Type 0 where
  pub D_sent : m.sent.done ≡ true → n.sent.done ≡ true
  pub C_sent : m.sent.closed ≡ true → n.sent.closed ≡ true
  pub D_heard : m.heard.done ≡ true → n.heard.done ≡ true
  pub C_heard : m.heard.closed ≡ true → n.heard.closed ≡ true
  pub first : m.first ≡ true → n.first ≡ true
  pub A_sent : m.abort ≡ true → n.abort ≡ true

abbrev pub MarksStay : Type 0
MarksStay = (g : Group) (c : Call) (k : ℕ) → OpenAt g k → OpenAt (next g c) k → Kept (marks_of g k) (marks_of (next g c) k)

-- 7. A HEARD is answered by exactly one message, which has A, unless A was sent
pub record AbortAnswer (g : Group) (c : Call) (k : ℕ) : Type 0 where
  pub says_closed : (answer g c).says ≡ heard 0 Closed
  pub made_once : (answer g c).made ≡ not (marks_of g k).abort
  pub has_A :
      (answer g c).made ≡ true
      → (m : Message) × ((answer g c).message ≡ encode_of m) × (m.flags.abort ≡ true) × (m.token ≡ (record_of_all g k).id.peer)

abbrev pub AbortHeard : Type 0
AbortHeard = (g : Group) (c : Call) (k : ℕ) (m : Message) → HeardFor g c k m → m.flags.abort ≡ true → AbortAnswer g c k

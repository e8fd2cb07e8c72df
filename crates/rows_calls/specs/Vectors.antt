-- Document 01's soundings marked *, and worked examples, as rows of a single table. Every row is computed by `answer` and `next`, the rules
-- that the contract of each call cites, on a group that the row lays. proofs/Vectors has the one theorem: all rows are right.
-- Assumes nothing.
use Rattle.std.specs.Prelude.{ℕ, zero, suc, ◌+◌, ◌*◌, ◌/◌, ◌%◌, ◌^◌, ◌≡◌, Bool, true, false, cond, List, [], ◌∷◌, ◌++◌, map, ℤ, pos, negsuc, replicate, Float}
use Rattle.std.proofs.Math.Option.{Option, some, none}
use Rattle.std.specs.Float.{nan, binary64}
use Rattle.std.specs.Float.Ieee.{of_bits}
use Rattle.cursor.specs.declared.Cursor.{Cursor}
use Rattle.cursor.specs.Cursor.{data_of, distance_of}
use Rattle.cdc.specs.declared.Message.{Message}
use Rattle.cdc.specs.Cdc.{encode_of, whole_example}
use Rattle.closing.specs.declared.Marks.{Marks}
use Rattle.closing.specs.declared.State.TheVariants.{Active, PeerCloseWait1, PeerCloseWait2, AppCloseWait1, AppCloseWait2, PeerAbortWait}
use Rattle.closing.specs.declared.State.TheVariants.{Closed}
use Rattle.flow.specs.Flow.{window_of}
use Rattle.gauge.specs.declared.Gauge.{Gauge}
use Rattle.gauge.specs.declared.Health.TheVariants.{Steady, Late}
use Rattle.gauge.specs.Gauge.{cleared_of}
use Rattle.element.specs.Element.{fresh_element}
use Rattle.conn_record.specs.declared.Inbound.{Inbound}
use Rattle.conn_record.specs.declared.Outbound.{Outbound}
use Rattle.conn_record.specs.declared.RToken.{RToken}
use Rattle.conn_record.specs.declared.Remote.{Remote}
use Rattle.conn_answer.specs.declared.Placing.{Placing}
use Rattle.link_exchange.specs.declared.Role.TheVariants.{Client}
use Rattle.link_exchange.specs.Exchange.{no_exchange, empty_queue}
use Rattle.group_table.specs.declared.Links.{Links}
use Rattle.conn_record.specs.declared.Record.{Record}
use Rattle.conn_record.specs.declared.Opening.{Opening}
use Rattle.conn_record.specs.Connection.{zero_record, zero_token, no_place, place_at, no_marks}
use Rattle.conn_gather.specs.Pieces.{Piece}
use Rattle.group_table.specs.Table.{gauge_at}
use Rattle.group_rules.specs.Rules.{Group, send, gather, place, read, shutdown, close, abort, open_slot, free_slot, link_change, link_changed}
use Rattle.group_rules.specs.Rules.{sample, Call, on, hear, manage, Says, refusal, accepted, sent, gathered, was_read_of, torn, reset, heard}
use Rattle.group_rules.specs.Rules.{sampled, link_heard, link_sent, Answer, answer, next, record_of_all, group_of}

-- WHAT A ROW LAYS. An offset and a wrap number
abbrev pub cur : ℕ → ℕ → Cursor
cur c w = record { offset = c; wrap = w }

abbrev pub start : Cursor
start = cur 4 0

-- P, C and T; Q and R. Nothing else was heard, and no message was made
abbrev pub inwards : Cursor → Cursor → Cursor → Inbound
inwards p c t = record { producer = p; consumer = c; told = t; last = 0; blocked = false; request = false; urgent = no_place }

abbrev pub outwards : Cursor → Cursor → Outbound
outwards q r = record { producer = q; consumer = r; next = 1; blocked = false; urgent = no_place }

abbrev pub unmarked : Marks
unmarked = record { sent = no_marks; heard = no_marks; first = false; abort = false }

-- the tokens of two hosts: A's peer token is the page's
abbrev pub token_a : ℕ
token_a = 0x0A0B0C0D

abbrev pub token_b : ℕ
token_b = 0x01020304

-- the peer's element: N', its index, and its memory on links 1 to 4
abbrev pub reached : ℕ → ℕ → RToken → RToken → RToken → RToken → Remote
reached size index a b c d = record { size = size; index = index; link1 = a; link2 = b; link3 = c; link4 = d }

-- the first element of a memory that begins at 0 and has the key 0 on every link: an address there is an offset
abbrev pub flat : ℕ → Remote
flat size = reached size 1 zero_token zero_token zero_token zero_token

-- an open record: its link, its own token, the peer's, the peer's element, and the rest; and on link 1, with N' alone
abbrev pub laid_on : ℕ → ℕ → ℕ → Remote → Inbound → Outbound → Marks → Record
laid_on link own peer r i o m =
    record {
      id = record { opened = true; own = own; peer = peer; link = link };
      remote = r;
      inbound = i;
      outbound = o;
      marks = m;
    }

abbrev pub laid : ℕ → ℕ → ℕ → Inbound → Outbound → Marks → Record
laid own peer size i o m = laid_on 1 own peer (flat size) i o m

-- these links and gauges; no exchange, and none that waits
abbrev pub linked : List Bool → List Gauge → Links
linked active gauges = record { active = active; gauges = gauges; role = Client; exchange = no_exchange; queue = empty_queue }

abbrev pub a_group : ℕ → ℕ → List Record → List ℕ → Group
a_group s n table memory =
    group_of s n table (linked (true ∷ true ∷ false ∷ false ∷ []) (replicate 4 cleared_of)) memory

-- host A with one connection, R and Q in B's element of N' bytes
abbrev pub host_a : ℕ → Cursor → Cursor → Group
host_a size r q = a_group 1 8 (laid token_a token_b size (inwards start start start) (outwards q r) unmarked ∷ []) (fresh_element 8)

-- host B with one connection, P, C and T in its element of N bytes
abbrev pub host_b : ℕ → Cursor → Cursor → Cursor → Group
host_b n p c t = a_group 1 n (laid token_b token_a n (inwards p c t) (outwards start start) unmarked ∷ []) (fresh_element n)

-- k bytes to send, or an out buffer
abbrev pub bytes : ℕ → List ℕ
bytes k = replicate k 0

-- a placing of k bytes, the first of which is byte `start` of those offered: its key and address, and in a flat memory
abbrev pub placing_at : ℕ → ℕ → ℕ → ℕ → Placing
placing_at key address start k = record { key = key; address = address; start = start; len = k }

abbrev pub placing : ℕ → ℕ → ℕ → Placing
placing offset start k = placing_at 0 offset start k

-- a piece: its key, address and bytes
abbrev pub piece : ℕ → ℕ → List ℕ → Piece
piece key address b = record { key = key; address = address; bytes = b }

-- the k bytes of a number, high byte first
abbrev pub octets : ℕ → ℕ → List ℕ
octets zero x = []
octets (suc k) x = x / 256 ^ k % 256 ∷ octets k x

-- a message, as one number of 26 bytes, with eighteen bytes 00 after it: FE2C, sequence; token; reserved, producer wrap; producer offset;
-- reserved, consumer wrap; consumer offset; bytes 24 and 25
abbrev pub wire : ℕ → List ℕ
wire x = octets 26 x ++ replicate 18 0

-- A to B: P is at a cursor, and nothing else
abbrev pub produced : Cursor → Message
produced p =
    record {
      sequence = 1;
      token = token_b;
      producer = p;
      consumer = start;
      flags =
          record {
            blocked = false;
            pending = false;
            urgent = false;
            request = false;
            failover = false;
            done = false;
            closed = false;
            abort = false;
          };
    }

-- WHAT A ROW SAYS. Of calls one after the other:
pub data Line : Type 0 where
  -- what a call says, and the message that it makes, if one is made
  gives : Call → Says → Option (List ℕ) → Line
  -- the same, and the out buffer as the call leaves it
  hands : Call → Says → Option (List ℕ) → List ℕ → Line
  -- a slot's record, as it is now; and the memory
  slot : ℕ → Record → Line
  memory : List ℕ → Line
  -- a link's gauge
  gauge : ℕ → Gauge → Line

pub data Vector : Type 0 where
  -- N', and a cursor plus k: Q, of a send of k bytes
  steps : ℕ → Cursor → ℕ → Cursor → Vector
  -- N', R and Q: the room left, which is what a send of more bytes takes
  leaves : ℕ → Cursor → Cursor → Option ℕ → Vector
  -- N', R, Q and a length: n and the placings; the new Q; B
  sends : ℕ → Cursor → Cursor → ℕ → Says → Cursor → Bool → Vector
  -- N, T and a new P: the distance, and what hear says
  apart : ℕ → Cursor → Cursor → ℤ → Says → Vector
  -- N, T and P, and the room in out of a read from T on: the peer's window; how many bytes are read; whether a message is made
  updates : ℕ → Cursor → Cursor → ℕ → ℕ → Option ℕ → Bool → Vector
  -- a group, and calls
  plays : Group → List Line → Vector

-- THE ROW THAT THE RULES GIVE: with what they answer in the place of what the row says.
abbrev pub named : Says → Option ℕ
named (refusal k) = none
named accepted = none
named (sent n p) = some n
named (gathered n p) = some n
named (was_read_of n) = some n
named torn = none
named (heard moved state) = none
named reset = none
named (sampled q) = none
named (link_changed n) = none
named (link_heard fields fate up n) = none
named (link_sent up n) = none

abbrev pub message_in : Answer → Option (List ℕ)
message_in a = cond a.made (some a.message) none

unfoldable pub played : Group → List Line → List Line
played g [] = []
played g (gives c s m ∷ l) = gives c (answer g c).says (message_in (answer g c)) ∷ played (next g c) l
played g (hands c s m out ∷ l) = hands c (answer g c).says (message_in (answer g c)) (answer g c).out ∷ played (next g c) l
played g (slot k c ∷ l) = slot k (record_of_all g k) ∷ played g l
played g (memory m ∷ l) = memory g.memory ∷ played g l
played g (gauge k q ∷ l) = gauge k (gauge_at g.gauges k) ∷ played g l

unfoldable pub found : Vector → Vector
found (steps size c k e) = steps size c k (record_of_all (next (host_a size c c) (on 1 (send (bytes k)))) 1).outbound.producer
found (leaves size r q room) = leaves size r q (named (answer (host_a size r q) (on 1 (send (bytes size)))).says)
found (sends size r q len s e blocked) =
    let c = on 1 (send (bytes len)) in
    let after = record_of_all (next (host_a size r q) c) 1 in
    sends size r q len (answer (host_a size r q) c).says after.outbound.producer after.outbound.blocked
found (apart n t p z s) = apart n t p (distance_of (data_of n) t p) (answer (host_b n t t t) (hear (encode_of (produced p)))).says
found (updates n t p room window gain due) =
    let a = answer (host_b n p t t) (on 1 (read (bytes room))) in
    updates n t p room (window_of n t p) (named a.says) a.made
found (plays g l) = plays g (played g l)

-- WHAT THE WORKED EXAMPLES LAY. A fresh group of one slot; link 1 brought up, and slot 1 opened on it
abbrev pub fresh_group : ℕ → Group
fresh_group n =
    group_of 1 n (zero_record ∷ []) (linked (replicate 4 false) (replicate 4 cleared_of)) (replicate n 0)

abbrev pub given : ℕ → ℕ → ℕ → Opening
given own peer size = record { own = own; peer = peer; link = 1; remote = flat size }

-- a buffer for the messages of failover
abbrev pub lent : List ℕ
lent = replicate 88 0

abbrev pub up_and_open : ℕ → ℕ → ℕ → List Line
up_and_open own peer size =
    gives (manage (link_change 1 true lent)) (link_changed 0) none ∷ gives (manage (open_slot 1 (given own peer size))) accepted none ∷ []

-- a message heard, and one made
abbrev pub hears : ℕ → Call
hears x = hear (wire x)

abbrev pub told : ℕ → Option (List ℕ)
told x = some (wire x)

-- messages of the scenarios, A's and B's, by what they tell: the bytes up to an offset, a full element to the next wrap number
abbrev pub a3004 : ℕ
a3004 = 0xFE2C_0001_01020304_0000_0000_00000BBC_0000_0000_00000004_0000

abbrev pub a7004 : ℕ
a7004 = 0xFE2C_0002_01020304_0000_0000_00001B5C_0000_0000_00000004_0000

abbrev pub b7004 : ℕ
b7004 = 0xFE2C_0001_0A0B0C0D_0000_0000_00000004_0000_0000_00001B5C_0000

abbrev pub a_full : ℕ
a_full = 0xFE2C_0001_01020304_0000_0002_000003EC_0000_0000_00000004_8000

abbrev pub b_full : ℕ
b_full = 0xFE2C_0001_0A0B0C0D_0000_0000_00000004_0000_0002_000003EC_0000

-- a connection with every field different, D, C and B on and an urgent place of its own; and one that hears such a message
abbrev pub wide : Cursor
wide = cur 0x0123 0x4567

abbrev pub speaker : Record
speaker =
    laid 0xA1A2A3A4 0x11223344 65540 (inwards wide wide wide)
    (record { producer = cur 0xABCD 0x89EF; consumer = cur 0xABCC 0x89EF; next = 0x5566; blocked = true; urgent = place_at (cur 0xABCD 0x89EF) })
    (record { sent = record { done = true; closed = true }; heard = no_marks; first = true; abort = false })

abbrev pub listener : Record
listener =
    laid 0x11223344 0xA1A2A3A4 65540
    (record { producer = wide; consumer = wide; told = wide; last = 0x5565; blocked = false; request = false; urgent = no_place })
    (outwards (cur 0xABCD 0x89EF) (cur 0xAB00 0x89EF)) unmarked

abbrev pub listened : Record
listened =
    laid 0x11223344 0xA1A2A3A4 65540
    (record {
      producer = cur 0x0122 0x4568;
      consumer = wide;
      told = wide;
      last = 0x5566;
      blocked = true;
      request = true;
      urgent = place_at (cur 0x0122 0x4568);
    })
    (record { producer = cur 0xABCD 0x89EF; consumer = cur 0xABC0 0x89EF; next = 2; blocked = false; urgent = no_place })
    (record { sent = no_marks; heard = record { done = true; closed = false }; first = false; abort = false })

-- a connection at the start; with another next sequence number; with a full element at the peer, and B told
abbrev pub opened : ℕ → ℕ → Record
opened own peer = laid own peer 8 (inwards start start start) (outwards start start) unmarked

abbrev pub next_is : ℕ → Record
next_is s =
    laid token_a token_b 8 (inwards start start start)
    (record { producer = start; consumer = start; next = s; blocked = false; urgent = no_place }) unmarked

abbrev pub stopped : Record
stopped =
    laid token_b token_a 8 (inwards start start start)
    (record { producer = cur 4 1; consumer = start; next = 1; blocked = true; urgent = no_place }) unmarked

-- a connection that heard this number last
abbrev pub last_is : ℕ → Record
last_is s =
    laid token_a token_b 8
    (record { producer = start; consumer = start; told = start; last = s; blocked = false; request = false; urgent = no_place })
    (outwards start start) unmarked

-- B's messages to A, with a sequence number and byte 25 as given: 80 D, 40 C, 20 A; and A's to B
abbrev pub from_b : ℕ → ℕ → Call
from_b s l = hears (0xFE2C_0000_0A0B0C0D_0000_0000_00000004_0000_0000_00000004_0000 + s * 256 ^ 22 + l)

abbrev pub to_b : ℕ → ℕ → Option (List ℕ)
to_b s l = told (0xFE2C_0000_01020304_0000_0000_00000004_0000_0000_00000004_0000 + s * 256 ^ 22 + l)

-- a memory's key and its base; element 3 of one with others on each link
abbrev pub token : ℕ → ℕ → RToken
token key base = record { key = key; base = base }

abbrev pub far : Remote
far = reached 8 3 (token 0xC1 0x1000) (token 0xC2 0x123456789ABC0000) (token 0xC3 0x3000) (token 0xFFFFFFFF 0x4000)

-- slot 1 opened on link 1, N' 8, with an index, and its base on link 1 and on link 4
abbrev pub edge : ℕ → ℕ → ℕ → Remote
edge index own other = reached 8 index (token 7 own) zero_token zero_token (token 8 other)

abbrev pub open_edge : ℕ → ℕ → ℕ → Call
open_edge index own other = manage (open_slot 1 (record { own = token_a; peer = token_b; link = 1; remote = edge index own other }))

-- a record with such an element
abbrev pub on_edge : ℕ → ℕ → ℕ → Record
on_edge index own other = laid_on 1 token_a token_b (edge index own other) (inwards start start start) (outwards start start) unmarked

-- a double by its bits; a gauge; a group with such a gauge at link 1, which is active, and at link 3, which is down
abbrev pub double : ℕ → Float
double b = of_bits binary64 b

abbrev pub gauged : ℕ → ℕ → ℕ → Bool → Gauge
gauged mean worst count late = record { mean = double mean; worst = double worst; count = count; late = late }

abbrev pub laid_gauge : Gauge → Group
laid_gauge q =
    group_of 1 8 (zero_record ∷ []) (linked (true ∷ false ∷ false ∷ false ∷ []) (q ∷ cleared_of ∷ q ∷ cleared_of ∷ [])) (bytes 8)

-- a sample's answer
abbrev pub steady : ℕ → Says
steady mean = sampled (Steady (double mean))

abbrev pub late : ℕ → ℕ → Says
late mean worst = sampled (Late (double mean) (double worst))

-- THE ROWS. Those marked * come first, in the page's order. N is 10,000 unless said.
unfoldable pub vectors : List Vector
vectors =
    -- (4,0) plus 1,000 is (1004,0); room left 8,996
    steps 10000 (cur 4 0) 1000 (cur 1004 0)
    ∷ leaves 10000 (cur 4 0) (cur 1004 0) (some 8996)
    -- (1004,0), empty, 9,996 sent: placings 1004 for 8,996 and 4 for 1,000; (1004,1); room 0
    ∷ sends 10000 (cur 1004 0) (cur 1004 0) 9996 (sent 9996 (placing 1004 0 8996 ∷ placing 4 8996 1000 ∷ [])) (cur 1004 1) false
    ∷ leaves 10000 (cur 1004 0) (cur 1004 1) (some 0)
    -- (9999,0) plus 1: (4,1); (9999,65535) plus 1: (4,0)
    ∷ steps 10000 (cur 9999 0) 1 (cur 4 1)
    ∷ steps 10000 (cur 9999 65535) 1 (cur 4 0)
    -- distance (1004,0) to (1003,1): 9,995; to (1005,1): 9,997, refused; to (1003,0): -1, refused
    ∷ apart 10000 (cur 1004 0) (cur 1003 1) (pos 9995) (heard 9995 Active)
    ∷ apart 10000 (cur 1004 0) (cur 1005 1) (pos 9997) (refusal 8)
    ∷ apart 10000 (cur 1004 0) (cur 1003 0) (negsuc 0) (refusal 8)
    -- (4,65535) to (4,0): 9,996, full
    ∷ apart 10000 (cur 4 65535) (cur 4 0) (pos 9996) (heard 9996 Active)
    ∷ leaves 10000 (cur 4 65535) (cur 4 0) (some 0)
    -- peer's window 4,998: no update (with any gain); 4,997 with gain 1,000: update; with gain 999: none
    ∷ updates 10000 (cur 4 0) (cur 5002 0) 9996 4998 (some 4998) false
    ∷ updates 10000 (cur 4 0) (cur 5003 0) 1000 4997 (some 1000) true
    ∷ updates 10000 (cur 4 0) (cur 5003 0) 999 4997 (some 999) false
    -- N' 8, room 4, Q (7,0), six bytes: n 4, placings 7 for 1 and 4 for 3, Q (7,1), B on
    ∷ leaves 8 (cur 7 0) (cur 7 0) (some 4)
    ∷ sends 8 (cur 7 0) (cur 7 0) 6 (sent 4 (placing 7 0 1 ∷ placing 4 1 3 ∷ [])) (cur 7 1) true
    -- ADDRESSES (2026-09). Element 3 of 8 bytes, on link 2, N 12: the same placings, at base + 16
    ∷ plays
    (a_group 1 12 (laid_on 2 token_a token_b far (inwards start start start) (outwards (cur 7 0) (cur 7 0)) unmarked ∷ []) (fresh_element 12))
    (gives (on 1 (send (bytes 6))) (sent 4 (placing_at 0xC2 0x123456789ABC0017 0 1 ∷ placing_at 0xC2 0x123456789ABC0014 1 3 ∷ []))
    (told 0xFE2C_0001_01020304_0000_0001_00000007_0000_0000_00000004_8000)
    ∷ [])
    -- 12: an index outside 1 to 255; a last byte past the top of 64 bits, on the own link or on another. Up to the top it is sent
    ∷ plays (fresh_group 8)
    (gives (manage (link_change 1 true lent)) (link_changed 0) none
    ∷ gives (open_edge 0 0 0) (refusal 12) none
    ∷ gives (open_edge 256 0 0) (refusal 12) none
    ∷ gives (open_edge 1 0xFFFFFFFF_FFFFFFF9 0) (refusal 12) none
    ∷ gives (open_edge 1 0 0xFFFFFFFF_FFFFFFF9) (refusal 12) none
    ∷ gives (open_edge 255 0 0xFFFFFFFF_FFFFF809) (refusal 12) none
    ∷ gives (open_edge 255 0xFFFFFFFF_FFFFF808 0xFFFFFFFF_FFFFF808) accepted none
    ∷ gives (on 1 (send (bytes 4))) (sent 4 (placing_at 7 0xFFFFFFFF_FFFFFFFC 0 4 ∷ []))
    (told 0xFE2C_0001_01020304_0000_0001_00000004_0000_0000_00000004_0000)
    ∷ [])
    -- and 3, of a record laid so
    ∷ plays (a_group 1 8 (on_edge 1 0xFFFFFFFF_FFFFFFF8 0xFFFFFFFF_FFFFFFF8 ∷ []) (fresh_element 8))
    (gives (on 1 (send [])) (sent 0 []) none ∷ [])
    ∷ plays (a_group 1 8 (on_edge 0 0 0 ∷ []) (fresh_element 8)) (gives (on 1 (send [])) (refusal 3) none ∷ [])
    ∷ plays (a_group 1 8 (on_edge 256 0 0 ∷ []) (fresh_element 8)) (gives (on 1 (send [])) (refusal 3) none ∷ [])
    ∷ plays (a_group 1 8 (on_edge 1 0xFFFFFFFF_FFFFFFF9 0 ∷ []) (fresh_element 8)) (gives (on 1 (send [])) (refusal 3) none ∷ [])
    ∷ plays (a_group 1 8 (on_edge 1 0 0xFFFFFFFF_FFFFFFF9 ∷ []) (fresh_element 8)) (gives (on 1 (send [])) (refusal 3) none ∷ [])
    -- IN PIECES (2026-08). The same element: the wrap cuts the head, and n the body; the empty one is at the new Q, B is on. Then nothing
    -- fits
    ∷ plays
    (a_group 1 8 (laid_on 2 token_a token_b far (inwards start start start) (outwards (cur 7 0) (cur 7 0)) unmarked ∷ []) (fresh_element 8))
    (gives (on 1 (gather (0xA1 ∷ 0xA2 ∷ []) (0xB1 ∷ 0xB2 ∷ 0xB3 ∷ 0xB4 ∷ [])))
    (gathered 4
    (piece 0xC2 0x123456789ABC0017 (0xA1 ∷ [])
    ∷ piece 0xC2 0x123456789ABC0014 (0xA2 ∷ [])
    ∷ piece 0xC2 0x123456789ABC0015 (0xB1 ∷ 0xB2 ∷ [])
    ∷ piece 0xC2 0x123456789ABC0017 []
    ∷ []))
    (told 0xFE2C_0001_01020304_0000_0001_00000007_0000_0000_00000004_8000)
    ∷ gives (on 1 (gather (0xA1 ∷ []) (0xB1 ∷ []))) (gathered 0 (piece 0xC2 0x123456789ABC0017 [] ∷ [])) none
    ∷ [])
    -- both empty; no head; a head alone, up to the element's end, where the empty one wraps too; refused as a send
    ∷ plays (host_a 8 start start)
    (gives (on 1 (gather [] [])) (gathered 0 (piece 0 4 [] ∷ [])) none
    ∷ gives (on 1 (gather [] (0xB1 ∷ 0xB2 ∷ []))) (gathered 2 (piece 0 4 (0xB1 ∷ 0xB2 ∷ []) ∷ piece 0 6 [] ∷ []))
    (told 0xFE2C_0001_01020304_0000_0000_00000006_0000_0000_00000004_0000)
    ∷ gives (on 1 (gather (0xA1 ∷ 0xA2 ∷ []) [])) (gathered 2 (piece 0 6 (0xA1 ∷ 0xA2 ∷ []) ∷ piece 0 4 [] ∷ []))
    (told 0xFE2C_0002_01020304_0000_0001_00000004_0000_0000_00000004_0000)
    ∷ gives (on 1 shutdown) accepted (told 0xFE2C_0003_01020304_0000_0001_00000004_0000_0000_00000004_0080)
    ∷ gives (on 1 (gather [] [])) (refusal 7) none
    ∷ [])
    -- SCENARIO 1. A sends 1,000 bytes: the page's whole example
    ∷ plays (fresh_group 10000)
    (up_and_open token_a token_b 10000 ++ gives (on 1 (send (bytes 1000))) (sent 1000 (placing 4 0 1000 ∷ [])) (some whole_example) ∷ [])
    -- B: the bytes are placed and announced, a read for 10,000 takes 1,000, and no update is needed. SCENARIO 2: 500 bytes are sent back,
    -- in a message that tells C too
    ∷ plays (fresh_group 10000)
    (up_and_open token_b token_a 10000
    ++ gives (on 1 (place 4 (replicate 1000 0x5A))) accepted none
    ∷ gives (hear whole_example) (heard 1000 Active) none
    ∷ hands (on 1 (read (bytes 10000))) (was_read_of 1000) none (replicate 1000 0x5A ++ bytes 9000)
    ∷ gives (on 1 (send (bytes 500))) (sent 500 (placing 4 0 500 ∷ []))
    (told 0xFE2C_0001_0A0B0C0D_0000_0000_000001F8_0000_0000_000003EC_0000)
    ∷ [])
    -- SCENARIO 3. A sends 3,000 bytes, then 4,000
    ∷ plays (fresh_group 10000)
    (up_and_open token_a token_b 10000
    ++ gives (on 1 (send (bytes 3000))) (sent 3000 (placing 4 0 3000 ∷ [])) (told a3004)
    ∷ gives (on 1 (send (bytes 4000))) (sent 4000 (placing 3004 0 4000 ∷ [])) (told a7004)
    ∷ gives (hears b7004) (heard 0 Active) none
    ∷ [])
    -- B reads each; the window is 6,996, then 2,996: an update
    ∷ plays (fresh_group 10000)
    (up_and_open token_b token_a 10000
    ++ gives (hears a3004) (heard 3000 Active) none
    ∷ gives (on 1 (read (bytes 10000))) (was_read_of 3000) none
    ∷ gives (hears a7004) (heard 4000 Active) none
    ∷ gives (on 1 (read (bytes 10000))) (was_read_of 4000) (told b7004)
    ∷ [])
    -- SCENARIO 4. Both stand at (1004,1); A sends 20,000 bytes: a full element, B on
    ∷ plays (host_a 10000 (cur 1004 1) (cur 1004 1))
    (gives (on 1 (send (bytes 20000))) (sent 9996 (placing 1004 0 8996 ∷ placing 4 8996 1000 ∷ [])) (told a_full)
    -- nothing fits, and B was told: no message
    ∷ gives (on 1 (send (bytes 10004))) (sent 0 []) none
    -- all was read: another element, B on
    ∷ gives (hears b_full) (heard 0 Active) none
    ∷ gives (on 1 (send (bytes 10004))) (sent 9996 (placing 1004 0 8996 ∷ placing 4 8996 1000 ∷ []))
    (told 0xFE2C_0002_01020304_0000_0003_000003EC_0000_0000_00000004_8000)
    -- and the last 8 bytes, B off
    ∷ gives (hears 0xFE2C_0002_0A0B0C0D_0000_0000_00000004_0000_0003_000003EC_0000) (heard 0 Active) none
    ∷ gives (on 1 (send (bytes 8))) (sent 8 (placing 1004 0 8 ∷ []))
    (told 0xFE2C_0003_01020304_0000_0003_000003F4_0000_0000_00000004_0000)
    ∷ [])
    -- B: an equal offset with another wrap number is a full element, and because B was on, the read is told
    ∷ plays (host_b 10000 (cur 1004 1) (cur 1004 1) (cur 1004 1))
    (gives (hears a_full) (heard 9996 Active) none ∷ gives (on 1 (read (bytes 10000))) (was_read_of 9996) (told b_full) ∷ [])
    -- THE MESSAGE. Every field different and every flag of ours on but R and F
    ∷ plays (a_group 1 300 (speaker ∷ []) (fresh_element 300))
    (gives (on 1 abort) accepted (told 0xFE2C_5566_11223344_0000_89EF_0000ABCD_0000_4567_00000123_E0E0) ∷ [])
    -- read, with P and all that is reserved on: nothing looks at them. R is on and T is C, but U moves P: one message
    ∷ plays (a_group 1 300 (listener ∷ []) (fresh_element 300))
    (gives (hears 0xFE2C_5566_11223344_FFFF_4568_00000122_FFFF_89EF_0000ABC0_F79F) (heard 295 AppCloseWait1)
    (told 0xFE2C_0001_A1A2A3A4_0000_89EF_0000ABCD_0000_4567_00000123_0000)
    ∷ slot 1 listened
    ∷ [])
    -- sequence 65,535 goes on to 0
    ∷ plays (a_group 1 8 (next_is 65535 ∷ []) (fresh_element 8))
    (gives (on 1 shutdown) accepted (to_b 65535 0x80) ∷ gives (on 1 abort) accepted (to_b 0 0xA0) ∷ [])
    -- WHEN ONE IS MADE. The R flag is answered where T differs from C, and not once T is C
    ∷ plays (host_b 8 (cur 6 0) (cur 6 0) (cur 4 0))
    (gives (hears 0xFE2C_0001_01020304_0000_0000_00000006_0000_0000_00000004_1000) (heard 0 Active)
    (told 0xFE2C_0001_0A0B0C0D_0000_0000_00000004_0000_0000_00000006_0000)
    ∷ gives (hears 0xFE2C_0002_01020304_0000_0000_00000006_0000_0000_00000004_1000) (heard 0 Active) none
    ∷ [])
    -- a read of one byte is told where B stood in the last message heard, or R, and else not; our own B, on here, is in each message
    ∷ plays (a_group 1 100 (stopped ∷ []) (fresh_element 100))
    (gives (hears 0xFE2C_0001_01020304_0000_0000_00000009_0000_0000_00000004_8000) (heard 5 Active) none
    ∷ gives (on 1 (read (bytes 1))) (was_read_of 1) (told 0xFE2C_0001_0A0B0C0D_0000_0001_00000004_0000_0000_00000005_8000)
    ∷ gives (hears 0xFE2C_0002_01020304_0000_0000_00000009_0000_0000_00000004_1000) (heard 0 Active) none
    ∷ gives (on 1 (read (bytes 1))) (was_read_of 1) (told 0xFE2C_0002_0A0B0C0D_0000_0001_00000004_0000_0000_00000006_8000)
    ∷ gives (hears 0xFE2C_0003_01020304_0000_0000_00000009_0000_0000_00000004_0000) (heard 0 Active) none
    ∷ gives (on 1 (read (bytes 1))) (was_read_of 1) none
    ∷ [])
    -- of two slots that were laid with one token, the lowest hears
    ∷ plays (a_group 2 8 (opened token_b token_a ∷ opened token_b token_a ∷ []) (fresh_element 8 ++ fresh_element 8))
    (gives (hears 0xFE2C_0001_01020304_0000_0000_00000005_0000_0000_00000004_0000) (heard 1 Active) none
    ∷ gives (on 1 (read (bytes 4))) (was_read_of 1) none
    ∷ gives (on 2 (read (bytes 4))) (was_read_of 0) none
    ∷ [])
    -- AN ELEMENT'S BYTES. Open zeroes slot 2's element, which holds others, and writes the eye catcher; nothing else changes
    ∷ plays (a_group 2 8 (zero_record ∷ zero_record ∷ []) (replicate 16 0x55))
    (gives (manage (open_slot 2 (given token_a token_b 8))) accepted none
    ∷ memory (octets 16 0x55555555_55555555_E2D4C3D9_00000000)
    ∷ slot 1 zero_record
    ∷ slot 2 (opened token_a token_b)
    ∷ [])
    -- another last byte of the eye catcher: torn, an abort message, out untouched
    ∷ plays (a_group 1 8 (opened token_a token_b ∷ []) (octets 8 0xE2D4C3D8_00000000))
    (hands (on 1 (read (0x11 ∷ 0x22 ∷ []))) torn (to_b 1 0x20) (0x11 ∷ 0x22 ∷ []) ∷ [])
    -- placed up to the end and from 4 on, read in that order; out beyond n stays
    ∷ plays (host_b 16 (cur 15 0) (cur 15 0) (cur 15 0))
    (gives (on 1 (place 15 (0xA1 ∷ []))) accepted none
    ∷ gives (on 1 (place 4 (0xB2 ∷ 0xC3 ∷ []))) accepted none
    ∷ memory (octets 16 0xE2D4C3D9_B2C30000_00000000_000000A1)
    ∷ gives (hears 0xFE2C_0001_01020304_0000_0001_00000006_0000_0000_00000004_0000) (heard 3 Active) none
    ∷ hands (on 1 (read (replicate 5 0xFF))) (was_read_of 3) none (octets 5 0xA1B2C3FFFF)
    ∷ [])
    -- two bytes were read and the peer was not told: they are not free. No bytes: accepted at any offset
    ∷ plays (host_b 8 (cur 6 0) (cur 6 0) (cur 4 0))
    (gives (on 1 (place 4 (1 ∷ []))) (refusal 9) none
    ∷ gives (on 1 (place 6 (1 ∷ 2 ∷ []))) accepted none
    ∷ gives (on 1 (place 6 (1 ∷ 2 ∷ 3 ∷ []))) (refusal 9) none
    ∷ gives (on 1 (place 3 (1 ∷ []))) (refusal 9) none
    ∷ gives (on 1 (place 0 [])) accepted none
    ∷ [])
    -- FIGURE 22. Ours first
    ∷ plays (host_a 8 start start)
    (gives (from_b 1 0x00) (heard 0 Active) none
    ∷ gives (on 1 shutdown) accepted (to_b 1 0x80)
    ∷ gives (from_b 2 0x00) (heard 0 PeerCloseWait1) none
    ∷ gives (from_b 3 0x80) (heard 0 PeerCloseWait2) none
    ∷ gives (on 1 close) accepted (to_b 2 0xC0)
    ∷ gives (from_b 4 0x00) (heard 0 PeerCloseWait2) none
    ∷ gives (from_b 5 0x40) (heard 0 Closed) none
    ∷ slot 1 zero_record
    ∷ [])
    -- theirs first
    ∷ plays (host_a 8 start start)
    (gives (from_b 1 0x80) (heard 0 AppCloseWait1) none
    ∷ gives (on 1 shutdown) accepted (to_b 1 0x80)
    ∷ gives (from_b 2 0x00) (heard 0 AppCloseWait2) none
    ∷ gives (from_b 3 0x40) (heard 0 AppCloseWait2) none
    ∷ gives (on 1 close) accepted (to_b 2 0xC0)
    ∷ slot 1 zero_record
    ∷ gives (from_b 4 0x00) (refusal 5) none
    ∷ [])
    -- C without D, then an abort of ours, and free
    ∷ plays (host_a 8 start start)
    (gives (on 1 close) accepted (to_b 1 0x40)
    ∷ gives (from_b 1 0x00) (heard 0 PeerCloseWait1) none
    ∷ gives (from_b 2 0x80) (heard 0 PeerCloseWait2) none
    ∷ gives (manage (free_slot 1)) (refusal 7) none
    ∷ gives (on 1 abort) accepted (to_b 2 0x60)
    ∷ gives (from_b 3 0x00) (heard 0 PeerAbortWait) none
    ∷ gives (manage (free_slot 1)) accepted none
    ∷ slot 1 zero_record
    ∷ [])
    -- an abort of theirs is answered by one
    ∷ plays (host_a 8 start start) (gives (from_b 1 0x20) (heard 0 Closed) (to_b 1 0x20) ∷ slot 1 zero_record ∷ [])
    -- THE NUMBER IS NEXT. The first is 1; none is taken twice, and none is passed over
    ∷ plays (host_a 8 start start)
    (gives (from_b 0 0x00) (refusal 16) none
    ∷ gives (from_b 2 0x00) (refusal 16) none
    ∷ gives (from_b 1 0x00) (heard 0 Active) none
    ∷ gives (from_b 1 0x00) (refusal 16) none
    ∷ gives (from_b 3 0x00) (refusal 16) none
    ∷ gives (from_b 2 0x00) (heard 0 Active) none
    ∷ [])
    -- 65,535 goes on to 0
    ∷ plays (a_group 1 8 (last_is 65535 ∷ []) (fresh_element 8))
    (gives (from_b 1 0x00) (refusal 16) none ∷ gives (from_b 0 0x00) (heard 0 Active) none ∷ [])
    -- 16 is tested before 8: here P is out of range too
    ∷ plays (host_a 8 start start)
    (gives (hears 0xFE2C_0002_0A0B0C0D_0000_0000_00000008_0000_0000_00000004_0000) (refusal 16) none
    ∷ gives (hears 0xFE2C_0001_0A0B0C0D_0000_0000_00000008_0000_0000_00000004_0000) (refusal 8) none
    ∷ [])
    -- a message with A is exempt, and any heard after our A
    ∷ plays (host_a 8 start start) (gives (from_b 9 0x20) (heard 0 Closed) (to_b 1 0x20) ∷ [])
    ∷ plays (host_a 8 start start)
    (gives (on 1 abort) accepted (to_b 1 0x20) ∷ gives (from_b 9 0x00) (heard 0 PeerAbortWait) none ∷ [])
    -- CLOSE WITH AN UNREAD BYTE: A is sent and C is not, and the slot stays open though C was heard
    ∷ plays (host_b 8 (cur 5 0) (cur 4 0) (cur 4 0))
    (gives (hears 0xFE2C_0001_01020304_0000_0000_00000005_0000_0000_00000004_0040) (heard 0 AppCloseWait1) none
    ∷ gives (on 1 close) reset (told 0xFE2C_0001_0A0B0C0D_0000_0000_00000004_0000_0000_00000004_0020)
    ∷ gives (on 1 (read (bytes 1))) (refusal 7) none
    ∷ gives (manage (free_slot 1)) accepted none
    ∷ slot 1 zero_record
    ∷ [])
    -- shutdown does not look at unread bytes; D is carried where it was sent
    ∷ plays (host_b 8 (cur 5 0) (cur 4 0) (cur 4 0))
    (gives (on 1 shutdown) accepted (told 0xFE2C_0001_0A0B0C0D_0000_0000_00000004_0000_0000_00000004_0080)
    ∷ gives (on 1 close) reset (told 0xFE2C_0002_0A0B0C0D_0000_0000_00000004_0000_0000_00000004_00A0)
    ∷ [])
    -- SAMPLES (request 2026-10). The first, 100, is the mean and the worst; exactly 4 x 100 + 20 is not late; the mean goes to 140
    ∷ plays (laid_gauge cleared_of)
    (gives (manage (sample 1 100)) (steady 0x4059000000000000) none
    ∷ gives (manage (sample 1 420)) (steady 0x4061800000000000) none
    ∷ gauge 1 (gauged 0x4061800000000000 0x407A400000000000 2 false)
    ∷ [])
    -- one above is late, with its mean, 140.125, and its worst, which stays when the link is steady again
    ∷ plays (laid_gauge cleared_of)
    (gives (manage (sample 1 100)) (steady 0x4059000000000000) none
    ∷ gives (manage (sample 1 421)) (late 0x4061840000000000 0x407A500000000000) none
    ∷ gives (manage (sample 1 0)) (steady 0x405EA70000000000) none
    ∷ gauge 1 (gauged 0x405EA70000000000 0x407A500000000000 3 false)
    ∷ [])
    -- 13, then 6, then 17; a link that goes down, or was down, loses its gauge
    ∷ plays (laid_gauge (gauged 0x4059000000000000 0x4059000000000000 255 true))
    (gives (manage (sample 5 60001)) (refusal 13) none
    ∷ gives (manage (sample 3 60001)) (refusal 6) none
    ∷ gives (manage (sample 1 60001)) (refusal 17) none
    ∷ gives (manage (sample 1 60000)) (late 0x40BDA38000000000 0x40ED4C0000000000) none
    ∷ gauge 1 (gauged 0x40BDA38000000000 0x40ED4C0000000000 8 true)
    ∷ gives (manage (link_change 3 false lent)) (link_changed 0) none
    ∷ gauge 3 cleared_of
    ∷ gives (manage (link_change 1 false lent)) (link_changed 0) none
    ∷ gives (manage (link_change 1 true lent)) (link_changed 0) none
    ∷ gives (manage (sample 1 7)) (steady 0x401C000000000000) none
    ∷ [])
    -- each operation rounds once: 0.1 + (8 - 0.1) x 0.125
    ∷ plays (laid_gauge (gauged 0x3FB999999999999A 0x3FB999999999999A 8 false))
    (gives (manage (sample 1 8)) (steady 0x3FF1666666666667) none
    ∷ [])
    -- a mean that is not a number, and one that is minus infinity
    ∷ plays (laid_gauge (gauged 0x7FF8000000000000 0x7FF8000000000000 1 true))
    (gives (manage (sample 1 7)) (sampled (Steady nan)) none
    ∷ gauge 1 (record { mean = nan; worst = nan; count = 2; late = false })
    ∷ [])
    ∷ plays (laid_gauge (gauged 0xFFF0000000000000 0xFFF0000000000000 1 false))
    (gives (manage (sample 1 7)) (sampled (Late nan (double 0x401C000000000000))) none ∷ [])
    ∷ []

-- computed by the rules, every row is the row that stands there
abbrev pub VectorsRight : Type 0
VectorsRight = map found vectors ≡ vectors

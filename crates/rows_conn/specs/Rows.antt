-- WHAT A ROW IS: a whole group, a call, and what `answer` and `next` make of them: every field of the answer and the whole group left.
-- Records, bytes and numbers are written here from document 01 and RFC 7609, A.4; no definition of a rule stands in what a row lays or
-- expects. Assumes nothing.
use Rattle.std.specs.Prelude.{ℕ, zero, suc, ◌+◌, ◌/◌, ◌%◌, ◌^◌, ◌≡◌, Bool, true, false, List, [], ◌∷◌, ◌++◌, map, replicate, pos}
use Rattle.std.specs.Float.{fin}
use Rattle.cursor.specs.declared.Cursor.{Cursor}
use Rattle.closing.specs.declared.Side.{Side}
use Rattle.closing.specs.declared.Marks.{Marks}
use Rattle.gauge.specs.declared.Gauge.{Gauge}
use Rattle.link_exchange.specs.declared.Role.TheVariants.{Server}
use Rattle.link_exchange.specs.declared.Exchange.{Exchange}
use Rattle.link_exchange.specs.declared.Waiting.{Waiting}
use Rattle.link_exchange.specs.declared.Queue.{Queue}
use Rattle.conn_record.specs.declared.Identity.{Identity}
use Rattle.conn_record.specs.declared.RToken.{RToken}
use Rattle.conn_record.specs.declared.Remote.{Remote}
use Rattle.conn_record.specs.declared.Urgent.{Urgent}
use Rattle.conn_record.specs.declared.Inbound.{Inbound}
use Rattle.conn_record.specs.declared.Outbound.{Outbound}
use Rattle.conn_record.specs.declared.Record.{Record}
use Rattle.group_rules.specs.Rules.{Group, Request, Call, on, hear, Says, refusal, Done, answer, next}

-- BYTES. n bytes, each of which is its own place, from i on
abbrev pub from : ℕ → ℕ → List ℕ
from i zero = []
from i (suc n) = i ∷ from (i + 1) n

abbrev pub zeros : ℕ → List ℕ
zeros n = replicate n 0

-- the k bytes of a number, high byte first
abbrev pub octets : ℕ → ℕ → List ℕ
octets zero x = []
octets (suc k) x = x / 256 ^ k % 256 ∷ octets k x

-- a message, as one number of 26 bytes, with eighteen bytes 00 after it: FE2C, sequence; token; reserved, producer wrap; producer offset;
-- reserved, consumer wrap; consumer offset; bytes 24 and 25
abbrev pub wire : ℕ → List ℕ
wire x = octets 26 x ++ zeros 18

-- A RECORD, field by field
abbrev pub cur : ℕ → ℕ → Cursor
cur c w = record { offset = c; wrap = w }

abbrev pub rtoken : ℕ → ℕ → RToken
rtoken key base = record { key = key; base = base }

abbrev pub no_urgent : Urgent
no_urgent = record { standing = false; place = cur 0 0 }

abbrev pub urgent_at : ℕ → ℕ → Urgent
urgent_at c w = record { standing = true; place = cur c w }

abbrev pub side : Bool → Bool → Side
side d c = record { done = d; closed = c }

-- D sent, C sent, D heard, C heard, ours first, A sent
abbrev pub marked : Bool → Bool → Bool → Bool → Bool → Bool → Marks
marked ds cs dh ch first a = record { sent = side ds cs; heard = side dh ch; first = first; abort = a }

abbrev pub none : Marks
none = marked false false false false false false

-- own token, peer token, link
abbrev pub who : ℕ → ℕ → ℕ → Identity
who own peer l = record { opened = true; own = own; peer = peer; link = l }

-- N', index, and a key and a base for each link
abbrev pub far : ℕ → ℕ → RToken → RToken → RToken → RToken → Remote
far size index a b c d = record { size = size; index = index; link1 = a; link2 = b; link3 = c; link4 = d }

-- P, C, T, last number heard, B and R heard, urgent place
abbrev pub inw : Cursor → Cursor → Cursor → ℕ → Bool → Bool → Urgent → Inbound
inw p c t last b r u = record { producer = p; consumer = c; told = t; last = last; blocked = b; request = r; urgent = u }

-- Q, R, next number, our B, our urgent place
abbrev pub outw : Cursor → Cursor → ℕ → Bool → Urgent → Outbound
outw q r n b u = record { producer = q; consumer = r; next = n; blocked = b; urgent = u }

abbrev pub rec : Identity → Remote → Inbound → Outbound → Marks → Record
rec id r i o m = record { id = id; remote = r; inbound = i; outbound = o; marks = m }

-- THE CONNECTION, in slot 2 of three, N 14: D 10, N' 20 and D' 16, link 3, every number different. From T to C 3 bytes, from C to P 3,
-- from R to Q 5
abbrev pub me : Identity
me = who 0x0A0B0C0D 0x11223344 3

abbrev pub key1 : RToken
key1 = rtoken 0xA1B1C1D1 0x0102030405060708

abbrev pub key2 : RToken
key2 = rtoken 0xA2B2C2D2 0x1112131415161718

abbrev pub key3 : RToken
key3 = rtoken 0xA3B3C3D3 0x2122232425262728

abbrev pub key4 : RToken
key4 = rtoken 0xA4B4C4D4 0x3132333435363738

abbrev pub peer : Remote
peer = far 20 5 key1 key2 key3 key4

abbrev pub P : Cursor
P = cur 8 0

abbrev pub C : Cursor
C = cur 5 0

abbrev pub T : Cursor
T = cur 12 65535

abbrev pub Q : Cursor
Q = cur 6 0x89F0

abbrev pub R : Cursor
R = cur 17 0x89EF

abbrev pub ins : Inbound
ins = inw P C T 0x7788 false false no_urgent

abbrev pub outs : Outbound
outs = outw Q R 0x5566 false no_urgent

abbrev pub conn : Record
conn = rec me peer ins outs none

-- the same with one part another
abbrev pub with_me : Identity → Record
with_me id = rec id peer ins outs none

abbrev pub with_peer : Remote → Record
with_peer r = rec me r ins outs none

abbrev pub with_in : Inbound → Record
with_in i = rec me peer i outs none

abbrev pub with_out : Outbound → Record
with_out o = rec me peer ins o none

abbrev pub marked_with : Marks → Record
marked_with m = rec me peer ins outs m

-- a closed record is all zeros
abbrev pub closed_slot : Record
closed_slot =
    record {
      id = record { opened = false; own = 0; peer = 0; link = 0 };
      remote = far 0 0 (rtoken 0 0) (rtoken 0 0) (rtoken 0 0) (rtoken 0 0);
      inbound = inw (cur 0 0) (cur 0 0) (cur 0 0) 0 false false no_urgent;
      outbound = outw (cur 0 0) (cur 0 0) 0 false no_urgent;
      marks = none;
    }

-- THE GROUP around it. Slot 1 is open on link 1; slot 3 is closed by its mark, and holds a token all the same. Links 1 and 3 are active.
-- An exchange runs and a message waits; no call of a connection looks at them
abbrev pub other : Record
other =
    rec (who 0x01010101 0x02020202 1) (far 9 7 key4 key3 key2 key1) (inw (cur 4 1) (cur 4 1) (cur 4 1) 3 true true no_urgent)
    (outw (cur 5 2) (cur 5 2) 4 true no_urgent) none

abbrev pub shut : Record
shut =
    record {
      id = record { opened = false; own = 0x0C0C0C0C; peer = 0x0D0D0D0D; link = 3 };
      remote = peer;
      inbound = ins;
      outbound = outs;
      marks = none;
    }

abbrev pub gauge : ℕ → Gauge
gauge m = record { mean = fin false m (pos 0); worst = fin false 9 (pos 0); count = 3; late = true }

abbrev pub gauges : List Gauge
gauges = gauge 1 ∷ gauge 3 ∷ gauge 5 ∷ gauge 7 ∷ []

abbrev pub running : Exchange
running = record { stage = 7; v = 1; w = 2 }

abbrev pub waits : ℕ → ℕ → Waiting
waits l x = record { link = l; bytes = replicate 44 x }

abbrev pub queue : Queue
queue = record { count = 1; places = waits 1 6 ∷ waits 0 0 ∷ waits 0 0 ∷ waits 0 0 ∷ [] }

-- S, N, table, links, memory
abbrev pub grouped : ℕ → ℕ → List Record → List Bool → List ℕ → Group
grouped s n t l m =
    record { S = s; N = n; table = t; links = l; gauges = gauges; role = Server; exchange = running; queue = queue; memory = m }

-- its memory: bytes 1 to 14, the eye catcher and ten bytes A4 to AD, bytes 29 to 42
abbrev pub element2 : List ℕ
element2 = 0xE2 ∷ 0xD4 ∷ 0xC3 ∷ 0xD9 ∷ from 0xA4 10

abbrev pub memory : List ℕ → List ℕ
memory e = from 1 14 ++ (e ++ from 29 14)

abbrev pub links13 : List Bool
links13 = true ∷ false ∷ true ∷ false ∷ []

abbrev pub holds : List Bool → Record → List ℕ → Group
holds l c e = grouped 3 14 (other ∷ c ∷ shut ∷ []) l (memory e)

abbrev pub group : Record → Group
group c = holds links13 c element2

-- WHAT COMES OF A CALL
abbrev pub done : Says → Bool → List ℕ → List ℕ → Group → Done
done s made m out g = record { answer = record { says = s; made = made; message = m; out = out }; group = g }

-- A ROW
pub record Row : Type 0 where
  pub group : Group
  pub call : Call
  pub comes : Done

-- no message, no out buffer
abbrev pub silent : Group → Call → Says → Group → Row
silent g c s h = record { group = g; call = c; comes = done s false (zeros 44) [] h }

-- a message
abbrev pub tells : Group → Call → Says → ℕ → Group → Row
tells g c s x h = record { group = g; call = c; comes = done s true (wire x) [] h }

-- a refusal changes nothing
abbrev pub refused : Group → Call → ℕ → Row
refused g c k = silent g c (refusal k) g

-- a call on slot 2 of the group, from record to record
abbrev pub quiet : Request → Record → Says → Record → Row
quiet q c s d = silent (group c) (on 2 q) s (group d)

abbrev pub says : Request → Record → Says → ℕ → Record → Row
says q c s x d = tells (group c) (on 2 q) s x (group d)

abbrev pub refused_on : Request → Record → ℕ → Row
refused_on q c k = refused (group c) (on 2 q) k

-- a message heard by slot 2: 26 bytes as a number, and eighteen behind them that are not looked at
abbrev pub heard_bytes : ℕ → Call
heard_bytes x = hear (octets 26 x ++ from 1 18)

abbrev pub found : Row → Done
found r = record { answer = answer r.group r.call; group = next r.group r.call }

abbrev pub comes_of : Row → Done
comes_of r = r.comes

abbrev pub Right : List Row → Type 0
Right rows = map found rows ≡ map comes_of rows

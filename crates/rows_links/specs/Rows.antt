-- WHAT A ROW IS: a group, a link message or a link send, and what `answer` and `next` make of it, every field of the answer and the whole
-- group. Bytes, fields and numbers are drawn here from RFC 7609, A.3, and request 2026-01; no definition of `link_message`, `exchange` or
-- `link_calls` stands in what a row expects.
-- Assumes nothing.
use Rattle.std.specs.Prelude.{ℕ, zero, suc, ◌+◌, ◌*◌, ◌/◌, ◌%◌, ◌^◌, ◌≡◌, Bool, true, false, List, [], ◌∷◌, ◌++◌, map, replicate, pos}
use Rattle.std.specs.Float.{fin}
use Rattle.gauge.specs.declared.Gauge.{Gauge}
use Rattle.conn_record.specs.Connection.{zero_record}
use Rattle.link_message.specs.declared.Kind.{Kind}
use Rattle.link_message.specs.declared.Kind.TheVariants.{ConfirmLink, AddLink, AddLinkContinuation, DeleteLink, ConfirmRkey, TestLink}
use Rattle.link_message.specs.declared.Kind.TheVariants.{ConfirmRkeyContinuation, DeleteRkey}
use Rattle.link_exchange.specs.declared.Role.{Role}
use Rattle.link_exchange.specs.declared.Exchange.{Exchange}
use Rattle.link_exchange.specs.declared.Waiting.{Waiting}
use Rattle.link_exchange.specs.declared.Queue.{Queue}
use Rattle.link_exchange.specs.declared.Fate.{Fate}
use Rattle.link_exchange.specs.declared.Fate.TheVariants.{Taken, Queued, Denied, Dropped}
use Rattle.link_calls.specs.declared.Fields.{Fields}
use Rattle.link_calls.specs.declared.TakenUp.{TakenUp}
use Rattle.group_rules.specs.Rules.{Group, Management, link_change, link_message, link_send, manage, Says, refusal, link_changed, link_heard, link_sent}
use Rattle.group_rules.specs.Rules.{Done, does}

abbrev pub zeros : ℕ → List ℕ
zeros n = replicate n 0

-- n bytes, each of which is its own place in the message, from byte i on
abbrev pub from : ℕ → ℕ → List ℕ
from i zero = []
from i (suc n) = i ∷ from (i + 1) n

-- the k bytes of a number, high byte first
abbrev pub octets : ℕ → ℕ → List ℕ
octets zero x = []
octets (suc k) x = x / 256 ^ k % 256 ∷ octets k x

-- A MESSAGE: its kind and its twelve values, the bytes as heard, reserved ones not zero, and as they are written, reserved ones zero.
-- Byte i of a message is i, but for those that its line below names
pub record Msg : Type 0 where
  pub kind : Kind
  pub values : List ℕ
  pub heard : List ℕ
  pub written : List ℕ

abbrev msg : Kind → List ℕ → List ℕ → List ℕ → Msg
msg k vs h w = record { kind = k; values = vs; heard = h; written = w }

-- R
abbrev pub ask : ℕ
ask = 0

abbrev pub re : ℕ
re = 1

-- CONFIRM LINK: R, link
abbrev pub m01 : ℕ → ℕ → Msg
m01 r link =
    msg ConfirmLink
    (r ∷ 0x040506070809 ∷ 0x0A0B0C0D0E0F1011 ∷ 0x1213141516171819 ∷ 0x1A1B1C ∷ link ∷ 0x1E1F2021 ∷ 0x22 ∷ zeros 4)
    (0x01 ∷ 0x2C ∷ 0x02 ∷ (0x7F + 128 * r) ∷ (from 4 25 ++ (link ∷ from 30 14)))
    (0x01 ∷ 0x2C ∷ 0x00 ∷ (128 * r) ∷ (from 4 25 ++ (link ∷ (from 30 5 ++ zeros 9))))

-- ADD LINK: R, Z, reason, link, mtu
abbrev pub m02 : ℕ → ℕ → ℕ → ℕ → ℕ → Msg
m02 r z reason link mtu =
    msg AddLink
    (r ∷ z ∷ reason ∷ 0x040506070809 ∷ 0x0A0B0C0D0E0F1011 ∷ 0x1213141516171819 ∷ 0x1A1B1C ∷ link ∷ mtu ∷ 0x1F2021 ∷ zeros 2)
    (0x02 ∷ 0x2C ∷ (0xF0 + reason) ∷ (0x3F + (128 * r + 64 * z)) ∷ (from 4 25 ++ (link ∷ (0xF0 + mtu) ∷ from 31 13)))
    (0x02 ∷ 0x2C ∷ reason ∷ (128 * r + 64 * z) ∷ (from 4 25 ++ (link ∷ mtu ∷ (from 31 3 ++ zeros 10))))

-- ADD LINK CONTINUATION: R, link
abbrev pub m03 : ℕ → ℕ → Msg
m03 r link =
    msg AddLinkContinuation
    (r ∷ link ∷ 0x05 ∷ 0x08090A0B ∷ 0x0C0D0E0F ∷ 0x1011121314151617 ∷ 0x18191A1B ∷ 0x1C1D1E1F ∷ 0x2021222324252627 ∷ zeros 3)
    (0x03 ∷ 0x2C ∷ 0x02 ∷ (0x7F + 128 * r) ∷ link ∷ from 5 39)
    (0x03 ∷ 0x2C ∷ 0x00 ∷ (128 * r) ∷ link ∷ 0x05 ∷ 0x00 ∷ 0x00 ∷ (from 8 32 ++ zeros 4))

-- DELETE LINK: R, A, link, reason; O is 1
abbrev pub m04 : ℕ → ℕ → ℕ → ℕ → Msg
m04 r a link reason =
    msg DeleteLink (r ∷ a ∷ 1 ∷ link ∷ reason ∷ zeros 7)
    (0x04 ∷ 0x2C ∷ 0x02 ∷ (0x3F + (128 * r + 64 * a)) ∷ link ∷ (octets 4 reason ++ from 9 35))
    (0x04 ∷ 0x2C ∷ 0x00 ∷ (0x20 + (128 * r + 64 * a)) ∷ link ∷ (octets 4 reason ++ zeros 35))

-- CONFIRM RKEY: R, Z, C, num
abbrev pub m06 : ℕ → ℕ → ℕ → ℕ → Msg
m06 r z c num =
    msg ConfirmRkey
    (r ∷ z ∷ c ∷ num ∷ 0x05060708 ∷ 0x090A0B0C0D0E0F10 ∷ 0x11 ∷ 0x12131415 ∷ 0x161718191A1B1C1D ∷ 0x1E ∷ 0x1F202122
    ∷ 0x232425262728292A ∷ [])
    (0x06 ∷ 0x2C ∷ 0x02 ∷ (0x4F + (128 * r + (32 * z + 16 * c))) ∷ num ∷ from 5 39)
    (0x06 ∷ 0x2C ∷ 0x00 ∷ (128 * r + (32 * z + 16 * c)) ∷ num ∷ (from 5 38 ++ zeros 1))

-- TEST LINK: R
abbrev pub m07 : ℕ → Msg
m07 r =
    msg TestLink (r ∷ 0x0405060708090A0B ∷ 0x0C0D0E0F10111213 ∷ zeros 9)
    (0x07 ∷ 0x2C ∷ 0x02 ∷ (0x7F + 128 * r) ∷ from 4 40)
    (0x07 ∷ 0x2C ∷ 0x00 ∷ (128 * r) ∷ (from 4 16 ++ zeros 24))

-- CONFIRM RKEY CONTINUATION: R, Z, num
abbrev pub m08 : ℕ → ℕ → ℕ → Msg
m08 r z num =
    msg ConfirmRkeyContinuation
    (r ∷ z ∷ num ∷ 0x05 ∷ 0x06070809 ∷ 0x0A0B0C0D0E0F1011 ∷ 0x12 ∷ 0x13141516 ∷ 0x1718191A1B1C1D1E ∷ 0x1F ∷ 0x20212223
    ∷ 0x2425262728292A2B ∷ [])
    (0x08 ∷ 0x2C ∷ 0x02 ∷ (0x5F + (128 * r + 32 * z)) ∷ num ∷ from 5 39)
    (0x08 ∷ 0x2C ∷ 0x00 ∷ (128 * r + 32 * z) ∷ num ∷ from 5 39)

-- DELETE RKEY: R, Z, mask
abbrev pub m09 : ℕ → ℕ → ℕ → Msg
m09 r z mask =
    msg DeleteRkey
    (r ∷ z ∷ 0x04 ∷ mask ∷ 0x08090A0B ∷ 0x0C0D0E0F ∷ 0x10111213 ∷ 0x14151617 ∷ 0x18191A1B ∷ 0x1C1D1E1F ∷ 0x20212223 ∷ 0x24252627 ∷ [])
    (0x09 ∷ 0x2C ∷ 0x02 ∷ (0x5F + (128 * r + 32 * z)) ∷ 0x04 ∷ mask ∷ from 6 38)
    (0x09 ∷ 0x2C ∷ 0x00 ∷ (128 * r + 32 * z) ∷ 0x04 ∷ mask ∷ 0x00 ∷ 0x00 ∷ (from 8 32 ++ zeros 4))

-- A GROUP: S 1, N 8, the slot closed, links 1 and 2 active, a sample heard on every link, nothing waiting, a memory of sevens
abbrev pub at : ℕ → ℕ → ℕ → Exchange
at s v w = record { stage = s; v = v; w = w }

abbrev pub idle : Exchange
idle = at 0 0 0

abbrev pub heard : Gauge
heard = record { mean = fin false 5 (pos 0); worst = fin false 7 (pos 0); count = 3; late = true }

abbrev pub unheard : Gauge
unheard = record { mean = fin false 0 (pos 0); worst = fin false 0 (pos 0); count = 0; late = false }

-- a place of the queue, and four of them
abbrev pub place : ℕ → List ℕ → Waiting
place l b = record { link = l; bytes = b }

abbrev pub free : Waiting
free = place 0 (zeros 44)

abbrev pub waits : ℕ → Waiting → Waiting → Waiting → Waiting → Queue
waits n a b c d = record { count = n; places = a ∷ b ∷ c ∷ d ∷ [] }

abbrev pub nobody : Queue
nobody = waits 0 free free free free

abbrev pub grouped : Role → Exchange → Queue → List Bool → List Gauge → Group
grouped r x q links gauges =
    record {
      S = 1;
      N = 8;
      table = zero_record ∷ [];
      links = links;
      gauges = gauges;
      role = r;
      exchange = x;
      queue = q;
      memory = replicate 8 7;
    }

abbrev pub laid : Role → Exchange → Group
laid r x = grouped r x nobody (true ∷ true ∷ false ∷ false ∷ []) (replicate 4 heard)

-- the group with another exchange, another queue, other links
abbrev pub to : Exchange → Group → Group
to x g = grouped g.role x g.queue g.links g.gauges

abbrev pub waiting : Queue → Group → Group
waiting q g = grouped g.role g.exchange q g.links g.gauges

abbrev pub linked : List Bool → List Gauge → Group → Group
linked links gauges g = grouped g.role g.exchange g.queue links gauges

-- without link 2, with its gauge; without link 3; with link 3; without any, and no exchange and none that waits
abbrev pub without2 : Group → Group
without2 = linked (true ∷ false ∷ false ∷ false ∷ []) (heard ∷ unheard ∷ heard ∷ heard ∷ [])

abbrev pub without3 : Group → Group
without3 = linked (true ∷ true ∷ false ∷ false ∷ []) (heard ∷ heard ∷ unheard ∷ heard ∷ [])

abbrev pub with3 : Group → Group
with3 = linked (true ∷ true ∷ true ∷ false ∷ []) (replicate 4 heard)

abbrev pub all_down : Group → Group
all_down g = grouped g.role idle nobody (replicate 4 false) (replicate 4 unheard)

-- WHAT COMES OF A MESSAGE over a link: the answer, and the group that it leaves. The lent buffer stays as it was
abbrev pub lent : List ℕ
lent = from 1 44

abbrev pub done : Says → Bool → List ℕ → Group → Done
done s made b g = record { answer = record { says = s; made = made; message = b; out = lent }; group = g }

abbrev pub Comes : Type 0
Comes = Group → ℕ → Msg → Done

abbrev pub fields_of : Msg → Fields
fields_of m = record { named = true; kind = m.kind; values = m.values }

abbrev pub no_fields : Fields
no_fields = record { named = false; kind = ConfirmLink; values = zeros 12 }

abbrev pub none_up : TakenUp
none_up = record { some = false; link = 0; fields = no_fields; fate = Dropped }

abbrev pub heard_as : Fate → Msg → Says
heard_as f m = link_heard (fields_of m) f none_up 0

abbrev pub silent : Fate → Comes
silent f g l m = done (heard_as f m) false (zeros 44) g

abbrev pub dropped : Comes
dropped = silent Dropped

abbrev pub taken : Comes
taken = silent Taken

-- in the first place
abbrev pub queued : Comes
queued g l m = done (heard_as Queued m) false (zeros 44) (waiting (waits 1 (place l m.heard) free free free) g)

abbrev pub taken_with : Msg → Comes
taken_with b g l m = done (heard_as Taken m) true b.written g

abbrev pub denied_with : Msg → Comes
denied_with b g l m = done (heard_as Denied m) true b.written g

abbrev pub sent : Comes
sent g l m = done (link_sent none_up 0) true m.written g

abbrev pub refused : ℕ → Comes
refused k g l m = done (refusal k) false (zeros 44) g

-- optional: no fields
abbrev pub optional : Comes
optional g l m = done (link_heard no_fields Dropped none_up 0) false (zeros 44) g

-- and the group is another, too
abbrev pub also : (Group → Group) → Comes → Comes
also f c g l m = let d = c g l m in record { answer = d.answer; group = f d.group }

-- and a message is taken up: its link, itself, its fate
abbrev pub up : ℕ → Msg → Fate → TakenUp
up l m f = record { some = true; link = l; fields = fields_of m; fate = f }

abbrev pub taken_up : TakenUp → Comes
taken_up u g l m = done (link_heard (fields_of m) Taken u 0) false (zeros 44) g

abbrev pub sent_up : TakenUp → Comes
sent_up u g l m = done (link_sent u 0) true m.written g

-- A ROW
pub record Row : Type 0 where
  pub group : Group
  pub call : Management
  pub comes : Done

abbrev pub hears : Group → ℕ → Msg → Comes → Row
hears g l m c = record { group = g; call = link_message l m.heard lent; comes = c g l m }

abbrev pub sends : Group → ℕ → Msg → Comes → Row
sends g l m c = record { group = g; call = link_send l m.kind m.values lent; comes = c g l m }

-- any bytes; any values, for the message that they make; and a buffer of 43 bytes
abbrev pub hears_bytes : Group → ℕ → List ℕ → Comes → Row
hears_bytes g l b c = hears g l (msg ConfirmLink [] b []) c

abbrev pub sends_as : Group → ℕ → Msg → List ℕ → Comes → Row
sends_as g l m vs c = record { group = g; call = link_send l m.kind vs lent; comes = c g l m }

abbrev pub lent_less : Group → (List ℕ → Management) → Row
lent_less g call =
    record {
      group = g;
      call = call (from 1 43);
      comes = record { answer = record { says = refusal 1; made = false; message = zeros 44; out = from 1 43 }; group = g };
    }

abbrev pub changes : Group → ℕ → Bool → Group → Row
changes g l active h = record { group = g; call = link_change l active lent; comes = done (link_changed 0) false (zeros 44) h }

abbrev pub changes_not : Group → ℕ → Bool → Row
changes_not g l active = record { group = g; call = link_change l active lent; comes = done (refusal 13) false (zeros 44) g }

abbrev pub found : Row → Done
found r = does r.group (manage r.call)

abbrev pub comes_of : Row → Done
comes_of r = r.comes

abbrev pub Right : List (List Row) → Type 0
Right rows = map (map found) rows ≡ map (map comes_of) rows

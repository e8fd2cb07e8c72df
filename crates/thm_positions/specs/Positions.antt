-- Positions: the bytes of a connection, counted from its open in whole numbers that never wrap. What the calls and their answers say of a
-- slot; that the cursors follow it; that announced bytes stay; and which byte is handed out at each position. Claims about the rules that
-- every contract cites (`answer`, `next`), of any list of calls from any fresh group. A call holds all that a peer hands in, so "any list"
-- is any peer, lying or not. proofs/Positions proves each. Assumes nothing.
use Rattle.std.specs.Prelude.{ℕ, ◌+◌, ◌-◌, ◌%◌, ◌≤◌, ◌<◌, ◌≡◌, ◌⊎◌, Bool, true, false, ◌&&◌, cond, List, [], ◌∷◌, ◌++◌, ltb, leb, eqb, length, take, get_or, replicate}
use Rattle.std.proofs.Math.Option.{Option, some, none}
use Rattle.cursor.specs.declared.Cursor.{Cursor}
use Rattle.cursor.specs.Cursor.{data_of, cursor_at}
use Rattle.cdc.specs.declared.Decoded.{Decoded}
use Rattle.cdc.specs.declared.Decoded.TheVariants.{Good, Malformed}
use Rattle.cdc.specs.declared.Flags.{Flags}
use Rattle.cdc.specs.Cdc.{encode_of, decode_of}
use Rattle.gauge.specs.Gauge.{cleared_of}
use Rattle.conn_record.specs.declared.Remote.{Remote}
use Rattle.conn_record.specs.Connection.{zero_token, zero_record, start_cursor}
use Rattle.link_exchange.specs.declared.Role.TheVariants.{Client}
use Rattle.link_exchange.specs.Exchange.{no_exchange, empty_queue}
use Rattle.group_rules.specs.Says.{said_in}
use Rattle.group_rules.specs.Rules.{Group, Request, send, gather, urgent, place, read, shutdown, close, abort, open_slot, free_slot, link_change}
use Rattle.group_rules.specs.Rules.{link_message, link_send, sample, Call, on, hear, manage, Says, accepted, was_read_of}
use Rattle.group_rules.specs.Rules.{Answer, answer, next, record_of_all, element_in, Fresh}
use Rattle.thm_order.specs.Statement.{leaves, answers, At}
use Rattle.thm_safety.specs.Statement.{OpenAt, accepted_b, Opens}

-- WHERE A POSITION STANDS. Position y is at offset 4 + y mod D; `cursorAt D y` is the cursor with that offset, and (y div D) mod 65,536
abbrev pub offset_of : ℕ → ℕ → ℕ
offset_of d y = 4 + y % d

-- WHAT IS SAID OF A SLOT since its last accepted open, by the calls and their answers alone
pub record Journal : Type 0 where
  -- the own token that it was opened with; 0: it never was
  pub own : ℕ
  -- how far P moved in all: the sum of what hear's answers name
  pub announced : ℕ
  -- how many bytes were handed out: the sum of the n that read's answers name
  pub handed : ℕ
  -- how many of these the peer was told of: `handed`, as it was when the last message was made
  pub told : ℕ
  -- the bytes handed out, one read after the other, so number y is that of position y
  pub stream : List ℕ
  -- the byte that an accepted place wrote last at each position; none: no accepted place wrote it
  pub written : ℕ → Option ℕ

abbrev pub opened : ℕ → Journal
opened own = record { own = own; announced = 0; handed = 0; told = 0; stream = []; written = λ y. none }

-- what an answer names: how far P moved, and how many bytes were read
abbrev pub moved_in : Says → ℕ
moved_in says = (said_in says).moved

abbrev pub read_in : Says → ℕ
read_in says = (said_in says).handed

-- the bytes that a call places, and their offset; of other calls, none
pub record Placed : Type 0 where
  pub at : ℕ
  pub bytes : List ℕ

abbrev pub nothing : Placed
nothing = record { at = 0; bytes = [] }

abbrev pub placed : Request → Placed
placed (send b) = nothing
placed (urgent b) = nothing
placed (gather head body) = nothing
placed (place at b) = record { at = at; bytes = b }
placed (read out) = nothing
placed shutdown = nothing
placed close = nothing
placed abort = nothing

-- they cover the byte at offset x
abbrev pub covers_b : Placed → ℕ → Bool
covers_b p x = leb p.at x && ltb x (p.at + length p.bytes)

-- and are written at positions not yet announced: position y is one of the D from `announced` on, and they cover its place
abbrev pub takes_b : ℕ → ℕ → Placed → ℕ → Bool
takes_b d announced p y = leb announced y && (ltb y (announced + d) && covers_b p (offset_of d y))

-- one call of the slot on, answered a
abbrev pub noted : ℕ → Journal → Placed → Answer → Journal
noted d j p a =
    record {
      own = j.own;
      announced = j.announced + moved_in a.says;
      handed = j.handed + read_in a.says;
      told = cond a.made (j.handed + read_in a.says) j.told;
      stream = j.stream ++ take (read_in a.says) a.out;
      written =
          λ y.
          cond (accepted_b a.says && takes_b d j.announced p y) (some (get_or p.bytes (offset_of d y - p.at) 0)) (j.written y);
    }

-- a message heard is the slot's by the token that it was opened with
abbrev pub names_b : ℕ → Decoded → Bool
names_b own (Good m) = eqb m.token own
names_b own Malformed = false

-- one call on, of slot k or not
unfoldable pub after_call : ℕ → ℕ → Journal → Call → Answer → Journal
after_call d k j (on i q) a = cond (eqb i k) (noted d j (placed q) a) j
after_call d k j (hear b) a = cond (names_b j.own (decode_of b)) (noted d j nothing a) j
after_call d k j (manage (open_slot i given)) a = cond (eqb i k && accepted_b a.says) (opened given.own) j
after_call d k j (manage (free_slot i)) a = j
after_call d k j (manage (link_change l up b)) a = j
after_call d k j (manage (link_message l bytes b)) a = j
after_call d k j (manage (link_send l i vs b)) a = j
after_call d k j (manage (sample l ms)) a = j

unfoldable pub journal_from : ℕ → ℕ → Journal → List Call → List Answer → Journal
journal_from d k j [] said = j
journal_from d k j (c ∷ cs) [] = j
journal_from d k j (c ∷ cs) (a ∷ said) = journal_from d k (after_call d k j c a) cs said

abbrev pub journal : Group → List Call → ℕ → Journal
journal g cs k = journal_from (data_of g.N) k (opened 0) cs (answers g cs)

-- whatever calls are made of a fresh group, this holds of the group that they leave, of each open slot and of what was said of it
abbrev pub OfEachSlot : (Group → ℕ → Journal → Type 0) → Type 0
OfEachSlot P = (g : Group) → Fresh g → (cs : List Call) (k : ℕ) → OpenAt (leaves g cs) k → P (leaves g cs) k (journal g cs k)

-- P, C and T of slot k; D, the bytes of a lap; the byte of its element at the place of position y
abbrev pub cursor_p : Group → ℕ → Cursor
cursor_p h k = (record_of_all h k).inbound.producer

abbrev pub cursor_c : Group → ℕ → Cursor
cursor_c h k = (record_of_all h k).inbound.consumer

abbrev pub cursor_t : Group → ℕ → Cursor
cursor_t h k = (record_of_all h k).inbound.told

abbrev pub lap_of : Group → ℕ
lap_of h = data_of h.N

abbrev pub byte_at : Group → ℕ → ℕ → ℕ
byte_at h k y = get_or (element_in h k) (offset_of (lap_of h) y) 0

-- 1. THE CURSORS FOLLOW. C is the cursor of position `handed`, T of `told`, P of `announced`. What was told was handed out, what was
-- handed out was announced, and no more than D bytes are announced past what was told
pub record Follows (h : Group) (k : ℕ) (j : Journal) : Type 0 where
  pub C_at : cursor_c h k ≡ cursor_at (lap_of h) j.handed
  pub T_at : cursor_t h k ≡ cursor_at (lap_of h) j.told
  pub told_handed : j.told ≤ j.handed
  pub handed_announced : j.handed ≤ j.announced
  pub announced_most : j.announced ≤ j.told + lap_of h

-- (P's wrap number is two bytes of a message heard, which are below 256)
abbrev pub AreBytes : List Call → Type 0
AreBytes cs = (i : ℕ) (b : List ℕ) → At cs i (hear b) → (x : ℕ) → get_or b x 0 < 256

abbrev pub CursorsFollow : Type 0
CursorsFollow =
    OfEachSlot Follows
    × ((g : Group) → Fresh g → (cs : List Call) (k : ℕ) → OpenAt (leaves g cs) k → AreBytes cs
    → cursor_p (leaves g cs) k ≡ cursor_at (lap_of g) (journal g cs k).announced)

-- 2. EACH POSITION ONCE, IN ORDER. Call number i of the list, since the slot's last open, is a read that hands out position y: reads before
-- it handed out y bytes or fewer, and it names so many that y is among them
pub record HandsOut (g : Group) (cs : List Call) (k i y : ℕ) : Type 0 where
  pub out : List ℕ
  pub n : ℕ
  pub is : At cs i (on k (read out))
  pub says : (answer (leaves g (take i cs)) (on k (read out))).says ≡ was_read_of n
  pub since : (m : ℕ) → i ≤ m → Opens g cs m k → ⊥
  pub low : (journal g (take i cs) k).handed ≤ y
  pub high : y < (journal g (take i cs) k).handed + n

-- the byte that it hands out there
abbrev pub byte_out : (g : Group) (cs : List Call) (k i y : ℕ) → HandsOut g cs k i y → ℕ
byte_out g cs k i y r = get_or (answer (leaves g (take i cs)) (on k (read r.out))).out (y - (journal g (take i cs) k).handed) 0

pub record Once (g : Group) (cs : List Call) (k : ℕ) : Type 0 where
  -- by some read, and no other; a later read hands out later positions
  pub some_read : (y : ℕ) → y < (journal g cs k).handed → (i : ℕ) × HandsOut g cs k i y
  pub one_read : (i j y : ℕ) → HandsOut g cs k i y → HandsOut g cs k j y → i ≡ j
  pub in_order : (i j y z : ℕ) → HandsOut g cs k i y → HandsOut g cs k j z → i < j → y < z
  -- and its byte there is number y of the stream
  pub its_byte : (i y : ℕ) (r : HandsOut g cs k i y) → byte_out g cs k i y r ≡ get_or (journal g cs k).stream y 0

abbrev pub EachPositionOnce : Type 0
EachPositionOnce = (g : Group) → Fresh g → (cs : List Call) (k : ℕ) → Once g cs k

-- 3. ANNOUNCED BYTES STAY. No call changes the byte at the place of a position from `told` up to, not with, `announced`: between T and P
abbrev pub Stay : Group → ℕ → Journal → Type 0
Stay h k j = (c : Call) (y : ℕ) → j.told ≤ y → y < j.announced → byte_at (next h c) k y ≡ byte_at h k y

-- and what was announced is what is read: whatever calls ds follow, other than an open of the slot, a position that stood announced and
-- unread when they began, and is handed out by the time they end, has the byte that stood there when they began
abbrev pub ReadAsAnnounced : Type 0
ReadAsAnnounced =
    (g : Group) → Fresh g → (cs ds : List Call) (k : ℕ) → OpenAt (leaves g cs) k
    → ((i : ℕ) → Opens (leaves g cs) ds i k → ⊥)
    → (y : ℕ) → (journal g cs k).handed ≤ y → y < (journal g cs k).announced → y < (journal g (cs ++ ds) k).handed
    → get_or (journal g (cs ++ ds) k).stream y 0 ≡ byte_at (leaves g cs) k y

abbrev pub AnnouncedStay : Type 0
AnnouncedStay = OfEachSlot Stay × ReadAsAnnounced

-- 4. NO OLD LAP. Every byte of an accepted place is stored at a position not yet announced, whose place in the lap before was read and told
-- as read: from `announced` up to, not with, `told` + D
abbrev pub StoredAhead : Group → ℕ → Journal → Type 0
StoredAhead h k j =
    (at : ℕ) (b : List ℕ) → (answer h (on k (place at b))).says ≡ accepted
    → (x : ℕ) → at ≤ x → x < at + length b
    → (y : ℕ) × (offset_of (lap_of h) y ≡ x) × (j.announced ≤ y) × (y < j.told + lap_of h)

-- The byte handed out at position y is that of the last accepted place that wrote position y; or no accepted place wrote position y: the
-- peer announced what it never wrote. The same holds of what is announced and unread
pub record NotOld (h : Group) (k : ℕ) (j : Journal) : Type 0 where
  pub handed_out : (y : ℕ) → y < j.handed → (j.written y ≡ some (get_or j.stream y 0)) ⊎ (j.written y ≡ none)
  pub unread : (y : ℕ) → j.handed ≤ y → y < j.announced → (j.written y ≡ some (byte_at h k y)) ⊎ (j.written y ≡ none)

abbrev pub NoOldLap : Type 0
NoOldLap = OfEachSlot StoredAhead × OfEachSlot NotOld

-- The second case is met: nothing but the peer's honesty excludes it. One slot, an element of 8 bytes; four bytes are placed, announced and
-- read; then four more are announced and none placed. The read hands out the first four again, at positions that no place wrote
abbrev pub one_slot : Group
one_slot =
    record {
      S = 1;
      N = 8;
      table = zero_record ∷ [];
      links = replicate 4 false;
      gauges = replicate 4 cleared_of;
      role = Client;
      exchange = no_exchange;
      queue = empty_queue;
      memory = replicate 8 0;
    }

-- a message to token 1, with its number, that announces y positions in all
abbrev pub announces : ℕ → ℕ → Call
announces number y =
    let off = false in
    let flags : Flags =
    record { blocked = off; pending = off; urgent = off; request = off; failover = off; done = off; closed = off; abort = off }
    in
    hear (encode_of (record { sequence = number; token = 1; producer = cursor_at 4 y; consumer = start_cursor; flags = flags }))

-- the peer's element: the first of its memory, of 8 bytes
abbrev pub first_of_eight : Remote
first_of_eight = record { size = 8; index = 1; link1 = zero_token; link2 = zero_token; link3 = zero_token; link4 = zero_token }

abbrev pub unplaced : List Call
unplaced =
    manage (link_change 1 true (replicate 44 0))
    ∷ manage (open_slot 1 (record { own = 1; peer = 1; link = 1; remote = first_of_eight }))
    ∷ on 1 (place 4 (11 ∷ 12 ∷ 13 ∷ 14 ∷ []))
    ∷ announces 1 4
    ∷ on 1 (read (replicate 4 0))
    ∷ announces 2 8
    ∷ on 1 (read (replicate 4 0))
    ∷ []

pub record Repeats (j : Journal) : Type 0 where
  pub handed_8 : j.handed ≡ 8
  pub announced_8 : j.announced ≡ 8
  pub first_again : j.stream ≡ 11 ∷ 12 ∷ 13 ∷ 14 ∷ 11 ∷ 12 ∷ 13 ∷ 14 ∷ []
  pub placed_once : j.written 3 ≡ some 14
  pub not_again : j.written 4 ≡ none

abbrev pub PeerAnnouncedUnwritten : Type 0
PeerAnnouncedUnwritten = Fresh one_slot × Repeats (journal one_slot unplaced 1)

-- Document 01, "The memory and the tables": a connection's record, and coherence.
-- P, C, T are the inbound producer, consumer and told; Q, R the outbound producer and consumer; N' is the remote size. Inbound `last` is
-- the last sequence number heard, `blocked` and `request` are B and R of the last message heard; outbound `next` is the next sequence
-- number, `blocked` our present B. Each side's `urgent` is its urgent place (request 2026-04). Of the marks, `abort` is A sent and `first`
-- ours first. Remote `index` is the place of the peer's element in its memory, and `link1` to `link4` are that memory's key and base on
-- each link.
-- Assumes nothing.
use Rattle.std.specs.Prelude.{ℕ, ◌+◌, ◌-◌, ◌*◌, Bool, true, false, ◌&&◌, ◌||◌, not, cond, List, [], ◌∷◌, ltb, leb}
use Rattle.cursor.specs.declared.Cursor.{Cursor}
use Rattle.cursor.specs.Cursor.{data_of, in_range, good_b, gap_of}
use Rattle.closing.specs.declared.Side.{Side}
use Rattle.closing.specs.declared.Marks.{Marks}
use Rattle.conn_record.specs.declared.Identity.{Identity}
use Rattle.conn_record.specs.declared.RToken.{RToken}
use Rattle.conn_record.specs.declared.Remote.{Remote}
use Rattle.conn_record.specs.declared.Urgent.{Urgent}
use Rattle.conn_record.specs.declared.Inbound.{Inbound}
use Rattle.conn_record.specs.declared.Outbound.{Outbound}
use Rattle.conn_record.specs.declared.Record.{Record}
use Rattle.conn_record.specs.declared.Opening.{Opening}

-- N and N' are from 8 to 65,540; a link is 1 to 4
abbrev pub least_size : ℕ
least_size = 8

abbrev pub most_size : ℕ
most_size = 65540

abbrev pub most_link : ℕ
most_link = 4

-- an index is 1 to 255; an address has 64 bits
abbrev pub most_index : ℕ
most_index = 255

abbrev pub most_address : ℕ
most_address = 18446744073709551615

abbrev pub zero_cursor : Cursor
zero_cursor = record { offset = 0; wrap = 0 }

-- An urgent place: none, or a cursor. A place that is cleared is all zeros
abbrev pub no_place : Urgent
no_place = record { standing = false; place = zero_cursor }

abbrev pub place_at : Cursor → Urgent
place_at c = record { standing = true; place = c }

-- A record before anything is sent or heard: all cursors at one place, the next sequence number `next`, last heard 0, no urgent place,
-- marks off
abbrev pub no_marks : Side
no_marks = record { done = false; closed = false }

abbrev pub resting_record : Identity → Remote → Cursor → ℕ → Record
resting_record id remote at next =
    record {
      id = id;
      remote = remote;
      inbound =
          record { producer = at; consumer = at; told = at; last = 0; blocked = false; request = false; urgent = no_place };
      outbound = record { producer = at; consumer = at; next = next; blocked = false; urgent = no_place };
      marks = record { sent = no_marks; heard = no_marks; first = false; abort = false };
    }

-- closing writes all zeros
abbrev pub zero_token : RToken
zero_token = record { key = 0; base = 0 }

unfoldable pub zero_record : Record
zero_record =
    resting_record (record { opened = false; own = 0; peer = 0; link = 0 })
    (record { size = 0; index = 0; link1 = zero_token; link2 = zero_token; link3 = zero_token; link4 = zero_token }) zero_cursor 0

-- open sets all cursors to offset 4, wrap 0, next sequence 1, last heard 0, marks off
abbrev pub start_cursor : Cursor
start_cursor = record { offset = 4; wrap = 0 }

unfoldable pub opened_record : Opening → Record
opened_record given =
    resting_record (record { opened = true; own = given.own; peer = given.peer; link = given.link }) given.remote start_cursor 1

-- One setter for each field that a call changes. No definition but these and `restingRecord` spells the fields of a record: a rule that
-- sets several is these, one after the other.
-- P, C and T; the last sequence number heard; B and R of the last message heard; the urgent place of our element
abbrev pub p_to : Inbound → Cursor → Inbound
p_to i p =
    record { producer = p; consumer = i.consumer; told = i.told; last = i.last; blocked = i.blocked; request = i.request; urgent = i.urgent }

abbrev pub c_to : Inbound → Cursor → Inbound
c_to i c =
    record { producer = i.producer; consumer = c; told = i.told; last = i.last; blocked = i.blocked; request = i.request; urgent = i.urgent }

abbrev pub t_to : Inbound → Cursor → Inbound
t_to i t =
    record { producer = i.producer; consumer = i.consumer; told = t; last = i.last; blocked = i.blocked; request = i.request; urgent = i.urgent }

abbrev pub last_to : Inbound → ℕ → Inbound
last_to i s =
    record { producer = i.producer; consumer = i.consumer; told = i.told; last = s; blocked = i.blocked; request = i.request; urgent = i.urgent }

abbrev pub flags_to : Inbound → Bool → Bool → Inbound
flags_to i b r =
    record { producer = i.producer; consumer = i.consumer; told = i.told; last = i.last; blocked = b; request = r; urgent = i.urgent }

abbrev pub urgent_in_to : Inbound → Urgent → Inbound
urgent_in_to i u =
    record { producer = i.producer; consumer = i.consumer; told = i.told; last = i.last; blocked = i.blocked; request = i.request; urgent = u }

-- Q and R; the next sequence number; our present B; the urgent place of our own sends
abbrev pub q_to : Outbound → Cursor → Outbound
q_to o q = record { producer = q; consumer = o.consumer; next = o.next; blocked = o.blocked; urgent = o.urgent }

abbrev pub r_to : Outbound → Cursor → Outbound
r_to o r = record { producer = o.producer; consumer = r; next = o.next; blocked = o.blocked; urgent = o.urgent }

abbrev pub next_to : Outbound → ℕ → Outbound
next_to o s = record { producer = o.producer; consumer = o.consumer; next = s; blocked = o.blocked; urgent = o.urgent }

abbrev pub blocked_to : Outbound → Bool → Outbound
blocked_to o b = record { producer = o.producer; consumer = o.consumer; next = o.next; blocked = b; urgent = o.urgent }

abbrev pub urgent_out_to : Outbound → Urgent → Outbound
urgent_out_to o u = record { producer = o.producer; consumer = o.consumer; next = o.next; blocked = o.blocked; urgent = u }

-- what came in, what goes out, the marks. Who the connection is and what its peer said of itself at open stay
abbrev pub inbound_to : Record → Inbound → Record
inbound_to rec i = record { id = rec.id; remote = rec.remote; inbound = i; outbound = rec.outbound; marks = rec.marks }

abbrev pub outbound_to : Record → Outbound → Record
outbound_to rec o = record { id = rec.id; remote = rec.remote; inbound = rec.inbound; outbound = o; marks = rec.marks }

unfoldable pub marks_to : Record → Marks → Record
marks_to rec m = record { id = rec.id; remote = rec.remote; inbound = rec.inbound; outbound = rec.outbound; marks = m }

-- all tests of a list hold
abbrev pub every : List Bool → Bool
every [] = true
every (b ∷ []) = b
every (b ∷ c ∷ l) = b && every (c ∷ l)

-- The peer's element, number `index` of its memory, which begins at `base`: its first byte and its last (exact: the index and N' are
-- above 0, or the record is not coherent)
abbrev pub first_byte_of : ℕ → ℕ → ℕ → ℕ
first_byte_of N' index base = base + (index - 1) * N'

abbrev pub last_byte : ℕ → ℕ → ℕ → ℕ
last_byte N' index base = base + index * N' - 1

unfoldable pub fits_b : ℕ → ℕ → ℕ → Bool
fits_b N' index base = leb (last_byte N' index base) most_address

-- N' is in range, the index is 1 to 255, and the element's last byte does not pass the top of 64 bits on any link
unfoldable pub remote_ok : Remote → Bool
remote_ok r =
    let fits = fits_b r.size r.index in
    every
    (leb least_size r.size
    ∷ leb r.size most_size
    ∷ leb 1 r.index
    ∷ leb r.index most_index
    ∷ fits r.link1.base
    ∷ fits r.link2.base
    ∷ fits r.link3.base
    ∷ fits r.link4.base
    ∷ [])

-- both tokens are nonzero, the link and what is fixed about the peer are in range; the close marks sent and heard are not both C
unfoldable pub numbers_ok : Record → Bool
numbers_ok rec =
    every
    (ltb 0 rec.id.own
    ∷ ltb 0 rec.id.peer
    ∷ leb 1 rec.id.link
    ∷ leb rec.id.link most_link
    ∷ remote_ok rec.remote
    ∷ not (rec.marks.sent.closed && rec.marks.heard.closed)
    ∷ [])

-- all offsets are in range: P, C, T by N; Q, R by N'
unfoldable pub offsets_ok : ℕ → Record → Bool
offsets_ok N rec =
    let p = rec.inbound.producer in
    let c = rec.inbound.consumer in
    let t = rec.inbound.told in
    let q = rec.outbound.producer in
    let r = rec.outbound.consumer in
    let N' = rec.remote.size in
    every (in_range N p ∷ in_range N c ∷ in_range N t ∷ in_range N' q ∷ in_range N' r ∷ [])

-- the distances T to C and C to P are good and sum to at most D, the distance R to Q is good by D'
unfoldable pub distances_ok : ℕ → Record → Bool
distances_ok N rec =
    let p = rec.inbound.producer in
    let c = rec.inbound.consumer in
    let t = rec.inbound.told in
    let q = rec.outbound.producer in
    let r = rec.outbound.consumer in
    let D = data_of N in
    let D' = data_of rec.remote.size in
    every (good_b D t c ∷ good_b D c p ∷ leb (gap_of D t c + gap_of D c p) D ∷ good_b D' r q ∷ [])

-- an urgent place, in an element of n bytes, lies after `from` up to `to`: its offset is in range, the distance to it is good, at least 1,
-- at most the distance to `to`
unfoldable pub place_ok : ℕ → Cursor → Cursor → Urgent → Bool
place_ok n from to u =
    let D = data_of n in
    let at = u.place in
    not u.standing || every (in_range n at ∷ good_b D from at ∷ leb 1 (gap_of D from at) ∷ leb (gap_of D from at) (gap_of D from to) ∷ [])

-- an urgent place lies after C up to P, or, of our own sends, after R up to Q
unfoldable pub places_ok : ℕ → Record → Bool
places_ok N rec =
    let i = rec.inbound in
    let o = rec.outbound in
    place_ok N i.consumer i.producer i.urgent && place_ok rec.remote.size o.consumer o.producer o.urgent

-- an open record is coherent
unfoldable pub coherent_b : ℕ → Record → Bool
coherent_b N rec = every (numbers_ok rec ∷ offsets_ok N rec ∷ distances_ok N rec ∷ places_ok N rec ∷ [])

-- what every call on a connection tests, in this order: 3, the record is not coherent; 6, its link is down; 7, the state forbids.
-- 0: not refused
unfoldable pub refusal_of : ℕ → Bool → Record → Bool → ℕ
refusal_of N active rec forbids = cond (coherent_b N rec) (cond active (cond forbids 7 0) 6) 3

-- A cursor on its way to `to`, now at `at`, has reached or passed a place that stands: it is no further from `to` than the place
unfoldable pub reached_b : ℕ → Cursor → Cursor → Urgent → Bool
reached_b n at to u = u.standing && leb (gap_of (data_of n) at to) (gap_of (data_of n) u.place to)

-- the place is cleared then
unfoldable pub passed_by : ℕ → Cursor → Cursor → Urgent → Urgent
passed_by n at to u = cond (reached_b n at to u) no_place u

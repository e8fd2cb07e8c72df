-- Request 2026-13's rows: the page's worked example, byte for byte, and the edges of what moves, what tells and what an F message heard
-- does. They are played as those of `Vectors` are, by `answer` and `next`. proofs/Failover has their one theorem. Assumes nothing.
use Rattle.std.specs.Prelude.{ℕ, ◌+◌, ◌*◌, ◌^◌, ◌≡◌, Bool, true, false, List, [], ◌∷◌, ◌++◌, map, replicate}
use Rattle.std.proofs.Math.Option.{none, some}
use Rattle.closing.specs.declared.Marks.{Marks}
use Rattle.closing.specs.declared.Side.{Side}
use Rattle.closing.specs.declared.State.TheVariants.{Active, AppCloseWait1, PeerAbortWait}
use Rattle.gauge.specs.Gauge.{cleared_of}
use Rattle.element.specs.Element.{fresh_element}
use Rattle.conn_record.specs.declared.Record.{Record}
use Rattle.conn_record.specs.declared.Remote.{Remote}
use Rattle.conn_record.specs.Connection.{zero_record, zero_token, no_place, place_at, no_marks}
use Rattle.link_message.specs.declared.Kind.TheVariants.{DeleteLink}
use Rattle.link_calls.specs.Calls.{none_up}
use Rattle.group_rules.specs.Rules.{Group, send, shutdown, abort, open_slot, link_change, link_send, Call, on, manage, refusal, accepted, sent}
use Rattle.group_rules.specs.Rules.{heard, link_changed, link_sent, group_of}
use Rattle.rows_calls.specs.Vectors.{cur, start, inwards, outwards, unmarked, token_a, token_b, reached, flat, laid_on, laid, linked}
use Rattle.rows_calls.specs.Vectors.{a_group, octets, wire, placing_at}
use Rattle.rows_calls.specs.Vectors.{token, Line, gives, hands, slot, Vector, plays, found, hears, told}

-- a link change, lent n bytes A5
abbrev pub room : ℕ → List ℕ
room n = replicate n 0xA5

abbrev pub link : ℕ → Bool → ℕ → Call
link l up n = manage (link_change l up (room n))

-- it is refused, or changes nothing else; the buffer stays
abbrev pub refused_at : ℕ → Bool → ℕ → ℕ → Line
refused_at l up n k = hands (link l up n) (refusal k) none (room n)

abbrev pub changes : ℕ → Bool → ℕ → Line
changes l up n = hands (link l up n) (link_changed 0) none (room n)

-- THE EXAMPLE'S GROUP. Three slots, every link down
abbrev pub three_slots : ℕ → Group
three_slots n = group_of 3 n (replicate 3 zero_record) (linked (replicate 4 false) (replicate 4 cleared_of)) (replicate (3 * n) 0)

-- the peer's element: key 11 and base 0 on link 1, key 22 and base 4,096 on link 2
abbrev pub theirs : ℕ → Remote
theirs index = reached 10000 index (token 11 0) (token 22 4096) zero_token zero_token

abbrev pub opens : ℕ → ℕ → ℕ → ℕ → Line
opens k own peer index = gives (manage (open_slot k (record { own = own; peer = peer; link = 1; remote = theirs index }))) accepted none

-- its records on link 2: Q, the next number, and whether A was sent
abbrev pub on_link2 : ℕ → ℕ → ℕ → ℕ → ℕ → Bool → Record
on_link2 own peer index q next a =
    laid_on 2 own peer (theirs index) (inwards start start start)
    (record { producer = cur q 0; consumer = start; next = next; blocked = false; urgent = no_place })
    (record { sent = no_marks; heard = no_marks; first = false; abort = a })

-- OTHER GROUPS. Two slots of 8 bytes, links 1 and 2 active
abbrev pub two : Record → Record → Group
two c d = a_group 2 8 (c ∷ d ∷ []) (fresh_element 8 ++ fresh_element 8)

-- tokens A and B, at the start: a link, the next number, the marks
abbrev pub plain_on : ℕ → ℕ → Marks → Record
plain_on l next m =
    laid_on l token_a token_b (flat 8) (inwards start start start)
    (record { producer = start; consumer = start; next = next; blocked = false; urgent = no_place }) m

abbrev pub sent_marks : Side → Bool → Marks
sent_marks s a = record { sent = s; heard = no_marks; first = false; abort = a }

abbrev pub closed_side : Side
closed_side = record { done = false; closed = true }

-- everything on: an urgent place of our own, B, D and C sent, D heard, T behind C
abbrev pub full_on : ℕ → Record
full_on l =
    laid_on l 0xA1A2A3A4 0x11223344 (flat 65540)
    (record { producer = cur 7 9; consumer = cur 6 9; told = cur 5 9; last = 0x7788; blocked = true; request = true; urgent = no_place })
    (record {
      producer = cur 0xABCD 0x89EF;
      consumer = cur 0xABCC 0x89EF;
      next = 0x5566;
      blocked = true;
      urgent = place_at (cur 0xABCD 0x89EF);
    })
    (record { sent = record { done = true; closed = true }; heard = record { done = true; closed = false }; first = true; abort = false })

-- not coherent: its own token is 0
abbrev pub tokenless : ℕ → Record
tokenless l = laid_on l 0 token_b (flat 8) (inwards start start start) (outwards start start) unmarked

-- one that heard this number last, and these marks
abbrev pub last_heard : ℕ → Side → Record
last_heard s h =
    laid token_a token_b 8
    (record { producer = start; consumer = start; told = start; last = s; blocked = false; request = false; urgent = no_place })
    (outwards start start) (record { sent = no_marks; heard = h; first = false; abort = false })

-- the same once it sent A
abbrev pub broken_off : ℕ → Side → Record
broken_off s h =
    laid token_a token_b 8
    (record { producer = start; consumer = start; told = start; last = s; blocked = false; request = false; urgent = no_place })
    (record { producer = start; consumer = start; next = 2; blocked = false; urgent = no_place })
    (record { sent = no_marks; heard = h; first = false; abort = true })

-- B's F message to A, cursors zero, with a number and byte 25 as given; and A's messages, with bytes 24 and 25
abbrev pub F : ℕ → ℕ → Call
F s l = hears (0xFE2C_0000_0A0B0C0D_0000_0000_00000000_0000_0000_00000000_0800 + s * 256 ^ 22 + l)

abbrev pub to_b : ℕ → ℕ → ℕ
to_b s l = 0xFE2C_0000_01020304_0000_0000_00000004_0000_0000_00000004_0000 + s * 256 ^ 22 + l

-- THE ROWS.
unfoldable pub failovers : List Vector
failovers =
    -- THE WORKED EXAMPLE
    plays (three_slots 10000)
    (changes 1 true 132
    ∷ changes 2 true 132
    ∷ opens 1 5 0x01020304 1
    ∷ opens 2 6 7 2
    ∷ opens 3 8 9 3
    ∷ gives (on 1 (send (0xAB ∷ []))) (sent 1 (placing_at 11 4 0 1 ∷ []))
    (told 0xFE2C_0001_01020304_0000_0000_00000005_0000_0000_00000004_0000)
    ∷ gives (on 3 abort) accepted (told 0xFE2C_0001_00000009_0000_0000_00000004_0000_0000_00000004_0020)
    -- 131 bytes are under 44 x 3
    ∷ refused_at 1 false 131 1
    -- link 1 goes down: all three move to link 2, the slot that sent A in silence; two messages, and the rest of the buffer stays
    ∷ hands (link 1 false 132) (link_changed 2) none
    (wire 0xFE2C_0001_01020304_0000_0000_00000005_0000_0000_00000004_0800
    ++ (wire 0xFE2C_0000_00000007_0000_0000_00000004_0000_0000_00000004_0800 ++ room 44))
    ∷ slot 1 (on_link2 5 0x01020304 1 5 2 false)
    ∷ slot 2 (on_link2 6 7 2 4 1 false)
    ∷ slot 3 (on_link2 8 9 3 4 2 true)
    -- F used up no number
    ∷ gives (on 1 shutdown) accepted (told 0xFE2C_0002_01020304_0000_0000_00000005_0000_0000_00000004_0080)
    -- placings name link 2's key and base
    ∷ gives (on 2 (send (0xCD ∷ []))) (sent 1 (placing_at 22 14100 0 1 ∷ []))
    (told 0xFE2C_0001_00000007_0000_0000_00000005_0000_0000_00000004_0000)
    -- an F with the last number heard, 0, changes nothing, whatever else is on in it; one with 1 makes an abort message
    ∷ gives (hears 0xFE2C_0000_00000006_0000_0000_00000000_0000_0000_00000000_B8C0) (heard 0 Active) none
    ∷ slot 2 (on_link2 6 7 2 5 2 false)
    ∷ gives (hears 0xFE2C_0001_00000006_0000_0000_00000000_0000_0000_00000000_0800) (heard 0 PeerAbortWait)
    (told 0xFE2C_0002_00000007_0000_0000_00000005_0000_0000_00000004_0020)
    -- an 04 with A sent takes all four down, and there is no target; link 1 up again and link 2, which was down, down again: none moves
    ∷ hands (manage (link_send 2 DeleteLink (0 ∷ 1 ∷ 0 ∷ 0 ∷ 0 ∷ []) (room 132))) (link_sent none_up 0)
    (some (octets 4 0x042C0040 ++ replicate 40 0)) (room 132)
    ∷ changes 1 true 132
    ∷ changes 2 false 132
    ∷ slot 2 (on_link2 6 7 2 5 3 true)
    ∷ gives (on 2 shutdown) (refusal 6) none
    ∷ [])
    -- 1 COMES FIRST, before 13, and whether or not anything would move
    ∷ plays (two zero_record zero_record)
    (refused_at 5 false 87 1 ∷ refused_at 5 false 88 13 ∷ refused_at 3 true 87 1 ∷ refused_at 3 true 0 1 ∷ changes 3 true 88 ∷ [])
    -- THE NUMBER. Next 1 gives 0, and next 0 gives 65,535
    ∷ plays (two (plain_on 1 1 unmarked) (plain_on 1 0 unmarked))
    (hands (link 1 false 89) (link_changed 2) none (wire (to_b 0 0x0800) ++ (wire (to_b 65535 0x0800) ++ room 1))
    ∷ slot 1 (plain_on 2 1 unmarked)
    ∷ slot 2 (plain_on 2 0 unmarked)
    ∷ [])
    -- C SENT TELLS, A sent does not: the message of the second slot stands first
    ∷ plays (two (plain_on 1 5 (sent_marks closed_side true)) (plain_on 1 9 (sent_marks closed_side false)))
    (hands (link 1 false 88) (link_changed 1) none (wire (to_b 8 0x0840) ++ room 44)
    ∷ slot 1 (plain_on 2 5 (sent_marks closed_side true))
    ∷ slot 2 (plain_on 2 9 (sent_marks closed_side false))
    ∷ [])
    -- EVERY FIELD: T stays behind C, and nothing but the link is another. The second slot's link stays active
    ∷ plays (two (full_on 2) (plain_on 1 1 unmarked))
    (hands (link 2 false 88) (link_changed 1) none (wire 0xFE2C_5565_11223344_0000_89EF_0000ABCD_0000_0009_00000006_E8C0 ++ room 44)
    ∷ slot 1 (full_on 1)
    ∷ slot 2 (plain_on 1 1 unmarked)
    ∷ [])
    -- STRANDED on a link that was down before, and not coherent: both stay
    ∷ plays (two (plain_on 3 1 unmarked) (tokenless 1))
    (changes 1 false 88 ∷ slot 1 (plain_on 3 1 unmarked) ∷ slot 2 (tokenless 1) ∷ [])
    -- NO TARGET: the last link goes down, and when another comes up they stay
    ∷ plays (two (plain_on 2 1 unmarked) (plain_on 2 1 unmarked))
    (changes 1 false 88 ∷ changes 2 false 88 ∷ changes 4 true 88 ∷ slot 1 (plain_on 2 1 unmarked) ∷ slot 2 (plain_on 2 1 unmarked) ∷ [])
    -- F HEARD. Only the last number heard is accepted: not one less, not one more; and it is accepted again
    ∷ plays (two (last_heard 7 no_marks) zero_record)
    (gives (F 7 0xC0) (heard 0 Active) none ∷ gives (F 7 0x00) (heard 0 Active) none ∷ slot 1 (last_heard 7 no_marks) ∷ [])
    ∷ plays (two (last_heard 7 no_marks) zero_record)
    (gives (F 6 0x00) (heard 0 PeerAbortWait) (told (to_b 1 0x20)) ∷ slot 1 (broken_off 7 no_marks) ∷ [])
    ∷ plays (two (last_heard 7 no_marks) zero_record)
    (gives (F 8 0x00) (heard 0 PeerAbortWait) (told (to_b 1 0x20)) ∷ slot 1 (broken_off 7 no_marks) ∷ [])
    -- a bad one where C was heard leaves the slot open; after our A none is looked at
    ∷ plays (two (last_heard 7 closed_side) zero_record)
    (gives (F 7 0x00) (heard 0 AppCloseWait1) none
    ∷ gives (F 9 0x40) (heard 0 PeerAbortWait) (told (to_b 1 0x20))
    ∷ slot 1 (broken_off 7 closed_side)
    ∷ gives (F 9 0x00) (heard 0 PeerAbortWait) none
    ∷ [])
    ∷ []

abbrev pub FailoversRight : Type 0
FailoversRight = map found failovers ≡ failovers

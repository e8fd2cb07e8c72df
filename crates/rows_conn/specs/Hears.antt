-- Hear (document 01; requests 2026-04, 2026-07 and 2026-13), byte by byte: what a message says, what the record holds of it afterwards,
-- when it is answered, when it is refused. Assumes nothing.
use Rattle.std.specs.Prelude.{ℕ, ◌+◌, ◌*◌, ◌^◌, Bool, true, false, List, [], ◌∷◌, ◌++◌}
use Rattle.cursor.specs.declared.Cursor.{Cursor}
use Rattle.closing.specs.declared.Marks.{Marks}
use Rattle.closing.specs.declared.State.TheVariants.{Active, PeerCloseWait1, PeerCloseWait2, AppCloseWait1, AppCloseWait2, PeerAbortWait}
use Rattle.closing.specs.declared.State.TheVariants.{Closed}
use Rattle.conn_record.specs.declared.Inbound.{Inbound}
use Rattle.conn_record.specs.declared.Outbound.{Outbound}
use Rattle.conn_record.specs.declared.Record.{Record}
use Rattle.conn_record.specs.declared.Urgent.{Urgent}
use Rattle.group_rules.specs.Rules.{Group, Says, heard}
use Rattle.rows_conn.specs.Rows.{cur, no_urgent, urgent_at, marked, none, who, inw, outw, rec, me, peer, P, C, T, Q, R, ins, outs}
use Rattle.rows_conn.specs.Rows.{conn, with_in, with_out, marked_with, closed_slot, other, shut, grouped, element2, memory, links13}
use Rattle.rows_conn.specs.Rows.{group, Row, silent, tells, refused, heard_bytes, Right}

-- heard by slot 2: nothing is answered, or a message, or it is refused
abbrev hears : Record → ℕ → Says → Record → Row
hears c x s d = silent (group c) (heard_bytes x) s (group d)

abbrev answers : Record → ℕ → Says → ℕ → Record → Row
answers c x s y d = tells (group c) (heard_bytes x) s y (group d)

abbrev no : ℕ → Record → ℕ → Row
no k c x = refused (group c) (heard_bytes x) k

-- THE MESSAGE to slot 2 that moves no cursor: number 7789, P (8,0), R (17,89EF)
abbrev still : ℕ
still = 0xFE2C_7789_0A0B0C0D_0000_0000_00000008_0000_89EF_00000011_0000

-- the same with another P, another R, another number
abbrev to_p : ℕ → ℕ → ℕ
to_p c w = 0xFE2C_7789_0A0B0C0D_0000_0000_00000000_0000_89EF_00000011_0000 + w * 256 ^ 14 + c * 256 ^ 10

abbrev to_r : ℕ → ℕ → ℕ
to_r c w = 0xFE2C_7789_0A0B0C0D_0000_0000_00000008_0000_0000_00000000_0000 + w * 256 ^ 6 + c * 256 ^ 2

abbrev numbered : ℕ → ℕ
numbered s = 0xFE2C_0000_0A0B0C0D_0000_0000_00000008_0000_89EF_00000011_0000 + s * 256 ^ 22

-- AFTERWARDS: P, B, R flag, urgent place; and with T told
abbrev now : Cursor → Bool → Bool → Urgent → Inbound
now p b r u = inw p C T 0x7789 b r u

abbrev plain : Inbound
plain = now P false false no_urgent

abbrev now_told : Cursor → Bool → Bool → Urgent → Inbound
now_told p b r u = inw p C C 0x7789 b r u

-- our number is used
abbrev used : Outbound
used = outw Q R 0x5567 false no_urgent

-- the message that answers, with byte 24 and 25 as given
abbrev reply : ℕ
reply = 0xFE2C_5566_11223344_0000_89F0_00000006_0000_0000_00000005_0000

-- T, C and P at one place; P's number 7789 there
abbrev resting : Cursor → Record
resting c = with_in (inw c c c 0x7788 false false no_urgent)

abbrev heard_d : Marks
heard_d = marked false false true false false false

abbrev heard_c : Marks
heard_c = marked false false false true false false

abbrev cursors : List Row
cursors =
    -- every field: P moves by 2, R by 2
    hears conn 0xFE2C_7789_0A0B0C0D_0000_0000_0000000A_0000_89EF_00000013_0000 (heard 2 Active)
    (rec me peer (now (cur 10 0) false false no_urgent) (outw Q (cur 19 0x89EF) 0x5566 false no_urgent) none)
    -- THE NEW P: as before; up to 10 from T, not 11; not one less than before
    ∷ hears conn still (heard 0 Active) (with_in plain)
    ∷ hears conn (to_p 12 0) (heard 4 Active) (with_in (now (cur 12 0) false false no_urgent))
    ∷ no 8 conn (to_p 13 0)
    ∷ no 8 conn (to_p 7 0)
    ∷ no 8 conn (to_p 8 1)
    ∷ no 8 conn (to_p 8 65535)
    ∷ no 8 conn (to_p 9 256)
    -- its offset is 4 to 13: here 14 is 1 from T, and 3 is 0 from T
    ∷ no 8 (resting (cur 13 65535)) (to_p 14 65535)
    ∷ no 8 (resting (cur 13 65535)) (to_p 3 0)
    ∷ hears (resting (cur 13 65535)) (to_p 4 0) (heard 1 Active)
    (with_in (inw (cur 4 0) (cur 13 65535) (cur 13 65535) 0x7789 false false no_urgent))
    ∷ hears (resting (cur 12 65535)) (to_p 13 65535) (heard 1 Active)
    (with_in (inw (cur 13 65535) (cur 12 65535) (cur 12 65535) 0x7789 false false no_urgent))
    -- a full turn
    ∷ hears (resting (cur 8 0)) (to_p 8 1) (heard 10 Active) (with_in (inw (cur 8 1) (cur 8 0) (cur 8 0) 0x7789 false false no_urgent))
    -- it may not move once D or C was heard, not by an offset, not by a turn; it may with the message that has D
    ∷ no 8 (marked_with heard_d) (to_p 9 0)
    ∷ no 8 (marked_with heard_c) (to_p 9 0)
    ∷ no 8 (rec me peer (inw (cur 8 0) (cur 8 0) (cur 8 0) 0x7788 false false no_urgent) outs heard_d) (to_p 8 1)
    ∷ hears (marked_with heard_d) still (heard 0 AppCloseWait1) (rec me peer plain outs heard_d)
    ∷ hears conn (to_p 9 0 + 0x80) (heard 1 AppCloseWait1) (rec me peer (now (cur 9 0) false false no_urgent) outs heard_d)
    ∷ hears conn (to_p 9 0 + 0x40) (heard 1 AppCloseWait1) (rec me peer (now (cur 9 0) false false no_urgent) outs heard_c)
    -- D or C sent does not hold P
    ∷ hears (marked_with (marked true false false false true false)) (to_p 9 0) (heard 1 PeerCloseWait1)
    (rec me peer (now (cur 9 0) false false no_urgent) outs (marked true false false false true false))
    -- THE NEW R: up to Q, not past it; not one less than before, not a turn less
    ∷ hears conn (to_r 18 0x89EF) (heard 0 Active) (rec me peer plain (outw Q (cur 18 0x89EF) 0x5566 false no_urgent) none)
    ∷ hears conn (to_r 6 0x89F0) (heard 0 Active) (rec me peer plain (outw Q Q 0x5566 false no_urgent) none)
    ∷ no 8 conn (to_r 7 0x89F0)
    ∷ no 8 conn (to_r 16 0x89EF)
    ∷ no 8 conn (to_r 17 0x89EE)
    ∷ no 8 conn (to_r 6 0x89EF)
    ∷ no 8 conn (to_r 18 0x88EF)
    -- its offset is 4 to 19: here 20 is 1 before Q, and 3 is 2 before it
    ∷ no 8 (with_out (outw (cur 5 7) (cur 19 6) 0x5566 false no_urgent)) (to_r 20 6)
    ∷ no 8 (with_out (outw (cur 5 7) (cur 19 6) 0x5566 false no_urgent)) (to_r 3 7)
    ∷ hears (with_out (outw (cur 5 7) (cur 19 6) 0x5566 false no_urgent)) (to_r 4 7) (heard 0 Active)
    (rec me peer plain (outw (cur 5 7) (cur 4 7) 0x5566 false no_urgent) none)
    ∷ hears (with_out (outw (cur 5 7) (cur 18 6) 0x5566 false no_urgent)) (to_r 19 6) (heard 0 Active)
    (rec me peer plain (outw (cur 5 7) (cur 19 6) 0x5566 false no_urgent) none)
    -- THE NUMBER is the last one heard plus one; 65,535 goes on to 0
    ∷ no 16 conn (numbered 0x7788)
    ∷ no 16 conn (numbered 0x778A)
    ∷ no 16 conn (numbered 0x7689)
    ∷ no 16 conn (numbered 0x5567)
    ∷ hears (with_in (inw P C T 65535 false false no_urgent)) (numbered 0) (heard 0 Active) (with_in (inw P C T 0 false false no_urgent))
    ∷ no 16 (with_in (inw P C T 65535 false false no_urgent)) (numbered 1)
    ∷ hears (with_in (inw P C T 0 false false no_urgent)) (numbered 1) (heard 0 Active) (with_in (inw P C T 1 false false no_urgent))
    ∷ []

-- THE FLAGS, one by one; bytes 24 and 25
abbrev flags : List Row
flags =
    -- B: replaced
    hears conn (still + 0x8000) (heard 0 Active) (with_in (now P true false no_urgent))
    ∷ hears (with_in (inw P C T 0x7788 true true no_urgent)) still (heard 0 Active) (with_in plain)
    -- P, and U that moves nothing: not looked at
    ∷ hears conn (still + 0x4000) (heard 0 Active) (with_in plain)
    ∷ hears conn (still + 0x2000) (heard 0 Active) (with_in plain)
    -- all that is reserved
    ∷ hears conn 0xFE2C_7789_0A0B0C0D_FFFF_0000_00000008_FFFF_89EF_00000011_071F (heard 0 Active) (with_in plain)
    -- R: replaced, and answered where T differs from C; by their offsets or by their wrap numbers
    ∷ answers conn (still + 0x1000) (heard 0 Active) reply (rec me peer (now_told P false true no_urgent) used none)
    ∷ hears (with_in (inw P C C 0x7788 false false no_urgent)) (still + 0x1000) (heard 0 Active) (with_in (now_told P false true no_urgent))
    ∷ answers (with_in (inw P (cur 8 0) (cur 8 65535) 0x7788 false false no_urgent)) (still + 0x1000) (heard 0 Active)
    0xFE2C_5566_11223344_0000_89F0_00000006_0000_0000_00000008_0000
    (rec me peer (inw P (cur 8 0) (cur 8 0) 0x7789 false true no_urgent) used none)
    -- the answer carries our B, P and U while a place of ours stands, the marks that we sent, and none that we heard
    ∷ answers (with_out (outw Q R 0x5566 true no_urgent)) (still + 0x1000) (heard 0 Active) (reply + 0x8000)
    (rec me peer (now_told P false true no_urgent) (outw Q R 0x5567 true no_urgent) none)
    ∷ answers (with_out (outw Q R 0x5566 false (urgent_at 6 0x89F0))) (still + 0x1000) (heard 0 Active) (reply + 0x6000)
    (rec me peer (now_told P false true no_urgent) (outw Q R 0x5567 false (urgent_at 6 0x89F0)) none)
    ∷ answers (marked_with (marked true false false false true false)) (still + 0x1000) (heard 0 PeerCloseWait1) (reply + 0x80)
    (rec me peer (now_told P false true no_urgent) used (marked true false false false true false))
    ∷ answers (marked_with (marked false true false false true false)) (still + 0x1000) (heard 0 PeerCloseWait1) (reply + 0x40)
    (rec me peer (now_told P false true no_urgent) used (marked false true false false true false))
    ∷ answers (rec me peer (inw P C T 0x7788 true true (urgent_at 7 0)) outs (marked false false true true true false)) (still + 0x1000)
    (heard 0 AppCloseWait1) reply (rec me peer (now_told P false true (urgent_at 7 0)) used (marked false false true true true false))
    -- D and C: a mark once heard stays
    ∷ hears conn (still + 0x80) (heard 0 AppCloseWait1) (rec me peer plain outs heard_d)
    ∷ hears conn (still + 0x40) (heard 0 AppCloseWait1) (rec me peer plain outs heard_c)
    ∷ hears (marked_with heard_d) (still + 0x40) (heard 0 AppCloseWait1) (rec me peer plain outs (marked false false true true false false))
    ∷ hears (marked_with heard_c) (still + 0x80) (heard 0 AppCloseWait1) (rec me peer plain outs (marked false false true true false false))
    ∷ hears (marked_with (marked true false false false true false)) (still + 0x40) (heard 0 AppCloseWait2)
    (rec me peer plain outs (marked true false false true true false))
    ∷ hears (marked_with (marked false true false false true false)) (still + 0x80) (heard 0 PeerCloseWait2)
    (rec me peer plain outs (marked false true true false true false))
    -- C heard where C was sent: closed, and what R asks is answered before; P moved by 1
    ∷ hears (marked_with (marked false true false false true false)) (to_p 9 0 + 0x40) (heard 1 Closed) closed_slot
    ∷ answers (marked_with (marked true true false false true false)) (still + 0x1040) (heard 0 Closed) (reply + 0xC0) closed_slot
    ∷ []

-- URGENT (request 2026-04). U that moves P makes the new P urgent, and one message is made; one that moves none, or P without U, leaves
-- the place
abbrev urgents : List Row
urgents =
    answers conn (to_p 9 0 + 0x2000) (heard 1 Active) reply (rec me peer (now_told (cur 9 0) false false (urgent_at 9 0)) used none)
    ∷ answers conn (to_p 9 0 + 0xB000) (heard 1 Active) reply (rec me peer (now_told (cur 9 0) true true (urgent_at 9 0)) used none)
    ∷ answers (with_in (inw P C C 0x7788 false false (urgent_at 7 0))) (to_p 9 0 + 0x2000) (heard 1 Active) reply
    (rec me peer (now_told (cur 9 0) false false (urgent_at 9 0)) used none)
    ∷ hears (with_in (inw P C T 0x7788 false false (urgent_at 7 0))) (still + 0x2000) (heard 0 Active) (with_in (now P false false
    (urgent_at 7 0)))
    ∷ hears (with_in (inw P C T 0x7788 false false (urgent_at 7 0))) (to_p 9 0 + 0x4000) (heard 1 Active)
    (with_in (now (cur 9 0) false false (urgent_at 7 0)))
    -- our own place (19,89EF), R (17,89EF), Q (6,89F0): not reached, reached, passed
    ∷ hears (with_out (outw Q R 0x5566 false (urgent_at 19 0x89EF))) (to_r 18 0x89EF) (heard 0 Active)
    (rec me peer plain (outw Q (cur 18 0x89EF) 0x5566 false (urgent_at 19 0x89EF)) none)
    ∷ hears (with_out (outw Q R 0x5566 false (urgent_at 19 0x89EF))) (to_r 19 0x89EF) (heard 0 Active)
    (rec me peer plain (outw Q (cur 19 0x89EF) 0x5566 false no_urgent) none)
    ∷ hears (with_out (outw Q R 0x5566 false (urgent_at 19 0x89EF))) (to_r 4 0x89F0) (heard 0 Active)
    (rec me peer plain (outw Q (cur 4 0x89F0) 0x5566 false no_urgent) none)
    -- measured to Q: here P is (12,89EF)
    ∷ hears (rec me peer (inw (cur 12 0x89EF) (cur 12 0x89EF) (cur 12 0x89EF) 0x7788 false false no_urgent) (outw Q R 0x5566 false
    (urgent_at 19 0x89EF)) none)
    0xFE2C_7789_0A0B0C0D_0000_89EF_0000000C_0000_89EF_00000012_0000 (heard 0 Active)
    (rec me peer (inw (cur 12 0x89EF) (cur 12 0x89EF) (cur 12 0x89EF) 0x7789 false false no_urgent)
    (outw Q (cur 18 0x89EF) 0x5566 false (urgent_at 19 0x89EF)) none)
    ∷ []

-- A. If we had not sent A one abort message is made, the marks before it in it; the slot is closed, cursors and number not looked at
abbrev garbled : ℕ
garbled = 0xFE2C_0001_0A0B0C0D_0000_1234_00000003_0000_1234_FFFFFFFF_0020

abbrev a_sent : Marks → Record
a_sent m = rec me peer ins outs m

abbrev aborts : List Row
aborts =
    answers conn garbled (heard 0 Closed) (reply + 0x20) closed_slot
    ∷ answers conn (garbled + 0xB8C0) (heard 0 Closed) (reply + 0x20) closed_slot
    ∷ answers (marked_with (marked true true false false true false)) garbled (heard 0 Closed) (reply + 0xE0) closed_slot
    ∷ answers (marked_with (marked false false true true false false)) garbled (heard 0 Closed) (reply + 0x20) closed_slot
    ∷ hears (marked_with (marked true false false false true true)) garbled (heard 0 Closed) closed_slot
    ∷ hears (marked_with (marked true false false true true true)) (garbled + 0xB8C0) (heard 0 Closed) closed_slot
    -- we had, and this has none: accepted, no change, whatever it says, F too
    ∷ hears (marked_with (marked false false false false false true)) (to_p 9 0 + 0xB0C0) (heard 0 PeerAbortWait)
    (marked_with (marked false false false false false true))
    ∷ hears (marked_with (marked false true true false true true)) 0xFE2C_0001_0A0B0C0D_0000_1234_00000003_0000_1234_FFFFFFFF_F8C0
    (heard 0 PeerAbortWait) (marked_with (marked false true true false true true))
    ∷ []

-- F (request 2026-13): the last number heard is accepted with no change, whatever else it says; any other makes an abort message
abbrev failed : Marks → Record
failed m = rec me peer (inw P C C 0x7788 false false no_urgent) used m

abbrev failovers : List Row
failovers =
    hears conn 0xFE2C_7788_0A0B0C0D_0000_1234_00000003_0000_1234_FFFFFFFF_F8C0 (heard 0 Active) conn
    ∷ hears (marked_with (marked true false true false true false)) (numbered 0x7788 + 0x0800) (heard 0 PeerCloseWait2)
    (marked_with (marked true false true false true false))
    ∷ answers conn (still + 0x0800) (heard 0 PeerAbortWait) (reply + 0x20) (failed (marked false false false false false true))
    ∷ answers conn (numbered 0x7787 + 0x0800) (heard 0 PeerAbortWait) (reply + 0x20) (failed (marked false false false false false true))
    ∷ answers (marked_with (marked true false false true false false)) 0xFE2C_5566_0A0B0C0D_0000_1234_00000003_0000_1234_FFFFFFFF_08C0
    (heard 0 PeerAbortWait) (reply + 0xA0) (failed (marked true false false true false true))
    ∷ []

-- WHICH SLOT: the lowest of two with the token, here 2 of 2 and 3; slot 3, where slot 2 is closed; slot 1 by its own. Number 4, P (4,1),
-- R (5,2)
abbrev twice : Record → Record → Group
twice a b = grouped 3 14 (a ∷ b ∷ conn ∷ []) links13 (memory element2)

abbrev found : List Row
found =
    silent (twice other conn) (heard_bytes still) (heard 0 Active) (twice other (with_in plain))
    ∷ silent (twice other conn) (heard_bytes 0xFE2C_0004_01010101_0000_0001_00000004_0000_0002_00000005_0000) (heard 0 Active)
    (twice
    (rec (who 0x01010101 0x02020202 1) other.remote (inw (cur 4 1) (cur 4 1) (cur 4 1) 4 false false no_urgent) other.outbound none)
    conn)
    ∷ silent (grouped 3 14 (other ∷ shut ∷ conn ∷ []) links13 (memory element2)) (heard_bytes still) (heard 0 Active)
    (grouped 3 14 (other ∷ shut ∷ with_in plain ∷ []) links13 (memory element2))
    ∷ []

unfoldable pub rows : List Row
rows = cursors ++ (flags ++ (urgents ++ (aborts ++ (failovers ++ found))))

abbrev pub RowsRight : Type 0
RowsRight = Right rows

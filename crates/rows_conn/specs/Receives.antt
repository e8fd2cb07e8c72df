-- Place and Read (document 01; the urgent place by request 2026-04): which bytes are free, what is stored, what is read, when it is told.
-- Assumes nothing.
use Rattle.std.specs.Prelude.{ℕ, Bool, true, false, List, [], ◌∷◌, ◌++◌}
use Rattle.cursor.specs.declared.Cursor.{Cursor}
use Rattle.closing.specs.declared.Marks.{Marks}
use Rattle.conn_record.specs.declared.Inbound.{Inbound}
use Rattle.conn_record.specs.declared.Record.{Record}
use Rattle.conn_record.specs.declared.Urgent.{Urgent}
use Rattle.group_rules.specs.Rules.{Group, place, read, on, Says, refusal, accepted, was_read_of, torn}
use Rattle.rows_conn.specs.Rows.{from, zeros, wire, cur, no_urgent, urgent_at, marked, none, inw, outw, rec, me, peer, P, C, T, Q, R}
use Rattle.rows_conn.specs.Rows.{outs, conn, with_in, marked_with, other, shut, grouped, element2, links13, holds, group, done, Row}
use Rattle.rows_conn.specs.Rows.{silent, refused, Right}

-- PLACE. The element once the bytes are stored, or 9
abbrev places : Record → ℕ → List ℕ → List ℕ → Row
places c at b e = silent (group c) (on 2 (place at b)) accepted (holds links13 c e)

abbrev nine : Record → ℕ → List ℕ → Row
nine c at b = refused (group c) (on 2 (place at b)) 9

-- P, C and T
abbrev pct : Cursor → Cursor → Cursor → Record
pct p c t = with_in (inw p c t 0x7788 false false no_urgent)

-- T (8,3), P (12,3): free are 12, 13 and 4 to 7; nothing is free; all is
abbrev round : Record
round = pct (cur 12 3) (cur 9 3) (cur 8 3)

abbrev full : Record
full = pct (cur 8 3) (cur 10 2) (cur 8 2)

abbrev empty : Record
empty = pct (cur 8 3) (cur 8 3) (cur 8 3)

abbrev eye : List ℕ → List ℕ
eye b = 0xE2 ∷ 0xD4 ∷ 0xC3 ∷ 0xD9 ∷ b

abbrev placed : List Row
placed =
    -- T (12,65535), P (8,0): 4 bytes are free, 8 to 11, though C is at (5,0)
    places conn 8 (1 ∷ 2 ∷ 3 ∷ 4 ∷ []) (eye (from 0xA4 4 ++ (1 ∷ 2 ∷ 3 ∷ 4 ∷ 0xAC ∷ 0xAD ∷ [])))
    ∷ places conn 11 (1 ∷ []) (eye (from 0xA4 7 ++ (1 ∷ 0xAC ∷ 0xAD ∷ [])))
    ∷ nine conn 8 (1 ∷ 2 ∷ 3 ∷ 4 ∷ 5 ∷ [])
    ∷ nine conn 7 (1 ∷ [])
    ∷ nine conn 7 (1 ∷ 2 ∷ [])
    ∷ nine conn 11 (1 ∷ 2 ∷ [])
    ∷ nine conn 12 (1 ∷ [])
    -- round the end: all bytes must lie in 4 to 13
    ∷ places round 12 (1 ∷ 2 ∷ []) (eye (from 0xA4 8 ++ (1 ∷ 2 ∷ [])))
    ∷ places round 4 (1 ∷ 2 ∷ 3 ∷ 4 ∷ []) (eye (1 ∷ 2 ∷ 3 ∷ 4 ∷ from 0xA8 6))
    ∷ nine round 12 (1 ∷ 2 ∷ 3 ∷ [])
    ∷ nine round 4 (1 ∷ 2 ∷ 3 ∷ 4 ∷ 5 ∷ [])
    ∷ nine round 3 (1 ∷ [])
    ∷ nine round 14 (1 ∷ [])
    ∷ nine round 8 (1 ∷ [])
    -- a full element, and an empty one
    ∷ nine full 8 (1 ∷ [])
    ∷ nine full 7 (1 ∷ [])
    ∷ places empty 4 (from 1 10) (eye (from 1 10))
    ∷ nine empty 4 (from 1 11)
    ∷ nine empty 3 (from 1 2)
    -- no bytes: accepted at any offset
    ∷ places conn 0 [] element2
    ∷ places full 99 [] element2
    -- D or C sent does not forbid
    ∷ places (marked_with (marked true false false false true false)) 11 (1 ∷ []) (eye (from 0xA4 7 ++ (1 ∷ 0xAC ∷ 0xAD ∷ [])))
    ∷ places (marked_with (marked false true false false true false)) 11 (1 ∷ []) (eye (from 0xA4 7 ++ (1 ∷ 0xAC ∷ 0xAD ∷ [])))
    ∷ []

-- READ into an out buffer: what it says, out afterwards, the record; and with a message
abbrev reads : Group → List ℕ → Says → List ℕ → Group → Row
reads g out s left h = record { group = g; call = on 2 (read out); comes = done s false (zeros 44) left h }

abbrev reads_told : Group → List ℕ → Says → List ℕ → ℕ → Group → Row
reads_told g out s left x h = record { group = g; call = on 2 (read out); comes = done s true (wire x) left h }

abbrev told : Inbound → Record
told i = rec me peer i (outw Q R 0x5567 false no_urgent) none

-- B and R heard, and the urgent place; T is C, and P two bytes on: the window is 8
abbrev heard : Bool → Bool → Urgent → Record
heard b r u = with_in (inw (cur 6 3) (cur 4 3) (cur 4 3) 0x7788 b r u)

abbrev at5 : Bool → Bool → Urgent → Inbound
at5 b r u = inw (cur 6 3) (cur 5 3) (cur 5 3) 0x7788 b r u

-- N 26, D 22: a window of 7 where T is (4,3) and P (19,3)
abbrev wide : Record → Group
wide c = grouped 3 26 (other ∷ c ∷ shut ∷ []) links13 (from 1 26 ++ ((0xE2 ∷ 0xD4 ∷ 0xC3 ∷ 0xD9 ∷ from 0xA4 22) ++ from 53 26))

abbrev small : Cursor → Cursor → Record
small c t = pct (cur 19 3) c t

-- an element with another eye catcher
abbrev damaged : ℕ → ℕ → ℕ → ℕ → List ℕ
damaged a b c d = a ∷ b ∷ c ∷ d ∷ from 0xA4 10

abbrev tears : List ℕ → Row
tears e =
    reads_told (holds links13 conn e) (0x11 ∷ 0x22 ∷ []) torn (0x11 ∷ 0x22 ∷ [])
    0xFE2C_5566_11223344_0000_89F0_00000006_0000_0000_00000005_0020
    (holds links13
    (rec me peer (inw P C C 0x7788 false false no_urgent) (outw Q R 0x5567 false no_urgent) (marked false false false false false true))
    e)

-- D sent, D heard and C heard do not forbid: one byte of one
abbrev last : Marks → ℕ → Row
last m x =
    reads_told (group (rec me peer (inw (cur 5 3) (cur 4 3) (cur 4 3) 0x7788 true false no_urgent) outs m)) (7 ∷ []) (was_read_of 1) (0xA4 ∷ []) x
    (group (rec me peer (inw (cur 5 3) (cur 5 3) (cur 5 3) 0x7788 true false no_urgent) (outw Q R 0x5567 false no_urgent) m))

abbrev have_read : List Row
have_read =
    -- 3 bytes are unread, from (5,0): n is the smaller of unread and room, out beyond n stays. The window is 4 and the gain 6, 5, 4: told
    reads_told (group conn) (1 ∷ 2 ∷ 3 ∷ 4 ∷ 5 ∷ []) (was_read_of 3) (0xA5 ∷ 0xA6 ∷ 0xA7 ∷ 4 ∷ 5 ∷ [])
    0xFE2C_5566_11223344_0000_89F0_00000006_0000_0000_00000008_0000 (group (told (inw P P P 0x7788 false false no_urgent)))
    ∷ reads_told (group conn) (1 ∷ 2 ∷ []) (was_read_of 2) (0xA5 ∷ 0xA6 ∷ [])
    0xFE2C_5566_11223344_0000_89F0_00000006_0000_0000_00000007_0000 (group (told (inw P (cur 7 0) (cur 7 0) 0x7788 false false no_urgent)))
    ∷ reads (group conn) [] (was_read_of 0) [] (group conn)
    -- all 10 bytes, from (9,3) round the end: a window of 0
    ∷ reads_told (group (pct (cur 9 4) (cur 9 3) (cur 9 3))) (from 1 11) (was_read_of 10) (from 0xA9 5 ++ (from 0xA4 5 ++ (11 ∷ [])))
    0xFE2C_5566_11223344_0000_89F0_00000006_0000_0004_00000009_0000 (group (told (inw (cur 9 4) (cur 9 4) (cur 9 4) 0x7788 false false
    no_urgent)))
    -- up to the end: the wrap number 65,535 goes on to 0
    ∷ reads_told (group (pct (cur 8 0) (cur 12 65535) (cur 12 65535))) (1 ∷ 2 ∷ []) (was_read_of 2) (0xAC ∷ 0xAD ∷ [])
    0xFE2C_5566_11223344_0000_89F0_00000006_0000_0000_00000004_0000 (group (told (inw (cur 8 0) (cur 4 0) (cur 4 0) 0x7788 false false
    no_urgent)))
    -- nothing is unread, whatever stood in the last message heard
    ∷ reads (group (with_in (inw (cur 4 4) (cur 4 4) (cur 4 3) 0x7788 true true no_urgent))) (1 ∷ []) (was_read_of 0) (1 ∷ [])
    (group (with_in (inw (cur 4 4) (cur 4 4) (cur 4 3) 0x7788 true true no_urgent)))
    -- THE HALF AND THE TENTH, by D 10: a window of 4 and a gain of 1, told; a window of 5 and a gain of 5, not
    ∷ reads_told (group (pct (cur 10 3) (cur 4 3) (cur 4 3))) (1 ∷ []) (was_read_of 1) (0xA4 ∷ [])
    0xFE2C_5566_11223344_0000_89F0_00000006_0000_0003_00000005_0000
    (group (told (inw (cur 10 3) (cur 5 3) (cur 5 3) 0x7788 false false no_urgent)))
    ∷ reads (group (pct (cur 9 3) (cur 4 3) (cur 4 3))) (from 1 5) (was_read_of 5) (from 0xA4 5) (group (pct (cur 9 3) (cur 9 3) (cur 4 3)))
    -- the window is measured from T, and so is the gain. By D 22, a window of 7: a gain of 2 is not told; of 3, it is, by one byte where
    -- T lies 2 behind
    ∷ reads (wide (small (cur 4 3) (cur 4 3))) (1 ∷ 2 ∷ []) (was_read_of 2) (0xA4 ∷ 0xA5 ∷ []) (wide (small (cur 6 3) (cur 4 3)))
    ∷ reads_told (wide (small (cur 6 3) (cur 4 3))) (1 ∷ []) (was_read_of 1) (0xA6 ∷ [])
    0xFE2C_5566_11223344_0000_89F0_00000006_0000_0003_00000007_0000
    (wide (told (inw (cur 19 3) (cur 7 3) (cur 7 3) 0x7788 false false no_urgent)))
    -- the gain goes round the end: from (25,3) to (5,4) it is 2
    ∷ reads (wide (pct (cur 16 4) (cur 25 3) (cur 25 3))) (1 ∷ 2 ∷ []) (was_read_of 2) (0xB9 ∷ 0xA4 ∷ [])
    (wide (pct (cur 16 4) (cur 5 4) (cur 25 3)))
    -- a window of 10 and of 11, by D 22
    ∷ reads_told (wide (pct (cur 16 3) (cur 12 3) (cur 4 3))) (1 ∷ []) (was_read_of 1) (0xAC ∷ [])
    0xFE2C_5566_11223344_0000_89F0_00000006_0000_0003_0000000D_0000
    (wide (told (inw (cur 16 3) (cur 13 3) (cur 13 3) 0x7788 false false no_urgent)))
    ∷ reads (wide (pct (cur 15 3) (cur 12 3) (cur 4 3))) (1 ∷ []) (was_read_of 1) (0xAC ∷ []) (wide (pct (cur 15 3) (cur 13 3) (cur 4 3)))
    -- B OR R stood in the last message heard; our own B does not count
    ∷ reads (group (heard false false no_urgent)) (1 ∷ []) (was_read_of 1) (0xA4 ∷ [])
    (group (with_in (inw (cur 6 3) (cur 5 3) (cur 4 3) 0x7788 false false no_urgent)))
    ∷ reads_told (group (heard true false no_urgent)) (1 ∷ []) (was_read_of 1) (0xA4 ∷ [])
    0xFE2C_5566_11223344_0000_89F0_00000006_0000_0003_00000005_0000 (group (told (at5 true false no_urgent)))
    ∷ reads_told (group (heard false true no_urgent)) (1 ∷ []) (was_read_of 1) (0xA4 ∷ [])
    0xFE2C_5566_11223344_0000_89F0_00000006_0000_0003_00000005_0000 (group (told (at5 false true no_urgent)))
    ∷ reads (group (heard true true no_urgent)) [] (was_read_of 0) [] (group (heard true true no_urgent))
    ∷ reads (group (rec me peer (inw (cur 6 3) (cur 4 3) (cur 4 3) 0x7788 false false no_urgent) (outw Q R 0x5566 true no_urgent) none)) (1
    ∷ []) (was_read_of 1)
    (0xA4 ∷ []) (group (rec me peer (inw (cur 6 3) (cur 5 3) (cur 4 3) 0x7788 false false no_urgent) (outw Q R 0x5566 true no_urgent) none))
    -- THE URGENT PLACE: reached, passed, not yet reached
    ∷ reads_told (group (heard false false (urgent_at 5 3))) (1 ∷ []) (was_read_of 1) (0xA4 ∷ [])
    0xFE2C_5566_11223344_0000_89F0_00000006_0000_0003_00000005_0000 (group (told (at5 false false no_urgent)))
    ∷ reads_told (group (heard false false (urgent_at 5 3))) (1 ∷ 2 ∷ []) (was_read_of 2) (0xA4 ∷ 0xA5 ∷ [])
    0xFE2C_5566_11223344_0000_89F0_00000006_0000_0003_00000006_0000 (group (told (inw (cur 6 3) (cur 6 3) (cur 6 3) 0x7788 false false
    no_urgent)))
    ∷ reads (group (heard false false (urgent_at 6 3))) (1 ∷ []) (was_read_of 1) (0xA4 ∷ [])
    (group (with_in (inw (cur 6 3) (cur 5 3) (cur 4 3) 0x7788 false false (urgent_at 6 3))))
    ∷ reads (group (heard false false (urgent_at 5 3))) [] (was_read_of 0) [] (group (heard false false (urgent_at 5 3)))
    -- it lies behind the end, and the new C before it
    ∷ reads (group (with_in (inw (cur 6 4) (cur 12 3) (cur 12 3) 0x7788 false false (urgent_at 5 4)))) (1 ∷ []) (was_read_of 1) (0xAC ∷ [])
    (group (with_in (inw (cur 6 4) (cur 13 3) (cur 12 3) 0x7788 false false (urgent_at 5 4))))
    -- A DAMAGED EYE CATCHER, in each of its bytes
    ∷ tears (damaged 0xE3 0xD4 0xC3 0xD9)
    ∷ tears (damaged 0xE2 0xD5 0xC3 0xD9)
    ∷ tears (damaged 0xE2 0xD4 0xC2 0xD9)
    ∷ tears (damaged 0xE2 0xD4 0xC3 0xD8)
    -- 3, 6 and 7 come first
    ∷ reads (holds links13 (pct P (cur 3 0) T) (damaged 0xE2 0xD4 0xC3 0xD8)) (1 ∷ []) (refusal 3) (1 ∷ [])
    (holds links13 (pct P (cur 3 0) T) (damaged 0xE2 0xD4 0xC3 0xD8))
    ∷ reads (holds (true ∷ true ∷ false ∷ true ∷ []) conn (damaged 0xE2 0xD4 0xC3 0xD8)) (1 ∷ []) (refusal 6) (1 ∷ [])
    (holds (true ∷ true ∷ false ∷ true ∷ []) conn (damaged 0xE2 0xD4 0xC3 0xD8))
    ∷ reads (holds links13 (marked_with (marked false true false false true false)) (damaged 0xE2 0xD4 0xC3 0xD8)) (1 ∷ []) (refusal 7) (1
    ∷ [])
    (holds links13 (marked_with (marked false true false false true false)) (damaged 0xE2 0xD4 0xC3 0xD8))
    -- marks that do not forbid
    ∷ last (marked true false false false true false) 0xFE2C_5566_11223344_0000_89F0_00000006_0000_0003_00000005_0080
    ∷ last (marked false false true false false false) 0xFE2C_5566_11223344_0000_89F0_00000006_0000_0003_00000005_0000
    ∷ last (marked false false false true false false) 0xFE2C_5566_11223344_0000_89F0_00000006_0000_0003_00000005_0000
    ∷ []

-- IN OTHER SLOTS: the same in slot 3, whose element is bytes 29 to 42, and in slot 1
abbrev third : Record → List ℕ → Group
third c e = grouped 3 14 (other ∷ shut ∷ c ∷ []) links13 (from 1 28 ++ e)

abbrev first : Record → List ℕ → Group
first c e = grouped 3 14 (c ∷ other ∷ shut ∷ []) links13 (e ++ from 15 28)

abbrev elsewhere : List Row
elsewhere =
    silent (third conn element2) (on 3 (place 8 (1 ∷ 2 ∷ []))) accepted (third conn (eye (from 0xA4 4 ++ (1 ∷ 2 ∷ from 0xAA 4))))
    ∷ silent (first conn element2) (on 1 (place 8 (1 ∷ 2 ∷ []))) accepted (first conn (eye (from 0xA4 4 ++ (1 ∷ 2 ∷ from 0xAA 4))))
    ∷ record {
      group = third conn element2;
      call = on 3 (read (1 ∷ 2 ∷ []));
      comes =
          done (was_read_of 2) true (wire 0xFE2C_5566_11223344_0000_89F0_00000006_0000_0000_00000007_0000) (0xA5 ∷ 0xA6 ∷ [])
          (third (told (inw P (cur 7 0) (cur 7 0) 0x7788 false false no_urgent)) element2);
    }
    ∷ record {
      group = first conn element2;
      call = on 1 (read (1 ∷ 2 ∷ []));
      comes =
          done (was_read_of 2) true (wire 0xFE2C_5566_11223344_0000_89F0_00000006_0000_0000_00000007_0000) (0xA5 ∷ 0xA6 ∷ [])
          (first (told (inw P (cur 7 0) (cur 7 0) 0x7788 false false no_urgent)) element2);
    }
    ∷ []

unfoldable pub rows : List Row
rows = placed ++ (have_read ++ elsewhere)

abbrev pub RowsRight : Type 0
RowsRight = Right rows

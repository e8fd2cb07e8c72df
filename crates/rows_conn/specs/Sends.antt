-- Send, urgent send and gather (document 01; requests 2026-04, 2026-08 and 2026-09): n, the placings by key and address, Q, B, the urgent
-- place, and the message. Room is D' minus the distance R to Q: 16 - 5. On link 3 an offset x of element 5 of 20 bytes is address
-- 2122232425262728 + 80 + x. Assumes nothing.
use Rattle.std.specs.Prelude.{ℕ, Bool, true, false, List, [], ◌∷◌}
use Rattle.cursor.specs.declared.Cursor.{Cursor}
use Rattle.conn_answer.specs.declared.Placing.{Placing}
use Rattle.conn_record.specs.declared.Identity.{Identity}
use Rattle.conn_record.specs.declared.Outbound.{Outbound}
use Rattle.conn_record.specs.declared.Record.{Record}
use Rattle.conn_gather.specs.Pieces.{Piece}
use Rattle.group_rules.specs.Rules.{send, urgent, gather, on, sent, gathered}
use Rattle.rows_conn.specs.Rows.{from, cur, no_urgent, urgent_at, marked, none, who, inw, outw, rec, me, peer, P, C, Q, R, ins, conn}
use Rattle.rows_conn.specs.Rows.{with_out, with_me, marked_with, element2, holds, Row, tells, quiet, says, Right}

-- key, address, start, length
abbrev to : ℕ → ℕ → ℕ → ℕ → Placing
to key a start len = record { key = key; address = a; start = start; len = len }

abbrev bytes : ℕ → List ℕ
bytes n = from 1 n

abbrev piece : ℕ → ℕ → List ℕ → Piece
piece key a b = record { key = key; address = a; bytes = b }

-- the record before, with Q and R, B and the urgent place as given; and after a message: T is C, and the number is used
abbrev before : Cursor → Cursor → Bool → Record
before q r b = with_out (outw q r 0x5566 b no_urgent)

abbrev told : Outbound → Record
told o = rec me peer (inw P C C 0x7788 false false no_urgent) o none

abbrev after : Cursor → Cursor → Bool → Record
after q r b = told (outw q r 0x5567 b no_urgent)

-- Q (17,89F0) and R (6,89F0): room 5, of which 3 before the end
abbrev late : Record
late = before (cur 17 0x89F0) (cur 6 0x89F0) false

-- a full element: R a turn behind Q
abbrev full : Bool → Record
full b = before Q (cur 6 0x89EF) b

-- on link l, which alone is active: one byte to the key and the address
abbrev over : ℕ → List Bool → ℕ → ℕ → Row
over l up key a =
    let id : Identity = who 0x0A0B0C0D 0x11223344 l in
    tells (holds up (with_me id) element2) (on 2 (send (bytes 1))) (sent 1 (to key a 0 1 ∷ []))
    0xFE2C_5566_11223344_0000_89F0_00000007_0000_0000_00000005_0000
    (holds up
    (rec id peer (inw P C C 0x7788 false false no_urgent) (outw (cur 7 0x89F0) R 0x5567 false no_urgent) none)
    element2)

unfoldable pub rows : List Row
rows =
    -- ROOM 11: all of it, and one more, B on
    says (send (bytes 11)) conn (sent 11 (to 0xA3B3C3D3 0x212223242526277E 0 11 ∷ []))
    0xFE2C_5566_11223344_0000_89F0_00000011_0000_0000_00000005_0000 (after (cur 17 0x89F0) R false)
    ∷ says (send (bytes 12)) conn (sent 11 (to 0xA3B3C3D3 0x212223242526277E 0 11 ∷ []))
    0xFE2C_5566_11223344_0000_89F0_00000011_0000_0000_00000005_8000 (after (cur 17 0x89F0) R true)
    -- an empty element has room 16: 14 to the end, 2 from 4
    ∷ says (send (bytes 20)) (before Q Q false)
    (sent 16 (to 0xA3B3C3D3 0x212223242526277E 0 14 ∷ to 0xA3B3C3D3 0x212223242526277C 14 2 ∷ []))
    0xFE2C_5566_11223344_0000_89F1_00000006_0000_0000_00000005_8000 (after (cur 6 0x89F1) Q true)
    -- each link's key and base
    ∷ over 1 (true ∷ false ∷ false ∷ false ∷ []) 0xA1B1C1D1 0x010203040506075E
    ∷ over 2 (false ∷ true ∷ false ∷ false ∷ []) 0xA2B2C2D2 0x111213141516176E
    ∷ over 3 (false ∷ false ∷ true ∷ false ∷ []) 0xA3B3C3D3 0x212223242526277E
    ∷ over 4 (false ∷ false ∷ false ∷ true ∷ []) 0xA4B4C4D4 0x313233343536378E
    -- TO THE END: one before it, up to it, one past it, all the room
    ∷ says (send (bytes 2)) late (sent 2 (to 0xA3B3C3D3 0x2122232425262789 0 2 ∷ []))
    0xFE2C_5566_11223344_0000_89F0_00000013_0000_0000_00000005_0000 (after (cur 19 0x89F0) (cur 6 0x89F0) false)
    ∷ says (send (bytes 3)) late (sent 3 (to 0xA3B3C3D3 0x2122232425262789 0 3 ∷ []))
    0xFE2C_5566_11223344_0000_89F1_00000004_0000_0000_00000005_0000 (after (cur 4 0x89F1) (cur 6 0x89F0) false)
    ∷ says (send (bytes 4)) late (sent 4 (to 0xA3B3C3D3 0x2122232425262789 0 3 ∷ to 0xA3B3C3D3 0x212223242526277C 3 1 ∷ []))
    0xFE2C_5566_11223344_0000_89F1_00000005_0000_0000_00000005_0000 (after (cur 5 0x89F1) (cur 6 0x89F0) false)
    ∷ says (send (bytes 5)) late (sent 5 (to 0xA3B3C3D3 0x2122232425262789 0 3 ∷ to 0xA3B3C3D3 0x212223242526277C 3 2 ∷ []))
    0xFE2C_5566_11223344_0000_89F1_00000006_0000_0000_00000005_0000 (after (cur 6 0x89F1) (cur 6 0x89F0) false)
    -- wrap number 65,535 goes on to 0
    ∷ says (send (bytes 3)) (before (cur 17 65535) (cur 6 65535) false) (sent 3 (to 0xA3B3C3D3 0x2122232425262789 0 3 ∷ []))
    0xFE2C_5566_11223344_0000_0000_00000004_0000_0000_00000005_0000 (after (cur 4 0) (cur 6 65535) false)
    -- B. Nothing fits and B was not yet told: a message; it was: none. All fits: B goes off. Nothing offered: no change
    ∷ says (send (bytes 2)) (full false) (sent 0 []) 0xFE2C_5566_11223344_0000_89F0_00000006_0000_0000_00000005_8000
    (after Q (cur 6 0x89EF) true)
    ∷ quiet (send (bytes 2)) (full true) (sent 0 []) (full true)
    ∷ says (send (bytes 11)) (before Q R true) (sent 11 (to 0xA3B3C3D3 0x212223242526277E 0 11 ∷ []))
    0xFE2C_5566_11223344_0000_89F0_00000011_0000_0000_00000005_0000 (after (cur 17 0x89F0) R false)
    ∷ quiet (send []) (before Q R true) (sent 0 []) (before Q R true)
    ∷ quiet (send []) (full false) (sent 0 []) (full false)
    -- a place that does not stand is kept as it is
    ∷ says (send (bytes 1)) (with_out (outw Q R 0x5566 false (record { standing = false; place = cur 9 8 })))
    (sent 1 (to 0xA3B3C3D3 0x212223242526277E 0 1 ∷ [])) 0xFE2C_5566_11223344_0000_89F0_00000007_0000_0000_00000005_0000
    (told (outw (cur 7 0x89F0) R 0x5567 false (record { standing = false; place = cur 9 8 })))
    -- D heard does not forbid
    ∷ says (send (bytes 1)) (marked_with (marked false false true false false false)) (sent 1 (to 0xA3B3C3D3 0x212223242526277E 0 1 ∷ []))
    0xFE2C_5566_11223344_0000_89F0_00000007_0000_0000_00000005_0000
    (rec me peer (inw P C C 0x7788 false false no_urgent) (outw (cur 7 0x89F0) R 0x5567 false no_urgent)
    (marked false false true false false false))
    -- the number 65,535 goes on to 0, and 0 to 1
    ∷ says (send (bytes 1)) (with_out (outw Q R 65535 false no_urgent)) (sent 1 (to 0xA3B3C3D3 0x212223242526277E 0 1 ∷ []))
    0xFE2C_FFFF_11223344_0000_89F0_00000007_0000_0000_00000005_0000 (told (outw (cur 7 0x89F0) R 0 false no_urgent))
    ∷ says (send (bytes 1)) (with_out (outw Q R 0 false no_urgent)) (sent 1 (to 0xA3B3C3D3 0x212223242526277E 0 1 ∷ []))
    0xFE2C_0000_11223344_0000_89F0_00000007_0000_0000_00000005_0000 (told (outw (cur 7 0x89F0) R 1 false no_urgent))
    -- every byte of a number and of a token
    ∷ says (send (bytes 1)) (rec (who 0x0A0B0C0D 0xFF000000 3) peer ins (outw Q R 0x5500 false no_urgent) none)
    (sent 1 (to 0xA3B3C3D3 0x212223242526277E 0 1 ∷ [])) 0xFE2C_5500_FF000000_0000_89F0_00000007_0000_0000_00000005_0000
    (rec (who 0x0A0B0C0D 0xFF000000 3) peer (inw P C C 0x7788 false false no_urgent) (outw (cur 7 0x89F0) R 0x5501 false no_urgent) none)
    ∷ says (send (bytes 1)) (rec (who 0x0A0B0C0D 0x11FFFFFF 3) peer ins (outw Q R 0x55FF false no_urgent) none)
    (sent 1 (to 0xA3B3C3D3 0x212223242526277E 0 1 ∷ [])) 0xFE2C_55FF_11FFFFFF_0000_89F0_00000007_0000_0000_00000005_0000
    (rec (who 0x0A0B0C0D 0x11FFFFFF 3) peer (inw P C C 0x7788 false false no_urgent) (outw (cur 7 0x89F0) R 0x5600 false no_urgent) none)
    -- URGENT. Taken whole: Q is the urgent place, P and U
    ∷ says (urgent (bytes 11)) conn (sent 11 (to 0xA3B3C3D3 0x212223242526277E 0 11 ∷ []))
    0xFE2C_5566_11223344_0000_89F0_00000011_0000_0000_00000005_6000 (told (outw (cur 17 0x89F0) R 0x5567 false (urgent_at 17 0x89F0)))
    ∷ says (urgent (bytes 11)) (before Q R true) (sent 11 (to 0xA3B3C3D3 0x212223242526277E 0 11 ∷ []))
    0xFE2C_5566_11223344_0000_89F0_00000011_0000_0000_00000005_6000 (told (outw (cur 17 0x89F0) R 0x5567 false (urgent_at 17 0x89F0)))
    -- cut short: a message with P and no U, B on; also where nothing fits and B was told
    ∷ says (urgent (bytes 12)) conn (sent 11 (to 0xA3B3C3D3 0x212223242526277E 0 11 ∷ []))
    0xFE2C_5566_11223344_0000_89F0_00000011_0000_0000_00000005_C000 (after (cur 17 0x89F0) R true)
    ∷ says (urgent (bytes 2)) (full true) (sent 0 []) 0xFE2C_5566_11223344_0000_89F0_00000006_0000_0000_00000005_C000
    (after Q (cur 6 0x89EF) true)
    -- no byte: no change. While a place of ours stands nothing is sent, nothing changes
    ∷ quiet (urgent []) conn (sent 0 []) conn
    ∷ quiet (send (bytes 1)) (with_out (outw Q R 0x5566 false (urgent_at 18 0x89EF))) (sent 0 []) (with_out (outw Q R 0x5566 false
    (urgent_at 18 0x89EF)))
    ∷ quiet (urgent (bytes 1)) (with_out (outw Q R 0x5566 false (urgent_at 6 0x89F0))) (sent 0 [])
    (with_out (outw Q R 0x5566 false (urgent_at 6 0x89F0)))
    -- GATHER: the head, the body up to the end and from 4 on, an empty one at the new Q
    ∷ says (gather (0xA1 ∷ 0xA2 ∷ []) (0xB1 ∷ 0xB2 ∷ 0xB3 ∷ 0xB4 ∷ [])) late
    (gathered 5
    (piece 0xA3B3C3D3 0x2122232425262789 (0xA1 ∷ 0xA2 ∷ [])
    ∷ piece 0xA3B3C3D3 0x212223242526278B (0xB1 ∷ [])
    ∷ piece 0xA3B3C3D3 0x212223242526277C (0xB2 ∷ 0xB3 ∷ [])
    ∷ piece 0xA3B3C3D3 0x212223242526277E []
    ∷ []))
    0xFE2C_5566_11223344_0000_89F1_00000006_0000_0000_00000005_8000 (after (cur 6 0x89F1) (cur 6 0x89F0) true)
    -- the head up to the end and from 4 on, then the body
    ∷ says (gather (0xA1 ∷ 0xA2 ∷ 0xA3 ∷ 0xA4 ∷ []) (0xB1 ∷ [])) late
    (gathered 5
    (piece 0xA3B3C3D3 0x2122232425262789 (0xA1 ∷ 0xA2 ∷ 0xA3 ∷ [])
    ∷ piece 0xA3B3C3D3 0x212223242526277C (0xA4 ∷ [])
    ∷ piece 0xA3B3C3D3 0x212223242526277D (0xB1 ∷ [])
    ∷ piece 0xA3B3C3D3 0x212223242526277E []
    ∷ []))
    0xFE2C_5566_11223344_0000_89F1_00000006_0000_0000_00000005_0000 (after (cur 6 0x89F1) (cur 6 0x89F0) false)
    -- nothing fits and B was told; an empty head; an empty body, up to the end: the empty piece is at 4
    ∷ quiet (gather (0xA1 ∷ []) (0xB1 ∷ [])) (full true) (gathered 0 (piece 0xA3B3C3D3 0x212223242526277E [] ∷ [])) (full true)
    ∷ says (gather [] (0xB1 ∷ 0xB2 ∷ [])) conn
    (gathered 2 (piece 0xA3B3C3D3 0x212223242526277E (0xB1 ∷ 0xB2 ∷ []) ∷ piece 0xA3B3C3D3 0x2122232425262780 [] ∷ []))
    0xFE2C_5566_11223344_0000_89F0_00000008_0000_0000_00000005_0000 (after (cur 8 0x89F0) R false)
    ∷ says (gather (0xA1 ∷ 0xA2 ∷ 0xA3 ∷ []) []) late
    (gathered 3 (piece 0xA3B3C3D3 0x2122232425262789 (0xA1 ∷ 0xA2 ∷ 0xA3 ∷ []) ∷ piece 0xA3B3C3D3 0x212223242526277C [] ∷ []))
    0xFE2C_5566_11223344_0000_89F1_00000004_0000_0000_00000005_0000 (after (cur 4 0x89F1) (cur 6 0x89F0) false)
    ∷ []

abbrev pub RowsRight : Type 0
RowsRight = Right rows

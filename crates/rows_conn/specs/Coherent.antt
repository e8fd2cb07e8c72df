-- Document 01: "An open record is coherent if both tokens are nonzero, link and N' are in range, all offsets are in range, the distances
-- T to C and C to P are good and sum to at most D, the distance R to Q is good by D', and the close marks sent and heard are not both C."
-- Request 2026-09: "bars an element whose last byte would pass the top of 64 bits on any link, or an index outside 1 to 255". Request
-- 2026-04: "an urgent place lies after R up to Q, or after C up to P". Each row of `broken` breaks one of these, by one, and 3 is
-- answered; each row of `kept` keeps it just so. Assumes nothing.
use Rattle.std.specs.Prelude.{ℕ, Bool, true, false, List, [], ◌∷◌, ◌++◌, map}
use Rattle.conn_record.specs.declared.Record.{Record}
use Rattle.conn_record.specs.declared.Urgent.{Urgent}
use Rattle.cursor.specs.declared.Cursor.{Cursor}
use Rattle.group_rules.specs.Rules.{place, on, accepted}
use Rattle.rows_conn.specs.Rows.{cur, rtoken, no_urgent, urgent_at, marked, who, far, inw, outw, rec, me, key1, key2, key3, key4, T}
use Rattle.rows_conn.specs.Rows.{ins, none, conn, with_me, with_peer, with_in, with_out, marked_with, holds, element2, Row, silent}
use Rattle.rows_conn.specs.Rows.{refused, Right}

-- P, C and T; Q and R; nothing else another
abbrev pct : Cursor → Cursor → Cursor → Record
pct p c t = with_in (inw p c t 0x7788 false false no_urgent)

abbrev qr : Cursor → Cursor → Record
qr q r = with_out (outw q r 0x5566 false no_urgent)

-- an urgent place of ours, and of our element
abbrev urge_in : Cursor → Cursor → Urgent → Record
urge_in p c u = with_in (inw p c T 0x7788 false false u)

abbrev urge_out : Cursor → Cursor → Urgent → Record
urge_out q r u = with_out (outw q r 0x5566 false u)

-- N' with Q and R at (5,2) and (4,2), and an index
abbrev sized : ℕ → ℕ → Record
sized size index =
    rec me (far size index key1 key2 key3 key4) ins (outw (cur 5 2) (cur 4 2) 0x5566 false no_urgent) none

-- a base on one of the links, index 5 and N' 20: the last byte is base + 99
abbrev based : ℕ → ℕ → ℕ → ℕ → Record
based a b c d = with_peer (far 20 5 (rtoken 0xA1B1C1D1 a) (rtoken 0xA2B2C2D2 b) (rtoken 0xA3B3C3D3 c) (rtoken 0xA4B4C4D4 d))

-- C SENT or heard, and D
abbrev closing : Bool → Bool → Bool → Bool → Record
closing ds cs dh ch = marked_with (marked ds cs dh ch false false)

-- THE RECORDS
abbrev broken : List Record
broken =
    -- both tokens are nonzero
    with_me (who 0 0x11223344 3)
    ∷ with_me (who 0x0A0B0C0D 0 3)
    -- link 1 to 4
    ∷ with_me (who 0x0A0B0C0D 0x11223344 0)
    ∷ with_me (who 0x0A0B0C0D 0x11223344 5)
    -- N' 8 to 65,540, index 1 to 255
    ∷ sized 7 5
    ∷ sized 65541 5
    ∷ sized 20 0
    ∷ sized 20 256
    -- the last byte on each link
    ∷ based 0xFFFFFFFFFFFFFF9D 2 3 4
    ∷ based 1 0xFFFFFFFFFFFFFF9D 3 4
    ∷ based 1 2 0xFFFFFFFFFFFFFF9D 4
    ∷ based 1 2 3 0xFFFFFFFFFFFFFF9D
    -- offsets: P, C, T 4 to 13
    ∷ pct (cur 3 0) (cur 13 65535) (cur 13 65535)
    ∷ pct (cur 14 6) (cur 13 6) (cur 12 6)
    ∷ pct (cur 4 0) (cur 3 0) (cur 13 65535)
    ∷ pct (cur 4 7) (cur 14 6) (cur 13 6)
    ∷ pct (cur 4 6) (cur 4 6) (cur 3 6)
    ∷ pct (cur 4 7) (cur 4 7) (cur 14 6)
    -- Q and R 4 to 19
    ∷ qr (cur 3 0) (cur 19 65535)
    ∷ qr (cur 20 6) (cur 19 6)
    ∷ qr (cur 4 6) (cur 3 6)
    ∷ qr (cur 4 7) (cur 20 6)
    -- distances: T to C and C to P not below 0, their sum not 11
    ∷ pct (cur 6 6) (cur 5 6) (cur 6 6)
    ∷ pct (cur 5 6) (cur 6 6) (cur 4 6)
    ∷ pct (cur 5 7) (cur 10 6) (cur 4 6)
    ∷ pct (cur 5 1) (cur 4 1) (cur 4 0)
    ∷ pct (cur 5 1) (cur 5 0) (cur 4 0)
    -- R to Q not below 0, not 17
    ∷ qr (cur 4 6) (cur 5 6)
    ∷ qr (cur 6 7) (cur 5 6)
    -- not both C
    ∷ closing false true false true
    ∷ closing true true true true
    -- an urgent place after C (13,65535) up to P (5,0): not C, not one past P, not out of the data
    ∷ urge_in (cur 5 0) (cur 13 65535) (urgent_at 13 65535)
    ∷ urge_in (cur 5 0) (cur 13 65535) (urgent_at 6 0)
    ∷ urge_in (cur 5 0) (cur 13 65535) (urgent_at 14 65535)
    ∷ urge_in (cur 5 0) (cur 13 65535) (urgent_at 12 65535)
    -- after R (19,6) up to Q (5,7)
    ∷ urge_out (cur 5 7) (cur 19 6) (urgent_at 19 6)
    ∷ urge_out (cur 5 7) (cur 19 6) (urgent_at 6 7)
    ∷ urge_out (cur 5 7) (cur 19 6) (urgent_at 20 6)
    ∷ urge_out (cur 5 7) (cur 19 6) (urgent_at 18 6)
    ∷ []

abbrev kept : List Record
kept =
    conn
    ∷ with_me (who 1 0xFFFFFFFF 3)
    ∷ with_me (who 0xFFFFFFFF 1 3)
    ∷ with_me (who 0x0A0B0C0D 0x11223344 1)
    ∷ with_me (who 0x0A0B0C0D 0x11223344 2)
    ∷ with_me (who 0x0A0B0C0D 0x11223344 4)
    ∷ sized 8 5
    ∷ sized 65540 5
    ∷ sized 20 1
    ∷ sized 20 255
    ∷ based 0xFFFFFFFFFFFFFF9C 2 3 4
    ∷ based 1 0xFFFFFFFFFFFFFF9C 3 4
    ∷ based 1 2 0xFFFFFFFFFFFFFF9C 4
    ∷ based 1 2 3 0xFFFFFFFFFFFFFF9C
    ∷ pct (cur 4 0) (cur 13 65535) (cur 13 65535)
    ∷ pct (cur 13 6) (cur 13 6) (cur 4 6)
    ∷ pct (cur 4 7) (cur 10 6) (cur 4 6)
    ∷ pct (cur 9 7) (cur 9 7) (cur 9 6)
    ∷ pct (cur 9 7) (cur 9 6) (cur 9 6)
    ∷ qr (cur 4 0) (cur 19 65535)
    ∷ qr (cur 19 6) (cur 4 6)
    ∷ qr (cur 5 7) (cur 5 6)
    ∷ qr (cur 5 7) (cur 5 7)
    -- at P and at Q, and one after C and R
    ∷ urge_in (cur 5 0) (cur 13 65535) (urgent_at 5 0)
    ∷ urge_in (cur 5 0) (cur 13 65535) (urgent_at 4 0)
    ∷ urge_out (cur 5 7) (cur 19 6) (urgent_at 5 7)
    ∷ urge_out (cur 5 7) (cur 19 6) (urgent_at 4 7)
    -- one that does not stand is not looked at
    ∷ urge_in (cur 5 0) (cur 13 65535) (record { standing = false; place = cur 99 1 })
    ∷ urge_out (cur 5 7) (cur 19 6) (record { standing = false; place = cur 99 1 })
    ∷ []

-- one C, whatever else is marked
abbrev one_c : List Record
one_c = closing true false true true ∷ closing true true true false ∷ closing false false true true ∷ closing true true false false ∷ []

-- THE ROWS. No bytes are placed, at an offset that is none: a coherent record is left as it was. With every link down 3 is still
-- answered, and else 6
abbrev up : List Bool
up = true ∷ true ∷ true ∷ true ∷ []

abbrev down : List Bool
down = false ∷ false ∷ false ∷ false ∷ []

abbrev gives3 : List Bool → Record → Row
gives3 l c = refused (holds l c element2) (on 2 (place 99 [])) 3

abbrev gives6 : Record → Row
gives6 c = refused (holds down c element2) (on 2 (place 99 [])) 6

abbrev accepts : Record → Row
accepts c = silent (holds up c element2) (on 2 (place 99 [])) accepted (holds up c element2)

unfoldable pub rows : List Row
rows = map (gives3 up) broken ++ (map (gives3 down) broken ++ (map accepts kept ++ (map gives6 kept ++ map gives6 one_c)))

abbrev pub RowsRight : Type 0
RowsRight = Right rows

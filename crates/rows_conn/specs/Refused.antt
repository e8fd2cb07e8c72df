-- Document 01, "When the desk says no": "Connection calls test 1, then 2 (hear: 4, 5), 3, 6, 7, 8, 9"; request 2026-07: 16 "tested after
-- 6 and before 8"; request 2026-06: S 1 to 255 and a table of S records. Each row has the faults that are tested later too. Assumes
-- nothing.
use Rattle.std.specs.Prelude.{ℕ, ◌+◌, ◌*◌, ◌^◌, Bool, true, false, List, [], ◌∷◌, ◌++◌, map}
use Rattle.closing.specs.declared.Marks.{Marks}
use Rattle.closing.specs.declared.State.TheVariants.{PeerAbortWait}
use Rattle.conn_record.specs.declared.Record.{Record}
use Rattle.group_rules.specs.Rules.{Group, Request, send, urgent, gather, place, read, shutdown, close, abort, on, hear, manage, free_slot}
use Rattle.group_rules.specs.Rules.{refusal, accepted, heard}
use Rattle.rows_conn.specs.Rows.{from, zeros, octets, cur, no_urgent, marked, none, who, inw, rec, me, peer, ins, outs, conn}
use Rattle.rows_conn.specs.Rows.{with_me, marked_with, other, shut, grouped, element2, links13, holds, group, done, Row, silent}
use Rattle.rows_conn.specs.Rows.{refused, Right}

-- THE CALLS of a connection, each with what is lent as an out buffer
pub record Asked : Type 0 where
  pub request : Request
  pub out : List ℕ

abbrev ask : Request → Asked
ask q = record { request = q; out = [] }

abbrev sends : List Asked
sends = ask (send (1 ∷ [])) ∷ ask (urgent (1 ∷ [])) ∷ ask (gather (1 ∷ []) (2 ∷ [])) ∷ []

abbrev places : List Asked
places = ask (place 8 (1 ∷ [])) ∷ []

abbrev reads : List Asked
reads = record { request = read (5 ∷ 6 ∷ []); out = 5 ∷ 6 ∷ [] } ∷ []

abbrev every : List Asked
every = sends ++ (places ++ (reads ++ (ask shutdown ∷ ask close ∷ ask abort ∷ [])))

abbrev no : ℕ → Group → ℕ → Asked → Row
no k g slot q =
    record { group = g; call = on slot q.request; comes = done (refusal k) false (zeros 44) q.out g }

abbrev down : List Bool
down = false ∷ false ∷ false ∷ false ∷ []

-- A sent: every call but hear is forbidden
abbrev aborted : Marks
aborted = marked false false false false false true

-- own token 0, the link down, A sent; the link down, A sent; A sent
abbrev three : Group
three = holds down (rec (who 0 0x11223344 3) peer ins outs aborted) element2

abbrev six : Group
six = holds down (marked_with aborted) element2

abbrev seven : Group
seven = group (marked_with aborted)

-- a memory of 41 bytes for 3 x 14, and nothing right behind it
abbrev short : Group
short = grouped 3 14 (other ∷ rec (who 0 0x11223344 3) peer ins outs aborted ∷ shut ∷ []) down (from 1 41)

abbrev ordered : List Row
ordered =
    map (no 1 short 2) every
    ++ (map (no 1 short 0) every
    ++ (map (no 2 three 0) every
    ++ (map (no 2 three 4) every
    ++ (map (no 2 three 3) every
    ++ (map (no 3 three 2) every
    ++ (map (no 6 six 2) every
    ++ map (no 7 seven 2) every))))))

-- 7: "send after D, C or A sent or C heard; place after A sent or D or C heard; read after C or A sent; shutdown after D, C or A sent;
-- close after C or A sent; abort after A sent; free outside PeerAbortWait". Where one mark alone forbids; the calls that it does not
-- forbid are in the other tables
abbrev d_sent : Group
d_sent = group (marked_with (marked true false false false true false))

abbrev c_sent : Group
c_sent = group (marked_with (marked false true false false true false))

abbrev d_heard : Group
d_heard = group (marked_with (marked false false true false false false))

abbrev c_heard : Group
c_heard = group (marked_with (marked false false false true false false))

abbrev free : Group → Row
free g = refused g (manage (free_slot 2)) 7

abbrev forbidden : List Row
forbidden =
    map (no 7 d_sent 2) (sends ++ (ask shutdown ∷ []))
    ++ (map (no 7 c_sent 2) (sends ++ (reads ++ (ask shutdown ∷ ask close ∷ [])))
    ++ (map (no 7 c_heard 2) (sends ++ places)
    ++ (map (no 7 d_heard 2) places
    ++ (free (group conn) ∷ free d_sent ∷ free c_sent ∷ free d_heard ∷ free c_heard ∷ []))))

-- 1: S 1 to 255, N 8 to 65,540, a memory of S x N bytes, a table of S records. No bytes are placed at an offset that is none; a heard
-- message, that closes nothing, in the same group
abbrev pub slot_of8 : Record
slot_of8 =
    rec me peer (inw (cur 4 0) (cur 4 0) (cur 4 0) 0x7788 false false no_urgent) outs none

abbrev pub sized : ℕ → ℕ → List Record → List ℕ → Group
sized s n t m = grouped s n t links13 m

abbrev pub one : ℕ → ℕ → Group
one n b = sized 1 n (slot_of8 ∷ []) (zeros b)

abbrev no_bytes_of : Request
no_bytes_of = place 99 []

abbrev pub wrong_size : Group → List Row
wrong_size g = refused g (on 1 no_bytes_of) 1 ∷ refused g (hear []) 1 ∷ refused g (manage (free_slot 9)) 1 ∷ []

abbrev pub right_size : Group → ℕ → Row
right_size g k = silent g (on k no_bytes_of) accepted g

abbrev sizes : List Row
sizes =
    wrong_size (sized 0 8 [] [])
    ++ (wrong_size (one 7 7)
    ++ (wrong_size (sized 2 7 (slot_of8 ∷ slot_of8 ∷ []) (zeros 14))
    ++ (wrong_size (one 8 7)
    ++ (wrong_size (one 8 9)
    ++ (wrong_size (sized 2 8 (slot_of8 ∷ []) (zeros 16))
    ++ (wrong_size (sized 2 8 (slot_of8 ∷ slot_of8 ∷ slot_of8 ∷ []) (zeros 16))
    ++ (right_size (one 8 8) 1 ∷ right_size (sized 2 8 (slot_of8 ∷ slot_of8 ∷ []) (zeros 16)) 2 ∷ [])))))))

-- 6: the connection's own link. On each link: with this one alone active, and with all others
abbrev on_link : ℕ → Record
on_link l = with_me (who 0x0A0B0C0D 0x11223344 l)

abbrev alone : ℕ → List Bool → Row
alone l up = silent (holds up (on_link l) element2) (on 2 no_bytes_of) accepted (holds up (on_link l) element2)

abbrev without : ℕ → List Bool → Row
without l up = refused (holds up (on_link l) element2) (on 2 no_bytes_of) 6

abbrev own_link : List Row
own_link =
    alone 1 (true ∷ false ∷ false ∷ false ∷ [])
    ∷ alone 2 (false ∷ true ∷ false ∷ false ∷ [])
    ∷ alone 3 (false ∷ false ∷ true ∷ false ∷ [])
    ∷ alone 4 (false ∷ false ∷ false ∷ true ∷ [])
    ∷ without 1 (false ∷ true ∷ true ∷ true ∷ [])
    ∷ without 2 (true ∷ false ∷ true ∷ true ∷ [])
    ∷ without 3 (true ∷ true ∷ false ∷ true ∷ [])
    ∷ without 4 (true ∷ true ∷ true ∷ false ∷ [])
    ∷ []

-- HEAR: 1, 4, 5, 3, 6, 16, 8. A message to slot 2, with the number 1 (not next) and offsets that are none
abbrev bad : ℕ → List ℕ
bad token = octets 26 (0xFE2C_0001_00000000_0000_0000_00000003_0000_0000_00000003_0000 + token * 256 ^ 18) ++ from 1 18

abbrev mine : List ℕ
mine = bad 0x0A0B0C0D

-- the next number, and offsets that are none
abbrev next_bad : List ℕ
next_bad = octets 26 0xFE2C_7789_0A0B0C0D_0000_0000_00000003_0000_0000_00000003_0000 ++ from 1 18

-- 44 bytes, FE and 2C, and the token of slot 2
abbrev starts : ℕ → ℕ → List ℕ
starts a b = a ∷ b ∷ from 3 42

abbrev tokenless : Group
tokenless = group (with_me (who 0 0x11223344 3))

abbrev hears : List Row
hears =
    refused short (hear (bad 0)) 1
    ∷ refused three (hear []) 4
    ∷ refused three (hear (0xFE ∷ 0x2C ∷ from 3 41)) 4
    ∷ refused three (hear (0xFE ∷ 0x2C ∷ from 3 43)) 4
    ∷ refused three (hear (starts 0xFD 0x2C)) 4
    ∷ refused three (hear (starts 0xFF 0x2C)) 4
    ∷ refused three (hear (starts 0x2C 0xFE)) 4
    ∷ refused three (hear (starts 0xFE 0x2B)) 4
    ∷ refused three (hear (starts 0xFE 0x2D)) 4
    -- no open slot has the token: none has it, a closed one, one has it as its peer's; or it is 0, though an open slot has 0
    ∷ refused six (hear (starts 0xFE 0x2C)) 5
    ∷ refused six (hear (bad 0x0C0C0C0C)) 5
    ∷ refused six (hear (bad 0x11223344)) 5
    ∷ refused tokenless (hear (bad 0)) 5
    ∷ refused (holds down (rec (who 0x0A0B0C0D 0 3) peer ins outs none) element2) (hear mine) 3
    ∷ refused (holds down conn element2) (hear mine) 6
    ∷ refused (group conn) (hear mine) 16
    ∷ refused (group conn) (hear next_bad) 8
    -- it gives no 7
    ∷ silent seven (hear mine) (heard 0 PeerAbortWait) seven
    ∷ []

unfoldable pub rows : List Row
rows = ordered ++ (forbidden ++ (sizes ++ (own_link ++ hears)))

abbrev pub RowsRight : Type 0
RowsRight = Right rows

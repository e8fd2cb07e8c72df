-- Shutdown, Close, Abort and Free (document 01; request 2026-03): the marks, the message, and what closing leaves. Assumes nothing.
use Rattle.std.specs.Prelude.{ℕ, ◌+◌, Bool, true, false, List, [], ◌∷◌}
use Rattle.closing.specs.declared.Marks.{Marks}
use Rattle.conn_record.specs.declared.Record.{Record}
use Rattle.group_rules.specs.Rules.{Request, shutdown, close, abort, Says, accepted, reset, manage, free_slot}
use Rattle.rows_conn.specs.Rows.{cur, no_urgent, urgent_at, marked, who, inw, outw, rec, me, peer, P, C, T, Q, R, ins, outs}
use Rattle.rows_conn.specs.Rows.{marked_with, closed_slot, element2, holds, group, Row, silent, refused, says, Right}

-- 3 bytes are unread; and none, C at P
abbrev unread : Marks → Record
unread = marked_with

abbrev all_read : Marks → Record
all_read m = rec me peer (inw P P T 0x7788 false false no_urgent) outs m

-- after the message: T is C and the number is used
abbrev told : Marks → Record
told m = rec me peer (inw P C C 0x7788 false false no_urgent) (outw Q R 0x5567 false no_urgent) m

abbrev told_all : Marks → Record
told_all m = rec me peer (inw P P P 0x7788 false false no_urgent) (outw Q R 0x5567 false no_urgent) m

-- from marks to marks, with byte 25 of the message
abbrev on3 : Request → Says → Marks → ℕ → Marks → Row
on3 q s m x n = says q (unread m) s (0xFE2C_5566_11223344_0000_89F0_00000006_0000_0000_00000005_0000 + x) (told n)

abbrev on_none : Request → Says → Marks → ℕ → Marks → Row
on_none q s m x n = says q (all_read m) s (0xFE2C_5566_11223344_0000_89F0_00000006_0000_0000_00000008_0000 + x) (told_all n)

-- closed, by C 8 in the message
abbrev shuts : Marks → ℕ → Row
shuts m x = says close (all_read m) accepted (0xFE2C_5566_11223344_0000_89F0_00000006_0000_0000_00000008_0000 + x) closed_slot

abbrev frees : List Bool → Record → Row
frees l c = silent (holds l c element2) (manage (free_slot 2)) accepted (holds l closed_slot element2)

-- the marks D sent, C sent, D heard, C heard, ours first, A sent
unfoldable pub rows : List Row
rows =
    -- SHUTDOWN sends D; ours first if none was heard. Unread bytes are not looked at
    on3 shutdown accepted (marked false false false false false false) 0x80 (marked true false false false true false)
    ∷ on3 shutdown accepted (marked false false true false false false) 0x80 (marked true false true false false false)
    ∷ on3 shutdown accepted (marked false false false true false false) 0x80 (marked true false false true false false)
    ∷ on3 shutdown accepted (marked false false true true true false) 0x80 (marked true false true true true false)
    ∷ on_none shutdown accepted (marked false false false false false false) 0x80 (marked true false false false true false)
    -- CLOSE with none unread sends C; D stays. Ours first was set with our first
    ∷ on_none close accepted (marked false false false false false false) 0x40 (marked false true false false true false)
    ∷ on_none close accepted (marked false false true false false false) 0x40 (marked false true true false false false)
    ∷ on_none close accepted (marked true false false false true false) 0xC0 (marked true true false false true false)
    ∷ on_none close accepted (marked true false true false false false) 0xC0 (marked true true true false false false)
    ∷ on_none close accepted (marked true false false false false false) 0xC0 (marked true true false false false false)
    -- C was heard: the slot is closed, all zeros
    ∷ shuts (marked false false false true false false) 0x40
    ∷ shuts (marked false false true true false false) 0x40
    ∷ shuts (marked true false true true true false) 0xC0
    -- with unread bytes: reset, A is sent and no C, and the slot stays open
    ∷ on3 close reset (marked false false false false false false) 0x20 (marked false false false false false true)
    ∷ on3 close reset (marked true false false true true false) 0xA0 (marked true false false true true true)
    ∷ on3 close reset (marked false false true true false false) 0x20 (marked false false true true false true)
    -- one byte is unread
    ∷ says close (rec me peer (inw P (cur 7 0) (cur 7 0) 0x7788 false false no_urgent) outs (marked false false false false false false))
    reset
    0xFE2C_5566_11223344_0000_89F0_00000006_0000_0000_00000007_0020
    (rec me peer (inw P (cur 7 0) (cur 7 0) 0x7788 false false no_urgent) (outw Q R 0x5567 false no_urgent) (marked false false false false
    false true))
    -- all ten are
    ∷ says close (rec me peer (inw (cur 8 1) (cur 8 0) (cur 8 0) 0x7788 false false no_urgent) outs (marked false false false false false
    false)) reset
    0xFE2C_5566_11223344_0000_89F0_00000006_0000_0000_00000008_0020
    (rec me peer (inw (cur 8 1) (cur 8 0) (cur 8 0) 0x7788 false false no_urgent) (outw Q R 0x5567 false no_urgent)
    (marked false false false false false true))
    -- ABORT sends A, and no other mark is another
    ∷ on3 abort accepted (marked false false false false false false) 0x20 (marked false false false false false true)
    ∷ on3 abort accepted (marked true false true true true false) 0xA0 (marked true false true true true true)
    ∷ on3 abort accepted (marked true true true false false false) 0xE0 (marked true true true false false true)
    ∷ on_none abort accepted (marked false true false false true false) 0x60 (marked false true false false true true)
    -- our B and our urgent place are in it too, and all that the record holds beside is kept
    ∷ says abort
    (rec me peer (inw P C T 0x7788 true true (urgent_at 7 0)) (outw Q R 0x5566 true (urgent_at 19 0x89EF)) (marked true false false false
    true false))
    accepted 0xFE2C_5566_11223344_0000_89F0_00000006_0000_0000_00000005_E0A0
    (rec me peer (inw P C C 0x7788 true true (urgent_at 7 0)) (outw Q R 0x5567 true (urgent_at 19 0x89EF)) (marked true false false false
    true true))
    -- FREE closes a slot in PeerAbortWait, its link active or down; the element stays
    ∷ frees (true ∷ false ∷ true ∷ false ∷ []) (unread (marked false false false false false true))
    ∷ frees (false ∷ false ∷ false ∷ false ∷ []) (unread (marked true true true false true true))
    -- 1, 2, 3, 7; 1 is in the table of sizes
    ∷ refused (group (unread (marked false false false false false true))) (manage (free_slot 0)) 2
    ∷ refused (group (unread (marked false false false false false true))) (manage (free_slot 4)) 2
    ∷ refused (group (unread (marked false false false false false true))) (manage (free_slot 3)) 2
    ∷ refused (group (rec (who 0x0A0B0C0D 0 3) peer ins outs (marked false false false false false false))) (manage (free_slot 2)) 3
    ∷ refused (group (unread (marked true false true false true false))) (manage (free_slot 2)) 7
    ∷ []

abbrev pub RowsRight : Type 0
RowsRight = Right rows

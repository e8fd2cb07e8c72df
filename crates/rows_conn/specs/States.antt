-- Document 01, "State names": every row of the table of five marks, by a message that is heard; and the marks once more, after our own A.
-- Assumes nothing.
use Rattle.std.specs.Prelude.{ℕ, ◌+◌, ◌≡◌, Bool, true, false, List, [], ◌∷◌}
use Rattle.closing.specs.declared.Marks.{Marks}
use Rattle.closing.specs.declared.State.{State}
use Rattle.closing.specs.declared.State.TheVariants.{Active, PeerCloseWait1, PeerCloseWait2, AppCloseWait1, AppCloseWait2, PeerAbortWait}
use Rattle.closing.specs.declared.State.TheVariants.{Closed}
use Rattle.closing.specs.Closing.{state_of, done_sent, closed_sent, abort_sent, marks_heard}
use Rattle.group_rules.specs.Rules.{heard}
use Rattle.rows_conn.specs.Rows.{no_urgent, marked, inw, rec, me, peer, P, C, T, outs, marked_with, closed_slot, group, Row, silent}
use Rattle.rows_conn.specs.Rows.{heard_bytes, Right}

-- A message that moves no cursor, with byte 25 as given; the record after it, the number stored
abbrev plain : ℕ
plain = 0xFE2C_7789_0A0B0C0D_0000_0000_00000008_0000_89EF_00000011_0000

-- the marks D sent, C sent, D heard, C heard, ours first, and the state
abbrev state : Bool → Bool → Bool → Bool → Bool → State → Row
state ds cs dh ch first s =
    let m = marked ds cs dh ch first false in
    silent (group (marked_with m)) (heard_bytes plain) (heard 0 s)
    (group (rec me peer (inw P C T 0x7789 false false no_urgent) outs m))

-- both C: once the second is heard, and the slot is closed
abbrev both : Bool → Bool → Bool → Row
both ds dh first =
    silent (group (marked_with (marked ds true dh false first false))) (heard_bytes (plain + 0x40)) (heard 0 Closed) (group closed_slot)

-- A sent, and the same marks: accepted, no change
abbrev waits : Bool → Bool → Bool → Bool → Bool → Row
waits ds cs dh ch first =
    let c = marked_with (marked ds cs dh ch first true) in
    silent (group c) (heard_bytes (plain + 0xC0)) (heard 0 PeerAbortWait) (group c)

unfoldable pub rows : List Row
rows =
    -- no mark
    state false false false false false Active
    ∷ state false false false false true Active
    -- only heard
    ∷ state false false false true false AppCloseWait1
    ∷ state false false false true true AppCloseWait1
    ∷ state false false true false false AppCloseWait1
    ∷ state false false true false true AppCloseWait1
    ∷ state false false true true false AppCloseWait1
    ∷ state false false true true true AppCloseWait1
    -- only ours
    ∷ state false true false false false PeerCloseWait1
    ∷ state false true false false true PeerCloseWait1
    ∷ state true false false false false PeerCloseWait1
    ∷ state true false false false true PeerCloseWait1
    ∷ state true true false false false PeerCloseWait1
    ∷ state true true false false true PeerCloseWait1
    -- C sent only
    ∷ state false true true false false PeerCloseWait2
    ∷ state false true true false true PeerCloseWait2
    ∷ state true true true false false PeerCloseWait2
    ∷ state true true true false true PeerCloseWait2
    -- C heard only
    ∷ state true false false true false AppCloseWait2
    ∷ state true false false true true AppCloseWait2
    ∷ state true false true true false AppCloseWait2
    ∷ state true false true true true AppCloseWait2
    -- D each
    ∷ state true false true false false AppCloseWait2
    ∷ state true false true false true PeerCloseWait2
    -- both C
    ∷ both false false false
    ∷ both false false true
    ∷ both false true false
    ∷ both false true true
    ∷ both true false false
    ∷ both true false true
    ∷ both true true false
    ∷ both true true true
    -- A sent
    ∷ waits false false false false false
    ∷ waits true false false false true
    ∷ waits false true false false true
    ∷ waits false false true false false
    ∷ waits false false false true false
    ∷ waits true true true false true
    ∷ waits true false true true false
    ∷ []

-- THE MARKS, of any marks: a mark once sent or heard stays. What sends and hears do with them, also where 7 is answered before or the
-- slot is closed
abbrev full : Marks
full = marked true true true true true true

abbrev bare : Marks
bare = marked false false false false false false

unfoldable pub marks : List Marks
marks =
    done_sent full ∷ closed_sent full ∷ abort_sent full ∷ marks_heard full false false ∷ marks_heard full true true
    ∷ done_sent bare ∷ closed_sent bare ∷ abort_sent bare ∷ marks_heard bare false false ∷ marks_heard bare true false ∷ marks_heard bare false
    true
    ∷ done_sent (marked false true false false false true) ∷ closed_sent (marked true false false false false true)
    ∷ []

abbrev pub MarksRight : Type 0
MarksRight =
    marks
    ≡ (full ∷ full ∷ full ∷ full ∷ full
    ∷ marked true false false false true false
    ∷ marked false true false false true false
    ∷ marked false false false false false true
    ∷ bare
    ∷ marked false false true false false false
    ∷ marked false false false true false false
    ∷ marked true true false false false true
    ∷ marked true true false false false true
    ∷ [])

-- and the state that is named where A was sent, whatever else is marked
unfoldable pub aborted : List State
aborted = state_of full ∷ state_of (marked false false false false false true) ∷ state_of (marked true false true false true true) ∷ []

abbrev pub AbortedRight : Type 0
AbortedRight = aborted ≡ (PeerAbortWait ∷ PeerAbortWait ∷ PeerAbortWait ∷ [])

abbrev pub RowsRight : Type 0
RowsRight = Right rows

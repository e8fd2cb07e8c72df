-- Document 01, "Calls of a connection": Place and Read.
-- Assumes nothing.
use Rattle.std.specs.Prelude.{ℕ, ◌+◌, Bool, true, false, ◌&&◌, ◌||◌, cond, ltb, eqb}
use Rattle.cursor.specs.Cursor.{data_of, gap_of, step_of}
use Rattle.closing.specs.declared.Marks.{Marks}
use Rattle.closing.specs.Closing.{abort_sent}
use Rattle.flow.specs.Flow.{taken_of, window_of, update_due}
use Rattle.element.specs.Element.{in_data, all_free}
use Rattle.conn_record.specs.declared.Inbound.{Inbound}
use Rattle.conn_record.specs.declared.Record.{Record}
use Rattle.conn_answer.specs.declared.Reply.TheVariants.{Accepted, Read, Torn}
use Rattle.conn_answer.specs.declared.Outcome.{Outcome}
use Rattle.conn_record.specs.Connection.{reached_b, passed_by, c_to, urgent_in_to, inbound_to, marks_to, refusal_of}
use Rattle.conn_answer.specs.Outcome.{refused_of, outcome_of}

-- 7: place after A sent or D or C heard
unfoldable pub place_forbids : Marks → Bool
place_forbids m = m.abort || (m.heard.done || m.heard.closed)

-- all bytes must lie in 4 to N-1 and be free: the peer was told T, and its window is measured from there. No bytes: accepted at any offset
unfoldable pub may_place : ℕ → Inbound → ℕ → ℕ → Bool
may_place N i at k =
    let p = i.producer in
    let t = i.told in
    eqb k 0 || (in_data N at k && all_free (data_of N) p.offset (window_of N t p) at k)

-- 9: a placed byte is outside the data or not free
unfoldable pub place_of : ℕ → Bool → Record → ℕ → ℕ → Outcome
place_of N active rec at k =
    let no = refusal_of N active rec (place_forbids rec.marks) in
    cond (eqb no 0) (cond (may_place N rec.inbound at k) (outcome_of Accepted false rec) (refused_of 9 rec)) (refused_of no rec)

-- 7: read after C or A sent
unfoldable pub read_forbids : Marks → Bool
read_forbids m = m.sent.closed || m.abort

-- unread: the distance C to P
unfoldable pub unread_of : ℕ → Inbound → ℕ
unread_of N i =
    let p = i.producer in
    let c = i.consumer in
    gap_of (data_of N) c p

-- C moves by n
unfoldable pub consumed_in : ℕ → Inbound → ℕ → Inbound
consumed_in N i n =
    let c = i.consumer in
    c_to i (step_of N c n)

-- the urgent place is cleared if the new C reaches or passes it (request 2026-04; with n at 0 it does not: the place lies after C)
unfoldable pub cleared_in : ℕ → Inbound → Inbound
cleared_in N i = urgent_in_to i (passed_by N i.consumer i.producer i.urgent)

unfoldable pub consumed_of : ℕ → Record → ℕ → Record
consumed_of N rec n = inbound_to rec (cleared_in N (consumed_in N rec.inbound n))

-- a message is made if n is above 0 and: B or R stood in the last message heard, or the urgent place is cleared, or an update is due. C is
-- the new one here, and the place not cleared yet
unfoldable pub update_of : ℕ → Inbound → ℕ → Bool
update_of N i n =
    let p = i.producer in
    let c = i.consumer in
    let t = i.told in
    ltb 0 n && ((i.blocked || i.request) || (reached_b N c p i.urgent || update_due N t p c))

-- a damaged eye catcher: the answer is "torn", an abort message is made, the abort mark is set
unfoldable pub torn_of : Record → Outcome
torn_of rec = outcome_of Torn true (marks_to rec (abort_sent rec.marks))

-- otherwise n is the smaller of unread and room in out; the answer names n
unfoldable pub take_of : ℕ → Record → ℕ → Outcome
take_of N rec room =
    let n = taken_of (unread_of N rec.inbound) room in
    outcome_of (Read n) (update_of N (consumed_in N rec.inbound n) n) (consumed_of N rec n)

unfoldable pub read_of : ℕ → Bool → Record → Bool → ℕ → Outcome
read_of N active rec intact room =
    let no = refusal_of N active rec (read_forbids rec.marks) in
    cond (eqb no 0) (cond intact (take_of N rec room) (torn_of rec)) (refused_of no rec)

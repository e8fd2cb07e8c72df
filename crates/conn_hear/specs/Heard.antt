-- Document 01, "Calls of a connection": Hear, the rules of a message and the record with what it says.
-- Assumes nothing.
use Rattle.std.specs.Prelude.{ℕ, Bool, ◌&&◌, ◌||◌, not, cond, [], ◌∷◌, ltb, leb, eqb}
use Rattle.cursor.specs.declared.Cursor.{Cursor}
use Rattle.cursor.specs.Cursor.{data_of, in_range, same_b, good_b, gap_of}
use Rattle.cdc.specs.declared.Message.{Message}
use Rattle.closing.specs.Closing.{marked, marks_heard}
use Rattle.conn_record.specs.declared.Urgent.{Urgent}
use Rattle.conn_record.specs.declared.Inbound.{Inbound}
use Rattle.conn_record.specs.declared.Outbound.{Outbound}
use Rattle.conn_record.specs.declared.Record.{Record}
use Rattle.conn_record.specs.Connection.{place_at, passed_by, p_to, last_to, flags_to, urgent_in_to, r_to, urgent_out_to, inbound_to, outbound_to}
use Rattle.conn_record.specs.Connection.{marks_to, every}
use Rattle.conn_answer.specs.Outcome.{sequence_after}

-- the new P must be in range by N, have a good distance from T and none less than before; P may not move once D or C was heard
unfoldable pub producer_b : ℕ → Record → Cursor → Bool
producer_b N rec p =
    let D = data_of N in
    let t = rec.inbound.told in
    let old = rec.inbound.producer in
    every
    (in_range N p
    ∷ good_b D t p
    ∷ leb (gap_of D t old) (gap_of D t p)
    ∷ (not (marked rec.marks.heard) || same_b old p)
    ∷ [])

-- the new R must be in range by N', at a good distance before Q and none greater than before
unfoldable pub consumer_b : Record → Cursor → Bool
consumer_b rec r =
    let N' = rec.remote.size in
    let D' = data_of N' in
    let q = rec.outbound.producer in
    let old = rec.outbound.consumer in
    every (in_range N' r ∷ good_b D' r q ∷ leb (gap_of D' r q) (gap_of D' old q) ∷ [])

-- how far P moves (that distance is good: the new P is no nearer to T than the old one, and both are within D of it)
abbrev pub moved_by : ℕ → Inbound → Message → ℕ
moved_by N i m = gap_of (data_of N) i.producer m.producer

-- a message with U that moves P makes the new P the urgent place of our element (request 2026-04)
unfoldable pub urges_b : ℕ → Inbound → Message → Bool
urges_b N i m = m.flags.urgent && ltb 0 (moved_by N i m)

unfoldable pub urgent_in : ℕ → Inbound → Message → Urgent
urgent_in N i m = cond (urges_b N i m) (place_at m.producer) i.urgent

-- then P, R, sequence, B and R flag are replaced; a D or C mark once heard stays; flags P and F are not looked at
unfoldable pub heard_in : ℕ → Inbound → Message → Inbound
heard_in N i m =
    urgent_in_to (flags_to (last_to (p_to i m.producer) m.sequence) m.flags.blocked m.flags.request) (urgent_in N i m)

-- our own urgent place is cleared if the new R reaches or passes it
unfoldable pub heard_out : ℕ → Outbound → Message → Outbound
heard_out N' o m = urgent_out_to (r_to o m.consumer) (passed_by N' m.consumer o.producer o.urgent)

unfoldable pub heard_record : ℕ → Record → Message → Record
heard_record N rec m =
    marks_to
    (outbound_to (inbound_to rec (heard_in N rec.inbound m)) (heard_out rec.remote.size rec.outbound m))
    (marks_heard rec.marks m.flags.done m.flags.closed)

-- one message is made if the urgent place of our element is a new one, or if the R flag is on and T differs from C
unfoldable pub answers_b : ℕ → Inbound → Message → Bool
answers_b N i m =
    let c = i.consumer in
    let t = i.told in
    urges_b N i m || (m.flags.request && not (same_b t c))

-- a message heard must carry the last number heard plus one, 65,535 going on to 0, the first being 1 (request 2026-07): open sets the
-- last number heard to 0
unfoldable pub next_b : Record → Message → Bool
next_b rec m = eqb m.sequence (sequence_after rec.inbound.last)

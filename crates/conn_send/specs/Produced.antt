-- Document 01, "Calls of a connection": Send, what it makes of a record; the urgent place by document 02, 2026-04.
-- Assumes nothing.
use Rattle.std.specs.Prelude.{ℕ, Bool, ◌&&◌, ◌||◌, not, ltb, eqb}
use Rattle.cursor.specs.Cursor.{step_of}
use Rattle.closing.specs.declared.Marks.{Marks}
use Rattle.flow.specs.Flow.{room_of, taken_of}
use Rattle.conn_record.specs.declared.Outbound.{Outbound}
use Rattle.conn_record.specs.declared.Record.{Record}
use Rattle.conn_record.specs.Connection.{place_at, q_to, blocked_to, urgent_out_to, outbound_to}

-- 7: send after D, C or A sent or C heard
unfoldable pub send_forbids : Marks → Bool
send_forbids m = m.sent.done || (m.sent.closed || (m.abort || m.heard.closed))

-- it takes n, the smaller of room and length
unfoldable pub n_of : Record → ℕ → ℕ
n_of rec len =
    let q = rec.outbound.producer in
    let r = rec.outbound.consumer in
    taken_of (room_of rec.remote.size r q) len

-- Q moves by n; with bytes offered, B becomes "n is less than the length"
unfoldable pub produced_out : ℕ → Outbound → ℕ → ℕ → Outbound
produced_out N' o n len =
    let q = o.producer in
    blocked_to (q_to o (step_of N' q n)) (ltb n len)

unfoldable pub produced_of : Record → ℕ → ℕ → Record
produced_of rec n len = outbound_to rec (produced_out rec.remote.size rec.outbound n len)

-- a message is made if n is above 0, or if bytes are left over and B was not yet told (our B on is a B told: the send that turns it on
-- makes a message)
unfoldable pub tells_of : Record → ℕ → ℕ → Bool
tells_of rec n len = ltb 0 n || (ltb n len && not rec.outbound.blocked)

-- An urgent send that is taken whole is a send, and Q is the urgent place before its message is made
unfoldable pub urged_out : Outbound → Outbound
urged_out o = urgent_out_to o (place_at o.producer)

unfoldable pub urged_of : Record → Record
urged_of rec = outbound_to rec (urged_out rec.outbound)

-- nothing is sent while an urgent place of our own stands, and where nothing is offered
unfoldable pub waits_b : Record → ℕ → Bool
waits_b rec len = rec.outbound.urgent.standing || eqb len 0

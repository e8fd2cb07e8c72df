-- Document 01, "Calls of a connection": Send; its placings by document 02, 2026-09, and the urgent send by 2026-04.
-- Assumes nothing.
use Rattle.std.specs.Prelude.{ℕ, ◌+◌, ◌≤◌, ◌<◌, ◌≡◌, Bool, false, ◌&&◌, cond, ltb, eqb}
use Rattle.flow.specs.declared.Stretch.{Stretch}
use Rattle.flow.specs.declared.Stretches.{Stretches}
use Rattle.flow.specs.declared.Stretches.TheVariants as Parts
use Rattle.flow.specs.Flow.{stretches_of}
use Rattle.conn_record.specs.declared.RToken.{RToken}
use Rattle.conn_record.specs.declared.Record.{Record}
use Rattle.conn_record.specs.Connection.{most_address, first_byte_of, remote_ok, refusal_of}
use Rattle.conn_answer.specs.declared.Placing.{Placing}
use Rattle.conn_answer.specs.declared.Placings.{Placings}
use Rattle.conn_answer.specs.declared.Placings.TheVariants.{Nowhere, One, Two}
use Rattle.conn_answer.specs.declared.Reply.{Reply}
use Rattle.conn_answer.specs.declared.Reply.TheVariants.{Sent}
use Rattle.conn_answer.specs.declared.Outcome.{Outcome}
use Rattle.conn_answer.specs.Outcome.{refused_of, message_of, pending_of, outcome_of, urgent_outcome}
use Rattle.conn_send.specs.Produced.{send_forbids, n_of, produced_of, tells_of, urged_of, waits_b}

-- the peer's memory as the connection's own link reaches it (exact: the link is 1 to 4 in a coherent record)
unfoldable pub rtoken_of : Record → RToken
rtoken_of rec =
    let link = rec.id.link in
    let r = rec.remote in
    cond (eqb link 1) r.link1 (cond (eqb link 2) r.link2 (cond (eqb link 3) r.link3 r.link4))

-- there, the first byte of the peer's element
abbrev pub element_start : Record → ℕ
element_start rec = first_byte_of rec.remote.size rec.remote.index (rtoken_of rec).base

-- a placing's offset becomes the peer's memory key and an address, base + (index - 1) x N' + offset
unfoldable pub placing_of : Record → Stretch → Placing
placing_of rec s = record { key = (rtoken_of rec).key; address = element_start rec + s.offset; start = s.start; len = s.len }

-- the code's, of any record: all zeros where the peer's element, or the offset in it, is out of range
abbrev pub no_placing : Placing
no_placing = record { key = 0; address = 0; start = 0; len = 0 }

unfoldable pub placing_at : Record → Stretch → Placing
placing_at rec s = cond (remote_ok rec.remote && ltb s.offset rec.remote.size) (placing_of rec s) no_placing

abbrev pub placings_of : Record → Stretches → Placings
placings_of rec Parts.Nowhere = Nowhere
placings_of rec (Parts.One s) = One (placing_of rec s)
placings_of rec (Parts.Two s t) = Two (placing_of rec s) (placing_of rec t)

-- the answer names n and at most two placings
abbrev pub sent_reply : Record → ℕ → Reply
sent_reply rec n = Sent n (placings_of rec (stretches_of rec.remote.size rec.outbound.producer n))

unfoldable pub sent_of : Record → ℕ → Outcome
sent_of rec len =
    let n = n_of rec len in
    outcome_of (sent_reply rec n) (tells_of rec n len) (produced_of rec n len)

-- one cut short is a send, but always makes a message, with P and no U
unfoldable pub urgent_of : Record → ℕ → Outcome
urgent_of rec len =
    let n = n_of rec len in
    let next = produced_of rec n len in
    let urged = urged_of next in
    cond (ltb n len)
    (urgent_outcome (sent_reply rec n) (pending_of (message_of next)) next)
    (urgent_outcome (sent_reply rec n) (message_of urged) urged)

-- n is 0, no message, no change
abbrev pub nothing_sent : Record → Outcome
nothing_sent rec = outcome_of (Sent 0 Nowhere) false rec

unfoldable pub send_of : ℕ → Bool → Record → ℕ → Outcome
send_of N active rec len =
    let no = refusal_of N active rec (send_forbids rec.marks) in
    cond (eqb no 0) (cond (waits_b rec len) (nothing_sent rec) (sent_of rec len)) (refused_of no rec)

-- the refusals are send's
unfoldable pub urgent_send_of : ℕ → Bool → Record → ℕ → Outcome
urgent_send_of N active rec len =
    let no = refusal_of N active rec (send_forbids rec.marks) in
    cond (eqb no 0) (cond (waits_b rec len) (nothing_sent rec) (urgent_of rec len)) (refused_of no rec)

-- What is claimed of placings, and no contract cites. How many bytes they name in all
abbrev pub placings_total : Placings → ℕ
placings_total Nowhere = 0
placings_total (One p) = p.len
placings_total (Two p q) = p.len + q.len

-- a placing that is not empty, takes the bytes from `start` on, has the key of the connection's own link, and lies whole between the start
-- of the element's data and its end, below 2^64
pub record Within (rec : Record) (start : ℕ) (p : Placing) : Type 0 where
  pub some : 0 < p.len
  pub follows : p.start ≡ start
  pub own_key : p.key ≡ (rtoken_of rec).key
  pub low : element_start rec + 4 ≤ p.address
  pub high : p.address + p.len ≤ element_start rec + rec.remote.size
  pub top : p.address + p.len ≤ most_address + 1

-- each placing is so, a second one takes the bytes that follow, and ends where the first begins or before
abbrev pub all_within : Record → Placings → Type 0
all_within rec Nowhere = Unit
all_within rec (One p) = Within rec 0 p
all_within rec (Two p q) = Within rec 0 p × Within rec p.len q × (q.address + q.len ≤ p.address)

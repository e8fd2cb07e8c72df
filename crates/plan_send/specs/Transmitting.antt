-- A send or an urgent send as the code takes it apart: what it answers and does with its record, in few values (`Sending`). The two differ
-- in one bit. Assumes nothing.
use Rattle.std.specs.Prelude.{ℕ, ◌+◌, ◌-◌, ◌*◌, ◌%◌, ◌^◌, Bool, false, cond, not, ◌&&◌, ◌||◌, nat_lt}
use Rattle.cursor.specs.declared.Cursor.{Cursor}
use Rattle.cursor.specs.Cursor.{step_of}
use Rattle.flow.specs.declared.Stretch.{Stretch}
use Rattle.flow.specs.declared.Stretches.{Stretches}
use Rattle.flow.specs.declared.Stretches.TheVariants.{Nowhere, One, Two}
use Rattle.flow.specs.Flow.{room_of, taken_of, stretches_of}
use Rattle.conn_record.specs.declared.RToken.{RToken}
use Rattle.conn_answer.specs.declared.Placing.{Placing}
use Rattle.conn_record.specs.declared.Outbound.{Outbound}
use Rattle.conn_record.specs.declared.Record.{Record}
use Rattle.conn_send.specs.Transmit.{rtoken_of, no_placing}
use Rattle.conn_send.specs.Produced.{send_forbids, waits_b}
use Rattle.plan_send.specs.declared.SendAnswer.{SendAnswer}
use Rattle.plan_send.specs.declared.Sending.{Sending}

-- Transmit's n and whether a message is made, of the outbound half alone
unfoldable pub taken_in_of : ℕ → Outbound → ℕ → ℕ
taken_in_of N' o len = taken_of (room_of N' o.consumer o.producer) len

unfoldable pub tells_in : Outbound → ℕ → ℕ → Bool
tells_in o n len = nat_lt 0 n || (nat_lt n len && not o.blocked)

-- a stretch of element number `index` in the memory t (exact: its address has 64 bits where the peer's element is in range)
unfoldable pub placing_in : ℕ → ℕ → RToken → Stretch → Placing
placing_in N' index t s =
    record { key = t.key; address = (t.base + ((index - 1) * N' + s.offset)) % 2 ^ 64; start = s.start; len = s.len }

abbrev pub said : ℕ → Bool → ℕ → Placing → Placing → SendAnswer
said n tells count first second =
    record { refusal = 0; made = tells; placings = count; taken = n; first = first; second = second }

-- how many placings the stretches have, and which, by where a stretch goes
abbrev pub count_in : Stretches → ℕ
count_in Nowhere = 0
count_in (One a) = 1
count_in (Two a b) = 2

abbrev pub first_in : (Stretch → Placing) → Stretches → Placing
first_in go Nowhere = no_placing
first_in go (One a) = go a
first_in go (Two a b) = go a

abbrev pub second_in : (Stretch → Placing) → Stretches → Placing
second_in go Nowhere = no_placing
second_in go (One a) = no_placing
second_in go (Two a b) = go b

-- n bytes taken, that go to the stretches
abbrev pub said_of : (Stretch → Placing) → ℕ → Bool → Stretches → SendAnswer
said_of go n tells s = said n tells (count_in s) (first_in go s) (second_in go s)

abbrev pub named_in : ℕ → ℕ → RToken → Cursor → ℕ → Bool → SendAnswer
named_in N' index t q n tells = said_of (placing_in N' index t) n tells (stretches_of N' q n)

-- nothing is sent: a refusal's number, or 0 where an urgent place of our own stands or nothing is offered
abbrev pub unsent_answer : ℕ → SendAnswer
unsent_answer j = record { refusal = j; made = false; placings = 0; taken = 0; first = no_placing; second = no_placing }

abbrev pub unsent : ℕ → Outbound → Sending
unsent j o = record { said = unsent_answer j; producer = o.producer; blocked = o.blocked }

-- an urgent send always makes a message
unfoldable pub sent_by : Bool → Record → ℕ → Sending
sent_by urgent rec len =
    let N' = rec.remote.size in
    let q = rec.outbound.producer in
    let n = taken_in_of N' rec.outbound len in
    record {
      said = named_in N' rec.remote.index (rtoken_of rec) q n (urgent || tells_in rec.outbound n len);
      producer = step_of N' q n;
      blocked = nat_lt n len;
    }

-- a send of len bytes, or an urgent one, that was not refused before
unfoldable pub sending_of : Bool → Record → ℕ → Sending
sending_of urgent rec len =
    let o = rec.outbound in
    cond (send_forbids rec.marks) (unsent 7 o) (cond (waits_b rec len) (unsent 0 o) (sent_by urgent rec len))

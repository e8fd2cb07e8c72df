-- What a gather leaves of the table and of the message's buffer, by the sending of the joined length. Assumes nothing.
use Rattle.std.specs.Prelude.{ℕ, ◌+◌, ◌<◌, ◌≡◌, false, cond, List, eqb, length}
use Rattle.flow.specs.declared.Stretch.{Stretch}
use Rattle.conn_answer.specs.declared.Placing.{Placing}
use Rattle.conn_record.specs.declared.Record.{Record}
use Rattle.group_table.specs.Table.{record_at, with_record}
use Rattle.conn_send.specs.Transmit.{rtoken_of, no_placing}
use Rattle.plan_send.specs.declared.Sending.{Sending}
use Rattle.plan_send.specs.Transmitting.{placing_in, unsent_answer, sending_of}
use Rattle.plan_send.specs.Transmitted.{record_left, message_left}
use Rattle.plan_gather.specs.declared.Joined.{Joined}

-- an empty placing where Q is after the sending
abbrev pub end_of : Sending → Stretch
end_of t = record { offset = t.producer.offset; start = t.said.taken; len = 0 }

unfoldable pub last_by : Record → Sending → Placing
last_by rec t =
    cond (eqb t.said.refusal 0) (placing_in rec.remote.size rec.remote.index (rtoken_of rec) (end_of t)) no_placing

abbrev pub refused_answer : ℕ → Joined
refused_answer j = record { sent = unsent_answer j; last = no_placing }

-- of the table t and the message's buffer b it leaves u and c
abbrev pub GatherBy : List Record → ℕ → List ℕ → List ℕ → List ℕ → Joined → List Record → List ℕ → Type 0
GatherBy t k head body b r u c =
    let q = sending_of false (record_at t k) (length head + length body) in
    (r.sent ≡ q.said)
    × (r.last ≡ last_by (record_at t k) q)
    × (u ≡ with_record t k (record_left false (record_at t k) q))
    × (c ≡ message_left false (record_at t k) q b)

-- the same where j, what was refused before, is 0; else it is the answer, and nothing changes
abbrev pub GatherUnless : ℕ → List Record → ℕ → List ℕ → List ℕ → List ℕ → Joined → List Record → List ℕ → Type 0
GatherUnless j t k head body b r u c =
    (j ≡ 0 → GatherBy t k head body b r u c) × (0 < j → (r ≡ refused_answer j) × (u ≡ t) × (c ≡ b))

-- What a send or an urgent send leaves of the table and of the message's buffer, by the sending. Assumes nothing.
use Rattle.std.specs.Prelude.{ℕ, ◌≡◌, Bool, List, length}
use Rattle.conn_record.specs.declared.Record.{Record}
use Rattle.group_table.specs.Table.{record_at, with_record}
use Rattle.plan_send.specs.declared.SendAnswer.{SendAnswer}
use Rattle.plan_send.specs.declared.Sending.{Sending}
use Rattle.plan_send.specs.Transmitting.{sending_of}
use Rattle.plan_send.specs.Transmitted.{record_left, message_left}

-- of the table t and the message's buffer b it leaves u and c
abbrev pub LeftBy : Bool → List Record → ℕ → List ℕ → List ℕ → SendAnswer → List Record → List ℕ → Type 0
LeftBy urgent t k bytes b r u c =
    let q = sending_of urgent (record_at t k) (length bytes) in
    (r ≡ q.said) × (u ≡ with_record t k (record_left urgent (record_at t k) q)) × (c ≡ message_left urgent (record_at t k) q b)

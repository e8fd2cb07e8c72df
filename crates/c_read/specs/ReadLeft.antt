-- What a read for C and Rust leaves, by the code's own steps; the promise in `DirectRead` needs none of them. Assumes nothing.
use Rattle.std.specs.Prelude.{ℕ, ◌≡◌, List, length}
use Rattle.element.specs.Element.{base_of, intact_at}
use Rattle.conn_record.specs.declared.Record.{Record}
use Rattle.group_table.specs.Table.{record_at, with_record}
use Rattle.plan_read.specs.declared.ReadAnswer.{ReadAnswer}
use Rattle.plan_read.specs.Reading.{reading_of, record_left, message_left, copied_by}

-- a read of slot k that 1, 2, 3 and 6 do not refuse: of the table t, the out buffer and the message's buffer b it leaves u, `left` and c
abbrev pub LeftBy : ℕ → List ℕ → List Record → ℕ → List ℕ → List ℕ → ReadAnswer → List Record → List ℕ → List ℕ → Type 0
LeftBy n m t k out b r u left c =
    let q = reading_of n (intact_at m (base_of n k)) (record_at t k) (length out) in
    (r ≡ q.said)
    × (u ≡ with_record t k (record_left (record_at t k) q))
    × (left ≡ copied_by n m k q out)
    × (c ≡ message_left (record_at t k) q b)

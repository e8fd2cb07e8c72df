-- The table that a hear leaves, and what a hear leaves in all. Assumes nothing.
use Rattle.std.specs.Prelude.{ℕ, ◌≡◌, Bool, ◌||◌, cond, List}
use Rattle.cdc.specs.declared.Message.{Message}
use Rattle.conn_record.specs.declared.Record.{Record}
use Rattle.group_table.specs.Table.{record_at, with_record, active_b}
use Rattle.plan_hear.specs.declared.HearAnswer.{HearAnswer}
use Rattle.plan_hear.specs.declared.Hearing.{Hearing}
use Rattle.plan_hear.specs.Hearing.{hearing_of, record_left, ended_of, message_left}

-- in slot k zeros, where it is closed, or A, where it breaks; or what the message says; or the record as it was
unfoldable pub table_left : List Record → ℕ → Message → Hearing → List Record
table_left t k m h =
    let rec = record_at t k in
    with_record t k (cond (h.closes || h.aborts) (ended_of rec h) (cond h.takes (record_left rec m h) rec))

-- of the table t and the message's buffer b it leaves u and c
abbrev pub HeardBy : ℕ → List Record → List Bool → ℕ → Message → List ℕ → HearAnswer → List Record → List ℕ → Type 0
HeardBy n t active k m b r u c =
    let q = hearing_of n (active_b active (record_at t k).id.link) (record_at t k) m 0 in
    (r ≡ q.said) × (u ≡ table_left t k m q) × (c ≡ message_left (record_at t k) q b)

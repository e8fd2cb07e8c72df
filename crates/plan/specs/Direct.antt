-- What the calls that change a record where it lies share: refusals 1, 2, 3 and 6, and the abort mark. Assumes nothing.
use Rattle.std.specs.Prelude.{ℕ, zero, suc, Option, None, Some, Bool, ◌&&◌, ◌||◌, cond, false, List, length}
use Rattle.closing.specs.declared.Marks.{Marks}
use Rattle.conn_record.specs.declared.Record.{Record}
use Rattle.conn_record.specs.Connection.{refusal_of}
use Rattle.group_table.specs.Table.{sizes_b, slot_b, record_at, active_b}

-- a call on slot k, whose record is c, tests 2, then 3 and 6; 0: none of them
unfoldable pub held_of : ℕ → ℕ → List Bool → ℕ → Record → ℕ
held_of s n active k c = cond (slot_b s k && c.id.opened) (refusal_of n (active_b active c.id.link) c false) 2

-- a refusal's number, or none
abbrev pub refusal_in : ℕ → Option ℕ
refusal_in zero = None
refusal_in (suc j) = Some (suc j)

-- and 1 before them
unfoldable pub refusal_at : ℕ → ℕ → ℕ → List Record → List Bool → ℕ → ℕ
refusal_at s n len t active k = cond (sizes_b s n len (length t)) (held_of s n active k (record_at t k)) 1

-- the marks after a call that sends A, or one that does not
unfoldable pub marks_left : Marks → Bool → Marks
marks_left m aborts = record { sent = m.sent; heard = m.heard; first = m.first; abort = m.abort || aborts }

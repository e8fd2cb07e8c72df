-- A call on the rows of a replayed table, an array of 300 records. Assumes nothing.
use Rattle.std.specs.Prelude.{ℕ, min, ◌≡◌, List, ◌++◌, take, drop}
use Rattle.conn_record.specs.declared.Record.{Record}
use Rattle.group_table.specs.declared.Links.{Links}
use Rattle.group_rules.specs.Rules.{Did, group_of, answer_of}
use Rattle.group_make.specs.declared.Command.{Command}
use Rattle.group_make.specs.Group.{call_of, out_left}
use Rattle.group_make.specs.declared.Made.{Made}

-- the first `count` rows are the group's table, and the call left them as `rows`, the memory as l and out as `left`; the other rows stay as
-- they were
pub record OnRows (t : List Record) (count s n : ℕ) (m : List ℕ) (ls : Links) (c : Command) (b out : List ℕ) (r : Made) (l left : List ℕ)
    : Type 0 where
  pub rows : List Record
  pub did :
      Did (group_of s n (take (min count 300) t) ls m) (call_of c b out) (answer_of r.answer (out_left c left))
      (group_of s n rows r.answer.links l)
  pub table : r.table ≡ rows ++ drop (min count 300) t

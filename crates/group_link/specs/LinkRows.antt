-- A call on links, made on the rows of a replayed table, an array of 300 records. Assumes nothing.
use Rattle.std.specs.Prelude.{ℕ, min, ◌≡◌, List, ◌++◌, take, drop}
use Rattle.conn_record.specs.declared.Record.{Record}
use Rattle.group_table.specs.declared.Links.{Links}
use Rattle.group_rules.specs.Rules.{Did, group_of}
use Rattle.group_link.specs.declared.LinkCommand.{LinkCommand}
use Rattle.group_link.specs.LinkDesk.{call_of, answer_in}
use Rattle.group_link.specs.declared.LinkMade.{LinkMade}

-- the first `count` rows are the group's table, and the call left them as `rows` and the buffer as `left`; the other rows stay as they were
pub record OnRows (t : List Record) (count s n : ℕ) (m : List ℕ) (ls : Links) (c : LinkCommand) (b vs out : List ℕ) (r : LinkMade)
    (left : List ℕ) : Type 0 where
  pub rows : List Record
  pub did :
      Did (group_of s n (take (min count 300) t) ls m) (call_of c b vs out) (answer_in c r.done left)
      (group_of s n rows r.done.answer.links m)
  pub table : r.table ≡ rows ++ drop (min count 300) t

-- The replay format's line of 2026-08, on an array of 300 records. Assumes nothing.
use Rattle.std.specs.Prelude.{ℕ, min, ◌≡◌, List, ◌++◌, take, drop}
use Rattle.conn_record.specs.declared.Record.{Record}
use Rattle.group_table.specs.declared.Links.{Links}
use Rattle.group_rules.specs.Rules.{group_of}
use Rattle.group_gather.specs.Gathering.{DidGather}
use Rattle.text_gather.specs.declared.GatherMade.{GatherMade}

-- the first `count` rows are the group's table, and the call left them as `rows`; the others stay as they were
pub record OnRows (t : List Record) (count s n : ℕ) (m : List ℕ) (ls : Links) (slot : ℕ) (h b : List ℕ) (r : GatherMade) : Type 0 where
  pub rows : List Record
  pub did :
      DidGather (group_of s n (take (min count 300) t) ls m) slot h b r.gathered (group_of s n rows r.gathered.answer.links m)
  pub table : r.table ≡ rows ++ drop (min count 300) t

-- A fresh group's tables, as the code makes them. Assumes nothing.
use Rattle.std.specs.Prelude.{ℕ, ◌*◌, ◌≡◌, true, false, List, take, replicate}
use Rattle.gauge.specs.Gauge.{cleared_of}
use Rattle.link_exchange.specs.declared.Role.{Role}
use Rattle.link_exchange.specs.Exchange.{no_exchange, empty_queue}
use Rattle.conn_record.specs.declared.Record.{Record}
use Rattle.conn_record.specs.Connection.{zero_record}
use Rattle.group_table.specs.declared.Links.{Links}
use Rattle.group_table.specs.Table.{most_slots, sizes_b}
use Rattle.group_rules.specs.Rules.{group_of, Fresh}

-- every slot closed, all zeros
unfoldable pub closed_table : List Record
closed_table = replicate most_slots zero_record

-- every link down, every gauge cleared, no exchange and none that waits; either role
unfoldable pub down_links : Role → Links
down_links role =
    record { active = replicate 4 false; gauges = replicate 4 cleared_of; role = role; exchange = no_exchange; queue = empty_queue }

-- for every S and N in range: with the first S records and any zeroed memory of S x N bytes, a fresh group
abbrev pub FreshTables : List Record → Links → Type 0
FreshTables t l = (s n : ℕ) → sizes_b s n (s * n) s ≡ true → Fresh (group_of s n (take s t) l (replicate (s * n) 0))

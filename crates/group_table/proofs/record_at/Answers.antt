-- `group_table::record_at` meets its contract. Assumes nothing.
use Rattle.group_table.proofs.SlotsLaws.{record_at_returns_2}
use Rattle.group_table.proofs.record_at.Goals as goal

pub returns-else-i-table : goal.returns-else-i-table
returns-else-i-table c =
    record_at_returns_2 c.args.table.now c.args.slot c.index-i.result c.index-i.ensures c.if-i-table.false _ c.zero_record.ensures

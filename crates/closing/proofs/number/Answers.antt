-- `closing::number` meets its contract: its table passes the test of the rule.
-- Assumes nothing.
use Rattle.closing.specs.Closing.{close_state_of, packed_of}
use Rattle.closing.proofs.Table.{table_right}
use Rattle.closing.proofs.number.Goals as goal

pub returns : goal.returns
unfolding close_state_of packed_of
returns c = search table_right

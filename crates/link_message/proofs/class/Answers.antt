-- `link_message::class` meets its contract: its table passes the test of the rule.
-- Assumes nothing.
use Prim.Native.Nat.{◌<◌}
use native.Mathlib.Omega.{arith}
use Rattle.link_message.specs.Llc.{class_of}
use Rattle.link_message.proofs.LlcTable.{table_right}
use Rattle.link_message.proofs.class.Goals as goal

pub returns : goal.returns
unfolding class_of
returns c = let h : c.args.first < 256 = omega arith in search table_right

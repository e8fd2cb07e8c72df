-- `setup_read::size_of` meets its contract. Assumes nothing.
use Rattle.setup_read.proofs.Codes.{table_right, no_bytes}
use Rattle.setup_read.specs.Codes.{bytes_of_code}
use native.Mathlib.Omega.{arith}
use Prim.Native.Nat.{◌<◌}
use mathlib.Core.Path.{sym}
use Rattle.setup_read.proofs.size_of.Goals as goal

pub returns-then-code-lt16 : goal.returns-then-code-lt16
unfolding bytes_of_code
returns-then-code-lt16 c = let h : c.args.code < 16 = omega arith in search table_right

pub returns-else-code-lt16 : goal.returns-else-code-lt16
unfolding bytes_of_code
returns-else-code-lt16 c = let h : 5 < c.args.code = omega arith in sym (no_bytes c.args.code h)

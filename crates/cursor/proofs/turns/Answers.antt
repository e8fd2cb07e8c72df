-- `cursor::turns` meets its contract: the integer's remainder. Assumes nothing.
use native.Mathlib.Omega.{arith}
use Rattle.cursor.proofs.Laws.{turns_is}
use Rattle.cursor.proofs.turns.Goals as goal

pub returns : goal.returns
returns c = omega (arith, turns_is)

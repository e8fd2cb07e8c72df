-- `element::past` meets its contract: without a number below zero, the integer's remainder. Assumes nothing.
use native.Mathlib.Nat.{mod-lt}
use Rattle.element.proofs.Free.{from_up, from_down}
use native.Mathlib.Omega.{arith}
use Prim.Native.Nat.{◌-◌}
use mathlib.Core.Path.{sym}
use Rattle.element.proofs.past.Goals as goal

pub overflow_sub-result-else-p-x-4 : goal.overflow_sub-result-else-p-x-4
overflow_sub-result-else-p-x-4 c = omega (arith, mod-lt (c.args.p - c.args.x - 1) c.requires)

pub returns-then-p-x : goal.returns-then-p-x
returns-then-p-x c = (sym (from_up _ _ _ (omega arith)), mod-lt _ c.requires)

pub returns-else-p-x : goal.returns-else-p-x
returns-else-p-x c = (sym (from_down _ _ _ (omega arith)), omega arith)

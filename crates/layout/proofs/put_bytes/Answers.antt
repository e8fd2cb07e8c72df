-- `layout::put_bytes` meets its contract. Assumes nothing.
use Rattle.layout.proofs.Places.{laid_mid, laid_out}
use native.Mathlib.Omega.{arith}
use mathlib.Core.Path.{refl, sym}
use Rattle.layout.proofs.put_bytes.Goals as goal

pub returns-then-at-out : goal.returns-then-at-out
returns-then-at-out c = laid_mid _ _ _ _ _ c.copy_from_slice.ensures.after refl (omega arith)

pub returns-else-p-out : goal.returns-else-p-out
returns-else-p-out c = sym (laid_out _ _ _ (grind arith))

-- `element::store` meets its contract. Assumes nothing.
use Rattle.element.proofs.Laws.{put_mid_lem}
use Rattle.element.proofs.Calls.{stored_in, stored_out}
use native.Mathlib.Omega.{arith}
use mathlib.Core.Path.{refl, sym, ◌∙◌}
use Rattle.element.proofs.store.Goals as goal

pub returns-then-n-len : goal.returns-then-n-len
returns-then-n-len c = put_mid_lem _ _ _ _ _ c.copy.ensures refl ∙ sym (stored_in _ _ _ (omega arith) (omega arith))

pub returns-else-n-le65536 : goal.returns-else-n-le65536
returns-else-n-le65536 c = sym (stored_out _ _ _ (λ h. grind arith))

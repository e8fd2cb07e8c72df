-- `plan_send::placing` meets its contract. Assumes nothing.
use Rattle.std.proofs.Common.{arith}
use Rattle.plan_send.specs.Transmitting.{placing_in}
use Rattle.plan_send.proofs.Steps.{place_fits}
use Rattle.plan_send.proofs.placing.Goals as goal

pub overflow_mul-before : goal.overflow_mul-before
overflow_mul-before c =
    let k = c.saturating_sub in
    let a = c.args in
    omega (arith, place_fits k.result a.size 0 (omega (arith, k.ensures)) (omega arith) (omega arith))

pub overflow_add-at : goal.overflow_add-at
overflow_add-at c =
    let k = c.saturating_sub in
    let a = c.args in
    omega (arith, place_fits k.result a.size a.s.offset (omega (arith, k.ensures)) (omega arith) (omega arith))

pub returns : goal.returns
unfolding placing_in
returns c = simp c.saturating_sub.ensures

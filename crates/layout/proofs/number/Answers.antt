-- `layout::number` meets its contract. Assumes nothing.
use lib.Pow.{pow_mono}
use Rattle.layout.proofs.Places.{number_none, number_next, number_bound, number_min, next_bound}
use Rattle.layout.specs.Layout.{number_at}
use native.Mathlib.Omega.{arith}
use Prim.Native.Nat.{ℕ, ◌+◌, ◌-◌, ◌*◌, ◌<◌, ◌^◌, min}
use mathlib.Core.Path.{◌≡◌, sym, ap, ◌∙◌, subst}
use lib.ListN.{length, get_or}
use Rattle.layout.proofs.number.Goals as goal

pub loop-i-init : goal.loop-i-init
loop-i-init c = (sym (number_none _ _), omega arith)

pub overflow_mul-x : goal.overflow_mul-x
overflow_mul-x c = omega (arith, pow_mono {i = 8 * c.loop-i.i} {j = 56} (omega arith))

pub overflow_add-x : goal.overflow_add-x
overflow_add-x c = omega (arith, pow_mono {i = 8 * c.loop-i.i} {j = 56} (omega arith), c.type_inv.s (c.args.at + c.loop-i.i))

pub loop-i-preserved : goal.loop-i-preserved
loop-i-preserved c =
    let l = c.loop-i in
    let a = c.args in
    let inside : a.at + l.i < length a.s.now = omega arith in
    let same : c.from.result ≡ get_or a.s.now (a.at + l.i) 0 = c.from.ensures in
    let small : get_or a.s.now (a.at + l.i) 0 < 256 = omega (arith, c.type_inv.s (a.at + l.i)) in (
      (λ j. l.invariant.0 j * 256 + same j) ∙ sym (number_next a.s.now a.at l.i inside small),
      next_bound l.i l.x c.from.result l.invariant.1 (omega arith),
    )

pub returns : goal.returns
returns c =
    let l = c.loop-i in
    let s = c.args.s.now in
    let at = c.args.at in
    let m = min c.args.n 8 in
    let e : l.i ≡ min m (length s - at) = omega arith in
    let same : l.x ≡ number_at s at m = l.invariant.0 ∙ ap (number_at s at) e ∙ number_min s at m in
    (same, subst (λ (y : ℕ). y < 2 ^ (8 * m)) (sym same) (number_bound s at m))

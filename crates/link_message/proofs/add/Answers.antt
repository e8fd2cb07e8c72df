-- `link_message::add` meets its contract. Assumes nothing.
use Prim.Native.Nat.{◌+◌, ◌*◌}
use mathlib.Core.Path.{ap, ◌∙◌}
use native.Mathlib.Nat.{min-eq_left}
use native.Mathlib.Omega.{arith}
use lib.Pow.{pow_mono}
use Rattle.layout.specs.Layout.{number_at, be_of, laid_at}
use Rattle.link_message.proofs.add.Goals as goal

pub overflow_add-before : goal.overflow_add-before
overflow_add-before c =
    let s = c in
    let n = c.number-before.ensures.0 ∙ ap (number_at s.args.out.now s.args.at) (min-eq_left s.requires.0) in
    record { fits = omega (arith, s.requires.1, n, pow_mono {i = 8 * s.args.n} {j = 64} (omega (arith, s.requires.0))) }

pub returns : goal.returns
returns c =
    let s = c in
    let out = s.args.out.now in
    let n = s.args.n in
    let at = s.args.at in
    let m = min-eq_left s.requires.0 in
    let before = c.number-before.ensures.0 ∙ ap (number_at out at) m in
    c.put_number.ensures ∙ (λ i. laid_at out at (be_of (m i) (before i + s.args.x)))

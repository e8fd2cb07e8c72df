-- `link_message::value` meets its contract. Assumes nothing.
use Prim.Native.Nat.{◌/◌, ◌%◌, ◌^◌}
use mathlib.Core.Path.{ap, ◌∙◌}
use native.Mathlib.Nat.{min-eq_left}
use Rattle.layout.specs.Layout.{number_at}
use Rattle.link_message.specs.Layouts.{value_at}
use Rattle.link_message.proofs.value.Goals as goal

pub returns : goal.returns
unfolding value_at
returns c =
    let a = c.args in
    let pre = c.requires in
    let n = c.number.ensures.0 ∙ ap (number_at a.s.now a.p.0) (min-eq_left pre.0) in
    c.low.ensures ∙ (λ i. n i / 2 ^ a.p.2 % 2 ^ a.p.3)

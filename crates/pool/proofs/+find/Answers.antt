-- `pool::find` meets its contract: each return is what the tests before it pick of what is left. Assumes nothing.
use native.Mathlib.Omega.{arith}
use mathlib.Core.Path.{sym, ◌∙◌}
use Rattle.pool.proofs.Halves.{all_held, lower, upper, in_lower, in_upper, last_free, last_held}
use Rattle.pool.proofs.+find.Goals as goal

pub returns-then-size-held : goal.returns-then-size-held
returns-then-size-held t c =
    let a = c.args in
    let l = c.loop-size in
    sym (l.invariant.2 ∙ all_held a.b.now a.want l.at l.size l.invariant.0 _ c.from-held.ensures c.if-size-held.true)

pub find-lower-requires : goal.find-lower-requires
find-lower-requires t c =
    let a = c.args in
    let l = c.loop-size in
    (omega (arith, c.decreases, l.invariant.1, c.loop-size-test.true), lower a.b.now a.want l.at l.size l.invariant.0 c.loop-size-test.true)

pub returns-then-is_some : goal.returns-then-is_some
returns-then-is_some t c =
    let a = c.args in
    let l = c.loop-size in
    in_lower a.b.now a.want l.at l.size l.invariant.0 c.loop-size-test.true _ c.find-lower.ensures (sym c.is_some.ensures ∙ c.if-is_some.true) ∙ sym l.invariant.2

pub loop-size-preserved : goal.loop-size-preserved
loop-size-preserved t c =
    let a = c.args in
    let l = c.loop-size in (
      upper a.b.now a.want l.at l.size l.invariant.0 c.loop-size-test.true _ c.from-held.ensures c.if-size-held.false,
      omega (arith, l.invariant.1),
      l.invariant.2 ∙ in_upper a.b.now a.want l.at l.size l.invariant.0 c.loop-size-test.true _ c.find-lower.ensures (sym c.is_some.ensures ∙ c.if-is_some.false),
    )

pub returns-then-none_starts : goal.returns-then-none_starts
returns-then-none_starts t c =
    let a = c.args in
    let l = c.loop-size in
    sym (l.invariant.2 ∙ last_free a.b.now a.want l.at l.size l.invariant.0 c.loop-size-test.false (sym c.none_starts.ensures ∙ c.if-none_starts.true))

pub returns : goal.returns
returns t c =
    let a = c.args in
    let l = c.loop-size in
    sym (l.invariant.2 ∙ last_held a.b.now a.want l.at l.size l.invariant.0 c.loop-size-test.false (sym c.none_starts.ensures ∙ c.if-none_starts.false))

-- `bench_cursor::step` meets its contract. Assumes nothing.
use mathlib.Core.Path.{sym, ◌∙◌}
use mathlib.Core.Bool.{true, false}
use native.Mathlib.Omega.{arith}
use Rattle.cursor.proofs.Laws.{step_asks, step_is}
use Rattle.bench_cursor.proofs.step.Goals as goal

pub moved-requires : goal.moved-requires
moved-requires c =
    let k = c.args.k in
    let p = step_asks _ _ k _ _ c.in_range.ensures c.if-ok.true in (p.0, omega arith)

pub returns-then-ok : goal.returns-then-ok
returns-then-ok c =
    let b = c in
    c.moved.ensures ∙ sym (step_is _ _ _ _ true b.in_range.ensures b.if-ok.true)

pub returns-else-ok : goal.returns-else-ok
returns-else-ok c = sym (step_is _ _ _ _ false c.in_range.ensures c.if-ok.false)

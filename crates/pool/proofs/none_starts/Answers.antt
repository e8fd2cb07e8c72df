-- `pool::none_starts` meets its contract. Assumes nothing.
use mathlib.Core.Path.{sym, ◌∙◌}
use Prim.Native.Nat.{◌+◌}
use borrow.Author.Tests.{eq-eqb, ne_eqb}
use Rattle.pool.specs.Steps.{empty_b}
use Rattle.pool.proofs.Every.{every_start, every_here, every_on, every_end}
use Rattle.pool.proofs.none_starts.Goals as goal

pub loop-k-init : goal.loop-k-init
loop-k-init c = every_start _ _ _

pub returns-then-b-k-ne0 : goal.returns-then-b-k-ne0
returns-then-b-k-ne0 c =
    let a = c.args in
    let l = c.loop-k in
    sym (l.invariant ∙ every_here (empty_b a.b.now) l.k (a.start + a.n) c.loop-k-test.true (ne_eqb _ _ c.if-b-k-ne0.true))

pub loop-k-preserved : goal.loop-k-preserved
loop-k-preserved c =
    let a = c.args in
    let l = c.loop-k in
    l.invariant ∙ every_on (empty_b a.b.now) l.k (a.start + a.n) c.loop-k-test.true (eq-eqb _ _ c.if-b-k-ne0.false)

pub returns : goal.returns
returns c =
    let a = c.args in
    let l = c.loop-k in
    sym (l.invariant ∙ every_end (empty_b a.b.now) l.k (a.start + a.n) c.loop-k-test.false)

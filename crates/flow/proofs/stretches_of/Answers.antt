-- `flow::stretches_of` meets its contract. Assumes nothing.
use borrow.Author.Tests.{eq-eqb, ne_eqb}
use Rattle.flow.specs.Flow.{stretches_of}
use Rattle.flow.proofs.stretches_of.Goals as goal

pub returns-then-n-eq0 : goal.returns-then-n-eq0
unfolding stretches_of
returns-then-n-eq0 c = simp (eq-eqb _ _ c.if-n-eq0.true)

pub returns-then-n-f : goal.returns-then-n-f
unfolding stretches_of
returns-then-n-f c =
    let b = c in
    simp (ne_eqb _ _ c.if-n-eq0.false, ← b.first_part-f.ensures.0, eq-eqb _ _ c.if-n-f.true)

pub returns : goal.returns
unfolding stretches_of
returns c =
    let b = c in
    simp (ne_eqb _ _ c.if-n-eq0.false, ← b.first_part-f.ensures.0, ne_eqb _ _ c.if-n-f.false)

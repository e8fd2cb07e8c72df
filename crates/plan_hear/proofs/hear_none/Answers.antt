-- `plan_hear::hear_none` meets its contract. Assumes nothing.
use borrow.Author.Tests.{eq-eqb, ne_eqb}
use Rattle.plan_hear.specs.Hearing.{none_hearing}
use Rattle.plan_hear.proofs.hear_none.Goals as goal

pub returns-then-j-eq0 : goal.returns-then-j-eq0
unfolding none_hearing
returns-then-j-eq0 c = simp (eq-eqb _ _ c.if-j-eq0.true, c.stays.ensures)

pub returns-else-j-eq0 : goal.returns-else-j-eq0
unfolding none_hearing
returns-else-j-eq0 c = simp (ne_eqb _ _ c.if-j-eq0.false, c.stays-else-j-eq0.ensures)

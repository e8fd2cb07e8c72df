-- `plan_hear::validated` meets its contract. Assumes nothing.
use borrow.Author.Tests.{eq-eqb, ne_eqb}
use Rattle.plan_hear.specs.Hearing.{validated_hearing}
use Rattle.plan_hear.proofs.validated.Goals as goal

pub returns-then-m-rec : goal.returns-then-m-rec
unfolding validated_hearing
returns-then-m-rec c =
    let n = c in
    let s = n in
    simp (eq-eqb _ _ s.if-m-rec.true, c.kept.ensures, n.from.ensures, s.state_of.ensures)

pub returns : goal.returns
unfolding validated_hearing
returns c = simp (ne_eqb _ _ c.if-m-rec.false, c.broken.ensures)

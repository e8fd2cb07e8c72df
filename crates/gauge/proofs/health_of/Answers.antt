-- `gauge::health_of` meets its contract: each return is what the tests before it pick. Assumes nothing.
use borrow.Author.Tests.{eq-eqb, ne_eqb}
use Rattle.gauge.specs.Gauge.{health_of}
use Rattle.gauge.proofs.health_of.Goals as goal

pub returns-then-g-eq0 : goal.returns-then-g-eq0
unfolding health_of
returns-then-g-eq0 c = rw (eq-eqb _ _ c.if-g-eq0.true)

pub returns-then-g : goal.returns-then-g
unfolding health_of
returns-then-g c = rw (ne_eqb _ _ c.if-g-eq0.false, c.if-g.true)

pub returns-else-g : goal.returns-else-g
unfolding health_of
returns-else-g c = rw (ne_eqb _ _ c.if-g-eq0.false, c.if-g.false)

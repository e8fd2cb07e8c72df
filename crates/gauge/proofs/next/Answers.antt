-- `gauge::next` meets its contract: the first sample by the test on the count, a later one by what the four calls ensure. Assumes nothing.
use borrow.Author.Tests.{eq-eqb, ne_eqb}
use Rattle.gauge.specs.Gauge.{sampled_of}
use Rattle.gauge.proofs.next.Goals as goal

pub returns-then-c-eq0 : goal.returns-then-c-eq0
unfolding sampled_of
returns-then-c-eq0 c = rw (eq-eqb _ _ c.if-c-eq0.true)

pub returns : goal.returns
unfolding sampled_of
returns c = rw (ne_eqb _ _ c.if-c-eq0.false, c.is_late-late.ensures, c.smooth-mean.ensures, c.larger-worst.ensures, c.one_more-count.ensures)

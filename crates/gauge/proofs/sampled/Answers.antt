-- `gauge::sampled` meets its contract. Assumes nothing.
use mathlib.Core.Path.{◌∙◌, sym}
use borrow.Author.Tests.{leb-true}
use Rattle.gauge.proofs.sampled.Goals as goal

pub next-requires : goal.next-requires
next-requires c = leb-true _ _ (sym c.is_sample.ensures ∙ c.if-is_sample.true)

pub returns-then-is_sample : goal.returns-then-is_sample
returns-then-is_sample c = rw (← c.is_sample.ensures, c.if-is_sample.true, c.next.ensures)

pub returns-else-is_sample : goal.returns-else-is_sample
returns-else-is_sample c = rw (← c.is_sample.ensures, c.if-is_sample.false)

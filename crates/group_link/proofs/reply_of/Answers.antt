-- `group_link::reply_of` meets its contract. Assumes nothing.
use borrow.Author.Tests.{eq-eqb, ne_eqb}
use Rattle.group_link.specs.LinkDesk.{reply_by}
use Rattle.group_link.proofs.reply_of.Goals as goal

pub returns-then-no-eq0 : goal.returns-then-no-eq0
unfolding reply_by
returns-then-no-eq0 c = simp (eq-eqb _ _ c.if-no-eq0.true)

pub returns-else-no-eq0 : goal.returns-else-no-eq0
unfolding reply_by
returns-else-no-eq0 c = simp (ne_eqb _ _ c.if-no-eq0.false)

-- `group_link::done` meets its contract. Assumes nothing.
use Rattle.group_link.specs.LinkDesk.{done_by}
use Rattle.group_link.proofs.done.Goals as goal

pub returns : goal.returns
unfolding done_by
returns c = simp c.reply_of.ensures

-- `flow::taken` meets its contract. Assumes nothing.
use Rattle.flow.specs.Flow.{taken_of}
use borrow.Author.Rules.{rules}
use Rattle.flow.proofs.taken.Goals as goal

pub returns-then-room-len : goal.returns-then-room-len
unfolding taken_of
returns-then-room-len c = search rules

pub returns-else-room-len : goal.returns-else-room-len
unfolding taken_of
returns-else-room-len c = search rules

-- `flow::first_part` meets its contract. Assumes nothing.
use Rattle.flow.specs.Flow.{first_of}
use borrow.Author.Rules.{rules}
use Rattle.flow.proofs.first_part.Goals as goal

pub returns-then-size-at : goal.returns-then-size-at
unfolding first_of
returns-then-size-at c = search rules

pub returns-then-n-size : goal.returns-then-n-size
unfolding first_of
returns-then-n-size c = search rules

pub returns-else-n-size : goal.returns-else-n-size
unfolding first_of
returns-else-n-size c = search rules

-- `closing::marks_heard` meets its contract.
-- Assumes nothing.
use Rattle.closing.specs.Closing.{marks_heard}
use borrow.Author.Rules.{rules}
use Rattle.closing.proofs.marks_heard.Goals as goal

pub returns : goal.returns
unfolding marks_heard
returns c = search rules

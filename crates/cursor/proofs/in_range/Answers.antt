-- `cursor::in_range` meets its contract. Assumes nothing.
use Rattle.cursor.specs.Cursor.{in_range}
use borrow.Author.Rules.{rules}
use Rattle.cursor.proofs.in_range.Goals as goal

pub returns : goal.returns
unfolding in_range
returns c = search rules

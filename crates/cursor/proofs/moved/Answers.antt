-- `cursor::moved` meets its contract. Assumes nothing.
use borrow.Author.Tests.{lt-ltb, le-ltb}
use Rattle.cursor.specs.Cursor.{moved_of}
use Rattle.cursor.proofs.moved.Goals as goal

pub returns-then-at-size : goal.returns-then-at-size
unfolding moved_of
returns-then-at-size c = simp (lt-ltb _ _ c.if-at-size.true)

pub returns-else-at-size : goal.returns-else-at-size
unfolding moved_of
returns-else-at-size c = simp (le-ltb _ _ c.if-at-size.false)

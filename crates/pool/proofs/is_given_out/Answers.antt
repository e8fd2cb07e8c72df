-- `pool::is_given_out` meets its contract. Assumes nothing.
use borrow.Author.Tests.{lt-ltb, le-ltb}
use Rattle.pool.specs.Pool.{given_out_b}
use Rattle.pool.proofs.is_given_out.Goals as goal

pub returns-then-start-lt64 : goal.returns-then-start-lt64
unfolding given_out_b
returns-then-start-lt64 c = rw (lt-ltb _ _ c.if-start-lt64.true, c.from-given.ensures)

pub returns : goal.returns
unfolding given_out_b
returns c = rw (le-ltb _ _ c.if-start-lt64.false)

-- `c_setup::setup` meets its contract. Assumes nothing.
use borrow.Author.Tests.{lt-ltb, le-ltb}
use Rattle.c_setup.specs.FlatSetup.{flat_setup}
use Rattle.c_setup.proofs.setup.Goals as goal

pub returns-then-due-gt-CONFIRM : goal.returns-then-due-gt-CONFIRM
unfolding flat_setup
returns-then-due-gt-CONFIRM c = simp (c.bare.ensures, lt-ltb _ _ c.if-due-gt-CONFIRM.true)

pub returns : goal.returns
unfolding flat_setup
returns c = simp (c.from.ensures, c.setup.ensures, c.due_of.ensures, le-ltb _ _ c.if-due-gt-CONFIRM.false)

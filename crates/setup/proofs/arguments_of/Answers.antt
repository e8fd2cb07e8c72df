-- `setup::arguments_of` meets its contract. Assumes nothing.
use Rattle.setup.specs.Setup.{arguments_of}
use Rattle.setup.proofs.arguments_of.Goals as goal

pub returns : goal.returns
unfolding arguments_of
returns c =
    simp (
      c.pair-key1.ensures.0,
      c.pair-key1.ensures.1,
      c.pair-key2.ensures.0,
      c.pair-key2.ensures.1,
      c.pair-key3.ensures.0,
      c.pair-key3.ensures.1,
      c.pair-key4.ensures.0,
      c.pair-key4.ensures.1,
      c.size_of.ensures,
    )

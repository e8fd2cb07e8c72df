-- `cdc::flags_from` meets its contract. Assumes nothing.
use Rattle.cdc.specs.Cdc.{flags_of}
use borrow.Author.Rules.{rules}
use Rattle.cdc.proofs.flags_from.Goals as goal

pub returns : goal.returns
unfolding flags_of
returns c = search rules

-- `text_replay::lent` meets its contract. Assumes nothing.
use Rattle.std.proofs.Common.{rules, arith}
use Rattle.std.proofs.lemmas.Grind.{common_steps}
use Rattle.text_replay.proofs.lent.Goals as goal

pub returns : goal.returns
returns c =
    record {
      l = c.call.new.mem;
      left = c.call.new.out;
      called = first_of (search rules, grind (arith, common_steps));
      memory = first_of (search rules, grind (arith, common_steps));
      rest = first_of (search rules, grind (arith, common_steps));
    }

-- `c_setup::bare` meets its contract. Assumes nothing.
use mathlib.Core.Bool.{false}
use Rattle.c_setup.specs.FlatSetup.{bare_setup}
use Rattle.c_setup.proofs.bare.Goals as goal

pub returns : goal.returns
unfolding bare_setup
returns c =
    let d = c.default.ensures in
    λ i.
    record {
      said = c.args.said;
      refusal = c.args.refusal;
      opens = false;
      declined = false;
      diagnosis = 0;
      count = c.args.count;
      arguments = record {
        slot = d.0 i;
        own = d.1.0 i;
        token = d.1.1.0 i;
        link = d.1.1.1.0 i;
        size = d.1.1.1.1.0 i;
        index = d.1.1.1.1.1.0 i;
        key1 = d.1.1.1.1.1.1.0 i;
        base1 = d.1.1.1.1.1.1.1.0 i;
        key2 = d.1.1.1.1.1.1.1.1.0 i;
        base2 = d.1.1.1.1.1.1.1.1.1.0 i;
        key3 = d.1.1.1.1.1.1.1.1.1.1.0 i;
        base3 = d.1.1.1.1.1.1.1.1.1.1.1.0 i;
        key4 = d.1.1.1.1.1.1.1.1.1.1.1.1.0 i;
        base4 = d.1.1.1.1.1.1.1.1.1.1.1.1.1 i;
      };
      message = c.args.message;
    }

-- `cdc::fields` meets its contract. Assumes nothing.
use Rattle.cdc.specs.Cdc.{fields_of, num2, num4}
use Rattle.cdc.proofs.fields.Goals as goal

pub returns : goal.returns
unfolding fields_of num2 num4
returns c =
    λ i.
    record {
      sequence = c.from_be_bytes.ensures i;
      token = c.from_be_bytes-2.ensures i;
      producer = c.cursor_at.ensures i;
      consumer = c.cursor_at-2.ensures i;
      flags = c.flags_from.ensures i;
    }

-- `setup_read::endpoint` meets its contract. Assumes nothing.
use Rattle.setup_read.specs.Places.{no_message, endpoint_at}
use Rattle.setup_read.proofs.endpoint.Goals as goal

pub returns : goal.returns
unfolding endpoint_at no_message
returns c =
    simp (
      c.no_message.ensures,
      c.u8_at-version.ensures,
      c.u24_at-qp.ensures,
      c.u32_at-key.ensures,
      c.u8_at-index.ensures,
      c.u32_at-token.ensures,
      c.u8_at-sizes.ensures,
      c.number-base.ensures.0,
      c.u24_at-psn.ensures,
      c.bytes.ensures,
      c.bytes-2.ensures,
      c.bytes-3.ensures,
    )

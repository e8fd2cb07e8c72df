-- `setup_read::proposal` meets its contract. Assumes nothing.
use Rattle.std.proofs.Common.{◌≡◌, ◌+◌, ◌-◌, ◌≤◌, ◌*◌, length, take, arith}
use Rattle.layout.specs.Layout.{bytes_at}
use Rattle.setup_read.specs.Clc.{offset_at, count_at}
use Rattle.setup_read.specs.Places.{zeros, no_message, proposal_at}
use Rattle.setup_read.proofs.Reading.{prefixes_filled}
use Rattle.setup_read.proofs.proposal.Goals as goal

pub returns : goal.returns
unfolding proposal_at no_message
returns c =
    let l = c.args.s.now in
    let p : c.u8_at-count.result ≡ count_at l = simp (c.u8_at-count.ensures, c.u16_at-offset.ensures) in
    let few : 17 * count_at l ≤ 136 = omega (arith, c.requires) in
    let e : c.bytes-5.new.out ≡ bytes_at l (48 + offset_at l) (length (take (17 * count_at l - 0) (zeros 136))) =
    simp (p, c.u16_at-offset.ensures) at c.bytes-5.ensures in
    simp (
      c.no_message.ensures,
      c.u8_at-version.ensures,
      c.bytes.ensures,
      c.bytes-2.ensures,
      c.bytes-3.ensures,
      c.bytes-4.ensures,
      c.u8_at-masklen.ensures,
      p,
      c.u16_at-offset.ensures,
      prefixes_filled l _ _ _ few e,
    )

-- `setup::proposal` meets its contract. Assumes nothing.
use Rattle.std.proofs.Common.{◌≡◌, cond, eqb, eq-eqb, ne_eqb}
use Rattle.setup_read.specs.Places.{zeros, no_message}
use Rattle.setup.specs.Setup.{our_proposal}
use Rattle.setup.proofs.proposal.Goals as goal
use Rattle.setup.proofs.proposal.Goals.{then-s-eq0, else-s-eq0, then-s-eq0-2, else-s-eq0-2}

pub returns : goal.returns
unfolding our_proposal no_message
returns c =
    let s = c.args.s in
    let mask : c.if-s-eq0.mask ≡ cond (eqb s.count 0) s.mask (zeros 4) = elim c.if-s-eq0.branch [
      | then-s-eq0 w ↦ simp (w.mask-is, eq-eqb s.count 0 w.if-s-eq0.true)
      | else-s-eq0 w ↦ simp (w.mask-is, ne_eqb s.count 0 w.if-s-eq0.false)
    ] in
    let masklen : c.if-s-eq0-2.masklen ≡ cond (eqb s.count 0) s.masklen 0 = elim c.if-s-eq0-2.branch [
      | then-s-eq0-2 w ↦ simp (w.masklen-is, eq-eqb s.count 0 w.if-s-eq0-2.true)
      | else-s-eq0-2 w ↦ simp (w.masklen-is, ne_eqb s.count 0 w.if-s-eq0-2.false)
    ] in
    simp (c.no_message.ensures, mask, masklen, c.min.ensures)

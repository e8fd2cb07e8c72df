-- `cdc::decode` meets its contract, one return for each test that fails and one where all three hold. Assumes nothing.
use borrow.Author.Tests.{eq-eqb, ne_eqb}
use Rattle.cdc.specs.Cdc.{decode_of}
use Rattle.cdc.proofs.decode.Goals as goal

pub returns-then-s-ne44 : goal.returns-then-s-ne44
unfolding decode_of
returns-then-s-ne44 c = simp (ne_eqb _ _ c.if-s-ne44.true)

pub returns-then-s : goal.returns-then-s
unfolding decode_of
returns-then-s c = simp (eq-eqb _ _ c.if-s-ne44.false, ne_eqb _ _ c.if-s.true)

pub returns-then-s-ne44-2 : goal.returns-then-s-ne44-2
unfolding decode_of
returns-then-s-ne44-2 c =
    let b = c in
    simp (eq-eqb _ _ b.if-s-ne44.false, eq-eqb _ _ b.if-s.false, ne_eqb _ _ c.if-s-ne44-2.true)

pub returns : goal.returns
unfolding decode_of
returns c =
    let b = c in
    simp (eq-eqb _ _ b.if-s-ne44.false, eq-eqb _ _ b.if-s.false, eq-eqb _ _ b.if-s-ne44-2.false, c.fields.ensures)

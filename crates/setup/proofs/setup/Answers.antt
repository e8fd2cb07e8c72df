-- `setup::setup` meets its contract. Assumes nothing.
use Rattle.std.proofs.Common.{eq-eqb, ne_eqb}
use Rattle.setup.specs.Setup.{setup_of}
use Rattle.setup.proofs.Theorems.{due_some}
use Rattle.setup.proofs.setup.Goals as goal

pub returns-then-code_of-eq16 : goal.returns-then-code_of-eq16
unfolding setup_of
returns-then-code_of-eq16 c = simp (c.quiet.ensures, ← c.code_of.ensures, eq-eqb _ 16 c.if-code_of-eq16.true)

pub returns-in-None : goal.returns-in-None
unfolding setup_of
returns-in-None c =
    simp (
      c.in-None.is,
      c.say.ensures,
      c.proposal.ensures,
      c.plain.ensures,
      ← c.code_of.ensures,
      ne_eqb _ 16 c.if-code_of-eq16.false,
    )

pub returns-in-Some : goal.returns-in-Some
unfolding setup_of
returns-in-Some c = simp (c.in-Some.is, c.heard.ensures, c.read.ensures, ← c.code_of.ensures, ne_eqb _ 16 c.if-code_of-eq16.false, due_some c.in-Some.due)

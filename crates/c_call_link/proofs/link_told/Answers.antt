-- `c_call_link::link_told` meets its contract. Assumes nothing.
use borrow.Author.Tests.{eq-eqb, ne_eqb}
use Rattle.c_call_link.specs.FlatLink.{link_told}
use Rattle.c_call_link.proofs.link_told.Goals as goal

pub returns-then-said-eq-ACCEPTED : goal.returns-then-said-eq-ACCEPTED
unfolding link_told
returns-then-said-eq-ACCEPTED c =
    simp (c.accepted.ensures, ← c.said_number-said.ensures, ← c.from-links.ensures, eq-eqb _ _ c.if-said-eq-ACCEPTED.true)

pub returns-else-said-eq-ACCEPTED : goal.returns-else-said-eq-ACCEPTED
unfolding link_told
returns-else-said-eq-ACCEPTED c =
    simp (
      c.link_bare.ensures,
      ← c.refusal_number.ensures,
      ← c.said_number-said.ensures,
      ← c.from-links.ensures,
      ne_eqb _ _ c.if-said-eq-ACCEPTED.false,
    )

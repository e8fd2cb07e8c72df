-- `setup::answer_due` meets its contract. Assumes nothing.
use Rattle.setup.specs.Setup.{answered_of}
use Rattle.setup.proofs.answer_due.Goals as goal
use Rattle.setup.proofs.answer_due.Goals.{in_default-via-in-Accept+else-fits, in_default-via-in-Confirm+else-fits-2}

pub returns-in-Proposal : goal.returns-in-Proposal
unfolding answered_of
returns-in-Proposal c = simp (c.in-Proposal.is, c.say.ensures, c.endpoint.ensures, c.plain.ensures)

pub returns-in-Accept : goal.returns-in-Accept
unfolding answered_of
returns-in-Accept c =
    simp (
      c.in-Accept.is,
      ← c.taken-fits.ensures,
      c.if-fits.true,
      c.say-in-Accept.ensures,
      c.endpoint-in-Accept.ensures,
      c.opens.ensures,
    )

pub returns-in-Confirm : goal.returns-in-Confirm
unfolding answered_of
returns-in-Confirm c = simp (c.in-Confirm.is, ← c.taken-fits.ensures, c.if-fits-2.true, c.quiet.ensures, c.opens-in-Confirm.ensures)

pub returns-in_default : goal.returns-in_default
unfolding answered_of
returns-in_default c = elim c.in_default.branch [
  | in_default-via-in-Accept+else-fits w ↦ simp (
    w.in-Accept.is,
    ← c.taken-fits.ensures,
    w.if-fits.false,
    c.say-in_default.ensures,
    c.decline.ensures,
    c.declines.ensures,
  )
  | in_default-via-in-Confirm+else-fits-2 w ↦ simp (
    w.in-Confirm.is,
    ← c.taken-fits.ensures,
    w.if-fits-2.false,
    c.say-in_default.ensures,
    c.decline.ensures,
    c.declines.ensures,
  )
]

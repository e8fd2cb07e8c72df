-- `plan_hear::ruled` meets its contract. Assumes nothing.
use Rattle.plan_hear.specs.Hearing.{ruled_hearing}
use Rattle.plan_hear.proofs.ruled.Goals as goal

pub returns-then-ok : goal.returns-then-ok
unfolding ruled_hearing
returns-then-ok c =
    let b = c in
    simp (← b.consumer_ok.ensures, ← b.producer_ok.ensures, c.if-ok.true, c.accepted.ensures)

pub returns : goal.returns
unfolding ruled_hearing
returns c =
    let b = c in
    simp (← b.consumer_ok.ensures, ← b.producer_ok.ensures, c.if-ok.false, c.stays.ensures)

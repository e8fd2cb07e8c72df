-- `plan_finish::told` meets its contract. Assumes nothing.
use Rattle.plan_finish.specs.Finishing.{message_by}
use Rattle.plan_finish.proofs.told.Goals as goal

pub returns : goal.returns
unfolding message_by
returns c =
    let m = c in simp (← m.marks_to.ensures, ← m.message_of.ensures, c.encode-bytes.ensures)

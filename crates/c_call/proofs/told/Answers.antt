-- `c_call::told` meets its contract. Assumes nothing.
use Rattle.c_call.specs.Flat.{told_of}
use Rattle.c_call.proofs.told.Goals as goal

pub returns-in-Ok : goal.returns-in-Ok
unfolding told_of
returns-in-Ok c = simp (c.from.ensures, c.in-Ok.ensures.0)

pub returns-in-Err : goal.returns-in-Err
unfolding told_of
returns-in-Err c = simp (c.bare_answer.ensures, c.in-Err.ensures.0)

-- `c_call::command_of` meets its contract. Assumes nothing.
use Rattle.c_call.specs.Flat.{command_of}
use Rattle.c_call.proofs.command_of.Goals as goal

pub returns-in-Ok : goal.returns-in-Ok
unfolding command_of
returns-in-Ok c = simp (c.in-Ok.ensures.0, c.in-Ok.ensures.1)

pub returns-in-Err : goal.returns-in-Err
unfolding command_of
returns-in-Err c = simp c.in-Err.ensures.0

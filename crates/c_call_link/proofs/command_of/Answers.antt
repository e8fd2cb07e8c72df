-- `c_call_link::command_of` meets its contract. Assumes nothing.
use Rattle.c_call_link.specs.FlatLink.{link_command_of}
use Rattle.c_call_link.proofs.command_of.Goals as goal

pub returns-in-Ok : goal.returns-in-Ok
unfolding link_command_of
returns-in-Ok c = simp (c.in-Ok.ensures.0, c.in-Ok.ensures.1)

pub returns-in-Err : goal.returns-in-Err
unfolding link_command_of
returns-in-Err c = simp c.in-Err.ensures.0

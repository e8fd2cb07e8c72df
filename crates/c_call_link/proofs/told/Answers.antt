-- `c_call_link::told` meets its contract. Assumes nothing.
use Rattle.c_call_link.specs.FlatLink.{link_told_of}
use Rattle.c_call_link.proofs.told.Goals as goal

pub returns-in-Ok : goal.returns-in-Ok
unfolding link_told_of
returns-in-Ok c = simp (c.link_told.ensures, c.in-Ok.ensures.0, c.in-Ok.ensures.1)

pub returns-in-Err : goal.returns-in-Err
unfolding link_told_of
returns-in-Err c = simp (c.link_bare.ensures, c.in-Err.ensures.0)

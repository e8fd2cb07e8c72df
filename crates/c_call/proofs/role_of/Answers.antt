-- `c_call::role_of` meets its contract. Assumes nothing.
use Rattle.c_call.specs.Flat.{role_of}
use Rattle.c_call.proofs.role_of.Goals as goal

pub returns-then-server : goal.returns-then-server
unfolding role_of
returns-then-server c = simp c.if-server.true

pub returns-else-server : goal.returns-else-server
unfolding role_of
returns-else-server c = simp c.if-server.false

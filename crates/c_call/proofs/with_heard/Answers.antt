-- `c_call::with_heard` meets its contract. Assumes nothing.
use Rattle.c_call.proofs.with_heard.Goals as goal

pub returns : goal.returns
returns c = simp c.from-number.ensures

-- `c_call_link::kind_number` meets its contract. Assumes nothing.
use Rattle.c_call_link.specs.FlatLink.{kind_number}
use Rattle.c_call_link.proofs.kind_number.Goals as goal

pub returns-then-f : goal.returns-then-f
unfolding kind_number
returns-then-f c = simp (c.code_of-code.ensures, c.if-f.true)

pub returns-else-f : goal.returns-else-f
unfolding kind_number
returns-else-f c = simp c.if-f.false

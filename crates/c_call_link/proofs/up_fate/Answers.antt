-- `c_call_link::up_fate` meets its contract. Assumes nothing.
use Rattle.c_call_link.specs.FlatLink.{up_fate}
use Rattle.c_call_link.proofs.up_fate.Goals as goal

pub returns-then-up : goal.returns-then-up
unfolding up_fate
returns-then-up c = simp (c.fate_number-number.ensures, c.if-up.true)

pub returns-else-up : goal.returns-else-up
unfolding up_fate
returns-else-up c = simp c.if-up.false

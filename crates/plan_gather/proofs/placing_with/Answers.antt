-- `plan_gather::placing_with` meets its contract. Assumes nothing.
use Rattle.plan_gather.proofs.Laws.{with_first, with_second, with_last}
use Rattle.plan_gather.proofs.placing_with.Goals as goal

pub returns-then-k-a : goal.returns-then-k-a
returns-then-k-a c = with_first _ _ _ _ _ c.if-k-a.true

pub returns-then-k-a-2 : goal.returns-then-k-a-2
returns-then-k-a-2 c = with_second _ _ _ _ _ c.if-k-a.false c.if-k-a-2.true

pub returns : goal.returns
returns c = with_last _ _ _ _ _ c.if-k-a.false c.if-k-a-2.false

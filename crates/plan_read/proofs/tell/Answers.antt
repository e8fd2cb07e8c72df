-- `plan_read::tell` meets its contract. Assumes nothing.
use Rattle.plan_read.proofs.Steps.{told_parts, told_none}
use Rattle.plan_read.proofs.tell.Goals as goal

pub returns-then-t : goal.returns-then-t
returns-then-t c =
    let m = c in
    let x = m in
    told_parts _ _ _ _ _ _ x.if-t.true x.moved.ensures m.message_of.ensures c.encode-bytes.ensures

pub returns-else-t : goal.returns-else-t
returns-else-t c = told_none _ _ _ c.if-t.false

-- `plan_send::tell` meets its contract. Assumes nothing.
use Rattle.plan_send.proofs.TransmittedSteps.{told_parts, told_none}
use Rattle.plan_send.proofs.tell.Goals as goal

pub returns-then-t : goal.returns-then-t
returns-then-t c =
    let p = c in
    let m = p in
    let x = m in
    told_parts _ _ _ _ _ _ _ _ x.if-t.true x.moved.ensures m.message_of.ensures p.pending_if.ensures
    c.encode-bytes.ensures

pub returns-else-t : goal.returns-else-t
returns-else-t c = told_none _ _ _ _ c.if-t.false

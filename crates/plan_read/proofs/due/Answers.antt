-- `plan_read::due` meets its contract. Assumes nothing.
use Rattle.plan_read.proofs.Steps.{due_none, due_blocked, due_request, due_reached, due_update}
use Rattle.plan_read.proofs.due.Goals as goal

pub returns-then-k-eq0 : goal.returns-then-k-eq0
returns-then-k-eq0 c = due_none _ _ _ _ _ c.if-k-eq0.true

pub returns-then-i : goal.returns-then-i
returns-then-i c = due_blocked _ _ _ _ _ c.if-k-eq0.false c.if-i.true

pub returns-then-i-2 : goal.returns-then-i-2
returns-then-i-2 c =
    let b = c in
    due_request _ _ _ _ _ b.if-k-eq0.false b.if-i.false c.if-i-2.true

pub returns-then-reached : goal.returns-then-reached
returns-then-reached c =
    let r = c in
    let b = r in
    due_reached _ _ _ _ _ b.if-k-eq0.false b.if-i.false r.if-i-2.false c.if-reached.true

pub returns : goal.returns
returns c =
    let x = c in
    let r = x in
    let b = r in
    due_update _ _ _ _ _ _ b.if-k-eq0.false b.if-i.false r.if-i-2.false x.if-reached.false c.update_due.ensures

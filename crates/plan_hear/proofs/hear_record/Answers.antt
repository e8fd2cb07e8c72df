-- `plan_hear::hear_record` meets its contract. Assumes nothing.
use Rattle.plan_hear.proofs.Steps.{hear_before, hear_refused, hear_aborted, hear_waits, hear_validated, hear_ruled, hear_other}
use Rattle.plan_hear.proofs.hear_record.Goals as goal

pub returns-then-j-ne0 : goal.returns-then-j-ne0
returns-then-j-ne0 c = hear_before _ _ _ _ _ _ c.if-j-ne0.true c.stays.ensures

pub returns-then-no-ne0 : goal.returns-then-no-ne0
returns-then-no-ne0 c =
    let t = c in
    let n = t in
    let l = n in
    hear_refused _ _ _ _ _ _ l.if-j-ne0.false _ l.link_active-active.ensures _ n.refusal-no.ensures t.if-no-ne0.true
    c.stays-then-no-ne0.ensures

pub returns-then-abort : goal.returns-then-abort
returns-then-abort c =
    let a = c in
    let t = a in
    let n = t in
    let l = n in
    hear_aborted _ _ _ _ _ _ l.if-j-ne0.false _ l.link_active-active.ensures _ n.refusal-no.ensures t.if-no-ne0.false a.if-abort.true
    c.aborted.ensures

pub returns-then-rec : goal.returns-then-rec
returns-then-rec c =
    let s = c in
    let a = s in
    let t = a in
    let n = t in
    let l = n in
    hear_waits _ _ _ _ _ _ l.if-j-ne0.false _ l.link_active-active.ensures _ n.refusal-no.ensures t.if-no-ne0.false a.if-abort.false
    s.if-rec.true c.kept.ensures

pub returns-then-failover : goal.returns-then-failover
returns-then-failover c =
    let v = c in
    let s = v in
    let a = s in
    let t = a in
    let n = t in
    let l = n in
    hear_validated _ _ _ _ _ _ l.if-j-ne0.false _ l.link_active-active.ensures _ n.refusal-no.ensures t.if-no-ne0.false a.if-abort.false
    s.if-rec.false v.if-failover.true c.validated.ensures

pub returns-then-is_next : goal.returns-then-is_next
returns-then-is_next c =
    let x = c in
    let v = x in
    let s = v in
    let a = s in
    let t = a in
    let n = t in
    let l = n in
    hear_ruled _ _ _ _ _ _ l.if-j-ne0.false _ l.link_active-active.ensures _ n.refusal-no.ensures t.if-no-ne0.false a.if-abort.false
    s.if-rec.false v.if-failover.false _ x.is_next.ensures c.if-is_next.true c.ruled.ensures

pub returns : goal.returns
returns c =
    let x = c in
    let v = x in
    let s = v in
    let a = s in
    let t = a in
    let n = t in
    let l = n in
    hear_other _ _ _ _ _ _ l.if-j-ne0.false _ l.link_active-active.ensures _ n.refusal-no.ensures t.if-no-ne0.false a.if-abort.false
    s.if-rec.false v.if-failover.false _ x.is_next.ensures c.if-is_next.false c.stays-2.ensures

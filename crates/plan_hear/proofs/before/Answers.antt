-- `plan_hear::before` meets its contract. Assumes nothing.
use Rattle.plan_hear.proofs.Steps.{before_unsized, before_bad, before_none, before_some}
use Rattle.plan_hear.proofs.before.Goals as goal

pub returns-then-not-sizes_ok : goal.returns-then-not-sizes_ok
returns-then-not-sizes_ok c =
    let y = c in
    before_unsized _ _ _ _ _ _ _ y.sizes_ok.ensures c.if-not-sizes_ok.true

pub returns-then-not-p : goal.returns-then-not-p
returns-then-not-p c =
    let t = c in
    before_bad _ _ _ _ _ _ _ t.sizes_ok.ensures t.if-not-sizes_ok.false c.if-not-p.true

pub returns-then-slot-eq0 : goal.returns-then-slot-eq0
returns-then-slot-eq0 c =
    let g = c in
    let t = g in
    before_none _ _ _ _ _ _ _ t.sizes_ok.ensures t.if-not-sizes_ok.false g.if-not-p.false c.if-slot-eq0.true

pub returns-else-slot-eq0 : goal.returns-else-slot-eq0
returns-else-slot-eq0 c =
    let g = c in
    let t = g in
    before_some _ _ _ _ _ _ _ t.sizes_ok.ensures t.if-not-sizes_ok.false g.if-not-p.false c.if-slot-eq0.false

-- `c_place::may_place` meets its contract. Assumes nothing.
use native.Mathlib.Omega.{arith}
use Rattle.conn_receive.proofs.Laws.{may_none, may_before, may_past, may_free}
use Rattle.c_place.proofs.may_place.Goals as goal

pub returns-then-len-eq0 : goal.returns-then-len-eq0
returns-then-len-eq0 c = may_none _ _ _ _ c.if-len-eq0.true

pub returns-then-at-lt4 : goal.returns-then-at-lt4
returns-then-at-lt4 c = may_before _ _ _ _ c.if-len-eq0.false (omega arith)

pub returns-then-n-at : goal.returns-then-n-at
returns-then-n-at c = may_past _ _ _ _ c.if-len-eq0.false (omega arith) (omega arith)

pub returns-then-n-at-2 : goal.returns-then-n-at-2
returns-then-n-at-2 c =
    let e = c in
    may_past _ _ _ _ e.if-len-eq0.false (omega arith) (omega arith)

pub returns : goal.returns
returns c =
    let w = c in
    let d = w in
    let e = d in
    may_free _ _ _ _ _ _ _ e.if-len-eq0.false (omega arith) (omega arith) d.data_size-d.ensures w.window-w.ensures.0
    c.all_free.ensures

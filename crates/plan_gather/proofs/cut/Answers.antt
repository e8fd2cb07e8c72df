-- `plan_gather::cut` meets its contract. Assumes nothing.
use mathlib.Core.Path.{refl}
use Rattle.plan_gather.proofs.Laws.{cut_head, cut_body}
use Rattle.plan_gather.proofs.cut.Goals as goal

pub returns-then-k-head : goal.returns-then-k-head
returns-then-k-head c =
    let w = c in
    let b = w in
    let l = b in
    cut_head _ _ _ _ _ _ _ l.saturating_sub-ahead.ensures l.saturating_sub-left.ensures b.in_buffer-len.ensures refl c.if-k-head.true

pub returns : goal.returns
returns c =
    let w = c in
    let b = w in
    let l = b in
    cut_body _ _ _ _ _ _ _ l.saturating_sub-ahead.ensures l.saturating_sub-left.ensures b.in_buffer-len.ensures refl c.if-k-head.false

-- `plan::link_active` meets its contract. Assumes nothing.
use mathlib.Core.Path.{sym}
use native.Mathlib.Omega.{arith}
use Rattle.group_table.proofs.Laws.{link_low, link_in_lem, link_out}
use Rattle.plan.proofs.Laws.{states_length}
use Rattle.plan.proofs.link_active.Goals as goal

pub returns-then-link-lt1 : goal.returns-then-link-lt1
returns-then-link-lt1 c = sym (link_low c.args.links.active c.args.link c.if-link-lt1.true)

pub returns-then-link-gt-MOST_LINK : goal.returns-then-link-gt-MOST_LINK
returns-then-link-gt-MOST_LINK c =
    let b = c in
    let l = states_length b.args.links _ b.well_formed.0 in
    sym (link_out b.args.links.active b.args.link (omega arith))

pub returns : goal.returns
returns c =
    let b = c in
    sym (link_in_lem b.args.links.active b.args.link (omega arith))

-- `flow::update_due` meets its contract. Assumes nothing.
use Rattle.flow.specs.Flow.{update_due}
use Rattle.flow.proofs.update_due.Goals as goal

pub returns : goal.returns
unfolding update_due
returns c =
    let g = c in
    let w = g in
    simp (c.small.ensures, c.large.ensures, ← w.data_size-d.ensures, ← w.window-w.ensures.0, ← g.gap-g.ensures.0)

-- `link_message::reduce` meets its contract. Assumes nothing.
use Rattle.link_message.proofs.Adding.{filled_to}
use Rattle.link_message.specs.Layouts.{table_of, count_of, reduced}
use mathlib.Core.Path.{◌≡◌}
use Rattle.link_message.proofs.reduce.Given as goal

abbrev pub invariant-loop-i : goal.invariant-loop-i
invariant-loop-i l = (l.i-end ≡ count_of l.kind) × (l.values ≡ filled_to (reduced (table_of l.kind) l.vs) l.i)

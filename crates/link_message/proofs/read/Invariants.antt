-- `link_message::read` meets its contract. Assumes nothing.
use Rattle.link_message.proofs.Adding.{filled_to}
use Rattle.link_message.specs.Layouts.{table_of, count_of, values_in}
use mathlib.Core.Path.{◌≡◌}
use Rattle.link_message.proofs.read.Given as goal

abbrev pub invariant-loop-i : goal.invariant-loop-i
invariant-loop-i l = (l.i-end ≡ count_of l.kind) × (l.values ≡ filled_to (values_in (table_of l.kind) l.s) l.i)

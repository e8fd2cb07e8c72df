-- `link_message::write` meets its contract. Assumes nothing.
use Rattle.link_message.specs.Layouts.{count_of, encode_of}
use lib.ListN.{take}
use mathlib.Core.Path.{◌≡◌}
use Rattle.link_message.proofs.write.Given as goal

abbrev pub invariant-loop-i : goal.invariant-loop-i
invariant-loop-i l = (l.i-end ≡ count_of l.kind) × (l.out ≡ encode_of l.kind (take l.i l.vs))

-- `text_link::values_in` meets its contract. The loop's invariant: the values below k are read. Assumes nothing.
use Rattle.std.proofs.Common.{◌≡◌, ℕ, ◌*◌, ◌<◌, get_or, length}
use Rattle.layout.specs.Layout.{number_at}
use Rattle.text_link.proofs.values_in.Given as goal

abbrev pub invariant-loop-k : goal.invariant-loop-k
invariant-loop-k l = (length l.values ≡ 12) × ((j : ℕ) → j < l.k → get_or l.values j 0 ≡ number_at l.b (8 * j) 8)

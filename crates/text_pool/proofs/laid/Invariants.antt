-- `text_pool::laid` meets its contract. The loop's invariant: the bytes below k are laid. Assumes nothing.
use Rattle.std.proofs.Common.{◌≡◌, ℕ, ◌<◌, get_or, length}
use Rattle.text_pool.proofs.laid.Given as goal

abbrev pub invariant-loop-k : goal.invariant-loop-k
invariant-loop-k l = (length l.books ≡ 64) × ((j : ℕ) → j < l.k → get_or l.books j 0 ≡ get_or l.given j 0)

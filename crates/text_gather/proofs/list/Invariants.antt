-- `text_gather::list` is safe and ends: each piece before the empty one leaves fewer bytes of n. Assumes nothing.
use Rattle.std.proofs.Common.{◌-◌, ◌≤◌}
use Rattle.text_gather.proofs.list.Given as goal

abbrev pub invariant-loop-len : goal.invariant-loop-len
invariant-loop-len l = (l.len ≤ l.n - l.k) × (l.k ≤ l.n)

abbrev pub decreases-loop-len : goal.decreases-loop-len
decreases-loop-len l = l.n - l.k

-- `plan_finish::has_unread` meets its contract. Assumes nothing.
use mathlib.Core.Path.{ap}
use Prim.Native.Nat.{ℕ}
use lib.Dec.{ltb}
use Rattle.conn_receive.proofs.Laws.{unread_is}
use Rattle.plan_finish.proofs.has_unread.Goals as goal

pub returns : goal.returns
returns c = ap (λ (k : ℕ). ltb 0 k) (unread_is _ _ _ _ c.data_size-d.ensures c.gap.ensures.0)

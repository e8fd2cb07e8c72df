-- When a send tells. Assumes nothing.
use mathlib.Core.Path.{◌≡◌}
use mathlib.Core.Bool.{true}
use Prim.Native.Nat.{ℕ, ◌<◌}
use borrow.Author.Tests.{lt-ltb}
use Rattle.conn_record.specs.declared.Record.{Record}
use Rattle.conn_send.specs.Produced.{tells_of}

-- where bytes are taken a message is made
pub tells_some : (rec : Record) (k len : ℕ) → 0 < k → tells_of rec k len ≡ true
unfolding tells_of
tells_some rec k len h = simp (lt-ltb 0 k h)

-- `plan_send::tells` meets its contract. Assumes nothing.
use Rattle.std.proofs.Common.{refl}
use Rattle.plan_send.specs.Transmitting.{tells_in}
use Rattle.plan_send.proofs.tells.Goals as goal

pub returns : goal.returns
unfolding tells_in
returns c = refl

-- `group_calls::View::shutdown` meets its contract. Assumes nothing.
use mathlib.Core.Path.{refl}
use Rattle.group_rules.specs.Rules.{Request}
use Rattle.group_rules.proofs.Settled.{on_shown_plain}
use Rattle.group_calls.proofs.EndingLaws.{shutdown_turn}
use Rattle.group_calls.proofs.View.shutdown.Goals as goal

pub returns : goal.returns
returns c =
    let a = c.args in
    let v = a.self.now in
    on_shown_plain v.s v.n a.mem.now v.count v.links a.slot Request.shutdown v.rec _ refl c.active.result c.active.ensures c.shutdown-o.result
    c.settled.result c.settled.ensures (shutdown_turn _ _ _ _ _ c.shutdown-o.ensures)

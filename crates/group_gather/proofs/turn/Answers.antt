-- `group_gather::turn` meets its contract. Assumes nothing.
use mathlib.Core.Path.{refl}
use mathlib.Core.List.{◌++◌}
use Rattle.group_rules.specs.Rules.{send}
use Rattle.group_rules.proofs.Settled.{on_shown_plain}
use Rattle.group_gather.proofs.Laws.{joined_turn}
use Rattle.group_gather.proofs.turn.Goals as goal

pub returns : goal.returns
returns c =
    let a = c.args in
    let v = a.view.now in
    on_shown_plain v.s v.n a.mem.now v.count v.links a.slot (send (a.head.now ++ a.body.now)) v.rec _ refl
    c.active.result c.active.ensures c.send-o.result c.settled.result c.settled.ensures
    (joined_turn _ _ _ _ a.head.now a.body.now _ c.send-o.ensures)

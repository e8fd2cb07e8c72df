-- `group_calls::View::send` meets its contract. Assumes nothing.
use mathlib.Core.Path.{refl}
use Rattle.group_rules.specs.Rules.{Request}
use Rattle.group_rules.proofs.Settled.{on_shown_plain}
use Rattle.group_calls.proofs.SendingLaws.{send_turn_lem}
use Rattle.group_calls.proofs.View.send.Goals as goal

pub returns : goal.returns
returns c =
    let a = c.args in
    let v = a.self.now in
    on_shown_plain v.s v.n a.mem.now v.count v.links a.slot (Request.send a.bytes.now) v.rec _ refl c.active.result c.active.ensures c.send-o.result
    c.settled.result c.settled.ensures (send_turn_lem _ _ _ _ _ a.bytes.now c.send-o.ensures)

-- `plan_send::sent` meets its contract. Assumes nothing.
use Rattle.plan_send.proofs.Steps.{sent_parts}
use Rattle.plan_send.proofs.sent.Goals as goal

pub returns : goal.returns
returns c =
    let r = c in
    let t = r in
    let s = t in
    sent_parts _ _ _ _ _ _ _ _ s.taken-k.ensures s.step-moved.ensures t.tells-made.ensures r.rtoken_of-t.ensures c.named-said.ensures

-- `group_link::work_on` meets its contract. Assumes nothing.
use mathlib.Core.Bool.{cond}
use mathlib.Core.Path.{ap, ◌∙◌}
use Rattle.group_link.proofs.Laws.{change_work, message_work_lem, send_work}
use Rattle.group_link.proofs.work_on.Goals as goal

pub returns-in-Change : goal.returns-in-Change
returns-in-Change c =
    change_work _ _ _ _ c.in-Change.is _ c.change.ensures _ (c.refusal_if-no.ensures ∙ ap (λ b. cond b 0 13) c.link_ok.ensures) _
    c.bare.ensures

pub returns-in-Message : goal.returns-in-Message
returns-in-Message c = message_work_lem _ _ _ _ c.in-Message.is _ c.message-h.ensures

pub returns-in-Send : goal.returns-in-Send
returns-in-Send c = send_work _ _ _ _ c.in-Send.is _ c.send-s.ensures _ c.bare-in-Send.ensures

-- `c_send::send` meets its contract. Assumes nothing.
use mathlib.Core.Path.{sym, ap, ◌∙◌}
use Rattle.plan.proofs.Laws.{was_none, was_some}
use Rattle.plan_send.specs.Transmitting.{unsent_answer}
use Rattle.c_send.proofs.Laws.{send_made, send_refused}
use Rattle.c_send.proofs.send.Goals as goal

pub returns-in-Some : goal.returns-in-Some
returns-in-Some c =
    let j = was_some _ _ (sym c.in-Some.ensures) in
    send_refused _ _ _ _ _ c.args.links _ _ _ j.1 _ (c.refused.ensures ∙ ap unsent_answer j.0)

pub returns-in-None : goal.returns-in-None
returns-in-None c = send_made _ _ _ _ _ c.args.links _ _ _ (was_none _ (sym c.in-None.ensures)) _ _ _ c.send_on.ensures

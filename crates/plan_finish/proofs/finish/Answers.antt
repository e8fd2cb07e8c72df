-- `plan_finish::finish` meets its contract. Assumes nothing.
use mathlib.Core.Path.{refl, sym, ap, ◌∙◌}
use Rattle.plan.proofs.Laws.{was_none, was_some}
use Rattle.plan_finish.specs.Finishing.{silently}
use Rattle.plan_finish.proofs.Laws.{all_refused, all_planned}
use Rattle.plan_finish.proofs.finish.Goals as goal

pub returns-in-Some : goal.returns-in-Some
returns-in-Some c =
    let j = was_some _ _ (sym c.in-Some.ensures) in
    all_refused _ _ _ _ _ c.args.links _ _ j.0 (λ z. j.1 (sym j.0 ∙ z)) _ (c.silent.ensures ∙ ap silently c.refused.ensures)

pub returns-in-None : goal.returns-in-None
returns-in-None c = all_planned _ _ _ _ _ c.args.links _ _ refl (was_none _ (sym c.in-None.ensures)) _ _ c.finish_on.ensures

-- `plan::held` meets its contract. Assumes nothing.
use mathlib.Core.Path.{sym, ap, ◌∙◌}
use native.Mathlib.Omega.{arith}
use Rattle.plan.specs.Direct.{refusal_in}
use Rattle.plan.proofs.Laws.{held_is, held_none, refusal_some}
use Rattle.plan.proofs.held.Goals as goal

pub returns-then-not-slot_ok-rec : goal.returns-then-not-slot_ok-rec
returns-then-not-slot_ok-rec c =
    ap refusal_in (held_none _ _ _ _ _ c.slot_ok.ensures c.if-not-slot_ok-rec.true)

pub returns-in-0 : goal.returns-in-0
returns-in-0 c =
    ap refusal_in
    (sym c.in-0.is ∙ held_is _ _ _ _ _ c.slot_ok.ensures c.if-not-slot_ok-rec.false c.link_active.ensures c.refusal.ensures)

pub returns-in_default : goal.returns-in_default
returns-in_default c =
    refusal_some _ (omega (arith, c.in_default))
    ∙ ap refusal_in (held_is _ _ _ _ _ c.slot_ok.ensures c.if-not-slot_ok-rec.false c.link_active.ensures c.refusal.ensures)

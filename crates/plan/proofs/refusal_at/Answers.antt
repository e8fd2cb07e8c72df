-- `plan::refusal_at` meets its contract. Assumes nothing.
use mathlib.Core.Path.{ap, ◌∙◌}
use Rattle.conn_record.specs.declared.Record.{Record}
use Rattle.plan.specs.Direct.{held_of, refusal_in}
use Rattle.plan.proofs.Laws.{sized, unsized}
use Rattle.plan.proofs.refusal_at.Goals as goal

pub returns-then-not-sizes_ok : goal.returns-then-not-sizes_ok
returns-then-not-sizes_ok c = ap refusal_in (unsized _ _ _ _ _ _ c.sizes_ok.ensures c.if-not-sizes_ok.true)

pub returns : goal.returns
returns c =
    c.held.ensures
    ∙ ap (λ (x : Record). refusal_in (held_of c.args.s c.args.n c.args.links.active c.args.slot x)) c.record_at-rec.ensures
    ∙ ap refusal_in (sized _ _ _ _ _ _ c.sizes_ok.ensures c.if-not-sizes_ok.false)

-- `plan_finish::finish_on` meets its contract. Assumes nothing.
use mathlib.Core.Path.{◌≡◌, refl, ap, ◌∙◌}
use Rattle.conn_record.specs.declared.Record.{Record}
use Rattle.plan_finish.specs.Finishing.{plan_of, telling}
use Rattle.plan_finish.proofs.Laws.{on_refused, on_told}
use Rattle.plan_finish.proofs.finish_on.Goals as goal

pub returns-then-t-gt0 : goal.returns-then-t-gt0
returns-then-t-gt0 c =
    on_refused _ _ _ _ _ (c.plan-t.ensures ∙ ap (plan_of c.args.what c.args.n) c.record_at.ensures) _ refl c.if-t-gt0.true _ c.silent.ensures

pub returns : goal.returns
returns c =
    on_told _ _ _ _ _ (c.plan-t.ensures ∙ ap (plan_of c.args.what c.args.n) c.record_at.ensures) _ refl c.if-t-gt0.false _
    (c.told-f.ensures ∙ ap (λ (x : Record). telling x c.plan-t.result) c.record_at-2.ensures) _ refl _ c.leave.ensures

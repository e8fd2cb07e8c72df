-- `group_desk::open` meets its contract. Assumes nothing.
use Prim.Native.Nat.{ℕ}
use mathlib.Core.Bool.{false}
use mathlib.Core.Path.{refl, ap, ◌∙◌}
use Rattle.element.specs.Element.{cleared_of}
use Rattle.conn_answer.specs.declared.Reply.TheVariants.{Accepted}
use Rattle.conn_answer.specs.Outcome.{outcome_of}
use Rattle.group_desk.proofs.OpeningLaws.{open_shown}
use Rattle.group_desk.proofs.open.Goals as goal

pub returns-then-no-eq0 : goal.returns-then-no-eq0
returns-then-no-eq0 c =
    let a = c.args in
    let v = a.view.now in
    open_shown v.s v.n a.mem.now v.count v.links a.slot v.rec c.outcome_of-o.result c.settled-d.result
    c.open_refusal-no.result c.settled-d.ensures a.holder a.given c.open_refusal-no.ensures
    (c.outcome_of-o.ensures ∙ ap (outcome_of Accepted false) c.opened_record-after.ensures) _
    (λ z. c.clear.ensures ∙ ap (λ (x : ℕ). cleared_of a.mem.now x v.n) c.base_of-base.ensures)
    (λ h. absurd (h c.if-no-eq0.true))

pub returns-else-no-eq0 : goal.returns-else-no-eq0
returns-else-no-eq0 c =
    let a = c.args in
    let v = a.view.now in
    open_shown v.s v.n a.mem.now v.count v.links a.slot v.rec c.outcome_of-o.result c.settled-d.result
    c.open_refusal-no.result c.settled-d.ensures a.holder a.given c.open_refusal-no.ensures
    (c.outcome_of-o.ensures ∙ ap (outcome_of Accepted false) c.opened_record-after.ensures) _ (λ z. absurd (c.if-no-eq0.false z)) (λ h. refl)

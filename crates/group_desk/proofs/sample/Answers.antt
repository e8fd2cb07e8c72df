-- `group_desk::sample` meets its contract. Assumes nothing.
use mathlib.Core.Path.{◌∙◌}
use Rattle.group_desk.specs.Linkstate.{health_by}
use Rattle.group_desk.proofs.LinkstateLaws.{sample_refused, sampled_is, sample_did}
use Rattle.group_desk.proofs.sample.Goals as goal

pub returns-then-no-eq0 : goal.returns-then-no-eq0
returns-then-no-eq0 c =
    let h = c in
    let n = h in
    let s = n in
    let q = s in
    let o = q in
    let a = o.args in
    λ g e.
    let is = sampled_is a.links g e a.link a.ms o.sample_refusal-no.result o.sample_refusal-no.ensures c.health_answer.result
    q.if-no-eq0.true q.gauge_of.result s.sampled-after.result q.gauge_of.ensures s.sampled-after.ensures in
    sample_did a.links g e a.link a.ms o.sample_refusal-no.result o.sample_refusal-no.ensures c.health_answer.result
    q.if-no-eq0.true s.sampled-after.result is
    (c.health_answer.ensures ∙ (λ i. health_by (h.health_of.ensures i) (n.set_gauge-next.ensures i)))

pub returns-else-no-eq0 : goal.returns-else-no-eq0
returns-else-no-eq0 c =
    let o = c in
    let a = o.args in
    λ g e.
    sample_refused a.links g e a.link a.ms o.sample_refusal-no.result o.sample_refusal-no.ensures c.refuse.result
    c.if-no-eq0.false c.refuse.ensures

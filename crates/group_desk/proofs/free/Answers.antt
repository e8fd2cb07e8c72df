-- `group_desk::free` meets its contract. Assumes nothing.
use mathlib.Core.Bool.{false}
use mathlib.Core.Path.{ap, ◌∙◌}
use Rattle.conn_answer.specs.declared.Reply.TheVariants.{Accepted}
use Rattle.conn_answer.specs.Outcome.{outcome_of}
use Rattle.group_desk.proofs.OpeningLaws.{free_shown}
use Rattle.group_desk.proofs.free.Goals as goal

pub returns : goal.returns
returns c =
    let a = c.args in
    let v = a.view.now in
    free_shown v.s v.n a.mem.now v.count v.links a.slot v.rec c.outcome_of-o.result c.settled.result
    c.free_refusal-no.result c.settled.ensures c.free_refusal-no.ensures
    (c.outcome_of-o.ensures ∙ ap (outcome_of Accepted false) c.zero_record-z.ensures)

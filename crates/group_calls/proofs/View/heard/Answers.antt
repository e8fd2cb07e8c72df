-- `group_calls::View::heard` meets its contract. Assumes nothing.
use Rattle.group_calls.specs.Calls.{heard_by}
use Rattle.group_calls.proofs.View.heard.Goals as goal

pub returns : goal.returns
unfolding heard_by
returns c = simp (c.settled.ensures, c.refusal_if-no.ensures, c.hear-o.ensures, c.active.ensures)

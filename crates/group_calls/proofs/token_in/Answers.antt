-- `group_calls::token_in` meets its contract. Assumes nothing.
use mathlib.Core.Path.{sym, ap, ◌∙◌}
use Rattle.group_calls.specs.Calls.{token_in, token_is}
use Rattle.group_calls.proofs.token_in.Goals as goal

pub returns-in-Good : goal.returns-in-Good
unfolding token_in
returns-in-Good c = ap token_is (sym c.in-Good.is ∙ c.decode.ensures)

pub returns-in-Malformed : goal.returns-in-Malformed
unfolding token_in
returns-in-Malformed c = ap token_is (sym c.in-Malformed.is ∙ c.decode.ensures)

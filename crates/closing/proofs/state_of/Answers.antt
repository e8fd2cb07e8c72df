-- `closing::state_of` meets its contract: the table's number names the state.
-- Assumes nothing.
use mathlib.Core.Path.{◌∙◌, ap, sym}
use Rattle.closing.specs.Closing.{state_at}
use Rattle.closing.proofs.Laws.{state_back, state_aborted, state_unaborted}
use Rattle.closing.proofs.state_of.Goals as goal

pub returns-then-m : goal.returns-then-m
returns-then-m c = sym (state_aborted _ c.if-m.true)

pub returns-else-m : goal.returns-else-m
returns-else-m c =
    c.named.ensures ∙ ap state_at c.number.ensures ∙ state_back _
    ∙ sym (state_unaborted _ c.if-m.false)

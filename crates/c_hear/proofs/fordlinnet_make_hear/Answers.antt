-- `c_hear::fordlinnet_make_hear` meets its contract. Assumes nothing.
use mathlib.Core.Path.{ap, ◌∙◌}
use native.Mathlib.Omega.{arith}
use Rattle.group_table.specs.Table.{holder_in}
use Rattle.c_hear.proofs.Laws.{heard_ok, heard_err}
use Rattle.c_hear.proofs.fordlinnet_make_hear.Goals as goal

pub returns-in-0 : goal.returns-in-0
returns-in-0 c =
    heard_ok _ _ _ _ c.args.links _ _ _ c.parse-heard.ensures _
    (c.find-slot.ensures ∙ ap (holder_in c.args.table.now) c.token_of.ensures) _ c.before-2.ensures c.in-0.is _ _ _ c.hear_on.ensures

pub returns-in_default : goal.returns-in_default
returns-in_default c =
    heard_err _ _ _ _ c.args.links _ _ _ c.parse-heard.ensures _
    (c.find-slot.ensures ∙ ap (holder_in c.args.table.now) c.token_of.ensures) _ c.before-2.ensures (omega (arith, c.in_default)) _ c.refused.ensures

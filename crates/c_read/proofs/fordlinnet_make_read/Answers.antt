-- `c_read::fordlinnet_make_read` meets its contract, by its laws. Assumes nothing.
use mathlib.Core.Path.{sym, ap, ◌∙◌, subst}
use Rattle.group_table.specs.declared.Links.{Links}
use Rattle.group_rules.specs.Rules.{group_of}
use Rattle.plan.specs.DirectMade.{InEveryGroup}
use Rattle.plan.proofs.Laws.{was_none, was_some}
use Rattle.plan_read.specs.declared.ReadAnswer.{ReadAnswer}
use Rattle.plan_read.specs.Reading.{refused_answer}
use Rattle.c_read.proofs.Laws.{read_made, refused_made}
use Rattle.c_read.proofs.fordlinnet_make_read.Goals as goal

pub returns-in-Some : goal.returns-in-Some
returns-in-Some c =
    let j = was_some _ _ (sym c.in-Some.ensures) in
    refused_made _ _ _ _ c.args.links _ _ _ j.1 _ (c.refused.ensures ∙ ap refused_answer j.0)

pub returns-in-None : goal.returns-in-None
returns-in-None c =
    read_made _ _ _ _ c.args.links _ _ _ (was_none _ (sym c.in-None.ensures)) _ _ _ _ c.read_on.ensures

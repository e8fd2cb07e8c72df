-- `plan_hear::parse` meets its contract. Assumes nothing.
use mathlib.Core.Path.{ap, ◌∙◌}
use Rattle.plan_hear.specs.declared.Parsed.{Parsed}
use Rattle.cdc.specs.declared.Message.{Message}
use mathlib.Core.Bool.{false}
use Rattle.plan_hear.specs.Hearing.{parsed_of, parsed_in}
use Rattle.plan_hear.proofs.parse.Goals as goal

pub returns-in-Good : goal.returns-in-Good
unfolding parsed_in
returns-in-Good c = ap parsed_of c.in-Good.ensures

pub returns-in-Malformed : goal.returns-in-Malformed
unfolding parsed_in
returns-in-Malformed c =
    ap (λ (x : Message). let p : Parsed = record { good = false; message = x } in p) c.no_message.ensures
    ∙ ap parsed_of c.in-Malformed.ensures

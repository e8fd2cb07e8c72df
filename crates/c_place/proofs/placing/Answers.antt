-- `c_place::placing` meets its contract. Assumes nothing.
use mathlib.Core.Path.{refl, sym, ap, ◌∙◌}
use Rattle.conn_receive.specs.Receive.{place_forbids}
use Rattle.plan.specs.Direct.{refusal_in}
use Rattle.c_place.proofs.Steps.{placing_forbidden, placing_may, placing_not}
use Rattle.c_place.proofs.placing.Goals as goal

pub returns-then-rec : goal.returns-then-rec
unfolding place_forbids
returns-then-rec c = ap refusal_in (placing_forbidden _ _ _ _ _ refl c.if-rec.true)

pub returns-then-may_place : goal.returns-then-may_place
unfolding place_forbids
returns-then-may_place c =
    ap refusal_in (placing_may _ _ _ _ _ refl c.if-rec.false (sym c.may_place.ensures ∙ c.if-may_place.true))

pub returns-else-may_place : goal.returns-else-may_place
unfolding place_forbids
returns-else-may_place c =
    ap refusal_in (placing_not _ _ _ _ _ refl c.if-rec.false (sym c.may_place.ensures ∙ c.if-may_place.false))

-- `plan_hear::accepted` meets its contract. Assumes nothing.
use mathlib.Core.Path.{◌≡◌}
use mathlib.Core.Bool.{Bool, ◌&&◌}
use lib.Dec.{eqb}
use Rattle.cursor.specs.declared.Cursor.{Cursor}
use Rattle.cursor.specs.Cursor.{same_b}
use Rattle.plan_hear.proofs.Steps.{accepted_parts}
use Rattle.plan_hear.proofs.accepted.Goals as goal

-- what the derived `==` answers
equal : (a b : Cursor) (t : Bool) → t ≡ (eqb a.offset b.offset && eqb a.wrap b.wrap) → t ≡ same_b a b
unfolding same_b
equal a b t e = e

pub returns : goal.returns
returns c =
    accepted_parts _ _ _ _ _ _ _ _ _ c.moved_by-moved.ensures c.marks_heard-marks.ensures c.state_of.ensures
    c.from-state.ensures c.reached-passed.ensures
    (equal c.args.rec.inbound.told c.args.rec.inbound.consumer _ c.eq-same.ensures)

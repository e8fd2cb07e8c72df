-- `c_place::store` meets its contract. Assumes nothing.
use mathlib.Core.Path.{refl, ap, ◌∙◌}
use lib.ListN.{length}
use Rattle.group_calls.proofs.Bytes.{stored_length}
use Rattle.c_place.proofs.Steps.{place_fits, stored_parts}
use Rattle.c_place.proofs.store.Goals as goal

pub overflow_add-from : goal.overflow_add-from
overflow_add-from c =
    let f = c.ranges in
    record { fits = place_fits _ _ _ _ f.n.fits f.slot.fits f.offset.fits c.base_of.ensures }

pub shape_of-mem : goal.shape_of-mem
shape_of-mem c = ap length c.store.ensures ∙ stored_length _ _ _

pub returns : goal.returns
returns c = stored_parts _ _ _ _ _ _ _ _ refl c.base_of.ensures c.store.ensures

-- `c_shapes::answer` meets its contract: each float is the one of its bit pattern. Assumes nothing.
use mathlib.Core.Path.{refl}
use lib.Ieee.{of_bits, of_int}
use Rattle.c_shapes.proofs.answer.Goals as goal

pub returns : goal.returns
unfolding of_bits of_int
returns c = simp c.links_from-links.ensures refl

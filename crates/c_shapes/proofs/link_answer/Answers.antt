-- `c_shapes::link_answer` meets its contract. Assumes nothing.
use Rattle.c_shapes.proofs.link_answer.Goals as goal

pub returns : goal.returns
returns c = simp (c.links_from-links.ensures, c.values.ensures, c.values-2.ensures)

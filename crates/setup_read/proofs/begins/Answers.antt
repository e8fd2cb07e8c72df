-- `setup_read::begins` meets its contract. Assumes nothing.
use Rattle.setup_read.specs.Clc.{begins_b}
use Rattle.setup_read.proofs.begins.Goals as goal

pub returns : goal.returns
unfolding begins_b
returns c = let b = c in
    simp (c.eye_at.ensures, b.u8_at-kind.ensures, c.u8_at.ensures, c.u16_at.ensures)

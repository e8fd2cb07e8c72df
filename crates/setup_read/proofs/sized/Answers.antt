-- `setup_read::sized` meets its contract. Assumes nothing.
use Rattle.std.proofs.Common.{ne_eqb, arith}
use Rattle.setup_read.specs.Clc.{sized_b}
use Rattle.setup_read.proofs.sized.Goals as goal

pub returns-in-4 : goal.returns-in-4
unfolding sized_b
returns-in-4 c = simp (← c.u8_at.ensures, c.in-4.is)

pub returns-in-1 : goal.returns-in-1
unfolding sized_b
returns-in-1 c = simp (c.u8_at-p.ensures, c.u16_at-o.ensures, ← c.u8_at.ensures, c.in-1.is)

pub returns-in_default : goal.returns-in_default
unfolding sized_b
returns-in_default c =
    let t = c.u8_at.result in
    simp (← c.u8_at.ensures, ne_eqb t 4 (λ e. absurd (omega (arith, e))), ne_eqb t 1 (λ e. absurd (omega (arith, e))))

-- `c_setup::due_of` meets its contract. Assumes nothing.
use Rattle.std.proofs.Common.{ne_eqb, arith}
use Rattle.c_setup.specs.FlatSetup.{due_of}
use Rattle.c_setup.proofs.due_of.Goals as goal

pub returns-in-1 : goal.returns-in-1
unfolding due_of
returns-in-1 c = simp c.in-1.is

pub returns-in-2 : goal.returns-in-2
unfolding due_of
returns-in-2 c = simp c.in-2.is

pub returns-in-3 : goal.returns-in-3
unfolding due_of
returns-in-3 c = simp c.in-3.is

pub returns-in_default : goal.returns-in_default
unfolding due_of
returns-in_default c =
    let k = c.args.k in
    simp (
      ne_eqb k 1 (λ e. absurd (omega (arith, e))),
      ne_eqb k 2 (λ e. absurd (omega (arith, e))),
      ne_eqb k 3 (λ e. absurd (omega (arith, e))),
    )

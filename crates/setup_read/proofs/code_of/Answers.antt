-- `setup_read::code_of` meets its contract. Assumes nothing.
use Rattle.std.proofs.Common.{ne_eqb, arith}
use Rattle.setup_read.specs.Codes.{code_of}
use Rattle.setup_read.proofs.code_of.Goals as goal

pub returns-in-16384 : goal.returns-in-16384
unfolding code_of
returns-in-16384 c = simp c.in-16384.is

pub returns-in-32768 : goal.returns-in-32768
unfolding code_of
returns-in-32768 c = simp c.in-32768.is

pub returns-in-65536 : goal.returns-in-65536
unfolding code_of
returns-in-65536 c = simp c.in-65536.is

pub returns-in-131072 : goal.returns-in-131072
unfolding code_of
returns-in-131072 c = simp c.in-131072.is

pub returns-in-262144 : goal.returns-in-262144
unfolding code_of
returns-in-262144 c = simp c.in-262144.is

pub returns-in-524288 : goal.returns-in-524288
unfolding code_of
returns-in-524288 c = simp c.in-524288.is

pub returns-in_default : goal.returns-in_default
unfolding code_of
returns-in_default c =
    let n = c.args.n in
    simp (
      ne_eqb n 16384 (λ e. absurd (omega (arith, e))),
      ne_eqb n 32768 (λ e. absurd (omega (arith, e))),
      ne_eqb n 65536 (λ e. absurd (omega (arith, e))),
      ne_eqb n 131072 (λ e. absurd (omega (arith, e))),
      ne_eqb n 262144 (λ e. absurd (omega (arith, e))),
      ne_eqb n 524288 (λ e. absurd (omega (arith, e))),
    )

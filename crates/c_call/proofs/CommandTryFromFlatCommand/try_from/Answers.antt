-- `try_from` of a command meets its contract: the tests are the definition's, one after the other. Assumes nothing.
use Rattle.std.proofs.Common.{refl, arith}
use Rattle.c_call.specs.Flat.{known_b, named_of}
use Rattle.c_call.proofs.Laws.{none_of, known_range}
use Rattle.c_call.proofs.CommandTryFromFlatCommand.try_from.Goals as goal

pub returns-in-1 : goal.returns-in-1
unfolding known_b named_of
returns-in-1 c = (simp c.in-1.is, simp c.in-1.is)

pub returns-in-2 : goal.returns-in-2
unfolding known_b named_of
returns-in-2 c = (simp c.in-2.is, simp c.in-2.is)

pub returns-in-4 : goal.returns-in-4
unfolding known_b named_of
returns-in-4 c = (simp c.in-4.is, simp c.in-4.is)

pub returns-in-5 : goal.returns-in-5
unfolding known_b named_of
returns-in-5 c = (simp c.in-5.is, simp c.in-5.is)

pub returns-in-6 : goal.returns-in-6
unfolding known_b named_of
returns-in-6 c = (simp c.in-6.is, simp c.in-6.is)

pub returns-in-7 : goal.returns-in-7
unfolding known_b named_of
returns-in-7 c = (simp c.in-7.is, simp c.in-7.is)

pub returns-in-8 : goal.returns-in-8
unfolding known_b named_of
returns-in-8 c = (simp c.in-8.is, simp c.in-8.is)

pub returns-in-9 : goal.returns-in-9
unfolding known_b named_of
returns-in-9 c = (simp c.in-9.is, simp c.in-9.is)

pub returns-in-10 : goal.returns-in-10
unfolding known_b named_of
returns-in-10 c = (simp c.in-10.is, simp c.in-10.is)

pub returns-in-11 : goal.returns-in-11
unfolding known_b named_of
returns-in-11 c = (simp c.in-11.is, simp c.in-11.is)

pub returns-in-12 : goal.returns-in-12
unfolding known_b named_of
returns-in-12 c = (simp c.in-12.is, simp c.in-12.is)

pub returns-in_default : goal.returns-in_default
returns-in_default c =
    let q = c.args.q in
    (none_of q (λ k. let r = known_range q k in absurd (r.2 (omega (arith, r.0, r.1)))), refl)

-- `pool::is_place` meets its contract: each arm is what the tests before it pick. Assumes nothing.
use borrow.Author.Tests.{ne_eqb}
use native.Mathlib.Nat.{mod-one}
use native.Mathlib.Omega.{arith}
use Rattle.pool.specs.Pool.{size_b}
use Rattle.pool.specs.Steps.{place_b}
use Rattle.pool.proofs.is_place.Goals as goal

pub returns-in-1 : goal.returns-in-1
unfolding place_b size_b
returns-in-1 c = rw (c.in-1.is, mod-one)

pub returns-in-2 : goal.returns-in-2
unfolding place_b size_b
returns-in-2 c = rw c.in-2.is

pub returns-in-4 : goal.returns-in-4
unfolding place_b size_b
returns-in-4 c = rw c.in-4.is

pub returns-in-8 : goal.returns-in-8
unfolding place_b size_b
returns-in-8 c = rw c.in-8.is

pub returns-in-16 : goal.returns-in-16
unfolding place_b size_b
returns-in-16 c = rw c.in-16.is

pub returns-in-32 : goal.returns-in-32
unfolding place_b size_b
returns-in-32 c = rw c.in-32.is

pub returns-in-64 : goal.returns-in-64
unfolding place_b size_b
returns-in-64 c = rw c.in-64.is

pub returns-in_default : goal.returns-in_default
unfolding place_b size_b
returns-in_default c =
    let n = c.args.size in
    simp (
      ne_eqb n 1 (λ e. omega arith),
      ne_eqb n 2 (λ e. omega arith),
      ne_eqb n 4 (λ e. omega arith),
      ne_eqb n 8 (λ e. omega arith),
      ne_eqb n 16 (λ e. omega arith),
      ne_eqb n 32 (λ e. omega arith),
      ne_eqb n 64 (λ e. omega arith),
    )

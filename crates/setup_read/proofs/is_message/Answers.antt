-- `setup_read::is_message` meets its contract. Assumes nothing.
use Rattle.setup_read.proofs.Reading.{begins_long}
use Rattle.setup_read.specs.Clc.{message_b}
use mathlib.Core.Path.{sym, ◌∙◌}
use native.Mathlib.Omega.{arith}
use Rattle.setup_read.proofs.is_message.Goals as goal

pub overflow_sub-s : goal.overflow_sub-s
overflow_sub-s c =
    let l = c.args.s.now in
    omega (arith, begins_long l (sym c.begins.ensures ∙ c.if-begins.true))

pub returns-then-begins : goal.returns-then-begins
unfolding message_b
returns-then-begins c = let b = c in
    simp (c.sized.ensures, c.eye_at.ensures, ← b.begins.ensures, c.if-begins.true)

pub returns-else-begins : goal.returns-else-begins
unfolding message_b
returns-else-begins c = simp (← c.begins.ensures, c.if-begins.false)

-- `cursor::lead` meets its contract: at most 65,535 turns of d bytes and an offset fit 49 bits. Assumes nothing.
use native.Mathlib.Nat.{mul-le-mul_right}
use native.Mathlib.Omega.{arith}
use Rattle.cursor.specs.Cursor.{lead_of}
use Rattle.cursor.proofs.lead.Goals as goal

pub overflow_mul-result : goal.overflow_mul-result
overflow_mul-result c = omega (arith, mul-le-mul_right {m = c.turns.result} {n = 65535} c.args.d (omega arith))

pub overflow_add-result : goal.overflow_add-result
overflow_add-result c =
    omega (arith, mul-le-mul_right {m = c.turns.result} {n = 65535} c.args.d (omega arith))

pub returns : goal.returns
unfolding lead_of
returns c =
    let t = c.turns in
    (simp t.ensures, omega (arith, mul-le-mul_right {m = t.result} {n = 65535} c.args.d (omega arith)))

-- `link_message::low` meets its contract. Assumes nothing.
use Rattle.std.proofs.Common.{◌≡◌, ◌*◌, ◌%◌, ◌^◌, ◌≤◌, sym, arith}
use native.Mathlib.Nat.{mod-eq_of_lt}
use lib.Pow.{pow_mono}
use Rattle.std.proofs.lemmas.Nat.{and_mask}
use Rattle.link_message.proofs.low.Goals as goal

pub returns-then-bits-lt64 : goal.returns-then-bits-lt64
returns-then-bits-lt64 c =
    let b = c.args.bits in
    let p : 2 ^ b ≤ 2 ^ 63 = pow_mono {i = b} {j = 63} (omega arith) in
    let e : 1 * 2 ^ b % 18446744073709551616 ≡ 2 ^ b = omega (arith, p) in
    rw e (and_mask c.args.x b)

pub returns-else-bits-lt64 : goal.returns-else-bits-lt64
returns-else-bits-lt64 c =
    let a = c.args in
    let h : 64 ≤ a.bits = omega arith in
    sym (mod-eq_of_lt (omega (arith, pow_mono h)))

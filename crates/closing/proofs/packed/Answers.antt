-- `closing::packed` meets its contract.
-- Assumes nothing.
use Rattle.std.proofs.Common.{◌≡◌, ℕ, ◌+◌, ◌*◌, ◌<◌, Bool, true, false, cond, sym, subst, arith}
use Rattle.std.specs.Int.{from_bool}
use Rattle.closing.specs.declared.Marks.{Marks}
use Rattle.closing.specs.Closing.{packed_of}
use Rattle.closing.proofs.Table.{packed_below}
use Rattle.closing.proofs.packed.Goals as goal

weight : (b : Bool) (w n : ℕ) → n ≡ from_bool b → n * w ≡ cond b w 0
weight true w n e = grind arith
weight false w n e = grind arith

sum : (m : Marks) (a b c d e : ℕ) → a ≡ from_bool m.sent.done → b ≡ from_bool m.sent.closed → c ≡ from_bool m.heard.done
    → d ≡ from_bool m.heard.closed → e ≡ from_bool m.first → a * 16 + b * 8 + c * 4 + d * 2 + e ≡ packed_of m
unfolding packed_of
sum m a b c d e p q r s t =
    omega (arith, weight m.sent.done 16 a p, weight m.sent.closed 8 b q, weight m.heard.done 4 c r, weight m.heard.closed 2 d s, weight m.first 1 e t)

pub returns : goal.returns
returns c =
    let e = sum c.args.m _ _ _ _ _ c.from.ensures c.from-2.ensures c.from-3.ensures c.from-4.ensures c.from-5.ensures in
    (e, subst (λ (n : ℕ). n < 32) (sym e) (packed_below c.args.m))

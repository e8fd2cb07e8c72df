-- `cdc::cursor_at` meets its contract. Assumes nothing.
use Rattle.std.proofs.Common.{◌≡◌, ℕ, ◌+◌, ◌∙◌, List, arith}
use Rattle.cdc.specs.Cdc.{cursor_of, num2, num4, joined, at}
use Rattle.cdc.proofs.cursor_at.Goals as goal

offset_of : (l : List ℕ) (i : ℕ) → joined (at l (i + 2)) (at l (i + 3)) (at l (i + 4)) (at l (i + 5)) ≡ num4 l (i + 2)
unfolding num4
offset_of l i =
    let a : i + 3 ≡ i + 2 + 1 = omega arith in
    let b : i + 4 ≡ i + 2 + 2 = omega arith in
    let c : i + 5 ≡ i + 2 + 3 = omega arith in
    simp (a, b, c)

pub returns : goal.returns
unfolding cursor_of num2
returns c =
    let e = c.from_be_bytes.ensures ∙ offset_of c.args.s.now c.args.i in
    λ i. record { offset = e i; wrap = c.from_be_bytes-2.ensures i }

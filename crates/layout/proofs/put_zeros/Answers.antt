-- `layout::put_zeros` meets its contract. Assumes nothing.
use Rattle.layout.proofs.Places.{laid_mid, laid_out}
use borrow.Rule.Slice.PartMut.{mid_len}
use native.Mathlib.Nat.{add-sub_cancel_left}
use native.Mathlib.Omega.{arith}
use Prim.Native.Nat.{ℕ, ◌+◌, ◌≤◌}
use mathlib.Core.Path.{sym, ap, ◌∙◌}
use lib.ListN.{length, replicate, length-replicate}
use Rattle.layout.proofs.put_zeros.Goals as goal

pub returns-then-at-out : goal.returns-then-at-out
returns-then-at-out c =
    let o = c.args.out.now in
    let at = c.args.at in
    let n = c.args.n in
    let inside : at + n ≤ length o = omega arith in
    laid_mid _ _ (replicate n 0) at n
    (c.fill.ensures.after (λ y e. e) ∙ ap (λ (k : ℕ). replicate k 0) (mid_len at (at + n) o inside ∙ add-sub_cancel_left at n))
    (sym (length-replicate n 0)) inside

pub returns-else-n-out : goal.returns-else-n-out
returns-else-n-out c = sym (laid_out _ (replicate c.args.n 0) _ (grind (arith, length-replicate {A = ℕ} c.args.n 0)))

-- `element::read` meets its contract. Assumes nothing.
use Rattle.element.specs.Element.{part, unread}
use Rattle.element.proofs.Calls.{read_in_lem, read_out}
use native.Mathlib.Nat.{add-sub_cancel_left}
use native.Mathlib.Omega.{arith}
use Prim.Native.Nat.{ℕ}
use mathlib.Core.Path.{sym, ap, ◌∙◌}
use mathlib.Core.List.{List, ◌++◌}
use lib.ListN.{length, take, drop}
use lib.Seq.{length-take-le}
use Rattle.element.proofs.read.Goals as goal

pub returns-then-count-size : goal.returns-then-count-size
unfolding part
returns-then-count-size c =
    let m = c.args.mem.now in
    let o = c.args.out.now in
    let n = c.args.count in
    let at = c.args.offset in
    ap (λ (l : List ℕ). l ++ drop n o)
    (c.read_ring.ensures
    ∙ ap (λ (k : ℕ). unread (take k (drop c.args.base m)) at (length (take n o))) (add-sub_cancel_left c.args.base c.args.size)
    ∙ ap (λ (k : ℕ). unread (part m c.args.base c.args.size) at k) (length-take-le n o (omega arith)))
    ∙ sym (read_in_lem _ _ _ _ _ _
    (record { inside = omega arith; most = omega arith; low = omega arith; high = omega arith; room = omega arith; count = omega arith }))

pub returns-else-base-len : goal.returns-else-base-len
returns-else-base-len c = sym (read_out _ _ _ _ _ _ (λ h. grind arith))

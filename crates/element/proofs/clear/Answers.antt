-- `element::clear` meets its contract. Assumes nothing.
use native.Mathlib.Nat.{add-sub_cancel_left}
use borrow.Rule.Slice.PartMut.{mid_of, mid_len}
use Rattle.element.specs.Element.{fresh_element}
use Rattle.element.proofs.Laws.{put_mid_lem}
use Rattle.element.proofs.Calls.{cleared_in_lem, cleared_out}
use Rattle.element.proofs.Others.{fresh_length}
use native.Mathlib.Omega.{arith}
use Prim.Native.Nat.{ℕ, ◌+◌, ◌-◌, ◌≤◌}
use mathlib.Core.Path.{◌≡◌, sym, ap, ◌∙◌}
use lib.ListN.{length}
use Rattle.element.proofs.clear.Goals as goal

pub returns-then-size-ge4 : goal.returns-then-size-ge4
returns-then-size-ge4 c =
    let m = c.args.mem.now in
    let base = c.args.base in
    let size = c.args.size in
    let inside : base + size ≤ length m = omega arith in
    let four : 4 ≤ size = omega arith in
    let n : length (mid_of base (base + size - base) m) ≡ size = mid_len base (base + size) m inside ∙ add-sub_cancel_left base size in
    put_mid_lem m c.fresh.new.el (fresh_element size) base (base + size)
    (c.fresh.ensures ∙ ap fresh_element n)
    (ap (λ (x : ℕ). base + x) (sym (fresh_length size four)))
    ∙ sym (cleared_in_lem m base size inside four)

pub returns-else-base-len : goal.returns-else-base-len
returns-else-base-len c = sym (cleared_out _ _ _ (λ h. grind arith))

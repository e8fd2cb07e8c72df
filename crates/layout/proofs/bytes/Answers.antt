-- `layout::bytes` meets its contract. Assumes nothing.
use native.Mathlib.Nat.{add-sub_cancel_left}
use native.Mathlib.Omega.{arith}
use Prim.Native.Nat.{ℕ, ◌-◌}
use mathlib.Core.Path.{◌≡◌, ap, ◌∙◌}
use mathlib.Core.List.{List, ◌++◌}
use lib.ListN.{length, take, drop, replicate, length-drop}
use lib.Seq.{length-take-le}
use Rattle.layout.proofs.Places.{halves, bytes_and_zeros}
use Rattle.layout.proofs.bytes.Goals as goal

pub returns : goal.returns
returns c =
    let s = c.args.s.now in
    let o = c.args.out.now in
    let f = c.min-from.result in
    let n = c.min-n.result in
    let q : c.copy_from_slice.new.self ≡ take n (drop f s) =
    c.copy_from_slice.ensures.after ∙ ap (λ (k : ℕ). take k (drop f s)) (add-sub_cancel_left f n) in
    let l : length c.copy_from_slice.new.self ≡ n = ap length q ∙ length-take-le n (drop f s) (omega (arith, length-drop f s)) in
    halves c.copy_from_slice.new.self o c.fill.new.self n l (omega arith) (c.fill.ensures.after (λ y e. e))
    ∙ ap (λ (t : List ℕ). t ++ replicate (length o - n) 0) q
    ∙ bytes_and_zeros s c.args.at f n (length o) c.min-from.ensures c.min-n.ensures (λ i. (c.type_inv.s i).fits)

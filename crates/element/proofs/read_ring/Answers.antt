-- `element::read_ring` meets its contract: a run up to the element's end, or that and one from 4. Assumes nothing.
use native.Mathlib.Nat.{add-sub_cancel_left}
use native.Mathlib.Omega.{arith}
use Prim.Native.Nat.{ℕ, ◌-◌}
use mathlib.Core.Path.{◌≡◌, refl, ap, ◌∙◌}
use mathlib.Core.List.{List, ◌++◌}
use lib.ListN.{length, take, drop, length-drop}
use Rattle.std.proofs.lemmas.List.{take_all}
use Rattle.element.proofs.Laws.{straight, wrapped, two_parts}
use Rattle.element.proofs.read_ring.Goals as goal

pub returns-then-count-room : goal.returns-then-count-room
returns-then-count-room c =
    let e = c.args.el.now in
    let off = c.args.offset in
    c.copy.ensures
    ∙ ap (λ (k : ℕ). take k (drop off e)) (add-sub_cancel_left off (length c.args.out.now))
    ∙ straight e off (length c.args.out.now) (omega arith)

pub returns-else-count-room : goal.returns-else-count-room
returns-else-count-room c =
    let e = c.args.el.now in
    let o = c.args.out.now in
    let off = c.args.offset in
    let room = length e - off in
    let p = c.copy-else-count-room.new.dst in
    let q = c.copy-else-count-room-2.new.dst in
    let p-is : p ≡ drop off e = c.copy-else-count-room.ensures ∙ take_all room (drop off e) (omega (arith, length-drop off e)) in
    let q-is : q ≡ take (length o - room) (drop 4 e) =
    c.copy-else-count-room-2.ensures ∙ ap (λ (k : ℕ). take k (drop 4 e)) (add-sub_cancel_left 4 (length o - room)) in
    let p-len : length p ≡ room = ap length p-is ∙ length-drop off e in
    two_parts o p q room p-len (omega arith)
    ∙ ap (λ (l : List ℕ). l ++ q) p-is
    ∙ ap (λ (l : List ℕ). drop off e ++ l) q-is
    ∙ wrapped e off (length o) (length o - room) (omega arith) (omega arith) (omega arith) refl (omega arith)

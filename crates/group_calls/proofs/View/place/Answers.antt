-- `group_calls::View::place` meets its contract. Assumes nothing.
use Prim.Native.Nat.{ℕ, ◌+◌}
use mathlib.Core.Path.{refl, sym, ap, ◌∙◌}
use native.Mathlib.Omega.{arith}
use lib.ListN.{length}
use Rattle.element.specs.Element.{stored_of}
use Rattle.group_calls.proofs.Bytes.{stored_length}
use Rattle.group_calls.proofs.ReceivingLaws.{place_base, place_stores, place_keeps, stores_found}
use Rattle.group_calls.proofs.View.place.Goals as goal

pub overflow_add-at : goal.overflow_add-at
overflow_add-at c =
    let a = c.args in
    let v = a.self.now in
    let z = stores_found _ v.links v.rec c.place-o.result c.settled-placed.result c.settled-placed.ensures (sym c.stores.ensures ∙ c.if-stores.true) in
    let h = place_base v.s v.n a.mem.now v.count a.slot v.rec _ refl z in
    omega (arith, h, c.base_of.ensures, c.ranges.offset)

pub shape_of-mem : goal.shape_of-mem
shape_of-mem c = ap length c.store.ensures ∙ stored_length _ _ _

pub returns-then-stores : goal.returns-then-stores
returns-then-stores c =
    let a = c.args in
    let v = a.self.now in
    place_stores v.s v.n a.mem.now v.count v.links a.slot a.offset a.bytes.now v.rec _ refl c.active.result c.active.ensures
    c.place-o.result c.place-o.ensures c.settled-placed.result c.settled-placed.ensures _ (sym c.stores.ensures ∙ c.if-stores.true)
    (c.store.ensures ∙ ap (λ (x : ℕ). stored_of a.mem.now (x + a.offset) a.bytes.now) c.base_of.ensures)

pub returns-else-stores : goal.returns-else-stores
returns-else-stores c =
    let a = c.args in
    let v = a.self.now in
    place_keeps v.s v.n a.mem.now v.count v.links a.slot a.offset a.bytes.now v.rec _ refl c.active.result c.active.ensures
    c.place-o.result c.place-o.ensures c.settled-placed.result c.settled-placed.ensures _ (sym c.stores.ensures ∙ c.if-stores.false) refl

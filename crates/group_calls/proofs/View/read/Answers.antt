-- `group_calls::View::read` meets its contract. Assumes nothing.
use Prim.Native.Nat.{ℕ}
use mathlib.Core.Path.{refl, ap, ◌∙◌}
use Rattle.element.specs.Element.{intact_at, read_of}
use Rattle.group_calls.proofs.ReceivingLaws.{reads}
use Rattle.group_calls.proofs.View.read.Goals as goal

pub returns : goal.returns
returns c =
    let a = c.args in
    let v = a.self.now in
    reads v.s v.n a.mem.now v.count v.links a.slot a.out.now v.rec _ refl c.active.result c.active.ensures
    c.intact-whole.result (c.intact-whole.ensures ∙ ap (intact_at _) c.base_of-base.ensures)
    c.read-o.result c.read-o.ensures c.settled-d.result c.settled-d.ensures c.copied.result c.copied.ensures _
    (c.read.ensures
    ∙ ap (λ (x : ℕ). read_of a.mem.now x v.n v.rec.inbound.consumer.offset c.copied.result a.out.now) c.base_of-base.ensures)

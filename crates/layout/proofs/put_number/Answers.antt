-- `layout::put_number` meets its contract. Assumes nothing.
use Rattle.layout.proofs.Places.{low_bytes}
use Rattle.layout.specs.Layout.{laid_at}
use Prim.Native.Nat.{ℕ, ◌-◌}
use mathlib.Core.Path.{ap, ◌∙◌}
use mathlib.Core.List.{List}
use lib.ListN.{take, drop}
use Rattle.layout.proofs.put_number.Goals as goal

pub returns : goal.returns
returns c =
    let k = 8 - c.min.result in
    c.put_bytes.ensures
    ∙ ap (laid_at c.args.out.now c.args.at)
    (ap (λ (b : List ℕ). take (8 - k) (drop k b)) c.to_be_bytes-b.ensures
    ∙ low_bytes c.args.n c.args.x k (ap (λ (m : ℕ). 8 - m) c.min.ensures))

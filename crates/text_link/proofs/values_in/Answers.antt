-- `text_link::values_in` meets its contract. Assumes nothing.
use Rattle.std.proofs.Common.{ℕ, ◌*◌, arith}
use Rattle.std.proofs.lemmas.List.FromFn.{fill_by_all}
use Rattle.layout.specs.Layout.{number_at}
use Rattle.text_link.proofs.values_in.Goals as goal

pub returns : goal.returns
returns c =
    fill_by_all (λ (k : ℕ). number_at c.args.b.now (8 * k) 8) _ 12 0 c.loop-k.invariant.0
    (λ k x. c.loop-k.invariant.1 k (omega arith))

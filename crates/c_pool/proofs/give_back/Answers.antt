-- `c_pool::give_back` meets its contract: what the pool's call did, flat. Assumes nothing.
use mathlib.Core.Path.{◌∙◌}
use Rattle.c_pool.specs.FlatPool.{flat_of}
use Rattle.c_pool.proofs.give_back.Goals as goal

pub returns : goal.returns
returns c =
    let d = c.give_back.ensures in
    record { answered = c.from.ensures ∙ (λ i. flat_of (d.answered i) (d.left i)) }

-- `link_calls::copy_of` meets its contract. Assumes nothing.
use Rattle.link_calls.proofs.Laws.{whole_bytes}
use native.Mathlib.Omega.{arith}
use mathlib.Core.Path.{◌∙◌}
use Rattle.link_calls.proofs.copy_of.Goals as goal

pub returns : goal.returns
returns c =
    c.bytes.ensures ∙ whole_bytes c.args.s.now (λ i. omega (arith, c.shared_slice_known-1.given i)) c.requires

-- `closing::closed_sent` meets its contract.
-- Assumes nothing.
use mathlib.Core.Bool.{true}
use Rattle.closing.specs.Closing.{closed_sent}
use Rattle.closing.proofs.closed_sent.Goals as goal

pub returns : goal.returns
unfolding closed_sent
returns c =
    let m = c.args.m in
    λ i.
    record { sent = record { done = m.sent.done; closed = true }; heard = m.heard; first = c.ours_first-first.ensures i; abort = m.abort }

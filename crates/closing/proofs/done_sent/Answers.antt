-- `closing::done_sent` meets its contract.
-- Assumes nothing.
use mathlib.Core.Bool.{true}
use Rattle.closing.specs.Closing.{done_sent}
use Rattle.closing.proofs.done_sent.Goals as goal

pub returns : goal.returns
unfolding done_sent
returns c =
    let m = c.args.m in
    λ i.
    record { sent = record { done = true; closed = m.sent.closed }; heard = m.heard; first = c.ours_first-first.ensures i; abort = m.abort }

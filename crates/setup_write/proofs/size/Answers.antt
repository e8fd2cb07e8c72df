-- `setup_write::size` meets its contract. Assumes nothing.
use Rattle.std.proofs.Common.{◌∙◌, ap, Some, true, false}
use Rattle.setup_read.specs.declared.Kind.{Kind}
use Rattle.setup_write.proofs.Fits.{proposal_fit, endpoint_fit, decline_fit, nothing_fit, size_is}
use Rattle.setup_write.proofs.Known.{known}
use Rattle.setup_write.proofs.Written.{endpoint}
use Rattle.setup_write.proofs.size.Goals as goal

pub returns-in_err-m : goal.returns-in_err-m
returns-in_err-m c = simp (c.from_residual.ensures, nothing_fit c.args.m c.in_err-m.was)

pub returns-then-low-m : goal.returns-then-low-m
returns-then-low-m c =
    let f = proposal_fit c.args.m (known c.args.m _ c.well_formed.0) (c.in_ok-m.was ∙ ap (λ (k : Kind). Some k) c.in-Proposal.is) in
    size_is _ _ true _ f.0 f.1 c.if-low-m.true

pub returns-else-low-m : goal.returns-else-low-m
returns-else-low-m c =
    let f = proposal_fit c.args.m (known c.args.m _ c.well_formed.0) (c.in_ok-m.was ∙ ap (λ (k : Kind). Some k) c.in-Proposal.is) in
    size_is _ _ false _ f.0 f.1 c.if-low-m.false

pub returns-then-low-high : goal.returns-then-low-high
returns-then-low-high c =
    let f = endpoint_fit c.args.m (known c.args.m _ c.well_formed.0) (endpoint c.in_ok-m.was c.in-Accept.is) in
    size_is _ _ true _ f.0 f.1 c.if-low-high.true

pub returns-else-low-high : goal.returns-else-low-high
returns-else-low-high c =
    let f = endpoint_fit c.args.m (known c.args.m _ c.well_formed.0) (endpoint c.in_ok-m.was c.in-Accept.is) in
    size_is _ _ false _ f.0 f.1 c.if-low-high.false

pub returns-then-low-high-2 : goal.returns-then-low-high-2
returns-then-low-high-2 c =
    let f = decline_fit c.args.m (known c.args.m _ c.well_formed.0) (c.in_ok-m.was ∙ ap (λ (k : Kind). Some k) c.in-Decline.is) in
    size_is _ _ true _ f.0 f.1 c.if-low-high-2.true

pub returns-else-low-high-2 : goal.returns-else-low-high-2
returns-else-low-high-2 c =
    let f = decline_fit c.args.m (known c.args.m _ c.well_formed.0) (c.in_ok-m.was ∙ ap (λ (k : Kind). Some k) c.in-Decline.is) in
    size_is _ _ false _ f.0 f.1 c.if-low-high-2.false

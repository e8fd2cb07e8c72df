-- `setup_write::write` meets its contract. Assumes nothing.
use Rattle.std.proofs.Common.{◌∙◌, sym, ap, Some, arith}
use Rattle.setup_read.specs.declared.Kind.{Kind}
use Rattle.setup_write.proofs.Fits.{nothing_fit}
use Rattle.setup_write.proofs.Known.{known}
use Rattle.setup_write.proofs.Written.{endpoint, sizeless, unfit, short, ready, after_head, declined, proposal_long, networks_room, proposed, endpoint_long, rmb_room, answered}
use Rattle.setup_write.proofs.write.Goals as goal

pub returns-in_default : goal.returns-in_default
returns-in_default c = unfit c.args.m c.args.out.now (nothing_fit c.args.m c.in_default.is)

pub returns-in_default-size : goal.returns-in_default-size
returns-in_default-size c = unfit c.args.m c.args.out.now (sizeless c.args.m (sym c.size.ensures ∙ c.in_default-size.is))

pub returns-then-out-n : goal.returns-then-out-n
returns-then-out-n c = short c.args.m c.args.out.now _ (sym c.size.ensures ∙ c.in-Some-size.is) c.if-out-n.true

pub put_head-requires : goal.put_head-requires
put_head-requires c =
    let m = c.args.m in
    let y = ready m c.args.out.now _ (known m _ c.well_formed.0) (sym c.size.ensures ∙ c.in-Some-size.is) c.if-out-n.false in
    omega (arith, y.least, y.room)

pub put_port-requires : goal.put_port-requires
put_port-requires c =
    let m = c.args.m in
    let y = ready m c.args.out.now _ (known m _ c.well_formed.0) (sym c.size.ensures ∙ c.in-Some-size.is) c.if-out-n.false in
    let a = c.in-Some.is ∙ ap (λ (k : Kind). Some k) c.in-Proposal.is in
    let h = c.put_head.ensures in
    omega (arith, y.room, after_head y _ h, proposal_long y _ h a)

pub put_networks-requires : goal.put_networks-requires
put_networks-requires c =
    let m = c.args.m in
    let y = ready m c.args.out.now _ (known m _ c.well_formed.0) (sym c.size.ensures ∙ c.in-Some-size.is) c.if-out-n.false in
    let a = c.in-Some.is ∙ ap (λ (k : Kind). Some k) c.in-Proposal.is in
    networks_room y _ c.put_head.ensures a _ c.put_port.ensures

pub put_port-requires-in-Accept : goal.put_port-requires-in-Accept
put_port-requires-in-Accept c =
    let m = c.args.m in
    let y = ready m c.args.out.now _ (known m _ c.well_formed.0) (sym c.size.ensures ∙ c.in-Some-size.is) c.if-out-n.false in
    let a = endpoint c.in-Some.is c.in-Accept.is in
    let h = c.put_head.ensures in
    omega (arith, y.room, after_head y _ h, endpoint_long y _ h a)

pub put_rmb-requires : goal.put_rmb-requires
put_rmb-requires c =
    let m = c.args.m in
    let y = ready m c.args.out.now _ (known m _ c.well_formed.0) (sym c.size.ensures ∙ c.in-Some-size.is) c.if-out-n.false in
    let a = endpoint c.in-Some.is c.in-Accept.is in
    rmb_room y _ c.put_head.ensures a _ c.put_port-in-Accept.ensures

pub put_diagnosis-requires : goal.put_diagnosis-requires
put_diagnosis-requires c =
    let m = c.args.m in
    let y = ready m c.args.out.now _ (known m _ c.well_formed.0) (sym c.size.ensures ∙ c.in-Some-size.is) c.if-out-n.false in
    omega (arith, y.least, y.room, after_head y _ c.put_head.ensures)

pub returns-in-Proposal : goal.returns-in-Proposal
returns-in-Proposal c =
    let m = c.args.m in
    let y = ready m c.args.out.now _ (known m _ c.well_formed.0) (sym c.size.ensures ∙ c.in-Some-size.is) c.if-out-n.false in
    let a = c.in-Some.is ∙ ap (λ (k : Kind). Some k) c.in-Proposal.is in
    (proposed y _ c.put_head.ensures a _ c.put_port.ensures _ c.put_networks.ensures).0

pub returns-in-Accept : goal.returns-in-Accept
returns-in-Accept c =
    let m = c.args.m in
    let y = ready m c.args.out.now _ (known m _ c.well_formed.0) (sym c.size.ensures ∙ c.in-Some-size.is) c.if-out-n.false in
    let a = endpoint c.in-Some.is c.in-Accept.is in
    (answered y _ c.put_head.ensures a _ c.put_port-in-Accept.ensures _ c.put_rmb.ensures).0

pub returns-in-Decline : goal.returns-in-Decline
returns-in-Decline c =
    let m = c.args.m in
    let y = ready m c.args.out.now _ (known m _ c.well_formed.0) (sym c.size.ensures ∙ c.in-Some-size.is) c.if-out-n.false in
    let a = c.in-Some.is ∙ ap (λ (k : Kind). Some k) c.in-Decline.is in
    (declined y _ c.put_head.ensures _ a c.put_diagnosis.ensures).0

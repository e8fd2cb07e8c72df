-- `plan_send::send_record` meets its contract. Assumes nothing.
use Rattle.conn_send.specs.Produced.{send_forbids, waits_b}
use Rattle.plan_send.proofs.Steps.{send_forbidden, send_waits, send_sent}
use Rattle.plan_send.proofs.send_record.Goals as goal

pub returns-then-m : goal.returns-then-m
unfolding send_forbids
returns-then-m c = send_forbidden _ _ _ _ c.if-m.true c.nothing.ensures

pub returns-then-rec-len : goal.returns-then-rec-len
unfolding send_forbids waits_b
returns-then-rec-len c =
    let w = c in
    send_waits _ _ _ _ w.if-m.false w.if-rec-len.true c.nothing-then-rec-len.ensures

pub returns : goal.returns
unfolding send_forbids waits_b
returns c =
    let w = c in
    send_sent _ _ _ _ w.if-m.false w.if-rec-len.false c.sent.ensures

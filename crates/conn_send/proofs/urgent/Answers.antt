-- `conn_send::urgent` meets its contract. Assumes nothing.
use Rattle.conn_send.proofs.Laws.{short_parts, whole_parts, taken_placed}
use Rattle.conn_send.proofs.urgent.Goals as goal

pub sent_reply-answer-requires : goal.sent_reply-answer-requires
sent_reply-answer-requires c =
    let s = c in
    (s.requires.0, taken_placed s.args.rec s.args.len _ s.requires.0 s.requires.1 c.taken-k.ensures)

pub returns-then-k-len : goal.returns-then-k-len
returns-then-k-len c =
    let q = c in
    let m = q in
    let i = m in
    let p = i in
    let r = p in
    short_parts _ _ _ _ _ _ r.taken-k.ensures r.sent_reply-answer.ensures p.produced-next.ensures _ _ i.if-k-len.true
    m.message_of.ensures q.pending-m.ensures c.urgent_outcome.ensures

pub returns : goal.returns
returns c =
    let m = c in
    let u = m in
    let i = u in
    let p = i in
    let r = p in
    whole_parts _ _ _ _ _ _ r.taken-k.ensures r.sent_reply-answer.ensures p.produced-next.ensures _ _ i.if-k-len.false
    u.urged-whole.ensures m.message_of-m.ensures c.urgent_outcome-2.ensures

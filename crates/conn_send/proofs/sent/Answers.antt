-- `conn_send::sent` meets its contract. Assumes nothing.
use Rattle.conn_send.proofs.Laws.{sent_parts, taken_placed}
use Rattle.conn_send.proofs.sent.Goals as goal

pub sent_reply-reply-requires : goal.sent_reply-reply-requires
sent_reply-reply-requires c =
    let s = c in
    (s.requires.0, taken_placed s.args.rec s.args.len _ s.requires.0 s.requires.1 c.taken-k.ensures)

pub returns : goal.returns
returns c =
    let t = c in
    let p = t in
    let r = p in
    sent_parts _ _ _ _ _ _ r.taken-k.ensures r.sent_reply-reply.ensures p.produced-next.ensures _ t.tells.ensures c.outcome_of.ensures

-- `group_fresh::fresh` meets its contract. Assumes nothing.
use Rattle.group_fresh.proofs.Laws.{fresh_made}
use Rattle.group_fresh.proofs.fresh.Goals as goal

pub returns : goal.returns
returns c =
    let x = c in
    let q = x in
    let z = q in
    fresh_made z.args.role z.zero_record-closed.result z.zero_record-closed.ensures q.cleared-unheard.result q.cleared-unheard.ensures
    x.no_exchange-idle.result x.no_exchange-idle.ensures c.empty_queue-none.result c.empty_queue-none.ensures

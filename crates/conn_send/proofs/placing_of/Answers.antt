-- `conn_send::placing_of` meets its contract. Assumes nothing.
use native.Mathlib.Omega.{arith}
use Rattle.conn_record.proofs.Laws.{remote_facts}
use Rattle.conn_send.specs.Transmit.{placing_of}
use Rattle.conn_send.proofs.Laws.{token_fits}
use Rattle.conn_send.proofs.placing_of.Goals as goal

pub overflow_sub-before : goal.overflow_sub-before
overflow_sub-before c = let s = c in omega (arith, (remote_facts s.args.rec.remote s.requires.0).index_least)

pub overflow_mul-before : goal.overflow_mul-before
overflow_mul-before c =
    let s = c in
    omega (arith, token_fits s.args.rec s.requires.0 c.rtoken_of-t.result c.rtoken_of-t.ensures)

pub overflow_add-first : goal.overflow_add-first
overflow_add-first c =
    let b = c in
    let s = b in
    omega (arith, token_fits s.args.rec s.requires.0 b.rtoken_of-t.result b.rtoken_of-t.ensures)

pub overflow_add-address : goal.overflow_add-address
overflow_add-address c =
    let b = c in
    let s = b in
    omega (arith, s.requires.1, token_fits s.args.rec s.requires.0 b.rtoken_of-t.result b.rtoken_of-t.ensures)

pub returns : goal.returns
unfolding placing_of
returns c = simp c.rtoken_of-t.ensures

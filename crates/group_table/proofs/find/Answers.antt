-- `group_table::find` meets its contract. Assumes nothing.
use Rattle.std.proofs.Common.{sym, ◌∙◌, length}
use Rattle.conn_record.specs.Connection.{zero_record}
use Rattle.group_table.specs.Table.{holds_b}
use Rattle.group_table.proofs.SlotsLaws.{begins, hit, miss, done}
use Rattle.group_table.proofs.Laws.{holder_none, holder_some}
use Rattle.group_table.proofs.find.Goals as goal

pub returns-then-token-eq0 : goal.returns-then-token-eq0
returns-then-token-eq0 c = sym (holder_none c.args.table.now c.args.token c.if-token-eq0.true)

pub loop-i-init : goal.loop-i-init
loop-i-init c = begins c.args.table.now c.args.token

pub returns-then-holds : goal.returns-then-holds
unfolding zero_record
returns-then-holds c =
    sym (hit (holds_b c.args.token) c.args.table.now (length c.args.table.now) c.loop-i.i c.loop-i-test.true c.loop-i-test.true (sym (c.holds.ensures) ∙ c.if-holds.true))
    ∙ c.loop-i.invariant
    ∙ sym (holder_some c.args.table.now c.args.token c.if-token-eq0.false)

pub loop-i-preserved : goal.loop-i-preserved
unfolding zero_record
loop-i-preserved c =
    sym (miss (holds_b c.args.token) c.args.table.now (length c.args.table.now) c.loop-i.i c.loop-i-test.true c.loop-i-test.true (sym (c.holds.ensures) ∙ c.if-holds.false))
    ∙ c.loop-i.invariant

pub returns : goal.returns
returns c =
    sym (done (holds_b c.args.token) c.args.table.now (length c.args.table.now) c.loop-i.i c.loop-i-test.false)
    ∙ c.loop-i.invariant
    ∙ sym (holder_some c.args.table.now c.args.token c.if-token-eq0.false)

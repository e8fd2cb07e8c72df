-- `conn_send::urgent_send` meets its contract. Assumes nothing.
use mathlib.Core.Path.{sym, ◌∙◌}
use borrow.Author.Tests.{eq-eqb, ne_eqb}
use Rattle.conn_send.specs.Transmit.{urgent_send_of}
use Rattle.conn_send.proofs.Laws.{sent_may}
use Rattle.conn_send.proofs.urgent_send.Goals as goal

pub returns-then-no-ne0 : goal.returns-then-no-ne0
unfolding urgent_send_of
returns-then-no-ne0 c =
    let b = c in
    let r = b in
    simp (← r.forbids.ensures, ← r.refusal-no.ensures, ne_eqb _ _ b.if-no-ne0.true, c.refused.ensures)

pub returns-then-waits : goal.returns-then-waits
unfolding urgent_send_of
returns-then-waits c =
    let t = c in
    let w = t in
    let e = w in
    let r = e in
    simp (
      ← r.forbids.ensures,
      ← r.refusal-no.ensures,
      eq-eqb _ _ e.if-no-ne0.false,
      ← w.waits.ensures,
      t.if-waits.true,
      c.nothing_sent.ensures,
    )

pub urgent-requires : goal.urgent-requires
urgent-requires c =
    let e = c in
    let r = e in
    let a = r.args in
    sent_may a.n a.active a.rec _ (sym r.refusal-no.ensures ∙ e.if-no-ne0.false)

pub returns : goal.returns
unfolding urgent_send_of
returns c =
    let t = c in
    let w = t in
    let e = w in
    let r = e in
    simp (
      ← r.forbids.ensures,
      ← r.refusal-no.ensures,
      eq-eqb _ _ e.if-no-ne0.false,
      ← w.waits.ensures,
      t.if-waits.false,
      c.urgent.ensures,
    )

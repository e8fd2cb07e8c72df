-- `conn_receive::read` meets its contract. Assumes nothing.
use mathlib.Core.Path.{sym, ◌∙◌}
use borrow.Author.Tests.{eq-eqb, ne_eqb}
use Rattle.conn_receive.specs.Receive.{read_of}
use Rattle.conn_receive.proofs.Laws.{unread_most}
use Rattle.conn_receive.proofs.read.Goals as goal

pub returns-then-no-ne0 : goal.returns-then-no-ne0
unfolding read_of
returns-then-no-ne0 c =
    let t = c in
    let r = t in
    simp (← r.read_forbids.ensures, ← r.refusal-no.ensures, ne_eqb _ _ t.if-no-ne0.true, c.refused.ensures)

pub take-requires : goal.take-requires
take-requires c =
    let e = c in
    unread_most _ _ _ _ (sym e.refusal-no.ensures ∙ e.if-no-ne0.false)

pub returns-then-intact : goal.returns-then-intact
unfolding read_of
returns-then-intact c =
    let t = c in
    let e = t in
    let r = e in
    simp (
      ← r.read_forbids.ensures,
      ← r.refusal-no.ensures,
      eq-eqb _ _ e.if-no-ne0.false,
      t.if-intact.true,
      c.take.ensures,
    )

pub returns-else-intact : goal.returns-else-intact
unfolding read_of
returns-else-intact c =
    let t = c in
    let e = t in
    let r = e in
    simp (
      ← r.read_forbids.ensures,
      ← r.refusal-no.ensures,
      eq-eqb _ _ e.if-no-ne0.false,
      t.if-intact.false,
      c.torn.ensures,
    )

-- `setup::heard` meets its contract. Assumes nothing.
use Rattle.std.proofs.Common.{◌∙◌, sym, ap, eq-eqb, ne_eqb, arith}
use Rattle.setup_read.specs.Clc.{type_of}
use Rattle.setup.specs.Setup.{heard_of}
use Rattle.setup.proofs.Theorems.{not_decline}
use Rattle.setup.proofs.heard.Goals as goal

pub returns-in_default : goal.returns-in_default
unfolding heard_of
returns-in_default c = simp (c.in_default.is, c.quiet.ensures)

pub returns-in-Decline : goal.returns-in-Decline
unfolding heard_of
returns-in-Decline c = simp (c.in-Some.is, c.in-Decline.is, c.quiet-in-Decline.ensures, c.declines.ensures)

pub returns-then-type_of-due_type : goal.returns-then-type_of-due_type
unfolding heard_of
returns-then-type_of-due_type c =
    let k = type_of c.args.m.kind in
    let t = not_decline c.in-Some.kind c.in_default-kind.not-Decline in
    let e = ap type_of c.in-Some.is in
    simp (
      c.answer_due.ensures,
      ne_eqb k 0 (λ z. absurd (omega (arith, t.0, e, z))),
      ne_eqb k 4 (λ z. absurd (omega (arith, t.1, e, z))),
      eq-eqb k _ (sym c.type_of.ensures ∙ c.if-type_of-due_type.true ∙ c.due_type.ensures),
    )

pub returns-else-type_of-due_type : goal.returns-else-type_of-due_type
unfolding heard_of
returns-else-type_of-due_type c =
    let k = type_of c.args.m.kind in
    let t = not_decline c.in-Some.kind c.in_default-kind.not-Decline in
    let e = ap type_of c.in-Some.is in
    simp (
      c.quiet-else-type_of-due_type.ensures,
      ne_eqb k 0 (λ z. absurd (omega (arith, t.0, e, z))),
      ne_eqb k 4 (λ z. absurd (omega (arith, t.1, e, z))),
      ne_eqb k _ (λ z. c.if-type_of-due_type.false (c.type_of.ensures ∙ z ∙ sym c.due_type.ensures)),
    )

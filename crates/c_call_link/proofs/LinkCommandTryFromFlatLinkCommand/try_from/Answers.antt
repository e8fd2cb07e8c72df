-- `try_from` of a link command meets its contract: the tests are the definition's, one after the other. Assumes nothing.
use Rattle.std.proofs.Common.{refl, ne_eqb, arith}
use Rattle.c_call_link.specs.FlatLink.{link_known_b, link_named_of}
use Rattle.c_call_link.proofs.LinkCommandTryFromFlatLinkCommand.try_from.Goals as goal

pub returns-in-3 : goal.returns-in-3
unfolding link_known_b link_named_of
returns-in-3 c = (simp c.in-3.is, simp c.in-3.is)

pub returns-in-13 : goal.returns-in-13
unfolding link_known_b link_named_of
returns-in-13 c = (simp c.in-13.is, simp c.in-13.is)

pub returns-in-14 : goal.returns-in-14
unfolding link_known_b link_named_of
returns-in-14 c =
    (simp (c.in-14.is, ← c.is_named-sendable.ensures, c.if-sendable.true), simp (c.in-14.is, c.kind_of-kind.ensures))

pub returns-in_default : goal.returns-in_default
unfolding link_known_b
returns-in_default c = (simp (c.in-14.is, ← c.is_named-sendable.ensures, c.if-sendable.false), refl)

pub returns-in_default-2 : goal.returns-in_default-2
unfolding link_known_b
returns-in_default-2 c =
    let n = c.args.q.number in (
      simp (
        ne_eqb n 3 (λ e. absurd (omega (arith, e))),
        ne_eqb n 13 (λ e. absurd (omega (arith, e))),
        ne_eqb n 14 (λ e. absurd (omega (arith, e))),
      ),
      refl,
    )

-- `pool::is_alone` meets its contract: each return is what the tests before it pick. Assumes nothing.
use mathlib.Core.Path.{◌∙◌}
use borrow.Author.Tests.{eq-eqb, ne_eqb, lt-leb, le-leb}
use Rattle.pool.specs.Steps.{alone_b}
use Rattle.pool.proofs.is_alone.Goals as goal

pub returns-then-size-eq0 : goal.returns-then-size-eq0
unfolding alone_b
returns-then-size-eq0 c = rw (← c.from-size.ensures, eq-eqb _ _ c.if-size-eq0.true)

pub returns-then-not-is_place : goal.returns-then-not-is_place
unfolding alone_b
returns-then-not-is_place c =
    let w = c.from-size in
    rw (← w.ensures, ne_eqb _ _ c.if-size-eq0.false, ← c.is_place.ensures, c.if-not-is_place.true)

pub returns-then-i-size-gt64 : goal.returns-then-i-size-gt64
unfolding alone_b
returns-then-i-size-gt64 c =
    let w = c.from-size in
    rw (← w.ensures, ne_eqb _ _ c.if-size-eq0.false, ← c.is_place.ensures, c.if-not-is_place.false, lt-leb _ _ c.if-i-size-gt64.true)

pub returns : goal.returns
unfolding alone_b
returns c =
    let w = c.from-size in
    c.none_starts.ensures ∙ rw (← w.ensures, ne_eqb _ _ c.if-size-eq0.false, ← c.is_place.ensures, c.if-not-is_place.false, le-leb _ _ c.if-i-size-gt64.false)

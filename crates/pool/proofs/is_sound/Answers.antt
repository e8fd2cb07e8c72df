-- `pool::is_sound` meets its contract. The loop's invariant: what the blocks from i on say is the answer. Assumes nothing.
use mathlib.Core.Path.{sym, ◌∙◌}
use native.Mathlib.Omega.{arith}
use Rattle.pool.specs.Steps.{alone_b}
use Rattle.pool.proofs.Every.{every_here, every_on, every_end}
use Rattle.pool.proofs.Sound.{sound_is}
use Rattle.pool.proofs.BlockByBlock.{past_block}
use Rattle.pool.proofs.is_sound.Goals as goal

pub loop-i-init : goal.loop-i-init
loop-i-init c = (omega arith, sym (sound_is c.args.b.now))

pub returns-then-not-is_alone : goal.returns-then-not-is_alone
returns-then-not-is_alone c =
    let a = c.args in
    let l = c.loop-i in
    sym (l.invariant.1 ∙ every_here (alone_b a.b.now) l.i 64 c.loop-i-test.true (sym c.is_alone.ensures ∙ c.if-not-is_alone.true))

pub overflow_add-i : goal.overflow_add-i
overflow_add-i c = omega arith

pub loop-i-smaller-then-size-eq0 : goal.loop-i-smaller-then-size-eq0
loop-i-smaller-then-size-eq0 c = omega arith

pub loop-i-preserved-then-size-eq0 : goal.loop-i-preserved-then-size-eq0
loop-i-preserved-then-size-eq0 c =
    let a = c.args in
    let l = c.loop-i in (
      omega arith,
      l.invariant.1 ∙ every_on (alone_b a.b.now) l.i 64 c.loop-i-test.true (sym c.is_alone.ensures ∙ c.if-not-is_alone.false),
    )

pub overflow_add-i-else-size-eq0 : goal.overflow_add-i-else-size-eq0
overflow_add-i-else-size-eq0 c = omega arith

pub loop-i-smaller : goal.loop-i-smaller
loop-i-smaller c = omega arith

pub loop-i-preserved : goal.loop-i-preserved
loop-i-preserved c =
    let a = c.args in
    let l = c.loop-i in
    let w = c.from-size.ensures in
    let p = past_block a.b.now l.i c.loop-i-test.true (sym c.is_alone.ensures ∙ c.if-not-is_alone.false) (λ e. c.if-size-eq0.false (w ∙ e)) in
    (rw w p.0, rw w (l.invariant.1 ∙ p.1))

pub returns : goal.returns
returns c =
    let a = c.args in
    let l = c.loop-i in
    sym (l.invariant.1 ∙ every_end (alone_b a.b.now) l.i 64 c.loop-i-test.false)

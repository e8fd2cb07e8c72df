-- `pool::take` meets its contract: each return is what the tests before it pick. Assumes nothing.
use mathlib.Core.Path.{refl, sym, ◌∙◌}
use native.Mathlib.Omega.{arith}
use Rattle.pool.proofs.Halves.{whole_pool}
use Rattle.pool.proofs.Sizes.{size_most}
use Rattle.pool.proofs.Answers.{did, takes_3, takes_18, takes_19, takes_at, found_below}
use Rattle.pool.proofs.take.Goals as goal

pub returns-then-not-is_sound : goal.returns-then-not-is_sound
returns-then-not-is_sound c =
    let r = c.refused.ensures in
    did _ _ _ (takes_3 _ _ (sym c.is_sound.ensures ∙ c.if-not-is_sound.true)) r.0 r.1

pub returns-then-not-is_size : goal.returns-then-not-is_size
returns-then-not-is_size c =
    let r = c.refused-then-not-is_size.ensures in
    did _ _ _ (takes_18 _ _ (sym c.is_sound.ensures ∙ c.if-not-is_sound.false) (sym c.is_size.ensures ∙ c.if-not-is_size.true)) r.0 r.1

pub find-requires : goal.find-requires
find-requires c = whole_pool _ _ (sym c.is_sound.ensures ∙ c.if-not-is_sound.false) (sym c.is_size.ensures ∙ c.if-not-is_size.false)

pub overflow_cast-first : goal.overflow_cast-first
overflow_cast-first c =
    let f = found_below _ _ _ (sym c.find.ensures ∙ c.in-Some.is) in
    omega arith

pub overflow_cast-after : goal.overflow_cast-after
overflow_cast-after c = let m = size_most _ (sym c.is_size.ensures ∙ c.if-not-is_size.false) in omega arith

pub bounds-after-start : goal.bounds-after-start
bounds-after-start c = found_below _ _ _ (sym c.find.ensures ∙ c.in-Some.is)

pub returns-in-None : goal.returns-in-None
returns-in-None c =
    let r = c.refused-in-None.ensures in
    did _ _ _ (takes_19 _ _ (sym c.is_sound.ensures ∙ c.if-not-is_sound.false) (sym c.is_size.ensures ∙ c.if-not-is_size.false) (sym c.find.ensures ∙ c.in-None.is)) r.0 r.1

pub returns-in-Some : goal.returns-in-Some
returns-in-Some c =
    did _ _ _ (takes_at _ _ _ (sym c.is_sound.ensures ∙ c.if-not-is_sound.false) (sym c.is_size.ensures ∙ c.if-not-is_size.false) (sym c.find.ensures ∙ c.in-Some.is)) refl refl

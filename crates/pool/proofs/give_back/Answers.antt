-- `pool::give_back` meets its contract: each return is what the tests before it pick. Assumes nothing.
use mathlib.Core.Path.{refl, sym, ◌∙◌}
use Rattle.pool.proofs.Answers.{did, gives_3, gives_20, gives_back, given_below}
use Rattle.pool.proofs.give_back.Goals as goal

pub returns-then-not-is_sound : goal.returns-then-not-is_sound
returns-then-not-is_sound c =
    let r = c.refused.ensures in
    did _ _ _ (gives_3 _ _ _ (sym c.is_sound.ensures ∙ c.if-not-is_sound.true)) r.0 r.1

pub returns-then-not-is_given_out : goal.returns-then-not-is_given_out
returns-then-not-is_given_out c =
    let r = c.refused-then-not-is_given_out.ensures in
    did _ _ _ (gives_20 _ _ _ (sym c.is_sound.ensures ∙ c.if-not-is_sound.false) (sym c.is_given_out.ensures ∙ c.if-not-is_given_out.true)) r.0 r.1

pub bounds-after-at : goal.bounds-after-at
bounds-after-at c = given_below _ _ _ (sym c.is_given_out.ensures ∙ c.if-not-is_given_out.false)

pub returns : goal.returns
returns c = did _ _ _ (gives_back _ _ _ (sym c.is_sound.ensures ∙ c.if-not-is_sound.false) (sym c.is_given_out.ensures ∙ c.if-not-is_given_out.false)) refl refl

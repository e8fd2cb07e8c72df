-- `element::fresh` meets its contract: zeros, then the eye catcher over the first four. Assumes nothing.
use Prim.Native.Nat.{ℕ}
use mathlib.Core.Path.{ap, ◌∙◌}
use mathlib.Core.List.{List, ◌++◌}
use lib.ListN.{length, drop}
use Rattle.std.proofs.lemmas.List.{drop-replicate}
use Rattle.element.specs.Element.{fresh_element, eye_catcher}
use Rattle.element.proofs.fresh.Goals as goal

pub returns : goal.returns
unfolding fresh_element
returns c =
    ap (λ (l : List ℕ). l ++ drop 4 c.fill.new.self) c.copy_from_slice.ensures.after
    ∙ ap (λ (l : List ℕ). eye_catcher ++ drop 4 l) (c.fill.ensures.after (λ y e. e))
    ∙ ap (λ (l : List ℕ). eye_catcher ++ l) (drop-replicate 4 (length c.args.el.now) 0)

-- `element::intact` meets its contract. Assumes nothing.
use native.Mathlib.Omega.{arith}
use Prim.Native.Nat.{ℕ}
use mathlib.Core.Path.{sym, ap, ◌∙◌}
use mathlib.Core.List.{List}
use lib.Dec.{eqb}
use lib.ListN.{drop, length-drop}
use Rattle.std.proofs.lemmas.List.{take_all}
use borrow.Author.Tests.{lt-leb}
use Rattle.std.specs.List.{starts_with}
use Rattle.element.specs.Element.{intact_at, eye_catcher}
use Rattle.element.proofs.Calls.{intact_short, begins}
use Rattle.element.proofs.intact.Goals as goal

pub returns-then-base-mem : goal.returns-then-base-mem
unfolding intact_at
returns-then-base-mem c =
    let m = c.args.mem.now in
    c.starts_with.ensures.value
    ∙ ap (λ (l : List ℕ). starts_with eqb l eye_catcher) (take_all _ (drop c.args.base m) (omega (arith, length-drop c.args.base m)))
    ∙ begins (drop c.args.base m)

pub returns-else-base-mem : goal.returns-else-base-mem
returns-else-base-mem c = lt-leb _ _ c.if-base-mem.false ∙ sym (intact_short _ _ (omega arith))

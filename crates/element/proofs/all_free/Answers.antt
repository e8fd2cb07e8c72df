-- `element::all_free` meets its contract. Assumes nothing.
use Rattle.element.proofs.Free.{all_free_none, all_free_empty, all_free_whole, all_free_not, all_free_fits}
use native.Mathlib.Omega.{arith}
use mathlib.Core.Path.{sym}
use Rattle.element.proofs.all_free.Goals as goal

pub returns-then-k-eq0 : goal.returns-then-k-eq0
returns-then-k-eq0 c = sym (all_free_none _ _ _ _ _ c.if-k-eq0.true)

pub returns-then-d-eq0 : goal.returns-then-d-eq0
returns-then-d-eq0 c = sym (all_free_empty _ _ _ _ _ c.if-d-eq0.true (omega arith))

pub returns-then-d-window : goal.returns-then-d-window
returns-then-d-window c = sym (all_free_whole _ (omega arith) _ _ (omega arith) _ _)

pub returns-then-window-s : goal.returns-then-window-s
returns-then-window-s c =
    sym (all_free_not _ (omega arith) _ _ (omega arith) _ _ (omega arith) (omega (arith, c.past-s.ensures.0)))

pub returns : goal.returns
returns c =
    all_free_fits _ (omega arith) _ _ (omega arith) _ _ _ (omega arith) c.past-s.ensures.0 (omega arith)

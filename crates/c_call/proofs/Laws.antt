-- A link's view, from its parts. Assumes nothing.
use Prim.Native.Nat.{ℕ}
use Prim.Native.Nat.{◌≤◌}
use mathlib.Core.Path.{◌≡◌, ap, ◌∙◌, refl}
use mathlib.Core.Bool.{Bool, true, false, ◌&&◌, not}
use native.Mathlib.Omega.{arith}
use lib.Dec.{leb, eqb}
use borrow.Author.Tests.{leb-true, eqb-false}
use Rattle.c_call.specs.declared.FlatCommand.{FlatCommand}
use Rattle.gauge.specs.declared.Gauge.{Gauge}
use Rattle.gauge.specs.declared.Health.{Health}
use Rattle.gauge.specs.declared.View.{View}
use Rattle.gauge.specs.Gauge.{health_of, view_of}
use Rattle.group_table.specs.declared.Links.{Links}
use Rattle.group_table.specs.Table.{gauge_at}
use Rattle.c_call.specs.declared.FlatView.{FlatView}
use Rattle.c_call.specs.declared.FlatLinks.{FlatLinks}
use Rattle.c_call.specs.Flat.{links_in, known_b}
use Rattle.c_call.specs.View.{word_number, flat_view}

pub view_is : (links : FlatLinks) (link : ℕ) (own : Links) (g : Gauge) (h : Health) (v : View) (number : ℕ)
    → own ≡ links_in links → g ≡ gauge_at own.gauges link → h ≡ health_of g → v ≡ view_of h → number ≡ word_number v.word
    → let f : FlatView = record { health = number; shown = v.shown; mean = v.mean; worst = v.worst } in
    f ≡ flat_view (view_of (health_of (gauge_at links.gauges link)))
view_is links link own g h v number ho hg hh hv hn =
    (λ i. record { health = hn i; shown = v.shown; mean = v.mean; worst = v.worst })
    ∙ ap flat_view (hv ∙ ap view_of (hh ∙ ap health_of (hg ∙ ap (λ (x : Links). gauge_at x.gauges link) ho)))

never : {A : Type 0} → false ≡ true → A
never e = let z : ◌≡◌ {A = ℕ} 0 1 = cc in absurd (omega arith)

-- the numbers of the calls
pub none_of : (q : FlatCommand) → (known_b q ≡ true → ⊥) → known_b q ≡ false
none_of q h = go (known_b q) refl
  where
    go : (b : Bool) → known_b q ≡ b → known_b q ≡ false
    go true e = absurd (h e)
    go false e = e

pub known_range : (q : FlatCommand) → known_b q ≡ true → (1 ≤ q.number) × (q.number ≤ 12) × (q.number ≡ 3 → ⊥)
unfolding known_b
known_range q e =
    let t = all (leb 1 q.number) (leb q.number 12) (eqb q.number 3) e in
    (leb-true 1 q.number t.0, leb-true q.number 12 t.1, eqb-false q.number 3 t.2)
  where
    all : (a b c : Bool) → (a && (b && not c)) ≡ true → (a ≡ true) × (b ≡ true) × (c ≡ false)
    all true true false e = (refl, refl, refl)
    all true true true e = never e
    all true false c e = never e
    all false b c e = never e

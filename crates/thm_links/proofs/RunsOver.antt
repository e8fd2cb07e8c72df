-- `runsOver` is what the page's words say. Assumes nothing.
use Prim.Native.Nat.{ℕ, zero, suc}
use mathlib.Core.Path.{◌≡◌, refl, ap}
use mathlib.Core.Bool.{Bool, true, false, ◌&&◌, ◌||◌, not, cond}
use native.Mathlib.Omega.{arith}
use borrow.Author.Tests.{le-leb, ne_eqb}
use lib.Dec.{leb, eqb}
use Rattle.link_exchange.specs.Exchange.{sort_of, adding_b, runs_over}
use Rattle.thm_links.specs.RunsOver.{RunsOverWords}

-- the sort is add at stages 1 to 4
adds : (b c : Bool) → eqb (cond b 1 (cond c 2 3)) 1 ≡ b
adds true c = refl
adds false true = refl
adds false false = refl

by_stage : (s v w l : ℕ)
    → not (eqb s 0) && (eqb l v || eqb (cond (eqb s 0) 0 (cond (leb s 4) 1 (cond (eqb s 5) 2 3))) 1 && eqb l w)
    ≡ leb 1 s && (eqb l v || leb s 4 && eqb l w)
by_stage zero v w l = refl
by_stage (suc n) v w l =
    rw (ne_eqb (suc n) 0 (λ e. omega (arith, e)), le-leb 1 (suc n) (omega arith))
    (ap (λ (t : Bool). eqb l v || t && eqb l w) (adds (leb (suc n) 4) (eqb (suc n) 5)))

pub runs_over_words : RunsOverWords
unfolding runs_over adding_b sort_of
runs_over_words x l = by_stage x.stage x.v x.w l

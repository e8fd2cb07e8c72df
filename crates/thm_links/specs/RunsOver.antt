-- Request 2026-01, part 6: "an exchange is run over v, an add over w too". Theorems elsewhere cite `runsOver`; this one says what it is in
-- numbers, and cites nothing. Assumes nothing.
use Rattle.std.specs.Prelude.{ℕ, ◌≡◌, Bool, ◌&&◌, ◌||◌, leb, eqb}
use Rattle.link_exchange.specs.declared.Exchange.{Exchange}
use Rattle.link_exchange.specs.Exchange.{runs_over}

-- it runs, its stage is 1 or more; the link is v, or, while a link is added (stages 1 to 4), w
abbrev pub over_b : Exchange → ℕ → Bool
over_b x l = leb 1 x.stage && (eqb l x.v || leb x.stage 4 && eqb l x.w)

abbrev pub RunsOverWords : Type 0
RunsOverWords = (x : Exchange) (l : ℕ) → runs_over x l ≡ over_b x l

-- Request 2026-10 row by row: a gauge, a sample, the gauge that it leaves; a gauge's health, and what is shown of it. Doubles stand by
-- their bits, worked by hand or by another machine's arithmetic; no definition of `gauge` stands in what a row expects. proofs/Rows proves
-- them by computation. Assumes nothing.
use Rattle.std.specs.Prelude.{ℕ, ◌≡◌, Bool, true, false, List, [], ◌∷◌, map, Float}
use Rattle.std.specs.Float.{binary64}
use Rattle.std.specs.Float.Ieee.{of_bits}
use Rattle.gauge.specs.declared.Gauge.{Gauge}
use Rattle.gauge.specs.declared.Health.{Health}
use Rattle.gauge.specs.declared.Health.TheVariants.{Unheard, Steady, Late}
use Rattle.gauge.specs.declared.View.{View}
use Rattle.gauge.specs.declared.Word.{Word}
use Rattle.gauge.specs.declared.Word.TheVariants as Words
use Rattle.gauge.specs.Gauge.{most_ms, cleared_of, sampled_of, health_of, view_of}

abbrev double : ℕ → Float
double b = of_bits binary64 b

abbrev gauge : ℕ → ℕ → ℕ → Bool → Gauge
gauge mean worst count late = record { mean = double mean; worst = double worst; count = count; late = late }

-- A SAMPLE
pub record Row : Type 0 where
  pub before : Gauge
  pub ms : ℕ
  pub after : Gauge

abbrev row : Gauge → ℕ → Gauge → Row
row g ms h = record { before = g; ms = ms; after = h }

unfoldable pub rows : List Row
rows =
    -- the first, with count 0, whatever else the gauge holds, is the mean and the worst, and is not late
    row (gauge 0x0000000000000000 0x0000000000000000 0 false) 100 (gauge 0x4059000000000000 0x4059000000000000 1 false)
    ∷ row (gauge 0x4014000000000000 0x407F400000000000 0 true) 100 (gauge 0x4059000000000000 0x4059000000000000 1 false)
    ∷ row (gauge 0x0000000000000000 0x0000000000000000 0 false) 0 (gauge 0x0000000000000000 0x0000000000000000 1 false)
    ∷ row (gauge 0x0000000000000000 0x0000000000000000 0 false) 60000 (gauge 0x40ED4C0000000000 0x40ED4C0000000000 1 false)
    -- of a mean of 100: 420 is not above 4 x 100 + 20, 421 is; the mean goes to 140 and to 140.125; late ends with the next
    ∷ row (gauge 0x4059000000000000 0x4069000000000000 3 true) 420 (gauge 0x4061800000000000 0x407A400000000000 4 false)
    ∷ row (gauge 0x4059000000000000 0x4069000000000000 3 false) 421 (gauge 0x4061840000000000 0x407A500000000000 4 true)
    -- the worst stays where it is larger
    ∷ row (gauge 0x4059000000000000 0x407F400000000000 1 false) 421 (gauge 0x4061840000000000 0x407F400000000000 2 true)
    ∷ row (gauge 0x4069000000000000 0x4069000000000000 2 false) 500 (gauge 0x406DB00000000000 0x407F400000000000 3 false)
    -- of a mean of 0: 20 is not late, 21 is; the means are 2.5 and 2.625
    ∷ row (gauge 0x0000000000000000 0x0000000000000000 5 false) 20 (gauge 0x4004000000000000 0x4034000000000000 6 false)
    ∷ row (gauge 0x0000000000000000 0x0000000000000000 5 false) 21 (gauge 0x4005000000000000 0x4035000000000000 6 true)
    -- the count goes to 8 and stays
    ∷ row (gauge 0x4059000000000000 0x407F400000000000 7 false) 421 (gauge 0x4061840000000000 0x407F400000000000 8 true)
    ∷ row (gauge 0x4059000000000000 0x407F400000000000 8 false) 421 (gauge 0x4061840000000000 0x407F400000000000 8 true)
    ∷ row (gauge 0x4059000000000000 0x407F400000000000 255 false) 421 (gauge 0x4061840000000000 0x407F400000000000 8 true)
    -- three operations in that order, each rounded once: 7/8 of the mean and 1/8 of the sample, however added, end in another bit
    ∷ row (gauge 0x404E1CE766F04EFD 0x407F400000000000 8 false) 92 (gauge 0x40500CA53D09228F 0x407F400000000000 8 false)
    ∷ row (gauge 0x3FB999999999999A 0x3FB999999999999A 8 false) 8 (gauge 0x3FF1666666666667 0x4020000000000000 8 false)
    -- and so is 4 x the mean + 20: of a mean of 3 less 2^-51 it is rounded to 32, and 32 is not late
    ∷ row (gauge 0x4007FFFFFFFFFFFF 0x407F400000000000 8 false) 32 (gauge 0x401A800000000000 0x407F400000000000 8 false)
    ∷ []

abbrev found : Row → Gauge
found r = sampled_of r.before r.ms

abbrev after_of : Row → Gauge
after_of r = r.after

-- HEALTH, AND WHAT IS SHOWN: unheard, or steady with its mean, or late with its mean and its worst
pub record Shown : Type 0 where
  pub gauge : Gauge
  pub health : Health
  pub view : View

abbrev view : Word → ℕ → ℕ → ℕ → View
view w n mean worst = record { word = w; shown = n; mean = double mean; worst = double worst }

abbrev shown : Gauge → Health → View → Shown
shown g h v = record { gauge = g; health = h; view = v }

unfoldable pub views : List Shown
views =
    shown (gauge 0x4059000000000000 0x407F400000000000 0 true) Unheard (view Words.Unheard 0 0x0000000000000000 0x0000000000000000)
    ∷ shown (gauge 0x4059000000000000 0x407F400000000000 1 false) (Steady (double 0x4059000000000000))
    (view Words.Steady 1 0x4059000000000000 0x0000000000000000)
    ∷ shown (gauge 0x4059000000000000 0x407F400000000000 8 true) (Late (double 0x4059000000000000) (double 0x407F400000000000))
    (view Words.Late 2 0x4059000000000000 0x407F400000000000)
    ∷ []

pub record RowsRight : Type 0 where
  pub samples : map found rows ≡ map after_of rows
  pub health : map (λ r. health_of r.gauge) views ≡ map (λ r. r.health) views
  pub view : map (λ r. view_of r.health) views ≡ map (λ r. r.view) views
  -- a cleared gauge, and the longest sample
  pub cleared : cleared_of ≡ gauge 0x0000000000000000 0x0000000000000000 0 false
  pub most : most_ms ≡ 60000

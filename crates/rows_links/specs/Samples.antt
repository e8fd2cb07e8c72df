-- Request 2026-10: a sample on each of the four links, every gauge another, through `answer` and `next` of a group; and its refusals, 13, 6
-- and 17, in their order. Assumes nothing.
use Rattle.std.specs.Prelude.{ℕ, Bool, true, false, List, [], ◌∷◌, Float}
use Rattle.std.specs.Float.{binary64}
use Rattle.std.specs.Float.Ieee.{of_bits}
use Rattle.link_exchange.specs.declared.Role.TheVariants.{Server}
use Rattle.gauge.specs.declared.Gauge.{Gauge}
use Rattle.gauge.specs.declared.Health.TheVariants.{Steady, Late}
use Rattle.group_rules.specs.Rules.{Group, Says, refusal, sampled, sample}
use Rattle.rows_links.specs.Rows.{zeros, at, nobody, grouped, Row, Right}

abbrev double : ℕ → Float
double b = of_bits binary64 b

abbrev gauge : ℕ → ℕ → ℕ → Bool → Gauge
gauge mean worst count late = record { mean = double mean; worst = double worst; count = count; late = late }

-- means of 100, 200, none, 100; worst of 500, 200, none, 421
abbrev a : Gauge
a = gauge 0x4059000000000000 0x407F400000000000 1 false

abbrev b : Gauge
b = gauge 0x4069000000000000 0x4069000000000000 2 true

abbrev c : Gauge
c = gauge 0x0000000000000000 0x0000000000000000 0 false

abbrev d : Gauge
d = gauge 0x4059000000000000 0x407A500000000000 8 false

-- an add of link 3 over link 1 runs on
abbrev measured : List Bool → Gauge → Gauge → Gauge → Gauge → Group
measured links p q r s = grouped Server (at 1 1 3) nobody links (p ∷ q ∷ r ∷ s ∷ [])

abbrev up : Gauge → Gauge → Gauge → Gauge → Group
up = measured (true ∷ true ∷ true ∷ true ∷ [])

abbrev without3 : Group
without3 = measured (true ∷ true ∷ false ∷ true ∷ []) a b c d

abbrev samples : Group → ℕ → ℕ → Says → Group → Row
samples g l ms says h =
    record {
      group = g;
      call = sample l ms;
      comes = record { answer = record { says = says; made = false; message = zeros 44; out = [] }; group = h };
    }

abbrev refused : Group → ℕ → ℕ → ℕ → Row
refused g l ms k = samples g l ms (refusal k) g

unfoldable pub rows : List Row
rows =
    samples (up a b c d) 1 420 (sampled (Steady (double 0x4061800000000000)))
    (up (gauge 0x4061800000000000 0x407F400000000000 2 false) b c d)
    ∷ samples (up a b c d) 2 100 (sampled (Steady (double 0x4067700000000000)))
    (up a (gauge 0x4067700000000000 0x4069000000000000 3 false) c d)
    ∷ samples (up a b c d) 3 7 (sampled (Steady (double 0x401C000000000000)))
    (up a b (gauge 0x401C000000000000 0x401C000000000000 1 false) d)
    ∷ samples (up a b c d) 4 60000 (sampled (Late (double 0x40BDA38000000000) (double 0x40ED4C0000000000)))
    (up a b c (gauge 0x40BDA38000000000 0x40ED4C0000000000 8 true))
    -- 13, then 6, then 17
    ∷ refused without3 0 1 13
    ∷ refused without3 5 60001 13
    ∷ refused without3 3 1 6
    ∷ refused without3 3 60001 6
    ∷ refused without3 4 60001 17
    ∷ []

abbrev pub RowsRight : Type 0
RowsRight = Right (rows ∷ [])

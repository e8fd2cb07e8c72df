-- Request 2026-10: what a sample does to a link's gauge, in the logic's account of IEEE 754, the health, and what is shown of it; the whole
-- number that the mean is over 2,097,152, and the claim that it is exact. proofs/Exact has the theorem.
-- Assumes nothing.
use Rattle.std.specs.Prelude.{ℕ, ◌+◌, ◌*◌, ◌/◌, ◌≤◌, ◌≡◌, Bool, false, cond, List, [], ◌∷◌, eqb, ltb, pos, negsuc, length, Float}
use Rattle.std.specs.Float.{fin, binary64}
use Rattle.std.specs.Float.Ieee.{add, sub, mul, lt, of_int}
use Rattle.std.specs.Float.Ieee.Exact.{HasValue}
use Rattle.gauge.specs.declared.Gauge.{Gauge}
use Rattle.gauge.specs.declared.Health.{Health}
use Rattle.gauge.specs.declared.Health.TheVariants.{Unheard, Steady, Late}
use Rattle.gauge.specs.declared.View.{View}
use Rattle.gauge.specs.declared.Word.TheVariants as Words

-- a sample is whole milliseconds, 0 to 60,000
abbrev pub most_ms : ℕ
most_ms = 60000

-- the constants in double precision: 0.125, 4, 20 and 0
abbrev pub eighth : Float
eighth = fin false 1 (negsuc 2)

abbrev pub four : Float
four = fin false 1 (pos 2)

abbrev pub twenty : Float
twenty = fin false 5 (pos 2)

abbrev pub none : Float
none = fin false 0 (pos 0)

-- the mean becomes m + (s - m) x 0.125, three operations in that order, each rounded once
unfoldable pub smoothed : Float → Float → Float
smoothed m s = add binary64 m (mul binary64 (sub binary64 s m) eighth)

-- late when the latest sample is above 4 x the mean before it, plus 20, rounded likewise
unfoldable pub late_at : Float → Float → Bool
late_at m s = lt (add binary64 (mul binary64 four m) twenty) s

-- the worst: the larger; what is no number stays
abbrev pub larger_of : Float → Float → Float
larger_of a b = cond (lt a b) b a

-- a sample count up to 8
abbrev pub count_after : ℕ → ℕ
count_after c = cond (ltb c 8) (c + 1) 8

-- a gauge that holds no sample
abbrev pub cleared_of : Gauge
cleared_of = record { mean = none; worst = none; count = 0; late = false }

-- the first sample is the mean and the worst, and is not late
abbrev pub first_of : Float → Gauge
first_of s = record { mean = s; worst = s; count = 1; late = false }

abbrev pub later_of : Gauge → Float → Gauge
later_of g s =
    record {
      mean = smoothed g.mean s;
      worst = larger_of g.worst s;
      count = count_after g.count;
      late = late_at g.mean s;
    }

unfoldable pub sampled_of : Gauge → ℕ → Gauge
sampled_of g ms = let s = of_int binary64 (pos ms) in cond (eqb g.count 0) (first_of s) (later_of g s)

-- the health of a link is unheard, or steady with its mean, or late with its mean and its worst
unfoldable pub health_of : Gauge → Health
health_of g = cond (eqb g.count 0) Unheard (cond g.late (Late g.mean g.worst) (Steady g.mean))

-- what is shown of it: the word and its numbers, zeros for those that are not shown
unfoldable pub view_of : Health → View
view_of Unheard = record { word = Words.Unheard; shown = 0; mean = none; worst = none }
view_of (Steady m) = record { word = Words.Steady; shown = 1; mean = m; worst = none }
view_of (Late m w) = record { word = Words.Late; shown = 2; mean = m; worst = w }

-- THROUGH EIGHT SAMPLES. The gauge after the samples, oldest first
unfoldable pub after : Gauge → List ℕ → Gauge
after g [] = g
after g (n ∷ ns) = after (sampled_of g n) ns

-- the mean as a whole number over 2,097,152: at first the sample, then seven parts of what it was and one of the sample
abbrev pub next_whole : ℕ → ℕ → ℕ
next_whole w n = (7 * w + n * 2097152) / 8

unfoldable pub whole_from : ℕ → List ℕ → ℕ
whole_from w [] = w
whole_from w (n ∷ ns) = whole_from (next_whole w n) ns

-- and each is reached with no remainder: eight times it is those seven parts and that one
unfoldable pub NoRemainder : ℕ → List ℕ → Type 0
NoRemainder w [] = Unit
NoRemainder w (n ∷ ns) = (next_whole w n * 8 ≡ 7 * w + n * 2097152) × NoRemainder (next_whole w n) ns

abbrev pub Samples : List ℕ → Type 0
Samples [] = Unit
Samples (n ∷ ns) = (n ≤ most_ms) × Samples ns

-- Through the first eight samples n ∷ ns of a gauge that has none the mean is exact: no operation rounds, and it is that whole number over
-- 2,097,152 (`HasValue x s a b`: the float x is a / b, below zero where s). The count is how many there are.
pub record Exactly (g : Gauge) (n : ℕ) (ns : List ℕ) : Type 0 where
  pub mean : HasValue (after g (n ∷ ns)).mean false (whole_from (n * 2097152) ns) 2097152
  pub whole : NoRemainder (n * 2097152) ns
  pub count : (after g (n ∷ ns)).count ≡ length (n ∷ ns)

abbrev pub ThroughEight : Type 0
ThroughEight = (g : Gauge) (n : ℕ) (ns : List ℕ) → g.count ≡ 0 → length ns ≤ 7 → Samples (n ∷ ns) → Exactly g n ns

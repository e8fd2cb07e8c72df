-- No rule: what single steps of the code look at. Only contracts of private functions cite these; proofs/ ties them to the rules.
-- Assumes nothing.
use Rattle.std.specs.Prelude.{ℕ, ◌+◌, ◌-◌, ◌%◌, ◌≤◌, ◌<◌, ◌≡◌, Bool, true, ◌&&◌, ◌||◌, leb, eqb}
use Rattle.pool.specs.Pool.{Books, size_at, every, size_b, sound_b}

-- no block starts at unit k
abbrev pub empty_b : Books → ℕ → Bool
empty_b b k = eqb (size_at b k) 0

-- a block of that size may start at unit i
unfoldable pub place_b : ℕ → ℕ → Bool
place_b i size = size_b size && eqb (i % size) 0

-- the block that starts at unit i, if one does, has a size, starts at a multiple of it, stays in the pool, and none starts further on in it
-- (the subtraction is exact: it has a size)
unfoldable pub alone_b : Books → ℕ → Bool
alone_b b i =
    eqb (size_at b i) 0
    || (place_b i (size_at b i)
    && (leb (i + size_at b i) 64
    && every (empty_b b) (i + 1) (size_at b i - 1)))

-- a part of the pool that halving reaches, from `at` on, in sound books
pub record Part (b : Books) (want at size : ℕ) : Type 0 where
  pub sound : sound_b b ≡ true
  pub asked : size_b want ≡ true
  pub sized : size_b size ≡ true
  pub no_less : want ≤ size
  pub multiple : at % size ≡ 0
  pub within : at + size ≤ 64
  -- no block from before reaches further
  pub clear : (k : ℕ) → k < at → k + size_at b k ≤ at

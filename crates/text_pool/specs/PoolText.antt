-- The replay format's lines of 2026-12: which books each leaves, of the books b and the bytes read with the line.
-- Assumes nothing.
use Rattle.std.specs.Prelude.{ℕ, ◌<◌, ◌≡◌, List, get_or}
use Rattle.pool.specs.Pool.{Books, free_pool, take, give_back, next}
use Rattle.text_pool.specs.declared.PoolLine.{PoolLine}
use Rattle.text_pool.specs.declared.PoolLine.TheVariants.{Fresh, Take, Return, Lay, Show}

-- "`pool` starts over with all units free"; `take` and `return` are the calls; "`books HEX`, 64 bytes, lays books in"; `books` alone
-- prints them
abbrev pub Left : Books → List ℕ → PoolLine → Books → Type 0
Left b given Fresh after = after ≡ free_pool
Left b given (Take units) after = after ≡ next b (take units)
Left b given (Return start units) after = after ≡ next b (give_back start units)
Left b given Lay after = (k : ℕ) → k < 64 → get_or after k 0 ≡ get_or given k 0
Left b given Show after = after ≡ b

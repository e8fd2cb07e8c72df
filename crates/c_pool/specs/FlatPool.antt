-- What a call of the pool says, in numbers. Assumes nothing.
use Rattle.std.specs.Prelude.{ℕ, ◌≡◌, List}
use Rattle.pool.specs.Pool.{Call, Says, refusal, block, returned, answer, next}
use Rattle.c_pool.specs.declared.Books.{Books}
use Rattle.c_pool.specs.declared.PoolAnswer.{PoolAnswer}

abbrev pub books_of : List ℕ → Books
books_of b = record { sizes = b }

-- 1 refused, with the refusal's number; 10 a block, with its start; 11 returned
abbrev pub flat_of : Says → List ℕ → PoolAnswer
flat_of (refusal k) b = record { said = 1; refusal = k; start = 0; books = books_of b }
flat_of (block start) b = record { said = 10; refusal = 0; start = start; books = books_of b }
flat_of returned b = record { said = 11; refusal = 0; start = 0; books = books_of b }

-- what each contract promises: the answer and the books that it holds are what the pool's rules say
pub record PoolMade (b : Books) (c : Call) (r : PoolAnswer) : Type 0 where
  pub answered : r ≡ flat_of (answer b.sizes c) (next b.sizes c)

-- Request 2026-12, "Carving the pool": the books of a pool of 64 units of 16 KiB, and what a take and a return answer and leave. The
-- contracts cite `Did`, which is `answer` and `next`; Statement.antt says, of units alone, what follows from these rules.
-- Assumes nothing.
use Rattle.std.specs.Prelude.{ℕ, zero, suc, ◌+◌, ◌%◌, ◌≡◌, Bool, true, not, ◌&&◌, ◌||◌, cond, List, ltb, leb, eqb, get_or, set, replicate}
use Rattle.std.specs.Prelude.{Option, Some, None}
use Rattle.pool.specs.declared.Reply.{Reply}
use Rattle.pool.specs.declared.Reply.TheVariants.{Block, Returned, Refused}

-- BOOKS, 64 bytes: byte u is the size of the block given out that starts at unit u, 0 where none starts.
abbrev pub Books : Type 0
Books = List ℕ

-- (no block starts past the last)
abbrev pub size_at : Books → ℕ → ℕ
size_at b u = get_or b u 0

-- a free pool: no block is given out
abbrev pub free_pool : Books
free_pool = replicate 64 0

-- unit u is one of the `size` units from `start` on
abbrev pub in_b : ℕ → ℕ → ℕ → Bool
in_b start size u = leb start u && ltb u (start + size)

-- the block that starts at unit i holds unit u
abbrev pub holds_b : Books → ℕ → ℕ → Bool
holds_b b i u = in_b i (size_at b i) u

-- p is true of each of the n numbers from j on
unfoldable pub every : (ℕ → Bool) → ℕ → ℕ → Bool
every p j zero = true
every p j (suc n) = p j && every p (j + 1) n

-- A UNIT IS HELD OR FREE: it is free where no block holds it.
unfoldable pub free_b : Books → ℕ → Bool
free_b b u = every (λ i. not (holds_b b i u)) 0 64

-- a block is wholly free
abbrev pub block_free_b : Books → ℕ → ℕ → Bool
block_free_b b start size = every (free_b b) start size

-- "a request is for 1, 2, 4, 8, 16, 32 or 64 units"
unfoldable pub size_b : ℕ → Bool
size_b n = eqb n 1 || (eqb n 2 || (eqb n 4 || (eqb n 8 || (eqb n 16 || (eqb n 32 || eqb n 64)))))

-- SOUND BOOKS: none "with blocks that overlap, leave the pool, have another size or start off a multiple of theirs". Two blocks are apart
-- where no unit of the pool is in both.
abbrev pub apart_b : Books → ℕ → ℕ → Bool
apart_b b i k = every (λ u. not (holds_b b i u && holds_b b k u)) 0 64

-- the block that starts at unit i, if one does, is as it should be
unfoldable pub block_b : Books → ℕ → Bool
block_b b i =
    eqb (size_at b i) 0
    || (every (λ k. eqb k i || apart_b b i k) 0 64
    && (leb (i + size_at b i) 64
    && (size_b (size_at b i)
    && eqb (i % size_at b i) 0)))

unfoldable pub sound_b : Books → Bool
sound_b b = every (block_b b) 0 64

-- "a block that is wholly free and starts at a multiple of its size", in the pool
unfoldable pub fits_b : Books → ℕ → ℕ → Bool
fits_b b size start = eqb (start % size) 0 && (leb (start + size) 64 && block_free_b b start size)

-- the lowest of the n numbers from j on of which p is true
unfoldable pub lowest : (ℕ → Bool) → ℕ → ℕ → Option ℕ
lowest p j zero = None
lowest p j (suc n) = cond (p j) (Some j) (lowest p (j + 1) n)

-- a block of that size was given out in that place
unfoldable pub given_out_b : Books → ℕ → ℕ → Bool
given_out_b b start size = ltb start 64 && (not (eqb size 0) && eqb (size_at b start) size)

-- THE CALLS: take so many units, or return a block, named by its start and its size.
pub data Call : Type 0 where
  take : ℕ → Call
  give_back : ℕ → ℕ → Call

-- THE ANSWERS: a refusal's number, the start of the block given out, or that a block is returned.
pub data Says : Type 0 where
  refusal : ℕ → Says
  block : ℕ → Says
  returned : Says

-- the code's enum, as the page's numbers and values
abbrev pub says_of : Reply → Says
says_of (Block start) = block start
says_of Returned = returned
says_of (Refused k) = refusal k

-- what a call answers, and the books that it leaves
pub record Done : Type 0 where
  pub says : Says
  pub books : Books

-- a refused call leaves the books as they were
abbrev pub refuses : Books → ℕ → Done
refuses b k = record { says = refusal k; books = b }

-- Take: 3, 18; "the answer is the lowest block that is wholly free and starts at a multiple of its size", and the books have it; 19: there
-- is none
abbrev pub gives_out : Books → ℕ → Option ℕ → Done
gives_out b size (Some start) = record { says = block start; books = set b start size }
gives_out b size None = refuses b 19

unfoldable pub takes : Books → ℕ → Done
takes b size =
    cond (sound_b b) (cond (size_b size) (gives_out b size (lowest (fits_b b size) 0 64)) (refuses b 18)) (refuses b 3)

-- Return: 3; 20: "what was not given out in that place and size"; else the books are without it
unfoldable pub gives_back_of : Books → ℕ → ℕ → Done
gives_back_of b start size =
    cond (sound_b b)
    (cond (given_out_b b start size) (record { says = returned; books = set b start 0 }) (refuses b 20))
    (refuses b 3)

-- ONE RULE FOR BOTH CALLS.
abbrev pub does : Books → Call → Done
does b (take size) = takes b size
does b (give_back start size) = gives_back_of b start size

abbrev pub answer : Books → Call → Says
answer b c = (does b c).says

abbrev pub next : Books → Call → Books
next b c = (does b c).books

-- what each contract promises: the answer a and the books that the call c left of b are what the rules say
pub record Did (b : Books) (c : Call) (a : Says) (after : Books) : Type 0 where
  pub answered : a ≡ answer b c
  pub left : after ≡ next b c

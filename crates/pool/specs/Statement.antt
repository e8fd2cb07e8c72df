-- Request 2026-12: what the rules of Pool.antt come to, said of units, blocks and lists of calls, with no search in it. proofs/Theorem
-- proves each claim. Assumes nothing.
use Rattle.std.specs.Prelude.{ℕ, zero, suc, ◌+◌, ◌-◌, ◌%◌, ◌≤◌, ◌<◌, ◌≡◌, ◌⊎◌, ◌↔◌, Bool, true, false, not, cond, List, [], ◌∷◌, length}
use Rattle.pool.specs.Pool.{Books, size_at, free_pool, free_b, size_b, Call, take, give_back, Says, refusal, block, returned}
use Rattle.pool.specs.Pool.{answer, next, Did}

-- UNITS. Unit u is one of the `size` units from `start` on
abbrev pub In : ℕ → ℕ → ℕ → Type 0
In start size u = (start ≤ u) × (u < start + size)

-- a block is given out that starts at unit i, one of the 64
pub record Starts (b : Books) (i : ℕ) : Type 0 where
  pub below : i < 64
  pub some : 0 < size_at b i

-- unit u is held: a block that is given out has it
pub record Held (b : Books) (u : ℕ) : Type 0 where
  pub start : ℕ
  pub starts : Starts b start
  pub has : In start (size_at b start) u

-- a block that is wholly free, starts at a multiple of its size and lies in the pool
pub record Fits (b : Books) (size start : ℕ) : Type 0 where
  pub multiple : start % size ≡ 0
  pub within : start + size ≤ 64
  pub free : (u : ℕ) → In start size u → Held b u → ⊥

-- the lowest of these
abbrev pub Lowest : Books → ℕ → ℕ → Type 0
Lowest b size start = Fits b size start × ((j : ℕ) → j < start → Fits b size j → ⊥)

-- for every multiple of the size, some unit of the block that starts there is held
abbrev pub NoneFree : Books → ℕ → Type 0
NoneFree b size = (j : ℕ) → j % size ≡ 0 → j + size ≤ 64 → (u : ℕ) × In j size u × Held b u

-- books with no "blocks that overlap, leave the pool, have another size or start off a multiple of theirs"
pub record Sound (b : Books) : Type 0 where
  pub apart : (i k u : ℕ) → Starts b i → Starts b k → In i (size_at b i) u → In k (size_at b k) u → i ≡ k
  pub within : (i : ℕ) → Starts b i → i + size_at b i ≤ 64
  pub sized : (i : ℕ) → Starts b i → size_b (size_at b i) ≡ true
  pub multiple : (i : ℕ) → Starts b i → i % size_at b i ≡ 0

-- a block of that size was given out in that place
abbrev pub GivenOut : Books → ℕ → ℕ → Type 0
GivenOut b start size = Starts b start × (size_at b start ≡ size)

-- 1. EACH ANSWER, EXACTLY WHEN, by the units alone. Any books, any numbers.
pub record ExactlyWhen (b : Books) : Type 0 where
  pub refused_3 : (c : Call) → (answer b c ≡ refusal 3) ↔ (Sound b → ⊥)
  pub refused_18 : (n : ℕ) → (answer b (take n) ≡ refusal 18) ↔ (Sound b × (size_b n ≡ false))
  pub refused_19 : (n : ℕ) → (answer b (take n) ≡ refusal 19) ↔ (Sound b × (size_b n ≡ true) × NoneFree b n)
  pub given : (n i : ℕ) → (answer b (take n) ≡ block i) ↔ (Sound b × (size_b n ≡ true) × Lowest b n i)
  pub refused_20 : (i n : ℕ) → (answer b (give_back i n) ≡ refusal 20) ↔ (Sound b × (GivenOut b i n → ⊥))
  pub taken_back : (i n : ℕ) → (answer b (give_back i n) ≡ returned) ↔ (Sound b × GivenOut b i n)

abbrev pub EachAnswer : Type 0
EachAnswer = (b : Books) → ExactlyWhen b

-- 2. WHAT A CALL LEAVES, of any books of 64 bytes.
pub record Leaves (b : Books) : Type 0 where
  -- a refused call leaves the books as they were
  pub refused : (c : Call) (k : ℕ) → answer b c ≡ refusal k → next b c ≡ b
  -- taking holds the block's units and no others
  pub taken : (n i u : ℕ) → answer b (take n) ≡ block i → (Held (next b (take n)) u ↔ (Held b u ⊎ In i n u))
  -- "returning a block frees its units", and no others
  pub freed : (i n u : ℕ) → answer b (give_back i n) ≡ returned
      → (Held (next b (give_back i n)) u ↔ (Held b u × (In i n u → ⊥)))
  -- a block that was just given out may be returned, and the books are then as they were
  pub undone : (n i : ℕ) → answer b (take n) ≡ block i
      → (answer (next b (take n)) (give_back i n) ≡ returned) × (next (next b (take n)) (give_back i n) ≡ b)
  -- sound books stay sound
  pub sound : Sound b → (c : Call) → Sound (next b c)

abbrev pub WhatIsLeft : Type 0
WhatIsLeft = (b : Books) → length b ≡ 64 → Leaves b

-- 3. LISTS OF CALLS. From b the calls cs answered said and left end. Of each is known what its contract promises, `Did`, and that it got
-- the books as the last one left them.
pub data Made : Books → List Call → List Says → Books → Type 0 where
  none_made : {b : Books} → Made b [] [] b
  one_made : {b after end : Books} {c : Call} {cs : List Call} {a : Says} {said : List Says} → Did b c a after → Made after cs said end
      → Made b (c ∷ cs) (a ∷ said) end

-- how many units a call gave out, and how many it returned, by what it answered
abbrev pub given_by : Call → Says → ℕ
given_by (take n) (refusal k) = 0
given_by (take n) (block i) = n
given_by (take n) returned = 0
given_by (give_back i n) a = 0

abbrev pub returned_by : Call → Says → ℕ
returned_by (take n) a = 0
returned_by (give_back i n) (refusal k) = 0
returned_by (give_back i n) (block j) = 0
returned_by (give_back i n) returned = n

-- and all the calls together
unfoldable pub sum : (Call → Says → ℕ) → List Call → List Says → ℕ
sum f [] said = 0
sum f (c ∷ cs) [] = 0
sum f (c ∷ cs) (a ∷ said) = f c a + sum f cs said

-- of how many of the n numbers from j on p is true
unfoldable pub count : (ℕ → Bool) → ℕ → ℕ → ℕ
count p j zero = 0
count p j (suc n) = cond (p j) 1 0 + count p (j + 1) n

-- the units of the pool that are not free
abbrev pub not_free : Books → ℕ
not_free b = count (λ u. not (free_b b u)) 0 64

-- "From a free pool, books handed on as left, units given out less units returned always equal the units not free", over any list of
-- calls, refused ones included.
pub record Tallied (cs : List Call) (said : List Says) (end : Books) : Type 0 where
  -- the subtraction is exact
  pub no_more : sum returned_by cs said ≤ sum given_by cs said
  pub tally : sum given_by cs said - sum returned_by cs said ≡ not_free end
  -- a unit that is not free is a unit that is held
  pub held : (u : ℕ) → (free_b end u ≡ false) ↔ Held end u
  -- the books are sound, so no call is ever refused with 3
  pub sound : Sound end
  pub never_3 : (c : Call) → answer end c ≡ refusal 3 → ⊥

abbrev pub Tally : Type 0
Tally = (cs : List Call) (said : List Says) (end : Books) → Made free_pool cs said end → Tallied cs said end

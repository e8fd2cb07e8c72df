-- Request 2026-12 row by row: books, a call, its answer and the books that it leaves. Books and numbers are worked by hand from the page;
-- of `pool` only its calls and answers stand in what a row expects. proofs/Rows proves them by computation. Assumes nothing.
use Rattle.std.specs.Prelude.{ℕ, zero, suc, ◌≡◌, List, [], ◌∷◌, ◌++◌, map, replicate}
use Rattle.pool.specs.Pool.{Call, take, give_back, Says, refusal, block, returned, answer, next}

abbrev none : ℕ → List ℕ
none n = replicate n 0

abbrev counting : ℕ → ℕ → List ℕ
counting i zero = []
counting i (suc n) = i ∷ counting (suc i) n

pub record Row : Type 0 where
  pub books : List ℕ
  pub call : Call
  pub says : Says
  pub left : List ℕ

abbrev row : List ℕ → Call → Says → List ℕ → Row
row b c s l = record { books = b; call = c; says = s; left = l }

-- refused: the books stay
abbrev no : List ℕ → Call → ℕ → Row
no b c k = row b c (refusal k) b

-- BOOKS. None given out; one unit at 0; one at 5; 2 at 0 and 1 at 3; 32 at 0; 32 at 32; 4 at 4 and 8 at 8
abbrev free : List ℕ
free = none 64

abbrev one : List ℕ
one = 1 ∷ none 63

abbrev five : List ℕ
five = none 5 ++ (1 ∷ none 58)

abbrev mixed : List ℕ
mixed = 2 ∷ 0 ∷ 0 ∷ 1 ∷ none 60

abbrev low : List ℕ
low = 32 ∷ none 63

abbrev high : List ℕ
high = none 32 ++ (32 ∷ none 31)

abbrev both : List ℕ
both = 32 ∷ (none 31 ++ (32 ∷ none 31))

abbrev pair : List ℕ
pair = none 4 ++ (4 ∷ (none 3 ++ (8 ∷ none 55)))

-- TAKE: the lowest block that is wholly free and starts at a multiple of its size; 19: there is none
unfoldable pub taken : List Row
taken =
    row free (take 64) (block 0) (64 ∷ none 63)
    ∷ row one (take 1) (block 1) (1 ∷ 1 ∷ none 62)
    ∷ row one (take 2) (block 2) (1 ∷ 0 ∷ 2 ∷ none 61)
    ∷ row one (take 8) (block 8) (1 ∷ (none 7 ++ (8 ∷ none 55)))
    ∷ row one (take 32) (block 32) (1 ∷ (none 31 ++ (32 ∷ none 31)))
    ∷ no one (take 64) 19
    ∷ row five (take 4) (block 0) (4 ∷ (none 4 ++ (1 ∷ none 58)))
    ∷ row five (take 8) (block 8) (none 5 ++ (1 ∷ 0 ∷ 0 ∷ 8 ∷ none 55))
    ∷ row mixed (take 1) (block 2) (2 ∷ 0 ∷ 1 ∷ 1 ∷ none 60)
    ∷ row mixed (take 2) (block 4) (2 ∷ 0 ∷ 0 ∷ 1 ∷ 2 ∷ none 59)
    ∷ row low (take 32) (block 32) both
    ∷ row high (take 32) (block 0) both
    ∷ no both (take 1) 19
    ∷ []

-- RETURN: its units are free; 20: not given out in that place and size
unfoldable pub back : List Row
back =
    row pair (give_back 4 4) returned (none 8 ++ (8 ∷ none 55))
    ∷ row pair (give_back 8 8) returned (none 4 ++ (4 ∷ none 59))
    ∷ row (none 63 ++ (1 ∷ [])) (give_back 63 1) returned free
    ∷ no pair (give_back 4 8) 20
    ∷ no one (give_back 1 1) 20
    ∷ no low (give_back 16 16) 20
    ∷ no free (give_back 0 0) 20
    ∷ no free (give_back 64 0) 20
    ∷ no one (give_back 64 1) 20
    ∷ []

-- 3, before all else: blocks that overlap, also in their last unit; have another size; start off a multiple of theirs; leave the pool
unfoldable pub unsound : List Row
unsound =
    no (4 ∷ 0 ∷ 0 ∷ 1 ∷ none 60) (take 8) 3
    ∷ no (4 ∷ 0 ∷ 0 ∷ 1 ∷ none 60) (take 3) 3
    ∷ no (2 ∷ 1 ∷ none 62) (give_back 1 1) 3
    ∷ row (4 ∷ 0 ∷ 0 ∷ 0 ∷ 1 ∷ none 59) (take 1) (block 5) (4 ∷ 0 ∷ 0 ∷ 0 ∷ 1 ∷ 1 ∷ none 58)
    ∷ no (3 ∷ none 63) (take 1) 3
    ∷ no (none 61 ++ (3 ∷ none 2)) (give_back 61 3) 3
    ∷ no (128 ∷ none 63) (take 1) 3
    ∷ no (0 ∷ 2 ∷ none 62) (give_back 9 9) 3
    ∷ no (none 16 ++ (32 ∷ none 47)) (take 1) 3
    ∷ no (none 63 ++ (2 ∷ [])) (take 1) 3
    ∷ []

-- 18: "a request is for 1, 2, 4, 8, 16, 32 or 64 units; any other number is refused": each number from 0 to 255, of a free pool
unfoldable pub sizes : List Says
sizes =
    replicate 1 (refusal 18)
    ++ (replicate 2 (block 0)  -- 1, 2
    ++ (replicate 1 (refusal 18)
    ++ (block 0  -- 4
    ∷ (replicate 3 (refusal 18)
    ++ (block 0  -- 8
    ∷ (replicate 7 (refusal 18)
    ++ (block 0  -- 16
    ∷ (replicate 15 (refusal 18)
    ++ (block 0  -- 32
    ∷ (replicate 31 (refusal 18)
    ++ (block 0  -- 64
    ∷ replicate 191 (refusal 18))))))))))))

abbrev found : Row → Row
found r = row r.books r.call (answer r.books r.call) (next r.books r.call)

abbrev pub Right : List Row → Type 0
Right rows = map found rows ≡ rows

abbrev pub SizesRight : Type 0
SizesRight = map (λ n. answer free (take n)) (counting 0 256) ≡ sizes

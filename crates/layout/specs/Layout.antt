-- Rows of a message, once for every message that is rows of bits: laying out, cutting, and the laws of both over any list of rows.
-- Nothing here knows a message of Appendix A.
-- Assumes nothing.
use Rattle.std.specs.Prelude.{ℕ, zero, suc, ◌+◌, ◌*◌, ◌/◌, ◌%◌, ◌^◌, ◌≡◌, Bool, true, false, ◌&&◌, cond, List, [], ◌∷◌, ◌++◌, length, take, drop, eqb, ltb}

-- "so many bits, high bit first": the w low bits of x
unfoldable pub bits_of : ℕ → ℕ → List Bool
bits_of zero x = []
bits_of (suc w) x = eqb (x / 2 ^ w % 2) 1 ∷ bits_of w x

-- the number that bits spell
unfoldable pub number_of : List Bool → ℕ
number_of [] = 0
number_of (b ∷ m) = cond b (2 ^ length m) 0 + number_of m

-- the bits of bytes
unfoldable pub spread : List ℕ → List Bool
spread [] = []
spread (b ∷ l) = bits_of 8 b ++ spread l

-- n bytes of bits
unfoldable pub gather : ℕ → List Bool → List ℕ
gather zero m = []
gather (suc n) m = number_of (take 8 m) ∷ gather n (drop 8 m)

-- a row: its width and what stands there. A row of bytes has 8 bits a byte, every other so many bits
pub data Row : Type 0 where
  -- written as given, and tested
  fixed : ℕ → ℕ → Row
  -- written zero, and not looked at
  reserved : ℕ → Row
  -- a field that is a number
  number : ℕ → Row
  -- a field of exactly so many bytes
  bytes : ℕ → Row

pub data Field : Type 0 where
  num : ℕ → Field
  str : List ℕ → Field

unfoldable pub width_of : List Row → ℕ
width_of [] = 0
width_of (fixed w v ∷ rows) = w + width_of rows
width_of (reserved w ∷ rows) = w + width_of rows
width_of (number w ∷ rows) = w + width_of rows
width_of (bytes n ∷ rows) = 8 * n + width_of rows

unfoldable pub are_bytes : List ℕ → Bool
are_bytes [] = true
are_bytes (b ∷ l) = ltb b 256 && are_bytes l

-- "fields fit if each is below 2 to its bits"; a row of bytes is a field of exactly so many bytes
unfoldable pub fits : List Row → List Field → Bool
fits [] [] = true
fits [] (f ∷ fs) = false
fits (fixed w v ∷ rows) fs = fits rows fs
fits (reserved w ∷ rows) fs = fits rows fs
fits (number w ∷ rows) [] = false
fits (number w ∷ rows) (num x ∷ fs) = ltb x (2 ^ w) && fits rows fs
fits (number w ∷ rows) (str b ∷ fs) = false
fits (bytes n ∷ rows) [] = false
fits (bytes n ∷ rows) (num x ∷ fs) = false
fits (bytes n ∷ rows) (str b ∷ fs) = eqb (length b) n && (are_bytes b && fits rows fs)

-- "writing lays the rows out: = rows as given, reserved rows zero, the rest from the fields"
unfoldable pub lay_out : List Row → List Field → List Bool
lay_out [] fs = []
lay_out (fixed w v ∷ rows) fs = bits_of w v ++ lay_out rows fs
lay_out (reserved w ∷ rows) fs = bits_of w 0 ++ lay_out rows fs
lay_out (number w ∷ rows) [] = []
lay_out (number w ∷ rows) (num x ∷ fs) = bits_of w x ++ lay_out rows fs
lay_out (number w ∷ rows) (str b ∷ fs) = []
lay_out (bytes n ∷ rows) [] = []
lay_out (bytes n ∷ rows) (num x ∷ fs) = []
lay_out (bytes n ∷ rows) (str b ∷ fs) = spread b ++ lay_out rows fs

-- "reading cuts them: = rows are tested, reserved rows not looked at, the rest are the fields"
unfoldable pub cut : List Row → List Bool → List Field
cut [] m = []
cut (fixed w v ∷ rows) m = cut rows (drop w m)
cut (reserved w ∷ rows) m = cut rows (drop w m)
cut (number w ∷ rows) m = num (number_of (take w m)) ∷ cut rows (drop w m)
cut (bytes n ∷ rows) m = str (gather n (take (8 * n) m)) ∷ cut rows (drop (8 * n) m)

-- the = rows are as given
unfoldable pub as_given : List Row → List Bool → Bool
as_given [] m = true
as_given (fixed w v ∷ rows) m = eqb (number_of (take w m)) v && as_given rows (drop w m)
as_given (reserved w ∷ rows) m = as_given rows (drop w m)
as_given (number w ∷ rows) m = as_given rows (drop w m)
as_given (bytes n ∷ rows) m = as_given rows (drop (8 * n) m)

-- the reserved rows are zero
unfoldable pub reserved_zero : List Row → List Bool → Bool
reserved_zero [] m = true
reserved_zero (fixed w v ∷ rows) m = reserved_zero rows (drop w m)
reserved_zero (reserved w ∷ rows) m = eqb (number_of (take w m)) 0 && reserved_zero rows (drop w m)
reserved_zero (number w ∷ rows) m = reserved_zero rows (drop w m)
reserved_zero (bytes n ∷ rows) m = reserved_zero rows (drop (8 * n) m)

-- what the = rows give is below 2 to their bits
unfoldable pub given_fit : List Row → Bool
given_fit [] = true
given_fit (fixed w v ∷ rows) = ltb v (2 ^ w) && given_fit rows
given_fit (reserved w ∷ rows) = given_fit rows
given_fit (number w ∷ rows) = given_fit rows
given_fit (bytes n ∷ rows) = given_fit rows

-- a message of n bytes: written, and its fields read
unfoldable pub written_of : ℕ → List Row → List Field → List ℕ
written_of n rows fs = gather n (lay_out rows fs)

unfoldable pub fields_of : List Row → List ℕ → List Field
fields_of rows l = cut rows (spread l)

-- the laws, each over any rows that make n bytes; proofs/Laws proves them
-- fields that fit read back, with the = rows as given and the reserved rows zero
pub record WellWritten (rows : List Row) (fs : List Field) (l : List ℕ) : Type 0 where
  pub back : fields_of rows l ≡ fs
  pub given : as_given rows (spread l) ≡ true
  pub zeros : reserved_zero rows (spread l) ≡ true

abbrev pub ReadsBack : Type 0
ReadsBack =
    (rows : List Row) (n : ℕ) (fs : List Field) → width_of rows ≡ 8 * n → given_fit rows ≡ true → fits rows fs ≡ true
    → WellWritten rows fs (written_of n rows fs)

-- what is read fits
abbrev pub ReadFits : Type 0
ReadFits = (rows : List Row) (l : List ℕ) → width_of rows ≡ 8 * length l → fits rows (fields_of rows l) ≡ true

-- a message with its = rows as given and its reserved rows zero is written again byte for byte
abbrev pub WrittenAgain : Type 0
WrittenAgain =
    (rows : List Row) (l : List ℕ) → are_bytes l ≡ true → width_of rows ≡ 8 * length l
    → as_given rows (spread l) ≡ true → reserved_zero rows (spread l) ≡ true → written_of (length l) rows (fields_of rows l) ≡ l

-- what the functions read and write: the bits of n bytes from byte i on, their number, and the bytes
abbrev pub from : List ℕ → ℕ → List Bool
from l i = drop (8 * i) (spread l)

unfoldable pub number_at : List ℕ → ℕ → ℕ → ℕ
number_at l i n = number_of (take (8 * n) (from l i))

unfoldable pub bytes_at : List ℕ → ℕ → ℕ → List ℕ
bytes_at l i n = gather n (take (8 * n) (from l i))

-- x as n bytes, high byte first
unfoldable pub be_of : ℕ → ℕ → List ℕ
be_of n x = gather n (bits_of (8 * n) x)

-- p over the bytes of l from byte i on; where it does not stand within l, l as it is
unfoldable pub laid_at : List ℕ → ℕ → List ℕ → List ℕ
laid_at l i p = cond (ltb (length l) (i + length p)) l (take i l ++ (p ++ drop (i + length p) l))

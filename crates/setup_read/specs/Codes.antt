-- Request 2026-05, "Size codes".
-- Assumes nothing.
use Rattle.std.specs.Prelude.{ℕ, ◌+◌, ◌^◌, ◌≤◌, ◌<◌, ◌≡◌, cond, leb, eqb}

-- "code 0 is 16,384 bytes, 1 32,768, .., 5 524,288; 6 to 15 mean nothing": (2^(x + 4)) * 1K, and 0 where a code has no bytes
unfoldable pub bytes_of_code : ℕ → ℕ
bytes_of_code c = cond (leb c 5) (2 ^ (c + 14)) 0

-- what stands for no code
abbrev pub no_code : ℕ
no_code = 16

-- "N has the code whose bytes are N; any other N has none"
unfoldable pub code_of : ℕ → ℕ
code_of n =
    cond (eqb n 16384) 0
    (cond (eqb n 32768) 1
    (cond (eqb n 65536) 2
    (cond (eqb n 131072) 3
    (cond (eqb n 262144) 4
    (cond (eqb n 524288) 5
    no_code)))))

-- proofs/Codes proves these
-- of 0 to 5, bytes and back is the same; of an N with a code, too
abbrev pub CodeBack : Type 0
CodeBack = (c : ℕ) → c ≤ 5 → code_of (bytes_of_code c) ≡ c

abbrev pub SizeBack : Type 0
SizeBack = (n : ℕ) → code_of n < no_code → bytes_of_code (code_of n) ≡ n

-- some bytes, and at most 65,540, exactly for 0 to 2
abbrev pub Small : Type 0
Small = (c : ℕ) → (((1 ≤ bytes_of_code c) × (bytes_of_code c ≤ 65540)) → c ≤ 2) × (c ≤ 2 → ((1 ≤ bytes_of_code c) × (bytes_of_code c ≤ 65540)))

-- Document 01, "The memory and the tables", Place, Read and Open: an element's bytes. Where A stands for "byte", no rule looks at one.
-- Assumes nothing.
use Rattle.std.specs.Prelude.{ℕ, zero, suc, ◌+◌, ◌-◌, ◌*◌, Bool, true, ◌&&◌, cond, List, [], ◌∷◌, ◌++◌, ltb, leb, eqb, length, take, drop, get_or, replicate}
use Rattle.std.proofs.Math.IntN.{sub_ℕ}
use Rattle.cursor.specs.Cursor.{modℤ}

-- the size bytes from base on
unfoldable pub part : {A : Type 0} → List A → ℕ → ℕ → List A
part m base size = take size (drop base m)

-- element k (1 to S) is bytes (k-1)N to kN-1 (exact: k is 1 or more)
abbrev pub base_of : ℕ → ℕ → ℕ
base_of n k = (k - 1) * n

unfoldable pub element_of : {A : Type 0} → ℕ → ℕ → List A → List A
element_of n k m = part m (base_of n k) n

-- the list with the bytes b in place from a on, and every other byte as it was
unfoldable pub splice : {A : Type 0} → List A → ℕ → List A → List A
splice l a b = take a l ++ (b ++ drop (a + length b) l)

-- size bytes from base on lie in the memory
abbrev pub within : {A : Type 0} → List A → ℕ → ℕ → Bool
within m base size = leb (base + size) (length m)

-- its first four bytes are the eye catcher, E2 D4 C3 D9
abbrev pub eye_catcher : List ℕ
eye_catcher = 0xE2 ∷ 0xD4 ∷ 0xC3 ∷ 0xD9 ∷ []

unfoldable pub intact_b : List ℕ → Bool
intact_b e =
    leb 4 (length e)
    && (eqb (get_or e 0 0) 0xE2 && (eqb (get_or e 1 0) 0xD4 && (eqb (get_or e 2 0) 0xC3 && eqb (get_or e 3 0) 0xD9)))

unfoldable pub intact_at : List ℕ → ℕ → Bool
intact_at m base = intact_b (drop base m)

-- open zeroes the element and writes the eye catcher (exact: N is 8 or more)
unfoldable pub fresh_element : ℕ → List ℕ
fresh_element n = eye_catcher ++ replicate (n - 4) 0

-- what `element::clear` does for all inputs: elsewhere the memory stays. Open's rule is `freshElement`
abbrev pub clears : List ℕ → ℕ → ℕ → Bool
clears m base size = within m base size && leb 4 size

unfoldable pub cleared_of : List ℕ → ℕ → ℕ → List ℕ
cleared_of m base size = cond (clears m base size) (splice m base (fresh_element size)) m

-- place: byte x of the element is free if (x - P's offset) mod D is below D minus the distance T to P, the window
abbrev pub free_from : ℕ → ℕ → ℕ → ℕ
free_from d p x = modℤ (sub_ℕ x p) d

-- (D is 4 or more wherever a rule asks; with no data no byte is free)
abbrev pub free_b : ℕ → ℕ → ℕ → ℕ → Bool
free_b d p window x = ltb (free_from d p x) window && ltb 0 d

-- each of k bytes from x on is free
unfoldable pub all_free : ℕ → ℕ → ℕ → ℕ → ℕ → Bool
all_free d p window x zero = true
all_free d p window x (suc k) = free_b d p window x && all_free d p window (x + 1) k

-- the bytes must lie in 4 to N-1
abbrev pub in_data : ℕ → ℕ → ℕ → Bool
in_data n x k = leb 4 x && leb (x + k) n

-- then they are stored and nothing else. What `element::store` does for all inputs: bytes that lie in the memory, and are no more than the
-- largest D, are stored; elsewhere the memory stays. Place's rule is `mayPlace` of crate conn_receive, and a splice of the element
abbrev pub stores : List ℕ → ℕ → List ℕ → Bool
stores m at b = leb (length b) 65536 && within m at (length b)

unfoldable pub stored_of : List ℕ → ℕ → List ℕ → List ℕ
stored_of m at b = cond (stores m at b) (splice m at b) m

-- read: the data bytes of an element in the order in which a reader at offset `at` meets them: from `at` to the end, then from 4 up to
-- `at` (exact: offsets are 4 or more)
unfoldable pub ring_from : {A : Type 0} → List A → ℕ → List A
ring_from e at = drop at e ++ take (at - 4) (drop 4 e)

-- the first n unread bytes
unfoldable pub unread : {A : Type 0} → List A → ℕ → ℕ → List A
unread e at n = take n (ring_from e at)

-- out with n unread bytes copied to its front; out beyond n stays
abbrev pub into_out : List ℕ → ℕ → ℕ → List ℕ → List ℕ
into_out e at n out = unread e at n ++ drop n out

-- what `element::read` does for all inputs: elsewhere out stays (exact: size is above `at`, which is 4 or more)
abbrev pub reads : List ℕ → ℕ → ℕ → ℕ → ℕ → List ℕ → Bool
reads m base size at n out =
    within m base size && (leb size 65540 && (leb 4 at && (ltb at size && (leb n (length out) && leb n (size - 4)))))

unfoldable pub read_of : List ℕ → ℕ → ℕ → ℕ → ℕ → List ℕ → List ℕ
read_of m base size at n out = cond (reads m base size at n out) (into_out (part m base size) at n out) out

-- Numbers and bytes at places of a message, and what is laid there.
-- Assumes nothing.
use mathlib.Core.Path.{◌≡◌, ◌∙◌, refl, ap, sym, subst}
use mathlib.Core.Bool.{Bool, true, false, ◌&&◌}
use mathlib.Core.List.{List, [], ◌∷◌, ◌++◌, append_assoc, append-nil}
use Prim.Native.Nat.{ℕ, zero, suc, ◌+◌, ◌-◌, ◌*◌, ◌/◌, ◌%◌, ◌^◌, ◌≤◌, ◌<◌, min}
use native.Mathlib.Nat.{mod-eq_of_lt, div-one}
use native.Mathlib.Numerals.{add-one}
use native.Mathlib.Omega.{arith}
use lib.ListN.{length, take, drop, get_or, replicate, length-append, length-take, length-drop, length-replicate, get_or-append, get_or-replicate, get_or-eq_default}
use lib.Seq.{take_at, drop_at, take-suc, take_all, take-nil, length-take-le, drop-drop, take-take, get_or-drop, ext_get_or}
use lib.Seq.{take-append-add, drop-length, get_or-append_right}
use native.Mathlib.Decide.{dec_lt}
use Rattle.std.proofs.lemmas.List.{get_or-take}
use lib.Dec.{ltb, leb}
use lib.Pow.{pow_mono, pow-add}
use borrow.Author.Tests.{le-ltb, lt-ltb, leb-true, leb-false}
use native.Mathlib.Nat.{min-eq_left, min-eq_right}
use borrow.Rule.Slice.PartMut.{put_mid, post_of, Post-is}
use Rattle.layout.specs.Layout.{bits_of, number_of, spread, gather, are_bytes, number_at, bytes_at, be_of, laid_at}
use Rattle.layout.proofs.Bits.{and_left, and_right, gather_bytes, spread_gather, number_zero, bits_length, number_bits}
use Rattle.layout.proofs.Bits.{number_less, number_append, bits_split, spread-length, spread_append, spread_drop, gather_length}
use Rattle.layout.proofs.Bits.{gather_append}

pub spread_take : (n : ℕ) (l : List ℕ) → take (8 * n) (spread l) ≡ spread (take n l)
unfolding spread
spread_take zero l = refl
spread_take (suc n) [] = take-nil (8 * suc n)
spread_take (suc n) (b ∷ l) =
    ap (λ (k : ℕ). take k (bits_of 8 b ++ spread l)) {x = 8 * suc n} {y = length (bits_of 8 b) + 8 * n} (omega (arith, bits_length 8 b))
    ∙ take-append-add (bits_of 8 b) (spread l) (8 * n)
    ∙ ap (λ (t : List Bool). bits_of 8 b ++ t) (spread_take n l)

-- the number at a place is that of the bytes there
pub number_at_lem : (l : List ℕ) (i n : ℕ) → number_at l i n ≡ number_of (spread (take n (drop i l)))
unfolding number_at
number_at_lem l i n = ap (λ (m : List Bool). number_of (take (8 * n) m)) (spread_drop i l) ∙ ap number_of (spread_take n (drop i l))

pub number_none : (l : List ℕ) (i : ℕ) → number_at l i 0 ≡ 0
unfolding number_at number_of
number_none l i = refl

pub number_next : (l : List ℕ) (i k : ℕ) → i + k < length l → get_or l (i + k) 0 < 256
    → number_at l i (k + 1) ≡ number_at l i k * 256 + get_or l (i + k) 0
unfolding spread
number_next l i k h small =
    let t = drop i l in
    let b = get_or l (i + k) 0 in
    let inside : k < length t = omega (arith, length-drop i l) in
    let e : take (k + 1) t ≡ take k t ++ (b ∷ []) =
    ap (λ (j : ℕ). take j t) (add-one k) ∙ take-suc t k 0 inside ∙ ap (λ (x : ℕ). take k t ++ (x ∷ [])) (get_or-drop i l k 0) in
    let one : spread (b ∷ []) ≡ bits_of 8 b = append-nil (bits_of 8 b) in
    let low : number_of (bits_of 8 b) ≡ b = number_bits 8 b ∙ mod-eq_of_lt small in
    number_at_lem l i (k + 1)
    ∙ ap (λ (x : List ℕ). number_of (spread x)) e
    ∙ ap number_of (spread_append (take k t) (b ∷ []) ∙ ap (λ (m : List Bool). spread (take k t) ++ m) one)
    ∙ number_append (spread (take k t)) (bits_of 8 b)
    ∙ (λ j. sym (number_at_lem l i k) j * 2 ^ bits_length 8 b j + low j)

-- past the end there is nothing more
pub number_all : (l : List ℕ) (i n : ℕ) → length l - i ≤ n → number_at l i (length l - i) ≡ number_at l i n
number_all l i n h =
    let t = drop i l in
    let k : length t ≡ length l - i = length-drop i l in
    number_at_lem l i (length l - i)
    ∙ ap (λ (x : List ℕ). number_of (spread x)) (take_all (length l - i) t (omega arith) ∙ sym (take_all n t (omega arith)))
    ∙ sym (number_at_lem l i n)

pub number_bound : (l : List ℕ) (i n : ℕ) → number_at l i n < 2 ^ (8 * n)
unfolding number_at
number_bound l i n =
    let m = take (8 * n) (drop (8 * i) (spread l)) in
    let le : length m ≤ 8 * n = omega (arith, length-take (8 * n) (drop (8 * i) (spread l))) in
    omega (arith, number_less m, pow_mono le)

-- the bytes at a place, one by one: zeros past the end
pub gathered_at : (n : ℕ) (l : List ℕ) → ((i : ℕ) → get_or l i 0 < 256) → (k : ℕ) → k < n → get_or (gather n (spread l)) k 0 ≡ get_or l k 0
unfolding gather spread number_of
gathered_at zero l b k h = absurd (omega arith)
gathered_at (suc n) [] b zero h = refl
gathered_at (suc n) [] b (suc k) h = gathered_at n [] b k (omega arith)
gathered_at (suc n) (x ∷ l) b zero h =
    ap number_of (take_at (bits_of 8 x) (spread l) 8 (bits_length 8 x)) ∙ number_bits 8 x ∙ mod-eq_of_lt (b 0)
gathered_at (suc n) (x ∷ l) b (suc k) h =
    ap (λ (m : List Bool). get_or (gather n m) k 0) (drop_at (bits_of 8 x) (spread l) 8 (bits_length 8 x))
    ∙ gathered_at n l (λ i. b (suc i)) k (omega arith)

gather_take : (n : ℕ) (m : List Bool) → gather n (take (8 * n) m) ≡ gather n m
unfolding gather
gather_take zero m = refl
gather_take (suc n) m =
    let e : 8 * suc n ≡ 8 + 8 * n = omega arith in
    ap (λ (k : ℕ). gather (suc n) (take k m)) e
    ∙ (λ i.
    number_of (take-take 8 (8 + 8 * n) m (omega arith) i)
    ∷ (ap (gather n) (drop-take 8 (8 * n) m) ∙ gather_take n (drop 8 m)) i)
  where
    drop-take : (a b : ℕ) (m : List Bool) → drop a (take (a + b) m) ≡ take b (drop a m)
    drop-take zero b m = ap (λ (k : ℕ). take k m) {x = 0 + b} {y = b} (omega arith)
    drop-take (suc a) b [] = ap (drop (suc a)) (take-nil (suc a + b)) ∙ sym (take-nil b)
    drop-take (suc a) b (x ∷ m) = ap (λ (k : ℕ). drop (suc a) (take k (x ∷ m))) {x = suc a + b} {y = suc (a + b)} (omega arith) ∙ drop-take a b m

pub bytes_filled : (l o : List ℕ) (at : ℕ) → ((i : ℕ) → get_or l i 0 < 256)
    → ((k : ℕ) → k < length o → get_or o k 0 ≡ get_or (drop at l) k 0) → o ≡ bytes_at l at (length o)
unfolding bytes_at
bytes_filled l o at b h =
    let t = drop at l in
    let small : (i : ℕ) → get_or t i 0 < 256 = λ i. subst (λ (x : ℕ). x < 256) (sym (get_or-drop at l i 0)) (b (at + i)) in
    ext_get_or 0 o (gather (length o) (spread t)) (sym (gather_length (length o) (spread t)))
    (λ k j. h k j ∙ sym (gathered_at (length o) t small k j))
    ∙ ap (gather (length o)) (sym (spread_drop at l))
    ∙ sym (gather_take (length o) (drop (8 * at) (spread l)))

-- what is laid within, and what is not
pub laid_in : (l p : List ℕ) (i : ℕ) → i + length p ≤ length l → laid_at l i p ≡ take i l ++ (p ++ drop (i + length p) l)
unfolding laid_at
laid_in l p i h = simp (le-ltb _ _ h)

pub laid_out : (l p : List ℕ) (i : ℕ) → length l < i + length p → laid_at l i p ≡ l
unfolding laid_at
laid_out l p i h = simp (lt-ltb _ _ h)

-- a number's bytes, high byte first
pub be_next : (k x : ℕ) → gather (suc k) (bits_of (8 * suc k) x) ≡ x / 2 ^ (8 * k) % 256 ∷ gather k (bits_of (8 * k) x)
unfolding gather
be_next k x =
    let e : bits_of (8 * suc k) x ≡ bits_of 8 (x / 2 ^ (8 * k)) ++ bits_of (8 * k) x =
    ap (λ (n : ℕ). bits_of n x) {x = 8 * suc k} {y = 8 + 8 * k} (omega arith) ∙ bits_split 8 (8 * k) x in
    let a = bits_of 8 (x / 2 ^ (8 * k)) in
    ap (gather (suc k)) e
    ∙ (λ i.
    (ap number_of (take_at a (bits_of (8 * k) x) 8 (bits_length 8 _)) ∙ number_bits 8 (x / 2 ^ (8 * k))) i
    ∷ gather k (drop_at a (bits_of (8 * k) x) 8 (bits_length 8 (x / 2 ^ (8 * k))) i))

-- the last n of so many
pub be_last : (k n x : ℕ) → drop k (gather (k + n) (bits_of (8 * (k + n)) x)) ≡ gather n (bits_of (8 * n) x)
be_last k n x =
    let a = bits_of (8 * k) (x / 2 ^ (8 * n)) in
    ap (λ (m : List Bool). drop k (gather (k + n) m))
    (ap (λ (j : ℕ). bits_of j x) {x = 8 * (k + n)} {y = 8 * k + 8 * n} (omega arith) ∙ bits_split (8 * k) (8 * n) x)
    ∙ ap (drop k) (gather_append k n a (bits_of (8 * n) x) (bits_length (8 * k) (x / 2 ^ (8 * n))))
    ∙ drop_at (gather k a) (gather n (bits_of (8 * n) x)) k (gather_length k a)

pub eight : (x : ℕ) → gather 8 (bits_of 64 x)
    ≡ x / 72057594037927936 % 256 ∷ x / 281474976710656 % 256 ∷ x / 1099511627776 % 256 ∷ x / 4294967296 % 256
    ∷ x / 16777216 % 256 ∷ x / 65536 % 256 ∷ x / 256 % 256 ∷ x % 256 ∷ []
unfolding gather
eight x =
    be_next 7 x
    ∙ (λ i. x / 72057594037927936 % 256 ∷ (be_next 6 x
    ∙ (λ i. x / 281474976710656 % 256 ∷ (be_next 5 x
    ∙ (λ i. x / 1099511627776 % 256 ∷ (be_next 4 x
    ∙ (λ i. x / 4294967296 % 256 ∷ (be_next 3 x
    ∙ (λ i. x / 16777216 % 256 ∷ (be_next 2 x
    ∙ (λ i. x / 65536 % 256 ∷ (be_next 1 x
    ∙ (λ i. x / 256 % 256 ∷ (be_next 0 x ∙ (λ i. div-one x i % 256 ∷ [])) i)) i)) i)) i)) i)) i)) i)

-- loops: one more byte, and all of them
-- what stands at a place of the bytes that there are, and zeros behind them
bytes_or_zeros : (s : List ℕ) (at f n o k : ℕ) → f ≡ min at (length s) → n ≡ min o (length s - f) → k < o
    → get_or (take n (drop f s) ++ replicate (o - n) 0) k 0 ≡ get_or (drop at s) k 0
bytes_or_zeros s at f n o k e g h =
    let q = take n (drop f s) in
    let z : List ℕ = replicate (o - n) 0 in
    let l : length q ≡ n = length-take-le n (drop f s) (omega (arith, length-drop f s)) in
    elim (dec_lt k n) [
      | yes w ↦
          let same : f ≡ at = omega arith in
          get_or-append q z 0 k (omega arith) ∙ get_or-take n (drop f s) k 0 w ∙ ap (λ (a : ℕ). get_or (drop a s) k 0) same
      | no w ↦
          get_or-append_right q z k 0 (omega arith)
          ∙ get_or-replicate (o - n) (k - length q) 0 0 (omega arith)
          ∙ sym (get_or-eq_default (drop at s) 0 (omega (arith, length-drop at s)))
    ]

pub bytes_and_zeros : (s : List ℕ) (at f n o : ℕ) → f ≡ min at (length s) → n ≡ min o (length s - f) → ((i : ℕ) → get_or s i 0 < 256)
    → take n (drop f s) ++ replicate (o - n) 0 ≡ bytes_at s at o
bytes_and_zeros s at f n o e g b =
    let q = take n (drop f s) in
    let z : List ℕ = replicate (o - n) 0 in
    let l : length (q ++ z) ≡ o =
    length-append q z ∙ omega (arith, length-take-le n (drop f s) (omega (arith, length-drop f s)), length-replicate {A = ℕ} (o - n) 0) in
    bytes_filled s (q ++ z) at b (λ k h. bytes_or_zeros s at f n o k e g (omega arith)) ∙ ap (bytes_at s at) l

-- what `&mut o[..n]` and then `&mut o[n..]` leave of o
pub halves : (q o z : List ℕ) (n : ℕ) → length q ≡ n → n ≤ length o
    → z ≡ replicate (length (take (length (q ++ drop n o) - n) (drop n (q ++ drop n o)))) 0
    → take n (q ++ drop n o) ++ (z ++ post_of n (length (q ++ drop n o) - n) (q ++ drop n o)) ≡ q ++ replicate (length o - n) 0
halves q o z n l h e =
    let D = drop n o in
    let Q = q ++ D in
    let s : length Q ≡ length o = length-append q D ∙ omega (arith, length-drop n o) in
    let m : length (take (length Q - n) (drop n Q)) ≡ length o - n = omega (arith, length-take (length Q - n) (drop n Q), length-drop n Q) in
    let rest : post_of n (length Q - n) Q ≡ [] = Post-is n (length Q) Q (omega arith) ∙ drop-length Q in
    let zeros : z ≡ replicate (length o - n) 0 = e ∙ ap (λ (k : ℕ). replicate k 0) m in
    (λ i. take_at q D n l i ++ (zeros i ++ rest i)) ∙ ap (λ (t : List ℕ). q ++ t) (append-nil (replicate (length o - n) 0))

-- what `&mut l[i..i + n]` leaves of l when it comes back as q
pub laid_mid : (l q p : List ℕ) (i n : ℕ) → q ≡ p → n ≡ length p → i + n ≤ length l → put_mid i (i + n - i) l q ≡ laid_at l i p
laid_mid l q p i n e h k =
    ap (λ (t : List ℕ). take i l ++ (t ++ post_of i (i + n - i) l)) e
    ∙ ap (λ (t : List ℕ). take i l ++ (p ++ t)) (Post-is i (i + n) l (omega arith) ∙ ap (λ (m : ℕ). drop (i + m) l) h)
    ∙ sym (laid_in l p i (omega arith))

pub number_min : (l : List ℕ) (i n : ℕ) → number_at l i (min n (length l - i)) ≡ number_at l i n
number_min l i n = go (leb n (length l - i)) refl
  where
    go : (t : Bool) → leb n (length l - i) ≡ t → number_at l i (min n (length l - i)) ≡ number_at l i n
    go true h = ap (number_at l i) (min-eq_left (leb-true n (length l - i) h))
    go false h = let k : length l - i ≤ n = omega (arith, leb-false n (length l - i) h) in ap (number_at l i) (min-eq_right k) ∙ number_all l i n k

pub next_bound : (i x b : ℕ) → x < 2 ^ (8 * i) → b < 256 → x * 256 + b < 2 ^ (8 * (i + 1))
next_bound i x b h k =
    let e : 2 ^ (8 * (i + 1)) ≡ 2 ^ (8 * i) * 256 = ap (λ (n : ℕ). 2 ^ n) {x = 8 * (i + 1)} {y = 8 * i + 8} (omega arith) ∙ pow-add 2 (8 * i) 8 in
    omega arith

-- the last of eight bytes
pub low_bytes : (n x k : ℕ) → k ≡ 8 - min n 8
    → take (8 - k) (drop k (
    x / 72057594037927936 % 256 ∷ x / 281474976710656 % 256 ∷ x / 1099511627776 % 256 ∷ x / 4294967296 % 256
    ∷ x / 16777216 % 256 ∷ x / 65536 % 256 ∷ x / 256 % 256 ∷ x % 256 ∷ []
    ))
    ≡ be_of (min n 8) x
unfolding be_of
low_bytes n x k e =
    let m = min n 8 in
    let s : k + m ≡ 8 = omega arith in
    let f : drop k (gather 8 (bits_of 64 x)) ≡ gather m (bits_of (8 * m) x) =
    subst (λ (j : ℕ). drop k (gather j (bits_of (8 * j) x)) ≡ gather m (bits_of (8 * m) x)) s (be_last k m x) in
    let g = gather m (bits_of (8 * m) x) in
    ap (λ (t : List ℕ). take (8 - k) (drop k t)) (sym (eight x))
    ∙ ap (take (8 - k)) f
    ∙ take_all (8 - k) g (omega (arith, gather_length m (bits_of (8 * m) x)))

-- a number's bytes
pub be_length : (n x : ℕ) → length (be_of n x) ≡ n
unfolding be_of
be_length n x = gather_length n (bits_of (8 * n) x)

pub be_bytes : (n x : ℕ) → are_bytes (be_of n x) ≡ true
unfolding be_of
be_bytes n x = gather_bytes n (bits_of (8 * n) x)

pub spread_be : (n x : ℕ) → spread (be_of n x) ≡ bits_of (8 * n) x
unfolding be_of
spread_be n x = spread_gather n (bits_of (8 * n) x) (bits_length (8 * n) x)

pub append_bytes : (a b : List ℕ) → are_bytes a ≡ true → are_bytes b ≡ true → are_bytes (a ++ b) ≡ true
unfolding are_bytes
append_bytes [] b ea eb = eb
append_bytes (x ∷ a) b ea eb = λ i. and_left (ltb x 256) _ ea i && append_bytes a b (and_right (ltb x 256) _ ea) eb i

-- zeros
pub zeros_bytes : (n : ℕ) → are_bytes (replicate n 0) ≡ true
unfolding are_bytes
zeros_bytes zero = refl
zeros_bytes (suc n) = zeros_bytes n

empty : number_of (spread []) ≡ 0
unfolding spread number_of
empty = refl

more : (n : ℕ) → number_of (spread (replicate n 0)) ≡ 0 → number_of (spread (0 ∷ replicate n 0)) ≡ 0
unfolding spread
more n h =
    number_append (bits_of 8 0) (spread (replicate n 0))
    ∙ (λ i. number_bits 8 0 i * 2 ^ length (spread (replicate n 0)) + h i)
    ∙ omega arith

zeros_number : (n : ℕ) → number_of (spread (replicate n 0)) ≡ 0
zeros_number zero = empty
zeros_number (suc n) = more n (zeros_number n)

pub spread_zeros : (n : ℕ) → spread (replicate n 0) ≡ bits_of (8 * n) 0
spread_zeros n =
    let m = spread (replicate n 0) in
    let e : length m ≡ 8 * n = spread-length (replicate n 0) ∙ ap (λ (k : ℕ). 8 * k) (length-replicate n 0) in
    number_zero m (zeros_number n) ∙ ap (λ (k : ℕ). bits_of k 0) e

-- one piece laid behind another
pub record Over (l : List ℕ) (i : ℕ) (p : List ℕ) (n : ℕ) (r : List ℕ) : Type 0 where
  pub size : length p ≡ n
  pub fit : i + n ≤ length l
  pub is : r ≡ laid_at l i p

pub over_first : (l p r : List ℕ) (i n : ℕ) → length p ≡ n → i + n ≤ length l → r ≡ laid_at l i p → Over l i p n r
over_first l p r i n s f e = record { size = s; fit = f; is = e }

pub over_next : {l p r : List ℕ} {i n : ℕ} → Over l i p n r → (j : ℕ) (q t : List ℕ) (k : ℕ) → length q ≡ k → j ≡ i + n → i + (n + k) ≤ length l
    → t ≡ laid_at r j q → Over l i (p ++ q) (n + k) t
over_next {l} {p} {r} {i} {n} o j q t k s ej f e =
    let P = take i l in
    let lp : length P ≡ i = length-take-le i l (omega (arith, o.fit)) in
    let size : length (p ++ q) ≡ n + k = length-append p q ∙ (λ h. o.size h + s h) in
    let r_is : r ≡ (P ++ p) ++ drop (i + n) l =
    o.is
    ∙ laid_in l p i (omega (arith, o.fit, o.size))
    ∙ sym (append_assoc P p (drop (i + length p) l))
    ∙ ap (λ (h : ℕ). (P ++ p) ++ drop (i + h) l) o.size in
    let lpp : length (P ++ p) ≡ j = length-append P p ∙ (λ h. lp h + o.size h) ∙ sym ej in
    let rest : length (drop (i + n) l) ≡ length l - (i + n) = length-drop (i + n) l in
    let lr : length r ≡ length l = ap length r_is ∙ length-append (P ++ p) (drop (i + n) l) ∙ omega (arith, o.fit) in
    let a : take j r ≡ P ++ p = ap (take j) r_is ∙ take_at (P ++ p) (drop (i + n) l) j lpp in
    let b : drop (j + length q) r ≡ drop (i + (n + k)) l =
    ap (λ (h : ℕ). drop (j + h) r) s
    ∙ sym (drop-drop k j r)
    ∙ ap (drop k) (ap (drop j) r_is ∙ drop_at (P ++ p) (drop (i + n) l) j lpp)
    ∙ drop-drop k (i + n) l
    ∙ ap (λ (h : ℕ). drop h l) {x = i + n + k} {y = i + (n + k)} (omega arith) in
    record {
      size = size;
      fit = f;
      is =
          e
          ∙ laid_in r q j (omega (arith, s, lr))
          ∙ (λ h. a h ++ (q ++ b h))
          ∙ append_assoc P p (q ++ drop (i + (n + k)) l)
          ∙ ap (λ (x : List ℕ). P ++ x) (sym (append_assoc p q (drop (i + (n + k)) l)))
          ∙ ap (λ (h : ℕ). P ++ ((p ++ q) ++ drop (i + h) l)) (sym size)
          ∙ sym (laid_in l (p ++ q) i (omega (arith, size)));
    }

-- laying keeps the length
pub over_length : {l p r : List ℕ} {i n : ℕ} → Over l i p n r → length r ≡ length l
over_length {l} {p} {r} {i} {n} o =
    ap length (o.is ∙ laid_in l p i (omega (arith, o.fit, o.size)))
    ∙ length-append (take i l) (p ++ drop (i + length p) l)
    ∙ omega (
      arith,
      length-append p (drop (i + length p) l),
      length-drop (i + length p) l,
      length-take-le i l (omega (arith, o.fit)),
      o.fit,
      o.size,
    )

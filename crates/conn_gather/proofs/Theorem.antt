-- What holds of the pieces of every send of a head and a body (specs/Statement.antt). Assumes nothing.
use mathlib.Core.Path.{◌≡◌, refl, sym, ap, ◌∙◌, subst}
use mathlib.Core.Bool.{true}
use mathlib.Core.List.{List, [], ◌∷◌, ◌++◌, append-nil}
use Prim.Native.Nat.{ℕ, zero, suc, ◌+◌, ◌-◌, ◌≤◌, ◌<◌, min}
use native.Mathlib.Omega.{arith}
use native.Mathlib.Nat.{sub-zero, add_assoc}
use native.Mathlib.Decide.{dec_le, dec_lt}
use borrow.Author.Tests.{lt-ltb, le-ltb}
use lib.ListN.{length, take, drop, length-take, length-drop, length-append}
use lib.Seq.{take-append-le, drop-append-le, drop-append-add, drop-drop, take-add}
use Rattle.cursor.specs.declared.Cursor.{Cursor}
use Rattle.cursor.specs.Cursor.{in_range, step_of}
use Rattle.cursor.proofs.Laws.{range_is, step_range, step_in, moved_short, moved_over}
use Rattle.conn_record.specs.declared.Record.{Record}
use Rattle.flow.specs.declared.Stretches.{Stretches}
use Rattle.flow.specs.Flow.{stretches_of}
use Rattle.flow.proofs.Laws.{stretches_by}
use Rattle.conn_send.specs.Transmit.{rtoken_of, element_start, placing_of, placing_at, placings_of}
use Rattle.conn_gather.specs.Pieces.{Piece, rest_of, offset_of, bytes_of, piece_of, unless_empty, pieces_from, pieces_of}
use Rattle.conn_gather.specs.Statement.{Takes, joined, Write, writes_at, writes_of, placing_writes, send_writes, NoneEmpty, Gathers, GatherPieces, PlacesExactly}
use Rattle.conn_gather.proofs.Laws.{take_least}

-- HOW LONG A PIECE IS. It ends at n, at the head's end or at the element's, w bytes from Q on
data Ends (n h w k r : ℕ) : Type 0 where
  all : r ≡ n → Ends n h w k r
  head : k < h → r ≡ h → Ends n h w k r
  turn : k < w → r ≡ w → Ends n h w k r

-- the least of three is one of them
least : (E : ℕ → Type 0) (x y z : ℕ) → (x ≤ y → x ≤ z → E x) → (y ≤ x → y ≤ z → E y) → (z ≤ x → z ≤ y → E z) → E (min (min x y) z)
least E x y z a b c =
    elim (dec_le x y) [
      | yes i ↦
          elim (dec_le x z) [
            | yes j ↦ let e : min (min x y) z ≡ x = omega arith in rw e (a i j)
            | no j ↦ let e : min (min x y) z ≡ z = omega arith in rw e (c (omega arith) (omega arith))
          ]
      | no i ↦
          elim (dec_le y z) [
            | yes j ↦ let e : min (min x y) z ≡ y = omega arith in rw e (b (omega arith) j)
            | no j ↦ let e : min (min x y) z ≡ z = omega arith in rw e (c (omega arith) (omega arith))
          ]
    ]

-- a piece of m bytes from byte k on, at the offset `at`: it stays below n and in the element, and is not empty before n
record Long (n h w size at k m : ℕ) : Type 0 where
  up : k + m ≤ n
  within : at + m ≤ size
  some : k < n → 0 < m
  ends : Ends n h w k (k + m)

module _ (h b size o n k : ℕ) (taken : n ≤ h + b) (fits : n + 4 ≤ size) (low : 4 ≤ o) (high : o < size) (before : k ≤ n) where
  abbrev L : ℕ → ℕ → Type 0
  L at m = Long n h (size - o) size at k m

  long_1 : k < h → o + k < size → L (o + k) (min (min (n - k) (size - (o + k))) (h - k))
  long_1 i j =
      least (L (o + k)) (n - k) (size - (o + k)) (h - k)
      (λ x y. record { up = omega arith; within = omega arith; some = λ l. omega arith; ends = all (omega arith) })
      (λ x y. record { up = omega arith; within = omega arith; some = λ l. omega arith; ends = turn (omega arith) (omega arith) })
      (λ x y. record { up = omega arith; within = omega arith; some = λ l. omega arith; ends = head i (omega arith) })

  long_2 : k < h → size ≤ o + k → L (o + k - size + 4) (min (min (n - k) (size - (o + k - size + 4))) (h - k))
  long_2 i j =
      least (L (o + k - size + 4)) (n - k) (size - (o + k - size + 4)) (h - k)
      (λ x y. record { up = omega arith; within = omega arith; some = λ l. omega arith; ends = all (omega arith) })
      (λ x y. record { up = omega arith; within = omega arith; some = λ l. omega arith; ends = all (omega arith) })
      (λ x y. record { up = omega arith; within = omega arith; some = λ l. omega arith; ends = head i (omega arith) })

  long_3 : h ≤ k → o + k < size → L (o + k) (min (min (n - k) (size - (o + k))) (b - (k - h)))
  long_3 i j =
      least (L (o + k)) (n - k) (size - (o + k)) (b - (k - h))
      (λ x y. record { up = omega arith; within = omega arith; some = λ l. omega arith; ends = all (omega arith) })
      (λ x y. record { up = omega arith; within = omega arith; some = λ l. omega arith; ends = turn (omega arith) (omega arith) })
      (λ x y. record { up = omega arith; within = omega arith; some = λ l. omega arith; ends = all (omega arith) })

  long_4 : h ≤ k → size ≤ o + k → L (o + k - size + 4) (min (min (n - k) (size - (o + k - size + 4))) (b - (k - h)))
  long_4 i j =
      least (L (o + k - size + 4)) (n - k) (size - (o + k - size + 4)) (b - (k - h))
      (λ x y. record { up = omega arith; within = omega arith; some = λ l. omega arith; ends = all (omega arith) })
      (λ x y. record { up = omega arith; within = omega arith; some = λ l. omega arith; ends = all (omega arith) })
      (λ x y. record { up = omega arith; within = omega arith; some = λ l. omega arith; ends = all (omega arith) })

-- how many pieces are still to come from byte k on, at most: one to each of the three ends
abbrev left : ℕ → ℕ → ℕ → ℕ → ℕ
left n h w k = min 1 (n - k) + (min 1 (h - k) + min 1 (w - k))

gone : (e r : ℕ) → e ≤ r → min 1 (e - r) ≡ 0
gone e r h = omega arith

here : (e k : ℕ) → k < e → min 1 (e - k) ≡ 1
here e k h = omega arith

later : (e k r : ℕ) → k ≤ r → min 1 (e - r) ≤ min 1 (e - k)
later e k r h = omega arith

one_less : (x y z x' y' z' : ℕ) → x' ≡ 0 → x ≡ 1 → y' ≤ y → z' ≤ z
    → (x' + (y' + z') + 1 ≤ x + (y + z)) × (y' + (x' + z') + 1 ≤ y + (x + z)) × (y' + (z' + x') + 1 ≤ y + (z + x))
one_less x y z x' y' z' a b c d = (omega arith, omega arith, omega arith)

fewer : (n h w k r : ℕ) → k < n → k ≤ r → Ends n h w k r → left n h w r + 1 ≤ left n h w k
fewer n h w k r i j (all e) = (one_less _ _ _ _ _ _ (gone n r (omega arith)) (here n k i) (later h k r j) (later w k r j)).0
fewer n h w k r i j (head l e) = (one_less _ _ _ _ _ _ (gone h r (omega arith)) (here h k l) (later n k r j) (later w k r j)).1
fewer n h w k r i j (turn l e) = (one_less _ _ _ _ _ _ (gone w r (omega arith)) (here w k l) (later n k r j) (later h k r j)).2

three : (n h w : ℕ) → left n h w 0 ≤ 3
three n h w = sums _ _ _ (most n) (most h) (most w)
  where
    most : (e : ℕ) → min 1 (e - 0) ≤ 1
    most e = omega arith

    sums : (x y z : ℕ) → x ≤ 1 → y ≤ 1 → z ≤ 1 → x + (y + z) ≤ 3
    sums x y z a b c = omega arith

-- WHERE IT GOES
module _ (size : ℕ) (q : Cursor) (r : in_range size q ≡ true) where
  off_short : (k : ℕ) → q.offset + k < size → offset_of size q k ≡ q.offset + k
  off_short k h =
      let o = range_is size q r in
      ap (λ (c : Cursor). c.offset) (step_in size q k r (omega arith) ∙ moved_short size q k h)

  off-over : (k : ℕ) → k + 4 ≤ size → size ≤ q.offset + k → offset_of size q k ≡ q.offset + k - size + 4
  off-over k h i = ap (λ (c : Cursor). c.offset) (step_in size q k r h ∙ moved_over size q k i)

  -- the byte after goes to the next offset, up to the element's end
  off_next : (k : ℕ) → k + 5 ≤ size → offset_of size q k + 1 < size → offset_of size q (k + 1) ≡ offset_of size q k + 1
  off_next k h i =
      elim (dec_lt (q.offset + k) size) [
        | yes j ↦
            let e = off_short k j in
            let l : q.offset + (k + 1) < size = omega arith in
            off_short (k + 1) l ∙ omega (arith, e)
        | no j ↦
            let e = off-over k (omega arith) (omega arith) in
            off-over (k + 1) (omega arith) (omega arith) ∙ omega (arith, e)
      ]

-- byte j of the joined bytes, of those from k on, goes where Q is after j bytes
module _ (rec : Record) (r : in_range rec.remote.size rec.outbound.producer ≡ true) where
  abbrev size : ℕ
  size = rec.remote.size

  abbrev at : ℕ → ℕ
  at k = offset_of rec.remote.size rec.outbound.producer k

  unfoldable lands : ℕ → List ℕ → List Write
  lands k [] = []
  lands k (x ∷ b) = record { key = (rtoken_of rec).key; address = element_start rec + at k; byte = x } ∷ lands (k + 1) b

  lands_append : (k : ℕ) (a b : List ℕ) → lands k (a ++ b) ≡ lands k a ++ lands (k + length a) b
  unfolding lands
  lands_append k [] b = let e : k + 0 ≡ k = omega arith in rw e
  lands_append k (x ∷ a) b =
      let e : k + 1 + length a ≡ k + length (x ∷ a) = omega arith in
      rw (lands_append (k + 1) a b, e)

  -- bytes that stay before the element's end lie one after the other
  lands_run : (k : ℕ) (b : List ℕ) → k + length b + 4 ≤ size → at k + length b ≤ size
      → writes_at (rtoken_of rec).key (element_start rec + at k) b ≡ lands k b
  unfolding lands writes_at
  lands_run k [] h i = refl
  lands_run k (x ∷ []) h i = refl
  lands_run k (x ∷ y ∷ b) h i =
      let e : at (k + 1) ≡ at k + 1 = off_next size rec.outbound.producer r k (omega arith) (omega arith) in
      let f : element_start rec + at k + 1 ≡ element_start rec + at (k + 1) = omega arith in
      rw (f, lands_run (k + 1) (y ∷ b) (omega arith) (omega arith))

-- ONE PIECE of the joined bytes, from byte k on
module _ (h b : List ℕ) (k : ℕ) where
  rest_head : k < length h → rest_of h b k ≡ drop k h
  rest_head i = rw (lt-ltb k (length h) i)

  rest_body : length h ≤ k → rest_of h b k ≡ drop (k - length h) b
  rest_body i = rw (le-ltb k (length h) i)

  drop_body : length h ≤ k → drop k (h ++ b) ≡ drop (k - length h) b
  drop_body i =
      let e : length h + (k - length h) ≡ k = omega arith in
      ap (λ (x : ℕ). drop x (h ++ b)) (sym e) ∙ drop-append-add h b (k - length h)

  -- what is taken of its buffer is taken of the joined bytes
  part : (m : ℕ) → take m (rest_of h b k) ≡ take (length (take m (rest_of h b k))) (drop k (h ++ b))
  part m =
      elim (dec_lt k (length h)) [
        | yes i ↦
            let l : length (take m (drop k h)) ≡ min m (length (drop k h)) = length-take m (drop k h) in
            rw (rest_head i, l, drop-append-le k h b (omega arith), take-append-le (min m (length (drop k h))) (drop k h) b (omega arith))
            (sym (take_least m (drop k h)))
        | no i ↦
            let j : length h ≤ k = omega arith in
            rw (rest_body j, length-take m (drop (k - length h) b), drop_body j) (sym (take_least m (drop (k - length h) b)))
      ]

unless_none : (b : List ℕ) (ps : List Piece) → length b ≡ 0 → unless_empty b ps ≡ []
unless_none [] ps e = refl
unless_none (x ∷ b) ps e = absurd (omega arith)

unless_some : (b : List ℕ) (ps : List Piece) → 0 < length b → unless_empty b ps ≡ ps
unless_some [] ps l = absurd (omega arith)
unless_some (x ∷ b) ps l = refl

none_of : (b : List ℕ) → length b ≡ 0 → b ≡ []
none_of [] e = refl
none_of (x ∷ b) e = absurd (omega arith)

module _ (rec : Record) (h b : List ℕ) (n : ℕ) (t : Takes rec h b n) where
  abbrev N' : ℕ
  N' = rec.remote.size

  abbrev q : Cursor
  q = rec.outbound.producer

  abbrev w : ℕ
  w = N' - q.offset

  abbrev bytes : ℕ → List ℕ
  bytes k = bytes_of h b N' q n k

  abbrev to : ℕ → ℕ
  to k = offset_of N' q k

  bytes_part : (k : ℕ) → bytes k ≡ take (length (bytes k)) (drop k (h ++ b))
  unfolding bytes_of
  bytes_part k = part h b k (min (n - k) (N' - to k))

  bytes_long : (k : ℕ) → length (bytes k) ≡ min (min (n - k) (N' - to k)) (length (rest_of h b k))
  unfolding bytes_of
  bytes_long k = length-take (min (n - k) (N' - to k)) (rest_of h b k)

  long : (k : ℕ) → k ≤ n → Long n (length h) w N' (to k) k (length (bytes k))
  long k i =
      let o = range_is N' q t.is_in_range in
      let f = t.fits in
      let fits : n + 4 ≤ N' = omega arith in
      let taken : n ≤ length h + length b = rw (← length-append h b) t.offered in
      rw (bytes_long k)
      (elim (dec_lt k (length h)) [
        | yes x ↦
            rw (rest_head h b k x, length-drop k h)
            (elim (dec_lt (q.offset + k) N') [
              | yes y ↦
                  rw (off_short N' q t.is_in_range k y) (long_1 (length h) (length b) N' q.offset n k taken fits o.0 o.1 i x y)
              | no y ↦
                  rw (off-over N' q t.is_in_range k (omega arith) (omega arith))
                  (long_2 (length h) (length b) N' q.offset n k taken fits o.0 o.1 i x (omega arith))
            ])
        | no x ↦
            rw (rest_body h b k (omega arith), length-drop (k - length h) b)
            (elim (dec_lt (q.offset + k) N') [
              | yes y ↦
                  rw (off_short N' q t.is_in_range k y)
                  (long_3 (length h) (length b) N' q.offset n k taken fits o.0 o.1 i (omega arith) y)
              | no y ↦
                  rw (off-over N' q t.is_in_range k (omega arith) (omega arith))
                  (long_4 (length h) (length b) N' q.offset n k taken fits o.0 o.1 i (omega arith) (omega arith))
            ])
      ])

  lands_none : (k : ℕ) → [] ≡ lands rec t.is_in_range k []
  unfolding lands
  lands_none k = refl

  -- the pieces from byte k on
  record From (k : ℕ) (ps : List Piece) : Type 0 where
    pieces : List Piece
    last : Piece
    handed : ps ≡ pieces ++ (last ∷ [])
    few : length pieces ≤ left n (length h) w k
    none_empty : NoneEmpty pieces
    is_last : last ≡ piece_of rec h b n n
    empty : last.bytes ≡ []
    whole : joined pieces ≡ take (n - k) (drop k (h ++ b))
    placed : writes_of pieces ≡ lands rec t.is_in_range k (take (n - k) (drop k (h ++ b)))

  piece_bytes : (k : ℕ) → (piece_of rec h b n k).bytes ≡ bytes k
  unfolding piece_of
  piece_bytes k = refl

  piece_writes : (k : ℕ) → k ≤ n
      → writes_at (piece_of rec h b n k).key (piece_of rec h b n k).address (piece_of rec h b n k).bytes
      ≡ lands rec t.is_in_range k (bytes k)
  unfolding piece_of placing_of
  piece_writes k i =
      let l = long k i in
      let f = t.fits in
      let o = range_is N' q t.is_in_range in
      let up = l.up in
      lands_run rec t.is_in_range k (bytes k) (omega arith) l.within

  -- the rest of the bytes, after a piece
  rest-is : (k : ℕ) → k ≤ n
      → take (n - k) (drop k (h ++ b)) ≡ bytes k ++ take (n - (k + length (bytes k))) (drop (k + length (bytes k)) (h ++ b))
  rest-is k i =
      let m = length (bytes k) in
      let up = (long k i).up in
      let e : n - k ≡ m + (n - (k + m)) = omega arith in
      ap (λ (x : ℕ). take x (drop k (h ++ b))) e
      ∙ take-add m (n - (k + m)) (drop k (h ++ b))
      ∙ ap (λ (x : List ℕ). x ++ take (n - (k + m)) (drop m (drop k (h ++ b)))) (sym (bytes_part k))
      ∙ ap (λ (x : List ℕ). bytes k ++ take (n - (k + m)) x) (drop-drop m k (h ++ b))

  from : (f k : ℕ) → k ≤ n → n - k < f → From k (pieces_from f rec h b n k)
  unfolding pieces_from
  from zero k i j = absurd (omega arith)
  from (suc f) k i j =
      let p = piece_of rec h b n k in
      let m = length (bytes k) in
      let l = long k i in
      let up = l.up in
      elim (dec_lt k n) [
        | yes x ↦
            let some = l.some x in
            let next = from f (k + m) up (omega arith) in
            let tail = pieces_from f rec h b n (k + m) in
            record {
              pieces = p ∷ next.pieces;
              last = next.last;
              handed =
                  ap (λ (ps : List Piece). p ∷ ps) (rw (piece_bytes k) (unless_some (bytes k) tail some) ∙ next.handed);
              few = omega (arith, next.few, fewer n (length h) w k (k + m) x (omega arith) l.ends);
              none_empty = (rw (piece_bytes k) some, next.none_empty);
              is_last = next.is_last;
              empty = next.empty;
              whole = rw (piece_bytes k, next.whole) (sym (rest-is k i));
              placed =
                  rw (piece_writes k i, next.placed, rest-is k i)
                  (sym (lands_append rec t.is_in_range k (bytes k) (take (n - (k + m)) (drop (k + m) (h ++ b)))));
            }
        | no x ↦
            let e : k ≡ n = omega arith in
            let none : m ≡ 0 = omega arith in
            let nothing : n - k ≡ 0 = omega arith in
            record {
              pieces = [];
              last = p;
              handed =
                  ap (λ (ps : List Piece). p ∷ ps) (rw (piece_bytes k) (unless_none (bytes k) _ none));
              few = omega arith;
              none_empty = tt;
              is_last = ap (piece_of rec h b n) e;
              empty = piece_bytes k ∙ none_of (bytes k) none;
              whole = rw nothing;
              placed = rw nothing (lands_none k);
            }
      ]

  -- the same as `lands-run`, at the offset as a placing has it
  from_to : (k o : ℕ) (b : List ℕ) → to k ≡ o → k + length b + 4 ≤ N' → o + length b ≤ N'
      → writes_at (rtoken_of rec).key (element_start rec + o) b ≡ lands rec t.is_in_range k b
  from_to k o b e i j =
      ap (λ (x : ℕ). writes_at (rtoken_of rec).key (element_start rec + x) b) (sym e) ∙ lands_run rec t.is_in_range k b i (rw e j)

  -- a send's placings land there too
  send_lands : send_writes (h ++ b) (placings_of rec (stretches_of N' q n)) ≡ lands rec t.is_in_range 0 (take n (h ++ b))
  unfolding placing_of
  send_lands =
      let o = range_is N' q t.is_in_range in
      let f = t.fits in
      let off = t.offered in
      let xs = h ++ b in
      let zero_off : to 0 ≡ q.offset = off_short N' q t.is_in_range 0 (omega arith) ∙ omega arith in
      stretches_by N' q n (λ (s : Stretches). send_writes xs (placings_of rec s) ≡ lands rec t.is_in_range 0 (take n xs))
      (λ e. rw e (lands_none 0))
      (λ l i.
      let long : length (take n xs) ≡ n = length-take n xs ∙ omega arith in
      from_to 0 q.offset (take n xs) zero_off (rw long (omega arith)) (rw long (omega arith)))
      (λ l.
      let first : length (take w xs) ≡ w = length-take w xs ∙ omega arith in
      let second : length (take (n - w) (drop w xs)) ≡ n - w =
      length-take (n - w) (drop w xs) ∙ ap (min (n - w)) (length-drop w xs) ∙ omega arith
      in
      let ends_at : 0 + length (take w xs) ≡ w = omega (arith, first) in
      let turn_off : to w ≡ 4 = off-over N' q t.is_in_range w (omega arith) (omega arith) ∙ omega arith in
      let e : n ≡ w + (n - w) = omega arith in
      let cut : lands rec t.is_in_range 0 (take n xs)
      ≡ lands rec t.is_in_range 0 (take w xs) ++ lands rec t.is_in_range w (take (n - w) (drop w xs)) =
      ap (λ (x : ℕ). lands rec t.is_in_range 0 (take x xs)) e
      ∙ ap (lands rec t.is_in_range 0) (take-add w (n - w) xs)
      ∙ lands_append rec t.is_in_range 0 (take w xs) (take (n - w) (drop w xs))
      ∙ ap (λ (x : ℕ). lands rec t.is_in_range 0 (take w xs) ++ lands rec t.is_in_range x (take (n - w) (drop w xs))) ends_at
      in
      let one = from_to 0 q.offset (take w xs) zero_off (rw first (omega arith)) (rw first (omega arith)) in
      let two = from_to w 4 (take (n - w) (drop w xs)) turn_off (rw second (omega arith)) (rw second (omega arith)) in
      ap (λ (l : List Write). l ++ writes_at (rtoken_of rec).key (element_start rec + 4) (take (n - w) (drop w xs))) one
      ∙ ap (λ (l : List Write). lands rec t.is_in_range 0 (take w xs) ++ l) two
      ∙ sym cut)

-- WHAT HOLDS OF ALL OF THEM
pub gather_pieces : GatherPieces
unfolding piece_of placing_of
gather_pieces rec h b n t =
    let o = from rec h b n t (n + 1) 0 (omega arith) (omega arith) in
    let few = o.few in
    record {
      pieces = o.pieces;
      last = o.last;
      handed = o.handed;
      few = omega (arith, three n (length h) (rec.remote.size - rec.outbound.producer.offset));
      none_empty = o.none_empty;
      empty = o.empty;
      own_key = ap (λ (p : Piece). p.key) o.is_last;
      at_new_q = ap (λ (p : Piece). p.address) o.is_last;
      whole = o.whole ∙ ap (λ (x : ℕ). take x (h ++ b)) (sub-zero n);
      same-places =
          o.placed ∙ ap (λ (x : ℕ). lands rec t.is_in_range 0 (take x (h ++ b))) (sub-zero n) ∙ sym (send_lands rec h b n t);
    }

pub places_exactly : PlacesExactly
unfolding placing_at
places_exactly rec k len ok r =
    let N' = rec.remote.size in
    let q = rec.outbound.producer in
    simp (ok, lt-ltb (offset_of N' q k) N' (range_is N' (step_of N' q k) (step_range N' q k r)).1)

-- The bytes that a send names, in placings or pieces: byte number x goes to the place of position x. Assumes nothing.
use mathlib.Core.Path.{◌≡◌, refl, sym, ap, ◌∙◌, subst}
use mathlib.Core.Bool.{Bool, false≢true}
use mathlib.Core.List.{List, [], ◌∷◌, ◌++◌, append-nil, append_assoc}
use Prim.Native.Nat.{ℕ, suc, ◌+◌, ◌-◌, ◌%◌, ◌≤◌, ◌<◌}
use native.Mathlib.Nat.{mod-lt}
use native.Mathlib.Omega.{arith}
use lib.ListN.{length, take, drop, get_or, length-drop}
use lib.Seq.{length-take-le, take-add}
use Rattle.cursor.specs.Cursor.{cursor_at, in_range}
use Rattle.cursor.proofs.Positions.{run_at, over_at, range_at}
use Rattle.flow.specs.declared.Stretches.{Stretches}
use Rattle.flow.specs.Flow.{stretches_of}
use Rattle.flow.proofs.Laws.{stretches_by}
use Rattle.conn_record.specs.declared.Record.{Record}
use Rattle.conn_answer.specs.declared.Placings.{Placings}
use Rattle.conn_answer.specs.declared.Placings.TheVariants.{Nowhere, One, Two}
use Rattle.conn_send.specs.Transmit.{rtoken_of, element_start, placing_of, placings_of}
use Rattle.conn_gather.specs.Pieces.{Piece, pieces_of}
use Rattle.conn_gather.specs.Statement.{Write, writes_at, writes_of, placing_writes, send_writes, Takes}
use Rattle.conn_gather.proofs.Theorem.{gather_pieces}
use Rattle.group_rules.specs.Rules.{placing_list}
use Rattle.thm_sent.specs.Books.{Names, owed_from, start_of, placed_writes}
use Rattle.thm_sent.proofs.Way.{Way, there, a_byte}

module _ (d : ℕ) (full : 0 < d) where
  -- bytes from position x on, each at the place of its position
  module _ (key start : ℕ) where
    unfoldable pub standing : ℕ → List ℕ → List Write
    standing x [] = []
    standing x (v ∷ b) = record { key = key; address = start + (4 + x % d); byte = v } ∷ standing (suc x) b

    standing_append : (x : ℕ) (a b : List ℕ) → standing x (a ++ b) ≡ standing x a ++ standing (x + length a) b
    unfolding standing
    standing_append x [] b = ap (λ (k : ℕ). standing k b) (omega arith)
    standing_append x (v ∷ a) b =
        let e : suc x + length a ≡ x + suc (length a) = omega arith in
        ap (λ (l : List Write). record { key = key; address = start + (4 + x % d); byte = v } ∷ l)
        (standing_append (suc x) a b ∙ ap (λ (k : ℕ). standing (suc x) a ++ standing k b) e)

    -- a run that does not pass the element's end
    straight : (b : List ℕ) (x at : ℕ) → at ≡ start + (4 + x % d) → x % d + length b ≤ d → writes_at key at b ≡ standing x b
    unfolding writes_at standing
    straight [] x at e h = refl
    straight (v ∷ []) x at e h = rw e
    straight (v ∷ w ∷ b) x at e h =
        let r : (x + 1) % d ≡ x % d + 1 = run_at d full x 1 (omega arith) in
        let s : x + 1 ≡ suc x = omega arith in
        let t : (suc x) % d ≡ x % d + 1 = rw s at r in
        rw (straight (w ∷ b) (suc x) (at + 1) (omega arith) (omega arith), e)

    standing_none : (x : ℕ) → [] ≡ standing x []
    unfolding standing
    standing_none x = refl

  -- a send's placings
  module _ (c : Record) (x : ℕ) (b : List ℕ) (size : c.remote.size ≡ d + 4) (Q_is : c.outbound.producer ≡ cursor_at d x) where
    abbrev stands : ℕ → List ℕ → List Write
    stands = standing (rtoken_of c).key (element_start c)

    pub placed_standing : (n : ℕ) → n ≤ d → n ≤ length b
        → placed_writes b (placing_list (placings_of c (stretches_of c.remote.size c.outbound.producer n))) ≡ stands x (take n b)
    unfolding placed_writes placing_of cursor_at
    placed_standing n h k =
        (λ i. placed_writes b (placing_list (placings_of c (stretches_of (size i) (Q_is i) n))))
        ∙ stretches_by (d + 4) (cursor_at d x) n (λ (s : Stretches). placed_writes b (placing_list (placings_of c s)) ≡ stands x (take n b))
        none one two
      where
        r : x % d < d
        r = mod-lt x full

        none : n ≡ 0 → [] ≡ stands x (take n b)
        none e = rw e (standing_none (rtoken_of c).key (element_start c) x)

        one : 0 < n → n ≤ d + 4 - (4 + x % d)
            → writes_at (rtoken_of c).key (element_start c + (4 + x % d)) (take n b) ++ [] ≡ stands x (take n b)
        one l m =
            rw append-nil
            (straight (rtoken_of c).key (element_start c) (take n b) x (element_start c + (4 + x % d)) refl
            (omega (arith, r, length-take-le n b k)))

        two : d + 4 - (4 + x % d) < n
            → writes_at (rtoken_of c).key (element_start c + (4 + x % d)) (take (d + 4 - (4 + x % d)) b)
            ++ (writes_at (rtoken_of c).key (element_start c + 4) (take (n - (d + 4 - (4 + x % d))) (drop (d + 4 - (4 + x % d)) b)) ++ [])
            ≡ stands x (take n b)
        two m =
            let f = d + 4 - (4 + x % d) in
            let split : n ≡ f + (n - f) = omega arith in
            let lf : length (take f b) ≡ f = length-take-le f b (omega arith) in
            let z : (x + f) % d ≡ 0 = over_at d full x f (omega (arith, r)) (omega arith) ∙ omega (arith, r) in
            let ls : length (take (n - f) (drop f b)) ≡ n - f = length-take-le (n - f) (drop f b) (omega (arith, length-drop f b)) in
            let first : writes_at (rtoken_of c).key (element_start c + (4 + x % d)) (take f b) ≡ stands x (take f b) =
            straight (rtoken_of c).key (element_start c) (take f b) x (element_start c + (4 + x % d)) refl (omega (arith, r)) in
            let second : writes_at (rtoken_of c).key (element_start c + 4) (take (n - f) (drop f b))
            ≡ stands (x + f) (take (n - f) (drop f b)) =
            straight (rtoken_of c).key (element_start c) (take (n - f) (drop f b)) (x + f) (element_start c + 4) (omega arith) (omega arith)
            in
            let joined : stands x (take n b) ≡ stands x (take f b) ++ stands (x + f) (take (n - f) (drop f b)) =
            ap (stands x) (ap (λ (j : ℕ). take j b) split ∙ take-add f (n - f) b)
            ∙ standing_append (rtoken_of c).key (element_start c) x (take f b) (take (n - f) (drop f b))
            ∙ ap (λ (j : ℕ). stands x (take f b) ++ stands (x + j) (take (n - f) (drop f b))) lf in
            rw (append-nil, first, second) (sym joined)

  -- a gather's pieces are its placings
  placed_send : (b : List ℕ) (p : Placings) → placed_writes b (placing_list p) ≡ send_writes b p
  unfolding placed_writes
  placed_send b Nowhere = refl
  placed_send b (One p) = append-nil (placing_writes b p)
  placed_send b (Two p q) = ap (λ (l : List Write). placing_writes b p ++ l) (append-nil (placing_writes b q))

  writes_append : (a b : List Piece) → writes_of (a ++ b) ≡ writes_of a ++ writes_of b
  writes_append [] b = refl
  writes_append (p ∷ a) b =
      ap (λ (l : List Write). writes_at p.key p.address p.bytes ++ l) (writes_append a b)
      ∙ sym (append_assoc (writes_at p.key p.address p.bytes) (writes_of a) (writes_of b))

  last_none : (p : Piece) → p.bytes ≡ [] → writes_of (p ∷ []) ≡ []
  unfolding writes_at
  last_none p e = ap (λ (l : List ℕ). writes_at p.key p.address l ++ []) e

  module _ (c : Record) (x : ℕ) (head body : List ℕ) (size : c.remote.size ≡ d + 4) (Q_is : c.outbound.producer ≡ cursor_at d x) where
    pub pieces_standing : (n : ℕ) → n ≤ d → n ≤ length (head ++ body)
        → writes_of (pieces_of c head body n) ≡ standing (rtoken_of c).key (element_start c) x (take n (head ++ body))
    pieces_standing n h k =
        let t : Takes c head body n =
        record {
          is_in_range = (λ i. in_range (size i) (Q_is i)) ∙ range_at d full x;
          fits = omega (arith, size);
          offered = k;
        }
        in
        let g = gather_pieces c head body n t in
        ap writes_of g.handed
        ∙ writes_append g.pieces (g.last ∷ [])
        ∙ ap (λ (l : List Write). writes_of g.pieces ++ l) (last_none g.last g.empty)
        ∙ append-nil (writes_of g.pieces)
        ∙ g.same-places
        ∙ sym (placed_send (head ++ body) (placings_of c (stretches_of c.remote.size c.outbound.producer n)))
        ∙ placed_standing c x (head ++ body) size Q_is n h k

-- UNDER WAY: they are the bytes from position x on
module _ (d d' : ℕ) (n : Names) (S : ℕ → Type 0) (took : List ℕ) (ended : Bool) (link key start : ℕ) (key_is : key ≡ (n.reach link).key)
    (start_is : start ≡ start_of n (d + 4) link) (full : 0 < d) where
  pub standing_way : (b : List ℕ) (x y t : ℕ) → x + length b ≡ y → ((j : ℕ) → j < length b → get_or b j 0 ≡ get_or took (x + j) 0)
      → Way d d' n S took ended y t x t (owed_from x link (standing d full key start x b)) []
  unfolding owed_from standing
  standing_way [] x y t e f = subst (λ (z : ℕ). Way d d' n S took ended y t z t [] []) (let z : y ≡ x = omega (arith, e) in z) there
  standing_way (v ∷ b) x y t e f =
      let here : x + 0 ≡ x = omega arith in
      a_byte
      (record {
        number_is = refl;
        key_is = key_is;
        address_is = ap (λ (s : ℕ). s + (4 + x % d)) start_is;
        byte-is = f 0 (omega arith) ∙ ap (λ (y : ℕ). get_or took y 0) here;
        stands = λ e. absurd (false≢true e);
      })
      (standing_way b (suc x) y t (omega (arith, e)) (λ j i. f (suc j) (omega arith) ∙ ap (λ (y : ℕ). get_or took y 0) (shift j)))
    where
      shift : (j : ℕ) → x + suc j ≡ suc x + j
      shift j = omega arith

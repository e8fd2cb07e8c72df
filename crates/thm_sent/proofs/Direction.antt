-- One direction between two ends, in positions: what the sender has taken and was told, what is under way, what stands in the receiver's
-- element, what it heard of, read and told. One step for each act of either end. Assumes nothing.
use mathlib.Core.Path.{◌≡◌, refl, sym, ap, ◌∙◌, subst}
use mathlib.Core.Logic.{◌⊎◌, inl, inr}
use mathlib.Core.Bool.{Bool, true, false, false≢true}
use mathlib.Core.Option.{Option, some}
use mathlib.Core.List.{List, [], ◌∷◌, ◌++◌, map, append-nil}
use Prim.Native.Nat.{ℕ, ◌+◌, ◌%◌, ◌≤◌, ◌<◌}
use native.Mathlib.Omega.{arith}
use native.Mathlib.Decide.{dec_lt}
use lib.ListN.{length, take, drop, get_or, length-append, length-take, length-drop, get_or-append}
use lib.Seq.{take-append-le, length-take-le, take-add, ext_get_or, get_or-take, get_or-drop}
use Rattle.cdc.specs.Cdc.{decode_of}
use Rattle.thm_order.specs.Statement.{At}
use Rattle.thm_sent.specs.Books.{Names, Item, message, covers, performs, after_message, less_message, Origin, Reading}
use Rattle.thm_sent.specs.OnlySent.{AllPerformed, FirstIs, holds_of}
use Rattle.thm_sent.specs.Plain.{Mark, Outward, Inward, InOrder, plain_heard_out}
use Rattle.thm_sent.proofs.Way.{Way, there, a_message, Msg, Heard, step, ends_b, way_up, way_join, way_weaken, way_hears}
use Rattle.thm_sent.proofs.Way.{way_places, Chain, chain_most, chain_less, chain_more, chain_heard, chain_beside}

-- the sender: bytes taken, its positions, the messages under way to it, whether D, C or A was sent
pub record Out : Type 0 where
  pub took : List ℕ
  pub pos : Outward
  pub marks : List Mark
  pub ended : Bool

-- the receiver: its element, and what was put there; what is under way to it; what it read; its positions, and whether A was sent; up to
-- which position, and how many messages, it has heard, and whether D or C
pub record Place : Type 0 where
  pub opened : Bool
  pub elem : List ℕ
  pub put : ℕ → Option ℕ

pub record Seen : Type 0 where
  pub x : ℕ
  pub s : ℕ
  pub over : Bool

pub record In : Type 0 where
  pub place : Place
  pub coming : List Item
  pub marks : List Mark
  pub read : Reading
  pub pos : Inward
  pub mute : Bool
  pub seen : Seen

-- the sender, the receiver with one part replaced
abbrev pub out_pos : Out → Outward → Out
out_pos o p = record { took = o.took; pos = p; marks = o.marks; ended = o.ended }

abbrev pub out_marks : Out → List Mark → Out
out_marks o ms = record { took = o.took; pos = o.pos; marks = ms; ended = o.ended }

abbrev pub in_way : In → List Item → List Mark → In
in_way i l ms = record { place = i.place; coming = l; marks = ms; read = i.read; pos = i.pos; mute = i.mute; seen = i.seen }

abbrev pub in_place_of : In → Place → List Item → In
in_place_of i p l = record { place = p; coming = l; marks = i.marks; read = i.read; pos = i.pos; mute = i.mute; seen = i.seen }

abbrev pub in_pos : In → Inward → Bool → Seen → In
in_pos i p mute s = record { place = i.place; coming = i.coming; marks = i.marks; read = i.read; pos = p; mute = mute; seen = s }

module _ (d d' : ℕ) (n : Names) where
  -- byte number z stands at its place, put there by its placing; of an end that sent A nothing is asked
  abbrev pub Here : List ℕ → Place → ℕ → Type 0
  Here took p z = (get_or p.elem (4 + z % d) 0 ≡ get_or took z 0) × (p.put (4 + z % d) ≡ some z)

  abbrev pub Stands : List ℕ → Place → Bool → ℕ → Type 0
  Stands took p mute z = (p.opened ≡ true) × (mute ≡ false → Here took p z)

  pub record Read (r : Reading) (C : ℕ) : Type 0 where
    pub holds_are : map holds_of r.origins ≡ r.got
    pub each : (j : ℕ) (w : Origin) → At r.origins j w → (4 ≤ w.offset) × (w.offset < d + 4) × (w.put ≡ some j)
    pub many : length r.origins ≡ C

  abbrev pub WayTo : Out → In → Type 0
  WayTo o i =
      let s = i.seen in
      Way d d' n (Stands o.took i.place i.mute) o.took o.ended o.pos.Q o.pos.made s.x s.s i.coming
      i.marks

  abbrev pub OverIs : Out → In → Type 0
  OverIs o i = i.seen.over ≡ true → (o.ended ≡ true) × (i.seen.x ≡ o.pos.Q)

  abbrev pub Unread : Out → In → Type 0
  Unread o i = (z : ℕ) → i.pos.C ≤ z → z < i.seen.x → Stands o.took i.place i.mute z

  pub record Dir (o : Out) (i : In) : Type 0 where
    pub Q_is : length o.took ≡ o.pos.Q
    pub order : InOrder d o.pos i.pos
    pub chain : Chain o.pos.R o.marks i.pos.T
    pub P_x : i.pos.P ≤ i.seen.x
    pub caught_up : i.mute ≡ false → (i.seen.x ≡ i.pos.P) × (i.seen.s ≡ i.pos.last)
    pub way : WayTo o i
    pub over-is : OverIs o i
    pub unread : Unread o i
    pub got_is : i.read.got ≡ take i.pos.C o.took
    pub read : Read i.read i.pos.C

  -- the first message under way is b
  abbrev pub HeardBy : Out → In → List ℕ → Type 0
  HeardBy o i b =
      Heard d d' n (Stands o.took i.place i.mute) o.took o.ended o.pos.Q o.pos.made i.seen.x i.seen.s b
      i.coming i.marks

-- k bytes, and the m after them
take_more : (k m : ℕ) (a b : List ℕ) → k + m ≤ length a → length b ≡ m → ((j : ℕ) → j < m → get_or b j 0 ≡ get_or a (k + j) 0)
    → take k a ++ b ≡ take (k + m) a
take_more k m a b h e f = ap (λ (l : List ℕ). take k a ++ l) (ext_get_or 0 b (take m (drop k a)) long same) ∙ sym (take-add k m a)
  where
    long : length b ≡ length (take m (drop k a))
    long = e ∙ sym (length-take-le m (drop k a) (omega (arith, length-drop k a)))

    same : (j : ℕ) → j < length b → get_or b j 0 ≡ get_or (take m (drop k a)) j 0
    same j l = let i : j < m = omega (arith, e) in f j i ∙ sym (get_or-take m (drop k a) j 0 i ∙ get_or-drop k a j 0)

module _ {d d' : ℕ} {n : Names} {o : Out} {i : In} (h : Dir d d' n o i) where
  abbrev Standing : ℕ → Type 0
  Standing = Stands d d' n o.took i.place i.mute

  x_Q : i.seen.x ≤ o.pos.Q
  x_Q = way_up h.way

  pub got_long : length i.read.got ≡ i.pos.C
  got_long = ap length h.got_is ∙ length-take i.pos.C o.took ∙ omega (arith, h.order.P_Q, h.order.C_P, h.Q_is)

  -- THE SENDER TAKES the j bytes b, and names them; u becomes its urgent place
  module _ (b : List ℕ) (j : ℕ) (long : length b ≡ j) (u : ℕ) (items : List Item) where
    same_byte : (z : ℕ) → z < o.pos.Q → get_or o.took z 0 ≡ get_or (o.took ++ b) z 0
    same_byte z l = sym (get_or-append o.took b 0 z (omega (arith, h.Q_is)))

    abbrev Now : ℕ → Type 0
    Now = Stands d d' n (o.took ++ b) i.place i.mute

    stood : (z : ℕ) → z < o.pos.Q → Standing z → Now z
    stood z l w = (w.0, λ e. ((w.1 e).0 ∙ same_byte z l, (w.1 e).1))

    pub dir_sends : (o.ended ≡ true → j ≡ 0) → o.pos.Q + j ≤ o.pos.R + d → u ≤ o.pos.Q + j
        → Way d d' n Now (o.took ++ b) o.ended (o.pos.Q + j) o.pos.made o.pos.Q o.pos.made items []
        → Dir d d' n
        (record {
          took = o.took ++ b;
          pos = record { Q = o.pos.Q + j; R = o.pos.R; U = u; made = o.pos.made };
          marks = o.marks;
          ended = o.ended;
        })
        (in_way i (i.coming ++ items) i.marks)
    dir_sends end room urgent more =
        let q = h.order in
        record {
          Q_is = length-append o.took b ∙ omega (arith, h.Q_is);
          order = omega (arith, q);
          chain = h.chain;
          P_x = h.P_x;
          caught_up = h.caught_up;
          way =
              subst (Way d d' n Now (o.took ++ b) o.ended (o.pos.Q + j) o.pos.made i.seen.x i.seen.s (i.coming ++ items))
              (append-nil i.marks)
              (way_join
              (way_weaken h.way (λ z l m w. stood z m w) (λ z l m. same_byte z m)
              (λ z w. (w.0, omega (arith, w.1, end w.0, length-append o.took b))))
              more);
          over-is = λ e. let w = h.over-is e in (w.0, omega (arith, w.1, end w.0));
          unread = λ z l m. stood z (omega (arith, m, x_Q)) (h.unread z l m);
          got_is = h.got_is ∙ sym (take-append-le i.pos.C o.took b (omega (arith, q.C_P, q.P_Q, h.Q_is)));
          read = h.read;
        }

  -- THE SENDER TELLS: a message that carries Q, and what it has read
  module _ (b : List ℕ) (k : Mark) (t : ℕ) (ended' : Bool) where
    pub dir_tells : o.pos.made + step k ≡ t → (o.ended ≡ true → ended' ≡ true)
        → Msg d d' n Standing o.took ended' o.pos.Q o.pos.made (decode_of b) k
        → Dir d d' n
        (record {
          took = o.took;
          pos = record { Q = o.pos.Q; R = o.pos.R; U = o.pos.U; made = t };
          marks = o.marks;
          ended = ended';
        })
        (in_way i (i.coming ++ (message b ∷ [])) (i.marks ++ (k ∷ [])))
    dir_tells made more m =
        let pos : Outward = record { Q = o.pos.Q; R = o.pos.R; U = o.pos.U; made = t } in
        let order : InOrder d pos i.pos = omega (arith, h.order) in
        let told : Out = record { took = o.took; pos = pos; marks = o.marks; ended = ended' } in
        let way : WayTo d d' n told (in_way i (i.coming ++ (message b ∷ [])) (i.marks ++ (k ∷ []))) =
        way_join (way_weaken h.way (λ z l m w. w) (λ z l m. refl) (λ z w. (more w.0, w.1)))
        (a_message m (subst (λ (s : ℕ). Way d d' n Standing o.took ended' o.pos.Q t o.pos.Q s [] []) (sym made) there))
        in
        let over : OverIs d d' n told i = λ e. let w = h.over-is e in (more w.0, w.1) in
        search

  -- THE RECEIVER TELLS: T becomes C, which its message carries; A may be sent with it
  module _ (k : Mark) (mute' : Bool) where
    pub dir_told : k.failover ≡ false → k.read ≡ i.pos.C → (mute' ≡ false → i.mute ≡ false)
        → let p = i.pos in
        Dir d d' n (out_marks o (o.marks ++ (k ∷ [])))
        (in_pos i (record { P = p.P; C = p.C; T = p.C; W = p.W; last = p.last }) mute' i.seen)
    dir_told plain e was =
        let p = i.pos in
        let told = out_marks o (o.marks ++ (k ∷ [])) in
        let now = in_pos i (record { P = p.P; C = p.C; T = p.C; W = p.W; last = p.last }) mute' i.seen in
        let order : InOrder d o.pos now.pos = omega (arith, h.order) in
        let chain : Chain o.pos.R (o.marks ++ (k ∷ [])) p.C =
        subst (Chain o.pos.R (o.marks ++ (k ∷ []))) e
        (chain_more o.marks k o.pos.R p.T plain h.chain (omega (arith, e, h.order.T_C)))
        in
        let caught : mute' ≡ false → (i.seen.x ≡ p.P) × (i.seen.s ≡ p.last) = λ m. h.caught_up (was m) in
        let way : WayTo d d' n told now = way_weaken h.way (λ z l m w. (w.0, λ y. w.1 (was y))) (λ z l m. refl) (λ z w. w) in
        let unread : Unread d d' n told now = λ z l m. let w = h.unread z l m in (w.0, λ y. w.1 (was y)) in
        search

  -- the other cursor of the sender: what changes nothing but R, and the messages under way to it
  pub dir_R : (r : ℕ) (ms : List Mark) → o.pos.R ≤ r → Chain r ms i.pos.T
      → Dir d d' n (out_marks (out_pos o (record { Q = o.pos.Q; R = r; U = o.pos.U; made = o.pos.made })) ms) i
  dir_R r ms up c =
      let most = chain_most ms r i.pos.T c in
      let order : InOrder d (record { Q = o.pos.Q; R = r; U = o.pos.U; made = o.pos.made }) i.pos = omega (arith, h.order) in
      search

  -- THE RECEIVER MOVES to another link, and tells that: T stays
  pub dir_moved : (k : Mark) → k.failover ≡ true → Dir d d' n (out_marks o (o.marks ++ (k ∷ []))) i
  dir_moved k z = dir_R o.pos.R (o.marks ++ (k ∷ [])) (omega arith) (chain_beside o.marks k o.pos.R i.pos.T z h.chain)

  -- THE SENDER HEARS the first message under way to it: R becomes what it says; or it goes, and nothing else
  module _ (k : Mark) (rest : List Mark) (e : o.marks ≡ k ∷ rest) where
    chained : Chain o.pos.R (k ∷ rest) i.pos.T
    chained = subst (λ (ms : List Mark). Chain o.pos.R ms i.pos.T) e h.chain

    pub dir_drops : Dir d d' n (out_marks o rest) i
    dir_drops = dir_R o.pos.R rest (omega arith) (chain_less k rest o.pos.R i.pos.T chained)

    pub dir_hears_of : k.failover ≡ false → Dir d d' n (out_marks (out_pos o (plain_heard_out o.pos k)) rest) i
    unfolding plain_heard_out
    dir_hears_of plain = let c = chain_heard k rest o.pos.R i.pos.T plain chained in dir_R k.read rest c.0 c.1

  -- THE RECEIVER HEARS the first message under way
  module _ (b : List ℕ) (first-is : FirstIs b i.coming) (all : AllPerformed i.coming) where
    pub hears_it : HeardBy d d' n o i b
    hears_it = way_hears b h.way first-is all

    -- one with F goes, and nothing else
    pub dir_passes : hears_it.first.failover ≡ true → Dir d d' n o (in_way i (less_message i.coming) hears_it.rest)
    dir_passes z = let way = hears_it.beside z in search

    -- P and the last number become what it says, and W; or, after A was sent, they stay
    pub dir_hears : hears_it.first.failover ≡ false → (p w l : ℕ) (over' : Bool) → i.pos.P ≤ p → p ≤ hears_it.x' → w ≤ p
        → (i.mute ≡ false → (hears_it.x' ≡ p) × (i.seen.s + 1 ≡ l))
        → (over' ≡ true → (i.seen.over ≡ true) ⊎ (ends_b hears_it.is.bears.m ≡ true))
        → Dir d d' n o
        (in_pos (in_way i (after_message i.coming) hears_it.rest) (record { P = p; C = i.pos.C; T = i.pos.T; W = w; last = l })
        i.mute
        (record { x = hears_it.x'; s = i.seen.s + 1; over = over' }))
    dir_hears plain p w l over' P-p p-x w-p caught why =
        let most = hears_it.most in
        let pos : Inward = record { P = p; C = i.pos.C; T = i.pos.T; W = w; last = l } in
        let order : InOrder d o.pos pos = omega (arith, h.order) in
        let seen : Seen = record { x = hears_it.x'; s = i.seen.s + 1; over = over' } in
        let now = in_pos (in_way i (after_message i.coming) hears_it.rest) pos i.mute seen in
        let way : WayTo d d' n o now = hears_it.way plain in
        let over : OverIs d d' n o now = λ e. over_why (why e) in
        let unread : Unread d d' n o now =
        λ z l m. elim (dec_lt z i.seen.x) [ yes e ↦ h.unread z l e | no e ↦ hears_it.stood z (omega (arith, e)) m ] in
        search
      where
        over_why : (i.seen.over ≡ true) ⊎ (ends_b hears_it.is.bears.m ≡ true) → (o.ended ≡ true) × (hears_it.x' ≡ o.pos.Q)
        over_why (inl e) = let w = h.over-is e in (w.0, omega (arith, w.1, hears_it.up, hears_it.most))
        over_why (inr e) = let w = hears_it.is.last e in (w.0, w.1 ∙ h.Q_is)

  -- THE RECEIVER READS m bytes
  module _ (m : ℕ) (r : Reading) where
    pub dir_reads : (b : List ℕ) → r.got ≡ i.read.got ++ b → (m ≡ 0) ⊎ (i.mute ≡ false) → i.pos.C + m ≤ i.pos.P → length b ≡ m
        → ((j : ℕ) → j < m → get_or b j 0 ≡ get_or i.place.elem (4 + (i.pos.C + j) % d) 0) → Read d d' n r (i.pos.C + m)
        → let p = i.pos in
        Dir d d' n o
        (record {
          place = i.place;
          coming = i.coming;
          marks = i.marks;
          read = r;
          pos = record { P = p.P; C = p.C + m; T = p.T; W = p.W; last = p.last };
          mute = i.mute;
          seen = i.seen;
        })
    dir_reads b more alive up long bytes books =
        record {
          Q_is = h.Q_is;
          order = omega (arith, h.order);
          chain = h.chain;
          P_x = h.P_x;
          caught_up = h.caught_up;
          way = h.way;
          over-is = h.over-is;
          unread = λ z l r. h.unread z (omega (arith, l)) r;
          got_is =
              more
              ∙ ap (λ (l : List ℕ). l ++ b) h.got_is
              ∙ take_more i.pos.C m o.took b (omega (arith, up, h.order.P_Q, h.Q_is)) long (λ j l. same j l alive);
          read = books;
        }
      where
        same : (j : ℕ) → j < m → (m ≡ 0) ⊎ (i.mute ≡ false) → get_or b j 0 ≡ get_or o.took (i.pos.C + j) 0
        same j l (inl e) = absurd (omega (arith, l, e))
        same j l (inr e) = bytes j l ∙ ((h.unread (i.pos.C + j) (omega arith) (omega (arith, l, up, h.P_x))).1 e).0

  -- THE RECEIVER'S ELEMENT IS WRITTEN: k bytes at `at`
  module _ (at k : ℕ) (p : Place) where
    pub dir_places : i.place.opened ≡ true → p.opened ≡ true
        → ((z : ℕ) → i.pos.C ≤ z → z < o.pos.Q → i.mute ≡ false → Here d d' n o.took i.place z → Here d d' n o.took p z)
        → ((z : ℕ) → i.seen.x ≤ z → z < o.pos.Q → i.mute ≡ false → covers at k (4 + z % d) ≡ true → Here d d' n o.took p z)
        → Dir d d' n o (in_place_of i p (map (performs n (d + 4) at k) i.coming))
    dir_places was_open is_open kept new =
        let now = in_place_of i p (map (performs n (d + 4) at k) i.coming) in
        let way : WayTo d d' n o now =
        way_places at k h.way (λ z l m w. (is_open, λ e. kept z (omega (arith, l, h.order.C_P, h.P_x)) m e (w.1 e)))
        (λ z l m c. (is_open, λ e. new z l m e c))
        in
        let unread : Unread d d' n o now =
        λ z l m. let w = h.unread z l m in (is_open, λ e. kept z l (omega (arith, m, x_Q)) e (w.1 e)) in
        search

  -- its element is the same; or, before its open, nothing stands there
  pub dir_elem : (elem : List ℕ) → elem ≡ i.place.elem
      → Dir d d' n o (in_place_of i (record { opened = i.place.opened; elem = elem; put = i.place.put }) i.coming)
  dir_elem elem e =
      subst (λ (x : List ℕ). Dir d d' n o (in_place_of i (record { opened = i.place.opened; elem = x; put = i.place.put }) i.coming))
      (sym e) h

  pub dir_waits : (p : Place) → i.place.opened ≡ false → Dir d d' n o (in_place_of i p i.coming)
  dir_waits p shut =
      let now = in_place_of i p i.coming in
      let way : WayTo d d' n o now = way_weaken h.way (λ z l m w. absurd (false≢true (sym shut ∙ w.0))) (λ z l m. refl) (λ z w. w) in
      let unread : Unread d d' n o now = λ z l m. absurd (false≢true (sym shut ∙ (h.unread z l m).0)) in
      search

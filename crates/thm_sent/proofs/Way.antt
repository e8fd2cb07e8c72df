-- What is under way to an end, in positions: the items from one position on to another, with the marks of the plain engine. What hearing,
-- placing, sending and telling do to it. Of the rules it uses none but decoding. Assumes nothing.
use mathlib.Core.Path.{◌≡◌, refl, sym, ap, ◌∙◌, subst}
use mathlib.Core.Bool.{Bool, true, false, ◌&&◌, ◌||◌, cond}
use mathlib.Core.Option.{some}
use mathlib.Core.List.{List, [], ◌∷◌, ◌++◌, map}
use Prim.Native.Nat.{ℕ, suc, ◌+◌, ◌%◌, ◌≤◌, ◌<◌}
use native.Mathlib.Omega.{arith}
use native.Mathlib.Decide.{ℕ_discrete}
use lib.Dec.{leb}
use lib.ListN.{length, get_or}
use borrow.Author.Tests.{eq-eqb, leb-true, ltb-true, le-leb, lt-ltb}
use Rattle.cursor.specs.Cursor.{cursor_at}
use Rattle.cursor.proofs.Positions.{same_place}
use Rattle.cdc.specs.declared.Message.{Message}
use Rattle.cdc.specs.declared.Decoded.{Decoded}
use Rattle.cdc.specs.declared.Decoded.TheVariants.{Good}
use Rattle.cdc.specs.Cdc.{decode_of}
use Rattle.conn_record.proofs.Laws.{and_left, and_right}
use Rattle.thm_sent.specs.Books.{Names, Owed, Item, owed, message, start_of, covers, lands_in, performs, after_message, less_message, number_at}
use Rattle.thm_sent.specs.OnlySent.{OwedIn, here, later, AllPerformed, FirstIs}
use Rattle.thm_sent.specs.Plain as Engine
use Rattle.thm_sent.specs.Plain.{Mark, Carries}

-- one with F uses no number
abbrev pub step : Mark → ℕ
step k = cond k.failover 0 1

-- D, C or A
abbrev pub ends_b : Message → Bool
ends_b m = (m.flags.done || m.flags.closed) || m.flags.abort

-- d: data bytes of the element that the bytes go to; d': of the other; n: the names of the end that they go to
module _ (d d' : ℕ) (n : Names) where
  -- a message that announces x bytes, number s + 1; one with F, number s, was made without A
  pub record Bears (x s : ℕ) (read : Decoded) (k : Mark) : Type 0 where
    pub m : Message
    pub decoded : read ≡ Good m
    pub producer_is : m.producer ≡ cursor_at d x
    pub consumer_is : m.consumer ≡ cursor_at d' k.read
    pub taken_is : k.taken ≡ x
    pub sequence_is : m.sequence ≡ (s + step k) % 65536
    pub number_is : k.number ≡ s + step k
    pub failover_is : m.flags.failover ≡ k.failover
    pub not_abort : k.failover ≡ true → m.flags.abort ≡ false
    pub token_is_lem : m.token ≡ n.own
    pub urgent_is : m.flags.abort ≡ false → m.flags.urgent ≡ k.urges

  -- S x: byte number x stands in the element; took: all bytes taken; ended: D, C or A was sent
  module _ (S : ℕ → Type 0) (took : List ℕ) (ended : Bool) where
    -- byte number x, under way to the place of position x
    pub record Byte (x : ℕ) (o : Owed) : Type 0 where
      pub number_is : o.number ≡ x
      pub key_is : o.key ≡ (n.reach o.link).key
      pub address_is : o.address ≡ start_of n (d + 4) o.link + (4 + x % d)
      pub byte-is : o.byte ≡ get_or took x 0
      pub stands : o.performed ≡ true → S x

    pub record Msg (x s : ℕ) (read : Decoded) (k : Mark) : Type 0 where
      pub bears : Bears x s read k
      pub last : ends_b bears.m ≡ true → (ended ≡ true) × (x ≡ length took)

    -- from position x and number s on, up to y and t
    pub data Way (y t : ℕ) : ℕ → ℕ → List Item → List Mark → Type 0 where
      there : Way y t y t [] []
      a_byte : {x s : ℕ} {o : Owed} {l : List Item} {ms : List Mark} → Byte x o → Way y t (suc x) s l ms → Way y t x s (owed o ∷ l) ms
      a_message : {x s : ℕ} {b : List ℕ} {k : Mark} {l : List Item} {ms : List Mark} → Msg x s (decode_of b) k → Way y t x (s + step k) l ms
          → Way y t x s (message b ∷ l) (k ∷ ms)

    -- A MESSAGE IS HEARD: the first, with all before it performed. One with F goes alone
    pub record Heard (y t x s : ℕ) (b : List ℕ) (l : List Item) (ms : List Mark) : Type 0 where
      pub x' : ℕ
      pub up : x ≤ x'
      pub most : x' ≤ y
      pub first : Mark
      pub rest : List Mark
      pub marks_are : ms ≡ first ∷ rest
      pub is : Msg x' s (decode_of b) first
      pub stood : (z : ℕ) → x ≤ z → z < x' → S z
      pub way : first.failover ≡ false → Way y t x' (s + 1) (after_message l) rest
      pub beside : first.failover ≡ true → Way y t x s (less_message l) rest

-- offsets covered
pub covers_true : (at k y : ℕ) → covers at k y ≡ true → (at ≤ y) × (y < at + k)
covers_true at k y e = (leb-true at y (and_left (leb at y) _ e), ltb-true y (at + k) (and_right (leb at y) _ e))

pub covers_is : (at k y : ℕ) → at ≤ y → y < at + k → covers at k y ≡ true
covers_is at k y l h i = le-leb at y l i && lt-ltb y (at + k) h i

covers_shift : (s at k y : ℕ) → covers (s + at) k (s + y) ≡ covers at k y
covers_shift s at k y =
    both_ways (covers (s + at) k (s + y)) (covers at k y)
    (λ e. let c = covers_true (s + at) k (s + y) e in covers_is at k y (omega (arith, c.0)) (omega (arith, c.1)))
    (λ e. let c = covers_true at k y e in covers_is (s + at) k (s + y) (omega (arith, c.0)) (omega (arith, c.1)))
  where
    both_ways : (a b : Bool) → (a ≡ true → b ≡ true) → (b ≡ true → a ≡ true) → a ≡ b
    both_ways true b f g = sym (f refl)
    both_ways false true f g = g refl
    both_ways false false f g = refl

-- the place at is that of a position from x on and before y, and v is its byte
pub record Position (d : ℕ) (took : List ℕ) (at v x y : ℕ) : Type 0 where
  pub z : ℕ
  pub low : x ≤ z
  pub high : z < y
  pub place_is : at ≡ 4 + z % d
  pub value-is : get_or took z 0 ≡ v

module _ {d d' : ℕ} {n : Names} {S : ℕ → Type 0} {took : List ℕ} {ended : Bool} where
  pub way_up : {y t x s : ℕ} {l : List Item} {ms : List Mark} → Way d d' n S took ended y t x s l ms → x ≤ y
  way_up there = omega arith
  way_up (a_byte b w) = omega (arith, way_up w)
  way_up (a_message m w) = way_up w

  pub way_join : {y t z u x s : ℕ} {l r : List Item} {ms ns : List Mark} → Way d d' n S took ended y t x s l ms
      → Way d d' n S took ended z u y t r ns → Way d d' n S took ended z u x s (l ++ r) (ms ++ ns)
  way_join there v = v
  way_join (a_byte b w) v = a_byte b (way_join w v)
  way_join (a_message m w) v = a_message m (way_join w v)

  pub way_carries : {y t x s : ℕ} {l : List Item} {ms : List Mark} → Way d d' n S took ended y t x s l ms → Carries d d' l ms
  way_carries there = Engine.nothing
  way_carries (a_byte b w) = Engine.a_byte (way_carries w)
  way_carries (a_message m w) =
      let h = m.bears in
      Engine.a_message h.decoded (h.producer_is ∙ ap (cursor_at d) (sym h.taken_is)) h.consumer_is
      (h.sequence_is ∙ ap (λ (j : ℕ). j % 65536) (sym h.number_is)) (way_carries w)

  pub way_hears : {y t x s : ℕ} {l : List Item} {ms : List Mark} (b : List ℕ) → Way d d' n S took ended y t x s l ms → FirstIs b l
      → AllPerformed l
      → Heard d d' n S took ended y t x s b l ms
  unfolding after_message less_message
  way_hears b there f a = absurd f
  way_hears {x = x} b (a_byte o w) f a =
      let h = way_hears b w f a.1 in
      record {
        x' = h.x';
        up = omega (arith, h.up);
        most = h.most;
        first = h.first;
        rest = h.rest;
        marks_are = h.marks_are;
        is = h.is;
        stood = λ z i j. elim (ℕ_discrete x z) [ yes e ↦ subst S e (o.stands a.0) | no e ↦ h.stood z (omega (arith, e, i)) j ];
        way = h.way;
        beside = λ z. a_byte o (h.beside z);
      }
  way_hears {y} {t} {x} {s} b (a_message {k = k} {l = l} {ms = ms} m w) f a =
      record {
        x' = x;
        up = omega arith;
        most = way_up w;
        first = k;
        rest = ms;
        marks_are = refl;
        is = subst (λ (r : Decoded). Msg d d' n S took ended x s r k) (sym f) m;
        stood = λ z i j. absurd (omega (arith, i, j));
        way = λ z. subst (λ (j : ℕ). Way d d' n S took ended y t x j l ms) (ap (λ (u : Bool). s + cond u 0 1) z) w;
        beside =
            λ z.
            subst (λ (j : ℕ). Way d d' n S took ended y t x j l ms)
            (ap (λ (u : Bool). s + cond u 0 1) z ∙ (let none : s + 0 ≡ s = omega arith in none)) w;
      }

  -- A BYTE UNDER WAY lands where the place of its position is
  lands_is : {x : ℕ} {o : Owed} (at k : ℕ) → Byte d d' n S took ended x o → lands_in n (d + 4) at k o ≡ covers at k (4 + x % d)
  unfolding lands_in
  lands_is {x = x} {o = o} at k h =
      let s = start_of n (d + 4) o.link in
      (λ i. eq-eqb o.key (n.reach o.link).key h.key_is i && covers (s + at) k (h.address_is i))
      ∙ covers_shift s at k (4 + x % d)

  pub way_owed : {y t x s : ℕ} {l : List Item} {ms : List Mark} (at v : ℕ) → Way d d' n S took ended y t x s l ms → OwedIn n (d + 4) at v l
      → Position d took at v x y
  way_owed at v (a_byte {x = x} b w) (here e f) =
      let c = covers_true at 1 (4 + x % d) (sym (lands_is at 1 b) ∙ e) in
      record {
        z = x;
        low = omega arith;
        high = omega (arith, way_up w);
        place_is = omega (arith, c.0, c.1);
        value-is = sym
            b.byte-is ∙ f;
      }
  way_owed at v (a_byte b w) (later j) =
      let p = way_owed at v w j in
      record { z = p.z; low = omega (arith, p.low); high = p.high; place_is = p.place_is; value-is = p.value-is }
  way_owed at v (a_message m w) (later j) = way_owed at v w j
  way_owed {y = y} {t = t} at v there x8 = elim x8 [ ]

  -- the number of the byte under way to the place of a position is that position
  pub way_number : {y t x s : ℕ} {l : List Item} {ms : List Mark} → 0 < d → (z : ℕ) → Way d d' n S took ended y t x s l ms → x ≤ z → z < y
      → y ≤ x + d
      → number_at n (d + 4) (4 + z % d) l ≡ some z
  unfolding number_at
  way_number full z there i j q = absurd (omega arith)
  way_number full z (a_byte {x = x} b w) i j q =
      elim (ℕ_discrete x z) [
        | yes e ↦
            let c = covers_is (4 + z % d) 1 (4 + x % d) (omega (arith, ap (λ (u : ℕ). u % d) e)) (omega (arith, ap (λ (u : ℕ). u % d) e)) in
            rw (lands_is (4 + z % d) 1 b ∙ c) (ap some (b.number_is ∙ e))
        | no e ↦ rw (lands_is (4 + z % d) 1 b ∙ apart e) (way_number full z w (omega (arith, e)) j (omega arith))
      ]
    where
      apart : (x ≡ z → ⊥) → covers (4 + z % d) 1 (4 + x % d) ≡ false
      apart e = go (covers (4 + z % d) 1 (4 + x % d)) refl
        where
          go : (t : Bool) → covers (4 + z % d) 1 (4 + x % d) ≡ t → t ≡ false
          go false r = refl
          go true r =
              let c = covers_true (4 + z % d) 1 (4 + x % d) r in
              absurd (e (same_place d full x z (omega arith) (omega arith) (omega (arith, c.0, c.1))))
  way_number full z (a_message m w) i j q = way_number full z w i j q

-- SENDING, TELLING: the same way with other bytes standing, more bytes taken
module _ {d d' : ℕ} {n : Names} {S S' : ℕ → Type 0} {took took' : List ℕ} {ended ended' : Bool} where
  pub way_weaken : {y t x s : ℕ} {l : List Item} {ms : List Mark} → Way d d' n S took ended y t x s l ms
      → ((z : ℕ) → x ≤ z → z < y → S z → S' z)
      → ((z : ℕ) → x ≤ z → z < y → get_or took z 0 ≡ get_or took' z 0)
      → ((z : ℕ) → (ended ≡ true) × (z ≡ length took) → (ended' ≡ true) × (z ≡ length took'))
      → Way d d' n S' took' ended' y t x s l ms
  way_weaken there f g e = there
  way_weaken {x = x} (a_byte b w) f g e =
      let up = way_up w in
      a_byte
      (record {
        number_is = b.number_is;
        key_is = b.key_is;
        address_is = b.address_is;
        byte-is = b.byte-is ∙ g x (omega arith) (omega arith);
        stands = λ p. f x (omega arith) (omega arith) (b.stands p);
      })
      (way_weaken w (λ z i j. f z (omega arith) j) (λ z i j. g z (omega arith) j) e)
  way_weaken {x = x} (a_message m w) f g e =
      a_message (record { bears = m.bears; last = λ p. e x (m.last p) }) (way_weaken w f g e)

-- PLACING: a place of k bytes at `at` performs what it covers
module _ {d d' : ℕ} {n : Names} {S S' : ℕ → Type 0} {took : List ℕ} {ended : Bool} (at k : ℕ) where
  pub way_places : {y t x s : ℕ} {l : List Item} {ms : List Mark} → Way d d' n S took ended y t x s l ms
      → ((z : ℕ) → x ≤ z → z < y → S z → S' z)
      → ((z : ℕ) → x ≤ z → z < y → covers at k (4 + z % d) ≡ true → S' z)
      → Way d d' n S' took ended y t x s (map (performs n (d + 4) at k) l) ms
  way_places there f g = there
  way_places {x = x} (a_byte {o = o} b w) f g =
      let up = way_up w in
      a_byte
      (record {
        number_is = b.number_is;
        key_is = b.key_is;
        address_is = b.address_is;
        byte-is = b.byte-is;
        stands =
            either o.performed (lands_in n (d + 4) at k o) (λ q. f x (omega arith) (omega arith) (b.stands q))
            (λ q. g x (omega arith) (omega arith) (sym (lands_is at k b) ∙ q));
      })
      (way_places w (λ z i j. f z (omega arith) j) (λ z i j. g z (omega arith) j))
    where
      either : {A : Type 0} (a b : Bool) → (a ≡ true → A) → (b ≡ true → A) → a || b ≡ true → A
      either true b f g e = f refl
      either false b f g e = g e
  way_places (a_message m w) f g = a_message (record { bears = m.bears; last = m.last }) (way_places w f g)

-- THE OTHER CURSOR of the messages under way: what their makers had read, from r on up to t; one with F leaves r
abbrev pub read_by : Mark → ℕ → ℕ
read_by k r = cond k.failover r k.read

abbrev pub Chain : ℕ → List Mark → ℕ → Type 0
Chain r [] t = r ≤ t
Chain r (k ∷ ms) t = (r ≤ read_by k r) × Chain (read_by k r) ms t

pub chain_most : (ms : List Mark) (r t : ℕ) → Chain r ms t → r ≤ t
chain_most [] r t c = c
chain_most (k ∷ ms) r t c = omega (arith, c.0, chain_most ms (read_by k r) t c.1)

chain_from : (ms : List Mark) (q r t : ℕ) → q ≤ r → Chain r ms t → Chain q ms t
chain_from [] q r t h c = omega (arith, h, c)
chain_from (k ∷ ms) q r t h c = go k.failover c (chain_from ms q r t h)
  where
    go : (u : Bool) → (r ≤ cond u r k.read) × Chain (cond u r k.read) ms t → (Chain r ms t → Chain q ms t)
        → (q ≤ cond u q k.read) × Chain (cond u q k.read) ms t
    go true w more = (omega arith, more w.1)
    go false w more = (omega (arith, h, w.0), w.1)

-- the first is heard, or goes and changes nothing
pub chain_heard : (k : Mark) (ms : List Mark) (r t : ℕ) → k.failover ≡ false → Chain r (k ∷ ms) t → (r ≤ k.read) × Chain k.read ms t
chain_heard k ms r t z c = subst (λ (u : Bool). (r ≤ cond u r k.read) × Chain (cond u r k.read) ms t) z c

pub chain_less : (k : Mark) (ms : List Mark) (r t : ℕ) → Chain r (k ∷ ms) t → Chain r ms t
chain_less k ms r t c = chain_from ms r (read_by k r) t c.0 c.1

-- one more is made: it carries what was read; or with F
pub chain_more : (ms : List Mark) (k : Mark) (r t : ℕ) → k.failover ≡ false → Chain r ms t → t ≤ k.read
    → Chain r (ms ++ (k ∷ [])) k.read
chain_more [] k r t z c h =
    let e : read_by k r ≡ k.read = ap (λ (u : Bool). cond u r k.read) z in
    (omega (arith, h, c, e), omega (arith, e))
chain_more (j ∷ ms) k r t z c h = (c.0, chain_more ms k (read_by j r) t z c.1 h)

pub chain_beside : (ms : List Mark) (k : Mark) (r t : ℕ) → k.failover ≡ true → Chain r ms t → Chain r (ms ++ (k ∷ [])) t
chain_beside [] k r t z c =
    let e : read_by k r ≡ r = ap (λ (u : Bool). cond u r k.read) z in
    (omega (arith, e), omega (arith, e, c))
chain_beside (j ∷ ms) k r t z c = (c.0, chain_beside ms k (read_by j r) t z c.1)

-- The test of the books: it passes exactly where they are sound, and so does the test that the code makes. Assumes nothing.
use mathlib.Core.Path.{◌≡◌, refl, sym, ap, ◌∙◌}
use mathlib.Core.Bool.{Bool, true, false, not, ◌&&◌, ◌||◌, true≢false}
use Prim.Native.Nat.{ℕ, zero, suc, ◌+◌, ◌-◌, ◌%◌, ◌≤◌, ◌<◌, zero-le}
use native.Mathlib.Omega.{arith}
use lib.Dec.{ltb, leb, eqb}
use borrow.Author.Tests.{ltb-true, ltb-false, leb-true, eqb-true, eqb-false, not-false, lt-ltb, le-leb, eq-eqb, ne_eqb}
use Rattle.pool.specs.Pool.{Books, size_at, in_b, holds_b, every, free_b, size_b, apart_b, block_b, sound_b}
use Rattle.pool.specs.Steps.{empty_b, place_b, alone_b}
use Rattle.pool.specs.Statement.{In, Starts, Held, Sound}
use Rattle.pool.proofs.Every.{every_at, every_of, every_not, every_false}

-- tests and facts
pub both : (a b : Bool) → (a && b) ≡ true → (a ≡ true) × (b ≡ true)
both true b e = (refl, e)
both false b e = absurd (true≢false (sym e))

pub not_both : (a b : Bool) → (a ≡ true → b ≡ true → ⊥) → not (a && b) ≡ true
not_both true true h = absurd (h refl refl)
not_both true false h = refl
not_both false b h = refl

pub same_bool : (a b : Bool) → (a ≡ true → b ≡ true) → (b ≡ true → a ≡ true) → a ≡ b
same_bool true b f g = sym (f refl)
same_bool false true f g = g refl
same_bool false false f g = refl

pub in_of_lem : (start size u : ℕ) → in_b start size u ≡ true → In start size u
in_of_lem start size u e = let p = both (leb start u) (ltb u (start + size)) e in (leb-true start u p.0, ltb-true u (start + size) p.1)

pub of_in : (start size u : ℕ) → In start size u → in_b start size u ≡ true
of_in start size u p = rw (le-leb start u p.0, lt-ltb u (start + size) p.1)

pub some_of : (x : ℕ) → eqb x 0 ≡ false → 0 < x
some_of zero e = absurd (eqb-false 0 0 e refl)
some_of (suc x) e = omega arith

-- a block that has a unit starts somewhere
pub starts : (b : Books) (i u : ℕ) → i < 64 → In i (size_at b i) u → Starts b i
starts b i u l p = record { below = l; some = more i (size_at b i) u p.0 p.1 }
  where
    more : (i n u : ℕ) → i ≤ u → u < i + n → 0 < n
    more i n u x y = omega arith

-- and has its first unit
pub own : (b : Books) (i : ℕ) → Starts b i → In i (size_at b i) i
own b i s = first i (size_at b i) s.some
  where
    first : (i n : ℕ) → 0 < n → In i n i
    first i n l = (omega arith, omega arith)

empty_false : (b : Books) (i : ℕ) → Starts b i → eqb (size_at b i) 0 ≡ false
empty_false b i s = ne_eqb (size_at b i) 0 (no (size_at b i) s.some)
  where
    no : (n : ℕ) → 0 < n → n ≡ 0 → ⊥
    no n l e = omega arith

-- ---- a unit is held, or free
pub held_of : (b : Books) (u : ℕ) → free_b b u ≡ false → Held b u
unfolding free_b
held_of b u e =
    let f = every_not (λ i. not (holds_b b i u)) 0 64 e in
    let h : holds_b b f.at u ≡ true = not-false (holds_b b f.at u) f.fails in
    let p = in_of_lem f.at (size_at b f.at) u h in
    record { start = f.at; starts = starts b f.at u f.high p; has = p }

pub of_held : (b : Books) (u : ℕ) → Held b u → free_b b u ≡ false
unfolding free_b
of_held b u h =
    every_false (λ i. not (holds_b b i u)) 0 64 h.start zero-le h.starts.below (ap not (of_in h.start (size_at b h.start) u h.has))

-- ---- the rule's test passes exactly where the books are sound
record Tests (b : Books) (i : ℕ) : Type 0 where
  apart : every (λ k. eqb k i || apart_b b i k) 0 64 ≡ true
  within : leb (i + size_at b i) 64 ≡ true
  sized : size_b (size_at b i) ≡ true
  multiple : eqb (i % size_at b i) 0 ≡ true

tests : (b : Books) (i : ℕ) → block_b b i ≡ true → Starts b i → Tests b i
unfolding block_b
tests b i e s =
    let p = both (every (λ k. eqb k i || apart_b b i k) 0 64) _ (rw (empty_false b i s) at e) in
    let q = both (leb (i + size_at b i) 64) _ p.1 in
    let r = both (size_b (size_at b i)) _ q.1 in
    record { apart = p.0; within = q.0; sized = r.0; multiple = r.1 }

pub sound_of : (b : Books) → sound_b b ≡ true → Sound b
unfolding sound_b
sound_of b e =
    record {
      apart = λ i k u s t p q. by (eqb k i) refl (every_at (λ k. eqb k i || apart_b b i k) 0 64 k (at i s).apart zero-le t.below) (i_most i s) p q;
      within = λ i s. i_most i s;
      sized = λ i s. (at i s).sized;
      multiple = λ i s. eqb-true (i % size_at b i) 0 (at i s).multiple;
    }
  where
    at : (i : ℕ) → Starts b i → Tests b i
    at i s = tests b i (every_at (block_b b) 0 64 i e zero-le s.below) s

    i_most : (i : ℕ) → Starts b i → i + size_at b i ≤ 64
    i_most i s = leb-true (i + size_at b i) 64 (at i s).within

    by : {i k u : ℕ} → (t : Bool) → eqb k i ≡ t → (t || apart_b b i k) ≡ true → i + size_at b i ≤ 64 → In i (size_at b i) u → In k (size_at b k) u → i ≡ k
    by {i} {k} true f e m p q = sym (eqb-true k i f)
    by {i} {k} {u} false f e m p q =
        let n : not (holds_b b i u && holds_b b k u) ≡ true = every_at (λ u. not (holds_b b i u && holds_b b k u)) 0 64 u e zero-le (less u (i + size_at b i) p.1 m) in
        absurd (true≢false (sym n ∙ rw (of_in i (size_at b i) u p, of_in k (size_at b k) u q)))
      where
        less : (u m : ℕ) → u < m → m ≤ 64 → u < 0 + 64
        less u m x y = omega arith

pub of_sound : (b : Books) → Sound b → sound_b b ≡ true
unfolding sound_b block_b
of_sound b S = every_of (block_b b) 0 64 (λ i _ l. by i l (eqb (size_at b i) 0) refl)
  where
    by : (i : ℕ) → i < 0 + 64 → (t : Bool) → eqb (size_at b i) 0 ≡ t → block_b b i ≡ true
    by i l true e = rw e
    by i l false e =
        let s : Starts b i = record { below = l; some = some_of (size_at b i) e } in
        let a : every (λ k. eqb k i || apart_b b i k) 0 64 ≡ true = every_of (λ k. eqb k i || apart_b b i k) 0 64 (λ k _ m. other k m (eqb k i) refl) in
        rw (e, a, le-leb (i + size_at b i) 64 (S.within i s), S.sized i s, eq-eqb (i % size_at b i) 0 (S.multiple i s))
      where
        other : (k : ℕ) → k < 0 + 64 → (t : Bool) → eqb k i ≡ t → (t || apart_b b i k) ≡ true
        other k m true f = refl
        other k m false f = every_of (λ u. not (holds_b b i u && holds_b b k u)) 0 64 (λ u _ _. not_both (holds_b b i u) (holds_b b k u) (clash u))
          where
            clash : (u : ℕ) → holds_b b i u ≡ true → holds_b b k u ≡ true → ⊥
            clash u x y =
                let p = in_of_lem i (size_at b i) u x in
                let q = in_of_lem k (size_at b k) u y in
                eqb-false k i f (sym (S.apart i k u (starts b i u l p) (starts b k u m q) p q))

-- ---- and so does the code's
pub record Alone (b : Books) (i : ℕ) : Type 0 where
  pub sized : size_b (size_at b i) ≡ true
  pub multiple : eqb (i % size_at b i) 0 ≡ true
  pub within : leb (i + size_at b i) 64 ≡ true
  pub none : every (empty_b b) (i + 1) (size_at b i - 1) ≡ true

pub alone : (b : Books) (i : ℕ) → alone_b b i ≡ true → Starts b i → Alone b i
unfolding alone_b place_b
alone b i e s =
    let p = both (size_b (size_at b i) && eqb (i % size_at b i) 0) _ (rw (empty_false b i s) at e) in
    let q = both (size_b (size_at b i)) _ p.0 in
    let r = both (leb (i + size_at b i) 64) _ p.1 in
    record { sized = q.0; multiple = q.1; within = r.0; none = r.1 }

alone_sound : (b : Books) → every (alone_b b) 0 64 ≡ true → Sound b
alone_sound b e =
    record {
      apart = λ i k u s t p q. by i k u s t p q (ltb i k) refl (ltb k i) refl;
      within = λ i s. leb-true (i + size_at b i) 64 (at i s).within;
      sized = λ i s. (at i s).sized;
      multiple = λ i s. eqb-true (i % size_at b i) 0 (at i s).multiple;
    }
  where
    at : (i : ℕ) → Starts b i → Alone b i
    at i s = alone b i (every_at (alone_b b) 0 64 i e zero-le s.below) s

    -- no block starts further on in one
    further : (i k u : ℕ) → Starts b i → Starts b k → i < k → k ≤ u → u < i + size_at b i → ⊥
    further i k u s t l x y =
        true≢false (sym (every_at (empty_b b) (i + 1) (size_at b i - 1) k (at i s).none (omega arith) (omega arith)) ∙ empty_false b k t)

    by : (i k u : ℕ) → Starts b i → Starts b k → In i (size_at b i) u → In k (size_at b k) u
        → (t : Bool) → ltb i k ≡ t → (r : Bool) → ltb k i ≡ r → i ≡ k
    by i k u s t p q true x r y = absurd (further i k u s t (ltb-true i k x) q.0 p.1)
    by i k u s t p q false x true y = absurd (further k i u t s (ltb-true k i y) p.0 q.1)
    by i k u s t p q false x false y = let a : k ≤ i = ltb-false i k x in let c : i ≤ k = ltb-false k i y in omega arith

sound_alone : (b : Books) → Sound b → every (alone_b b) 0 64 ≡ true
unfolding alone_b place_b
sound_alone b S = every_of (alone_b b) 0 64 (λ i _ l. by i l (eqb (size_at b i) 0) refl)
  where
    by : (i : ℕ) → i < 0 + 64 → (t : Bool) → eqb (size_at b i) 0 ≡ t → alone_b b i ≡ true
    by i l true e = rw e
    by i l false e =
        let s : Starts b i = record { below = l; some = some_of (size_at b i) e } in
        let n : every (empty_b b) (i + 1) (size_at b i - 1) ≡ true = every_of (empty_b b) (i + 1) (size_at b i - 1) (λ k x y. lone s k x y (eqb (size_at b k) 0) refl) in
        rw (e, S.sized i s, eq-eqb (i % size_at b i) 0 (S.multiple i s), le-leb (i + size_at b i) 64 (S.within i s), n)
      where
        lone : Starts b i → (k : ℕ) → i + 1 ≤ k → k < i + 1 + (size_at b i - 1) → (t : Bool) → eqb (size_at b k) 0 ≡ t → t ≡ true
        lone s k x y true f = refl
        lone s k x y false f =
            let m : i + size_at b i ≤ 64 = S.within i s in
            let t : Starts b k = record { below = omega arith; some = some_of (size_at b k) f } in
            let p : In i (size_at b i) k = (omega arith, omega arith) in
            let d : i ≡ k = S.apart i k k s t p (own b k t) in
            absurd (let z : ⊥ = omega arith in z)

pub sound_is : (b : Books) → every (alone_b b) 0 64 ≡ sound_b b
sound_is b = same_bool _ _ (λ e. of_sound b (alone_sound b e)) (λ e. sound_alone b (sound_of b e))

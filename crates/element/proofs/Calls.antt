-- Each call where it acts, and where it leaves all as it is. Assumes nothing.
use mathlib.Core.Path.{◌≡◌, refl}
use mathlib.Core.Bool.{Bool, true, false, ◌&&◌, cond, and-false, and-true}
use mathlib.Core.List.{List, [], ◌∷◌, ◌++◌}
use Prim.Native.Nat.{ℕ, ◌+◌, ◌-◌, ◌≤◌, ◌<◌}
use native.Mathlib.Nat.{add-zero}
use native.Mathlib.Omega.{arith}
use lib.Dec.{ltb, leb, eqb}
use lib.ListN.{length, drop, get_or, length-drop}
use lib.Seq.{get_or-drop}
use borrow.Author.Tests.{le-leb, lt-leb, lt-ltb, leb-true, ltb-true}
use Rattle.std.proofs.lemmas.Bool.Decides.{nat_tests}
use Rattle.std.specs.List.{starts_with}
use Rattle.element.specs.Element.{eye_catcher, part, splice, fresh_element, clears, cleared_of, intact_b, intact_at, stores, stored_of, unread, into_out, reads, read_of}
use Rattle.element.proofs.Laws.{both}

-- a test that does not hold
otherwise : {A : Type 0} (x y : A) (t : Bool) → (t ≡ true → ⊥) → cond t x y ≡ y
otherwise x y true h = absurd (h refl)
otherwise x y false h = refl

module _ (m : List ℕ) (base size : ℕ) where
  pub cleared_in_lem : base + size ≤ length m → 4 ≤ size → cleared_of m base size ≡ splice m base (fresh_element size)
  unfolding cleared_of
  cleared_in_lem h k = simp (le-leb (base + size) (length m) h, le-leb 4 size k)

  pub cleared_out : ((base + size ≤ length m) × (4 ≤ size) → ⊥) → cleared_of m base size ≡ m
  unfolding cleared_of
  cleared_out h = otherwise (splice m base (fresh_element size)) m (clears m base size) (λ e. h (told e))
    where
      told : clears m base size ≡ true → (base + size ≤ length m) × (4 ≤ size)
      told e =
          let t = both (leb (base + size) (length m)) (leb 4 size) e in
          (leb-true (base + size) (length m) t.0, leb-true 4 size t.1)

module _ (m : List ℕ) (at : ℕ) (b : List ℕ) where
  pub stored_in : length b ≤ 65536 → at + length b ≤ length m → stored_of m at b ≡ splice m at b
  unfolding stored_of
  stored_in h k = simp (le-leb (length b) 65536 h, le-leb (at + length b) (length m) k)

  pub stored_out : ((length b ≤ 65536) × (at + length b ≤ length m) → ⊥) → stored_of m at b ≡ m
  unfolding stored_of
  stored_out h = otherwise (splice m at b) m (stores m at b) (λ e. h (told e))
    where
      told : stores m at b ≡ true → (length b ≤ 65536) × (at + length b ≤ length m)
      told e =
          let t = both (leb (length b) 65536) (leb (at + length b) (length m)) e in
          (leb-true (length b) 65536 t.0, leb-true (at + length b) (length m) t.1)

module _ (m : List ℕ) (base size at n : ℕ) (out : List ℕ) where
  -- what a read asks for
  pub record Readable : Type 0 where
    pub inside : base + size ≤ length m
    pub most : size ≤ 65540
    pub low : 4 ≤ at
    pub high : at < size
    pub room : n ≤ length out
    pub count : n + 4 ≤ size

  pub read_in_lem : Readable → read_of m base size at n out ≡ unread (part m base size) at n ++ drop n out
  unfolding read_of
  read_in_lem h =
      simp (
        le-leb (base + size) (length m) h.inside,
        le-leb size 65540 h.most,
        le-leb 4 at h.low,
        lt-ltb at size h.high,
        le-leb n (length out) h.room,
        le-leb n (size - 4) (omega arith),
      )

  pub read_out : (Readable → ⊥) → read_of m base size at n out ≡ out
  unfolding read_of
  read_out h = otherwise (into_out (part m base size) at n out) out (reads m base size at n out) (λ e. h (told e))
    where
      told : reads m base size at n out ≡ true → Readable
      told e =
          let a = both (leb (base + size) (length m)) (leb size 65540 && (leb 4 at && (ltb at size && (leb n (length out) && leb n (size - 4))))) e in
          let b = both (leb size 65540) (leb 4 at && (ltb at size && (leb n (length out) && leb n (size - 4)))) a.1 in
          let c = both (leb 4 at) (ltb at size && (leb n (length out) && leb n (size - 4))) b.1 in
          let d = both (ltb at size) (leb n (length out) && leb n (size - 4)) c.1 in
          let f = both (leb n (length out)) (leb n (size - 4)) d.1 in
          let g : n ≤ size - 4 = leb-true n (size - 4) f.1 in
          let k : at < size = ltb-true at size d.0 in
          let l : 4 ≤ at = leb-true 4 at c.0 in
          record {
            inside = leb-true (base + size) (length m) a.0;
            most = leb-true size 65540 b.0;
            low = l;
            high = k;
            room = leb-true n (length out) f.0;
            count = omega arith;
          }

module _ (m : List ℕ) (base : ℕ) where
  pub intact_short : length m < base + 4 → intact_at m base ≡ false
  unfolding intact_at intact_b
  intact_short h = simp (lt-leb 4 (length (drop base m)) (omega (arith, length-drop base m)))

  pub intact_long : base + 4 ≤ length m
      → intact_at m base ≡ eqb (get_or m base 0) 0xE2 && (eqb (get_or m (base + 1) 0) 0xD4 && (eqb (get_or m (base + 2) 0) 0xC3 && eqb (get_or m (base + 3) 0) 0xD9))
  unfolding intact_at intact_b
  intact_long h =
      simp (
        le-leb 4 (length (drop base m)) (omega (arith, length-drop base m)),
        get_or-drop base m 0 0,
        get_or-drop base m 1 0,
        get_or-drop base m 2 0,
        get_or-drop base m 3 0,
        add-zero,
      )

-- the eye catcher at a list's front
turned : (k a : ℕ) → eqb k a ≡ eqb a k
turned k a = grind (arith, nat_tests)

pub begins : (l : List ℕ) → starts_with eqb l eye_catcher ≡ intact_b l
unfolding intact_b
begins [] = refl
begins (a ∷ []) = simp and-false
begins (a ∷ b ∷ []) = simp and-false
begins (a ∷ b ∷ c ∷ []) = simp and-false
begins (a ∷ b ∷ c ∷ d ∷ l) =
    simp (turned 226 a, turned 212 b, turned 195 c, turned 217 d, and-true, le-leb 4 (length (a ∷ b ∷ c ∷ d ∷ l)) (omega arith))

-- Laws of lists for copying loops, and for parts of a slice that are lent. Assumes nothing.
use mathlib.Core.Path.{◌≡◌, refl, sym, ap, ◌∙◌, subst}
use mathlib.Core.Bool.{Bool, true, false, ◌&&◌}
use mathlib.Core.List.{List, [], ◌∷◌, ◌++◌, append-nil}
use Prim.Native.Nat.{ℕ, zero, suc, ◌+◌, ◌-◌, ◌≤◌}
use native.Mathlib.Omega.{arith}
use lib.Dec.{T}
use lib.ListN.{length, take, drop, length-drop, length-append, drop_of_length-le}
use lib.Seq.{take-nil, take-take, length-take-le, take-append-le, take-append-add, take_at, drop_at}
use borrow.Rule.Slice.PartMut.{put_mid, Post-is}
use Rattle.element.specs.Element.{part, splice, ring_from, unread}

pub both : (a b : Bool) → a && b ≡ true → (a ≡ true) × (b ≡ true)
both true b e = (refl, e)
both false b e = absurd (subst T (sym e) tt)

module _ {A : Type 0} where
  -- what lies from k on in the first n is the first n - k of what lies from k on
  pub drop-take : (k n : ℕ) (l : List A) → drop k (take n l) ≡ take (n - k) (drop k l)
  drop-take zero n l = let e : n ≡ n - 0 = omega arith in ap (λ (i : ℕ). take i l) e
  drop-take (suc k) zero l = let e : 0 ≡ 0 - suc k = omega arith in ap (λ (i : ℕ). take i (drop (suc k) l)) e
  drop-take (suc k) (suc n) [] = sym (take-nil (suc n - suc k))
  drop-take (suc k) (suc n) (x ∷ l) =
      let e : n - k ≡ suc n - suc k = omega arith in
      drop-take k n l ∙ ap (λ (i : ℕ). take i (drop k l)) e

  -- what `&mut m[a..e]` leaves of m when it comes back as q
  pub put_mid_lem : (m q p : List A) (a e : ℕ) → q ≡ p → e ≡ a + length p → put_mid a (e - a) m q ≡ splice m a p
  unfolding splice
  put_mid_lem m q p a e h k =
      let le : a ≤ e = omega arith in
      ap (λ (l : List A). put_mid a (e - a) m l) h
      ∙ ap (λ (l : List A). take a m ++ (p ++ l)) (Post-is a e m le ∙ ap (λ (i : ℕ). drop i m) k)

  -- two parts of a slice lent one after the other: the first r, then all after them
  pub two_parts : (o p q : List A) (r : ℕ) → length p ≡ r → r ≤ length o
      → put_mid r (length (p ++ drop r o) - r) (p ++ drop r o) q ≡ p ++ q
  two_parts o p q r h k =
      let D = drop r o in
      let e : length D ≤ length (p ++ D) - r = simp length-append (omega arith) in
      ap (λ (l : List A). l ++ (q ++ drop (length (p ++ D) - r) (drop r (p ++ D)))) (take_at p D r h)
      ∙ ap (λ (l : List A). p ++ (q ++ drop (length (p ++ D) - r) l)) (drop_at p D r h)
      ∙ ap (λ (l : List A). p ++ (q ++ l)) (drop_of_length-le D e)
      ∙ ap (λ (l : List A). p ++ l) (append-nil q)

  -- what a reader at an offset meets of an element: a run that does not reach the end
  module _ (e : List A) (off n : ℕ) where
    pub straight : n + off ≤ length e → take n (drop off e) ≡ unread e off n
    unfolding unread ring_from
    straight h =
        let le : n ≤ length (drop off e) = omega (arith, length-drop off e) in
        sym (take-append-le n (drop off e) (take (off - 4) (drop 4 e)) le)

    -- one that goes on at 4
    pub wrapped : (r : ℕ) → off ≤ length e → 4 ≤ off → n + 4 ≤ length e → r ≡ n - (length e - off) → length e - off ≤ n
        → drop off e ++ take r (drop 4 e) ≡ unread e off n
    unfolding unread ring_from
    wrapped r h four k f l =
        let X = drop off e in
        let Y = take (off - 4) (drop 4 e) in
        let count : length X + r ≡ n = omega (arith, length-drop off e) in
        let short : r ≤ off - 4 = omega arith in
        ap (λ (y : List A). X ++ y) (sym (take-take r (off - 4) (drop 4 e) short))
        ∙ sym (take-append-add X Y r)
        ∙ ap (λ (i : ℕ). take i (X ++ Y)) count

  -- an element of size bytes at base
  pub part_length : (m : List A) (base size : ℕ) → base + size ≤ length m → length (part m base size) ≡ size
  unfolding part
  part_length m base size fits =
      let le : size ≤ length m - base = omega arith in
      length-take-le size (drop base m) (rw length-drop le)

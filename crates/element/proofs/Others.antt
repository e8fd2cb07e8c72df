-- What a splice leaves, a store inside an element as the element with the store put back, a fresh element and its eye catcher, and the
-- bytes that a reader meets: for callers. Assumes nothing.
use mathlib.Core.Path.{◌≡◌, refl, sym, ap, ◌∙◌}
use mathlib.Core.Bool.{true, ◌&&◌, cond}
use mathlib.Core.List.{List, ◌++◌, append_assoc}
use Prim.Native.Nat.{ℕ, ◌+◌, ◌-◌, ◌≤◌, ◌<◌}
use native.Mathlib.Omega.{arith}
use native.Mathlib.Decide.{dec_lt}
use lib.Dec.{ltb, eqb}
use lib.ListN.{length, take, drop, get_or, length-append, length-take, length-drop, length-replicate, take-append-drop, get_or-append}
use lib.Seq.{length-take-le, take-take, take_at, drop_at, drop-drop, take-append-le, drop-append-le, take-append-add, drop-append-add, get_or-append-add, get_or-take, get_or-drop}
use borrow.Author.Tests.{lt-ltb, le-ltb, le-leb}
use Rattle.element.specs.Element.{part, splice, intact_b, intact_at, fresh_element, ring_from, unread}
use Rattle.element.proofs.Laws.{drop-take, part_length}

module _ {A : Type 0} where
  -- putting back what was there
  pub put_back : (m : List A) (base size : ℕ) → base + size ≤ length m → splice m base (part m base size) ≡ m
  unfolding splice part
  put_back m base size fits =
      rw (part_length m base size fits, ← drop-drop size base m, take-append-drop size (drop base m), take-append-drop base m)

  module _ (m b : List A) (a : ℕ) (fits : a + length b ≤ length m) where
    front_length : length (take a m) ≡ a
    front_length = length-take-le a m (omega arith)

    pub splice-length : length (splice m a b) ≡ length m
    unfolding splice
    splice-length = simp (length-append, length-take, length-drop) (omega arith)

    -- what lies before the splice, and what lies after it
    pub take_before : (n : ℕ) → n ≤ a → take n (splice m a b) ≡ take n m
    unfolding splice
    take_before n h =
        take-append-le n (take a m) (b ++ drop (a + length b) m) (omega (arith, front_length)) ∙ take-take n a m h

    pub drop_after : (n : ℕ) → a + length b ≤ n → drop n (splice m a b) ≡ drop n m
    unfolding splice
    drop_after n h =
        let D = drop (a + length b) m in
        let d = n - (a + length b) in
        let e : n ≡ length (take a m) + (length b + d) = omega (arith, front_length) in
        let f : a + length b + d ≡ n = omega arith in
        ap (λ (k : ℕ). drop k (splice m a b)) e
        ∙ drop-append-add (take a m) (b ++ D) (length b + d)
        ∙ drop-append-add b D d
        ∙ drop-drop d (a + length b) m
        ∙ ap (λ (k : ℕ). drop k m) f

    -- the piece reads back
    pub part_same : part (splice m a b) a (length b) ≡ b
    unfolding splice part
    part_same =
        ap (take (length b)) (drop_at (take a m) (b ++ drop (a + length b) m) a front_length)
        ∙ take_at b (drop (a + length b) m) (length b) refl

    -- a part that ends before it
    pub part_before : (c n : ℕ) → c + n ≤ a → part (splice m a b) c n ≡ part m c n
    unfolding part
    part_before c n h =
        let e : c + n - c ≡ n = omega arith in
        let cut : (l : List A) → take n (drop c l) ≡ drop c (take (c + n) l) =
        λ l. sym (drop-take c (c + n) l ∙ ap (λ (k : ℕ). take k (drop c l)) e) in
        cut (splice m a b) ∙ ap (drop c) (take_before (c + n) h) ∙ sym (cut m)

    -- a part that begins after it
    pub part_after : (c n : ℕ) → a + length b ≤ c → part (splice m a b) c n ≡ part m c n
    unfolding part
    part_after c n h = ap (take n) (drop_after c h)

    -- a part that reaches over it
    pub drop_splice : (c : ℕ) → c ≤ a → drop c (splice m a b) ≡ splice (drop c m) (a - c) b
    unfolding splice
    drop_splice c h =
        let e : c + (a - c + length b) ≡ a + length b = omega arith in
        drop-append-le c (take a m) (b ++ drop (a + length b) m) (omega (arith, front_length))
        ∙ ap (λ (l : List A). l ++ (b ++ drop (a + length b) m)) (drop-take c a m)
        ∙ ap (λ (l : List A). take (a - c) (drop c m) ++ (b ++ l))
        (sym (drop-drop (a - c + length b) c m ∙ ap (λ (k : ℕ). drop k m) e))

    pub take_splice : (n : ℕ) → a + length b ≤ n → take n (splice m a b) ≡ splice (take n m) a b
    unfolding splice
    take_splice n h =
        let D = drop (a + length b) m in
        let d = n - (a + length b) in
        let e : n ≡ length (take a m) + (length b + d) = omega (arith, front_length) in
        ap (λ (k : ℕ). take k (splice m a b)) e
        ∙ take-append-add (take a m) (b ++ D) (length b + d)
        ∙ ap (λ (l : List A). take a m ++ l) (take-append-add b D d)
        ∙ ap (λ (l : List A). l ++ (b ++ take d D)) (sym (take-take a n m (omega arith)))
        ∙ ap (λ (l : List A). take a (take n m) ++ (b ++ l)) (sym (drop-take (a + length b) n m))

    -- a later splice over the whole of it
    pub splice_over : (c : ℕ) (q : List A) → c ≤ a → a + length b ≤ c + length q → splice (splice m a b) c q ≡ splice m c q
    unfolding splice
    splice_over c q h k =
        ap (λ (l : List A). l ++ (q ++ drop (c + length q) (splice m a b))) (take_before c h)
        ∙ ap (λ (l : List A). take c m ++ (q ++ l)) (drop_after (c + length q) k)

  -- a store inside an element
  module _ (m b : List A) (base size a : ℕ) (inside : base + size ≤ length m) (fits : a + length b ≤ size) where
    there : base + a + length b ≤ length m
    there = omega arith

    pub part_splice : part (splice m (base + a) b) base size ≡ splice (part m base size) a b
    unfolding part
    part_splice =
        let e : base + a - base ≡ a = omega arith in
        ap (take size) (drop_splice m b (base + a) there base (omega arith) ∙ ap (λ (k : ℕ). splice (drop base m) k b) e)
        ∙ take_splice (drop base m) b a (omega (arith, length-drop base m)) size fits

    -- it is the element with the store put back
    pub splice_part : splice m (base + a) b ≡ splice m base (splice (part m base size) a b)
    splice_part =
        let m' = splice m (base + a) b in
        let n : length (splice (part m base size) a b) ≡ size =
        splice-length (part m base size) b a (omega (arith, part_length m base size inside)) ∙ part_length m base size inside in
        sym (put_back m' base size (omega (arith, splice-length m b (base + a) there)))
        ∙ ap (splice m' base) part_splice
        ∙ splice_over m b (base + a) there base (splice (part m base size) a b) (omega arith) (omega arith)

  -- two splices apart can change places
  pub splice_comm : (m b q : List A) (a c : ℕ) → a + length b ≤ c → c + length q ≤ length m
      → splice (splice m a b) c q ≡ splice (splice m c q) a b
  unfolding splice
  splice_comm m b q a c h k =
      let in_b : a + length b ≤ length m = omega arith in
      let D = drop (c + length q) m in
      ap (λ (l : List A). l ++ (q ++ drop (c + length q) (splice m a b))) (take_splice m b a in_b c h)
      ∙ ap (λ (l : List A). splice (take c m) a b ++ (q ++ l)) (drop_after m b a in_b (c + length q) (omega arith))
      ∙ append_assoc (take a (take c m)) (b ++ drop (a + length b) (take c m)) (q ++ D)
      ∙ ap (λ (l : List A). take a (take c m) ++ l) (append_assoc b (drop (a + length b) (take c m)) (q ++ D))
      ∙ ap (λ (l : List A). l ++ (b ++ (drop (a + length b) (take c m) ++ (q ++ D))))
      (take-take a c m (omega arith) ∙ sym (take_before m q c k a (omega arith)))
      ∙ ap (λ (l : List A). take a (splice m c q) ++ (b ++ l))
      (sym (drop-append-le (a + length b) (take c m) (q ++ D) (omega (arith, front_length m q c k))))

  -- the byte at a place of a splice
  module _ (z : A) where
    past : (p q : List A) (a i : ℕ) → length p ≡ a → get_or (p ++ q) (a + i) z ≡ get_or q i z
    past p q a i e = ap (λ (k : ℕ). get_or (p ++ q) (k + i) z) (sym e) ∙ get_or-append-add p q i z

    module _ (m b : List A) (a : ℕ) (fits : a + length b ≤ length m) where
      pub splice_below : (i : ℕ) → i < a → get_or (splice m a b) i z ≡ get_or m i z
      unfolding splice
      splice_below i h =
          get_or-append (take a m) (b ++ drop (a + length b) m) z i (omega (arith, front_length m b a fits))
          ∙ get_or-take a m i z h

      pub splice_in : (i : ℕ) → i < length b → get_or (splice m a b) (a + i) z ≡ get_or b i z
      unfolding splice
      splice_in i h =
          past (take a m) (b ++ drop (a + length b) m) a i (front_length m b a fits)
          ∙ get_or-append b (drop (a + length b) m) z i h

      pub splice_above : (i : ℕ) → a + length b ≤ i → get_or (splice m a b) i z ≡ get_or m i z
      splice_above i h =
          let e : i ≡ a + length b + (i - (a + length b)) = omega arith in
          let n = a + length b in
          let j = i - n in
          let at : (l : List A) → get_or l i z ≡ get_or (drop n l) j z =
          λ l. ap (λ (k : ℕ). get_or l k z) e ∙ sym (get_or-drop n l j z) in
          at (splice m a b) ∙ ap (λ (l : List A). get_or l j z) (drop_after m b a fits n (omega arith)) ∙ sym (at m)

  -- what a reader at offset `at` meets
  module _ (e : List A) (at : ℕ) (low : 4 ≤ at) (high : at < length e) where
    pub ring_length : length (ring_from e at) ≡ length e - 4
    unfolding ring_from
    ring_length = simp (length-append, length-take, length-drop) (omega arith)

    pub unread_length : (n : ℕ) → n + 4 ≤ length e → length (unread e at n) ≡ n
    unfolding unread
    unread_length n h = length-take-le n (ring_from e at) (omega (arith, ring_length))

    module _ (z : A) (n i : ℕ) (in-ring : n + 4 ≤ length e) (in-run : i < n) where
      -- up to the end
      pub unread_before : at + i < length e → get_or (unread e at n) i z ≡ get_or e (at + i) z
      unfolding unread ring_from
      unread_before h =
          get_or-take n (ring_from e at) i z in-run
          ∙ get_or-append (drop at e) (take (at - 4) (drop 4 e)) z i (omega (arith, length-drop at e))
          ∙ get_or-drop at e i z

      -- and from 4 on
      pub unread_over : length e ≤ at + i → get_or (unread e at n) i z ≡ get_or e (at + i - length e + 4) z
      unfolding unread ring_from
      unread_over h =
          let r = length e - at in
          let j = i - r in
          let s : i ≡ r + j = omega arith in
          let f : 4 + j ≡ at + i - length e + 4 = omega arith in
          get_or-take n (ring_from e at) i z in-run
          ∙ ap (λ (k : ℕ). get_or (ring_from e at) k z) s
          ∙ past z (drop at e) (take (at - 4) (drop 4 e)) r j (length-drop at e)
          ∙ get_or-take (at - 4) (drop 4 e) j z (omega arith)
          ∙ get_or-drop 4 e j z
          ∙ ap (λ (k : ℕ). get_or e k z) f

      pub unread_at : get_or (unread e at n) i z ≡ get_or e (cond (ltb (at + i) (length e)) (at + i) (at + i - length e + 4)) z
      unread_at =
          elim (dec_lt (at + i) (length e)) [
            | yes h ↦ rw (lt-ltb (at + i) (length e) h) (unread_before h)
            | no h ↦ rw (le-ltb (at + i) (length e) (omega arith)) (unread_over (omega arith))
          ]

-- a fresh element
pub fresh_length : (n : ℕ) → 4 ≤ n → length (fresh_element n) ≡ n
unfolding fresh_element
fresh_length n h = omega (arith, length-replicate {A = ℕ} (n - 4) 0)

eye : (n : ℕ)
    → (eqb (get_or (fresh_element n) 0 0) 0xE2 && (eqb (get_or (fresh_element n) 1 0) 0xD4 && (eqb (get_or (fresh_element n) 2 0) 0xC3 && eqb (get_or (fresh_element n) 3 0) 0xD9))) ≡ true
unfolding fresh_element
eye n = refl

pub fresh_intact : (n : ℕ) → 4 ≤ n → intact_b (fresh_element n) ≡ true
unfolding intact_b
fresh_intact n h = rw (le-leb 4 (length (fresh_element n)) (omega (arith, fresh_length n h))) (eye n)

-- the eye catcher is a matter of the first four bytes
same_eye : (e f : List ℕ) → 4 ≤ length e → 4 ≤ length f → ((i : ℕ) → i < 4 → get_or e i 0 ≡ get_or f i 0) → intact_b e ≡ intact_b f
unfolding intact_b
same_eye e f h k s =
    rw (le-leb 4 (length e) h, le-leb 4 (length f) k, s 0 (omega arith), s 1 (omega arith), s 2 (omega arith), s 3 (omega arith))

pub intact_part : (m : List ℕ) (base size : ℕ) → 4 ≤ size → base + size ≤ length m → intact_at m base ≡ intact_b (part m base size)
unfolding intact_at part
intact_part m base size h fits =
    same_eye (drop base m) (part m base size) (omega (arith, length-drop base m)) (omega (arith, part_length m base size fits)) same
  where
    same : (i : ℕ) → i < 4 → get_or (drop base m) i 0 ≡ get_or (part m base size) i 0
    same i l = sym (get_or-take size (drop base m) i 0 (omega arith))

-- a store in the data leaves it
pub intact_kept : (e b : List ℕ) (a : ℕ) → 4 ≤ a → a + length b ≤ length e → intact_b (splice e a b) ≡ intact_b e
intact_kept e b a h fits =
    same_eye (splice e a b) e (omega (arith, splice-length e b a fits)) (omega arith)
    (λ i l. splice_below 0 e b a fits i (omega arith))

-- What a take and a return do to the units and to the books. Assumes nothing.
use mathlib.Core.Path.{◌≡◌, refl, sym, ap, ◌∙◌}
use mathlib.Core.Bool.{Bool, true, false}
use mathlib.Core.Logic.{◌⊎◌, inl, inr, ◌↔◌}
use Prim.Native.Nat.{ℕ, ◌+◌, ◌≤◌, ◌<◌}
use native.Mathlib.Omega.{arith}
use lib.Dec.{ltb}
use lib.ListN.{length, set}
use borrow.Author.Tests.{ltb-true, ltb-false}
use lib.Seq.{set-set, set-get_or}
use Rattle.pool.specs.Pool.{Books, size_at, size_b}
use Rattle.pool.specs.Statement.{In, Starts, Held, Fits, Sound, GivenOut}
use Rattle.pool.proofs.Sizes.{size_some}
use Rattle.pool.proofs.Sound.{own}
use Rattle.pool.proofs.Units.{size_here, size_there, which, starts_there, in_there, held_then, then_held, here_held}

-- nothing lies in an empty run
empty : (i u : ℕ) → In i 0 u → ⊥
empty i u p = nothing i u p.0 p.1
  where
    nothing : (i u : ℕ) → i ≤ u → u < i + 0 → ⊥
    nothing i u x y = omega arith

-- ---- a block that fits is taken
module _ (b : Books) (L : length b ≡ 64) (n i : ℕ) (z : size_b n ≡ true) (f : Fits b n i) where
  in_pool : i < 64
  in_pool = let s = size_some n z in let w : i + n ≤ 64 = f.within in omega arith

  -- no block started there
  none_there : Starts b i → ⊥
  none_there s = f.free i (first n (size_some n z)) (record { start = i; starts = s; has = own b i s })
    where
      first : (n : ℕ) → 0 < n → In i n i
      first n l = (omega arith, omega arith)

  pub was_empty : size_at b i ≡ 0
  was_empty = by (size_at b i) (λ l. none_there (record { below = in_pool; some = l }))
    where
      by : (x : ℕ) → (0 < x → ⊥) → x ≡ 0
      by x h = go (ltb 0 x) refl
        where
          go : (t : Bool) → ltb 0 x ≡ t → x ≡ 0
          go true e = absurd (h (ltb-true 0 x e))
          go false e = let l = ltb-false 0 x e in omega arith

  pub taken_units : (u : ℕ) → Held (set b i n) u ↔ (Held b u ⊎ In i n u)
  taken_units u = (to, from)
    where
      to : Held (set b i n) u → Held b u ⊎ In i n u
      to h = elim (held_then b L i in_pool n u h) [ inl p ↦ inr p | inr g ↦ inl g.0 ]

      from : Held b u ⊎ In i n u → Held (set b i n) u
      from (inl h) = then_held b L i in_pool n u h (λ e. none_there (rw e at h.starts))
      from (inr p) = here_held b L i in_pool n u p

  -- put back, the books are as they were
  pub put_back : set (set b i n) i 0 ≡ b
  put_back = set-set b i n 0 ∙ ap (λ (x : ℕ). set b i x) (sym was_empty) ∙ set-get_or b i 0

  pub now_out : GivenOut (set b i n) i n
  now_out = (record { below = in_pool; some = rw (size_here b L i in_pool n) (size_some n z) }, size_here b L i in_pool n)

  -- an old block has no unit of the new one
  clash : (k u : ℕ) → Starts b k → In k (size_at b k) u → In i n u → ⊥
  clash k u s p q = f.free u q (record { start = k; starts = s; has = p })

  pub take_keeps : Sound b → Sound (set b i n)
  take_keeps S =
      record {
        apart = λ k j u s t p q. apart k j u s t p q (which b L i in_pool k) (which b L i in_pool j);
        within = λ k s. elim (which b L i in_pool k) [
          | inl e ↦ rw (e, size_here b L i in_pool n) f.within
          | inr ne ↦ rw (size_there b L i in_pool n k ne) (S.within k (starts_there b L i in_pool n k ne s))
        ];
        sized = λ k s. elim (which b L i in_pool k) [
          | inl e ↦ rw (e, size_here b L i in_pool n) z
          | inr ne ↦ rw (size_there b L i in_pool n k ne) (S.sized k (starts_there b L i in_pool n k ne s))
        ];
        multiple = λ k s. elim (which b L i in_pool k) [
          | inl e ↦ rw (e, size_here b L i in_pool n) f.multiple
          | inr ne ↦ rw (size_there b L i in_pool n k ne) (S.multiple k (starts_there b L i in_pool n k ne s))
        ];
      }
    where
      here : {k u : ℕ} → k ≡ i → In k (size_at (set b i n) k) u → In i n u
      here {k} e p = rw (size_here b L i in_pool n) at (rw e at p)

      apart : (k j u : ℕ) → Starts (set b i n) k → Starts (set b i n) j → In k (size_at (set b i n) k) u → In j (size_at (set b i n) j) u
          → (k ≡ i) ⊎ (k ≡ i → ⊥) → (j ≡ i) ⊎ (j ≡ i → ⊥) → k ≡ j
      apart k j u s t p q (inl e) (inl d) = e ∙ sym d
      apart k j u s t p q (inl e) (inr nd) = absurd (clash j u (starts_there b L i in_pool n j nd t) (in_there b L i in_pool n j nd u q) (here e p))
      apart k j u s t p q (inr ne) (inl d) = absurd (clash k u (starts_there b L i in_pool n k ne s) (in_there b L i in_pool n k ne u p) (here d q))
      apart k j u s t p q (inr ne) (inr nd) =
          S.apart k j u (starts_there b L i in_pool n k ne s) (starts_there b L i in_pool n j nd t) (in_there b L i in_pool n k ne u p) (in_there b L i in_pool n j nd u q)

-- ---- a block that was given out is returned
module _ (b : Books) (L : length b ≡ 64) (S : Sound b) (i n : ℕ) (g : GivenOut b i n) where
  below : i < 64
  below = g.0.below

  its : (u : ℕ) → In i n u → In i (size_at b i) u
  its u p = rw g.1 p

  pub freed_units : (u : ℕ) → Held (set b i 0) u ↔ (Held b u × (In i n u → ⊥))
  freed_units u = (to, from)
    where
      to : Held (set b i 0) u → Held b u × (In i n u → ⊥)
      to h = elim (held_then b L i below 0 u h) [
        | inl p ↦ absurd (empty i u p)
        | inr o ↦ (o.0, λ p. o.1 (S.apart o.0.start i u o.0.starts g.0 o.0.has (its u p)))
      ]

      from : Held b u × (In i n u → ⊥) → Held (set b i 0) u
      from (h, out) = then_held b L i below 0 u h (λ e. out (was e h.has))
        where
          was : {k : ℕ} → k ≡ i → In k (size_at b k) u → In i n u
          was {k} e p = rw g.1 at (rw e at p)

  pub was_held : (u : ℕ) → In i n u → Held b u
  was_held u p = record { start = i; starts = g.0; has = its u p }

  other : (k : ℕ) → Starts (set b i 0) k → k ≡ i → ⊥
  other k s e = no (size_at (set b i 0) k) s.some (ap (λ (j : ℕ). size_at (set b i 0) j) e ∙ size_here b L i below 0)
    where
      no : (x : ℕ) → 0 < x → x ≡ 0 → ⊥
      no x l e = omega arith

  pub return_keeps : Sound (set b i 0)
  return_keeps =
      record {
        apart = λ k j u s t p q. S.apart k j u (old k s) (old j t) (in_there b L i below 0 k (other k s) u p) (in_there b L i below 0 j (other j t) u q);
        within = λ k s. rw (size_there b L i below 0 k (other k s)) (S.within k (old k s));
        sized = λ k s. rw (size_there b L i below 0 k (other k s)) (S.sized k (old k s));
        multiple = λ k s. rw (size_there b L i below 0 k (other k s)) (S.multiple k (old k s));
      }
    where
      old : (k : ℕ) → Starts (set b i 0) k → Starts b k
      old k s = starts_there b L i below 0 k (other k s) s

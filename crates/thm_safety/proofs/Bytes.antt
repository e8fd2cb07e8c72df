-- Where each byte of an element comes from: the open, or a place since. Assumes nothing.
use mathlib.Core.Path.{◌≡◌, refl, sym, ap, ◌∙◌}
use mathlib.Core.Logic.{◌⊎◌, inl, inr}
use mathlib.Core.Bool.{Bool, true, false, false≢true, cond}
use mathlib.Core.Option.{some}
use mathlib.Core.List.{List, [], ◌∷◌}
use Prim.Native.Nat.{ℕ, zero, suc, ◌+◌, ◌-◌, ◌<◌, ◌≤◌}
use native.Mathlib.Decide.{dec_lt}
use native.Mathlib.Omega.{arith}
use lib.ListN.{length, get_or}
use Rattle.element.specs.Element.{splice, fresh_element}
use Rattle.element.proofs.Others.{splice_below, splice_above}
use Rattle.conn_receive.proofs.Laws.{Placeable}
use Rattle.group_rules.specs.Rules.{Group, place, open_slot, Call, on, manage, accepted, does, answer, next, record_of_all, element_in}
use Rattle.thm_order.specs.Statement.{leaves}
use Rattle.thm_order.proofs.Slots.{element_long}
use Rattle.thm_safety.specs.Statement.{OpenAt, accepted_b, changed_by, held_after, Opens, Covers}
use Rattle.thm_refusals.proofs.Answers.{clash}
use Rattle.group_rules.proofs.Says.{says_accepted}
use Rattle.thm_safety.proofs.Invariant.{Sound, sizes}
use Rattle.thm_safety.proofs.Changed.{Changes, opens, places, stays, changes}
use Rattle.thm_safety.proofs.Calls.{Opening}
use Rattle.thm_safety.proofs.Sound.{kept_sizes, open_before, sound_next}
use Rattle.thm_safety.proofs.OnSlot.{placed_inside}
use Rattle.thm_safety.proofs.Held.{held_next}
use Rattle.thm_safety.proofs.Lists.{splice_none, zero_at, splice_at}

-- the call is an accepted place on slot k that covers offset x
pub record Covering (g : Group) (c : Call) (k x : ℕ) : Type 0 where
  pub at : ℕ
  pub bytes : List ℕ
  pub is : c ≡ on k (place at bytes)
  pub took : (answer g c).says ≡ accepted
  pub low : at ≤ x
  pub high : x < at + length bytes

-- one call on, the byte v at offset x of slot k's element is 0 after an open, one that a place stored, or the byte that it was
data Came (g : Group) (c : Call) (k x was v : ℕ) : Type 0 where
  by_open : Opening g c k (does g c) → (Covering g c k x → ⊥) → v ≡ 0 → Came g c k x was v
  by_place : (Opening g c k (does g c) → ⊥) → (w : Covering g c k x) → get_or w.bytes (x - w.at) 0 ≡ v → Came g c k x was v
  kept : (Opening g c k (does g c) → ⊥) → (Covering g c k x → ⊥) → v ≡ was → Came g c k x was v

module _ (g : Group) (s : Sound g) (j x : ℕ) (l : j < g.S) (low : 4 ≤ x) where
  abbrev e : List ℕ
  e = element_in g (suc j)

  abbrev Now : Call → List ℕ → Type 0
  Now c f = Came g c (suc j) x (get_or e x 0) (get_or f x 0)

  fresh_byte : get_or (fresh_element g.N) x 0 ≡ 0
  unfolding fresh_element
  fresh_byte =
      let p : x ≡ suc (suc (suc (suc (x - 4)))) = omega arith in
      ap (λ i. get_or (fresh_element g.N) i 0) p ∙ zero_at (g.N - 4) (x - 4)

  long : length e ≡ g.N
  long = element_long g.N g.S g.memory (sizes g s).whole j l

  -- a place that was accepted covers what its bytes cover
  module _ (at : ℕ) (b : List ℕ) (c : Call) (p : c ≡ on (suc j) (place at b)) (a : (answer g c).says ≡ accepted) where
    no_open : Opening g c (suc j) (does g c) → ⊥
    no_open o = let r = o.is in clash (cc)

    uncovered : (at ≤ x → x < at + length b → ⊥) → Covering g c (suc j) x → ⊥
    uncovered h w =
        let r = w.is in
        let y : w.at ≡ at = cc in
        let z : w.bytes ≡ b = cc in
        h (omega (arith, y, w.low)) (omega (arith, y, ap length z, w.high))

    in_place : at + length b ≤ length e → Now c (splice e at b)
    in_place h = go (dec_lt x at) (dec_lt x (at + length b))
      where
        go : Dec (x < at) → Dec (x < at + length b) → Now c (splice e at b)
        go (yes l) r = kept no_open (uncovered (λ f k. omega arith)) (splice_below 0 e b at h x l)
        go (no l) (yes r) =
            by_place no_open (record { at = at; bytes = b; is = p; took = a; low = omega arith; high = r })
            (sym (splice_at e b at x h (omega arith) r))
        go (no l) (no r) = kept no_open (uncovered (λ f k. omega arith)) (splice_above 0 e b at h x (omega arith))

    placed : Placeable g.N (record_of_all g (suc j)).inbound at (length b) → Now c (splice e at b)
    placed (inl z) = kept no_open (uncovered (λ f k. omega arith)) (ap (λ f. get_or f x 0) (splice_none e b at z))
    placed (inr w) = in_place (omega (arith, w.1, long))

  by_call : (c : Call) → (answer g c).says ≡ accepted → Changes g.N (suc j) c e → Now c (changed_by g.N (suc j) c e)
  by_call c a (opens given p q) =
      rw q
      (by_open (record { given = given; is = p; took = a }) (λ w. let r = w.is in clash (cc)) fresh_byte)
  by_call c a (places at b p q) = rw q (placed at b c p a (placed_inside g s (suc j) at b (rw p at a)))
  by_call c a (stays h f q) = rw q (kept (λ o. h o.given o.is) (λ w. f w.at w.bytes w.is) refl)

  came : (c : Call) → Now c (element_in (next g c) (suc j))
  unfolding held_after
  came c = rw (held_next g s c j) (go (accepted_b (answer g c).says) refl)
    where
      go : (t : Bool) → accepted_b (answer g c).says ≡ t → Now c (cond t (changed_by g.N (suc j) c e) e)
      go true h = by_call c (says_accepted (answer g c).says h) (changes g.N (suc j) e c)
      go false h =
          kept (λ o. false≢true (sym h ∙ ap accepted_b o.took)) (λ w. false≢true (sym h ∙ ap accepted_b w.took)) refl

-- EACH BYTE, over all calls. One call later, numbers are one more
module _ (g : Group) (c : Call) (cs : List Call) (k : ℕ) where
  pub opens_later : (i : ℕ) → Opens (next g c) cs i k → Opens g (c ∷ cs) (suc i) k
  unfolding leaves
  opens_later i o = record { given = o.given; took = o.took }

  pub opens_sooner : (i : ℕ) → Opens g (c ∷ cs) (suc i) k → Opens (next g c) cs i k
  unfolding leaves
  opens_sooner i o = record { given = o.given; took = o.took }

  covers_later : (i x : ℕ) → Covers (next g c) cs i k x → Covers g (c ∷ cs) (suc i) k x
  unfolding leaves
  covers_later i x o = record { at = o.at; bytes = o.bytes; took = o.took; low = o.low; high = o.high }

  covers_sooner : (i x : ℕ) → Covers g (c ∷ cs) (suc i) k x → Covers (next g c) cs i k x
  unfolding leaves
  covers_sooner i x o = record { at = o.at; bytes = o.bytes; took = o.took; low = o.low; high = o.high }

  -- the first call is an open, or a place, where it was accepted
  pub opens_first : Opening g c k (does g c) → Opens g (c ∷ cs) 0 k
  unfolding leaves
  opens_first o = record { given = o.given; took = (ap some o.is, rw o.is at o.took) }

  pub first_opens : Opens g (c ∷ cs) 0 k → Opening g c k (does g c)
  unfolding leaves
  first_opens o =
      let p : c ≡ manage (open_slot k o.given) = let q = o.took.0 in cc in
      record { given = o.given; is = p; took = rw p o.took.1 }

  covers_first : (x : ℕ) → Covering g c k x → Covers g (c ∷ cs) 0 k x
  unfolding leaves
  covers_first x w =
      record { at = w.at; bytes = w.bytes; took = (ap some w.is, rw w.is at w.took); low = w.low; high = w.high }

  first_covers : (x : ℕ) → Covers g (c ∷ cs) 0 k x → Covering g c k x
  unfolding leaves
  first_covers x w =
      let p : c ≡ on k (place w.at w.bytes) = let q = w.took.0 in cc in
      record { at = w.at; bytes = w.bytes; is = p; took = rw p w.took.1; low = w.low; high = w.high }

-- from number i on the slot is not opened, or offset x of its element not covered
abbrev pub Unopened : Group → List Call → ℕ → ℕ → Type 0
Unopened g cs k i = (n : ℕ) → i ≤ n → Opens g cs n k → ⊥

abbrev pub Uncovered : Group → List Call → ℕ → ℕ → ℕ → Type 0
Uncovered g cs k x i = (n : ℕ) → i ≤ n → Covers g cs n k x → ⊥

-- the byte v at offset x is v0, which none covers from number i on, or that of the last one that covers it from there on
pub data Since (g : Group) (cs : List Call) (k i x v0 v : ℕ) : Type 0 where
  unstored : Uncovered g cs k x i → v ≡ v0 → Since g cs k i x v0 v
  stored : (n : ℕ) → i ≤ n → (w : Covers g cs n k x) → get_or w.bytes (x - w.at) 0 ≡ v → Uncovered g cs k x (suc n) → Since g cs k i x v0 v

-- where the byte v at offset x of slot k's element came from, over the calls cs; `was` stood there before them
pub data From (g : Group) (cs : List Call) (k x was v : ℕ) : Type 0 where
  unopened : Unopened g cs k 0 → Since g cs k 0 x was v → From g cs k x was v
  since_open : (i : ℕ) → Opens g cs i k → Unopened g cs k (suc i) → Since g cs k (suc i) x 0 v → From g cs k x was v

module _ (g : Group) (c : Call) (cs : List Call) (k x was now v : ℕ) where
  later_unopened : (i : ℕ) → Unopened (next g c) cs k i → Unopened g (c ∷ cs) k (suc i)
  later_unopened i u zero l o = omega arith
  later_unopened i u (suc n) l o = u n (omega arith) (opens_sooner g c cs k n o)

  later_uncovered : (i : ℕ) → Uncovered (next g c) cs k x i → Uncovered g (c ∷ cs) k x (suc i)
  later_uncovered i u zero l o = omega arith
  later_uncovered i u (suc n) l o = u n (omega arith) (covers_sooner g c cs k n x o)

  later : (i v0 : ℕ) → Since (next g c) cs k i x v0 v → Since g (c ∷ cs) k (suc i) x v0 v
  unfolding covers_later
  later i v0 (unstored u e) = unstored (later_uncovered i u) e
  later i v0 (stored n l w e u) = stored (suc n) (omega arith) (covers_later g c cs k n x w) e (later_uncovered (suc n) u)

  -- nor by the first call
  unopened_all : (Opening g c k (does g c) → ⊥) → Unopened (next g c) cs k 0 → Unopened g (c ∷ cs) k 0
  unopened_all h u zero l o = h (first_opens g c cs k o)
  unopened_all h u (suc n) l o = u n (omega arith) (opens_sooner g c cs k n o)

  uncovered_all : (Covering g c k x → ⊥) → Uncovered g (c ∷ cs) k x 1 → Uncovered g (c ∷ cs) k x 0
  uncovered_all h u zero l w = h (first_covers g c cs k x w)
  uncovered_all h u (suc n) l w = u (suc n) (omega arith) w

  after_open : now ≡ 0 → Since g (c ∷ cs) k 1 x now v → Since g (c ∷ cs) k 1 x 0 v
  after_open z (unstored u e) = unstored u (e ∙ z)
  after_open z (stored n l w e u) = stored n l w e u

  after_place : (w : Covering g c k x) → get_or w.bytes (x - w.at) 0 ≡ now → Since g (c ∷ cs) k 1 x now v → Since g (c ∷ cs) k 0 x was v
  unfolding covers_first
  after_place w b (unstored u e) = stored 0 (omega arith) (covers_first g c cs k x w) (b ∙ sym e) u
  after_place w b (stored n l y e u) = stored n (omega arith) y e u

  after_none : (Covering g c k x → ⊥) → now ≡ was → Since g (c ∷ cs) k 1 x now v → Since g (c ∷ cs) k 0 x was v
  after_none h z (unstored u e) = unstored (uncovered_all h u) (e ∙ z)
  after_none h z (stored n l y e u) = stored n (omega arith) y e u

  from_step : Came g c k x was now → From (next g c) cs k x now v → From g (c ∷ cs) k x was v
  from_step h (since_open i o u w) = since_open (suc i) (opens_later g c cs k i o) (later_unopened (suc i) u) (later (suc i) 0 w)
  from_step (by_open o h z) (unopened u w) = since_open 0 (opens_first g c cs k o) (later_unopened 0 u) (after_open z (later 0 now w))
  from_step (by_place h w b) (unopened u y) = unopened (unopened_all h u) (after_place w b (later 0 now y))
  from_step (kept h f z) (unopened u w) = unopened (unopened_all h u) (after_none f z (later 0 now w))

pub from_calls : (cs : List Call) (g : Group) → Sound g → (j x : ℕ) → j < g.S → 4 ≤ x
    → From g cs (suc j) x (get_or (element_in g (suc j)) x 0) (get_or (element_in (leaves g cs) (suc j)) x 0)
unfolding leaves
from_calls [] g s j x l low =
    unopened (λ n h o. let p = o.took.0 in clash (cc)) (unstored (λ n h w. let p = w.took.0 in clash (cc)) refl)
from_calls (c ∷ cs) g s j x l low =
    let inside : j < (next g c).S = omega (arith, kept_sizes g s c) in
    from_step g c cs (suc j) x _ _ _ (came g s j x l low c) (from_calls cs (next g c) (sound_next g s c) j x inside low)

-- a slot that is not opened is not open at the end if it was not at first
pub still_closed : (cs : List Call) (g : Group) → Sound g → (j : ℕ) → Unopened g cs (suc j) 0 → OpenAt (leaves g cs) (suc j)
    → OpenAt g (suc j)
unfolding leaves
still_closed [] g s j u o = o
still_closed (c ∷ cs) g s j u o = go (open_before g s c j (still_closed cs (next g c) (sound_next g s c) j later_none o))
  where
    later_none : Unopened (next g c) cs (suc j) 0
    later_none n h p = u (suc n) (omega arith) (opens_later g c cs (suc j) n p)

    go : OpenAt g (suc j) ⊎ Opening g c (suc j) (does g c) → OpenAt g (suc j)
    go (inl w) = w
    go (inr w) = absurd (u 0 (omega arith) (opens_first g c cs (suc j) w))

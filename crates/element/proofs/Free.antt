-- A run of free bytes in closed form: the run's last byte is the farthest from P, unless the run passes P. Assumes nothing.
use mathlib.Core.Path.{◌≡◌, refl, sym, ap, ◌∙◌}
use mathlib.Core.Bool.{true, false, ◌||◌, and-false}
use Prim.Native.Nat.{ℕ, zero, suc, ◌+◌, ◌-◌, ◌%◌, ◌≤◌, ◌<◌}
use native.Mathlib.Nat.{mod-lt, mod-eq_of_lt, mod_self, suc-mod, zero-mod}
use native.Mathlib.Numerals.{add-one}
use native.Mathlib.Omega.{arith}
use native.Mathlib.Decide.{dec_le, dec_lt}
use lib.Dec.{leb}
use borrow.Author.Tests.{lt-ltb, le-ltb, le-leb, lt-leb}
use Rattle.element.specs.Element.{free_from, free_b, all_free}
use Rattle.element.proofs.Laws.{both}

-- (x - p) mod d, as the code computes it
pub from_up : (d p x : ℕ) → p ≤ x → free_from d p x ≡ (x - p) % d
from_up d p x h = simp (le-ltb x p h)

pub from_down : (d p x : ℕ) → x < p → free_from d p x ≡ d - 1 - (p - x - 1) % d
from_down d p x h =
    let e : p - suc x ≡ p - x - 1 = omega arith in
    simp (lt-ltb x p h, e)

module _ (d : ℕ) (full : 0 < d) where
  -- one on in a ring of d places
  record On (s t : ℕ) : Type 0 where
    next : s + 1 < d → t ≡ s + 1
    over : s + 1 ≡ d → t ≡ 0

  mod_on : (n : ℕ) → On (n % d) ((n + 1) % d)
  mod_on n =
      let e : (n + 1) % d ≡ (n % d + 1) % d = rw (add-one n, suc-mod n d, add-one (n % d)) in
      record {
        next = λ h. e ∙ mod-eq_of_lt h;
        over = λ h. e ∙ ap (λ (k : ℕ). k % d) h ∙ mod_self d;
      }

  pub from_less : (p x : ℕ) → free_from d p x < d
  from_less p x =
      elim (dec_le p x) [
        | yes h ↦ rw (from_up d p x h) (mod-lt (x - p) full)
        | no h ↦ rw (from_down d p x (omega arith)) (omega arith)
      ]

  -- the distance past P goes up by one from a byte to the next, and from d - 1 to 0
  from_on : (p x : ℕ) → On (free_from d p x) (free_from d p (x + 1))
  from_on p x =
      elim (dec_le p x) [
        | yes h ↦
            let e : x + 1 - p ≡ x - p + 1 = omega arith in
            let l : p ≤ x + 1 = omega arith in
            rw (from_up d p x h, from_up d p (x + 1) l, e) (mod_on (x - p))
        | no h ↦
            let k : x < p = omega arith in
            rw (from_down d p x k)
            elim (dec_le p (x + 1)) [
              | yes g ↦
                  let e : p - x - 1 ≡ 0 = omega arith in
                  let f : x + 1 - p ≡ 0 = omega arith in
                  rw (from_up d p (x + 1) g, e, f, zero-mod d)
                  (record { next = λ i. absurd (omega arith); over = λ i. refl })
              | no g ↦
                  let l : x + 1 < p = omega arith in
                  rw (from_down d p (x + 1) l) (back (p - (x + 1) - 1) (p - x - 1) (omega arith))
            ]
      ]
    where
      back : (n m : ℕ) → m ≡ n + 1 → On (d - 1 - m % d) (d - 1 - n % d)
      back n m e =
          let o = mod_on n in
          rw e
          elim (dec_lt (n % d + 1) d) [
            | yes h ↦ record { next = λ i. omega (arith, o.next h); over = λ i. omega (arith, o.next h) }
            | no h ↦
                let z : (n + 1) % d ≡ 0 = o.over (omega (arith, mod-lt n full)) in
                record { next = λ i. omega arith; over = λ i. omega (arith, mod-lt n full) }
          ]

  module _ (p w : ℕ) where
    free_not : (x : ℕ) → w ≤ free_from d p x → free_b d p w x ≡ false
    free_not x h = simp (le-ltb (free_from d p x) w h)

    free_is : (x : ℕ) → free_from d p x < w → free_b d p w x ≡ true
    free_is x h = simp (lt-ltb (free_from d p x) w h, lt-ltb 0 d full)

    -- a window of the whole ring
    pub all_free_whole : d ≤ w → (x k : ℕ) → all_free d p w x k ≡ true
    unfolding all_free
    all_free_whole h x zero = refl
    all_free_whole h x (suc k) =
        let s : free_from d p x < w = omega (arith, from_less p x) in
        rw (free_is x s) (all_free_whole h (x + 1) k)

    -- the run lies in the window
    pub all_free_run : w < d → (x k : ℕ) → free_from d p x + k ≤ w → all_free d p w x k ≡ true
    unfolding all_free
    all_free_run h x zero l = refl
    all_free_run h x (suc k) l =
        let s : free_from d p x < w = omega arith in
        let n : free_from d p (x + 1) ≡ free_from d p x + 1 = (from_on p x).next (omega arith) in
        rw (free_is x s) (all_free_run h (x + 1) k (omega arith))

    -- or leaves it
    pub all_free_not : w < d → (x k : ℕ) → 0 < k → w < free_from d p x + k → all_free d p w x k ≡ false
    unfolding all_free
    all_free_not h x zero q l = absurd (omega arith)
    all_free_not h x (suc zero) q l = rw (free_not x (omega arith))
    all_free_not h x (suc (suc k)) q l =
        elim (dec_le w (free_from d p x)) [
          | yes m ↦ rw (free_not x m)
          | no m ↦
              let n : free_from d p (x + 1) ≡ free_from d p x + 1 = (from_on p x).next (omega arith) in
              rw (free_is x (omega arith)) (all_free_not h (x + 1) (suc k) (omega arith) (omega arith))
        ]

    pub all_free_is : (x k : ℕ) → 0 < k → all_free d p w x k ≡ leb d w || leb (free_from d p x + k) w
    all_free_is x k q =
        elim (dec_le d w) [
          | yes h ↦ all_free_whole h x k ∙ sym (simp (le-leb d w h))
          | no h ↦
              elim (dec_le (free_from d p x + k) w) [
                | yes l ↦
                    all_free_run (omega arith) x k l
                    ∙ sym (simp (lt-leb d w (omega arith), le-leb (free_from d p x + k) w l))
                | no l ↦
                    all_free_not (omega arith) x k q (omega arith)
                    ∙ sym (simp (lt-leb d w (omega arith), lt-leb (free_from d p x + k) w (omega arith)))
              ]
        ]

    -- the test that the code makes
    pub all_free_fits : w < d → (x k s : ℕ) → 0 < k → s ≡ free_from d p x → s ≤ w → leb k (w - s) ≡ all_free d p w x k
    all_free_fits h x k s q e l =
        elim (dec_le k (w - s)) [
          | yes m ↦ le-leb k (w - s) m ∙ sym (all_free_run h x k (omega arith))
          | no m ↦ lt-leb k (w - s) (omega arith) ∙ sym (all_free_not h x k q (omega arith))
        ]

-- no bytes; and a ring with no places
pub all_free_none : (d p w x k : ℕ) → k ≡ 0 → all_free d p w x k ≡ true
unfolding all_free
all_free_none d p w x k e = rw e

pub all_free_empty : (d p w x k : ℕ) → d ≡ 0 → 0 < k → all_free d p w x k ≡ false
unfolding all_free
all_free_empty d p w x zero e q = absurd (omega arith)
all_free_empty d p w x (suc k) e q = simp (le-ltb 0 d (omega arith), and-false)

-- each byte of a free run is free, and a run of free bytes is free
module _ (d p w : ℕ) where
  pub all_free_each : (x k : ℕ) → all_free d p w x k ≡ true → (i : ℕ) → i < k → free_b d p w (x + i) ≡ true
  unfolding all_free
  all_free_each x zero h i l = absurd (omega arith)
  all_free_each x (suc k) h zero l =
      let e : x + 0 ≡ x = omega arith in
      rw e (both (free_b d p w x) (all_free d p w (x + 1) k) h).0
  all_free_each x (suc k) h (suc i) l =
      let e : x + suc i ≡ x + 1 + i = omega arith in
      rw e (all_free_each (x + 1) k (both (free_b d p w x) (all_free d p w (x + 1) k) h).1 i (omega arith))

  pub each_all_free : (x k : ℕ) → ((i : ℕ) → i < k → free_b d p w (x + i) ≡ true) → all_free d p w x k ≡ true
  unfolding all_free
  each_all_free x zero h = refl
  each_all_free x (suc k) h =
      let e : x + 0 ≡ x = omega arith in
      let f : free_b d p w x ≡ true = rw e at (h 0 (omega arith)) in
      rw f (each_all_free (x + 1) k (λ i l. let g : x + suc i ≡ x + 1 + i = omega arith in rw g at (h (suc i) (omega arith))))

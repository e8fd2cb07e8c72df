-- Laws of cursors: the page's distance and the code's, what a step does to a distance, and how distances add.
-- None asks for wrap numbers below 65,536. Assumes nothing.
use mathlib.Core.Path.{◌≡◌, ◌∙◌, refl, ap, sym, subst}
use mathlib.Core.Bool.{Bool, true, false, ◌&&◌, cond, and-false}
use Prim.Native.Nat.{ℕ, ◌+◌, ◌-◌, ◌*◌, ◌%◌, ◌≤◌, ◌<◌}
use native.Mathlib.Omega.{arith}
use native.Mathlib.Nat.{mul-le-mul_right, add-mul}
use native.Mathlib.Decide.{dec_le, dec_lt}
use lib.Dec.{T, ltb, leb}
use lib.IntN.{pos, sub_ℕ}
use borrow.Author.Tests.{le-leb, lt-leb, le-ltb, lt-ltb, leb-true, ltb-true}
use Rattle.cursor.specs.declared.Cursor.{Cursor}
use Rattle.cursor.specs.Cursor.{in_range, moved_of, step_of, turns_of, distance_of, from_zero_to, natural, good_b, gap_of, lead_of}

both : (a b : Bool) → a && b ≡ true → (a ≡ true) × (b ≡ true)
both true b e = (refl, e)
both false b e = absurd (subst T (sym e) tt)

-- turns: the number below 65,536 that takes one wrap number to the other, modulo 65,536
pub turns_is : (a b : ℕ) → turns_of a b ≡ (b % 65536 + 65536 - a % 65536) % 65536
unfolding turns_of
turns_is a b =
    elim (dec_lt b a) [
      | yes h ↦ simp (lt-ltb b a h) (omega arith)
      | no h ↦ simp (le-ltb b a (omega arith)) (omega arith)
    ]

pub turn_less : (a b : ℕ) → turns_of a b < 65536
turn_less a b = omega (arith, turns_is a b)

pub turn_sum : (a b : ℕ) → (turns_of a b + a) % 65536 ≡ b % 65536
turn_sum a b = omega (arith, turns_is a b)

one_turn : (a t u : ℕ) → t < 65536 → u < 65536 → (t + a) % 65536 ≡ (u + a) % 65536 → t ≡ u
one_turn a t u h k e = omega arith

pub turn_of_lem : (a b t : ℕ) → t < 65536 → (t + a) % 65536 ≡ b % 65536 → turns_of a b ≡ t
turn_of_lem a b t h e = one_turn a (turns_of a b) t (turn_less a b) h (turn_sum a b ∙ sym e)

turn_self : (a : ℕ) → turns_of a a ≡ 0
turn_self a = turn_of_lem a a 0 (omega arith) (omega arith)

turn_next : (a w : ℕ) → turns_of a w ≤ 1 → turns_of a ((w + 1) % 65536) ≡ turns_of a w + 1
turn_next a w h = turn_of_lem a ((w + 1) % 65536) (turns_of a w + 1) (omega arith) (omega (arith, turn_sum a w))

turn_adds : (a b c : ℕ) → turns_of a b + turns_of b c ≤ 1 → turns_of a c ≡ turns_of a b + turns_of b c
turn_adds a b c h = turn_of_lem a c (turns_of a b + turns_of b c) (omega arith) (go (turns_of a b) (turns_of b c) (turn_sum a b) (turn_sum b c))
  where
    go : (t u : ℕ) → (t + a) % 65536 ≡ b % 65536 → (u + b) % 65536 ≡ c % 65536 → (t + u + a) % 65536 ≡ c % 65536
    go t u e f = omega arith

turn_rest : (a b c : ℕ) → turns_of a b ≤ turns_of a c → turns_of b c ≡ turns_of a c - turns_of a b
turn_rest a b c h =
    turn_of_lem b c (turns_of a c - turns_of a b) (omega (arith, turn_less a c)) (go (turns_of a b) (turns_of a c) h (turn_sum a b) (turn_sum a c))
  where
    go : (t u : ℕ) → t ≤ u → (t + a) % 65536 ≡ b % 65536 → (u + a) % 65536 ≡ c % 65536 → (u - t + b) % 65536 ≡ c % 65536
    go t u l e f = omega arith

turn_front : (a b c : ℕ) → turns_of b c ≤ turns_of a c → turns_of a b ≡ turns_of a c - turns_of b c
turn_front a b c h =
    turn_of_lem a b (turns_of a c - turns_of b c) (omega (arith, turn_less a c)) (go (turns_of b c) (turns_of a c) h (turn_sum b c) (turn_sum a c))
  where
    go : (t u : ℕ) → t ≤ u → (t + b) % 65536 ≡ c % 65536 → (u + a) % 65536 ≡ c % 65536 → (u - t + a) % 65536 ≡ b % 65536
    go t u l e f = omega arith

pub no_less : (t u d : ℕ) → t * d < u * d + d → t ≤ u
no_less t u d h =
    elim (dec_le t u) [ yes k ↦ k | no k ↦ absurd (omega (arith, mul-le-mul_right {m = u + 1} {n = t} d (omega arith))) ]

-- the integer l - o by tests on l and o
good_sub : (d l o : ℕ) → from_zero_to d (sub_ℕ l o) ≡ leb o l && leb l (o + d)
good_sub d l o =
    elim (dec_lt l o) [
      | yes h ↦ simp (lt-ltb l o h, lt-leb o l h)
      | no h ↦
          let g : o ≤ l = omega arith in
          elim (dec_le (l - o) d) [
            | yes k ↦ simp (le-ltb l o g, le-leb o l g, le-leb l (o + d) (omega arith), le-leb (l - o) d k)
            | no k ↦ simp (le-ltb l o g, le-leb o l g, lt-leb l (o + d) (omega arith), lt-leb (l - o) d (omega arith))
          ]
    ]

natural_sub : (l o : ℕ) → natural (sub_ℕ l o) ≡ l - o
natural_sub l o =
    elim (dec_lt l o) [ yes h ↦ simp (lt-ltb l o h) (omega arith) | no h ↦ simp (le-ltb l o (omega arith)) ]

-- the page's integer and what the code computes
module _ (d : ℕ) (a b : Cursor) where
  pub lead_is : lead_of d a b ≡ turns_of a.wrap b.wrap * d + b.offset
  unfolding lead_of
  lead_is = refl

  pub distance_is : distance_of d a b ≡ sub_ℕ (lead_of d a b) a.offset
  unfolding distance_of lead_of
  distance_is = refl

  pub good_is : good_b d a b ≡ leb a.offset (lead_of d a b) && leb (lead_of d a b) (a.offset + d)
  unfolding good_b
  good_is = ap (from_zero_to d) distance_is ∙ good_sub d (lead_of d a b) a.offset

  pub gap_is : gap_of d a b ≡ lead_of d a b - a.offset
  unfolding gap_of
  gap_is = ap natural distance_is ∙ natural_sub (lead_of d a b) a.offset

  pub good_lead : good_b d a b ≡ true → (a.offset ≤ lead_of d a b) × (lead_of d a b ≤ a.offset + d)
  good_lead h =
      let t = both (leb a.offset (lead_of d a b)) (leb (lead_of d a b) (a.offset + d)) (sym good_is ∙ h) in
      (leb-true a.offset (lead_of d a b) t.0, leb-true (lead_of d a b) (a.offset + d) t.1)

  pub lead_good : a.offset ≤ lead_of d a b → lead_of d a b ≤ a.offset + d → good_b d a b ≡ true
  lead_good l h = good_is ∙ simp (le-leb a.offset (lead_of d a b) l, le-leb (lead_of d a b) (a.offset + d) h)

  pub distance_good : good_b d a b ≡ true → distance_of d a b ≡ pos (gap_of d a b)
  distance_good h = distance_is ∙ simp (le-ltb (lead_of d a b) a.offset (good_lead h).0, gap_is)

  pub good_most : good_b d a b ≡ true → gap_of d a b ≤ d
  good_most h = let l = good_lead h in omega (arith, gap_is)

-- steps
module _ (n : ℕ) (c : Cursor) where
  pub range_is : in_range n c ≡ true → (4 ≤ c.offset) × (c.offset < n)
  unfolding in_range
  range_is h =
      let t = both (leb 4 c.offset) (ltb c.offset n) h in
      (leb-true 4 c.offset t.0, ltb-true c.offset n t.1)

  pub is_range : 4 ≤ c.offset → c.offset < n → in_range n c ≡ true
  unfolding in_range
  is_range l h = simp (le-leb 4 c.offset l, lt-ltb c.offset n h)

module _ (n : ℕ) (c : Cursor) (k : ℕ) where
  pub moved_short : c.offset + k < n → moved_of n c k ≡ record { offset = c.offset + k; wrap = c.wrap }
  unfolding moved_of
  moved_short h = simp (lt-ltb (c.offset + k) n h)

  pub moved_over : n ≤ c.offset + k → moved_of n c k ≡ record { offset = c.offset + k - n + 4; wrap = (c.wrap + 1) % 65536 }
  unfolding moved_of
  moved_over h = simp (le-ltb (c.offset + k) n h)

  -- what the code's test of a step tells, where r is its call of `in_range`
  pub step_asks : (m : ℕ) (r : Bool) → r ≡ in_range n c → r && leb m n ≡ true → (c.offset < n) × (m ≤ n)
  step_asks m r e h =
      let t = both r (leb m n) h in
      ((range_is n c (sym e ∙ t.0)).1, leb-true m n t.1)

  pub step_is : (r t : Bool) → r ≡ in_range n c → r && leb (k + 4) n ≡ t → step_of n c k ≡ cond t (moved_of n c k) c
  unfolding step_of
  step_is r t e h = ap (λ (s : Bool). cond s (moved_of n c k) c) (ap (λ (s : Bool). s && leb (k + 4) n) (sym e) ∙ h)

  pub step_in : in_range n c ≡ true → k + 4 ≤ n → step_of n c k ≡ moved_of n c k
  step_in r m = step_is true true (sym r) (le-leb (k + 4) n m)

  pub step_stays : n < k + 4 → step_of n c k ≡ c
  step_stays m = step_is (in_range n c) false refl (rw (lt-leb (k + 4) n m) (and-false (in_range n c)))

  moved_range : in_range n c ≡ true → k + 4 ≤ n → in_range n (moved_of n c k) ≡ true
  moved_range r m =
      let o = range_is n c r in
      elim (dec_lt (c.offset + k) n) [
        | yes h ↦ rw (moved_short h) (is_range n (record { offset = c.offset + k; wrap = c.wrap }) (omega arith) h)
        | no h ↦
            rw (moved_over (omega arith))
            (is_range n (record { offset = c.offset + k - n + 4; wrap = (c.wrap + 1) % 65536 }) (omega arith) (omega arith))
      ]

  pub step_range : in_range n c ≡ true → in_range n (step_of n c k) ≡ true
  step_range r =
      elim (dec_le (k + 4) n) [
        | yes m ↦ rw (step_in r m) (moved_range r m)
        | no m ↦ rw (step_stays (omega arith)) r
      ]

  pub step_wrap : c.wrap < 65536 → (step_of n c k).wrap < 65536
  step_wrap w = go (in_range n c && leb (k + 4) n) refl
    where
      go : (t : Bool) → in_range n c && leb (k + 4) n ≡ t → (step_of n c k).wrap < 65536
      go true e =
          rw (step_is (in_range n c) true refl e)
          (elim (dec_lt (c.offset + k) n) [ yes h ↦ rw (moved_short h) w | no h ↦ rw (moved_over (omega arith)) (omega arith) ])
      go false e = rw (step_is (in_range n c) false refl e) w

-- nothing is moved by a step of 0
pub step_none : (n : ℕ) (c : Cursor) → step_of n c 0 ≡ c
step_none n c = go (in_range n c && leb 4 n) refl
  where
    go : (t : Bool) → in_range n c && leb 4 n ≡ t → step_of n c 0 ≡ c
    go true e =
        let o : c.offset + 0 ≡ c.offset = omega arith in
        step_is n c 0 (in_range n c) true refl e
        ∙ moved_short n c 0 (omega (arith, step_asks n c 0 4 (in_range n c) refl e))
        ∙ (λ i. record { offset = o i; wrap = c.wrap })
    go false e = step_is n c 0 (in_range n c) false refl e

-- a step of k adds k to the distance from any cursor behind it, across the wrap and across 65,535
module _ (n : ℕ) (a c : Cursor) (k : ℕ) (ra : in_range n a ≡ true) (rc : in_range n c ≡ true) (g : good_b (n - 4) a c ≡ true)
    (up : gap_of (n - 4) a c + k ≤ n - 4) where
  step_lead : lead_of (n - 4) a (step_of n c k) ≡ lead_of (n - 4) a c + k
  step_lead =
      let d = n - 4 in
      let oa = range_is n a ra in
      let oc = range_is n c rc in
      let gac = good_lead d a c g in
      let iac = gap_is d a c in
      let lac = lead_is d a c in
      let t = turns_of a.wrap c.wrap in
      rw (step_in n c k rc (omega arith))
      (elim (dec_lt (c.offset + k) n) [
        | yes h ↦ rw (moved_short n c k h, lead_is) (omega arith)
        | no h ↦
            let one : t ≤ 1 = no_less t 1 d (omega arith) in
            rw (moved_over n c k (omega arith), lead_is, turn_next a.wrap c.wrap one) (omega arith)
      ])

  pub step_gap : (good_b (n - 4) a (step_of n c k) ≡ true) × (gap_of (n - 4) a (step_of n c k) ≡ gap_of (n - 4) a c + k)
  step_gap =
      let s = step_of n c k in
      let gac = good_lead (n - 4) a c g in
      let iac = gap_is (n - 4) a c in
      let las = step_lead in
      (lead_good (n - 4) a s (omega arith) (omega arith), omega (arith, gap_is (n - 4) a s))

pub gap_self : (d : ℕ) (c : Cursor) → (good_b d c c ≡ true) × (gap_of d c c ≡ 0)
gap_self d c =
    let l : lead_of d c c ≡ c.offset = rw (lead_is d c c, turn_self c.wrap) (omega arith) in
    (lead_good d c c (omega arith) (omega arith), omega (arith, gap_is d c c))

module _ (n : ℕ) (a b c : Cursor) (ra : in_range n a ≡ true) (rb : in_range n b ≡ true) (rc : in_range n c ≡ true) where
  -- distances add
  pub gap_adds : good_b (n - 4) a b ≡ true → good_b (n - 4) b c ≡ true → gap_of (n - 4) a b + gap_of (n - 4) b c ≤ n - 4
      → (good_b (n - 4) a c ≡ true) × (gap_of (n - 4) a c ≡ gap_of (n - 4) a b + gap_of (n - 4) b c)
  gap_adds g h up =
      let d = n - 4 in
      let oa = range_is n a ra in
      let oc = range_is n c rc in
      let gab = good_lead d a b g in
      let gbc = good_lead d b c h in
      let iab = gap_is d a b in
      let ibc = gap_is d b c in
      let lab = lead_is d a b in
      let lbc = lead_is d b c in
      let t = turns_of a.wrap b.wrap in
      let u = turns_of b.wrap c.wrap in
      let s : (t + u) * d ≡ t * d + u * d = add-mul t u d in
      let e = turn_adds a.wrap b.wrap c.wrap (no_less (t + u) 1 d (omega arith)) in
      let l : lead_of d a c ≡ a.offset + (gap_of d a b + gap_of d b c) = rw (lead_is d a c, e) (omega arith) in
      (lead_good d a c (omega arith) (omega arith), omega (arith, gap_is d a c))

  -- what is left of a distance after a part of it
  pub gap_rest : good_b (n - 4) a b ≡ true → good_b (n - 4) a c ≡ true → gap_of (n - 4) a b ≤ gap_of (n - 4) a c
      → (good_b (n - 4) b c ≡ true) × (gap_of (n - 4) a b + gap_of (n - 4) b c ≡ gap_of (n - 4) a c)
  gap_rest g h up =
      let d = n - 4 in
      let ob = range_is n b rb in
      let oc = range_is n c rc in
      let gab = good_lead d a b g in
      let gac = good_lead d a c h in
      let iab = gap_is d a b in
      let iac = gap_is d a c in
      let lab = lead_is d a b in
      let lac = lead_is d a c in
      let lbc = lead_is d b c in
      let t = turns_of a.wrap b.wrap in
      let v = turns_of a.wrap c.wrap in
      let w = turns_of b.wrap c.wrap in
      let less : t ≤ v = no_less t v d (omega arith) in
      let e : v ≡ t + w = omega (arith, turn_rest a.wrap b.wrap c.wrap less) in
      let s : v * d ≡ t * d + w * d = rw e (add-mul t w d) in
      (lead_good d b c (omega arith) (omega arith), omega (arith, gap_is d b c))

-- of a distance, what stands before its last part
module _ (n : ℕ) (a b c : Cursor) (ra : in_range n a ≡ true) (rb : in_range n b ≡ true) where
  pub gap_front : good_b (n - 4) b c ≡ true → good_b (n - 4) a c ≡ true → gap_of (n - 4) b c ≤ gap_of (n - 4) a c
      → (good_b (n - 4) a b ≡ true) × (gap_of (n - 4) a b + gap_of (n - 4) b c ≡ gap_of (n - 4) a c)
  gap_front g h up =
      let d = n - 4 in
      let oa = range_is n a ra in
      let ob = range_is n b rb in
      let gbc = good_lead d b c g in
      let gac = good_lead d a c h in
      let ibc = gap_is d b c in
      let iac = gap_is d a c in
      let lbc = lead_is d b c in
      let lac = lead_is d a c in
      let lab = lead_is d a b in
      let t = turns_of a.wrap b.wrap in
      let v = turns_of a.wrap c.wrap in
      let w = turns_of b.wrap c.wrap in
      let less : w ≤ v = no_less w v d (omega arith) in
      let e : v ≡ t + w = omega (arith, turn_front a.wrap b.wrap c.wrap less) in
      let s : v * d ≡ t * d + w * d = rw e (add-mul t w d) in
      (lead_good d a b (omega arith) (omega arith), omega (arith, gap_is d a b))

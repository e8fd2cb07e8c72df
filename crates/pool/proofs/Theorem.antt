-- The claims of specs/Statement, proved. Assumes nothing.
use mathlib.Core.Path.{◌≡◌, refl, sym, ap, ◌∙◌}
use mathlib.Core.Bool.{Bool, true, false, not, true≢false}
use mathlib.Core.List.{List}
use mathlib.Core.Logic.{◌⊎◌, inl, inr, ◌↔◌}
use Prim.Native.Nat.{ℕ, ◌+◌, ◌-◌, ◌≤◌, ◌<◌, zero-le}
use native.Mathlib.Nat.{add-zero, zero-add}
use native.Mathlib.Omega.{arith}
use lib.Dec.{eqb}
use lib.ListN.{length, length-set, set, length-replicate, get_or-replicate}
use borrow.Author.Tests.{eqb-false}
use Rattle.std.proofs.Common.{Option, Some, None}
use Rattle.pool.specs.Pool.{Books, size_at, free_pool, free_b, size_b, sound_b, fits_b, lowest, given_out_b, Call, take, give_back, Says, refusal, block, returned, Done, refuses, takes, gives_back_of, answer, next}
use Rattle.pool.specs.Statement.{In, Starts, Held, Fits, Lowest, Sound, GivenOut, NoneFree, EachAnswer, WhatIsLeft, Made, none_made, one_made, given_by, returned_by, sum, not_free, Tally}
use Rattle.pool.proofs.Every.{lowest_at, lowest_is}
use Rattle.pool.proofs.Sizes.{size_some}
use Rattle.pool.proofs.Sound.{same_bool, sound_of, of_sound, held_of, of_held}
use Rattle.pool.proofs.Answers.{takes_3, takes_18, takes_19, takes_at, gives_3, gives_20, gives_back}
use Rattle.pool.proofs.Units.{free_of, not_held, fits_of_lem, of_fits, none_free, of_none_free, given_of_lem, of_given}
use Rattle.pool.proofs.Count.{count_none, gained}
use Rattle.pool.proofs.Changes.{taken_units, put_back, now_out, take_keeps, freed_units, was_held, return_keeps}

-- ---- a call, by what its tests find
abbrev gave : Books → ℕ → ℕ → Done
gave b n i = record { says = block i; books = set b i n }

abbrev got : Books → ℕ → Done
got b i = record { says = returned; books = set b i 0 }

take_cases : (b : Books) (n : ℕ) (P : Done → Type 0) → (sound_b b ≡ false → P (refuses b 3)) → (sound_b b ≡ true → size_b n ≡ false → P (refuses b 18))
    → (sound_b b ≡ true → size_b n ≡ true → lowest (fits_b b n) 0 64 ≡ None → P (refuses b 19))
    → ((i : ℕ) → sound_b b ≡ true → size_b n ≡ true → lowest (fits_b b n) 0 64 ≡ Some i → P (gave b n i)) → P (takes b n)
take_cases b n P p q r t = by (sound_b b) refl (size_b n) refl (lowest (fits_b b n) 0 64) refl
  where
    by : (s : Bool) → sound_b b ≡ s → (z : Bool) → size_b n ≡ z → (f : Option ℕ) → lowest (fits_b b n) 0 64 ≡ f → P (takes b n)
    by false s z e f l = rw (takes_3 b n s) (p s)
    by true s false e f l = rw (takes_18 b n s e) (q s e)
    by true s true e None l = rw (takes_19 b n s e l) (r s e l)
    by true s true e (Some i) l = rw (takes_at b n i s e l) (t i s e l)

give_cases : (b : Books) (i n : ℕ) (P : Done → Type 0) → (sound_b b ≡ false → P (refuses b 3)) → (sound_b b ≡ true → given_out_b b i n ≡ false → P (refuses b 20))
    → (sound_b b ≡ true → given_out_b b i n ≡ true → P (got b i)) → P (gives_back_of b i n)
give_cases b i n P p q r = by (sound_b b) refl (given_out_b b i n) refl
  where
    by : (s : Bool) → sound_b b ≡ s → (g : Bool) → given_out_b b i n ≡ g → P (gives_back_of b i n)
    by false s g e = rw (gives_3 b i n s) (p s)
    by true s false e = rw (gives_20 b i n s e) (q s e)
    by true s true e = rw (gives_back b i n s e) (r s e)

-- no two answers are the same
other : {A : Type 0} (j k : ℕ) → eqb j k ≡ false → refusal j ≡ refusal k → A
other j k p e = absurd (eqb-false j k p (same e))
  where
    same : refusal j ≡ refusal k → j ≡ k
    same e = cc

start_is : (j k : ℕ) → block j ≡ block k → j ≡ k
start_is j k e = cc

not_given : {A : Type 0} (k i : ℕ) → refusal k ≡ block i → A
not_given k i e = let z : ◌≡◌ {A = ℕ} 0 1 = cc in absurd (let n : ⊥ = omega arith in n)

not_refused : {A : Type 0} (k i : ℕ) → block i ≡ refusal k → A
not_refused k i e = not_given k i (sym e)

not_returned : {A : Type 0} (k : ℕ) → refusal k ≡ returned → A
not_returned k e = let z : ◌≡◌ {A = ℕ} 0 1 = cc in absurd (let n : ⊥ = omega arith in n)

-- ---- 1. each answer, exactly when
module _ (b : Books) where
  unsound_of : sound_b b ≡ false → Sound b → ⊥
  unsound_of e s = true≢false (sym (of_sound b s) ∙ e)

  of_unsound : (Sound b → ⊥) → sound_b b ≡ false
  of_unsound h = by (sound_b b) refl
    where
      by : (t : Bool) → sound_b b ≡ t → t ≡ false
      by false e = refl
      by true e = absurd (h (sound_of b e))

  three : (c : Call) → (answer b c ≡ refusal 3) ↔ (Sound b → ⊥)
  three (take n) = (
    take_cases b n (λ d. d.says ≡ refusal 3 → Sound b → ⊥) (λ s _. unsound_of s) (λ _ _. other 18 3 refl) (λ _ _ _. other 19 3 refl) (λ i _ _ _. not_refused 3 i),
    λ h. ap (λ (d : Done). d.says) (takes_3 b n (of_unsound h)),
  )
  three (give_back i n) = (
    give_cases b i n (λ d. d.says ≡ refusal 3 → Sound b → ⊥) (λ s _. unsound_of s) (λ _ _. other 20 3 refl) (λ _ _ e. not_returned 3 (sym e)),
    λ h. ap (λ (d : Done). d.says) (gives_3 b i n (of_unsound h)),
  )

  eighteen : (n : ℕ) → (answer b (take n) ≡ refusal 18) ↔ (Sound b × (size_b n ≡ false))
  eighteen n = (
    take_cases b n (λ d. d.says ≡ refusal 18 → Sound b × (size_b n ≡ false)) (λ _. other 3 18 refl) (λ s z _. (sound_of b s, z)) (λ _ _ _. other 19 18 refl) (λ i _ _ _. not_refused 18 i),
    λ h. ap (λ (d : Done). d.says) (takes_18 b n (of_sound b h.0) h.1),
  )

  nineteen : (n : ℕ) → (answer b (take n) ≡ refusal 19) ↔ (Sound b × (size_b n ≡ true) × NoneFree b n)
  nineteen n = (
    take_cases b n (λ d. d.says ≡ refusal 19 → Sound b × (size_b n ≡ true) × NoneFree b n) (λ _. other 3 19 refl) (λ _ _. other 18 19 refl) (λ s z l _. (sound_of b s, z, none_free b n z l)) (λ i _ _ _. not_refused 19 i),
    λ h. ap (λ (d : Done). d.says) (takes_19 b n (of_sound b h.0) h.1 (of_none_free b n h.2)),
  )

  -- what is found, in units
  pub found_fits : (n i : ℕ) → lowest (fits_b b n) 0 64 ≡ Some i → Fits b n i
  found_fits n i e = fits_of_lem b n i (lowest_at (fits_b b n) 0 64 i e).passes

  none_lower : (n i : ℕ) → lowest (fits_b b n) 0 64 ≡ Some i → (j : ℕ) → j < i → Fits b n j → ⊥
  none_lower n i e j x f = true≢false (sym (of_fits b n j f) ∙ (lowest_at (fits_b b n) 0 64 i e).no_lower j zero-le x)

  fits_found : (n i : ℕ) → size_b n ≡ true → Fits b n i → ((j : ℕ) → j < i → Fits b n j → ⊥) → lowest (fits_b b n) 0 64 ≡ Some i
  fits_found n i z f h =
      let s = size_some n z in
      let w : i + n ≤ 64 = f.within in
      lowest_is (fits_b b n) 0 64 i
      (record { low = zero-le; high = omega arith; passes = of_fits b n i f; no_lower = λ k _ x. by k x (fits_b b n k) refl })
    where
      by : (k : ℕ) → k < i → (t : Bool) → fits_b b n k ≡ t → fits_b b n k ≡ false
      by k x false e = e
      by k x true e = absurd (h k x (fits_of_lem b n k e))

  given_when : (n i : ℕ) → (answer b (take n) ≡ block i) ↔ (Sound b × (size_b n ≡ true) × Lowest b n i)
  given_when n i = (
    take_cases b n (λ d. d.says ≡ block i → Sound b × (size_b n ≡ true) × Lowest b n i) (λ _. not_given 3 i) (λ _ _. not_given 18 i) (λ _ _ _. not_given 19 i) to,
    λ h. ap (λ (d : Done). d.says) (takes_at b n i (of_sound b h.0) h.1 (fits_found n i h.1 h.2.0 h.2.1)),
  )
    where
      to : (k : ℕ) → sound_b b ≡ true → size_b n ≡ true → lowest (fits_b b n) 0 64 ≡ Some k → block k ≡ block i
          → Sound b × (size_b n ≡ true) × Lowest b n i
      to k s z l e = let m : lowest (fits_b b n) 0 64 ≡ Some i = l ∙ ap Some (start_is k i e) in (sound_of b s, z, (found_fits n i m, none_lower n i m))

  twenty : (i n : ℕ) → (answer b (give_back i n) ≡ refusal 20) ↔ (Sound b × (GivenOut b i n → ⊥))
  twenty i n = (
    give_cases b i n (λ d. d.says ≡ refusal 20 → Sound b × (GivenOut b i n → ⊥)) (λ _. other 3 20 refl) (λ s g _. (sound_of b s, λ o. true≢false (sym (of_given b i n o) ∙ g))) (λ _ _ e. not_returned 20 (sym e)),
    λ h. ap (λ (d : Done). d.says) (gives_20 b i n (of_sound b h.0) (by h.1 (given_out_b b i n) refl)),
  )
    where
      by : (GivenOut b i n → ⊥) → (t : Bool) → given_out_b b i n ≡ t → t ≡ false
      by h false e = refl
      by h true e = absurd (h (given_of_lem b i n e))

  returned_when : (i n : ℕ) → (answer b (give_back i n) ≡ returned) ↔ (Sound b × GivenOut b i n)
  returned_when i n = (
    give_cases b i n (λ d. d.says ≡ returned → Sound b × GivenOut b i n) (λ _. not_returned 3) (λ _ _. not_returned 20) (λ s g _. (sound_of b s, given_of_lem b i n g)),
    λ h. ap (λ (d : Done). d.says) (gives_back b i n (of_sound b h.0) (of_given b i n h.1)),
  )

pub each_answer : EachAnswer
each_answer b =
    record { refused_3 = three b; refused_18 = eighteen b; refused_19 = nineteen b; given = given_when b; refused_20 = twenty b; taken_back = returned_when b }

-- ---- 2. what a call leaves
module _ (b : Books) (L : length b ≡ 64) where
  stays : (c : Call) (k : ℕ) → answer b c ≡ refusal k → next b c ≡ b
  stays (take n) k = take_cases b n (λ d. d.says ≡ refusal k → d.books ≡ b) (λ _ _. refl) (λ _ _ _. refl) (λ _ _ _ _. refl) (λ i _ _ _. not_refused k i)
  stays (give_back i n) k = give_cases b i n (λ d. d.says ≡ refusal k → d.books ≡ b) (λ _ _. refl) (λ _ _ _. refl) (λ _ _ e. not_returned k (sym e))

  -- the books that a take or a return leaves
  took : (n i : ℕ) → answer b (take n) ≡ block i → next b (take n) ≡ set b i n
  took n i = take_cases b n (λ d. d.says ≡ block i → d.books ≡ set b i n) (λ _. not_given 3 i) (λ _ _. not_given 18 i) (λ _ _ _. not_given 19 i) (λ k _ _ _ e. ap (λ (j : ℕ). set b j n) (start_is k i e))

  gave_back : (i n : ℕ) → answer b (give_back i n) ≡ returned → next b (give_back i n) ≡ set b i 0
  gave_back i n = give_cases b i n (λ d. d.says ≡ returned → d.books ≡ set b i 0) (λ _. not_returned 3) (λ _ _. not_returned 20) (λ _ _ _. refl)

  taken_after_lem : (n i u : ℕ) → answer b (take n) ≡ block i → (Held (next b (take n)) u ↔ (Held b u ⊎ In i n u))
  taken_after_lem n i u e = let g = (given_when b n i).0 e in rw (took n i e) (taken_units b L n i g.1 g.2.0 u)

  freed_after : (i n u : ℕ) → answer b (give_back i n) ≡ returned → (Held (next b (give_back i n)) u ↔ (Held b u × (In i n u → ⊥)))
  freed_after i n u e = let g = (returned_when b i n).0 e in rw (gave_back i n e) (freed_units b L g.0 i n g.1 u)

  keeps_sound : Sound b → (c : Call) → Sound (next b c)
  keeps_sound S (take n) = take_cases b n (λ d. Sound d.books) (λ _. S) (λ _ _. S) (λ _ _ _. S) (λ i _ z l. take_keeps b L n i z (found_fits b n i l) S)
  keeps_sound S (give_back i n) = give_cases b i n (λ d. Sound d.books) (λ _. S) (λ _ _. S) (λ s g. return_keeps b L S i n (given_of_lem b i n g))

  keeps_length : (c : Call) → length (next b c) ≡ 64
  keeps_length (take n) = take_cases b n (λ d. length d.books ≡ 64) (λ _. L) (λ _ _. L) (λ _ _ _. L) (λ i _ _ _. length-set b i n ∙ L)
  keeps_length (give_back i n) = give_cases b i n (λ d. length d.books ≡ 64) (λ _. L) (λ _ _. L) (λ _ _. length-set b i 0 ∙ L)

-- a block that was just given out is returned
undone_after : (b : Books) → length b ≡ 64 → (n i : ℕ) → answer b (take n) ≡ block i
    → (answer (next b (take n)) (give_back i n) ≡ returned) × (next (next b (take n)) (give_back i n) ≡ b)
undone_after b L n i e =
    let g = (given_when b n i).0 e in
    let t = took b L n i e in
    let s : Sound (next b (take n)) = keeps_sound b L g.0 (take n) in
    let o : GivenOut (next b (take n)) i n = rw t (now_out b L n i g.1 g.2.0) in
    let r : answer (next b (take n)) (give_back i n) ≡ returned = (returned_when (next b (take n)) i n).1 (s, o) in
    (r, gave_back (next b (take n)) (keeps_length b L (take n)) i n r ∙ ap (λ (x : Books). set x i 0) t ∙ put_back b L n i g.1 g.2.0)

pub what_is_left : WhatIsLeft
what_is_left b L =
    record { refused = stays b L; taken = taken_after_lem b L; freed = freed_after b L; undone = undone_after b L; sound = keeps_sound b L }

-- ---- 3. the tally, one call
module _ (b : Books) (L : length b ≡ 64) where
  take_gains : (n i : ℕ) → size_b n ≡ true → Fits b n i → not_free (set b i n) ≡ not_free b + n
  take_gains n i z f =
      gained b (set b i n) i n f.within
      (λ u out. same_bool _ _ (λ e. free_of b u (λ h. not_held (set b i n) u e ((units u).1 (inl h)))) (λ e. free_of (set b i n) u (λ h. elim ((units u).0 h) [ inl g ↦ not_held b u e g | inr p ↦ out p ])))
      (λ u p. free_of b u (f.free u p))
      (λ u p. of_held (set b i n) u ((units u).1 (inr p)))
    where
      units : (u : ℕ) → Held (set b i n) u ↔ (Held b u ⊎ In i n u)
      units u = taken_units b L n i z f u

  return_loses : Sound b → (i n : ℕ) → GivenOut b i n → not_free b ≡ not_free (set b i 0) + n
  return_loses S i n g =
      gained (set b i 0) b i n (rw g.1 at (S.within i g.0))
      (λ u out. same_bool _ _ (λ e. free_of (set b i 0) u (λ h. not_held b u e ((units u).0 h).0)) (λ e. free_of b u (λ h. not_held (set b i 0) u e ((units u).1 (h, out)))))
      (λ u p. free_of (set b i 0) u (λ h. ((units u).0 h).1 p))
      (λ u p. of_held b u (was_held b L S i n g u p))
    where
      units : (u : ℕ) → Held (set b i 0) u ↔ (Held b u × (In i n u → ⊥))
      units u = freed_units b L S i n g u

  one_call : (c : Call) → not_free (next b c) + returned_by c (answer b c) ≡ not_free b + given_by c (answer b c)
  one_call (take n) = take_cases b n (λ d. not_free d.books + 0 ≡ not_free b + given_by (take n) d.says) (λ _. refl) (λ _ _. refl) (λ _ _ _. refl) (λ i _ z l. add-zero (not_free (set b i n)) ∙ take_gains n i z (found_fits b n i l))
  one_call (give_back i n) =
      give_cases b i n (λ d. not_free d.books + returned_by (give_back i n) d.says ≡ not_free b + 0) (λ _. refl) (λ _ _. refl)
      (λ s g. sym (return_loses (sound_of b s) i n (given_of_lem b i n g)) ∙ sym (add-zero (not_free b)))

-- ---- any calls
tallied : {b end : Books} {cs : List Call} {said : List Says} → Made b cs said end → length b ≡ 64 → Sound b
    → (not_free end + sum returned_by cs said ≡ not_free b + sum given_by cs said) × Sound end
unfolding sum
tallied none_made L S = (refl, S)
tallied {b} {end} (one_made {after = after} {c = c} {cs = cs} {a = a} {said = said} d m) L S =
    let r = tallied m (rw d.left (keeps_length b L c)) (rw d.left (keeps_sound b L S c)) in
    let e : not_free after + returned_by c a ≡ not_free b + given_by c a = rw (d.left, d.answered) (one_call b L c) in
    (sums (not_free end) (sum returned_by cs said) (not_free after) (sum given_by cs said) (returned_by c a) (not_free b) (given_by c a) r.0 e, r.1)
  where
    sums : (x r y g s z h : ℕ) → x + r ≡ y + g → y + s ≡ z + h → x + (s + r) ≡ z + (h + g)
    sums x r y g s z h p q = omega arith

-- ---- from a free pool
none_starts : (i : ℕ) → Starts free_pool i → ⊥
none_starts i s = no (size_at free_pool i) s.some (get_or-replicate 64 i 0 0 s.below)
  where
    no : (x : ℕ) → 0 < x → x ≡ 0 → ⊥
    no x l e = omega arith

free_sound : Sound free_pool
free_sound =
    record {
      apart = λ i k u s _ _ _. absurd (none_starts i s);
      within = λ i s. absurd (none_starts i s);
      sized = λ i s. absurd (none_starts i s);
      multiple = λ i s. absurd (none_starts i s);
    }

all_free_lem : not_free free_pool ≡ 0
all_free_lem = count_none (λ u. not (free_b free_pool u)) 0 64 (λ u _ _. ap not (free_of free_pool u (λ h. none_starts h.start h.starts)))

pub tally : Tally
tally cs said end m =
    let t = tallied m (length-replicate {A = ℕ} 64 0) free_sound in
    let e : not_free end + sum returned_by cs said ≡ sum given_by cs said = t.0 ∙ rw all_free_lem (zero-add (sum given_by cs said)) in
    record {
      no_more = omega arith;
      tally = less (not_free end) (sum returned_by cs said) (sum given_by cs said) e;
      held = λ u. (held_of end u, of_held end u);
      sound = t.1;
      never_3 = λ c e. (three end c).0 e t.1;
    }
  where
    less : (x r g : ℕ) → x + r ≡ g → g - r ≡ x
    less x r g e = omega arith

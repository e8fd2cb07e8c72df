-- The claims of specs/Statement, proved: another order of a list agrees with the first connection by connection and call by call.
-- Assumes nothing.
use mathlib.Core.Path.{◌≡◌, refl, sym, ap, ◌∙◌}
use mathlib.Core.Logic.{inl, inr}
use mathlib.Core.Bool.{Bool, true, false≢true}
use mathlib.Core.Option
use mathlib.Core.Option.{some, some-injective}
use mathlib.Core.List.{List, [], ◌∷◌, ◌++◌, map}
use Prim.Native.Nat.{ℕ, ◌<◌}
use native.Mathlib.Omega.{arith}
use lib.Dec.{eqb}
use lib.ListN.{length, get_or, get_elem?}
use borrow.Author.Tests.{eqb-true}
use Rattle.group_rules.specs.Rules.{Group, Call, Answer, next, Fresh}
use Rattle.thm_order.specs.Statement.{answers, leaves, At, Whose, the_manager, connection, nobody, owner_of, began_by, whose_from, whose, AnotherOrder, Made, none_made, one_made, Sentence3, NobodysCall, WhoSeesWhat}
use Rattle.thm_order.proofs.Lists.{In, sift, in_sift, to_sift, Sorted, sorted_sift, sorted_by, sorted_map, sorted_unique, in_map, to_map, upto, in_upto, to_upto, sorted_upto, at_map, at_upto, at_get_or, is_in_range, same_list, length_map', by_number, length_upto}
use Rattle.thm_order.proofs.Scripts.{script, flat_script, sift_all, script_sift}
use Rattle.thm_order.proofs.Acts.{sees_what}
use Rattle.thm_order.proofs.Near.{Near, near_start, near_next, near_good, fresh_good, nobodys}
use Rattle.thm_order.proofs.Spans.{sees, run}
use Rattle.thm_order.proofs.Orders.{is_the_manager, or_management, manage_sees, manage_or, owner_conn, next_good, Agrees, Same, orders, marked, whose_marked, run_leaves, says_at, at_says, unmet, listed, length_whose, length_answers}

module _ (g : Group) (fresh : Fresh g) (first second : List Call) (o : AnotherOrder g first second) where
  abbrev place : ℕ → ℕ
  place i = o.numbers.place i

  abbrev back : ℕ → ℕ
  back i = o.numbers.back i

  abbrev call : ℕ → Call
  call i = get_or first i unmet

  abbrev tag : ℕ → Whose
  tag i = get_or (whose g first) i nobody

  abbrev firstly : List ℕ
  firstly = upto (length first)

  abbrev secondly : List ℕ
  secondly = map back (upto (length first))

  at_tag : (i : ℕ) → i < length first → At (whose g first) i (tag i)
  at_tag i h = at_get_or (whose g first) i nobody (omega (arith, length_whose g g first))

  -- numbers of which the order is kept
  Kept : (ℕ → Bool) → Type 0
  Kept q = (i j : ℕ) → i < j → j < length first → q i ≡ true → q j ≡ true → place i < place j

  kept : (q : ℕ → Bool) → Kept q → sift q firstly ≡ sift q secondly
  unfolding Kept
  kept q h = sorted_unique place (sift q firstly) (sift q secondly) in_first in_second forth returns
    where
      in_first : Sorted (λ x y. place x < place y) (sift q firstly)
      in_first =
          sorted_by (λ x y. x < y) (λ x y. place x < place y) (sift q firstly)
          (λ x y p r l. h x y l (in_upto (length first) y (in_sift q y firstly r).0) (in_sift q x firstly p).1 (in_sift q y firstly r).1)
          (sorted_sift (λ x y. x < y) q firstly (sorted_upto (length first)))

      in_second : Sorted (λ x y. place x < place y) (sift q secondly)
      in_second =
          sorted_sift (λ x y. place x < place y) q secondly
          (sorted_map (λ x y. place x < place y) back firstly
          (sorted_by (λ x y. x < y) (λ x y. place (back x) < place (back y)) firstly
          (λ x y p r l. rw (o.numbers.place_back x (in_upto (length first) x p), o.numbers.place_back y (in_upto (length first) y r)) l)
          (sorted_upto (length first))))

      forth : (x : ℕ) → In x (sift q firstly) → In x (sift q secondly)
      forth x m =
          let r = in_sift q x firstly m in
          let l = in_upto (length first) x r.0 in
          let b = to_map back (place x) firstly (to_upto (length first) (place x) (o.numbers.place_in x l)) in
          to_sift q x secondly (rw (o.numbers.back_place x l) at b) r.1

      returns : (x : ℕ) → In x (sift q secondly) → In x (sift q firstly)
      returns x m =
          let r = in_sift q x secondly m in
          let y = in_map back x firstly r.0 in
          to_sift q x firstly (to_upto (length first) x (rw y.2 (o.numbers.back_in y.0 (in_upto (length first) y.0 y.1)))) r.1

  kept_conn : (k : ℕ) → Kept (λ i. sees k (tag i))
  unfolding Kept
  kept_conn k i j l h p q = go (tag i) (tag j) (at_tag i (omega arith)) (at_tag j h) p q
    where
      go : (w v : Whose) → At (whose g first) i w → At (whose g first) j v → sees k w ≡ true → sees k v ≡ true → place i < place j
      go the_manager v e f p q = o.manage_kept i j l h (inl e)
      go (connection a) the_manager e f p q = o.manage_kept i j l h (inr f)
      go (connection a) (connection b) e f p q =
          o.own_kept k i j l h (e ∙ ap (λ z. some (connection z)) (eqb-true a k p)) (f ∙ ap (λ z. some (connection z)) (eqb-true b k q))
      go (connection a) nobody e f p q = absurd (false≢true q)
      go nobody v e f p q = absurd (false≢true p)

  kept_call : (x : ℕ) → Kept (λ i. or_management (tag i) (eqb i x))
  unfolding Kept
  kept_call x i j l h p q = go (tag i) (tag j) (at_tag i (omega arith)) (at_tag j h) p q
    where
      clash : eqb i x ≡ true → eqb j x ≡ true → place i < place j
      clash p q = absurd (omega (arith, eqb-true i x p, eqb-true j x q))

      go : (w v : Whose) → At (whose g first) i w → At (whose g first) j v → or_management w (eqb i x) ≡ true → or_management v (eqb j x) ≡ true → place i < place j
      go the_manager v e f p q = o.manage_kept i j l h (inl e)
      go (connection a) the_manager e f p q = o.manage_kept i j l h (inr f)
      go (connection a) (connection b) e f p q = clash p q
      go (connection a) nobody e f p q = clash p q
      go nobody the_manager e f p q = o.manage_kept i j l h (inr f)
      go nobody (connection b) e f p q = clash p q
      go nobody nobody e f p q = clash p q

  abbrev manages : ℕ → Bool
  manages i = is_the_manager (tag i)

  agrees : Agrees call tag (script manages firstly) (script manages secondly)
  agrees =
      record {
        by_conn = λ k. via (λ i. sees k (tag i)) (λ i e. manage_sees k (tag i) e) (kept_conn k);
        by_call = λ x. via (λ i. or_management (tag i) (eqb i x)) (λ i e. manage_or (tag i) (eqb i x) e) (kept_call x);
      }
    where
      via : (q : ℕ → Bool) → ((i : ℕ) → manages i ≡ true → q i ≡ true) → Kept q → sift_all q (script manages firstly) ≡ sift_all q (script manages secondly)
      via q h k = sym (script_sift manages q h firstly) ∙ ap (λ u. script manages u) (kept q k) ∙ script_sift manages q h secondly

  outcome : Same call tag g (script manages firstly) (script manages secondly)
  outcome = orders call tag g (fresh_good g fresh) (script manages firstly) (script manages secondly) (marked call tag g g firstly (listed g g first)) agrees

  first-is : map call firstly ≡ first
  first-is = by_number first unmet

  long : length (map call secondly) ≡ length first
  long = length_map' call secondly ∙ length_map' back firstly ∙ length_upto (length first)

  second_is : map call secondly ≡ second
  second_is = same_list (map call secondly) second (long ∙ sym o.as_long) at
    where
      at : (j : ℕ) → j < length (map call secondly) → get_elem? (map call secondly) j ≡ get_elem? second j
      at j l =
          let h : j < length first = omega (arith, long) in
          let b = o.numbers.back_in j h in
          at_map call secondly j
          ∙ ap (Option.map call) (at_map back firstly j ∙ ap (Option.map back) (at_upto (length first) j h))
          ∙ sym (o.same_call (back j) (call (back j)) (at_get_or first (back j) unmet b))
          ∙ ap (λ z. get_elem? second z) (o.numbers.place_back j h)

  -- call number i stands at its place
  at_place : (i : ℕ) → i < length first → At secondly (place i) i
  at_place i h =
      at_map back firstly (place i)
      ∙ ap (Option.map back) (at_upto (length first) (place i) (o.numbers.place_in i h))
      ∙ ap some (o.numbers.back_place i h)

  pub same_group : leaves g second ≡ leaves g first
  same_group =
      ap (λ u. leaves g u) (sym second_is)
      ∙ run_leaves call tag g secondly
      ∙ ap (λ u. run call g u) (sym (flat_script manages secondly))
      ∙ sym outcome.ends
      ∙ ap (λ u. run call g u) (flat_script manages firstly)
      ∙ sym (run_leaves call tag g firstly)
      ∙ ap (λ u. leaves g u) first-is

  pub same_owner : (i : ℕ) (w : Whose) → At (whose g first) i w → At (whose g second) (place i) w
  same_owner i w e =
      let h : i < length first = omega (arith, is_in_range (whose g first) i w e, length_whose g g first) in
      let t = rw (flat_script manages secondly) at (whose_marked call tag g g (script manages secondly) outcome.marks) in
      ap (λ u. get_elem? (whose g u) (place i)) (sym second_is)
      ∙ ap (λ u. get_elem? u (place i)) t
      ∙ at_map tag secondly (place i)
      ∙ ap (Option.map tag) (at_place i h)
      ∙ sym (at_tag i h)
      ∙ e

  pub same_answer : (i : ℕ) (a : Answer) → At (answers g first) i a → At (answers g second) (place i) a
  same_answer i a e =
      let h : i < length first = omega (arith, is_in_range (answers g first) i a e, length_answers g first) in
      let r = says_at call tag g secondly (place i) i (at_place i h) in
      let f = outcome.answered i r.0 (rw (flat_script manages secondly) r.2) in
      let t = at_says call tag g firstly i r.0 (rw (flat_script manages firstly) at f) in
      let n = same t.0 t.1 in
      ap (λ u. get_elem? (answers g u) (place i)) (sym second_is)
      ∙ r.1
      ∙ sym t.2
      ∙ ap (λ j. get_elem? (answers g (map call firstly)) j) n
      ∙ ap (λ u. get_elem? (answers g u) i) first-is
      ∙ e
    where
      same : (j : ℕ) → At firstly j i → j ≡ i
      same j e = some-injective j i (sym (at_upto (length first) j (rw (length_upto (length first)) at (is_in_range firstly j i e))) ∙ e)

-- calls that were made answered and left what the rules say
pub by_rules : {g : Group} {cs : List Call} {said : List Answer} {end : Group} → Made g cs said end
    → (said ≡ answers g cs) × (end ≡ leaves g cs)
unfolding answers leaves
by_rules none_made = (refl, refl)
by_rules (one_made d m) = let r = by_rules m in (cc (r.0, d.answered, d.left), cc (r.1, d.left))

pub sentence3 : Sentence3
sentence3 g fresh first second o said₁ said₂ end₁ end₂ m n =
    let f = by_rules m in
    let s = by_rules n in
    record {
      in_first = λ i a e. rw f.0 e;
      in_second = λ i a e. rw s.0 (same_answer g fresh first second o i a e);
      by_rules = f.1;
      same_end = s.1 ∙ same_group g fresh first second o ∙ sym f.1;
      same_owner = same_owner g fresh first second o;
    }

-- a call leaves a group of its span, or begins the next
near_step : (b g : Group) (c : Call) → Near b g → Near (began_by (owner_of b c) (next g c) b) (next g c)
near_step b g c n = go (owner_of b c) refl
  where
    go : (w : Whose) → owner_of b c ≡ w → Near (began_by w (next g c) b) (next g c)
    go the_manager e = near_start (next g c) (next_good b g c e (near_good b g n))
    go (connection k) e = near_next b g n c (owner_conn b c (λ z. let y : ◌≡◌ {A = ℕ} 0 1 = cc in omega arith))
    go nobody e = near_next b g n c (owner_conn b c (λ z. let y : ◌≡◌ {A = ℕ} 0 1 = cc in omega arith))

nobodys_from : (b g : Group) → Near b g → (cs : List Call) (c : Call) → At (whose_from b g (cs ++ c ∷ [])) (length cs) nobody
    → next (leaves g cs) c ≡ leaves g cs
unfolding whose_from leaves
nobodys_from b g n [] c e =
    let o : owner_of b c ≡ nobody = cc in
    (nobodys b g c n (owner_conn b c (λ z. let y : ◌≡◌ {A = ℕ} 0 1 = cc in omega arith)) o).1
nobodys_from b g n (d ∷ cs) c e = nobodys_from (began_by (owner_of b d) (next g d) b) (next g d) (near_step b g d n) cs c e

pub nobodys_call : NobodysCall
nobodys_call g fresh cs c e = nobodys_from g g (near_start g (fresh_good g fresh)) cs c e

pub who_sees_what : WhoSeesWhat
who_sees_what = sees_what

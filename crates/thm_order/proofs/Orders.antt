-- A list of calls, by their numbers, cut at its desk calls: two orders that agree connection by connection and call by call answer and leave
-- the same, span by span, and each call's owner is the same in both. Assumes nothing.
use mathlib.Core.Path.{◌≡◌, refl, sym, ap, ◌∙◌, subst}
use mathlib.Core.Logic.{◌⊎◌, inl, inr, ◌≢◌}
use mathlib.Core.Bool.{Bool, true, false, false≢true}
use mathlib.Core.Option.{some}
use mathlib.Core.List.{List, [], ◌∷◌, ◌++◌, map, append-nil}
use Prim.Native.Nat.{ℕ, zero, suc}
use native.Mathlib.Omega.{arith}
use lib.Dec.{eqb}
use lib.ListN.{length, get_or}
use borrow.Author.Tests.{eq-eqb}
use Rattle.group_rules.specs.Rules.{Group, Call, on, hear, manage, free_slot, Answer, answer, next}
use Rattle.thm_order.specs.Statement.{answers, leaves, At, Whose, the_manager, connection, nobody, owner_of, began_by, whose_from}
use Rattle.thm_order.proofs.Lists.{In, sift, in_sift, to_sift, upto}
use Rattle.thm_order.proofs.Scripts.{Script, last, cut, before, cut_if, script, flat, sift_all, span_of, manage_of, rest_of}
use Rattle.thm_order.proofs.Acts.{Conn}
use Rattle.thm_order.proofs.Near.{Good, Near, near_start, near_good, conn_owner}
use Rattle.thm_order.proofs.Management.{manage_good}
use Rattle.thm_order.proofs.Spans.{sees, run, Says, run_append, says_append, says_left, says_right, InSpan, span_near, span_group, span_says}

abbrev pub is_the_manager : Whose → Bool
is_the_manager the_manager = true
is_the_manager (connection k) = false
is_the_manager nobody = false

abbrev pub or_management : Whose → Bool → Bool
or_management the_manager t = true
or_management (connection k) t = t
or_management nobody t = t

or-true : (w : Whose) → or_management w true ≡ true
or-true the_manager = refl
or-true (connection k) = refl
or-true nobody = refl

pub manage_sees : (k : ℕ) (w : Whose) → is_the_manager w ≡ true → sees k w ≡ true
manage_sees k the_manager e = refl
manage_sees k (connection j) e = absurd (false≢true e)
manage_sees k nobody e = absurd (false≢true e)

pub manage_or : (w : Whose) (t : Bool) → is_the_manager w ≡ true → or_management w t ≡ true
manage_or the_manager t e = refl
manage_or (connection j) t e = absurd (false≢true e)
manage_or nobody t e = absurd (false≢true e)

-- what is not the desk's is a connection call, and no new span begins with it
pub owner_conn : (b : Group) (c : Call) → owner_of b c ≢ the_manager → Conn c
unfolding owner_of
owner_conn b (on k q) h = tt
owner_conn b (hear m) h = tt
owner_conn b (manage d) h = absurd (h refl)

same_span : (w : Whose) (g b : Group) → w ≢ the_manager → began_by w g b ≡ b
same_span the_manager g b h = absurd (h refl)
same_span (connection k) g b h = refl
same_span nobody g b h = refl

pub next_good : (b g : Group) (c : Call) → owner_of b c ≡ the_manager → Good g → Good (next g c)
next_good b g (on k q) e h = absurd (conn_owner b (on k q) tt e)
next_good b g (hear m) e h = absurd (conn_owner b (hear m) tt e)
next_good b g (manage d) e h = manage_good g d h

module _ (call : ℕ → Call) (tag : ℕ → Whose) where
  -- one call by its number, and every desk call
  abbrev pub just : ℕ → ℕ → Bool
  just x i = or_management (tag i) (eqb i x)

  abbrev pub conn : ℕ → ℕ → Bool
  conn k i = sees k (tag i)

  -- the spans of a script hold connection calls, tagged by the group when the span began, with desk calls between; g is the group at the
  -- first call
  abbrev pub Marked : Group → Group → Script → Type 0
  Marked b g (last s) = InSpan call tag b s
  Marked b g (cut s d r) =
      InSpan call tag b s × (tag d ≡ the_manager) × (owner_of b (call d) ≡ the_manager)
      × Marked (next (run call g s) (call d)) (next (run call g s) (call d)) r

  pub record Agrees (A B : Script) : Type 0 where
    pub by_conn : (k : ℕ) → sift_all (conn k) A ≡ sift_all (conn k) B
    pub by_call : (x : ℕ) → sift_all (just x) A ≡ sift_all (just x) B

  here : (s t : List ℕ) → ((x : ℕ) → sift (just x) s ≡ sift (just x) t) → (x : ℕ) → In x t → In x s
  here s t e x m = (in_sift (just x) x s (rw (e x) (to_sift (just x) x t m (rw (eq-eqb x x refl) (or-true (tag x)))))).0

  pub record Same (b : Group) (A B : Script) : Type 0 where
    pub ends : run call b (flat A) ≡ run call b (flat B)
    pub answered : (x : ℕ) (a : Answer) → Says call b (flat B) x a → Says call b (flat A) x a
    pub marks : Marked b b B

  pub orders : (b : Group) → Good b → (A B : Script) → Marked b b A → Agrees A B → Same b A B
  orders b gb (last s) (last t) m e =
      record { ends = span_group call tag b nb s t m dt cs hs; answered = span_says call tag b nb s t m dt cs hs; marks = dt }
    where
      nb : Near b b
      nb = near_start b gb

      hs : (x : ℕ) → In x t → In x s
      hs = here s t (λ x. ap span_of (e.by_call x))

      dt : InSpan call tag b t
      dt = λ i p. m i (hs i p)

      cs : (k : ℕ) → sift (conn k) s ≡ sift (conn k) t
      cs = λ k. ap span_of (e.by_conn k)
  orders b gb (last s) (cut t d r) m e = let z : ◌≡◌ {A = ℕ} 0 1 = cc (e.by_conn 0) in absurd (omega arith)
  orders b gb (cut s d r) (last t) m e = let z : ◌≡◌ {A = ℕ} 0 1 = cc (e.by_conn 0) in absurd (omega arith)
  orders b gb (cut s d r) (cut t f q) m e = go (orders g' good r q m.3 tails)
    where
      nb : Near b b
      nb = near_start b gb

      hs : (x : ℕ) → In x t → In x s
      hs = here s t (λ x. ap span_of (e.by_call x))

      dt : InSpan call tag b t
      dt = λ i p. m.0 i (hs i p)

      cs : (k : ℕ) → sift (conn k) s ≡ sift (conn k) t
      cs = λ k. ap span_of (e.by_conn k)

      g' : Group
      g' = next (run call b s) (call d)

      good : Good g'
      good = next_good b (run call b s) (call d) m.2 (near_good b (run call b s) (span_near call tag b nb s t m.0 dt cs hs))

      tails : Agrees r q
      tails = record { by_conn = λ k. ap rest_of (e.by_conn k); by_call = λ x. ap rest_of (e.by_call x) }

      same_manage : d ≡ f
      same_manage = ap (λ z. manage_of z d) (e.by_conn 0)

      same_start : run call b s ≡ run call b t
      same_start = span_group call tag b nb s t m.0 dt cs hs

      same_next : g' ≡ next (run call b t) (call f)
      same_next = λ i. next (same_start i) (call (same_manage i))

      rest : Same g' r q → (x : ℕ) (a : Answer) → Says call (run call b s) (d ∷ flat q) x a → Says call (run call b s) (d ∷ flat r) x a
      rest o x a (inl p) = inl p
      rest o x a (inr p) = inr (o.answered x a p)

      join : Same g' r q → (x : ℕ) (a : Answer) → Says call b t x a ⊎ Says call (run call b t) (f ∷ flat q) x a → Says call b (s ++ d ∷ flat r) x a
      join o x a (inl p) = says_left call b s (d ∷ flat r) x a (span_says call tag b nb s t m.0 dt cs hs x a p)
      join o x a (inr p) = says_right call b s (d ∷ flat r) x a (rest o x a (rw (same_start, same_manage) p))

      go : Same g' r q → Same b (cut s d r) (cut t f q)
      go o =
          record {
            ends = run_append call b s (d ∷ flat r) ∙ o.ends ∙ ap (λ g. run call g (flat q)) same_next ∙ sym (run_append call b t (f ∷ flat q));
            answered = λ x a p. join o x a (says_append call b t (f ∷ flat q) x a p);
            marks = (
              dt,
              ap tag (sym same_manage) ∙ m.1,
              ap (λ i. owner_of b (call i)) (sym same_manage) ∙ m.2,
              subst (λ g. Marked g g q) same_next o.marks,
            );
          }

  abbrev pub manage? : ℕ → Bool
  manage? i = is_the_manager (tag i)

  -- the tags are those of the list, read from a group g in a span that began with b
  abbrev pub Listed : Group → Group → List ℕ → Type 0
  Listed b g [] = Unit {0}
  Listed b g (i ∷ s) =
      (tag i ≡ owner_of b (call i)) × Listed (began_by (owner_of b (call i)) (next g (call i)) b) (next g (call i)) s

  pub marked : (b g : Group) (s : List ℕ) → Listed b g s → Marked b g (script manage? s)
  marked b g [] h = λ i m. absurd m
  marked b g (i ∷ s) h = go (owner_of b (call i)) refl (script manage? s) (marked (began_by (owner_of b (call i)) (next g (call i)) b) (next g (call i)) s h.1)
    where
      one : owner_of b (call i) ≢ the_manager → (u : List ℕ) → InSpan call tag b u → InSpan call tag b (i ∷ u)
      one d u k j (inl q) = rw q (owner_conn b (call i) d, h.0)
      one d u k j (inr q) = k j q

      more : owner_of b (call i) ≢ the_manager → (r : Script) → Marked b (next g (call i)) r → Marked b g (before i r)
      more d (last u) k = one d u k
      more d (cut u e r) k = (one d u k.0, k.1, k.2, k.3)

      go : (w : Whose) → owner_of b (call i) ≡ w → (r : Script) → Marked (began_by w (next g (call i)) b) (next g (call i)) r → Marked b g (cut_if (manage? i) i r)
      go the_manager e r k = rw (h.0 ∙ e) (λ j m. absurd m, h.0 ∙ e, e, k)
      go (connection c) e r k = rw (h.0 ∙ e) (more (λ z. let y : ◌≡◌ {A = ℕ} 0 1 = cc in omega arith) r k)
      go nobody e r k = rw (h.0 ∙ e) (more (λ z. let y : ◌≡◌ {A = ℕ} 0 1 = cc in omega arith) r k)

  -- and read back from a script, they are the owners
  whose_span : (b g : Group) (s t : List ℕ) → InSpan call tag b s → whose_from b (run call g s) (map call t) ≡ map tag t
      → whose_from b g (map call (s ++ t)) ≡ map tag (s ++ t)
  unfolding whose_from
  whose_span b g [] t d e = e
  whose_span b g (i ∷ s) t d e =
      let o = d i (inl refl) in
      let k = same_span (owner_of b (call i)) (next g (call i)) b (conn_owner b (call i) o.0) in
      rw (k, ← o.1) (ap (λ l. tag i ∷ l) (whose_span b (next g (call i)) s t (λ j m. d j (inr m)) e))

  pub whose_marked : (b g : Group) (A : Script) → Marked b g A → whose_from b g (map call (flat A)) ≡ map tag (flat A)
  unfolding whose_from
  whose_marked b g (last s) m = rw append-nil at (whose_span b g s [] m refl)
  whose_marked b g (cut s d r) m =
      whose_span b g s (d ∷ flat r) m.0
      (rw (m.2, m.1) (ap (λ l. the_manager ∷ l) (whose_marked (next (run call g s) (call d)) (next (run call g s) (call d)) r m.3)))

  -- what is left, and what is answered, by number and in the list
  pub run_leaves : (g : Group) (s : List ℕ) → leaves g (map call s) ≡ run call g s
  unfolding leaves
  run_leaves g [] = refl
  run_leaves g (i ∷ s) = run_leaves (next g (call i)) s

  pub says_at : (g : Group) (s : List ℕ) (j x : ℕ) → At s j x → (a : Answer) × At (answers g (map call s)) j a × Says call g s x a
  unfolding answers
  says_at g [] j x e = let z : ◌≡◌ {A = ℕ} 0 1 = cc in absurd (omega arith)
  says_at g (i ∷ s) zero x e = (answer g (call i), refl, inl (cc, refl))
  says_at g (i ∷ s) (suc j) x e = let r = says_at (next g (call i)) s j x e in (r.0, r.1, inr r.2)

  pub at_says : (g : Group) (s : List ℕ) (x : ℕ) (a : Answer) → Says call g s x a → (j : ℕ) × At s j x × At (answers g (map call s)) j a
  unfolding answers
  at_says g [] x a m = absurd m
  at_says g (i ∷ s) x a (inl p) = (0, ap some (sym p.0), ap some p.1)
  at_says g (i ∷ s) x a (inr m) = let r = at_says (next g (call i)) s x a m in (suc r.0, r.1, r.2)

listed_suc : (call : ℕ → Call) (tag : ℕ → Whose) (b g : Group) (s : List ℕ)
    → Listed (λ i. call (suc i)) (λ i. tag (suc i)) b g s → Listed call tag b g (map suc s)
listed_suc call tag b g [] h = tt
listed_suc call tag b g (i ∷ s) h =
    (h.0, listed_suc call tag (began_by (owner_of b (call (suc i))) (next g (call (suc i))) b) (next g (call (suc i))) s h.1)

-- past the end of a list stands a call that is not met
abbrev pub unmet : Call
unmet = manage (free_slot 0)

pub listed : (b g : Group) (cs : List Call) → Listed (λ i. get_or cs i unmet) (λ i. get_or (whose_from b g cs) i nobody) b g (upto (length cs))
unfolding whose_from
listed b g [] = tt
listed b g (c ∷ cs) = (
  refl,
  listed_suc (λ i. get_or (c ∷ cs) i unmet) (λ i. get_or (whose_from b g (c ∷ cs)) i nobody) (began_by (owner_of b c) (next g c) b) (next g c) (upto (length cs))
      (listed (began_by (owner_of b c) (next g c) b) (next g c) cs),
)

pub length_whose : (b g : Group) (cs : List Call) → length (whose_from b g cs) ≡ length cs
unfolding whose_from
length_whose b g [] = refl
length_whose b g (c ∷ cs) = ap suc (length_whose (began_by (owner_of b c) (next g c) b) (next g c) cs)

pub length_answers : (g : Group) (cs : List Call) → length (answers g cs) ≡ length cs
unfolding answers
length_answers g [] = refl
length_answers g (c ∷ cs) = ap suc (length_answers (next g c) cs)

-- One span in two orders: a connection's answers and its slot depend on that connection's calls alone, so no argument by swaps is needed.
-- Assumes nothing.
use mathlib.Core.Path.{◌≡◌, refl, sym, ap, ◌∙◌}
use mathlib.Core.Logic.{◌⊎◌, inl, inr, ◌≢◌}
use mathlib.Core.Bool.{Bool, true, false}
use mathlib.Core.List.{List, [], ◌∷◌, ◌++◌}
use Prim.Native.Nat.{ℕ}
use native.Mathlib.Omega.{arith}
use lib.Dec.{eqb}
use borrow.Author.Tests.{eqb-true, eqb-false}
use Rattle.group_rules.specs.Rules.{Group, Call, Answer, answer, next}
use Rattle.thm_order.specs.Statement.{Whose, the_manager, connection, nobody, owner_of}
use Rattle.thm_order.proofs.Lists.{In, sift, keep}
use Rattle.thm_order.proofs.Acts.{Conn, refusal_by}
use Rattle.thm_order.proofs.Near.{Near, near_next, conn_owner, part_of, same_group, part_kept, own, nobodys}

-- the test by which a span is sifted: connection k's calls; desk calls pass too
abbrev pub sees : ℕ → Whose → Bool
sees k the_manager = true
sees k (connection j) = eqb j k
sees k nobody = false

-- Calls are known by their numbers: `call i` is call number i, and `tag i` says whose it is.
module _ (call : ℕ → Call) where
  -- the group that the calls with these numbers leave
  abbrev pub run : Group → List ℕ → Group
  run g [] = g
  run g (i ∷ s) = run (next g (call i)) s

  -- made in this order from g, call number x answers a
  abbrev pub Says : Group → List ℕ → ℕ → Answer → Type 0
  Says g [] x a = ⊥
  Says g (i ∷ s) x a = ((x ≡ i) × (answer g (call i) ≡ a)) ⊎ Says (next g (call i)) s x a

  pub says_in_lem : (g : Group) (s : List ℕ) (x : ℕ) (a : Answer) → Says g s x a → In x s
  says_in_lem g [] x a m = absurd m
  says_in_lem g (i ∷ s) x a (inl p) = inl p.0
  says_in_lem g (i ∷ s) x a (inr m) = inr (says_in_lem (next g (call i)) s x a m)

  pub run_append : (g : Group) (s t : List ℕ) → run g (s ++ t) ≡ run (run g s) t
  run_append g [] t = refl
  run_append g (i ∷ s) t = run_append (next g (call i)) s t

  pub says_append : (g : Group) (s t : List ℕ) (x : ℕ) (a : Answer) → Says g (s ++ t) x a → Says g s x a ⊎ Says (run g s) t x a
  says_append g [] t x a m = inr m
  says_append g (i ∷ s) t x a (inl p) = inl (inl p)
  says_append g (i ∷ s) t x a (inr m) = go (says_append (next g (call i)) s t x a m)
    where
      go : Says (next g (call i)) s x a ⊎ Says (run g (i ∷ s)) t x a → Says g (i ∷ s) x a ⊎ Says (run g (i ∷ s)) t x a
      go (inl p) = inl (inr p)
      go (inr p) = inr p

  pub says_left : (g : Group) (s t : List ℕ) (x : ℕ) (a : Answer) → Says g s x a → Says g (s ++ t) x a
  says_left g [] t x a m = absurd m
  says_left g (i ∷ s) t x a (inl p) = inl p
  says_left g (i ∷ s) t x a (inr m) = inr (says_left (next g (call i)) s t x a m)

  pub says_right : (g : Group) (s t : List ℕ) (x : ℕ) (a : Answer) → Says (run g s) t x a → Says g (s ++ t) x a
  says_right g [] t x a m = m
  says_right g (i ∷ s) t x a m = inr (says_right (next g (call i)) s t x a m)

  module _ (tag : ℕ → Whose) (b : Group) where
    -- a connection call, tagged by the group when the span began
    abbrev pub Tagged : ℕ → Type 0
    Tagged i = Conn (call i) × (tag i ≡ owner_of b (call i))

    abbrev pub InSpan : List ℕ → Type 0
    InSpan s = (i : ℕ) → In i s → Tagged i

    abbrev pub mine : ℕ → ℕ → Bool
    mine k i = sees k (tag i)

    Mine : ℕ → ℕ → Type 0
    Mine k i = ((mine k i ≡ true) × (owner_of b (call i) ≡ connection k)) ⊎ ((mine k i ≡ false) × (owner_of b (call i) ≢ connection k))

    cases : (k i : ℕ) → Tagged i → Mine k i
    unfolding Mine
    cases k i d = rw d.1 (go (owner_of b (call i)) (conn_owner b (call i) d.0))
      where
        by : (j : ℕ) (t : Bool) → eqb j k ≡ t → ((eqb j k ≡ true) × (connection j ≡ connection k)) ⊎ ((eqb j k ≡ false) × (connection j ≢ connection k))
        by j true t = inl (t, ap connection (eqb-true j k t))
        by j false t = inr (t, λ q. eqb-false j k t (cc))

        go : (w : Whose) → w ≢ the_manager → ((sees k w ≡ true) × (w ≡ connection k)) ⊎ ((sees k w ≡ false) × (w ≢ connection k))
        go the_manager h = absurd (h refl)
        go (connection j) h = by j (eqb j k) refl
        go nobody h = inr (refl, λ q. let z : ◌≡◌ {A = ℕ} 0 1 = cc in omega arith)

    -- g meets all the calls of a span, h those of connection k: its slot comes out the same ..
    pub part_run : (k : ℕ) (s : List ℕ) (g h : Group) → Near b g → Near b h → part_of g k ≡ part_of h k → InSpan s
        → part_of (run g s) k ≡ part_of (run h (sift (mine k) s)) k
    unfolding Mine
    part_run k [] g h ng nh e d = e
    part_run k (i ∷ s) g h ng nh e d = go (d i (inl refl)) (cases k i (d i (inl refl)))
        (λ g' h' ng' nh' e'. part_run k s g' h' ng' nh' e' (λ j m. d j (inr m)))
      where
        go : Tagged i → Mine k i
            → ((g' h' : Group) → Near b g' → Near b h' → part_of g' k ≡ part_of h' k → part_of (run g' s) k ≡ part_of (run h' (sift (mine k) s)) k)
            → part_of (run (next g (call i)) s) k ≡ part_of (run h (keep (mine k i) i (sift (mine k) s))) k
        go t (inl o) rec =
            rw o.0
            (rec (next g (call i)) (next h (call i)) (near_next b g ng (call i) t.0) (near_next b h nh (call i) t.0)
            (own b g h (call i) k ng nh t.0 o.1 e).1)
        go t (inr o) rec =
            rw o.0 (rec (next g (call i)) h (near_next b g ng (call i) t.0) nh (part_kept b g (call i) k ng t.0 o.1 ∙ e))

    -- .. and so do the answers to its calls, read either way
    pub says_mine : (k : ℕ) (s : List ℕ) (g h : Group) → Near b g → Near b h → part_of g k ≡ part_of h k → InSpan s
        → (x : ℕ) (a : Answer) → owner_of b (call x) ≡ connection k → Says g s x a → Says h (sift (mine k) s) x a
    unfolding Mine
    says_mine k [] g h ng nh e d x a ox m = m
    says_mine k (i ∷ s) g h ng nh e d x a ox m = go (d i (inl refl)) (cases k i (d i (inl refl))) m
        (λ g' h' ng' nh' e'. says_mine k s g' h' ng' nh' e' (λ j m. d j (inr m)) x a ox)
      where
        go : Tagged i → Mine k i → ((x ≡ i) × (answer g (call i) ≡ a)) ⊎ Says (next g (call i)) s x a
            → ((g' h' : Group) → Near b g' → Near b h' → part_of g' k ≡ part_of h' k → Says g' s x a → Says h' (sift (mine k) s) x a)
            → Says h (keep (mine k i) i (sift (mine k) s)) x a
        go t (inl o) (inl p) rec = rw o.0 (inl (p.0, sym (own b g h (call i) k ng nh t.0 o.1 e).0 ∙ p.1))
        go t (inl o) (inr m) rec =
            rw o.0
            (inr (rec (next g (call i)) (next h (call i)) (near_next b g ng (call i) t.0) (near_next b h nh (call i) t.0)
            (own b g h (call i) k ng nh t.0 o.1 e).1 m))
        go t (inr o) (inl p) rec = absurd (o.1 (rw p.0 at ox))
        go t (inr o) (inr m) rec =
            rw o.0 (rec (next g (call i)) h (near_next b g ng (call i) t.0) nh (part_kept b g (call i) k ng t.0 o.1 ∙ e) m)

    pub says_all : (k : ℕ) (s : List ℕ) (g h : Group) → Near b g → Near b h → part_of g k ≡ part_of h k → InSpan s
        → (x : ℕ) (a : Answer) → Says h (sift (mine k) s) x a → Says g s x a
    unfolding Mine
    says_all k [] g h ng nh e d x a m = m
    says_all k (i ∷ s) g h ng nh e d x a m = go (d i (inl refl)) (cases k i (d i (inl refl)))
        (λ g' h' ng' nh' e'. says_all k s g' h' ng' nh' e' (λ j m. d j (inr m)) x a)
      where
        Rest : Type 0
        Rest = (g' h' : Group) → Near b g' → Near b h' → part_of g' k ≡ part_of h' k → Says h' (sift (mine k) s) x a → Says g' s x a

        hit : Conn (call i) → owner_of b (call i) ≡ connection k → Rest
            → ((x ≡ i) × (answer h (call i) ≡ a)) ⊎ Says (next h (call i)) (sift (mine k) s) x a
            → ((x ≡ i) × (answer g (call i) ≡ a)) ⊎ Says (next g (call i)) s x a
        hit t o rec (inl p) = inl (p.0, (own b g h (call i) k ng nh t o e).0 ∙ p.1)
        hit t o rec (inr m) =
            inr (rec (next g (call i)) (next h (call i)) (near_next b g ng (call i) t) (near_next b h nh (call i) t)
            (own b g h (call i) k ng nh t o e).1 m)

        go : Tagged i → Mine k i → Rest → ((x ≡ i) × (answer g (call i) ≡ a)) ⊎ Says (next g (call i)) s x a
        go t (inl o) rec = hit t.0 o.1 rec (rw o.0 at m)
        go t (inr o) rec =
            inr (rec (next g (call i)) h (near_next b g ng (call i) t.0) nh (part_kept b g (call i) k ng t.0 o.1 ∙ e) (rw o.0 at m))

    -- nobody's call answers as it would have when the span began
    pub says_nobodys : (s : List ℕ) (g : Group) → Near b g → InSpan s → (x : ℕ) (a : Answer) → owner_of b (call x) ≡ nobody → Says g s x a
        → refusal_by (call x) ≡ a
    says_nobodys [] g ng d x a ox m = absurd m
    says_nobodys (i ∷ s) g ng d x a ox (inl p) =
        ap (λ j. refusal_by (call j)) p.0 ∙ sym (nobodys b g (call i) ng (d i (inl refl)).0 (rw p.0 at ox)).0 ∙ p.1
    says_nobodys (i ∷ s) g ng d x a ox (inr m) =
        says_nobodys s (next g (call i)) (near_next b g ng (call i) (d i (inl refl)).0) (λ j m. d j (inr m)) x a ox m

    pub nobodys_says : (s : List ℕ) (g : Group) → Near b g → InSpan s → (x : ℕ) → owner_of b (call x) ≡ nobody → In x s
        → Says g s x (refusal_by (call x))
    nobodys_says [] g ng d x ox m = absurd m
    nobodys_says (i ∷ s) g ng d x ox (inl p) =
        inl (p, (nobodys b g (call i) ng (d i (inl refl)).0 (rw p at ox)).0 ∙ ap (λ j. refusal_by (call j)) (sym p))
    nobodys_says (i ∷ s) g ng d x ox (inr m) =
        inr (nobodys_says s (next g (call i)) (near_next b g ng (call i) (d i (inl refl)).0) (λ j m. d j (inr m)) x ox m)

    -- Two orders of one span, from the group with which it began: connection by connection the same, with the same calls.
    module _ (start : Near b b) (s t : List ℕ) (ds : InSpan s) (dt : InSpan t) (conn : (k : ℕ) → sift (mine k) s ≡ sift (mine k) t)
        (here : (x : ℕ) → In x t → In x s) where
      near_run : (u : List ℕ) (g : Group) → Near b g → InSpan u → Near b (run g u)
      near_run [] g ng d = ng
      near_run (i ∷ u) g ng d = near_run u (next g (call i)) (near_next b g ng (call i) (d i (inl refl)).0) (λ j m. d j (inr m))

      pub span_near : Near b (run b s)
      span_near = near_run s b start ds

      pub span_group : run b s ≡ run b t
      span_group =
          same_group b (run b s) (run b t) (near_run s b start ds) (near_run t b start dt)
          (λ k. part_run k s b b start start refl ds ∙ ap (λ u. part_of (run b u) k) (conn k) ∙ sym (part_run k t b b start start refl dt))

      pub span_says : (x : ℕ) (a : Answer) → Says b t x a → Says b s x a
      span_says x a y = go (owner_of b (call x)) refl
        where
          there : In x t
          there = says_in_lem b t x a y

          go : (w : Whose) → owner_of b (call x) ≡ w → Says b s x a
          go the_manager p = absurd (conn_owner b (call x) (dt x there).0 p)
          go nobody p = rw (says_nobodys t b start dt x a p y) at (nobodys_says s b start ds x p (here x there))
          go (connection k) p =
              says_all k s b b start start refl ds x a (rw (conn k) (says_mine k t b b start start refl dt x a p y))

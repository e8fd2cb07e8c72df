-- What an accepted call changes of the bytes of one slot's element, by the call alone: it opens the slot, places bytes there, or leaves them.
-- A further call on a slot is one clause more of `puts`, a further desk call of `changes`. Assumes nothing.
use mathlib.Core.Path.{◌≡◌, refl, ap, ◌∙◌}
use mathlib.Core.Logic.{◌⊎◌, inl, inr}
use mathlib.Core.Bool.{Bool, true, false, cond}
use mathlib.Core.List.{List}
use Prim.Native.Nat.{ℕ}
use lib.Dec.{eqb}
use borrow.Author.Tests.{eqb-true, eqb-false}
use Rattle.element.specs.Element.{splice, fresh_element}
use Rattle.conn_record.specs.declared.Opening as Given
use Rattle.group_rules.specs.Rules.{Request, send, gather, urgent, place, read, shutdown, close, abort, open_slot, free_slot, link_change, link_message, link_send, sample, Call, on, hear, manage}
use Rattle.thm_safety.specs.Statement.{placed_by, changed_by}
use Rattle.thm_refusals.proofs.Answers.{clash}

-- of the bytes e of slot k's element
pub data Changes (n k : ℕ) (c : Call) (e : List ℕ) : Type 0 where
  opens : (given : Given.Opening) → c ≡ manage (open_slot k given) → changed_by n k c e ≡ fresh_element n → Changes n k c e
  places : (at : ℕ) (b : List ℕ) → c ≡ on k (place at b) → changed_by n k c e ≡ splice e at b → Changes n k c e
  stays : ((given : Given.Opening) → c ≡ manage (open_slot k given) → ⊥) → ((at : ℕ) (b : List ℕ) → c ≡ on k (place at b) → ⊥)
      → changed_by n k c e ≡ e → Changes n k c e

module _ (n k : ℕ) (e : List ℕ) where
  asks : (j : ℕ) (q : Request) → Changes n k (on j q) e
  asks j q = go (eqb j k) refl
    where
      no_open : (given : Given.Opening) → on j q ≡ manage (open_slot k given) → ⊥
      no_open given p = clash (cc)

      Puts : Request → Type 0
      Puts q =
          ((placed_by q e ≡ e) × ((at : ℕ) (b : List ℕ) → q ≡ place at b → ⊥))
          ⊎ ((at : ℕ) × (b : List ℕ) × (q ≡ place at b) × (placed_by q e ≡ splice e at b))

      puts : (q : Request) → Puts q
      puts (send b) = inl (refl, λ at b p. clash (cc))
      puts (urgent b) = inl (refl, λ at b p. clash (cc))
      puts (gather h b) = inl (refl, λ at b p. clash (cc))
      puts (place at b) = inr (at, b, refl, refl)
      puts (read out) = inl (refl, λ at b p. clash (cc))
      puts shutdown = inl (refl, λ at b p. clash (cc))
      puts close = inl (refl, λ at b p. clash (cc))
      puts abort = inl (refl, λ at b p. clash (cc))

      by : (t : Bool) → eqb j k ≡ t → changed_by n k (on j q) e ≡ cond t (placed_by q e) e
      by t h = ap (λ x. cond x (placed_by q e) e) h

      here : eqb j k ≡ true → Puts q → Changes n k (on j q) e
      here h (inl w) = stays no_open (λ at b p. w.1 at b (cc)) (by true h ∙ w.0)
      here h (inr w) = places w.0 w.1 (λ x. on (eqb-true j k h x) (w.2 x)) (by true h ∙ w.3)

      go : (t : Bool) → eqb j k ≡ t → Changes n k (on j q) e
      go true h = here h (puts q)
      go false h = stays no_open (λ at b p. eqb-false j k h (cc)) (by false h)

  opening : (j : ℕ) (given : Given.Opening) → Changes n k (manage (open_slot j given)) e
  opening j given = go (eqb j k) refl
    where
      by : (t : Bool) → eqb j k ≡ t → changed_by n k (manage (open_slot j given)) e ≡ cond t (fresh_element n) e
      by t h = ap (λ x. cond x (fresh_element n) e) h

      go : (t : Bool) → eqb j k ≡ t → Changes n k (manage (open_slot j given)) e
      go true h = opens given (ap (λ i. manage (open_slot i given)) (eqb-true j k h)) (by true h)
      go false h = stays (λ a p. eqb-false j k h (cc)) (λ at b p. clash (cc)) (by false h)

  pub changes : (c : Call) → Changes n k c e
  changes (on j q) = asks j q
  changes (hear b) = stays (λ given p. clash (cc)) (λ at b p. clash (cc)) refl
  changes (manage (open_slot j given)) = opening j given
  changes (manage (free_slot j)) = stays (λ given p. clash (cc)) (λ at b p. clash (cc)) refl
  changes (manage (link_change l up o)) = stays (λ given p. clash (cc)) (λ at b p. clash (cc)) refl
  changes (manage (link_message l b o)) = stays (λ given p. clash (cc)) (λ at b p. clash (cc)) refl
  changes (manage (link_send l i vs o)) = stays (λ given p. clash (cc)) (λ at b p. clash (cc)) refl
  changes (manage (sample l ms)) = stays (λ given p. clash (cc)) (λ at b p. clash (cc)) refl

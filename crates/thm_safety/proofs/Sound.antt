-- Every group that calls make from a fresh one is sound. Assumes nothing.
use mathlib.Core.Path.{◌≡◌, refl, sym, ap, ◌∙◌}
use mathlib.Core.Logic.{◌⊎◌, inl, inr}
use mathlib.Core.Bool.{true, false≢true}
use mathlib.Core.List.{List, [], ◌∷◌}
use Prim.Native.Nat.{ℕ, suc}
use native.Mathlib.Decide.{ℕ_discrete}
use Rattle.element.specs.Element.{element_of, intact_b}
use Rattle.conn_record.specs.Connection.{coherent_b, zero_record}
use Rattle.group_rules.specs.Rules.{Group, Call, on, hear, manage, Turn, does, next, record_of_all, element_in, Fresh}
use Rattle.thm_order.proofs.Slots.{open_in, open_is}
use Rattle.thm_order.proofs.Near as near
use Rattle.thm_order.proofs.Management.{manage_good}
use Rattle.thm_order.specs.Statement.{leaves}
use Rattle.thm_safety.specs.Statement.{OpenAt}
use Rattle.thm_safety.proofs.Invariant.{Sound}
use Rattle.thm_safety.proofs.Calls.{Opening, Untouched, Turned, call_does}

pub sound_fresh : (g : Group) → Fresh g → Sound g
sound_fresh g f =
    record {
      good = near.fresh_good g f;
      coherent = λ i o. absurd (false≢true (sym (f.closed (suc i)) ∙ o));
      intact = λ i o. absurd (false≢true (sym (f.closed (suc i)) ∙ o));
    }

good_next : (g : Group) → near.Good g → (c : Call) → near.Good (next g c)
good_next g h (on k q) = near.near_good g _ (near.near_next g g (near.near_start g h) (on k q) tt)
good_next g h (hear b) = near.near_good g _ (near.near_next g g (near.near_start g h) (hear b) tt)
good_next g h (manage d) = manage_good g d h

module _ (g : Group) (s : Sound g) (c : Call) where
  abbrev pub h : Group
  h = next g c

  -- an open slot after a call is as it was, or it is the turned one
  abbrev As_was : ℕ → Type 0
  As_was j = OpenAt g (suc j) × (record_of_all h (suc j) ≡ record_of_all g (suc j)) × (element_in h (suc j) ≡ element_in g (suc j))

  abbrev Anew : ℕ → Type 0
  Anew j =
      (coherent_b g.N (record_of_all h (suc j)) ≡ true)
      × (intact_b (element_in h (suc j)) ≡ true)
      × (OpenAt g (suc j) ⊎ Opening g c (suc j) (does g c))

  as_was : (j : ℕ) → h.S ≡ g.S → record_of_all h (suc j) ≡ record_of_all g (suc j) → element_in h (suc j) ≡ element_in g (suc j)
      → OpenAt h (suc j) → As_was j
  as_was j p r e o =
      let w = open_in h.S h.table (suc j) o in
      let was = open_is g.S g.table (suc j) (rw p at w.slot) (ap (λ r. r.id.opened) (sym r) ∙ w.is_open) in
      (was, r, e)

  anew : (i : ℕ) (t : Turn) → Turned g c (does g c) i t → OpenAt h (suc i) → Anew i
  unfolding zero_record
  anew i t w o = go w.left_record
    where
      go : (t.after ≡ zero_record) ⊎ (coherent_b g.N t.after ≡ true) → Anew i
      go (inl z) =
          let q = open_in h.S h.table (suc i) o in
          absurd (false≢true (sym (ap (λ r. r.id.opened) (w.back.this_record ∙ z)) ∙ q.is_open))
      go (inr k) = (ap (coherent_b g.N) w.back.this_record ∙ k, ap intact_b w.back.this_element ∙ w.left_eye, w.was_open)

  pub kept_sizes : (h.S ≡ g.S) × (h.N ≡ g.N)
  kept_sizes = go (call_does g s c).effect
    where
      go : Untouched g c (does g c) ⊎ ((i : ℕ) × (t : Turn) × Turned g c (does g c) i t) → (h.S ≡ g.S) × (h.N ≡ g.N)
      go (inl u) = (u.same_S, u.same_N)
      go (inr w) = (w.2.back.put_S, w.2.back.put_N)

  open_after : (j : ℕ) → OpenAt h (suc j) → As_was j ⊎ Anew j
  open_after j o = go (call_does g s c).effect
    where
      by : (i : ℕ) (t : Turn) → Turned g c (does g c) i t → Dec (j ≡ i) → As_was j ⊎ Anew j
      by i t w (yes e) = inr (rw e (anew i t w (rw e at o)))
      by i t w (no d) = inl (as_was j w.back.put_S (w.back.other_record j d) (w.back.other_element j d) o)

      go : Untouched g c (does g c) ⊎ ((i : ℕ) × (t : Turn) × Turned g c (does g c) i t) → As_was j ⊎ Anew j
      go (inl u) =
          let w = open_in h.S h.table (suc j) o in
          let was = open_is g.S g.table (suc j) (rw u.same_S at w.slot) (sym (u.same_open (suc j)) ∙ w.is_open) in
          let same : element_in h (suc j) ≡ element_in g (suc j) = λ x. element_of (u.same_N x) (suc j) (u.same_memory x) in
          inr (u.still_coherent (suc j) (s.coherent j was), ap intact_b same ∙ s.intact j was, inl was)
      go (inr w) = by w.0 w.1 w.2 (ℕ_discrete j w.0)

  -- what is open after a call was open before, or the call opened it
  pub open_before : (j : ℕ) → OpenAt h (suc j) → OpenAt g (suc j) ⊎ Opening g c (suc j) (does g c)
  open_before j o = go (open_after j o)
    where
      go : As_was j ⊎ Anew j → OpenAt g (suc j) ⊎ Opening g c (suc j) (does g c)
      go (inl w) = inl w.0
      go (inr w) = w.2

  pub sound_next : Sound h
  sound_next =
      record {
        good = good_next g s.good c;
        coherent = λ j o. rw kept_sizes.1 (coherent j (open_after j o));
        intact = λ j o. intact j (open_after j o);
      }
    where
      coherent : (j : ℕ) → As_was j ⊎ Anew j → coherent_b g.N (record_of_all h (suc j)) ≡ true
      coherent j (inl w) = ap (coherent_b g.N) w.1 ∙ s.coherent j w.0
      coherent j (inr w) = w.0

      intact : (j : ℕ) → As_was j ⊎ Anew j → intact_b (element_in h (suc j)) ≡ true
      intact j (inl w) = ap intact_b w.2 ∙ s.intact j w.0
      intact j (inr w) = w.1

pub sound_leaves : (cs : List Call) (g : Group) → Sound g → Sound (leaves g cs)
unfolding leaves
sound_leaves [] g s = s
sound_leaves (c ∷ cs) g s = sound_leaves cs (next g c) (sound_next g s c)

pub leaves_sizes : (cs : List Call) (g : Group) → Sound g → ((leaves g cs).S ≡ g.S) × ((leaves g cs).N ≡ g.N)
unfolding leaves
leaves_sizes [] g s = (refl, refl)
leaves_sizes (c ∷ cs) g s =
    let w = leaves_sizes cs (next g c) (sound_next g s c) in
    let v = kept_sizes g s c in
    (w.0 ∙ v.0, w.1 ∙ v.1)

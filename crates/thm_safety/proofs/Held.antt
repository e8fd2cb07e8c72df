-- What each element holds is what `held` says. Assumes nothing.
use mathlib.Core.Path.{◌≡◌, refl, sym, ap, ◌∙◌}
use mathlib.Core.Logic.{◌⊎◌, inl, inr}
use mathlib.Core.List.{List, [], ◌∷◌}
use Prim.Native.Nat.{ℕ, suc, ◌+◌, ◌<◌}
use native.Mathlib.Decide.{ℕ_discrete}
use native.Mathlib.Omega.{arith}
use lib.ListN.{length, drop, get_or, replicate, length-replicate}
use lib.Seq.{ext_get_or, get_or-take, get_or-drop}
use Rattle.element.specs.Element.{part, base_of, element_of}
use Rattle.group_rules.specs.Rules.{Group, Call, Turn, does, next, element_in, Fresh}
use Rattle.thm_order.specs.Statement.{leaves}
use Rattle.thm_order.proofs.Slots.{element_long}
use Rattle.thm_safety.specs.Statement.{held_after, held_from}
use Rattle.thm_safety.proofs.Invariant.{Sound, sizes}
use Rattle.thm_safety.proofs.Calls.{Untouched, Turned, call_does}
use Rattle.thm_safety.proofs.Sound.{sound_next}
use Rattle.thm_safety.proofs.Lists.{zero_at}

-- one call on
module _ (g : Group) (s : Sound g) where
  pub held_next : (c : Call) (j : ℕ) → element_in (next g c) (suc j) ≡ held_after g c (suc j) (element_in g (suc j))
  unfolding held_after
  held_next c j = go (call_does g s c).effect
    where
      e : List ℕ
      e = element_in g (suc j)

      by : (i : ℕ) (t : Turn) → Turned g c (does g c) i t → Dec (j ≡ i) → element_in (next g c) (suc j) ≡ held_after g c (suc j) e
      by i t w (yes p) = rw p (w.back.this_element ∙ w.left_held)
      by i t w (no d) = w.back.other_element j d ∙ sym (w.others_held j e d)

      go : Untouched g c (does g c) ⊎ ((i : ℕ) × (t : Turn) × Turned g c (does g c) i t)
          → element_in (next g c) (suc j) ≡ held_after g c (suc j) e
      go (inl u) = (λ x. element_of (u.same_N x) (suc j) (u.same_memory x)) ∙ sym (u.same_held (suc j) e)
      go (inr w) = by w.0 w.1 w.2 (ℕ_discrete j w.0)

pub held_leaves : (cs : List Call) (g : Group) → Sound g → (j : ℕ)
    → element_in (leaves g cs) (suc j) ≡ held_from g (element_in g (suc j)) cs (suc j)
unfolding leaves held_from
held_leaves [] g s j = refl
held_leaves (c ∷ cs) g s j =
    held_leaves cs (next g c) (sound_next g s c) j ∙ ap (λ e. held_from (next g c) e cs (suc j)) (held_next g s c j)

-- a fresh group's elements
pub fresh_zeros : (g : Group) → Fresh g → Sound g → (j : ℕ) → j < g.S → element_in g (suc j) ≡ replicate g.N 0
unfolding element_of part
fresh_zeros g f s j l =
    ext_get_or 0 (element_in g (suc j)) (replicate g.N 0) (long ∙ sym (length-replicate g.N 0)) (λ i h. byte i (omega (arith, long)))
  where
    long : length (element_in g (suc j)) ≡ g.N
    long = element_long g.N g.S g.memory (sizes g s).whole j l

    byte : (i : ℕ) → i < g.N → get_or (element_in g (suc j)) i 0 ≡ get_or (replicate g.N 0) i 0
    byte i h =
        let b = base_of g.N (suc j) in
        get_or-take g.N (drop b g.memory) i 0 h
        ∙ get_or-drop b g.memory i 0
        ∙ ap (λ m. get_or m (b + i) 0) f.zeros
        ∙ zero_at (length g.memory) (b + i)
        ∙ sym (zero_at g.N i)

-- The slot on which a turn is put back, in any group: it is the one that the call acts on, one of 1 to S, and the turn's element has N bytes.
-- Assumes nothing.
use mathlib.Core.Path.{◌≡◌, ap, ◌∙◌}
use mathlib.Core.Bool.{true}
use mathlib.Core.List.{List}
use Prim.Native.Nat.{ℕ, suc, ◌<◌}
use native.Mathlib.Omega.{arith}
use lib.ListN.{length}
use Rattle.element.proofs.Others.{fresh_length}
use Rattle.group_table.specs.Table.{slot_b}
use Rattle.group_rules.specs.Rules.{Group, Call, on, Turn, turn_of, hear_turn, record_of_all, element_in, link_of, sizes_ok}
use Rattle.thm_order.specs.Statement.{hearer}
use Rattle.thm_order.proofs.Records.{long_by}
use Rattle.thm_order.proofs.Slots.{slot_in, open_in, element_long, Sizes, sizes_in}
use Rattle.thm_changes.specs.Changes.{slot_of_all}
use Rattle.thm_safety.proofs.Effects.{open_facts, free_facts, Acts, asks, hears, opens, frees}

module _ (g : Group) (c : Call) (k : ℕ) (t : Turn) (ok : sizes_ok g ≡ true) where
  pub acts_slot : Acts g c k t → slot_of_all g c ≡ k
  acts_slot (asks q p o r) = ap (slot_of_all g) p
  acts_slot (hears b m p d h o w r) = ap (slot_of_all g) p ∙ ap (hearer g) d ∙ h
  acts_slot (opens given p n r) = ap (slot_of_all g) p
  acts_slot (frees p n r) = ap (slot_of_all g) p

  pub acts_in : Acts g c k t → slot_b g.S k ≡ true
  acts_in (asks q p o r) = (open_in g.S g.table k o).slot
  acts_in (hears b m p d h o w r) = (open_in g.S g.table k o).slot
  acts_in (opens given p n r) = (open_facts g k given n).slot
  acts_in (frees p n r) = (open_in g.S g.table k (free_facts g k n).is_open).slot

  pub is_sizes : Sizes g.S g.N (length g.memory) (length g.table)
  is_sizes = sizes_in g.S g.N (length g.memory) (length g.table) ok

module _ (g : Group) (c : Call) (i : ℕ) (t : Turn) (ok : sizes_ok g ≡ true) where
  abbrev e : List ℕ
  e = element_in g (suc i)

  pub acts_high : Acts g c (suc i) t → i < g.S
  acts_high a = (slot_in g.S (suc i) (acts_in g c (suc i) t ok a)).1

  pub acts_long : Acts g c (suc i) t → length t.element ≡ g.N
  unfolding hear_turn turn_of
  acts_long a = go a
    where
      long : length e ≡ g.N
      long = element_long g.N g.S g.memory (is_sizes g c (suc i) t ok).whole i (acts_high a)

      go : Acts g c (suc i) t → length t.element ≡ g.N
      go (asks q p o r) =
          ap (λ (t : Turn). length t.element) r ∙ long_by g.N (link_of g (suc i)) (record_of_all g (suc i)) e long (on (suc i) q)
      go (hears b m p d h o w r) = ap (λ (t : Turn). length t.element) r ∙ long
      go (opens given p n r) =
          ap (λ (t : Turn). length t.element) r ∙ fresh_length g.N (omega (arith, (is_sizes g c (suc i) t ok).least))
      go (frees p n r) = ap (λ (t : Turn). length t.element) r ∙ long

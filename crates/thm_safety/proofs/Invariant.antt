-- What holds of every group that calls make from a fresh one: `Sound`. Module Sound shows that it does. Assumes nothing.
use mathlib.Core.Path.{◌≡◌}
use mathlib.Core.Bool.{true}
use Prim.Native.Nat.{ℕ, suc}
use native.Mathlib.Omega.{arith}
use lib.ListN.{length}
use Rattle.element.specs.Element.{intact_b}
use Rattle.conn_record.specs.Connection.{coherent_b}
use Rattle.group_rules.specs.Rules.{Group, record_of_all, element_in}
use Rattle.thm_order.proofs.Slots.{open_in, Sizes, sizes_in}
use Rattle.thm_order.proofs.Near as near
use Rattle.thm_safety.specs.Statement.{OpenAt}

pub record Sound (g : Group) : Type 0 where
  -- the sizes are right, the table has S slots or more, own tokens of open slots differ
  pub good : near.Good g
  pub coherent : (i : ℕ) → OpenAt g (suc i) → coherent_b g.N (record_of_all g (suc i)) ≡ true
  pub intact : (i : ℕ) → OpenAt g (suc i) → intact_b (element_in g (suc i)) ≡ true

-- slots are counted from 1
pub no_slot_0 : (g : Group) → OpenAt g 0 → ⊥
no_slot_0 g o = omega (arith, (open_in g.S g.table 0 o).low)

pub sizes : (g : Group) → Sound g → Sizes g.S g.N (length g.memory) (length g.table)
sizes g s = sizes_in g.S g.N (length g.memory) (length g.table) s.good.sizes

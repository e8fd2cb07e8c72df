-- The element of a slot in a memory of the right length. Assumes nothing.
use Prim.Native.Nat.{ℕ, ◌+◌, ◌-◌, ◌*◌, ◌≤◌}
use mathlib.Core.Path.{◌≡◌, ap}
use mathlib.Core.Bool.{true}
use mathlib.Core.List.{List}
use native.Mathlib.Nat.{mul-le-mul_right, add-mul, one-mul}
use native.Mathlib.Omega.{arith}
use lib.ListN.{length}
use Rattle.element.specs.Element.{splice, base_of, element_of, intact_b, intact_at, fresh_element, cleared_of}
use Rattle.element.proofs.Others.{put_back, intact_part}
use Rattle.element.proofs.Calls.{cleared_in_lem}
use Rattle.conn_record.specs.Connection.{most_size}
use Rattle.group_table.specs.Table.{most_slots, sizes_b, slot_b}
use Rattle.group_table.proofs.Laws.{sizes_facts, slot_facts}

module _ (s n : ℕ) (m : List ℕ) (count k : ℕ) (sized : sizes_b s n (length m) count ≡ true) (slot : slot_b s k ≡ true) where
  -- it lies in the memory
  pub within_memory : base_of n k + n ≤ length m
  within_memory =
      let z = sizes_facts s n (length m) count sized in
      let f = slot_facts s k slot in
      let e : k ≡ k - 1 + 1 = omega (arith, f.0) in
      omega (
        arith,
        z.len_is,
        mul-le-mul_right {m = k} {n = s} n f.1,
        ap (λ (j : ℕ). j * n) e,
        add-mul (k - 1) 1 n,
        one-mul n,
      )

  -- and where it begins is no large number
  pub base_most : base_of n k ≤ (most_slots - 1) * most_size
  base_most =
      let z = sizes_facts s n (length m) count sized in
      let f = slot_facts s k slot in
      omega (
        arith,
        z.s_most,
        z.n_most,
        f.1,
        mul-le-mul_right {m = k - 1} {n = most_slots - 1} n (omega (arith, f.1, z.s_most)),
      )

  -- put back as it was, nothing changes
  pub kept_memory : splice m (base_of n k) (element_of n k m) ≡ m
  unfolding element_of
  kept_memory = put_back m (base_of n k) n within_memory

  pub cleared_memory : cleared_of m (base_of n k) n ≡ splice m (base_of n k) (fresh_element n)
  cleared_memory = cleared_in_lem m (base_of n k) n within_memory (omega (arith, (sizes_facts s n (length m) count sized).n_least))

  pub intact_memory : intact_at m (base_of n k) ≡ intact_b (element_of n k m)
  unfolding element_of
  intact_memory = intact_part m (base_of n k) n (omega (arith, (sizes_facts s n (length m) count sized).n_least)) within_memory

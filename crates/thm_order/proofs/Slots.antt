-- A group's slots: the search by token, elements of the memory, and what is left in each slot where one turn is put back. Assumes nothing.
use mathlib.Core.Path.{◌≡◌, refl, sym, ap, ◌∙◌}
use mathlib.Core.Logic.{◌≢◌}
use mathlib.Core.Bool.{Bool, true, false, false≢true, ◌&&◌}
use mathlib.Core.List.{List, [], ◌∷◌, ◌++◌}
use Prim.Native.Nat.{ℕ, zero, suc, ◌+◌, ◌-◌, ◌*◌, ◌<◌, ◌≤◌, zero-le, suc-le-suc}
use native.Mathlib.Nat.{le_of_suc-le-suc, not-suc-le-zero}
use native.Mathlib.Decide.{dec_lt}
use native.Mathlib.Omega.{arith}
use lib.Dec.{leb, eqb}
use lib.ListN.{length, get_or, take, drop, length-set}
use lib.Seq.{get_or-set_same, get_or-set_other, take-add, take_all}
use borrow.Author.Tests.{leb-true, le-leb, eqb-true, eq-eqb}
use Rattle.element.specs.Element.{part, base_of, element_of, splice}
use Rattle.element.proofs.Elements.{base_next, element_in_lem, element_length}
use Rattle.element.proofs.Others.{splice-length, part_same, part_before, part_after}
use Rattle.conn_record.specs.declared.Record.{Record}
use Rattle.conn_record.specs.Connection.{zero_record}
use Rattle.group_table.specs.Table.{sizes_b, slot_b, record_at, open_b, holds_b, or_later, lowest, find_from, with_record}
use Rattle.group_rules.specs.Rules.{Group, Turn, record_of_all, element_in, put_turn, links_of}
use Rattle.thm_order.proofs.Records.{and_both}

-- THE TABLE. Slot k is one of 1 to S
pub slot_in : (s k : ℕ) → slot_b s k ≡ true → (1 ≤ k) × (k ≤ s)
unfolding slot_b
slot_in s k h = let p = and_both (leb 1 k) (leb k s) h in (leb-true 1 k p.0, leb-true k s p.1)

pub slot_is : (s k : ℕ) → 1 ≤ k → k ≤ s → slot_b s k ≡ true
unfolding slot_b
slot_is s k h l = rw (le-leb 1 k h) (le-leb k s l)

pub no_slot : (s : ℕ) → slot_b s 0 ≡ false
unfolding slot_b
no_slot s = refl

pub record Opened (s : ℕ) (t : List Record) (k : ℕ) : Type 0 where
  pub slot : slot_b s k ≡ true
  pub low : 1 ≤ k
  pub high : k ≤ s
  pub is_open : (record_at t k).id.opened ≡ true

pub open_in : (s : ℕ) (t : List Record) (k : ℕ) → open_b s t k ≡ true → Opened s t k
unfolding open_b
open_in s t k h =
    let p = and_both (slot_b s k) (record_at t k).id.opened h in
    let q = slot_in s k p.0 in
    record { slot = p.0; low = q.0; high = q.1; is_open = p.1 }

pub open_is : (s : ℕ) (t : List Record) (k : ℕ) → slot_b s k ≡ true → (record_at t k).id.opened ≡ true → open_b s t k ≡ true
unfolding open_b
open_is s t k h o = rw h o

-- an open record lies in the table
pub open_there : (t : List Record) (i : ℕ) → (get_or t i zero_record).id.opened ≡ true → i < length t
unfolding zero_record
open_there [] i h = absurd (false≢true h)
open_there (r ∷ t) zero h = suc-le-suc zero-le
open_there (r ∷ t) (suc i) h = suc-le-suc (open_there t i h)

-- the lowest of the first s records that passes a test
lowest_passes : (q : Record → Bool) (s : ℕ) (t : List Record) (k : ℕ) → lowest q s t ≡ suc k → (k < s) × (q (get_or t k zero_record) ≡ true)
unfolding lowest
lowest_passes q zero t k e = absurd (omega (arith, e))
lowest_passes q (suc s) [] k e = absurd (omega (arith, e))
lowest_passes q (suc s) (r ∷ t) k e = go (λ j p. lowest_passes q s t j p) (q r) refl (lowest q s t) refl e
  where
    go : ((j : ℕ) → lowest q s t ≡ suc j → (j < s) × (q (get_or t j zero_record) ≡ true)) → (b : Bool) → q r ≡ b → (l : ℕ) → lowest q s t ≡ l
        → or_later b l ≡ suc k → (k < suc s) × (q (get_or (r ∷ t) k zero_record) ≡ true)
    go rec true b l p e = let z : k ≡ 0 = omega (arith, e) in rw z (suc-le-suc zero-le, b)
    go rec false b zero p e = absurd (omega (arith, e))
    go rec false b (suc j) p e = let z : k ≡ suc j = omega (arith, e) in let w = rec j p in rw z (suc-le-suc w.0, w.1)

lowest_found : (q : Record → Bool) (s : ℕ) (t : List Record) (k : ℕ) → k < s → k < length t → q (get_or t k zero_record) ≡ true
    → (j : ℕ) × (lowest q s t ≡ suc j)
unfolding lowest
lowest_found q zero t k h p e = absurd (not-suc-le-zero h)
lowest_found q (suc s) [] k h p e = absurd (not-suc-le-zero p)
lowest_found q (suc s) (r ∷ t) zero h p e = (0, rw e)
lowest_found q (suc s) (r ∷ t) (suc k) h p e = go (q r) (lowest_found q s t k (le_of_suc-le-suc h) (le_of_suc-le-suc p) e)
  where
    go : (b : Bool) → (j : ℕ) × (lowest q s t ≡ suc j) → (j : ℕ) × (or_later b (lowest q s t) ≡ suc j)
    go true w = (0, refl)
    go false w = (suc w.0, rw w.1)

-- the slot that the search by token finds is open with the token, and it finds one if there is one
pub found_open : (s : ℕ) (t : List Record) (token k : ℕ) → find_from t token s ≡ suc k
    → (open_b s t (suc k) ≡ true) × ((record_at t (suc k)).id.own ≡ token)
unfolding find_from holds_b record_at open_b
found_open s t token k e =
    let w = lowest_passes (holds_b token) s t k e in
    let p = and_both (get_or t k zero_record).id.opened (eqb (get_or t k zero_record).id.own token) w.1 in
    (rw (slot_is s (suc k) (suc-le-suc zero-le) w.0) p.0, eqb-true (get_or t k zero_record).id.own token p.1)

pub open_found : (s : ℕ) (t : List Record) (k : ℕ) → open_b s t (suc k) ≡ true → (j : ℕ) × (find_from t (record_at t (suc k)).id.own s ≡ suc j)
unfolding find_from holds_b record_at
open_found s t k o =
    let w = open_in s t (suc k) o in
    let own = (get_or t k zero_record).id.own in
    let has : holds_b own (get_or t k zero_record) ≡ true = rw (w.is_open, eq-eqb own own refl) in
    lowest_found (holds_b own) s t k w.high (open_there t k w.is_open) has

-- another record in one slot
pub record_same : (t : List Record) (i : ℕ) (r : Record) → i < length t → record_at (with_record t (suc i) r) (suc i) ≡ r
unfolding record_at with_record
record_same t i r h = get_or-set_same t i r zero_record h

pub record_other : (t : List Record) (i j : ℕ) (r : Record) → j ≢ i → record_at (with_record t (suc i) r) (suc j) ≡ record_at t (suc j)
unfolding record_at with_record
record_other t i j r d = get_or-set_other t i j r zero_record d

pub table_long : (t : List Record) (k : ℕ) (r : Record) → length (with_record t k r) ≡ length t
unfolding with_record
table_long t zero r = refl
table_long t (suc i) r = length-set t i r

-- THE MEMORY, of s elements of n bytes.
module _ (n s : ℕ) (m : List ℕ) (long : length m ≡ s * n) where
  element_inside : (i : ℕ) → i < s → base_of n (suc i) + n ≤ length m
  element_inside i h = element_in_lem n (suc i) s (length m) (suc-le-suc zero-le) h (omega arith)

  pub element_long : (i : ℕ) → i < s → length (element_of n (suc i) m) ≡ n
  element_long i h = element_length n (suc i) m (element_inside i h)

  module _ (i : ℕ) (inside : i < s) (e : List ℕ) (fits : length e ≡ n) where
    there : base_of n (suc i) + length e ≤ length m
    there = omega (arith, element_inside i inside)

    pub memory_long : length (splice m (base_of n (suc i)) e) ≡ length m
    memory_long = splice-length m e (base_of n (suc i)) there

    pub element_same : element_of n (suc i) (splice m (base_of n (suc i)) e) ≡ e
    unfolding element_of
    element_same = ap (λ (l : ℕ). part (splice m (base_of n (suc i)) e) (base_of n (suc i)) l) (sym fits) ∙ part_same m e (base_of n (suc i)) there

    pub element_other : (j : ℕ) → j ≢ i → element_of n (suc j) (splice m (base_of n (suc i)) e) ≡ element_of n (suc j) m
    unfolding element_of
    element_other j d =
        elim (dec_lt j i) [
          | yes h ↦ part_before m e (base_of n (suc i)) there (base_of n (suc j)) n (apart j i h)
          | no h ↦ part_after m e (base_of n (suc i)) there (base_of n (suc j)) n (omega (arith, apart i j (omega arith)))
        ]
      where
        apart : (x y : ℕ) → x < y → base_of n (suc x) + n ≤ base_of n (suc y)
        apart x y h = base_next n (suc x) (suc y) (suc-le-suc zero-le) (suc-le-suc h)

-- two memories with the same elements are one
module _ (n s : ℕ) (m l : List ℕ) (long : length m ≡ s * n) (long' : length l ≡ s * n)
    (same : (i : ℕ) → i < s → element_of n (suc i) m ≡ element_of n (suc i) l) where
  here : (i : ℕ) → i < s → take n (drop (i * n) m) ≡ take n (drop (i * n) l)
  unfolding element_of part
  here i h = let e : suc i - 1 ≡ i = omega arith in rw e at (same i h)

  same_front : (i : ℕ) → i ≤ s → take (i * n) m ≡ take (i * n) l
  same_front zero h = let e : 0 * n ≡ 0 = omega arith in rw e
  same_front (suc i) h =
      let e : suc i * n ≡ i * n + n = omega arith in
      rw (e, take-add (i * n) n m, take-add (i * n) n l, same_front i (omega arith)) (ap (λ x. take (i * n) l ++ x) (here i h))

  pub same_memory : m ≡ l
  same_memory =
      sym (take_all (s * n) m (omega arith)) ∙ same_front s (omega arith) ∙ take_all (s * n) l (omega arith)

-- THE SIZES.
pub record Sizes (s n len count : ℕ) : Type 0 where
  pub least : 8 ≤ n
  pub whole : len ≡ s * n
  pub counted : count ≡ s

pub sizes_in : (s n len count : ℕ) → sizes_b s n len count ≡ true → Sizes s n len count
unfolding sizes_b
sizes_in s n len count h =
    let a = and_both (leb 1 s) (leb s 255 && (leb 8 n && (leb n 65540 && (eqb len (s * n) && eqb count s)))) h in
    let b = and_both (leb s 255) (leb 8 n && (leb n 65540 && (eqb len (s * n) && eqb count s))) a.1 in
    let c = and_both (leb 8 n) (leb n 65540 && (eqb len (s * n) && eqb count s)) b.1 in
    let d = and_both (leb n 65540) (eqb len (s * n) && eqb count s) c.1 in
    let e = and_both (eqb len (s * n)) (eqb count s) d.1 in
    record { least = leb-true 8 n c.0; whole = eqb-true len (s * n) e.0; counted = eqb-true count s e.1 }

-- ONE TURN PUT BACK in an open slot: what stands in that slot, and in every other.
module _ (g : Group) (i : ℕ) (t : Turn) where
  pub record Put (h : Group) : Type 0 where
    pub put_S : h.S ≡ g.S
    pub put_N : h.N ≡ g.N
    pub put_links : links_of h ≡ links_of g
    pub put_memory : length h.memory ≡ length g.memory
    pub put_table : length h.table ≡ length g.table
    pub this_record : record_of_all h (suc i) ≡ t.after
    pub this_element : element_in h (suc i) ≡ t.element
    pub other_record : (j : ℕ) → j ≢ i → record_of_all h (suc j) ≡ record_of_all g (suc j)
    pub other_element : (j : ℕ) → j ≢ i → element_in h (suc j) ≡ element_in g (suc j)

  pub put : length g.memory ≡ g.S * g.N → i < g.S → i < length g.table → length t.element ≡ g.N → Put (put_turn g (suc i) t).group
  unfolding put_turn
  put whole inside there fits =
      record {
        put_S = refl;
        put_N = refl;
        put_links = refl;
        put_memory = memory_long g.N g.S g.memory whole i inside t.element fits;
        put_table = table_long g.table (suc i) t.after;
        this_record = record_same g.table i t.after there;
        this_element = element_same g.N g.S g.memory whole i inside t.element fits;
        other_record = λ j d. record_other g.table i j t.after d;
        other_element = λ j d. element_other g.N g.S g.memory whole i inside t.element fits j d;
      }

-- Sizes, slots, links and the search by token: what each definition gives. Assumes nothing.
use Prim.Native.Nat.{ℕ, zero, suc, ◌-◌, ◌*◌, ◌≤◌, ◌<◌}
use mathlib.Core.Path.{◌≡◌, refl, sym, ap, ◌∙◌}
use mathlib.Core.Bool.{Bool, true, false, ◌&&◌, not, cond}
use mathlib.Core.List.{List, [], ◌∷◌}
use native.Mathlib.Omega.{arith}
use lib.Dec.{leb, eqb}
use lib.ListN.{length, get_or, set, get_or-eq_default, length-set}
use lib.Seq.{get_or-set_same, get_or-set_other, set-get_or, set_out}
use mir.Val.{Val}
use denote.Laws.{Is}
use borrow.Author.Tests.{le-leb, leb-true, eqb-true, eq-eqb, ne_eqb}
use Rattle.gauge.specs.declared.Gauge.{Gauge}
use Rattle.gauge.specs.Gauge.{cleared_of}
use Rattle.conn_record.specs.declared.Record.{Record}
use Rattle.conn_record.specs.Connection.{least_size, most_size, zero_record}
use Rattle.conn_record.proofs.Laws.{and_left, and_right, holds}
use Rattle.group_table.specs.declared.Links.{Links}
use Rattle.group_table.specs.Table.{most_slots, sizes_b, slot_b, record_at, open_b, active_b, gauge_at, holds_b, or_later, lowest, find_from, holder_in, with_record, with_link, with_gauge, found_of_all}
use Rattle.group_table.specs.contracts.Links.{the_row}

-- THE ARRAYS' LENGTHS, which a value of the type has
pub links_length : (l : Links) (vs : List Val) (is : Is the_row l vs) → length l.active ≡ 4
links_length l vs is = is.1.1.0.1.0.1

pub gauges_length : (l : Links) (vs : List Val) (is : Is the_row l vs) → length l.gauges ≡ 4
gauges_length l vs is = is.1.1.1.0.1.0.1

-- SIZES AND SLOTS: what a test that holds tells
pub record Sizes (s n len count : ℕ) : Type 0 where
  pub s_least : 1 ≤ s
  pub s_most : s ≤ most_slots
  pub n_least : least_size ≤ n
  pub n_most : n ≤ most_size
  pub len_is : len ≡ s * n
  pub count_is : count ≡ s

module _ (s : ℕ) where
  pub sizes_facts : (n len count : ℕ) → sizes_b s n len count ≡ true → Sizes s n len count
  unfolding sizes_b
  sizes_facts n len count e =
      let h = holds (leb 1 s ∷ leb s most_slots ∷ leb least_size n ∷ leb n most_size ∷ eqb len (s * n) ∷ eqb count s ∷ []) e in
      record {
        s_least = leb-true 1 s (h 0);
        s_most = leb-true s most_slots (h 1);
        n_least = leb-true least_size n (h 2);
        n_most = leb-true n most_size (h 3);
        len_is = eqb-true len (s * n) (h 4);
        count_is = eqb-true count s (h 5);
      }

  pub slot_facts : (k : ℕ) → slot_b s k ≡ true → (1 ≤ k) × (k ≤ s)
  unfolding slot_b
  slot_facts k e = (leb-true 1 k (and_left (leb 1 k) (leb k s) e), leb-true k s (and_right (leb 1 k) (leb k s) e))

  pub slot_is : (k : ℕ) → 1 ≤ k → k ≤ s → slot_b s k ≡ true
  unfolding slot_b
  slot_is k h l = simp (le-leb 1 k h, le-leb k s l)

  pub open_facts : (t : List Record) (k : ℕ) → open_b s t k ≡ true → (slot_b s k ≡ true) × ((record_at t k).id.opened ≡ true)
  unfolding open_b
  open_facts t k e = (and_left (slot_b s k) (record_at t k).id.opened e, and_right (slot_b s k) (record_at t k).id.opened e)

-- refusals 1 and 2 stand first, whatever follows
pub two_passed : (a b : Bool) (x : ℕ) → cond (not a) 1 (cond (not b) 2 x) ≡ 0 → (a ≡ true) × (b ≡ true)
two_passed true true x e = (refl, refl)
two_passed true false x e = absurd (omega arith)
two_passed false b x e = absurd (omega arith)

-- the tests, of any table of that many records
module _ (s n len : ℕ) {count : ℕ} (t : List Record) (long : length t ≡ count) where
  pub sized_in : {b : Bool} → b ≡ sizes_b s n len count → sizes_b s n len (length t) ≡ b
  sized_in e = ap (sizes_b s n len) long ∙ sym e

  pub found_in : (k : ℕ) (c : Record) {j : ℕ} → j ≡ found_of_all s n len count k c → j ≡ found_of_all s n len (length t) k c
  found_in k c f = f ∙ ap (λ (i : ℕ). found_of_all s n len i k c) (sym long)

-- what is known where a slot is found
module _ (s n len count k : ℕ) (c : Record) (j : ℕ) (f : j ≡ found_of_all s n len count k c) (z : j ≡ 0) where
  both : (sizes_b s n len count ≡ true) × (slot_b s k && c.id.opened ≡ true)
  unfolding found_of_all
  both = two_passed (sizes_b s n len count) (slot_b s k && c.id.opened) 0 (sym f ∙ z)

  pub found_sized : sizes_b s n len count ≡ true
  found_sized = both.0

  pub found_slot : slot_b s k ≡ true
  found_slot = and_left (slot_b s k) c.id.opened both.1

  pub found_open : c.id.opened ≡ true
  found_open = and_right (slot_b s k) c.id.opened both.1

-- SLOTS AND LINKS, as the code counts them

record_zero : (t : List Record) → record_at t zero ≡ zero_record
unfolding record_at
record_zero t = refl

record_next : (t : List Record) (i : ℕ) → record_at t (suc i) ≡ get_or t i zero_record
unfolding record_at
record_next t i = refl

record_of : (t : List Record) (k : ℕ) → 1 ≤ k → record_at t k ≡ get_or t (k - 1) zero_record
record_of t k h =
    let e : k ≡ suc (k - 1) = omega arith in
    ap (record_at t) e ∙ record_next t (k - 1)

module _ (t : List Record) where
  pub record_suc : (i : ℕ) → record_at t (suc i) ≡ get_or t i zero_record
  record_suc i = record_next t i

  pub record_low : (k : ℕ) → k < 1 → record_at t k ≡ zero_record
  unfolding record_at
  record_low k h = let e : k ≡ 0 = omega arith in rw e

  pub record_in : (k : ℕ) → 1 ≤ k → record_at t k ≡ get_or t (k - 1) zero_record
  record_in k h = record_of t k h

  pub record_out : (k : ℕ) → length t < k → record_at t k ≡ zero_record
  record_out k h = record_in k (omega arith) ∙ get_or-eq_default t zero_record (omega arith)

  pub with_suc : (i : ℕ) (c : Record) → with_record t (suc i) c ≡ set t i c
  unfolding with_record
  with_suc i c = refl

  pub with_in : (k : ℕ) (c : Record) → 1 ≤ k → with_record t k c ≡ set t (k - 1) c
  with_in k c h =
      let e : k ≡ suc (k - 1) = omega arith in
      ap (λ (j : ℕ). with_record t j c) e ∙ with_suc (k - 1) c

  pub with_low : (k : ℕ) (c : Record) → k < 1 → with_record t k c ≡ t
  unfolding with_record
  with_low k c h = let e : k ≡ 0 = omega arith in rw e

  pub with_out : (k : ℕ) (c : Record) → length t < k → with_record t k c ≡ t
  with_out k c h = with_in k c (omega arith) ∙ set_out t (k - 1) c (omega arith)

  -- a record put into a slot of the table is there, and nowhere else
  pub record_set_same : (k : ℕ) (c : Record) → 1 ≤ k → k ≤ length t → record_at (with_record t k c) k ≡ c
  record_set_same k c h l =
      ap (λ (u : List Record). record_at u k) (with_in k c h)
      ∙ record_of (set t (k - 1) c) k h
      ∙ get_or-set_same t (k - 1) c zero_record (omega arith)

  pub record_set_other : (k j : ℕ) (c : Record) → (j ≡ k → ⊥) → record_at (with_record t k c) j ≡ record_at t j
  record_set_other zero j c h = ap (λ (u : List Record). record_at u j) (with_low zero c (omega arith))
  record_set_other (suc i) zero c h = record_zero (with_record t (suc i) c) ∙ sym (record_zero t)
  record_set_other (suc i) (suc j) c h =
      ap (λ (u : List Record). record_at u (suc j)) (with_suc i c)
      ∙ record_next (set t i c) j
      ∙ get_or-set_other t i j c zero_record (λ e. h (ap suc e))
      ∙ sym (record_next t j)

  -- the record that the slot has, put back
  pub record_kept : (k : ℕ) → with_record t k (record_at t k) ≡ t
  unfolding with_record record_at
  record_kept zero = refl
  record_kept (suc i) = set-get_or t i zero_record

  pub with_length : (k : ℕ) (c : Record) → length (with_record t k c) ≡ length t
  with_length zero c = ap length (with_low zero c (omega arith))
  with_length (suc i) c = ap length (with_suc i c) ∙ length-set t i c

-- THE GAUGES
-- within a list, what stands beyond it does not matter
any_beyond : (l : List Gauge) (i : ℕ) (d e : Gauge) → i < length l → get_or l i d ≡ get_or l i e
any_beyond [] i d e h = absurd (omega arith)
any_beyond (q ∷ l) zero d e h = refl
any_beyond (q ∷ l) (suc i) d e h = any_beyond l i d e (omega arith)

module _ (l : List Gauge) where
  pub gauge_low : (k : ℕ) → k < 1 → gauge_at l k ≡ cleared_of
  unfolding gauge_at
  gauge_low k h = let e : k ≡ 0 = omega arith in rw e

  pub gauge_suc : (i : ℕ) → gauge_at l (suc i) ≡ get_or l i cleared_of
  unfolding gauge_at
  gauge_suc i = refl

  gauge_of : (k : ℕ) → 1 ≤ k → gauge_at l k ≡ get_or l (k - 1) cleared_of
  gauge_of k h =
      let e : k ≡ suc (k - 1) = omega arith in
      ap (gauge_at l) e ∙ gauge_suc (k - 1)

  pub gauge_in : (k : ℕ) (d : Gauge) → 1 ≤ k → k ≤ length l → gauge_at l k ≡ get_or l (k - 1) d
  gauge_in k d h g = gauge_of k h ∙ any_beyond l (k - 1) cleared_of d (omega arith)

  pub gauge_out : (k : ℕ) → length l < k → gauge_at l k ≡ cleared_of
  gauge_out k h = gauge_of k (omega arith) ∙ get_or-eq_default l cleared_of (omega arith)

  pub with_gauge_low : (k : ℕ) (q : Gauge) → k < 1 → with_gauge l k q ≡ l
  unfolding with_gauge
  with_gauge_low k q h = let e : k ≡ 0 = omega arith in rw e

  pub with_gauge_suc : (i : ℕ) (q : Gauge) → with_gauge l (suc i) q ≡ set l i q
  unfolding with_gauge
  with_gauge_suc i q = refl

  pub with_gauge_in : (k : ℕ) (q : Gauge) → 1 ≤ k → with_gauge l k q ≡ set l (k - 1) q
  with_gauge_in k q h =
      let e : k ≡ suc (k - 1) = omega arith in
      ap (λ (j : ℕ). with_gauge l j q) e ∙ with_gauge_suc (k - 1) q

  pub with_gauge_out : (k : ℕ) (q : Gauge) → length l < k → with_gauge l k q ≡ l
  with_gauge_out k q h = with_gauge_in k q (omega arith) ∙ set_out l (k - 1) q (omega arith)

  pub with_gauge_length : (k : ℕ) (q : Gauge) → length (with_gauge l k q) ≡ length l
  with_gauge_length zero q = ap length (with_gauge_low zero q (omega arith))
  with_gauge_length (suc i) q = ap length (with_gauge_suc i q) ∙ length-set l i q

-- a gauge put at a link is there, and nowhere else
pub gauge_set_same : (l : List Gauge) (k : ℕ) (q : Gauge) → 1 ≤ k → k ≤ length l → gauge_at (with_gauge l k q) k ≡ q
unfolding gauge_at with_gauge
gauge_set_same l zero q h g = absurd (omega arith)
gauge_set_same l (suc i) q h g = get_or-set_same l i q cleared_of (omega arith)

pub gauge_set_other : (l : List Gauge) (k j : ℕ) (q : Gauge) → (j ≡ k → ⊥) → gauge_at (with_gauge l k q) j ≡ gauge_at l j
unfolding gauge_at with_gauge
gauge_set_other l zero j q h = refl
gauge_set_other l (suc i) zero q h = refl
gauge_set_other l (suc i) (suc j) q h = get_or-set_other l i j q cleared_of (λ e. h (ap suc e))

-- a cleared one is there even beyond them
pub gauge_cleared : (l : List Gauge) (k : ℕ) → gauge_at (with_gauge l k cleared_of) k ≡ cleared_of
unfolding gauge_at with_gauge
gauge_cleared l zero = refl
gauge_cleared [] (suc i) = refl
gauge_cleared (q ∷ l) (suc zero) = refl
gauge_cleared (q ∷ l) (suc (suc i)) = gauge_cleared l (suc i)

module _ (l : List Bool) where
  pub link_low : (k : ℕ) → k < 1 → active_b l k ≡ false
  unfolding active_b
  link_low k h = let e : k ≡ 0 = omega arith in rw e

  pub link_suc : (i : ℕ) → active_b l (suc i) ≡ get_or l i false
  unfolding active_b
  link_suc i = refl

  pub link_in_lem : (k : ℕ) → 1 ≤ k → active_b l k ≡ get_or l (k - 1) false
  link_in_lem k h =
      let e : k ≡ suc (k - 1) = omega arith in
      ap (active_b l) e ∙ link_suc (k - 1)

  pub link_out : (k : ℕ) → length l < k → active_b l k ≡ false
  link_out k h = link_in_lem k (omega arith) ∙ get_or-eq_default l false (omega arith)

  pub with_link_low : (k : ℕ) (up : Bool) → k < 1 → with_link l k up ≡ l
  unfolding with_link
  with_link_low k up h = let e : k ≡ 0 = omega arith in rw e

  pub with_link_suc : (i : ℕ) (up : Bool) → with_link l (suc i) up ≡ set l i up
  unfolding with_link
  with_link_suc i up = refl

  pub with_link_in : (k : ℕ) (up : Bool) → 1 ≤ k → with_link l k up ≡ set l (k - 1) up
  with_link_in k up h =
      let e : k ≡ suc (k - 1) = omega arith in
      ap (λ (j : ℕ). with_link l j up) e ∙ with_link_suc (k - 1) up

  pub with_link_out : (k : ℕ) (up : Bool) → length l < k → with_link l k up ≡ l
  with_link_out k up h = with_link_in k up (omega arith) ∙ set_out l (k - 1) up (omega arith)

-- THE SEARCH by token: none for the token 0
module _ (t : List Record) (token : ℕ) where
  pub holder_none : token ≡ 0 → holder_in t token ≡ 0
  unfolding holder_in
  holder_none h = simp (eq-eqb token 0 h)

  pub holder_some : (token ≡ 0 → ⊥) → holder_in t token ≡ find_from t token (length t)
  unfolding holder_in
  holder_some h = simp (ne_eqb token 0 h)

-- what a search finds: a slot that passes, and no lower one; and that it finds none
module _ (q : Record → Bool) where
  pub record Lowest (s : ℕ) (t : List Record) (i : ℕ) : Type 0 where
    pub below : i < s
    pub inside : i < length t
    pub passes : q (get_or t i zero_record) ≡ true
    pub first : (j : ℕ) → j < i → q (get_or t j zero_record) ≡ false

  pub lowest_some : (s : ℕ) (t : List Record) (i : ℕ) → lowest q s t ≡ suc i → Lowest s t i
  unfolding lowest
  lowest_some zero t i e = absurd (omega arith)
  lowest_some (suc s) [] i e = absurd (omega arith)
  lowest_some (suc s) (c ∷ t) i e = go (q c) refl (lowest q s t) refl (λ k f. lowest_some s t k f) e
    where
      before : (k : ℕ) → q c ≡ false → Lowest s t k → i ≡ suc k → (j : ℕ) → j < i → q (get_or (c ∷ t) j zero_record) ≡ false
      before k p r z zero h = p
      before k p r z (suc j) h = r.first j (omega arith)

      go : (b : Bool) → q c ≡ b → (k : ℕ) → lowest q s t ≡ k → ((k : ℕ) → lowest q s t ≡ suc k → Lowest s t k)
          → or_later b k ≡ suc i → Lowest (suc s) (c ∷ t) i
      go true p k f more g =
          let z : i ≡ 0 = omega arith in
          record {
            below = omega arith;
            inside = omega arith;
            passes = ap (λ (j : ℕ). q (get_or (c ∷ t) j zero_record)) z ∙ p;
            first = λ j h. absurd (omega arith);
          }
      go false p zero f more g = absurd (omega arith)
      go false p (suc k) f more g =
          let z : i ≡ suc k = omega arith in
          let r = more k f in
          record {
            below = omega arith;
            inside = omega arith;
            passes = ap (λ (j : ℕ). q (get_or (c ∷ t) j zero_record)) z ∙ r.passes;
            first = before k p r z;
          }

  pub lowest_none : (s : ℕ) (t : List Record) → lowest q s t ≡ 0 → (j : ℕ) → j < s → j < length t → q (get_or t j zero_record) ≡ false
  unfolding lowest
  lowest_none zero t e j h l = absurd (omega arith)
  lowest_none (suc s) [] e j h l = absurd (omega arith)
  lowest_none (suc s) (c ∷ t) e j h l = go (q c) refl (lowest q s t) (λ f i. lowest_none s t f i) e j h l
    where
      go : (b : Bool) → q c ≡ b → (k : ℕ) → (k ≡ 0 → (i : ℕ) → i < s → i < length t → q (get_or t i zero_record) ≡ false)
          → or_later b k ≡ 0 → (i : ℕ) → i < suc s → i < suc (length t) → q (get_or (c ∷ t) i zero_record) ≡ false
      go true p k more g i h l = absurd (omega arith)
      go false p zero more g zero h l = p
      go false p zero more g (suc i) h l = more refl i (omega arith) (omega arith)
      go false p (suc k) more g i h l = absurd (omega arith)

-- the search by token
module _ (t : List Record) (token s : ℕ) where
  pub record Holder (k : ℕ) : Type 0 where
    pub slot : slot_b s k ≡ true
    pub inside : k ≤ length t
    pub holds_it : holds_b token (record_at t k) ≡ true
    pub no_lower : (j : ℕ) → 1 ≤ j → j < k → holds_b token (record_at t j) ≡ false

  pub find_some : (i : ℕ) → find_from t token s ≡ suc i → Holder (suc i)
  unfolding find_from
  find_some i e =
      let f = lowest_some (holds_b token) s t i e in
      record {
        slot = slot_is s (suc i) (omega arith) (omega (arith, f.below));
        inside = omega (arith, f.inside);
        holds_it = ap (holds_b token) (record_suc t i) ∙ f.passes;
        no_lower = λ j h l. ap (holds_b token) (record_in t j h) ∙ f.first (j - 1) (omega arith);
      }

  pub find_slot : (k : ℕ) → k ≡ find_from t token s → (k ≡ 0 → ⊥) → Holder k
  find_slot zero e h = absurd (h refl)
  find_slot (suc i) e h = find_some i (sym e)

  pub find_none : find_from t token s ≡ 0 → (k : ℕ) → slot_b s k ≡ true → k ≤ length t → holds_b token (record_at t k) ≡ false
  unfolding find_from
  find_none e k h l =
      let f = slot_facts s k h in
      ap (holds_b token) (record_in t k f.0) ∙ lowest_none (holds_b token) s t e (k - 1) (omega arith) (omega arith)

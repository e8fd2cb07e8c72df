-- The lent table, one slot after the other: what is left of it, and of the buffer. Assumes nothing.
use Prim.Native.Nat.{ℕ, zero, suc, ◌+◌, ◌-◌, ◌≤◌, ◌<◌}
use mathlib.Core.Path.{◌≡◌, refl, sym, ap, ◌∙◌}
use mathlib.Core.Bool.{Bool, false, cond}
use mathlib.Core.List.{List, [], ◌∷◌}
use native.Mathlib.Nat.{not-suc-le-zero, le_of_suc-le-suc}
use native.Mathlib.Numerals.{add-one}
use native.Mathlib.Omega.{arith}
use lib.ListN.{length, get_or, set, drop}
use lib.Seq.{drop-cons, drop-length}
use Rattle.conn_record.specs.declared.Record.{Record}
use Rattle.conn_record.specs.Connection.{zero_record}
use Rattle.group_table.specs.Table.{record_at, with_record}
use Rattle.group_table.proofs.Laws.{record_in, with_in}
use Rattle.link_failover.specs.declared.Plan.{Plan}
use Rattle.link_failover.specs.Failover.{moves_b, link_to, moved_of, moved_all, Told, standing, told_if, told_by, told_from, told_all, some_b}
use Rattle.link_failover.proofs.Still.{still_moved, still_told}

-- ONE SLOT
module _ (t : List Record) (slot n : ℕ) (p : Plan) (b : List ℕ) (at : ℕ) where
  abbrev pub Turned : Record → List Record → ℕ → List ℕ → Type 0
  Turned c u r d =
      (u ≡ with_record t slot (moved_of n p c)) × ((r ≡ (told_by n p c (standing at b)).at) × (d ≡ (told_by n p c (standing at b)).buffer))

  pub turn_returns : (c : Record) → c ≡ record_at t slot → (goes : Bool) → goes ≡ moves_b n p c
      → (c' : Record) → c' ≡ cond goes (link_to c p.target) c → (r₄ : Unit {0}) → (u : List Record) → u ≡ with_record t slot c'
      → (r : ℕ) → (d : List ℕ) → (r ≡ (told_if goes c (standing at b)).at) × (d ≡ (told_if goes c (standing at b)).buffer) → Turned (record_at t slot) u r d
  unfolding moved_of told_by
  turn_returns c e goes m c' f _ u h r d g =
      let k : Turned c u r d = rw (← m) (h ∙ ap (with_record t slot) f, g) in
      rw (← e) k

-- THE LOOP. The table with its first i records moved
module _ (n : ℕ) (p : Plan) where
  abbrev upto : ℕ → List Record → List Record
  upto zero t = t
  upto (suc i) [] = []
  upto (suc i) (c ∷ t) = moved_of n p c ∷ upto i t

  upto_here : (i : ℕ) (t : List Record) → get_or (upto i t) i zero_record ≡ get_or t i zero_record
  upto_here zero t = refl
  upto_here (suc i) [] = refl
  upto_here (suc i) (c ∷ t) = upto_here i t

  upto_next : (i : ℕ) (t : List Record) → i < length t → set (upto i t) i (moved_of n p (get_or t i zero_record)) ≡ upto (suc i) t
  upto_next zero [] l = absurd (not-suc-le-zero l)
  upto_next zero (c ∷ t) l = refl
  upto_next (suc i) [] l = absurd (not-suc-le-zero l)
  upto_next (suc i) (c ∷ t) l = ap (λ (u : List Record). moved_of n p c ∷ u) (upto_next i t (le_of_suc-le-suc l))

  upto_all : (t : List Record) → upto (length t) t ≡ moved_all n p t
  unfolding moved_all
  upto_all [] = refl
  upto_all (c ∷ t) = ap (λ (u : List Record). moved_of n p c ∷ u) (upto_all t)

  -- what is told from the rest of the table on
  told_next : (t : List Record) (i : ℕ) (s : Told) → i < length t
      → told_from n p (drop i t) s ≡ told_from n p (drop (i + 1) t) (told_by n p (get_or t i zero_record) s)
  unfolding told_from
  told_next t i s l = rw (drop-cons t i zero_record l, add-one i)

  told_end : (t : List Record) (i : ℕ) (s : Told) → i ≡ length t → told_from n p (drop i t) s ≡ s
  unfolding told_from
  told_end t i s e = rw (e, drop-length t)

-- AT THE HEAD OF A TURN: t₀ and b₀ are the table and the buffer at first
pub record move_each_Stands (t₀ : List Record) (n : ℕ) (p : Plan) (b₀ : List ℕ) (i at : ℕ) (t : List Record) (b : List ℕ) : Type 0 where
  pub within : i ≤ length t₀
  pub moved : t ≡ upto n p i t₀
  pub told : told_from n p (drop i t₀) (standing at b) ≡ told_all n p t₀ b₀

module _ (t₀ : List Record) (n : ℕ) (p : Plan) (b₀ : List ℕ) where
  module _ (i at : ℕ) (t : List Record) (b : List ℕ) (s : move_each_Stands t₀ n p b₀ i at t b) where
    pub move_each_turn : i < length t₀ → (r : ℕ) (u : List Record) (d : List ℕ) → Turned t (i + 1) n p b at (record_at t (i + 1)) u r d
        → move_each_Stands t₀ n p b₀ (i + 1) r u d
    move_each_turn h r u d e =
        let j : i + 1 - 1 ≡ i = omega arith in
        let c : record_at t (i + 1) ≡ get_or t₀ i zero_record =
        record_in t (i + 1) (omega arith) ∙ ap (λ (k : ℕ). get_or t k zero_record) j ∙ ap (λ (x : List Record). get_or x i zero_record) s.moved ∙ upto_here n p i t₀ in
        let w : with_record t (i + 1) (moved_of n p (record_at t (i + 1))) ≡ upto n p (suc i) t₀ =
        ap (λ (x : Record). with_record t (i + 1) (moved_of n p x)) c
        ∙ with_in t (i + 1) (moved_of n p (get_or t₀ i zero_record)) (omega arith)
        ∙ ap (λ (k : ℕ). set t k (moved_of n p (get_or t₀ i zero_record))) j
        ∙ ap (λ (x : List Record). set x i (moved_of n p (get_or t₀ i zero_record))) s.moved
        ∙ upto_next n p i t₀ h in
        let z : standing r d ≡ told_by n p (get_or t₀ i zero_record) (standing at b) =
        (λ k. standing (e.1.0 k) (e.1.1 k)) ∙ ap (λ (x : Record). told_by n p x (standing at b)) c in
        record {
          within = omega (arith, h);
          moved = e.0 ∙ w ∙ ap (λ (k : ℕ). upto n p k t₀) (sym (add-one i));
          told = ap (told_from n p (drop (i + 1) t₀)) z ∙ sym (told_next n p t₀ i (standing at b) h) ∙ s.told;
        }

    pub move_each_returns : length t₀ ≤ i
        → (t ≡ moved_all n p t₀) × ((at ≡ (told_all n p t₀ b₀).at) × (b ≡ (told_all n p t₀ b₀).buffer))
    move_each_returns h =
        let e : i ≡ length t₀ = omega (arith, s.within, h) in
        let z : standing at b ≡ told_all n p t₀ b₀ = sym (told_end n p t₀ i (standing at b) e) ∙ s.told in
        (s.moved ∙ ap (λ (k : ℕ). upto n p k t₀) e ∙ upto_all n p t₀, (ap Told.at z, ap Told.buffer z))

-- WHERE NOTHING CAN MOVE
module _ (t : List Record) (n : ℕ) (p : Plan) (b : List ℕ) (s : Bool) (e : s ≡ some_b p) where
  abbrev Moved : List Record → ℕ → List ℕ → Type 0
  Moved u r d = (u ≡ moved_all n p t) × ((r ≡ (told_all n p t b).at) × (d ≡ (told_all n p t b).buffer))

  pub move_all_returns_2 : s ≡ false → Moved t 0 b
  move_all_returns_2 h =
      let f = sym e ∙ h in
      let z = still_told p n t (standing 0 b) f in
      (still_moved p n t f, (ap Told.at z, ap Told.buffer z))

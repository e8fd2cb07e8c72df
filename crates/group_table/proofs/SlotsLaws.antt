-- The slots of a lent table: where a slot's record stands, and the search by token, as the code counts them. Assumes nothing.
use Prim.Native.Nat.{ℕ, zero, suc, ◌+◌, ◌-◌, ◌≤◌, ◌<◌}
use mathlib.Core.Path.{◌≡◌, refl, sym, ap, ◌∙◌}
use mathlib.Core.Bool.{Bool, true, false}
use mathlib.Core.List.{List}
use native.Mathlib.Numerals.{add-one}
use native.Mathlib.Omega.{arith}
use native.Mathlib.Decide.{dec_le}
use lib.ListN.{length, get_or, drop, set, get_or-eq_default}
use lib.Seq.{drop-cons, set_out}
use borrow.Author.Tests.{le-leb, lt-leb}
use Rattle.conn_record.specs.declared.Record.{Record}
use Rattle.conn_record.specs.Connection.{zero_record}
use Rattle.group_table.specs.Table.{index_of, record_at, holds_b, or_later, lowest, find_from, with_record}
use Rattle.group_table.proofs.Laws.{record_in, record_low, record_out, with_in, with_low, with_out}

-- WHERE A SLOT'S RECORD STANDS
index_in : (k n : ℕ) → 1 ≤ k → k ≤ n → index_of k n ≡ k - 1
unfolding index_of
index_in k n h l = simp (le-leb 1 k h, le-leb k n l)

index_low : (k n : ℕ) → k < 1 → index_of k n ≡ n
unfolding index_of
index_low k n h = simp (lt-leb 1 k h)

index_high : (k n : ℕ) → 1 ≤ k → n < k → index_of k n ≡ n
unfolding index_of
index_high k n h l = simp (le-leb 1 k h, lt-leb k n l)

module _ (t : List Record) (k : ℕ) where
  record_index : get_or t (index_of k (length t)) zero_record ≡ record_at t k
  record_index =
      elim (dec_le 1 k) [
        | yes h ↦
            elim (dec_le k (length t)) [
              | yes l ↦ ap (λ (i : ℕ). get_or t i zero_record) (index_in k (length t) h l) ∙ sym (record_in t k h)
              | no l ↦
                  ap (λ (i : ℕ). get_or t i zero_record) (index_high k (length t) h (omega arith))
                  ∙ get_or-eq_default t zero_record (omega arith) ∙ sym (record_out t k (omega arith))
            ]
        | no h ↦
            ap (λ (i : ℕ). get_or t i zero_record) (index_low k (length t) (omega arith))
            ∙ get_or-eq_default t zero_record (omega arith) ∙ sym (record_low t k (omega arith))
      ]

  with_index : (c : Record) → set t (index_of k (length t)) c ≡ with_record t k c
  with_index c =
      elim (dec_le 1 k) [
        | yes h ↦
            elim (dec_le k (length t)) [
              | yes l ↦ ap (λ (i : ℕ). set t i c) (index_in k (length t) h l) ∙ sym (with_in t k c h)
              | no l ↦
                  ap (λ (i : ℕ). set t i c) (index_high k (length t) h (omega arith))
                  ∙ set_out t (length t) c (omega arith) ∙ sym (with_out t k c (omega arith))
            ]
        | no h ↦
            ap (λ (i : ℕ). set t i c) (index_low k (length t) (omega arith))
            ∙ set_out t (length t) c (omega arith) ∙ sym (with_low t k c (omega arith))
      ]

  module _ (r : ℕ) (e : r ≡ index_of k (length t)) where
    pub record_at_returns : r < length t → get_or t r zero_record ≡ record_at t k
    record_at_returns h = ap (λ (i : ℕ). get_or t i zero_record) e ∙ record_index

    pub record_at_returns_2 : length t ≤ r → (c : Record) → c ≡ zero_record → c ≡ record_at t k
    record_at_returns_2 h c z =
        z ∙ sym (get_or-eq_default t zero_record h) ∙ ap (λ (i : ℕ). get_or t i zero_record) e ∙ record_index

  module _ (c : Record) (r : ℕ) (e : r ≡ index_of k (length t)) where
    pub put_record_returns : r < length t → set t r c ≡ with_record t k c
    put_record_returns h = ap (λ (i : ℕ). set t i c) e ∙ with_index c

    pub put_record_returns_2 : length t ≤ r → t ≡ with_record t k c
    put_record_returns_2 h = sym (set_out t r c h) ∙ ap (λ (i : ℕ). set t i c) e ∙ with_index c

-- THE SEARCH. A slot that the rest of a search counts, after i slots
abbrev pub after : ℕ → ℕ → ℕ
after i zero = 0
after i (suc k) = suc k + i

after_none : (k : ℕ) → after 0 k ≡ k
after_none zero = refl
after_none (suc k) = omega arith

after_later : (i k : ℕ) → after i (or_later false k) ≡ after (i + 1) k
after_later i zero = refl
after_later i (suc k) = omega arith

module _ (q : Record → Bool) where
  abbrev pub rest : List Record → ℕ → ℕ → ℕ
  rest t s i = after i (lowest q (s - i) (drop i t))

  module _ (t : List Record) (s : ℕ) where
    pub rest_all : rest t s 0 ≡ lowest q s t
    rest_all =
        let e : s - 0 ≡ s = omega arith in
        after_none (lowest q (s - 0) t) ∙ ap (λ (k : ℕ). lowest q k t) e

    module _ (i : ℕ) where
      turn : i < s → i < length t → lowest q (s - i) (drop i t) ≡ or_later (q (get_or t i zero_record)) (lowest q (s - (i + 1)) (drop (i + 1) t))
      unfolding lowest
      turn h k =
          let e : s - i ≡ suc (s - (i + 1)) = omega arith in
          rw (e, drop-cons t i zero_record k, add-one i)

      pub hit : i < s → i < length t → q (get_or t i zero_record) ≡ true → rest t s i ≡ i + 1
      hit h k e =
          ap (after i) (turn h k ∙ ap (λ (b : Bool). or_later b (lowest q (s - (i + 1)) (drop (i + 1) t))) e) ∙ (omega arith)

      pub miss : i < s → i < length t → q (get_or t i zero_record) ≡ false → rest t s i ≡ rest t s (i + 1)
      miss h k e =
          ap (after i) (turn h k ∙ ap (λ (b : Bool). or_later b (lowest q (s - (i + 1)) (drop (i + 1) t))) e)
          ∙ after_later i (lowest q (s - (i + 1)) (drop (i + 1) t))

      pub done : s ≤ i → rest t s i ≡ 0
      unfolding lowest
      done h = let e : s - i ≡ 0 = omega arith in rw e

-- where it begins
module _ (t : List Record) (token : ℕ) where
  pub begins : rest (holds_b token) t (length t) 0 ≡ find_from t token (length t)
  unfolding find_from
  begins = rest_all (holds_b token) t (length t)

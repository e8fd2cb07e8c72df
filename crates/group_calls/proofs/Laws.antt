-- Hear, from what its parts gave: of what it is given; and in any table that shows the record, the answer and the group that is left are what
-- the rules say. Assumes nothing.
use Prim.Native.Nat.{ℕ}
use mathlib.Core.Path.{◌≡◌, refl, sym, ap, ◌∙◌, subst}
use mathlib.Core.Bool.{Bool, true, false, cond}
use mathlib.Core.List.{List, []}
use native.Mathlib.Omega.{arith}
use lib.Dec.{eqb}
use lib.ListN.{length}
use borrow.Author.Tests.{eqb-true, eqb-false}
use Rattle.cdc.specs.declared.Message.{Message}
use Rattle.cdc.specs.declared.Decoded.{Decoded}
use Rattle.cdc.specs.declared.Decoded.TheVariants.{Good, Malformed}
use Rattle.cdc.specs.Cdc.{decode_of}
use Rattle.element.specs.Element.{element_of}
use Rattle.conn_record.specs.declared.Record.{Record}
use Rattle.conn_answer.specs.declared.Outcome.{Outcome}
use Rattle.conn_hear.specs.Hear.{hear_of}
use Rattle.group_table.specs.declared.Links.{Links}
use Rattle.group_table.specs.declared.Turned.{Turned}
use Rattle.group_table.specs.Table.{sizes_b, slot_b, record_at, find_from, holder_in, refused_by, kept_by_of, settled_by}
use Rattle.group_table.proofs.Laws.{sizes_facts, find_slot, holder_none, holder_some}
use Rattle.group_rules.specs.Rules.{Group, Call, Turn, group_of, turn_of, hear_turn, hear_at, hear_message, hear_does, holder_of, element_in, link_of}
use Rattle.group_rules.specs.Promises.{Shown, shown_by, keeps_all, shows_turn, active_for, hears_by, hear_record, InTable, Promise}
use Rattle.group_rules.proofs.Memory.{kept_memory}
use Rattle.group_rules.proofs.Settled.{shown, refused_in, turned_in}
use Rattle.group_calls.specs.Calls.{token_in, heard_by}

-- HEAR, of what it is given
module _ (s n : ℕ) (m : List ℕ) (count : ℕ) (ls : Links) (b : List ℕ) (k : ℕ) (c : Record) (a : Turned) where
  abbrev Shows : Type 0
  Shows = shown_by a [] m ≡ hear_record s n m count ls k c b

  hear_turn_lem : (w : Message) → hear_turn n (active_for ls c) c (element_of n k m) w
      ≡ turn_of (hear_of n (active_for ls c) c w) (element_of n k m) []
  unfolding hear_turn
  hear_turn_lem w = refl

  kept_shown : (j : ℕ) → a ≡ kept_by_of c (refused_by j ls) → shown_by a [] m ≡ keeps_all ls m c j []
  unfolding kept_by_of refused_by keeps_all
  kept_shown j p = ap (λ (x : Turned). shown_by x [] m) p

  pub unsized_shown : sizes_b s n (length m) count ≡ false → a ≡ kept_by_of c (refused_by 1 ls) → Shows
  unfolding hear_record
  unsized_shown y p = kept_shown 1 p ∙ (simp y)

  module _ (y : sizes_b s n (length m) count ≡ true) where
    record_is : hear_record s n m count ls k c b ≡ hears_by n ls m k c (decode_of b)
    unfolding hear_record
    record_is = simp y

    pub bad_shown : decode_of b ≡ Malformed → a ≡ kept_by_of c (refused_by 4 ls) → Shows
    bad_shown d p = kept_shown 4 p ∙ sym (record_is ∙ ap (hears_by n ls m k c) d)

    pub good_shown : (w : Message) → decode_of b ≡ Good w → a ≡ heard_by n ls k c w → Shows
    unfolding heard_by
    good_shown w d p = go (eqb k 0) p ∙ sym (record_is ∙ ap (hears_by n ls m k c) d)
      where
        turn : Turn
        turn = hear_turn n (active_for ls c) c (element_of n k m) w

        o : Outcome
        o = hear_of n (active_for ls c) c w

        go : (z : Bool) → a ≡ settled_by (cond z 5 0) ls c o → shown_by a [] m ≡ cond z (keeps_all ls m c 5 []) (shows_turn ls m turn)
        go true e = shown ls m c o 5 a e (element_of n k m) [] m turn m [] (λ z. absurd (omega (arith, z))) (λ h. (refl, refl))
        go false e = shown ls m c o 0 a e (element_of n k m) [] m turn m [] (λ z. (hear_turn_lem w, refl)) (λ h. absurd (h refl))

-- and in any table that shows the record
module _ (s n : ℕ) (t : List Record) (ls : Links) (m : List ℕ) (b : List ℕ) (k : ℕ) (hk : k ≡ holder_in t (token_in b)) where
  abbrev g : Group
  g = group_of s n t ls m

  abbrev Hears : Shown → Type 0
  Hears = InTable s n m t ls (Call.hear b) k

  module _ (y : sizes_b s n (length m) (length t) ≡ true) where
    hear_does_lem : hear_does g b ≡ hear_message g (decode_of b)
    unfolding hear_does
    hear_does_lem = simp y

    module _ (w : Message) (d : decode_of b ≡ Good w) where
      token_is_lem : token_in b ≡ w.token
      unfolding token_in
      token_is_lem = rw d

      -- the slot found is the rules' holder
      holder_is : holder_of g w.token ≡ k
      unfolding holder_in
      holder_is =
          ap (λ (i : ℕ). cond (eqb w.token 0) 0 (find_from t w.token i)) (sym (sizes_facts s n (length m) (length t) y).count_is)
          ∙ sym (hk ∙ ap (holder_in t) token_is_lem)

      is : hear_does g b ≡ hear_at g w k
      is = hear_does_lem ∙ ap (hear_message g) d ∙ ap (hear_at g w) holder_is

      slot_of : (k ≡ 0 → ⊥) → slot_b s k ≡ true
      slot_of h = go (eqb w.token 0) refl
        where
          go : (x : Bool) → eqb w.token 0 ≡ x → slot_b s k ≡ true
          go true x =
              absurd (h (hk ∙ ap (holder_in t) token_is_lem ∙ holder_none t w.token (eqb-true w.token 0 x)))
          go false x =
              (find_slot t w.token s k
              (hk ∙ ap (holder_in t) token_is_lem ∙ holder_some t w.token (eqb-false w.token 0 x)
              ∙ ap (find_from t w.token) (sizes_facts s n (length m) (length t) y).count_is) h).slot

      heard_in_lem : (z : Bool) → eqb k 0 ≡ z
          → Hears (cond z (keeps_all ls m (record_at t k) 5 []) (shows_turn ls m (hear_turn n (link_of g k) (record_at t k) (element_in g k) w)))
      unfolding hear_at hear_turn turn_of
      heard_in_lem true z = refused_in s n t ls m (Call.hear b) [] k 5 (is ∙ (simp z))
      heard_in_lem false z =
          turned_in s n t ls m (Call.hear b) k (hear_turn n (link_of g k) (record_at t k) (element_in g k) w) m (is ∙ (simp z))
          (sym (kept_memory s n m (length t) k y (slot_of (eqb-false k 0 z))))

    message_in_lem : (d : Decoded) → decode_of b ≡ d → Hears (hears_by n ls m k (record_at t k) d)
    message_in_lem (Good w) d = heard_in_lem w d (eqb k 0) refl
    message_in_lem Malformed d = refused_in s n t ls m (Call.hear b) [] k 4 (hear_does_lem ∙ ap (hear_message g) d)

  pub hear_in_table : (count : ℕ) → length t ≡ count → (c : Record) → c ≡ record_at t k → Hears (hear_record s n m count ls k c b)
  unfolding hear_record hear_does
  hear_in_table count long c hc =
      subst Hears (λ i. hear_record s n m (long i) ls k (sym hc i) b) (go (sizes_b s n (length m) (length t)) refl)
    where
      go : (z : Bool) → sizes_b s n (length m) (length t) ≡ z
          → Hears (cond z (hears_by n ls m k (record_at t k) (decode_of b)) (keeps_all ls m (record_at t k) 1 []))
      go true y = message_in_lem y (decode_of b) refl
      go false y = refused_in s n t ls m (Call.hear b) [] k 1 (simp y)

  module _ (c : Record) (hc : c ≡ record_at t k) (a : Turned) where
    hear_promised : shown_by a [] m ≡ hear_record s n m (length t) ls k c b → Promise s n m m t ls (Call.hear b) k a []
    hear_promised e = subst Hears (sym e) (hear_in_table (length t) refl c hc)

    pub hear_unsized : sizes_b s n (length m) (length t) ≡ false → a ≡ kept_by_of c (refused_by 1 ls) → Hears (shown_by a [] m)
    hear_unsized y p = hear_promised (unsized_shown s n m (length t) ls b k c a y p)

    module _ (y : sizes_b s n (length m) (length t) ≡ true) where
      pub hear_bad : decode_of b ≡ Malformed → a ≡ kept_by_of c (refused_by 4 ls) → Hears (shown_by a [] m)
      hear_bad d p = hear_promised (bad_shown s n m (length t) ls b k c a y d p)

      pub hear_good : (w : Message) → decode_of b ≡ Good w → a ≡ heard_by n ls k c w → Hears (shown_by a [] m)
      hear_good w d p = hear_promised (good_shown s n m (length t) ls b k c a y w d p)

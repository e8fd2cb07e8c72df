-- What the page's table of replies comes to, as nested tests. Assumes nothing.
use mathlib.Core.Path.{◌≡◌, ◌∙◌, refl, ap, sym}
use mathlib.Core.Bool.{Bool, true, false, ◌&&◌, ◌||◌, not, cond, false≢true}
use mathlib.Core.List.{List, [], ◌∷◌}
use Prim.Native.Nat.{ℕ}
use lib.Dec.{eqb}
use lib.ListN.{set}
use borrow.Author.Tests.{eqb-true}
use Rattle.link_message.specs.declared.Kind.{Kind}
use Rattle.link_message.specs.declared.Kind.TheVariants.{AddLink, DeleteLink, ConfirmRkey, ConfirmRkeyContinuation, DeleteRkey}
use Rattle.link_message.specs.Layouts.{kind_of}
use Rattle.link_message.specs.Names.Name.{Z, C, reason, mask}
use Rattle.link_exchange.specs.declared.Said.{Said}
use Rattle.link_calls.specs.Calls.{Named, unknown_link, replies, named, reply_values}
use Rattle.link_calls.specs.Calls.Named.{◌is◌}

and_left : (a b : Bool) → (a && b) ≡ true → a ≡ true
and_left true b e = refl
and_left false b e = e

and_right : (a b : Bool) → (a && b) ≡ true → b ≡ true
and_right true b e = e
and_right false b e = absurd (false≢true e)

-- one line: where it answers, what it names; else what the lines behind it name
row : (k : Kind) (r : List ℕ) (t : Bool) (ns rest : List Named) (x y : List ℕ) → (t ≡ true → named k ns r ≡ x) → named k rest r ≡ y
    → named k (cond t ns rest) r ≡ cond t x y
row k r true ns rest x y h e = h refl
row k r false ns rest x y h e = e

both : (s t : Bool) (x y : List ℕ) → cond s x (cond t x y) ≡ cond (s || t) x y
both true t x y = refl
both false t x y = refl

either_same : (k : Kind) (r : List ℕ) (t : Bool) → named k (cond t [] []) r ≡ r
unfolding named
either_same k r true = refl
either_same k r false = refl

module _ (m : Said) (f : ℕ) (down : Bool) (vs : List ℕ) where
  abbrev asks : ℕ → Bool
  asks k = not m.reply && eqb m.kind k

  abbrev add : Bool
  add = not m.client && asks 2

  abbrev asked : Bool
  asked = m.client && (not m.a && asks 4)

  abbrev delete : Bool
  delete = not m.client && (not m.a && asks 4)

  abbrev rkey : Bool
  rkey = asks 6 || asks 8

  abbrev r : List ℕ
  r = set vs 0 1

  abbrev k : Kind
  k = kind_of m.kind

  abbrev denied : ℕ
  denied = cond (eqb f 2) 1 0

  abbrev reason_of : ℕ
  reason_of = cond down unknown_link 0

  abbrev of_rkey : ℕ → List ℕ
  of_rkey d = cond (eqb m.kind 6) (set (set r 1 d) 2 d) (set r 1 d)

  kind_is : (n : ℕ) (K : Kind) → kind_of n ≡ K → asks n ≡ true → k ≡ K
  kind_is n K h e = ap kind_of (eqb-true m.kind n (and_right (not m.reply) _ e)) ∙ h

  named_as : (K : Kind) (ns : List Named) (x : List ℕ) → named K ns r ≡ x → k ≡ K → named k ns r ≡ x
  named_as K ns x h e = ap (λ (z : Kind). named z ns r) e ∙ h

  fate_is : (s : Bool) (n : ℕ) → (s && eqb f n) ≡ true → f ≡ n
  fate_is s n e = eqb-true f n (and_right s _ e)

  is_add : (add && eqb f 2) ≡ true → named k (Z is 1 ∷ reason is 2 ∷ []) r ≡ set (set r 1 1) 2 2
  unfolding kind_of named
  is_add e =
      named_as AddLink (Z is 1 ∷ reason is 2 ∷ []) (set (set r 1 1) 2 2) refl
      (kind_is 2 AddLink refl (and_right (not m.client) _ (and_left add _ e)))

  deletes : (down && (asked && eqb f 0)) ≡ true → named k (reason is unknown_link ∷ []) r ≡ set r 4 reason_of
  unfolding kind_of named
  deletes e =
      named_as DeleteLink (reason is unknown_link ∷ []) (set r 4 reason_of)
      (ap (λ (d : Bool). set r 4 (cond d unknown_link 0)) (sym (and_left down _ e)))
      (kind_is 4 DeleteLink refl (and_right (not m.a) _ (and_right m.client _ (and_left asked _ (and_right down _ e)))))

  by_link_lem : (d : Bool) → named DeleteLink (cond d (reason is unknown_link ∷ []) (reason is 0 ∷ [])) r ≡ set r 4 (cond d unknown_link 0)
  unfolding named
  by_link_lem true = refl
  by_link_lem false = refl

  deleted : (delete && eqb f 0) ≡ true → named k (cond down (reason is unknown_link ∷ []) (reason is 0 ∷ [])) r ≡ set r 4 reason_of
  unfolding kind_of
  deleted e =
      named_as DeleteLink _ _ (by_link_lem down)
      (kind_is 4 DeleteLink refl (and_right (not m.a) _ (and_right (not m.client) _ (and_left delete _ e))))

  -- 06 has C, 08 has none
  of_rkey_lem : (n : ℕ) → rkey ≡ true → named k (Z is n ∷ C is n ∷ []) r ≡ of_rkey n
  unfolding kind_of named
  of_rkey_lem n e = go (eqb m.kind 6) refl
    where
      not_6 : (a : Bool) (b : Bool) → b ≡ false → ((a && b) || asks 8) ≡ true → asks 8 ≡ true
      not_6 true b h s = ap (λ (z : Bool). z || asks 8) (sym h) ∙ s
      not_6 false b h s = s

      go : (s : Bool) → eqb m.kind 6 ≡ s → named k (Z is n ∷ C is n ∷ []) r ≡ cond s (set (set r 1 n) 2 n) (set r 1 n)
      go true h = named_as ConfirmRkey (Z is n ∷ C is n ∷ []) (set (set r 1 n) 2 n) refl (ap kind_of (eqb-true m.kind 6 h))
      go false h =
          named_as ConfirmRkeyContinuation (Z is n ∷ C is n ∷ []) (set r 1 n) refl
          (kind_is 8 ConfirmRkeyContinuation refl (not_6 (not m.reply) (eqb m.kind 6) h e))

  rkey_taken : (rkey && eqb f 0) ≡ true → named k (Z is 0 ∷ C is 0 ∷ []) r ≡ of_rkey denied
  rkey_taken e = of_rkey_lem 0 (and_left rkey _ e) ∙ ap (λ (n : ℕ). of_rkey (cond (eqb n 2) 1 0)) (sym (fate_is rkey 0 e))

  rkey_denied : (rkey && eqb f 2) ≡ true → named k (Z is 1 ∷ C is 1 ∷ []) r ≡ of_rkey denied
  rkey_denied e = of_rkey_lem 1 (and_left rkey _ e) ∙ ap (λ (n : ℕ). of_rkey (cond (eqb n 2) 1 0)) (sym (fate_is rkey 2 e))

  keys : (asks 9 && eqb f 0) ≡ true → named k (Z is 0 ∷ mask is 0 ∷ []) r ≡ set (set r 1 0) 3 0
  unfolding kind_of named
  keys e = named_as DeleteRkey (Z is 0 ∷ mask is 0 ∷ []) (set (set r 1 0) 3 0) refl (kind_is 9 DeleteRkey refl (and_left (asks 9) _ e))

  -- what the code comes to
  abbrev answered : List ℕ
  answered =
      cond (add && eqb f 2) (set (set r 1 1) 2 2)
      (cond (down && (asked && eqb f 0) || delete && eqb f 0) (set r 4 reason_of)
      (cond (rkey && eqb f 0 || rkey && eqb f 2) (of_rkey denied)
      (cond (asks 9 && eqb f 0) (set (set r 1 0) 3 0) r)))

  values_right : reply_values m f down vs ≡ answered
  unfolding reply_values replies named
  values_right =
      row k r (add && eqb f 2) _ _ _ _ is_add
      (row k r (down && (asked && eqb f 0)) _ _ _ _ deletes
      (row k r (delete && eqb f 0) _ _ _ _ deleted
      (row k r (rkey && eqb f 0) _ _ _ _ rkey_taken
      (row k r (rkey && eqb f 2) _ _ _ _ rkey_denied
      (row k r (asks 9 && eqb f 0) _ _ _ _ keys (either_same k r (asks 7 && eqb f 0))))
      ∙ both (rkey && eqb f 0) (rkey && eqb f 2) (of_rkey denied) _))
      ∙ both (down && (asked && eqb f 0)) (delete && eqb f 0) (set r 4 reason_of) _)

  -- a reply's values, from their parts
  pub values_parts : (d y : ℕ) (of at9 at6 at4 out : List ℕ) → d ≡ denied → y ≡ reason_of
      → of ≡ cond (eqb m.kind 6) (set (set r 1 d) 2 d) (set r 1 d)
      → at9 ≡ cond (asks 9 && eqb f 0) (set (set r 1 0) 3 0) r
      → at6 ≡ cond (rkey && eqb f 0 || rkey && eqb f 2) of at9
      → at4 ≡ cond (down && (asked && eqb f 0) || delete && eqb f 0) (set r 4 y) at6
      → out ≡ cond (add && eqb f 2) (set (set r 1 1) 2 2) at4
      → out ≡ reply_values m f down vs
  values_parts d y of at9 at6 at4 out ed ey eo e9 e6 e4 e =
      let same : out ≡ answered = simp (e, e4, e6, e9, eo, ey, ed) in same ∙ sym values_right

-- A call on a slot leaves every byte that is not data of its own element, and its answer depends on no other. Assumes nothing.
use mathlib.Core.Path.{◌≡◌, refl, sym, ap, ◌∙◌}
use mathlib.Core.Logic.{inl, inr}
use mathlib.Core.Bool.{cond, Bool, true, false, false≢true, ◌&&◌}
use mathlib.Core.List.{List, [], ◌∷◌, ◌++◌}
use Prim.Native.Nat.{ℕ, zero, suc, ◌+◌, ◌-◌, ◌*◌, ◌<◌, ◌≤◌}
use native.Mathlib.Omega.{arith}
use native.Mathlib.Decide.{dec_lt}
use lib.Dec.{leb, eqb}
use lib.ListN.{length, drop, get_or, get_elem?}
use lib.Seq.{get_or-take, get_or-drop}
use borrow.Author.Tests.{eqb-true}
use Rattle.element.specs.Element.{part, base_of, element_of, splice, intact_b, eye_catcher}
use Rattle.element.proofs.Others.{put_back, splice-length, splice_below, splice_in, splice_above}
use Rattle.element.proofs.Elements.{base_end, element_in_lem}
use Rattle.conn_record.proofs.Laws.{and_left, and_right}
use Rattle.conn_receive.proofs.Laws.{Placeable}
use Rattle.group_table.specs.Table.{slot_b, open_b}
use Rattle.group_rules.specs.Rules.{accepted, Group, Request, read, on, turn_of, request_turn, Done, answer, next, refuses, put_turn, record_of_all, element_in, link_of}
use Rattle.thm_order.proofs.Records.{long_by}
use Rattle.thm_order.proofs.Acts.{turned}
use Rattle.thm_order.proofs.Slots.{open_in, element_long}
use Rattle.thm_safety.specs.Statement.{accepted_b, changed_by, held_after, OpenAt, InData, OwnTouched, SameOwn, data_in}
use Rattle.thm_safety.proofs.Invariant.{no_slot_0, Sound, sizes}
use Rattle.thm_safety.proofs.Changed.{Changes, opens, places, stays, changes}
use Rattle.thm_refusals.proofs.Answers.{clash}
use Rattle.group_rules.proofs.Says.{says_accepted}
use Rattle.thm_safety.proofs.Held.{held_next}
use Rattle.thm_safety.proofs.OnSlot.{placed_inside, on_open, on_closed, on_answer}
use Rattle.thm_safety.proofs.Lists.{same_byte, splice_none}

-- TOUCHED
module _ (h : Group) (s : Sound h) (j : ℕ) (o : OpenAt h (suc j)) where
  abbrev e : List ℕ
  e = element_in h (suc j)

  abbrev base : ℕ
  base = base_of h.N (suc j)

  high : suc j ≤ h.S
  high = (open_in h.S h.table (suc j) o).high

  long : length e ≡ h.N
  long = element_long h.N h.S h.memory (sizes h s).whole j high

  inside : base + h.N ≤ length h.memory
  inside = element_in_lem h.N (suc j) h.S (length h.memory) (omega arith) high (omega (arith, (sizes h s).whole))

  -- the turn's element put back, where that has the first four bytes that it had
  module _ (f : List ℕ) (fits : length f ≡ h.N) (front : (i : ℕ) → i < 4 → get_or f i 0 ≡ get_or e i 0) where
    there : base + length f ≤ length h.memory
    there = omega (arith, inside)

    eye_byte : (x : ℕ) → base ≤ x → x < base + 4 → get_or (splice h.memory base f) x 0 ≡ get_or h.memory x 0
    unfolding element_of part
    eye_byte x l m =
        let i : base + (x - base) ≡ x = omega arith in
        ap (λ y. get_or (splice h.memory base f) y 0) (sym i)
        ∙ splice_in 0 h.memory f base there (x - base) (omega (arith, (sizes h s).least))
        ∙ front (x - base) (omega arith)
        ∙ get_or-take h.N (drop base h.memory) (x - base) 0 (omega (arith, (sizes h s).least))
        ∙ get_or-drop base h.memory (x - base) 0
        ∙ ap (λ y. get_or h.memory y 0) i

    put_byte : (x : ℕ) → (InData h (suc j) x → ⊥) → get_or (splice h.memory base f) x 0 ≡ get_or h.memory x 0
    put_byte x out = go (dec_lt x base) (dec_lt x (base + 4))
      where
        go : Dec (x < base) → Dec (x < base + 4) → get_or (splice h.memory base f) x 0 ≡ get_or h.memory x 0
        go (yes p) q = splice_below 0 h.memory f base there x p
        go (no p) (yes q) = eye_byte x (omega arith) q
        go (no p) (no q) =
            splice_above 0 h.memory f base there x
            (elim (dec_lt x (suc j * h.N)) [
              | yes r ↦ absurd (out (omega arith, r))
              | no r ↦ omega (arith, base_end h.N (suc j) (omega arith))
            ])

    put_outside : (x : ℕ) → (InData h (suc j) x → ⊥) → get_elem? (splice h.memory base f) x ≡ get_elem? h.memory x
    put_outside x out =
        same_byte (splice h.memory base f) h.memory x (splice-length h.memory f base there) (put_byte x out)

  -- what the element must hold has the first four: a place stores behind them
  front : (q : Request) (i : ℕ) → i < 4 → get_or (held_after h (on (suc j) q) (suc j) e) i 0 ≡ get_or e i 0
  unfolding held_after
  front q i l = go (accepted_b (answer h (on (suc j) q)).says) refl
    where
      placed : (at : ℕ) (b : List ℕ) → Placeable h.N (record_of_all h (suc j)).inbound at (length b)
          → get_or (splice e at b) i 0 ≡ get_or e i 0
      placed at b (inl z) = ap (λ f. get_or f i 0) (splice_none e b at z)
      placed at b (inr w) = splice_below 0 e b at (omega (arith, w.1, long)) i (omega (arith, w.0))

      by : (answer h (on (suc j) q)).says ≡ accepted → Changes h.N (suc j) (on (suc j) q) e
          → get_or (changed_by h.N (suc j) (on (suc j) q) e) i 0 ≡ get_or e i 0
      by a (opens given p r) = clash (cc)
      by a (places at b p r) = ap (λ f. get_or f i 0) r ∙ placed at b (placed_inside h s (suc j) at b (rw p at a))
      by a (stays f p r) = ap (λ f. get_or f i 0) r

      go : (t : Bool) → accepted_b (answer h (on (suc j) q)).says ≡ t
          → get_or (cond t (changed_by h.N (suc j) (on (suc j) q) e) e) i 0 ≡ get_or e i 0
      go true a = by (says_accepted (answer h (on (suc j) q)).says a) (changes h.N (suc j) e (on (suc j) q))
      go false a = refl

  touched : (q : Request) (x : ℕ) → (InData h (suc j) x → ⊥) → get_elem? (next h (on (suc j) q)).memory x ≡ get_elem? h.memory x
  unfolding put_turn
  touched q x out =
      let t = request_turn h.N (link_of h (suc j)) (record_of_all h (suc j)) e q in
      let d = on_open h (suc j) q s.good.sizes o in
      let fits = long_by h.N (link_of h (suc j)) (record_of_all h (suc j)) e long (on (suc j) q) in
      let there = (turned h (on (suc j) q) j s.good.sizes o).this_element in
      let held : t.element ≡ held_after h (on (suc j) q) (suc j) e =
      sym there ∙ ap (λ (x : Done). element_in x.group (suc j)) (sym d) ∙ held_next h s (on (suc j) q) j in
      ap (λ (d : Done). get_elem? d.group.memory x) d
      ∙ put_outside t.element fits (λ i l. ap (λ f. get_or f i 0) held ∙ front q i l) x out

  untouched : (out : List ℕ) → (next h (on (suc j) (read out))).memory ≡ h.memory
  unfolding put_turn request_turn turn_of element_of
  untouched out =
      ap (λ (d : Done). d.group.memory) (on_open h (suc j) (read out) s.good.sizes o)
      ∙ put_back h.memory base h.N inside

pub own_touched : (h : Group) → Sound h → OwnTouched h
unfolding refuses
own_touched h s =
    record {
      by_any = λ k q x out. any k q x out (open_b h.S h.table k) refl;
      by_read = λ k out. reading k out (open_b h.S h.table k) refl;
    }
  where
    any : (k : ℕ) (q : Request) (x : ℕ) → (InData h k x → ⊥) → (t : Bool) → open_b h.S h.table k ≡ t
        → get_elem? (next h (on k q)).memory x ≡ get_elem? h.memory x
    any zero q x out true o = absurd (no_slot_0 h o)
    any (suc j) q x out true o = touched h s j o q x out
    any k q x out false o = ap (λ (d : Done). get_elem? d.group.memory x) (on_closed h k q s.good.sizes o)

    reading : (k : ℕ) (out : List ℕ) (t : Bool) → open_b h.S h.table k ≡ t → (next h (on k (read out))).memory ≡ h.memory
    reading zero out true o = absurd (no_slot_0 h o)
    reading (suc j) out true o = untouched h s j o out
    reading k out false o = ap (λ (d : Done). d.group.memory) (on_closed h k (read out) s.good.sizes o)

-- SEEN. An intact element is the eye catcher and its data
whole : (e : List ℕ) → intact_b e ≡ true → e ≡ eye_catcher ++ drop 4 e
unfolding intact_b
whole [] h = absurd (false≢true h)
whole (a ∷ []) h = absurd (false≢true h)
whole (a ∷ b ∷ []) h = absurd (false≢true h)
whole (a ∷ b ∷ c ∷ []) h = absurd (false≢true h)
whole (a ∷ b ∷ c ∷ d ∷ e) h =
    let w = and_right (leb 4 (length (a ∷ b ∷ c ∷ d ∷ e))) _ h in
    let x = and_right (eqb a 0xE2) _ w in
    let y = and_right (eqb b 0xD4) _ x in
    rw (
      eqb-true a 0xE2 (and_left (eqb a 0xE2) _ w),
      eqb-true b 0xD4 (and_left (eqb b 0xD4) _ x),
      eqb-true c 0xC3 (and_left (eqb c 0xC3) _ y),
      eqb-true d 0xD9 (and_right (eqb c 0xC3) _ y),
    )

module _ (h i : Group) (s : Sound h) (t : Sound i) (k : ℕ) (w : SameOwn h i k) (q : Request) where
  same_open : open_b h.S h.table k ≡ open_b i.S i.table k
  unfolding open_b
  same_open = λ x. slot_b (w.same_S x) k && (w.same_record x).id.opened

  same_element : (k : ℕ) → OpenAt h k → OpenAt i k → data_in h k ≡ data_in i k → element_in h k ≡ element_in i k
  same_element zero o p d = absurd (no_slot_0 h o)
  same_element (suc j) o p d =
      whole (element_in h (suc j)) (s.intact j o) ∙ ap (λ l. eye_catcher ++ l) d ∙ sym (whole (element_in i (suc j)) (t.intact j p))

  pub own_seen : answer h (on k q) ≡ answer i (on k q)
  unfolding refuses
  own_seen = go (open_b h.S h.table k) refl
    where
      go : (b : Bool) → open_b h.S h.table k ≡ b → answer h (on k q) ≡ answer i (on k q)
      go true o =
          let p = sym same_open ∙ o in
          let e = same_element k o p w.same_data in
          on_answer h k q s.good.sizes o
          ∙ (λ x. (request_turn (w.same_N x) (w.same_link x) (w.same_record x) (e x) q).answer)
          ∙ sym (on_answer i k q t.good.sizes p)
      go false o =
          ap (λ (d : Done). d.answer) (on_closed h k q s.good.sizes o)
          ∙ sym (ap (λ (d : Done). d.answer) (on_closed i k q t.good.sizes (sym same_open ∙ o)))

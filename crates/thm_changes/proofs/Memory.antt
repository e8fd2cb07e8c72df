-- Which bytes of the memory a call may change, in any group. Assumes nothing.
use mathlib.Core.Path.{◌≡◌, refl, sym, ap, ◌∙◌}
use mathlib.Core.Logic.{◌⊎◌, inl, inr}
use mathlib.Core.Bool.{Bool, true}
use mathlib.Core.List.{List, []}
use Prim.Native.Nat.{ℕ, zero, suc, ◌+◌, ◌-◌, ◌<◌, ◌≤◌}
use native.Mathlib.Decide.{dec_lt}
use native.Mathlib.Omega.{arith}
use lib.ListN.{length, drop, get_or, get_elem?}
use lib.Seq.{get_or-take, get_or-drop}
use Rattle.element.specs.Element.{part, base_of, element_of, splice}
use Rattle.element.proofs.Elements.{base_end, element_in_lem}
use Rattle.element.proofs.Others.{splice-length, splice_below, splice_in, splice_above}
use Rattle.conn_record.specs.declared.Record.{Record}
use Rattle.conn_answer.specs.declared.Reply.{Reply}
use Rattle.conn_answer.specs.declared.Reply.TheVariants.{Refused, Accepted, Sent, Read, Torn, Reset, Heard, Sampled}
use Rattle.conn_receive.specs.Receive.{place_of}
use Rattle.conn_receive.proofs.Laws.{Placeable, place_accepted}
use Rattle.group_rules.specs.Rules.{Group, Request, send, gather, urgent, place, read, shutdown, close, abort, Call, on, accepted, Turn, turn_of, request_turn, hear_turn, says_of, placed_in, Done, does, refuses, put_turn, record_of_all, element_in, link_of, sizes_ok}
use Rattle.thm_order.proofs.Slots.{slot_in, element_long, Sizes, sizes_in}
use Rattle.thm_changes.specs.Changes.{InElement, MayChange, by_place, by_open, BytesByPlaceAndOpen}
use Rattle.thm_safety.proofs.Effects.{Acts, asks, hears, opens, frees, Effect, refuses_it, links_it, samples_it, puts_turn, effect}
use Rattle.thm_changes.proofs.Acted.{acts_in, is_sizes, acts_high, acts_long}
use Rattle.thm_safety.proofs.Lists.{same_byte, splice_none}

-- What a request puts into its element: nothing, or the bytes of an accepted place
pub record PutIn (n : ℕ) (c : Record) (e : List ℕ) (q : Request) (t : Turn) : Type 0 where
  pub at : ℕ
  pub bytes : List ℕ
  pub is : q ≡ place at bytes
  pub took : t.answer.says ≡ accepted
  pub now : t.element ≡ splice e at bytes
  pub may : Placeable n c.inbound at (length bytes)

module _ (n : ℕ) (a : Bool) (c : Record) (e : List ℕ) where
  pub puts_in : (q : Request) → ((request_turn n a c e q).element ≡ e) ⊎ PutIn n c e q (request_turn n a c e q)
  unfolding request_turn turn_of
  puts_in (send b) = inl refl
  puts_in (urgent b) = inl refl
  puts_in (gather h b) = inl refl
  puts_in (place at b) = go (place_of n a c at (length b)).reply (place_accepted n a c at (length b))
    where
      go : (r : Reply) → (r ≡ Accepted → Placeable n c.inbound at (length b))
          → (placed_in r e at b ≡ e) ⊎ PutIn n c e (place at b)
          (record {
            answer =
                record {
                  says = says_of r;
                  made = (place_of n a c at (length b)).made;
                  message = (place_of n a c at (length b)).message;
                  out = [];
                };
            after = (place_of n a c at (length b)).after;
            element = placed_in r e at b;
          })
      go (Refused k) h = inl refl
      go Accepted h = inr (record { at = at; bytes = b; is = refl; took = refl; now = refl; may = h refl })
      go (Sent k p) h = inl refl
      go (Read k) h = inl refl
      go Torn h = inl refl
      go (Heard moved state) h = inl refl
      go Reset h = inl refl
      go (Sampled q) h = inl refl
  puts_in (read out) = inl refl
  puts_in shutdown = inl refl
  puts_in close = inl refl
  puts_in abort = inl refl

-- a turn's element put back in the memory
module _ (g : Group) (i : ℕ) (f : List ℕ) (ok : sizes_ok g ≡ true) (high : i < g.S) (fits : length f ≡ g.N) where
  abbrev base : ℕ
  base = base_of g.N (suc i)

  abbrev after : List ℕ
  after = splice g.memory base f

  whole : Sizes g.S g.N (length g.memory) (length g.table)
  whole = sizes_in g.S g.N (length g.memory) (length g.table) ok

  inside : base + length f ≤ length g.memory
  inside = omega (arith, element_in_lem g.N (suc i) g.S (length g.memory) (omega arith) high (omega (arith, whole.whole)), fits)

  abbrev Same : ℕ → Type 0
  Same x = get_elem? after x ≡ get_elem? g.memory x

  same_at : (x : ℕ) → get_or after x 0 ≡ get_or g.memory x 0 → Same x
  same_at x p = same_byte after g.memory x (splice-length g.memory f base inside) p

  -- a byte of another element stays; one of this element stays where the turn left it
  put_byte : (x : ℕ) → Same x ⊎ (InElement g (suc i) x × (get_or f (x - base) 0 ≡ get_or (element_in g (suc i)) (x - base) 0 → Same x))
  unfolding element_of part
  put_byte x =
      elim (dec_lt x base) [
        | yes l ↦ inl (same_at x (splice_below 0 g.memory f base inside x l))
        | no l ↦
            elim (dec_lt x (base + g.N)) [
              | yes m ↦
                  let y : base + (x - base) ≡ x = omega arith in
                  inr (
                    (omega arith, omega (arith, base_end g.N (suc i) (omega arith))),
                    λ p.
                        same_at x
                        (ap (λ z. get_or after z 0) (sym y)
                        ∙ splice_in 0 g.memory f base inside (x - base) (omega (arith, fits))
                        ∙ p
                        ∙ get_or-take g.N (drop base g.memory) (x - base) 0 (omega arith)
                        ∙ get_or-drop base g.memory (x - base) 0
                        ∙ ap (λ z. get_or g.memory z 0) y),
                  )
              | no m ↦ inl (same_at x (splice_above 0 g.memory f base inside x (omega (arith, fits))))
            ]
      ]

module _ (g : Group) (c : Call) (i x : ℕ) (t : Turn) (ok : sizes_ok g ≡ true) (a : Acts g c (suc i) t) (did : does g c ≡ put_turn g (suc i) t) where
  abbrev e : List ℕ
  e = element_in g (suc i)

  abbrev y : ℕ
  y = x - base_of g.N (suc i)

  abbrev Back : Type 0
  Back = get_or t.element y 0 ≡ get_or e y 0 → Same g i t.element ok (acts_high g c i t ok a) (acts_long g c i t ok a) x

  abbrev Changed : Type 0
  Changed = Same g i t.element ok (acts_high g c i t ok a) (acts_long g c i t ok a) x ⊎ MayChange g c x

  by_bytes : (q : Request) → c ≡ on (suc i) q → InElement g (suc i) x → Back → PutIn g.N (record_of_all g (suc i)) e q t → Changed
  unfolding put_turn
  by_bytes q p l back w = go w.may
    where
      long : length e ≡ g.N
      long = element_long g.N g.S g.memory (is_sizes g c (suc i) t ok).whole i (acts_high g c i t ok a)

      go : Placeable g.N (record_of_all g (suc i)).inbound w.at (length w.bytes) → Changed
      go (inl z) = inl (back (ap (λ f. get_or f y 0) (w.now ∙ splice_none e w.bytes w.at z)))
      go (inr m) =
          let here : w.at + length w.bytes ≤ length e = omega (arith, m.1, long) in
          elim (dec_lt y w.at) [
            | yes h ↦ inl (back (ap (λ f. get_or f y 0) w.now ∙ splice_below 0 e w.bytes w.at here y h))
            | no h ↦
                elim (dec_lt y (w.at + length w.bytes)) [
                  | yes k ↦
                      inr (by_place (suc i) w.at w.bytes (p ∙ ap (on (suc i)) w.is)
                      (ap (λ (d : Done). d.answer.says) did ∙ w.took) (omega (arith, m.0, l), omega (arith, l)) (omega (arith, l))
                      (omega (arith, l)))
                  | no k ↦ inl (back (ap (λ f. get_or f y 0) w.now ∙ splice_above 0 e w.bytes w.at here y (omega arith)))
                ]
          ]

  by_turn : InElement g (suc i) x → Back → Acts g c (suc i) t → Changed
  unfolding hear_turn turn_of put_turn
  by_turn l back (asks q p o r) = go (puts_in g.N (link_of g (suc i)) (record_of_all g (suc i)) e q)
    where
      go : ((request_turn g.N (link_of g (suc i)) (record_of_all g (suc i)) e q).element ≡ e)
          ⊎ PutIn g.N (record_of_all g (suc i)) e q (request_turn g.N (link_of g (suc i)) (record_of_all g (suc i)) e q) → Changed
      go (inl s) = inl (back (ap (λ (t : Turn). get_or t.element y 0) r ∙ ap (λ f. get_or f y 0) s))
      go (inr w) = by_bytes q p l back (rw r w)
  by_turn l back (hears b m p d h o w r) = inl (back (ap (λ (t : Turn). get_or t.element y 0) r))
  by_turn l back (opens given p n r) =
      inr (by_open (suc i) given p (ap (λ (d : Done). d.answer.says) did ∙ ap (λ (t : Turn). t.answer.says) r) l)
  by_turn l back (frees p n r) = inl (back (ap (λ (t : Turn). get_or t.element y 0) r))

  turn_bytes : Changed
  turn_bytes = go (put_byte g i t.element ok (acts_high g c i t ok a) (acts_long g c i t ok a) x)
    where
      go : Same g i t.element ok (acts_high g c i t ok a) (acts_long g c i t ok a) x ⊎ (InElement g (suc i) x × Back) → Changed
      go (inl s) = inl s
      go (inr w) = by_turn w.0 w.1 a

pub bytes_by_place_and_open : BytesByPlaceAndOpen
unfolding refuses put_turn
bytes_by_place_and_open g c x = go (does g c) refl (effect g c)
  where
    turned : (k : ℕ) (t : Turn) → sizes_ok g ≡ true → Acts g c k t → does g c ≡ put_turn g k t
        → (get_elem? (put_turn g k t).group.memory x ≡ get_elem? g.memory x) ⊎ MayChange g c x
    turned zero t ok a did = absurd (omega (arith, slot_in g.S 0 (acts_in g c 0 t ok a)))
    turned (suc i) t ok a did = turn_bytes g c i x t ok a did

    go : (d : Done) → does g c ≡ d → Effect g c d → (get_elem? d.group.memory x ≡ get_elem? g.memory x) ⊎ MayChange g c x
    go d q (refuses_it n h e) = inl (ap (λ (d : Done). get_elem? d.group.memory x) e)
    go d q (links_it k b p a e) = inl (ap (λ (h : Group). get_elem? h.memory x) e)
    go d q (samples_it l ms p z e) = inl (ap (λ (d : Done). get_elem? d.group.memory x) e)
    go d q (puts_turn k t s a e) = rw e (turned k t s a (q ∙ e))

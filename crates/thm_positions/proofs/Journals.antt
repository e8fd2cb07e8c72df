-- What is said of a slot, and its record and element: what the two keep in common, over one turn of the slot. Assumes nothing.
use mathlib.Core.Path.{◌≡◌, refl, sym, ap, ◌∙◌}
use mathlib.Core.Logic.{inl, inr, ◌⊎◌}
use mathlib.Core.Bool.{Bool, true, false, ◌&&◌, cond, false≢true}
use mathlib.Core.Option.{some, none, Option}
use mathlib.Core.List.{List, ◌++◌}
use Prim.Native.Nat.{ℕ, ◌+◌, ◌-◌, ◌≤◌, ◌<◌}
use native.Mathlib.Omega.{arith}
use lib.ListN.{length, get_or, take, get_or-append, length-append, length-take}
use Rattle.element.specs.Element.{splice, free_from, free_b}
use Rattle.conn_record.proofs.Laws.{and_left, Coherent, coherent_facts, tp_good, and_right}
use Rattle.conn_receive.proofs.Laws.{Placeable}
use Rattle.thm_safety.specs.Statement.{accepted_b, offset_from}
use Rattle.cursor.specs.declared.Cursor.{Cursor}
use Rattle.cursor.specs.Cursor.{gap_of, cursor_at, good_b, step_of, in_range}
use Rattle.conn_record.specs.declared.Record.{Record}
use Rattle.group_rules.specs.Rules.{Says, Answer}
use lib.Dec.{ltb, leb}
use Rattle.conn_record.specs.Connection.{coherent_b}
use Rattle.thm_positions.specs.Positions.{offset_of, read_in, Placed, Journal, covers_b, moved_in, noted, takes_b}
use Rattle.flow.specs.Flow.{window_of}
use borrow.Author.Tests.{ltb-true, leb-true, lt-ltb, le-leb}
use Rattle.element.proofs.Free.{all_free_each}
use Rattle.thm_positions.proofs.Places.{norm, gap_norm, place_past, reached_norm, one_place, offset_place}
use Rattle.cursor.proofs.Positions.{gap_at, step_at}
use Rattle.cursor.proofs.Laws.{gap_rest, good_most}
use Rattle.conn_hear.proofs.HeardLaws.{Produces}
use Rattle.thm_positions.proofs.Inbound.{Steps}
use native.Mathlib.Decide.{dec_lt}
use Rattle.element.proofs.Others.{splice_below, splice_above}
use Rattle.thm_refusals.proofs.Answers.{clash}
use Rattle.thm_safety.proofs.Lists.{splice_none, splice_at, taken_at}

-- the record c and the element e, of n bytes, follow the journal j; wrap numbers are below 65,536 where B
pub record Keeps (B : Type 0) (n : ℕ) (c : Record) (e : List ℕ) (j : Journal) : Type 0 where
  pub own_is : c.id.own ≡ j.own
  pub P_at : norm c.inbound.producer ≡ cursor_at (n - 4) j.announced
  pub P_bits : B → c.inbound.producer.wrap < 65536
  pub C_at : c.inbound.consumer ≡ cursor_at (n - 4) j.handed
  pub T_at : c.inbound.told ≡ cursor_at (n - 4) j.told
  pub told_handed : j.told ≤ j.handed
  pub handed_announced : j.handed ≤ j.announced
  pub announced_most : j.announced ≤ j.told + (n - 4)
  pub as_handed : length j.stream ≡ j.handed
  -- nothing is written a lap past what was told; within that lap, what was written stands in the element; what was handed out was read there
  pub young : (y : ℕ) → j.told + (n - 4) ≤ y → j.written y ≡ none
  pub here : (y v : ℕ) → j.told ≤ y → y < j.told + (n - 4) → j.written y ≡ some v → get_or e (offset_of (n - 4) y) 0 ≡ v
  pub past : (y v : ℕ) → y < j.handed → j.written y ≡ some v → get_or j.stream y 0 ≡ v

-- what a turn does to the element: nothing; or the bytes of an accepted place are stored
pub data Storing (n : ℕ) (c : Record) (e : List ℕ) (p : Placed) (says : Says) (f : List ℕ) : Type 0 where
  keeps_all_lem : ((x : ℕ) → accepted_b says && covers_b p x ≡ false) → f ≡ e → Storing n c e p says f
  stores_all : accepted_b says ≡ true → f ≡ splice e p.at p.bytes → Placeable n c.inbound p.at (length p.bytes)
      → Storing n c e p says f

-- and what it hands out: so many bytes of the element from C on
pub record Reading (n : ℕ) (c : Record) (e : List ℕ) (a : Answer) : Type 0 where
  pub most : read_in a.says ≤ gap_of (n - 4) c.inbound.consumer c.inbound.producer
  pub room : read_in a.says ≤ length a.out
  pub each : (i : ℕ) → i < read_in a.says → get_or a.out i 0 ≡ get_or e (offset_from n c.inbound.consumer.offset i) 0

-- Boolean tests
and_none : (a l t v : Bool) → a && v ≡ false → a && (l && (t && v)) ≡ false
and_none true true true v h = h
and_none true true false v h = refl
and_none true false t v h = refl
and_none false l t v h = refl

module _ (B : Type 0) (n : ℕ) (least : 8 ≤ n) (c : Record) (e : List ℕ) (long : length e ≡ n) (ok : coherent_b n c ≡ true) (j : Journal)
    (k : Keeps B n c e j) where
  abbrev d : ℕ
  d = n - 4

  full : 0 < d
  full = omega arith

  size : d + 4 ≡ n
  size = omega arith

  facts : Coherent n c
  facts = coherent_facts n c ok

  -- the distances T to P and C to P
  gap_from : (x : ℕ) (a : Cursor) → a ≡ cursor_at d x → x ≤ j.announced → j.announced ≤ x + d
      → gap_of d a c.inbound.producer ≡ j.announced - x
  gap_from x a p l m =
      sym (gap_norm d a c.inbound.producer) ∙ (λ i. gap_of d (p i) (k.P_at i)) ∙ gap_at d full x j.announced l m

  gap_T : gap_of d c.inbound.told c.inbound.producer ≡ j.announced - j.told
  gap_T = gap_from j.told c.inbound.told k.T_at (omega (arith, k.told_handed, k.handed_announced)) k.announced_most

  gap_C : gap_of d c.inbound.consumer c.inbound.producer ≡ j.announced - j.handed
  gap_C = gap_from j.handed c.inbound.consumer k.C_at k.handed_announced (omega (arith, k.announced_most, k.told_handed))

  P_place : c.inbound.producer.offset ≡ offset_of d j.announced
  unfolding cursor_at
  P_place = ap (λ (x : Cursor). x.offset) k.P_at

  C_place : c.inbound.consumer.offset ≡ offset_of d j.handed
  unfolding cursor_at
  C_place = ap (λ (x : Cursor). x.offset) k.C_at

  -- A FREE BYTE has a position not yet announced, less than a lap past what was told
  pub free_ahead : (x : ℕ) → 4 ≤ x → x < n
      → free_b d c.inbound.producer.offset (window_of n c.inbound.told c.inbound.producer) x ≡ true
      → (y : ℕ) × (offset_of d y ≡ x) × (j.announced ≤ y) × (y < j.told + d)
  unfolding window_of
  free_ahead x low high f =
      let w = d - gap_of d c.inbound.told c.inbound.producer in
      let l = ltb-true (free_from d c.inbound.producer.offset x) w (and_left (ltb (free_from d c.inbound.producer.offset x) w) _ f) in
      let i = free_from d (offset_of d j.announced) x in
      let same : free_from d c.inbound.producer.offset x ≡ i = ap (λ p. free_from d p x) P_place in
      (j.announced + i, place_past d full j.announced x low (omega arith), omega arith, omega (arith, gap_T, l, same, k.told_handed, k.handed_announced))

  pub placed_ahead : (at len : ℕ) → Placeable n c.inbound at len → (x : ℕ) → at ≤ x → x < at + len
      → (y : ℕ) × (offset_of d y ≡ x) × (j.announced ≤ y) × (y < j.told + d)
  placed_ahead at len (inl z) x l m = absurd (omega arith)
  placed_ahead at len (inr w) x l m =
      let i : at + (x - at) ≡ x = omega arith in
      let f = all_free_each d c.inbound.producer.offset (window_of n c.inbound.told c.inbound.producer) at len w.2 (x - at) (omega arith) in
      free_ahead x (omega (arith, w.0)) (omega (arith, w.1)) (rw i at f)

  -- a byte that an accepted place does not cover stays
  uncovered : (f : List ℕ) (p : Placed) → f ≡ splice e p.at p.bytes → Placeable n c.inbound p.at (length p.bytes)
      → (x : ℕ) → (p.at ≤ x → x < p.at + length p.bytes → ⊥) → get_or f x 0 ≡ get_or e x 0
  uncovered f p q may x away = ap (λ z. get_or z x 0) q ∙ go may
    where
      go : Placeable n c.inbound p.at (length p.bytes) → get_or (splice e p.at p.bytes) x 0 ≡ get_or e x 0
      go (inl z) = ap (λ z. get_or z x 0) (splice_none e p.bytes p.at z)
      go (inr w) =
          let fits : p.at + length p.bytes ≤ length e = omega (arith, w.1, long) in
          elim (dec_lt x p.at) [
            | yes g ↦ splice_below 0 e p.bytes p.at fits x g
            | no g ↦
                elim (dec_lt x (p.at + length p.bytes)) [
                  | yes h ↦ absurd (away (omega arith) h)
                  | no h ↦ splice_above 0 e p.bytes p.at fits x (omega arith)
                ]
          ]

  -- ANNOUNCED BYTES STAY: from `told` up to `announced` none is covered
  pub stays_byte : (f : List ℕ) (p : Placed) (says : Says) → Storing n c e p says f → (y : ℕ) → j.told ≤ y → y < j.announced
      → get_or f (offset_of d y) 0 ≡ get_or e (offset_of d y) 0
  stays_byte f p says (keeps_all_lem w q) y l m = ap (λ z. get_or z (offset_of d y) 0) q
  stays_byte f p says (stores_all b q may) y l m = uncovered f p q may (offset_of d y) covered
    where
      covered : p.at ≤ offset_of d y → offset_of d y < p.at + length p.bytes → ⊥
      covered g h =
          let z = placed_ahead p.at (length p.bytes) may (offset_of d y) g h in
          let same = one_place d full z.0 y (omega (arith, z.3)) (omega (arith, z.2, k.announced_most)) z.1 in
          omega (arith, same, z.2)

  -- WHAT IS HANDED OUT: the bytes of the element at the places of the next positions
  pub handed_byte : (a : Answer) → Reading n c e a → (y : ℕ) → j.handed ≤ y → y < j.handed + read_in a.says
      → get_or (j.stream ++ take (read_in a.says) a.out) y 0 ≡ get_or e (offset_of d y) 0
  handed_byte a reading y l m =
      let i = y - j.handed in
      let to : j.handed + i ≡ y = omega arith in
      taken_at j.stream a.out j.handed (read_in a.says) y k.as_handed l m
      ∙ reading.each i (omega arith)
      ∙ (λ z. get_or e (offset_from (sym size z) (C_place z) i) 0)
      ∙ ap (λ z. get_or e z 0)
      (offset_place d full j.handed i (omega (arith, reading.most, gap_C, k.announced_most, k.told_handed, k.handed_announced)) ∙ ap (offset_of d) to)

  -- ONE TURN, answered a: c becomes r and e becomes f; p is what the call would place
  module _ (r : Record) (f : List ℕ) (p : Placed) (a : Answer) (same_own : r.id.own ≡ c.id.own) (New : Cursor → Type 0) (s : Steps n c New a.says a.made r)
      (bits : B → r.inbound.producer.wrap < 65536) (store : Storing n c e p a.says f) (take_out : Reading n c e a) where
    abbrev j' : Journal
    j' = noted d j p a

    n_in : j.handed + read_in a.says ≤ j.announced
    n_in = omega (arith, take_out.most, gap_C, k.handed_announced)

    C_now : r.inbound.consumer ≡ cursor_at d j'.handed
    C_now =
        s.C_steps
        ∙ (λ i. step_of (sym size i) (k.C_at i) (read_in a.says))
        ∙ step_at d full j.handed (read_in a.says) (omega (arith, n_in, k.announced_most, k.told_handed))

    T_now : r.inbound.told ≡ cursor_at d j'.told
    T_now = s.T_tells ∙ go a.made
      where
        go : (m : Bool) → cond m r.inbound.consumer c.inbound.told ≡ cursor_at d (cond m j'.handed j.told)
        go true = C_now
        go false = k.T_at

    told_less : (m : Bool) → (j.told ≤ cond m j'.handed j.told) × (cond m j'.handed j.told ≤ j'.handed)
    told_less true = (omega (arith, k.told_handed), omega arith)
    told_less false = (omega arith, omega (arith, k.told_handed))

    -- P
    record Announced : Type 0 where
      at_now : norm r.inbound.producer ≡ cursor_at d j'.announced
      most_now : j'.announced ≤ j.told + d

    P_now : Announced
    P_now = go s.P-moves
      where
        go : ((r.inbound.producer ≡ c.inbound.producer) × (moved_in a.says ≡ 0))
            ⊎ (New r.inbound.producer × Produces n c r.inbound.producer × (moved_in a.says ≡ gap_of (n - 4) c.inbound.producer r.inbound.producer))
            → Announced
        go (inl w) =
            let z : j.announced ≡ j'.announced = omega (arith, w.1) in
            record { at_now = ap norm w.0 ∙ k.P_at ∙ ap (cursor_at d) z; most_now = omega (arith, k.announced_most, z) }
        go (inr w) =
            let t = c.inbound.told in
            let q = r.inbound.producer in
            let g = w.1.tp_good in
            let rest =
            (gap_rest n t c.inbound.producer q facts.t_range facts.p_range w.1.range (tp_good n c facts).0 g w.1.no_less).1
            in
            let at = reached_norm d full j.told q (ap (λ (m : ℕ). in_range m q) size ∙ w.1.range) (ap (λ (x : Cursor). good_b d x q) (sym k.T_at) ∙ g) in
            let same : gap_of d (cursor_at d j.told) q ≡ gap_of d t q = ap (λ (x : Cursor). gap_of d x q) (sym k.T_at) in
            let z : j.told + gap_of d (cursor_at d j.told) q ≡ j'.announced =
            omega (arith, same, rest, gap_T, w.2, k.told_handed, k.handed_announced)
            in
            record { at_now = at ∙ ap (cursor_at d) z; most_now = omega (arith, z, same, good_most d t q g) }

    -- what is written, and where it was not
    abbrev takes : ℕ → Bool
    takes y = accepted_b a.says && takes_b d j.announced p y

    abbrev byte : ℕ → Option ℕ
    byte y = some (get_or p.bytes (offset_of d y - p.at) 0)

    -- a position that the place takes is one of the D past `announced`, and its place is covered
    record Takes (y : ℕ) : Type 0 where
      low : j.announced ≤ y
      high : y < j.announced + d
      covers : (p.at ≤ offset_of d y) × (offset_of d y < p.at + length p.bytes)

    takes_is : (y : ℕ) → takes y ≡ true → Takes y
    takes_is y h =
        let t = and_right (accepted_b a.says) _ h in
        let u = and_right (leb j.announced y) _ t in
        let v = and_right (ltb y (j.announced + d)) _ u in
        record {
          low = leb-true j.announced y (and_left (leb j.announced y) _ t);
          high = ltb-true y (j.announced + d) (and_left (ltb y (j.announced + d)) _ u);
          covers = (
            leb-true p.at (offset_of d y) (and_left (leb p.at (offset_of d y)) _ v),
            ltb-true (offset_of d y) (p.at + length p.bytes) (and_right (leb p.at (offset_of d y)) _ v),
          );
        }

    -- below `announced` it takes none
    not-below : (y : ℕ) → y < j.announced → takes y ≡ false
    not-below y l = go (takes y) refl
      where
        go : (t : Bool) → takes y ≡ t → takes y ≡ false
        go true h = absurd (omega (arith, (takes_is y h).low))
        go false h = h

    -- what it takes lies less than a lap past what was told
    in_lap : (y : ℕ) → takes y ≡ true → y < j.told + d
    in_lap y h = go store
      where
        go : Storing n c e p a.says f → y < j.told + d
        go (keeps_all_lem w q) = absurd (false≢true (sym (and_none (accepted_b a.says) (leb j.announced y) (ltb y (j.announced + d)) (covers_b p (offset_of d y)) (w (offset_of d y))) ∙ h))
        go (stores_all b q w) =
            let t = takes_is y h in
            let z = placed_ahead p.at (length p.bytes) w (offset_of d y) t.covers.0 t.covers.1 in
            let same =
            one_place d full z.0 y (omega (arith, z.3, t.low, k.told_handed, k.handed_announced)) (omega (arith, z.2, t.high)) z.1
            in
            omega (arith, same, z.3)

    was_written : (y v : ℕ) → takes y ≡ false → j'.written y ≡ some v → j.written y ≡ some v
    was_written y v h q = sym (ap (λ t. cond t (byte y) (j.written y)) h) ∙ q

    young_now : (y : ℕ) → j'.told + d ≤ y → j'.written y ≡ none
    young_now y l = go (takes y) refl
      where
        up : j.told ≤ j'.told
        up = (told_less a.made).0

        go : (t : Bool) → takes y ≡ t → j'.written y ≡ none
        go true h = absurd (omega (arith, in_lap y h, up))
        go false h = ap (λ t. cond t (byte y) (j.written y)) h ∙ k.young y (omega (arith, up))

    -- written, so not a lap past what was told
    not_young : (y v : ℕ) → j.written y ≡ some v → y < j.told + d
    not_young y v q =
        elim (dec_lt y (j.told + d)) [ yes l ↦ l | no l ↦ let z = k.young y (omega arith) in clash (cc) ]

    -- the bytes stored, and those that stay
    module _ (b : accepted_b a.says ≡ true) (q : f ≡ splice e p.at p.bytes) (may : Placeable n c.inbound p.at (length p.bytes)) where
      inside : (x : ℕ) → p.at ≤ x → x < p.at + length p.bytes → p.at + length p.bytes ≤ length e
      inside x l m = go may
        where
          go : Placeable n c.inbound p.at (length p.bytes) → p.at + length p.bytes ≤ length e
          go (inl z) = absurd (omega arith)
          go (inr w) = omega (arith, w.1, long)

      stored_byte : (y : ℕ) → takes y ≡ true → get_or f (offset_of d y) 0 ≡ get_or p.bytes (offset_of d y - p.at) 0
      stored_byte y h =
          let t = (takes_is y h).covers in
          ap (λ l. get_or l (offset_of d y) 0) q
          ∙ splice_at e p.bytes p.at (offset_of d y) (inside (offset_of d y) t.0 t.1) t.0 t.1

      -- what was written, and the place does not take
      other_byte : (y : ℕ) → j.told ≤ y → y < j.told + d → takes y ≡ false → get_or f (offset_of d y) 0 ≡ get_or e (offset_of d y) 0
      other_byte y l m h = uncovered f p q may (offset_of d y) covered
        where
          covered : p.at ≤ offset_of d y → offset_of d y < p.at + length p.bytes → ⊥
          covered g i =
              let z = placed_ahead p.at (length p.bytes) may (offset_of d y) g i in
              let same = one_place d full z.0 y (omega (arith, z.3)) (omega (arith, z.2, k.told_handed, k.handed_announced)) z.1 in
              let taken : takes y ≡ true =
              rw (
                b,
                le-leb j.announced y (omega (arith, same, z.2)),
                lt-ltb y (j.announced + d) (omega (arith, k.told_handed, k.handed_announced)),
                le-leb p.at (offset_of d y) g,
              )
              (lt-ltb (offset_of d y) (p.at + length p.bytes) i)
              in
              false≢true (sym h ∙ taken)

    here_now : (y v : ℕ) → j'.told ≤ y → y < j'.told + d → j'.written y ≡ some v → get_or f (offset_of d y) 0 ≡ v
    here_now y v l m q = go (takes y) refl
      where
        up : j.told ≤ j'.told
        up = (told_less a.made).0

        stayed : takes y ≡ false → get_or f (offset_of d y) 0 ≡ get_or e (offset_of d y) 0
        stayed h = by store
          where
            by : Storing n c e p a.says f → get_or f (offset_of d y) 0 ≡ get_or e (offset_of d y) 0
            by (keeps_all_lem w g) = ap (λ z. get_or z (offset_of d y) 0) g
            by (stores_all b g w) = other_byte b g w y (omega (arith, up)) (not_young y v (was_written y v h q)) h

        taken : takes y ≡ true → get_or f (offset_of d y) 0 ≡ v
        taken h = by store
          where
            is : get_or p.bytes (offset_of d y - p.at) 0 ≡ v
            is = let z = sym (ap (λ t. cond t (byte y) (j.written y)) h) ∙ q in cc

            by : Storing n c e p a.says f → get_or f (offset_of d y) 0 ≡ v
            by (keeps_all_lem w g) =
                absurd (false≢true (sym (and_none (accepted_b a.says) (leb j.announced y) (ltb y (j.announced + d)) (covers_b p (offset_of d y)) (w (offset_of d y))) ∙ h))
            by (stores_all b g w) = stored_byte b g w y h ∙ is

        go : (t : Bool) → takes y ≡ t → get_or f (offset_of d y) 0 ≡ v
        go true h = taken h
        go false h =
            let w = was_written y v h q in
            stayed h ∙ k.here y v (omega (arith, up)) (not_young y v w) w

    past_now : (y v : ℕ) → y < j'.handed → j'.written y ≡ some v → get_or j'.stream y 0 ≡ v
    past_now y v l q =
        let w = was_written y v (not-below y (omega (arith, n_in))) q in
        elim (dec_lt y j.handed) [
          | yes h ↦ get_or-append j.stream _ 0 y (omega (arith, k.as_handed)) ∙ k.past y v h w
          | no h ↦
              handed_byte a take_out y (omega arith) l
              ∙ k.here y v (omega (arith, k.told_handed)) (omega (arith, n_in, k.announced_most)) w
        ]

    pub turn_keeps : Keeps B n r f j'
    turn_keeps =
        record {
          own_is = same_own ∙ k.own_is;
          P_at = P_now.at_now;
          P_bits = bits;
          C_at = C_now;
          T_at = T_now;
          told_handed = (told_less a.made).1;
          handed_announced = omega (arith, n_in);
          announced_most = omega (arith, P_now.most_now, (told_less a.made).0);
          as_handed = long_now;
          young = young_now;
          here = here_now;
          past = past_now;
        }
      where
        long_now : length (j.stream ++ take (read_in a.says) a.out) ≡ j.handed + read_in a.says
        long_now =
            length-append j.stream (take (read_in a.says) a.out)
            ∙ omega (arith, k.as_handed, length-take (read_in a.says) a.out, take_out.room)

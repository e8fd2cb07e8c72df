-- Laws of a connection's record: the facts of a coherent one, and what a refusal tells.
-- Assumes nothing.
use mathlib.Core.Path.{◌≡◌, refl, sym, ap, ◌∙◌}
use mathlib.Core.Bool.{Bool, true, false, ◌&&◌, ◌||◌, not, cond}
use mathlib.Core.List.{List, [], ◌∷◌}
use mathlib.Core.Logic.{◌⊎◌, inl, inr}
use Prim.Native.Nat.{ℕ, zero, suc, ◌+◌, ◌-◌, ◌*◌, ◌≤◌, ◌<◌}
use native.Mathlib.Omega.{arith}
use lib.Dec.{ltb, leb}
use lib.ListN.{get_or}
use borrow.Author.Rules.{rules}
use borrow.Author.Tests.{leb-true, leb-false, ltb-true, not-true, le-leb, lt-leb, lt-ltb}
use Rattle.cursor.specs.declared.Cursor.{Cursor}
use Rattle.cursor.specs.Cursor.{in_range, good_b, gap_of}
use Rattle.cursor.proofs.Laws.{gap_self, gap_adds, gap_rest, gap_front}
use Rattle.closing.specs.declared.Marks.{Marks}
use Rattle.conn_record.specs.declared.Opening.{Opening}
use Rattle.conn_record.specs.declared.Record.{Record}
use Rattle.conn_record.specs.declared.Remote.{Remote}
use Rattle.conn_record.specs.declared.Urgent.{Urgent}
use Rattle.conn_record.specs.Connection.{least_size, most_size, most_link, most_index, most_address, start_cursor, opened_record, every, last_byte, fits_b, remote_ok, numbers_ok, offsets_ok, distances_ok, place_ok, places_ok, coherent_b, no_place, place_at, reached_b, passed_by, refusal_of, marks_to}

pub and_left : (a b : Bool) → a && b ≡ true → a ≡ true
and_left true b e = refl
and_left false b e = e

pub and_right : (a b : Bool) → a && b ≡ true → b ≡ true
and_right true b e = e
and_right false b e = cc

-- where every test holds, the test at each place holds
pub holds : (l : List Bool) → every l ≡ true → (k : ℕ) → get_or l k true ≡ true
holds [] e k = refl
holds (b ∷ []) e zero = e
holds (b ∷ []) e (suc k) = refl
holds (b ∷ c ∷ l) e zero = and_left b (every (c ∷ l)) e
holds (b ∷ c ∷ l) e (suc k) = holds (c ∷ l) (and_right b (every (c ∷ l)) e) k

-- and the converse
pub every_all : (l : List Bool) → ((k : ℕ) → get_or l k true ≡ true) → every l ≡ true
every_all [] h = refl
every_all (b ∷ []) h = h 0
every_all (b ∷ c ∷ l) h = simp (h 0, every_all (c ∷ l) (λ k. h (suc k)))

-- whether the peer's element fits, as the code asks it
module _ (N' index base : ℕ) where
  pub fits_empty : index * N' ≡ 0 → base ≤ most_address → true ≡ fits_b N' index base
  unfolding fits_b
  fits_empty z b = sym (le-leb (last_byte N' index base) most_address (omega arith))

  pub fits_below : 0 < index * N' → index * N' ≤ most_address → leb base (most_address - (index * N' - 1)) ≡ fits_b N' index base
  unfolding fits_b
  fits_below s m = go (leb base (most_address - (index * N' - 1))) refl
    where
      go : (x : Bool) → leb base (most_address - (index * N' - 1)) ≡ x → x ≡ leb (last_byte N' index base) most_address
      go true e =
          let h = leb-true base (most_address - (index * N' - 1)) e in
          sym (le-leb (last_byte N' index base) most_address (omega arith))
      go false e =
          let h = leb-false base (most_address - (index * N' - 1)) e in
          sym (lt-leb (last_byte N' index base) most_address (omega arith))

  pub fits_facts : fits_b N' index base ≡ true → base + index * N' ≤ most_address + 1
  unfolding fits_b
  fits_facts e = omega (arith, leb-true (last_byte N' index base) most_address e)

-- the facts of a peer's element that a record may have
pub record Reached (r : Remote) : Type 0 where
  pub size_least : least_size ≤ r.size
  pub size_most : r.size ≤ most_size
  pub index_least : 1 ≤ r.index
  pub index_most : r.index ≤ most_index
  pub fits1 : fits_b r.size r.index r.link1.base ≡ true
  pub fits2 : fits_b r.size r.index r.link2.base ≡ true
  pub fits3 : fits_b r.size r.index r.link3.base ≡ true
  pub fits4 : fits_b r.size r.index r.link4.base ≡ true

module _ (r : Remote) where
  abbrev remote_tests : List Bool
  remote_tests =
      leb least_size r.size
      ∷ leb r.size most_size
      ∷ leb 1 r.index
      ∷ leb r.index most_index
      ∷ fits_b r.size r.index r.link1.base
      ∷ fits_b r.size r.index r.link2.base
      ∷ fits_b r.size r.index r.link3.base
      ∷ fits_b r.size r.index r.link4.base
      ∷ []

  pub remote_facts : remote_ok r ≡ true → Reached r
  unfolding remote_ok
  remote_facts e =
      let test = holds remote_tests e in
      record {
        size_least = leb-true least_size r.size (test 0);
        size_most = leb-true r.size most_size (test 1);
        index_least = leb-true 1 r.index (test 2);
        index_most = leb-true r.index most_index (test 3);
        fits1 = test 4;
        fits2 = test 5;
        fits3 = test 6;
        fits4 = test 7;
      }

-- the facts of a coherent record
pub record Coherent (n : ℕ) (rec : Record) : Type 0 where
  pub own_nonzero : 0 < rec.id.own
  pub peer_nonzero : 0 < rec.id.peer
  pub link_least : 1 ≤ rec.id.link
  pub link_most : rec.id.link ≤ most_link
  pub remote_ok_lem : remote_ok rec.remote ≡ true
  pub not_both : rec.marks.sent.closed && rec.marks.heard.closed ≡ false
  pub p_range : in_range n rec.inbound.producer ≡ true
  pub c_range : in_range n rec.inbound.consumer ≡ true
  pub t_range : in_range n rec.inbound.told ≡ true
  pub q_range : in_range rec.remote.size rec.outbound.producer ≡ true
  pub r_range : in_range rec.remote.size rec.outbound.consumer ≡ true
  pub tc_good : good_b (n - 4) rec.inbound.told rec.inbound.consumer ≡ true
  pub cp_good : good_b (n - 4) rec.inbound.consumer rec.inbound.producer ≡ true
  pub sum :
      gap_of (n - 4) rec.inbound.told rec.inbound.consumer + gap_of (n - 4) rec.inbound.consumer rec.inbound.producer ≤ n - 4
  pub rq_good : good_b (rec.remote.size - 4) rec.outbound.consumer rec.outbound.producer ≡ true
  pub at_their_place : place_ok n rec.inbound.consumer rec.inbound.producer rec.inbound.urgent ≡ true
  pub at_own_place : place_ok rec.remote.size rec.outbound.consumer rec.outbound.producer rec.outbound.urgent ≡ true

-- URGENT PLACES. Where one stands
pub record Stands (n : ℕ) (from to at : Cursor) : Type 0 where
  pub range : in_range n at ≡ true
  pub good : good_b (n - 4) from at ≡ true
  pub least : 1 ≤ gap_of (n - 4) from at
  pub most : gap_of (n - 4) from at ≤ gap_of (n - 4) from to

module _ (n : ℕ) (from to : Cursor) where
  pub place_none : place_ok n from to no_place ≡ true
  unfolding place_ok
  place_none = refl

  pub place_new : (at : Cursor) → Stands n from to at → place_ok n from to (place_at at) ≡ true
  unfolding place_ok
  place_new at s = simp (s.range, s.good, le-leb 1 _ s.least, le-leb _ _ s.most)

  pub place_facts : (u : Urgent) → place_ok n from to u ≡ true → u.standing ≡ true → Stands n from to u.place
  unfolding place_ok
  place_facts u e s =
      let d = n - 4 in
      let at = u.place in
      let tests = in_range n at ∷ good_b d from at ∷ leb 1 (gap_of d from at) ∷ leb (gap_of d from at) (gap_of d from to) ∷ [] in
      let h = holds tests (go u.standing (every tests) s e) in
      record { range = h 0; good = h 1; least = leb-true 1 _ (h 2); most = leb-true _ _ (h 3) }
    where
      go : (s x : Bool) → s ≡ true → not s || x ≡ true → x ≡ true
      go true x e h = h
      go false x e h = cc

  -- a place that stands is where one stands; one that does not is everywhere
  pub place_by : (u : Urgent) → (u.standing ≡ true → Stands n from to u.place) → place_ok n from to u ≡ true
  unfolding place_ok
  place_by u h = go u.standing refl
    where
      go : (s : Bool) → u.standing ≡ s → place_ok n from to u ≡ true
      go true e = let s = h e in simp (e, s.range, s.good, le-leb 1 _ s.least, le-leb _ _ s.most)
      go false e = simp e

-- it stands as well where the way goes further
pub place_further : (n : ℕ) (from to to' : Cursor) (u : Urgent) → place_ok n from to u ≡ true
    → gap_of (n - 4) from to ≤ gap_of (n - 4) from to' → place_ok n from to' u ≡ true
place_further n from to to' u e h =
    place_by n from to' u (λ s.
    let p = place_facts n from to u e s in
    record { range = p.range; good = p.good; least = p.least; most = omega (arith, p.most) })

-- a cursor that has come to `at` leaves it where it stood, unless it reached or passed it
pub place_passed : (n : ℕ) (from at to : Cursor) (u : Urgent) → in_range n from ≡ true → in_range n at ≡ true → in_range n to ≡ true
    → good_b (n - 4) from to ≡ true → good_b (n - 4) at to ≡ true → place_ok n from to u ≡ true → place_ok n at to (passed_by n at to u) ≡ true
unfolding passed_by reached_b
place_passed n from at to u rf ra rt ft at-to e = go (reached_b n at to u) refl
  where
    go : (r : Bool) → reached_b n at to u ≡ r → place_ok n at to (cond r no_place u) ≡ true
    go true h = place_none n at to
    go false h =
        place_by n at to u (λ s.
        let p = place_facts n from to u e s in
        let rest = gap_rest n from u.place to rf p.range rt p.good ft p.most in
        let near = leb-false (gap_of (n - 4) at to) (gap_of (n - 4) u.place to) (sym (ap (λ (b : Bool). b && leb (gap_of (n - 4) at to) (gap_of (n - 4) u.place to)) s) ∙ h) in
        let front = gap_front n at u.place to ra p.range rest.0 at-to (omega arith) in
        record { range = p.range; good = front.0; least = omega (arith, front.1); most = omega (arith, front.1) })

-- the tests of each part, as the list that the part is
abbrev number_tests : Record → List Bool
number_tests rec =
    ltb 0 rec.id.own
    ∷ ltb 0 rec.id.peer
    ∷ leb 1 rec.id.link
    ∷ leb rec.id.link most_link
    ∷ remote_ok rec.remote
    ∷ not (rec.marks.sent.closed && rec.marks.heard.closed)
    ∷ []

abbrev offset_tests : ℕ → Record → List Bool
offset_tests n rec =
    in_range n rec.inbound.producer
    ∷ in_range n rec.inbound.consumer
    ∷ in_range n rec.inbound.told
    ∷ in_range rec.remote.size rec.outbound.producer
    ∷ in_range rec.remote.size rec.outbound.consumer
    ∷ []

abbrev distance_tests : ℕ → Record → List Bool
distance_tests n rec =
    good_b (n - 4) rec.inbound.told rec.inbound.consumer
    ∷ good_b (n - 4) rec.inbound.consumer rec.inbound.producer
    ∷ leb
    (gap_of (n - 4) rec.inbound.told rec.inbound.consumer + gap_of (n - 4) rec.inbound.consumer rec.inbound.producer)
    (n - 4)
    ∷ good_b (rec.remote.size - 4) rec.outbound.consumer rec.outbound.producer
    ∷ []

abbrev their_place : ℕ → Record → Bool
their_place n rec = place_ok n rec.inbound.consumer rec.inbound.producer rec.inbound.urgent

abbrev own_place : Record → Bool
own_place rec = place_ok rec.remote.size rec.outbound.consumer rec.outbound.producer rec.outbound.urgent

module _ (n : ℕ) (rec : Record) where
  pub coherent_facts : coherent_b n rec ≡ true → Coherent n rec
  unfolding coherent_b numbers_ok offsets_ok distances_ok places_ok
  coherent_facts e =
      let part = holds (numbers_ok rec ∷ offsets_ok n rec ∷ distances_ok n rec ∷ places_ok n rec ∷ []) e in
      let number = holds (number_tests rec) (part 0) in
      let offset = holds (offset_tests n rec) (part 1) in
      let distance = holds (distance_tests n rec) (part 2) in
      record {
        own_nonzero = ltb-true 0 rec.id.own (number 0);
        peer_nonzero = ltb-true 0 rec.id.peer (number 1);
        link_least = leb-true 1 rec.id.link (number 2);
        link_most = leb-true rec.id.link most_link (number 3);
        remote_ok_lem = number 4;
        not_both = not-true (rec.marks.sent.closed && rec.marks.heard.closed) (number 5);
        p_range = offset 0;
        c_range = offset 1;
        t_range = offset 2;
        q_range = offset 3;
        r_range = offset 4;
        tc_good = distance 0;
        cp_good = distance 1;
        sum = leb-true _ (n - 4) (distance 2);
        rq_good = distance 3;
        at_their_place = and_left (their_place n rec) (own_place rec) (part 3);
        at_own_place = and_right (their_place n rec) (own_place rec) (part 3);
      }

  numbers_from : Coherent n rec → numbers_ok rec ≡ true
  unfolding numbers_ok
  numbers_from f =
      simp (
        lt-ltb 0 rec.id.own f.own_nonzero,
        lt-ltb 0 rec.id.peer f.peer_nonzero,
        le-leb 1 rec.id.link f.link_least,
        le-leb rec.id.link most_link f.link_most,
        f.remote_ok_lem,
        f.not_both,
      )

  offsets_from : Coherent n rec → offsets_ok n rec ≡ true
  unfolding offsets_ok
  offsets_from f = simp (f.p_range, f.c_range, f.t_range, f.q_range, f.r_range)

  distances_from : Coherent n rec → distances_ok n rec ≡ true
  unfolding distances_ok
  distances_from f = simp (f.tc_good, f.cp_good, le-leb _ (n - 4) f.sum, f.rq_good)

  places_from : Coherent n rec → places_ok n rec ≡ true
  unfolding places_ok
  places_from f = simp (f.at_their_place, f.at_own_place)

  pub coherent_from : Coherent n rec → coherent_b n rec ≡ true
  unfolding coherent_b
  coherent_from f = simp (numbers_from f, offsets_from f, distances_from f, places_from f)

  -- the distance T to P, of which the peer's window is what is left
  pub tp_good :
      Coherent n rec
      → (good_b (n - 4) rec.inbound.told rec.inbound.producer ≡ true)
      × (gap_of (n - 4) rec.inbound.told rec.inbound.producer
      ≡ gap_of (n - 4) rec.inbound.told rec.inbound.consumer + gap_of (n - 4) rec.inbound.consumer rec.inbound.producer)
  tp_good f =
      gap_adds n rec.inbound.told rec.inbound.consumer rec.inbound.producer f.t_range f.c_range f.p_range
      f.tc_good f.cp_good f.sum

-- what a refusal tells
abbrev refusal_at : Bool → Bool → Bool → ℕ
refusal_at k a f = cond k (cond a (cond f 7 0) 6) 3

module _ (n : ℕ) (active : Bool) (rec : Record) (forbids : Bool) where
  pub refusal_none : refusal_of n active rec forbids ≡ 0 → (coherent_b n rec ≡ true) × (active ≡ true) × (forbids ≡ false)
  unfolding refusal_of
  refusal_none e = go (coherent_b n rec) active forbids e
    where
      go : (k a f : Bool) → refusal_at k a f ≡ 0 → (k ≡ true) × (a ≡ true) × (f ≡ false)
      go true true true e = absurd (omega arith)
      go true true false e = (refl, refl, refl)
      go true false f e = absurd (omega arith)
      go false a f e = absurd (omega arith)

  pub refusal-some :
      (refusal_of n active rec forbids ≡ 0)
      ⊎ ((refusal_of n active rec forbids ≡ 3) ⊎ ((refusal_of n active rec forbids ≡ 6) ⊎ (refusal_of n active rec forbids ≡ 7)))
  unfolding refusal_of
  refusal-some = go (coherent_b n rec) active forbids
    where
      go : (k a f : Bool) → let r = refusal_at k a f in (r ≡ 0) ⊎ ((r ≡ 3) ⊎ ((r ≡ 6) ⊎ (r ≡ 7)))
      go true true true = inr (inr (inr refl))
      go true true false = inl refl
      go true false f = inr (inr (inl refl))
      go false a f = inr (inl refl)

  pub refusal_3 : coherent_b n rec ≡ false → refusal_of n active rec forbids ≡ 3
  unfolding refusal_of
  refusal_3 e = simp e

  pub refusal_6 : coherent_b n rec ≡ true → active ≡ false → refusal_of n active rec forbids ≡ 6
  unfolding refusal_of
  refusal_6 e a = simp (e, a)

  pub refusal_7 : coherent_b n rec ≡ true → active ≡ true → forbids ≡ true → refusal_of n active rec forbids ≡ 7
  unfolding refusal_of
  refusal_7 e a f = simp (e, a, f)

  pub refusal_0 : coherent_b n rec ≡ true → active ≡ true → forbids ≡ false → refusal_of n active rec forbids ≡ 0
  unfolding refusal_of
  refusal_0 e a f = simp (e, a, f)

-- coherence is kept where the marks are not both C
module _ (n : ℕ) (rec : Record) where
  pub marks_facts : (m : Marks) → Coherent n rec → m.sent.closed && m.heard.closed ≡ false → Coherent n (marks_to rec m)
  unfolding marks_to
  marks_facts m f b = search rules

  pub marks_coherent : (m : Marks) → coherent_b n rec ≡ true → m.sent.closed && m.heard.closed ≡ false → coherent_b n (marks_to rec m) ≡ true
  marks_coherent m e b = coherent_from n (marks_to rec m) (marks_facts m (coherent_facts n rec e) b)

-- the record that open lays down is coherent
pub opened_coherent : (n : ℕ) (given : Opening) → least_size ≤ n → 0 < given.own → 0 < given.peer → 1 ≤ given.link
    → given.link ≤ most_link → remote_ok given.remote ≡ true → coherent_b n (opened_record given) ≡ true
unfolding opened_record in_range
opened_coherent n given n_least own_some peer_some link_least link_most remote_ok_lem =
    let remote = remote_facts given.remote remote_ok_lem in
    let own_range = lt-ltb 4 n (omega arith) in
    let remote_range = lt-ltb 4 given.remote.size (omega (arith, remote.size_least)) in
    let own_gap = gap_self (n - 4) start_cursor in
    let remote_gap = gap_self (given.remote.size - 4) start_cursor in
    coherent_from n (opened_record given)
    (record {
      own_nonzero = own_some;
      peer_nonzero = peer_some;
      link_least = link_least;
      link_most = link_most;
      remote_ok_lem = remote_ok_lem;
      not_both = refl;
      p_range = own_range;
      c_range = own_range;
      t_range = own_range;
      q_range = remote_range;
      r_range = remote_range;
      tc_good = own_gap.0;
      cp_good = own_gap.0;
      sum = omega (arith, own_gap.1);
      rq_good = remote_gap.0;
      at_their_place = place_none n start_cursor start_cursor;
      at_own_place = place_none given.remote.size start_cursor start_cursor;
    })

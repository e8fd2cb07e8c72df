-- A read; a place of bytes under way, which is taken, or the state forbids it; and the first message under way heard: each at an end where
-- the connection is open. Assumes nothing.
use mathlib.Core.Path.{◌≡◌, refl, sym, ap, ◌∙◌, subst}
use mathlib.Core.Logic.{◌⊎◌, inl, inr}
use mathlib.Core.Bool.{false, Bool, true, ◌&&◌, ◌||◌, cond, false≢true}
use mathlib.Core.Option.{some, some-injective}
use mathlib.Core.List.{List, [], ◌∷◌, ◌++◌, map, map-append}
use Prim.Native.Nat.{ℕ, zero, suc, ◌+◌, ◌-◌, ◌%◌, ◌≤◌, ◌<◌, min}
use native.Mathlib.Omega.{arith}
use lib.ListN.{length, take, get_or, get_elem?, length-append}
use lib.Seq.{length-take-le, get_or-take}
use Rattle.cursor.specs.Cursor.{cursor_at}
use Rattle.closing.specs.Closing.{marked}
use Rattle.closing.specs.declared.Marks.{Marks}
use Rattle.conn_answer.specs.declared.Outcome.{Outcome}
use Rattle.group_rules.specs.Rules.{Says, record_of_all, element_in, says_of, placed_in, Answer, refusal, link_of}
use Rattle.thm_order.specs.Statement.{At}
use Rattle.thm_refusals.proofs.Answers.{clash}
use Rattle.thm_safety.specs.Statement.{offset_from, accepted_b}
use Rattle.thm_positions.specs.Positions.{read_in}
use Rattle.thm_positions.proofs.Places.{offset_place, place_in, one_place}
use Rattle.thm_sent.specs.Books.{reads, Origin, End, origin_at, origins_from, gives, places, covers, performs, number_at, puts, hears, Item}
use Rattle.thm_sent.specs.Books.{message, failover_b, after_message, less_message, with_coming, with_group}
use Rattle.thm_sent.specs.OnlySent.{holds_of, OwedIn, EachOwed, AllPerformed, FirstIs}
use Rattle.thm_sent.specs.Plain.{OutwardIs, InwardIs, plain_read, unless_refused, Mark, Plain, Outward, Inward, with_marks, plain_heard}
use Rattle.thm_sent.specs.Plain.{plain_heard_out, plain_heard_in, plain_hears, aborts_b, plain_told, plain_reaches, told_mark}
use Rattle.thm_sent.proofs.Direction.{Dir, Read, dir_reads, dir_elem, Place, in_place_of, Here, dir_places, HeardBy, out_pos, out_marks}
use Rattle.thm_sent.proofs.Direction.{in_pos, in_way, hears_it, dir_hears, dir_passes, dir_drops, dir_hears_of}
use Rattle.thm_sent.proofs.Receives.{ReadStep, PlaceStep, taken_in, forbidden, owed_free, owed_in}
use Rattle.thm_sent.proofs.Pair.{out_of, in_of, Act, rec_of, elem_of, at_of, held, next_of, After, mid_by, no_items, finished}
use Rattle.thm_sent.proofs.Pair.{Hidden, Next, Stays, Mid}
use native.Mathlib.Decide.{dec_lt}
use Rattle.element.specs.Element.{splice, all_free}
use Rattle.element.proofs.Others.{splice_below, splice_above}
use Rattle.flow.specs.Flow.{window_of}
use Rattle.conn_answer.specs.declared.Reply.{Reply}
use Rattle.conn_answer.specs.Outcome.{told_of, outcome_of}
use Rattle.conn_receive.specs.Receive.{place_forbids}
use Rattle.conn_receive.proofs.Laws.{Placeable}
use Rattle.thm_safety.proofs.Lists.{splice_at, splice_none}
use Rattle.thm_sent.proofs.Way.{Position, covers_true, covers_is, way_owed, way_number, ends_b, Chain, chain_most, chain_heard}
use Rattle.thm_sent.proofs.Follows.{Follows, kept_self, outcome_follows, or_left, or_right}
use Rattle.thm_sent.proofs.Slots.{slot_of}
use lib.Dec.{ltb}
use Rattle.cdc.specs.declared.Message.{Message}
use Rattle.cdc.specs.Cdc.{decode_of}
use Rattle.closing.specs.declared.State.{State}
use Rattle.conn_record.specs.Connection.{zero_record}
use Rattle.conn_answer.specs.declared.Reply.TheVariants.{Heard}
use Rattle.conn_hear.specs.Hear.{hear_of}
use Rattle.thm_sent.proofs.Hears.{HearStep, Still, Fits, hear_muted, hear_next, hear_passes}

-- lists of origins
at_append : (a b : List Origin) (j : ℕ) (o : Origin) → At (a ++ b) j o → (At a j o) ⊎ ((length a ≤ j) × At b (j - length a) o)
at_append [] b j o h = let e : j ≡ j - 0 = omega arith in inr (omega arith, ap (get_elem? b) (sym e) ∙ h)
at_append (x ∷ a) b zero o h = inl h
at_append (x ∷ a) b (suc j) o h = go (at_append a b j o h)
  where
    go : (At a j o) ⊎ ((length a ≤ j) × At b (j - length a) o)
        → (At (x ∷ a) (suc j) o) ⊎ ((length (x ∷ a) ≤ suc j) × At b (suc j - length (x ∷ a)) o)
    go (inl w) = inl w
    go (inr w) = let e : j - length a ≡ suc j - suc (length a) = omega arith in inr (omega (arith, w.0), ap (get_elem? b) (sym e) ∙ w.1)

module _ (e : End) (k : ℕ) where
  origins_long : (i j : ℕ) → length (origins_from e k i j) ≡ j
  unfolding origins_from
  origins_long i zero = refl
  origins_long i (suc j) = ap suc (origins_long (suc i) j)

  at_origin : (j i y : ℕ) (o : Origin) → At (origins_from e k i j) y o → (y < j) × (origin_at e k (i + y) ≡ o)
  unfolding origins_from
  at_origin zero i y o h = absurd (never h)
    where
      never : get_elem? {A = Origin} [] y ≡ some o → ⊥
      never h = clash (cc)
  at_origin (suc j) i zero o h =
      let z : i + 0 ≡ i = omega arith in
      (omega arith, ap (origin_at e k) z ∙ some-injective (origin_at e k i) o h)
  at_origin (suc j) i (suc y) o h =
      let w = at_origin j (suc i) y o h in
      let z : i + suc y ≡ suc i + y = omega arith in
      (omega (arith, w.0), ap (origin_at e k) z ∙ w.1)

  origins_hold : (j i : ℕ) (b : List ℕ) → length b ≡ j → ((y : ℕ) → y < j → get_or b y 0 ≡ (origin_at e k (i + y)).holds)
      → map holds_of (origins_from e k i j) ≡ b
  unfolding origins_from
  origins_hold zero i [] l f = refl
  origins_hold zero i (v ∷ b) l f = absurd (omega (arith, l))
  origins_hold (suc j) i [] l f = absurd (omega (arith, l))
  origins_hold (suc j) i (v ∷ b) l f =
      let z : i + 0 ≡ i = omega arith in
      let first : (origin_at e k i).holds ≡ v = ap (λ (y : ℕ). (origin_at e k y).holds) (sym z) ∙ sym (f 0 (omega arith)) in
      let rest =
      origins_hold j (suc i) b (omega (arith, l)) (λ y h. f (suc y) (omega arith) ∙ ap (λ (x : ℕ). (origin_at e k x).holds) (shift y))
      in
      λ t. first t ∷ rest t
    where
      shift : (y : ℕ) → i + suc y ≡ suc i + y
      shift y = omega arith

module _ (a : Act) where
  open a use {n, m, d, d', full, full', e, f, p, q, h, k, pair, opened}

  abbrev pub WasRead : ℕ → Outcome → Type 0
  WasRead room o = ReadStep d (rec_of a) p.inward room o

  -- where byte j of a read stands
  abbrev offset_at : ℕ → ℕ
  offset_at j = offset_from e.group.N (rec_of a).inbound.consumer.offset j

  module _ (out : List ℕ) {o : Outcome} (step : WasRead (length out) o) (says : Says) (now_out : List ℕ) (read_is : read_in says ≡ step.m)
      (engine_is : unless_refused says (min (p.inward.P - p.inward.C) (length out)) ≡ step.m) (room : step.m ≤ length now_out)
      (each : (j : ℕ) → j < step.m → get_or now_out j 0 ≡ get_or (elem_of a) (offset_at j) 0)
      (record_is : record_of_all (next_of a) n.slot ≡ o.after) (element_is : element_in (next_of a) n.slot ≡ elem_of a) where
    -- so many bytes are read, and so many the engine reads
    abbrev read : ℕ
    read = read_in says

    abbrev gave : ℕ
    gave = unless_refused says (min (p.inward.P - p.inward.C) (length out))

    most : p.inward.C + read ≤ p.inward.P
    most = omega (arith, read_is, step.most)

    place_of : (j : ℕ) → j < read → offset_at j ≡ 4 + (p.inward.C + j) % d
    unfolding cursor_at
    place_of j l =
        (λ i. offset_from (pair.at_e.N_is i) ((at_of a).in_now.C_is i).offset j)
        ∙ offset_place d full p.inward.C j (omega (arith, l, most, (held a).P_C))

    byte_of : (j : ℕ) → j < read → get_or (take read now_out) j 0 ≡ get_or (elem_of a) (offset_at j) 0
    byte_of j l = get_or-take read now_out j 0 l ∙ each j (omega (arith, l, read_is))

    alive : (step.m ≡ 0) ⊎ ((rec_of a).marks.abort ≡ false) → (gave ≡ 0) ⊎ (p.mute ≡ false)
    alive (inl z) = inl (engine_is ∙ z)
    alive (inr z) = inr (sym (at_of a).mute_is ∙ z)

    put_of : (j : ℕ) → j < read → e.put (offset_at j) ≡ some (p.inward.C + j)
    put_of j l = ap e.put (place_of j l) ∙ go (alive step.alive)
      where
        go : (gave ≡ 0) ⊎ (p.mute ≡ false) → e.put (4 + (p.inward.C + j) % d) ≡ some (p.inward.C + j)
        go (inl z) = absurd (omega (arith, l, z, read_is, engine_is))
        go (inr z) = ((pair.to_e.unread (p.inward.C + j) (omega arith) (omega (arith, l, most, pair.to_e.P_x))).1 z).1

    abbrev origs : List Origin
    origs = origins_from e n.slot 0 read

    long : length (take read now_out) ≡ read
    long = length-take-le read now_out (omega (arith, room, read_is))

    books : Read d d' n (gives n e read now_out).read (p.inward.C + gave)
    books =
        let was = pair.to_e.read in
        record {
          holds_are = map-append holds_of e.read.origins origs ∙ (λ i. was.holds_are i ++ held_by i);
          each = λ j o h. by j o (at_append e.read.origins origs j o h);
          many = length-append e.read.origins origs ∙ omega (arith, was.many, origins_long e n.slot 0 read, read_is, engine_is);
        }
      where
        zero_plus : (y : ℕ) → y ≡ 0 + y
        zero_plus y = omega arith

        held_by : map holds_of origs ≡ take read now_out
        held_by =
            origins_hold e n.slot read 0 (take read now_out) long
            (λ y l. byte_of y l ∙ ap (λ (x : ℕ). (origin_at e n.slot x).holds) (zero_plus y))

        by : (j : ℕ) (o : Origin)
            → (At e.read.origins j o) ⊎ ((length e.read.origins ≤ j) × At origs (j - length e.read.origins) o)
            → (4 ≤ o.offset) × (o.offset < d + 4) × (o.put ≡ some j)
        by j o (inl z) = pair.to_e.read.each j o z
        by j o (inr z) =
            let y = j - length e.read.origins in
            let v = at_origin e n.slot read 0 y o z.1 in
            let is : origin_at e n.slot y ≡ o = ap (origin_at e n.slot) (zero_plus y) ∙ v.1 in
            let off : o.offset ≡ 4 + (p.inward.C + y) % d = ap (λ (r : Origin). r.offset) (sym is) ∙ place_of y v.0 in
            let inn = place_in d full (p.inward.C + y) in
            let number : p.inward.C + y ≡ j = omega (arith, z.0, pair.to_e.read.many) in (
              omega (arith, off, inn.0),
              omega (arith, off, inn.1),
              ap (λ (r : Origin). r.put) (sym is) ∙ put_of y v.0 ∙ ap some
                  number,
            )

    pub reads_event : After a (record { says = says; made = o.made; message = o.message; out = now_out }) (reads out)
    unfolding plain_read
    reads_event =
        finished a
        (mid_by a (gives n e (read_in says) now_out) [] step.follows
        (record {
          out_now = subst (OutwardIs d' p.outward) (sym step.same_out) (at_of a).out_now;
          in_now = subst (λ (v : ℕ). InwardIs d (plain_read p.inward v) step.c1.inbound) (sym engine_is) step.now;
          over-is = λ z. (at_of a).over-is (ap (λ (x : Marks). marked x.heard) (sym step.same_marks) ∙ z);
        })
        refl refl refl (no_items a e p h pair.to_f)
        (dir_elem
        (dir_reads pair.to_e gave (gives n e read now_out).read (take read now_out) refl (alive step.alive)
        (omega (arith, most, read_is, engine_is))
        (long ∙ read_is ∙ sym engine_is)
        (λ j l. let r : j < read = omega (arith, l, read_is, engine_is) in byte_of j r ∙ ap (λ (x : ℕ). get_or (elem_of a) x 0) (place_of j r))
        books)
        (element_in (next_of a) n.slot) element_is))
        opened record_is

module _ (a : Act) (at : ℕ) (b : List ℕ) (owed_All : EachOwed a.n a.e at b) where
  open a use {n, m, d, d', full, e, f, p, q, h, k, pair, opened, is_open}

  abbrev C : ℕ
  C = p.inward.C

  Q_C : q.outward.Q ≤ C + d
  Q_C = omega (arith, pair.to_e.order)

  x_C : C ≤ h.seen.x
  x_C = omega (arith, pair.to_e.order.C_P, pair.to_e.P_x)

  -- each byte is that of a position
  position : (i : ℕ) → i < length b → Position d f.took (at + i) (get_or b i 0) h.seen.x q.outward.Q
  position i l =
      way_owed (at + i) (get_or b i 0) pair.to_e.way
      (subst (λ (s : ℕ). OwedIn n s (at + i) (get_or b i 0) e.coming) pair.at_e.N_is (owed_All i l))

  -- so they are free
  pub may_place_lem : Placeable (d + 4) (rec_of a).inbound at (length b)
  may_place_lem = go (length b) refl
    where
      where_to : (i : ℕ) → i < length b → (y : ℕ) × (p.inward.P ≤ y) × (y < p.inward.T + d) × (at + i ≡ 4 + y % d)
      where_to i l =
          let y = position i l in
          (y.z, omega (arith, y.low, pair.to_e.P_x), omega (arith, y.high, pair.to_e.order), y.place_is)

      go : (j : ℕ) → length b ≡ j → Placeable (d + 4) (rec_of a).inbound at (length b)
      go zero z = inl z
      go (suc j) z =
          let TP : p.inward.T ≤ p.inward.P = omega (arith, pair.to_e.order) in
          let PT : p.inward.P ≤ p.inward.T + d = omega (arith, pair.to_e.order) in
          let inn = owed_in d full p.inward.T p.inward.P at (length b) TP PT where_to (omega (arith, z)) in
          let four : d + 4 - 4 ≡ d = omega arith in
          let now = (at_of a).in_now in
          inr (
            inn.0,
            inn.1,
            (λ i. all_free (four i) (now.P_is i).offset (window_of (d + 4) (now.T_is i) (now.P_is i)) at (length b))
                ∙ owed_free d full p.inward.T p.inward.P at (length b) TP PT where_to,
          )

  -- the element with what was put there
  abbrev placed : Bool → List ℕ → Place
  placed taken elem =
      record {
        opened = e.opened;
        elem = elem;
        put = λ y. cond (taken && covers at (length b) y) (number_at n e.group.N y e.coming) (e.put y);
      }

  abbrev Placed : Place → Type 0
  Placed x = Dir d d' n (out_of f q k) (in_place_of (in_of n e p h) x (map (performs n (d + 4) at (length b)) e.coming))

  -- THE BYTES ARE STORED
  module _ (may : Placeable (d + 4) (rec_of a).inbound at (length b)) where
    fits : 0 < length b → at + length b ≤ length (elem_of a)
    fits any = go may
      where
        go : Placeable (d + 4) (rec_of a).inbound at (length b) → at + length b ≤ length (elem_of a)
        go (inl z) = absurd (omega (arith, z))
        go (inr z) = omega (arith, z.1, (slot_of e.group pair.at_e.sound n.slot is_open).long, pair.at_e.N_is)

    byte_stays : (y : ℕ) → covers at (length b) y ≡ false → get_or (splice (elem_of a) at b) y 0 ≡ get_or (elem_of a) y 0
    byte_stays y z =
        elim (dec_lt 0 (length b)) [
          | yes any ↦
              elim (dec_lt y at) [
                | yes l ↦ splice_below 0 (elem_of a) b at (fits any) y l
                | no l ↦ splice_above 0 (elem_of a) b at (fits any) y (above (omega (arith, l)))
              ]
          | no non ↦ ap (λ (l : List ℕ). get_or l y 0) (splice_none (elem_of a) b at (omega (arith, non)))
        ]
      where
        above : at ≤ y → at + length b ≤ y
        above l =
            elim (dec_lt y (at + length b)) [
              | yes r ↦ absurd (false≢true (sym z ∙ covers_is at (length b) y l r))
              | no r ↦ omega (arith, r)
            ]

    here_covered : (z : ℕ) → C ≤ z → z < q.outward.Q → covers at (length b) (4 + z % d) ≡ true
        → Here d d' n f.took (placed true (splice (elem_of a) at b)) z
    here_covered z lo hi cov =
        let y = 4 + z % d in
        let r = covers_true at (length b) y cov in
        let there : at + (y - at) ≡ y = omega (arith, r.0) in
        let pos = position (y - at) (omega (arith, r.0, r.1)) in
        let same : z ≡ pos.z =
        one_place d full z pos.z (omega (arith, hi, Q_C, pos.low, x_C)) (omega (arith, pos.high, Q_C, lo)) (sym there ∙ pos.place_is)
        in (
          splice_at (elem_of a) b at y (fits (omega (arith, r.0, r.1))) r.0 r.1 ∙ sym pos.value-is
              ∙ ap (λ (j : ℕ). get_or f.took j 0) (sym same),
          (λ j. cond (cov j) (number_at n (pair.at_e.N_is j) y e.coming) (e.put y))
              ∙ way_number full z pair.to_e.way (omega (arith, same, pos.low)) hi (omega (arith, Q_C, x_C)),
        )

    here_kept : (z : ℕ) → C ≤ z → z < q.outward.Q → Here d d' n f.took (in_of n e p h).place z
        → Here d d' n f.took (placed true (splice (elem_of a) at b)) z
    here_kept z lo hi old = go (covers at (length b) (4 + z % d)) refl
      where
        go : (t : Bool) → covers at (length b) (4 + z % d) ≡ t → Here d d' n f.took (placed true (splice (elem_of a) at b)) z
        go true cov = here_covered z lo hi cov
        go false cov = (
          byte_stays (4 + z % d) cov ∙ old.0,
          (λ j. cond (cov j) (number_at n e.group.N (4 + z % d) e.coming) (e.put (4 + z % d))) ∙ old.1,
        )

    stored : Placed (placed true (splice (elem_of a) at b))
    stored =
        dir_places pair.to_e at (length b) (placed true (splice (elem_of a) at b)) opened opened (λ z lo hi mu old. here_kept z lo hi old)
        (λ z lo hi mu cov. here_covered z (omega (arith, lo, x_C)) hi cov)

  -- THE STATE FORBIDS: A was sent, or none are left to come
  kept : place_forbids (rec_of a).marks ≡ true → Placed (placed false (elem_of a))
  unfolding place_forbids
  kept bars =
      dir_places pair.to_e at (length b) (placed false (elem_of a)) opened opened (λ z lo hi mu old. old)
      (λ z lo hi mu cov. absurd
      (omega (arith, lo, hi, (pair.to_e.over-is ((at_of a).over-is (none_left (rec_of a).marks.abort ((at_of a).mute_is ∙ mu) bars))).1)))
    where
      none_left : (t : Bool) → t ≡ false → t || marked (rec_of a).marks.heard ≡ true → marked (rec_of a).marks.heard ≡ true
      none_left true z y = absurd (false≢true (sym z))
      none_left false z y = y

  pub places_event : {o : Outcome} → Follows (rec_of a) (rec_of a) o → PlaceStep (rec_of a) o
      → record_of_all (next_of a) n.slot ≡ o.after → element_in (next_of a) n.slot ≡ placed_in o.reply (elem_of a) at b
      → After a (record { says = says_of o.reply; made = o.made; message = o.message; out = [] }) (places at b)
  places_event {o} follows step record_is element_is =
      finished a
      (mid_by a (puts n e (accepted_b (says_of o.reply)) at (length b)) [] follows
      (record { out_now = (at_of a).out_now; in_now = (at_of a).in_now; over-is = (at_of a).over-is }) refl refl refl
      (no_items a e p h pair.to_f) (to_e step))
      opened record_is
    where
      at-end : (r : Reply) → o.reply ≡ r → Placed (placed (accepted_b (says_of r)) (placed_in r (elem_of a) at b))
          → Dir d d' n (out_of f q k)
          (in_place_of (in_of n e p h) (placed (accepted_b (says_of o.reply)) (element_in (next_of a) n.slot))
          (map (performs n e.group.N at (length b)) e.coming))
      at-end r z =
          subst (Dir d d' n (out_of f q k))
          (λ i.
          in_place_of (in_of n e p h)
          (placed (accepted_b (says_of (sym z i))) ((ap (λ (y : Reply). placed_in y (elem_of a) at b) (sym z) ∙ sym element_is) i))
          (map (performs n (sym pair.at_e.N_is i) at (length b)) e.coming))

      to_e : PlaceStep (rec_of a) o
          → Dir d d' n (out_of f q k)
          (in_place_of (in_of n e p h) (placed (accepted_b (says_of o.reply)) (element_in (next_of a) n.slot))
          (map (performs n e.group.N at (length b)) e.coming))
      to_e (taken_in z) = at-end _ z (stored may_place_lem)
      to_e (forbidden z bars) = at-end _ z (kept bars)

-- what hearing it says
abbrev pub FirstOf : Act → List ℕ → Type 0
FirstOf a b = HeardBy a.d a.d' a.n (out_of a.f a.q a.k) (in_of a.n a.e a.p a.h) b

module _ (a : Act) (b : List ℕ) (first-is : FirstIs b a.e.coming) (all : AllPerformed a.e.coming)
    (up : link_of a.e.group a.n.slot ≡ true) where
  open a use {n, m, d, d', full, full', e, f, p, q, h, k, pair, opened}

  pub the_first : FirstOf a b
  the_first = hears_it pair.to_e b first-is all

  abbrev pub msg : Message
  msg = the_first.is.bears.m

  abbrev mark : Mark
  mark = the_first.first

  abbrev rest : List Mark
  rest = the_first.rest

  abbrev o : Outcome
  o = hear_of (d + 4) (link_of e.group n.slot) (rec_of a) msg

  abbrev said : Answer
  said = record { says = says_of o.reply; made = o.made; message = o.message; out = [] }

  abbrev StepTo : Outward → Inward → Type 0
  StepTo o1 i1 = HearStep d d' p.outward.Q p.inward.C (rec_of a) msg o1 i1 o

  -- what is left of the messages under way, and the engine
  left_is : (t : Bool) → mark.failover ≡ t
      → cond t (less_message e.coming) (after_message e.coming)
      ≡ cond (failover_b (decode_of b)) (less_message e.coming) (after_message e.coming)
  left_is t z =
      ap (λ (u : Bool). cond u (less_message e.coming) (after_message e.coming))
      (sym (ap failover_b the_first.is.bears.decoded ∙ the_first.is.bears.failover_is ∙ z))

  engine_is : (t : Bool) → mark.failover || p.mute ≡ t → cond t (with_marks p rest) (plain_heard p mark rest) ≡ plain_hears p p.coming
  unfolding plain_hears
  engine_is t z =
      ap (λ (u : Bool). cond u (with_marks p rest) (plain_heard p mark rest)) (sym z) ∙ ap (plain_hears p) (sym the_first.marks_are)

  module _ (record_is : record_of_all (next_of a) n.slot ≡ o.after) (element_is : element_in (next_of a) n.slot ≡ elem_of a) where
    -- l is left under way, and p1 of the engine before telling
    abbrev Goal : List Item → Plain → Type 0
    Goal l p1 =
        Next a (with_group (with_coming e l) (next_of a)) (with_coming f (f.coming ++ cond o.made (message o.message ∷ []) []))
        (cond o.made (plain_told p1 (aborts_b (decode_of o.message))) p1) (cond o.made (plain_reaches q (told_mark p1)) q)

    so : (t u : Bool) → mark.failover ≡ t → mark.failover || p.mute ≡ u
        → Goal (cond t (less_message e.coming) (after_message e.coming)) (cond u (with_marks p rest) (plain_heard p mark rest))
        → After a said (hears b)
    so t u x y g =
        subst (λ (l : List Item). Goal l (plain_hears p p.coming)) (left_is t x)
        (subst (Goal (cond t (less_message e.coming) (after_message e.coming))) (engine_is u y) g)

    -- ONE WITH F: its number is the last heard; nothing changes, and no message is made
    pub passes : mark.failover ≡ true → (After a said (hears b)) × ((i : ℕ) → says_of o.reply ≡ refusal i → ⊥) × (o.made ≡ false)
    unfolding outcome_of the_first
    passes far = (
      so true true far (or_left p.mute far)
          (finished a
          (mid_by a (with_coming e (less_message e.coming)) [] follows
          (record { out_now = (at_of a).out_now; in_now = (at_of a).in_now; over-is = (at_of a).over-is }) refl refl refl
          (no_items a e (with_marks p rest) h (dir_drops pair.to_f mark rest the_first.marks_are))
          (dir_elem (dir_passes pair.to_e b first-is all far) (element_in (next_of a) n.slot) element_is))
          opened record_is),
      λ i y. let bad : says_of (Heard 0 same.0) ≡ refusal i = ap (λ (x : Outcome). says_of x.reply) (sym same.1) ∙ y in clash (cc),
      ap (λ (x : Outcome). x.made) same.1,
    )
      where
        number : (rec_of a).marks.abort ≡ false → msg.sequence ≡ (rec_of a).inbound.last
        number live =
            let is = the_first.is.bears in
            let none : h.seen.s + cond mark.failover 0 1 ≡ h.seen.s = ap (λ (t : Bool). h.seen.s + cond t 0 1) far ∙ omega arith in
            let last = (pair.to_e.caught_up (sym (at_of a).mute_is ∙ live)).1 in
            is.sequence_is ∙ ap (λ (j : ℕ). j % 65536) (none ∙ last) ∙ sym (at_of a).in_now.last_number_is

        same : (st : State) × (o ≡ outcome_of (Heard 0 st) false (rec_of a))
        same =
            hear_passes (held a) up msg (the_first.is.bears.not_abort far) (the_first.is.bears.failover_is ∙ far) number

        follows : Follows (rec_of a) (rec_of a) o
        follows =
            subst (Follows (rec_of a) (rec_of a)) (sym same.1)
            (outcome_follows (kept_self (rec_of a)) (Heard 0 same.0) false (λ e. (refl, refl)))

    -- ANY OTHER, which leaves o1 and i1
    module _ (plain : mark.failover ≡ false) {o1 : Outward} {i1 : Inward} (step : StepTo o1 i1) (Q-same : o1.Q ≡ p.outward.Q)
        (C-same : i1.C ≡ p.inward.C)
        (made_same : o1.made ≡ p.outward.made) (to_f : Dir d' d m (out_marks (out_pos (out_of e p h) o1) rest) (in_of m f q k))
        (to_e : (over : Bool) → (over ≡ true → (h.seen.over ≡ true) ⊎ (ends_b msg ≡ true))
        → Dir d d' n (out_of f q k)
        (in_pos (in_way (in_of n e p h) (after_message e.coming) rest) i1 p.mute
        (record { x = the_first.x'; s = h.seen.s + 1; over = over }))) where
      abbrev p1 : Plain
      p1 = record { outward = o1; inward = i1; mute = p.mute; coming = rest }

      abbrev h1 : Bool → Hidden
      h1 over = record { ended = h.ended; seen = record { x = the_first.x'; s = h.seen.s + 1; over = over } }

      mid : (over : Bool) → (over ≡ true → (h.seen.over ≡ true) ⊎ (ends_b msg ≡ true))
          → (o.after ≡ zero_record) ⊎ ((o.after ≡ cond o.made (told_of step.c1) step.c1) × Stays a p1 (h1 over) step.c1)
          → Mid a (with_coming e (after_message e.coming)) [] p1 (h1 over) step.c1 o
      mid over why left =
          record {
            follows = step.follows;
            Q_is = step.Q_is ∙ ap (cursor_at d') (sym Q-same);
            C_is = step.C_is ∙ ap (cursor_at d) (sym C-same);
            urgent_is = step.urgent_is;
            left = left;
            mute_same = refl;
            made_same = made_same;
            ended_same = refl;
            to_f = no_items a e p1 (h1 over) to_f;
            to_e = dir_elem (to_e over why) (element_in (next_of a) n.slot) element_is;
          }

      next_goal : Goal (after_message e.coming) p1
      next_goal = go step.left
        where
          by : (marked (rec_of a).marks.heard ≡ true) ⊎ (ends_b msg ≡ true) → (h.seen.over ≡ true) ⊎ (ends_b msg ≡ true)
          by (inl y) = inl ((at_of a).over-is y)
          by (inr y) = inr y

          go : (o.after ≡ zero_record)
              ⊎ Still d d' (rec_of a) msg o1 i1 step.c1 o
              → Goal (after_message e.coming) p1
          go (inl z) = finished a (mid false (λ y. absurd (false≢true y)) (inl z)) opened record_is
          go (inr z) =
              finished a
              (mid (marked step.c1.marks.heard) (λ y. by (z.heard_up y))
              (inr (z.left_is, record { out_now = z.out_now; in_now = z.in_now; over-is = λ y. y })))
              opened record_is

    -- after A was sent
    muted : mark.failover ≡ false → p.mute ≡ true → StepTo p.outward p.inward → After a said (hears b)
    unfolding the_first
    muted plain mute step =
        so false true plain (or_right mark.failover mute)
        (next_goal plain step refl refl refl (dir_drops pair.to_f mark rest the_first.marks_are)
        (λ over why.
        dir_hears pair.to_e b first-is all plain p.inward.P p.inward.W p.inward.last over (omega arith)
        (omega (arith, pair.to_e.P_x, the_first.up))
        pair.to_e.order.W_P (λ z. absurd (false≢true (sym z ∙ mute))) why))

    -- the next message
    live : mark.failover ≡ false → p.mute ≡ false → StepTo (plain_heard_out p.outward mark) (plain_heard_in p.inward mark)
        → After a said (hears b)
    unfolding plain_heard plain_heard_out plain_heard_in the_first
    live plain mute step =
        let is = the_first.is.bears in
        let caught = pair.to_e.caught_up mute in
        so false false plain ((λ i. plain i || p.mute) ∙ mute)
        (next_goal plain step refl refl refl (dir_hears_of pair.to_f mark rest the_first.marks_are plain)
        (λ over why.
        dir_hears pair.to_e b first-is all plain mark.taken (W_new (mark.urges && ltb p.inward.P mark.taken)) mark.number
        over
        (omega (arith, caught.0, the_first.up, is.taken_is)) (omega (arith, is.taken_is))
        (W_below (mark.urges && ltb p.inward.P mark.taken))
        (λ z. (sym is.taken_is, ap (λ (t : Bool). h.seen.s + cond t 0 1) (sym plain) ∙ sym is.number_is)) why))
      where
        W_new : Bool → ℕ
        W_new t = cond t mark.taken p.inward.W

        W_below : (t : Bool) → cond t mark.taken p.inward.W ≤ mark.taken
        W_below true = omega arith
        W_below false = omega (arith, pair.to_e.order.W_P, (pair.to_e.caught_up mute).0, the_first.up, the_first.is.bears.taken_is)

    pub heard_event : mark.failover ≡ false → (After a said (hears b)) × ((i : ℕ) → says_of o.reply ≡ refusal i → ⊥)
    heard_event plain = go p.mute refl
      where
        not_refused : {o1 : Outward} {i1 : Inward} → StepTo o1 i1 → (i : ℕ) → says_of o.reply ≡ refusal i → ⊥
        not_refused step i y = let bad = ap says_of (sym step.replies) ∙ y in clash (cc)

        still : p.mute ≡ false → (t : Bool) → marked (rec_of a).marks.heard ≡ t
            → (marked (rec_of a).marks.heard ≡ false) ⊎ (mark.taken ≡ p.inward.P)
        still z false y = inl y
        still z true y =
            let over = pair.to_e.over-is ((at_of a).over-is y) in
            inr (omega (arith, the_first.is.bears.taken_is, over.1, the_first.up, the_first.most, (pair.to_e.caught_up z).0))

        fits : Fits d p.outward p.inward mark
        fits =
            let c =
            chain_heard mark rest p.outward.R q.inward.T plain
            (subst (λ (l : List Mark). Chain p.outward.R l q.inward.T) the_first.marks_are pair.to_f.chain)
            in
            let most = chain_most rest mark.read q.inward.T c.1 in
            let taken = the_first.is.bears.taken_is in
            let up = the_first.up in
            let top = the_first.most in
            let below = pair.to_e.P_x in
            let there = pair.to_f.order in
            let here = pair.to_e.order in
            omega (arith, c.0)

        go : (t : Bool) → p.mute ≡ t → (After a said (hears b)) × ((i : ℕ) → says_of o.reply ≡ refusal i → ⊥)
        go true mute =
            let step =
            hear_muted (held a) up msg ((at_of a).mute_is ∙ mute)
            in
            (muted plain mute step, not_refused step)
        go false mute =
            let step =
            hear_next (held a) up n the_first.is.bears plain fits (sym (pair.to_e.caught_up mute).1) ((at_of a).mute_is ∙ mute)
            (still mute (marked (rec_of a).marks.heard) refl)
            in
            (live plain mute step, not_refused step)

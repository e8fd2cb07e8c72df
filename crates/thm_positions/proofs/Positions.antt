-- The claims of specs/Positions. Assumes nothing.
use mathlib.Core.Path.{◌≡◌, refl, sym, ap, ◌∙◌, subst}
use mathlib.Core.Logic.{◌⊎◌, inl, inr}
use mathlib.Core.Bool.{false≢true}
use mathlib.Core.List.{List, [], ◌∷◌, ◌++◌}
use Prim.Native.Nat.{ℕ, zero, suc, ◌+◌, ◌-◌, ◌%◌, ◌≤◌, ◌<◌}
use native.Mathlib.Nat.{mod-eq_of_lt}
use native.Mathlib.Decide.{dec_lt}
use native.Mathlib.Omega.{arith}
use lib.ListN.{get_or, length, take, length-append, length-take}
use Rattle.conn_record.specs.declared.Opening as Given
use Rattle.group_rules.specs.Rules.{Group, next, record_of_all, element_in, Call, Fresh, accepted, answer, does, open_slot, manage, on, place}
use Rattle.thm_order.proofs.Slots.{open_in, open_is}
use Rattle.thm_safety.specs.Statement.{OpenAt}
use Rattle.thm_safety.proofs.Invariant.{no_slot_0, Sound, sizes}
use Rattle.cursor.specs.declared.Cursor.{Cursor}
use Rattle.thm_order.specs.Statement.{leaves, answers}
use Rattle.cursor.specs.Cursor.{cursor_at, data_of}
use Rattle.thm_positions.specs.Positions.{offset_of, Journal, opened, journal, AreBytes, OfEachSlot, lap_of, cursor_p, byte_at, Follows, CursorsFollow, HandsOut, byte_out, EachPositionOnce, after_call, read_in, journal_from, ReadAsAnnounced, Stay, AnnouncedStay, StoredAhead, NotOld, NoOldLap}
use Rattle.thm_positions.proofs.Places.{norm}
use Rattle.thm_safety.proofs.Sound.{kept_sizes, sound_fresh, sound_leaves, leaves_sizes, sound_next}
use Rattle.thm_positions.proofs.Noted.{SlotTurn, aside, moves, turns, begins, closes, strays, HeardWith, Noted}
use Rattle.thm_positions.proofs.Journals.{stays_byte, handed_byte, placed_ahead}
use Rattle.thm_positions.proofs.HandedOut.{Unopened, HandsFrom, some_from, order_from, byte_from, grows, said_by, stays_by}
use Rattle.thm_positions.proofs.Followed.{KeepsAt, Following, long, slot_turned, fresh_follows, not_closed, was_open, was_open_by, call_follows, list_follows}
use Rattle.conn_record.specs.declared.Record.{Record}
use Rattle.conn_record.specs.Connection.{zero_record}
use Rattle.thm_safety.proofs.Calls.{Opening}
use Rattle.thm_positions.proofs.Inbound.{Steps}
use Rattle.thm_safety.proofs.Bytes.{opens_later, opens_first}
use Rattle.thm_safety.proofs.OnSlot.{placed_inside}
use mathlib.Core.Option.{some, none, Option}

-- slots are counted from 1
module _ (P : Group → ℕ → Journal → Type 0) where
  of_each : ((g : Group) → Fresh g → (cs : List Call) (i : ℕ) → OpenAt (leaves g cs) (suc i) → P (leaves g cs) (suc i) (journal g cs (suc i)))
      → OfEachSlot P
  of_each h g f cs zero o = absurd (no_slot_0 (leaves g cs) o)
  of_each h g f cs (suc i) o = h g f cs i o

module _ (g : Group) (f : Fresh g) (cs : List Call) (i : ℕ) (o : OpenAt (leaves g cs) (suc i)) where
  sound : Sound (leaves g cs)
  sound = sound_leaves cs g (sound_fresh g f)

  keeps : KeepsAt (AreBytes cs) (leaves g cs) i (journal g cs (suc i))
  keeps = fresh_follows g f cs i o

  same_N : (leaves g cs).N ≡ g.N
  same_N = (leaves_sizes cs g (sound_fresh g f)).1

-- 1. The cursors follow
follows : OfEachSlot Follows
follows =
    of_each Follows
    (λ g f cs i o.
    let k = keeps g f cs i o in
    record {
      C_at = k.C_at;
      T_at = k.T_at;
      told_handed = k.told_handed;
      handed_announced = k.handed_announced;
      announced_most = k.announced_most;
    })

is_norm : (c : Cursor) → c.wrap < 65536 → norm c ≡ c
is_norm c h = let e : c.wrap % 65536 ≡ c.wrap = mod-eq_of_lt h in λ i. record { offset = c.offset; wrap = e i }

P_follows : (g : Group) → Fresh g → (cs : List Call) (k : ℕ) → OpenAt (leaves g cs) k → AreBytes cs
    → cursor_p (leaves g cs) k ≡ cursor_at (lap_of g) (journal g cs k).announced
P_follows g f cs zero o b = absurd (no_slot_0 (leaves g cs) o)
P_follows g f cs (suc i) o b =
    let k = keeps g f cs i o in
    let d = ap (λ (n : ℕ). n - 4) (same_N g f cs i o) in
    sym (is_norm (cursor_p (leaves g cs) (suc i)) (k.P_bits b))
    ∙ k.P_at
    ∙ ap (λ (n : ℕ). cursor_at n (journal g cs (suc i)).announced) d

pub cursors_follow : CursorsFollow
cursors_follow = (follows, P_follows)

-- 2. Each position once
module _ (g : Group) (cs : List Call) (k : ℕ) where
  from : (i y : ℕ) → HandsOut g cs k i y → HandsFrom (data_of g.N) (opened 0) g cs k i y
  from i y h = record { out = h.out; n = h.n; is = h.is; says = h.says; since = h.since; low = h.low; high = h.high }

  to : (i y : ℕ) → HandsFrom (data_of g.N) (opened 0) g cs k i y → HandsOut g cs k i y
  to i y h = record { out = h.out; n = h.n; is = h.is; says = h.says; since = h.since; low = h.low; high = h.high }

pub each_position_once : EachPositionOnce
unfolding from
each_position_once g f cs k =
    record { some_read = some_read; one_read = one_read; in_order = in_order; its_byte = its_byte }
  where
    s : Sound g
    s = sound_fresh g f

    some_read : (y : ℕ) → y < (journal g cs k).handed → (i : ℕ) × HandsOut g cs k i y
    some_read y h = go (some_from (data_of g.N) k cs g s (opened 0) y h)
      where
        go : ((y < 0) × Unopened g cs k) ⊎ ((i : ℕ) × HandsFrom (data_of g.N) (opened 0) g cs k i y) → (i : ℕ) × HandsOut g cs k i y
        go (inl w) = absurd (omega (arith, w.0))
        go (inr w) = (w.0, to g cs k w.0 y w.1)

    in_order : (i j y z : ℕ) → HandsOut g cs k i y → HandsOut g cs k j z → i < j → y < z
    in_order i j y z p q l = order_from (data_of g.N) k cs g s (opened 0) i j y z (from g cs k i y p) (from g cs k j z q) l

    one_read : (i j y : ℕ) → HandsOut g cs k i y → HandsOut g cs k j y → i ≡ j
    one_read i j y p q =
        elim (dec_lt i j) [
          | yes l ↦ absurd (omega (arith, in_order i j y y p q l))
          | no l ↦ elim (dec_lt j i) [ yes m ↦ absurd (omega (arith, in_order j i y y q p m)) | no m ↦ omega arith ]
        ]

    its_byte : (i y : ℕ) (r : HandsOut g cs k i y) → byte_out g cs k i y r ≡ get_or (journal g cs k).stream y 0
    its_byte i y r = byte_from (data_of g.N) k cs g s (opened 0) refl i y (from g cs k i y r)

-- 3. Announced bytes stay
module _ (B : Type 0) (g : Group) (s : Sound g) (i : ℕ) (j : Journal) (k : Following B g i j) (o : OpenAt g (suc i)) (c : Call) (y : ℕ) where
  stay : j.told ≤ y → y < j.announced → byte_at (next g c) (suc i) y ≡ byte_at g (suc i) y
  stay l m =
      ap (λ (n : ℕ). get_or (element_in (next g c) (suc i)) (offset_of (n - 4) y) 0) (kept_sizes g s c).1 ∙ go (slot_turned B g s c i j k)
    where
      go : SlotTurn g c i j → get_or (element_in (next g c) (suc i)) (offset_of (g.N - 4) y) 0 ≡ byte_at g (suc i) y
      go (aside r e w) = ap (λ x. get_or x (offset_of (g.N - 4) y) 0) e
      go (moves b e w) = ap (λ x. get_or x (offset_of (g.N - 4) y) 0) e
      go (turns p n) =
          stays_byte B g.N (sizes g s).least (record_of_all g (suc i)) (element_in g (suc i)) (long B g s c i j k o) (s.coherent i o) j (k o)
          (element_in (next g c) (suc i)) n.bytes n.said.says n.storing y l m
      go (begins given z p a r w) = absurd (false≢true (sym z ∙ (open_in g.S g.table (suc i) o).is_open))
      go (closes r e w) = ap (λ x. get_or x (offset_of (g.N - 4) y) 0) e
      go (strays x r a w n) = absurd (x o)

-- a position that stood announced and unread, with the byte v: it still does; or it was read; or the slot closed before
data Fate (g : Group) (i : ℕ) (j : Journal) (y v : ℕ) : Type 0 where
  waits : OpenAt g (suc i) → j.handed ≤ y → y < j.announced → byte_at g (suc i) y ≡ v → Fate g i j y v
  was_read : y < length j.stream → get_or j.stream y 0 ≡ v → Fate g i j y v
  is_gone : (OpenAt g (suc i) → ⊥) → j.handed ≤ y → Fate g i j y v

module _ (g : Group) (s : Sound g) (i : ℕ) (j : Journal) (k : Following ⊥ g i j) (c : Call) (u : Opening g c (suc i) (does g c) → ⊥) (y v : ℕ) where
  l : Journal
  l = after_call (g.N - 4) (suc i) j c (answer g c)

  still_open : OpenAt g (suc i) → (record_of_all (next g c) (suc i)).id ≡ (record_of_all g (suc i)).id → OpenAt (next g c) (suc i)
  still_open o e =
      let w = open_in g.S g.table (suc i) o in
      open_is (next g c).S (next g c).table (suc i) (rw (kept_sizes g s c).0 w.slot) (ap (λ r. r.opened) e ∙ w.is_open)

  still_open_by : OpenAt g (suc i) → (record_of_all (next g c) (suc i)).id.opened ≡ (record_of_all g (suc i)).id.opened → OpenAt (next g c) (suc i)
  still_open_by o e =
      let w = open_in g.S g.table (suc i) o in
      open_is (next g c).S (next g c).table (suc i) (rw (kept_sizes g s c).0 w.slot) (e ∙ w.is_open)

  not-zero : record_of_all (next g c) (suc i) ≡ zero_record → OpenAt (next g c) (suc i) → ⊥
  unfolding zero_record
  not-zero e o = not_closed ⊥ g s c i j k o (ap (λ (r : Record). r.id.opened) e)

  -- what is said with one call more
  not_opened : {A : Type 0} (given : Given.Opening) → c ≡ manage (open_slot (suc i) given) → (answer g c).says ≡ accepted → A
  not_opened given p a = absurd (u (record { given = given; is = p; took = a }))

  from_turn : OpenAt g (suc i) → j.handed ≤ y → y < j.announced → byte_at g (suc i) y ≡ v → Noted g c i j → Fate (next g c) i l y v
  unfolding l
  from_turn o h m b n =
      elim (dec_lt y (j.handed + read_in n.said.says)) [
        | yes t ↦
            let stream = j.stream ++ take (read_in n.said.says) n.said.out in
            let is : l.stream ≡ stream = ap (λ (x : Journal). x.stream) n.is_noted in
            let size = length-append j.stream (take (read_in n.said.says) n.said.out) in
            was_read
            (omega (arith, ap length is, size, length-take (read_in n.said.says) n.said.out, n.reading.room, (k o).as_handed))
            (ap (λ x. get_or x y 0) is
            ∙ handed_byte ⊥ g.N (sizes g s).least (record_of_all g (suc i)) (element_in g (suc i)) (long ⊥ g s c i j k o) (s.coherent i o) j (k o)
            n.said n.reading y h t
            ∙ b)
        | no t ↦ go n.goes (omega arith)
      ]
    where
      go : (record_of_all (next g c) (suc i) ≡ zero_record)
          ⊎ (((record_of_all (next g c) (suc i)).id ≡ (record_of_all g (suc i)).id)
          × Steps g.N (record_of_all g (suc i)) (HeardWith c) n.said.says n.said.made (record_of_all (next g c) (suc i)))
          → j.handed + read_in n.said.says ≤ y → Fate (next g c) i l y v
      go (inl z) t = is_gone (not-zero z) (rw n.is_noted t)
      go (inr w) t =
          waits (still_open o w.0) (rw n.is_noted t) (rw n.is_noted (omega arith))
          (stay ⊥ g s i j k o c y (omega (arith, (k o).told_handed)) m ∙ b)

  from_waits : OpenAt g (suc i) → j.handed ≤ y → y < j.announced → byte_at g (suc i) y ≡ v → SlotTurn g c i j → Fate (next g c) i l y v
  unfolding l
  from_waits o h m b (aside r e w) =
      waits (still_open o (ap (λ (x : Record). x.id) r)) (rw w h) (rw w m)
      (stay ⊥ g s i j k o c y (omega (arith, (k o).told_handed)) m ∙ b)
  from_waits o h m b (moves u e w) =
      waits (still_open_by o u.opened) (rw w h) (rw w m)
      (stay ⊥ g s i j k o c y (omega (arith, (k o).told_handed)) m ∙ b)
  from_waits o h m b (turns x n) = from_turn o h m b n
  from_waits o h m b (begins given z p a r w) = not_opened given p a
  from_waits o h m b (closes r e w) = is_gone (not-zero r) (rw w h)
  from_waits o h m b (strays x r a w n) = absurd (x o)

  from_read : y < length j.stream → get_or j.stream y 0 ≡ v → Fate (next g c) i l y v
  unfolding l
  from_read h e = let w = stays_by (g.N - 4) (suc i) g c j l u (grows g s (suc i) (g.N - 4) j c) y h in was_read w.0 (w.1 ∙ e)

  from_gone : (OpenAt g (suc i) → ⊥) → j.handed ≤ y → SlotTurn g c i j → Fate (next g c) i l y v
  unfolding l
  from_gone x h (aside r e w) = is_gone (λ o. x (was_open ⊥ g s c i j k o r)) (rw w h)
  from_gone x h (moves b e w) = is_gone (λ o. x (was_open_by ⊥ g s c i j k o b.opened)) (rw w h)
  from_gone x h (turns o n) = absurd (x o)
  from_gone x h (begins given z p a r w) = not_opened given p a
  from_gone x h (closes r e w) = is_gone (not-zero r) (rw w h)
  from_gone x h (strays o r a w n) = is_gone (λ z. x (was_open ⊥ g s c i j k z r)) (rw w (omega (arith, n, h)))

  one_on : Fate g i j y v → Fate (next g c) i l y v
  one_on (waits o h m b) = from_waits o h m b (slot_turned ⊥ g s c i j k)
  one_on (was_read h e) = from_read h e
  one_on (is_gone x h) = from_gone x h (slot_turned ⊥ g s c i j k)

all_on : (cs : List Call) (g : Group) (s : Sound g) (i : ℕ) (j : Journal) (k : Following ⊥ g i j) → Unopened g cs (suc i) → (y v : ℕ)
    → Fate g i j y v → Fate (leaves g cs) i (said_by (g.N - 4) (suc i) j g cs) y v
unfolding leaves journal_from answers l
all_on [] g s i j k u y v f = f
all_on (c ∷ cs) g s i j k u y v f =
    let l = after_call (g.N - 4) (suc i) j c (answer g c) in
    let h = one_on g s i j k c (λ o. u 0 (opens_first g c cs (suc i) o)) y v f in
    subst (λ n. Fate (leaves (next g c) cs) i (said_by (n - 4) (suc i) l (next g c) cs) y v) (kept_sizes g s c).1
    (all_on cs (next g c) (sound_next g s c) i l (call_follows ⊥ g s c i j k (λ b. absurd b)) (λ m o. u (suc m) (opens_later g c cs (suc i) m o)) y v h)

-- what is said over two lists, one after the other
said_append : (d k : ℕ) (cs ds : List Call) (g : Group) (j : Journal)
    → said_by d k j g (cs ++ ds) ≡ said_by d k (said_by d k j g cs) (leaves g cs) ds
unfolding leaves journal_from answers
said_append d k [] ds g j = refl
said_append d k (c ∷ cs) ds g j = said_append d k cs ds (next g c) (after_call d k j c (answer g c))

read_as_announced : ReadAsAnnounced
read_as_announced g f cs ds zero o u y h m t = absurd (no_slot_0 (leaves g cs) o)
read_as_announced g f cs ds (suc i) o u y h m t =
    go
    (subst (λ n. Fate (leaves (leaves g cs) ds) i (said_by (n - 4) (suc i) j (leaves g cs) ds) y (byte_at (leaves g cs) (suc i) y))
    (same_N g f cs i o)
    ended)
  where
    j : Journal
    j = journal g cs (suc i)

    k : Following ⊥ (leaves g cs) i (journal g cs (suc i))
    k =
        list_follows ⊥ cs g (sound_fresh g f) i (opened 0) (λ o. absurd (false≢true (sym (f.closed (suc i)) ∙ o))) (λ b. absurd b)

    ended : Fate (leaves (leaves g cs) ds) i (said_by ((leaves g cs).N - 4) (suc i) j (leaves g cs) ds) y (byte_at (leaves g cs) (suc i) y)
    ended = all_on ds (leaves g cs) (sound g f cs i o) i j k u y (byte_at (leaves g cs) (suc i) y) (waits o h m refl)

    whole : journal g (cs ++ ds) (suc i) ≡ said_by (g.N - 4) (suc i) j (leaves g cs) ds
    whole = said_append (g.N - 4) (suc i) cs ds g (opened 0)

    less : y < (said_by (g.N - 4) (suc i) j (leaves g cs) ds).handed
    less = rw whole at t

    go : Fate (leaves (leaves g cs) ds) i (said_by (g.N - 4) (suc i) j (leaves g cs) ds) y (byte_at (leaves g cs) (suc i) y)
        → get_or (journal g (cs ++ ds) (suc i)).stream y 0 ≡ byte_at (leaves g cs) (suc i) y
    go (waits x p n b) = absurd (omega (arith, less))
    go (was_read p b) = ap (λ (x : Journal). get_or x.stream y 0) whole ∙ b
    go (is_gone x p) = absurd (omega (arith, less))

pub announced_stay : AnnouncedStay
announced_stay = (
  of_each Stay (λ g f cs i o c y l m. stay (AreBytes cs) (leaves g cs) (sound g f cs i o) i _ (fresh_follows g f cs i) o c y l m),
  read_as_announced,
)

-- 4. No old lap
stored_ahead : OfEachSlot StoredAhead
stored_ahead =
    of_each StoredAhead
    (λ g f cs i o at b says x l m.
    let s = sound g f cs i o in
    let h = leaves g cs in
    let j = journal g cs (suc i) in
    let k = fresh_follows g f cs i in
    placed_ahead (AreBytes cs) h.N (sizes h s).least (record_of_all h (suc i)) (element_in h (suc i))
    (long (AreBytes cs) h s (on (suc i) (place at b)) i j k o) (s.coherent i o) j (k o) at (length b) (placed_inside h s (suc i) at b says) x l m)

-- a position is written or not
either : (w : Option ℕ) (v : ℕ) → ((u : ℕ) → w ≡ some u → v ≡ u) → (w ≡ some v) ⊎ (w ≡ none)
either (some u) v h = inl (ap some (sym (h u refl)))
either none v h = inr refl

not_old : OfEachSlot NotOld
not_old =
    of_each NotOld
    (λ g f cs i o.
    let k = keeps g f cs i o in
    let j = journal g cs (suc i) in
    record {
      handed_out = λ y l. either (j.written y) (get_or j.stream y 0) (λ u e. k.past y u l e);
      unread =
          λ y l m.
          either (j.written y) (byte_at (leaves g cs) (suc i) y)
          (λ u e. k.here y u (omega (arith, k.told_handed)) (omega (arith, k.announced_most)) e);
    })

pub no_old_lap : NoOldLap
no_old_lap = (stored_ahead, not_old)

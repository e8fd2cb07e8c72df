-- The claims of specs/Urgent about groups. Assumes nothing.
use mathlib.Core.Path.{◌≡◌, refl, sym, ap, ◌∙◌, subst}
use mathlib.Core.Logic.{◌⊎◌, inl, inr}
use mathlib.Core.Bool.{Bool, true, false, false≢true, ◌||◌, cond}
use mathlib.Core.List.{List, [], ◌∷◌, ◌++◌}
use Prim.Native.Nat.{ℕ, zero, suc, ◌<◌}
use native.Mathlib.Omega.{arith}
use native.Mathlib.Decide.{ℕ_discrete}
use lib.Dec.{ltb, eqb}
use lib.ListN.{length}
use Rattle.cdc.specs.declared.Message.{Message}
use Rattle.conn_record.specs.declared.Urgent.{Urgent}
use Rattle.conn_record.specs.declared.Record.{Record}
use Rattle.conn_answer.specs.declared.Outcome.{Outcome}
use Rattle.conn_record.specs.Connection.{no_place, zero_record, opened_record, reached_b, passed_by, refusal_of, marks_to}
use Rattle.conn_answer.specs.Outcome.{refused_of, outcome_of, told_of, used_in}
use Rattle.conn_answer.proofs.Goes.{By, by_test, by_refused, by_outcome, by_urgent, by_shut, by_left}
use Rattle.conn_send.specs.Transmit.{nothing_sent, send_of, sent_of, urgent_of, urgent_send_of}
use Rattle.conn_send.specs.Produced.{send_forbids, n_of, produced_of, produced_out, urged_out, urged_of, waits_b}
use Rattle.conn_receive.specs.Receive.{place_of, read_of, take_of, torn_of, consumed_of}
use Rattle.conn_hear.specs.Hear.{hear_of, aborted_of, followed_of, validated_of, ruled_of, accepted_of}
use Rattle.conn_hear.specs.Heard.{heard_record, heard_out}
use Rattle.conn_finish.specs.Finish.{reset_of, closing_of, shutdown_of, close_of, abort_of}
use Rattle.group_table.specs.Table.{record_at, open_b}
use Rattle.group_rules.specs.Rules.{Group, Request, send, urgent, gather, place, read, shutdown, close, abort, Call, on, refusal, Turn, turn_of, request_turn, hear_turn, Done, does, answer, next, refuses, put_turn, on_does, out_of, record_of_all, element_in, link_of, sizes_ok}
use Rattle.thm_order.proofs.Near.{enough}
use Rattle.thm_order.specs.Statement.{leaves}
use Rattle.thm_order.proofs.Slots.{slot_in, open_in, open_is, open_there, record_same}
use Rattle.thm_safety.specs.Statement.{OpenAt, plainly, urgently}
use Rattle.thm_urgent.specs.Urgent.{Waits, PlaceIsQ, QStays, Nothing, SendsWait, AllAtQ, AlwaysAtQ}
use Rattle.thm_safety.proofs.Effects.{open_facts, Acts, asks, hears, opens, frees, Effect, refuses_it, links_it, samples_it, puts_turn, effect}
use Rattle.thm_changes.proofs.Acted.{acts_slot}
use Rattle.thm_safety.proofs.OnSlot.{on_open, on_was_open}
use Rattle.thm_refusals.proofs.Refusals.{memory_back, table_back}
use Rattle.thm_changes.proofs.Changes.{one_record, acts_aside}
use Rattle.link_failover.proofs.Keeps.{ButLink, moved_keeps}
use Rattle.thm_safety.proofs.Failing.{only_the_link}
use Rattle.thm_safety.proofs.Invariant.{Sound, no_slot_0}
use Rattle.thm_safety.proofs.Sound.{sound_fresh, sound_next}

-- WHAT A CALL LEAVES OF Q AND THE PLACE: it closes the slot, or keeps both claims
record Holds (c d : Record) : Type 0 where
  still : c.outbound.urgent.standing ≡ true → d.outbound.producer ≡ c.outbound.producer
  at_Q : PlaceIsQ c → PlaceIsQ d

abbrev Kept : Record → Record → Type 0
Kept c d = (d ≡ zero_record) ⊎ Holds c d

abbrev Keeps : Record → Outcome → Type 0
Keeps c = By (λ r d. Holds c d)

kept_by : (c : Record) (o : Outcome) → Keeps c o → Kept c o.after
unfolding told_of used_in
kept_by c = by_left _ (λ r t d. Holds c d) (λ r d h. h) (λ r d h. record { still = h.still; at_Q = h.at_Q })

module _ (c : Record) where
  -- Q and the place are as they were
  same : (d : Record) → d.outbound.producer ≡ c.outbound.producer → d.outbound.urgent ≡ c.outbound.urgent → Holds c d
  same d q u =
      record {
        still = λ s. q;
        at_Q = λ h s. ap (λ (x : Urgent). x.place) u ∙ h (ap (λ (x : Urgent). x.standing) (sym u) ∙ s) ∙ sym q;
      }

  refused : (k : ℕ) → Keeps c (refused_of k c)
  refused k = by_refused _ k c (same c refl refl)

  module _ (n : ℕ) (a : Bool) where
    place_keeps : (at k : ℕ) → Keeps c (place_of n a c at k)
    unfolding place_of
    place_keeps at k = search (by_test, refused, by_outcome, same) depth 9

    read_keeps : (t : Bool) (k : ℕ) → Keeps c (read_of n a c t k)
    unfolding read_of take_of torn_of consumed_of marks_to
    read_keeps t k = search (by_test, refused, by_outcome, same) depth 9

    shutdown_keeps : Keeps c (shutdown_of n a c)
    unfolding shutdown_of marks_to
    shutdown_keeps = search (by_test, refused, by_outcome, same) depth 9

    close_keeps : Keeps c (close_of n a c)
    unfolding close_of reset_of closing_of marks_to
    close_keeps = search (by_test, refused, by_outcome, same, by_shut) depth 9

    abort_keeps : Keeps c (abort_of n a c)
    unfolding abort_of marks_to
    abort_keeps = search (by_test, refused, by_outcome, same) depth 9

    -- hear clears the place, or leaves it
    heard_holds : (m : Message) → Holds c (heard_record n c m)
    unfolding heard_record heard_out marks_to passed_by
    heard_holds m =
        record {
          still = λ s. refl;
          at_Q = passed (reached_b c.remote.size m.consumer c.outbound.producer c.outbound.urgent) c.outbound.urgent;
        }
      where
        passed : (r : Bool) (u : Urgent) → (u.standing ≡ true → u.place ≡ c.outbound.producer) → (cond r no_place u).standing ≡ true
            → (cond r no_place u).place ≡ c.outbound.producer
        passed true u h s = absurd (false≢true s)
        passed false u h s = h s

    hear_keeps : (m : Message) → Keeps c (hear_of n a c m)
    unfolding hear_of aborted_of followed_of validated_of ruled_of accepted_of marks_to
    hear_keeps m = search (by_test, refused, by_outcome, same, heard_holds, by_shut) depth 9

    -- a send goes on only where no place stands
    module _ (len : ℕ) (w : waits_b c len ≡ false) where
      none_stands : c.outbound.urgent.standing ≡ true → ⊥
      unfolding waits_b
      none_stands s = false≢true (sym w ∙ ap (λ (z : Bool). z || eqb len 0) s)

      moved : (d : Record) → d.outbound.urgent ≡ c.outbound.urgent → Holds c d
      moved d u =
          record {
            still = λ s. absurd (none_stands s);
            at_Q = λ h s. absurd (none_stands (ap (λ (x : Urgent). x.standing) (sym u) ∙ s));
          }

      sent_keeps : Keeps c (sent_of c len)
      unfolding sent_of produced_of produced_out
      sent_keeps = by_outcome _ _ _ _ (moved _ refl)

      urged : (d : Record) → Holds c (urged_of d)
      unfolding urged_of urged_out
      urged d = record { still = λ s. absurd (none_stands s); at_Q = λ h s. refl }

      urgent_keeps : Keeps c (urgent_of c len)
      unfolding urgent_of produced_of produced_out
      urgent_keeps = by_test _ (ltb (n_of c len) len) _ _ (λ e. by_urgent _ _ _ _ (moved _ refl)) (λ e. by_urgent _ _ _ _ (urged _))

    send_keeps : (len : ℕ) → Keeps c (send_of n a c len)
    unfolding send_of
    send_keeps len = search (by_test, refused, by_outcome, same, sent_keeps) depth 9

    urgent_send_keeps : (len : ℕ) → Keeps c (urgent_send_of n a c len)
    unfolding urgent_send_of
    urgent_send_keeps len = search (by_test, refused, by_outcome, same, urgent_keeps) depth 9

    request_kept : (e : List ℕ) (q : Request) → Kept c (request_turn n a c e q).after
    unfolding request_turn turn_of
    request_kept e (send b) = kept_by c _ (send_keeps (length b))
    request_kept e (urgent b) = kept_by c _ (urgent_send_keeps (length b))
    request_kept e (gather head body) = kept_by c _ (send_keeps (length (head ++ body)))
    request_kept e (place at b) = kept_by c _ (place_keeps at (length b))
    request_kept e (read out) = kept_by c _ (read_keeps _ (length out))
    request_kept e shutdown = kept_by c _ (shutdown_keeps)
    request_kept e close = kept_by c _ (close_keeps)
    request_kept e abort = kept_by c _ (abort_keeps)

    hear_kept : (e : List ℕ) (m : Message) → Kept c (hear_turn n a c e m).after
    unfolding hear_turn turn_of
    hear_kept e m = kept_by c _ (hear_keeps m)

as_was : {c d : Record} → d ≡ c → ButLink c d
as_was {c} e =
    subst (ButLink c) (sym e)
    (record { opened = refl; own = refl; peer = refl; remote = refl; inbound = refl; outbound = refl; marks = refl })

-- ONE CALL ON. The record of a slot that the table has: as it was, its link aside, or what the call's turn there leaves
module _ (g : Group) (c : Call) (i : ℕ) (there : i < length g.table) where
  abbrev now : Record
  now = record_of_all (next g c) (suc i)

  abbrev Left : Type 0
  Left = ButLink (record_of_all g (suc i)) now ⊎ ((t : Turn) × Acts g c (suc i) t × (now ≡ t.after))

  record_left_lem : Left
  unfolding refuses put_turn record_at
  record_left_lem = go (does g c) refl (effect g c)
    where
      turned : (k : ℕ) (t : Turn) → does g c ≡ put_turn g k t → sizes_ok g ≡ true → Acts g c k t → Dec (suc i ≡ k) → Left
      turned k t did ok a (yes e) =
          inr (t, rw (← e) at a, ap (λ (d : Done). record_of_all d.group (suc i)) (rw (← e) at did) ∙ record_same g.table i t.after there)
      turned k t did ok a (no d) =
          inl (as_was ((one_record g c).others (suc i) (λ p. d (p ∙ acts_slot g c k t ok a)) ∙ acts_aside g c k t (record_of_all g (suc i)) a))

      go : (x : Done) → does g c ≡ x → Effect g c x → Left
      go x q (refuses_it n h e) = inl (as_was (ap (λ (d : Done). record_of_all d.group (suc i)) (q ∙ e)))
      go x q (links_it k b p a e) =
          inl
          (subst (ButLink (record_of_all g (suc i))) (sym (ap (λ (z : Call). record_of_all (next g z) (suc i)) p ∙ (only_the_link g k b).each (suc i)))
          (moved_keeps g.N _ (record_of_all g (suc i))))
      go x q (samples_it l ms w p e) = inl (as_was (ap (λ (d : Done). record_of_all d.group (suc i)) (q ∙ e)))
      go x q (puts_turn k t s a e) = turned k t (q ∙ e) s a (ℕ_discrete (suc i) k)

  -- a slot that is open after it keeps both claims, or was opened
  abbrev After : Type 0
  After = (OpenAt g (suc i) × Holds (record_of_all g (suc i)) now) ⊎ (((record_of_all g (suc i)).id.opened ≡ false) × PlaceIsQ now)

  record_after : OpenAt (next g c) (suc i) → After
  unfolding zero_record opened_record
  record_after o = go record_left_lem
    where
      open_now : now.id.opened ≡ true
      open_now = (open_in (next g c).S (next g c).table (suc i) o).is_open

      kept : (t : Turn) → now ≡ t.after → OpenAt g (suc i) → Kept (record_of_all g (suc i)) t.after → After
      kept t e was (inl z) = absurd (false≢true (sym (ap (λ (r : Record). r.id.opened) (e ∙ z)) ∙ open_now))
      kept t e was (inr h) = inl (was, rw e h)

      acted : (t : Turn) → now ≡ t.after → Acts g c (suc i) t → After
      acted t e (asks q p was r) =
          kept t e was (rw r (request_kept (record_of_all g (suc i)) g.N (link_of g (suc i)) (element_in g (suc i)) q))
      acted t e (hears b m p d h was w r) =
          kept t e was (rw r (hear_kept (record_of_all g (suc i)) g.N (link_of g (suc i)) (element_in g (suc i)) m))
      acted t e (opens given p n r) =
          let z = e ∙ ap (λ (t : Turn). t.after) r in
          inr ((open_facts g (suc i) given n).was_closed, λ s. absurd (false≢true (sym (ap (λ (r : Record). r.outbound.urgent.standing) z) ∙ s)))
      acted t e (frees p n r) =
          absurd (false≢true (sym (ap (λ (r : Record). r.id.opened) (e ∙ ap (λ (t : Turn). t.after) r)) ∙ open_now))

      go : Left → After
      go (inl e) =
          let v = open_in (next g c).S (next g c).table (suc i) o in
          let was = open_is g.S g.table (suc i) (rw (one_record g c).same_S at v.slot) (sym e.opened ∙ v.is_open) in
          inl (was, same (record_of_all g (suc i)) now (ap (λ x. x.producer) e.outbound) (ap (λ x. x.urgent) e.outbound))
      go (inr w) = acted w.0 w.2 w.1

pub Q_stays : QStays
unfolding record_at
Q_stays g c zero o h w = absurd (no_slot_0 g o)
Q_stays g c (suc i) o h w = go (record_after g c i there h)
  where
    was : (record_of_all g (suc i)).id.opened ≡ true
    was = (open_in g.S g.table (suc i) o).is_open

    there : i < length g.table
    there = open_there g.table i was

    go : After g c i there → (record_of_all (next g c) (suc i)).outbound.producer ≡ (record_of_all g (suc i)).outbound.producer
    go (inl k) = k.1.still w
    go (inr k) = absurd (false≢true (sym k.0 ∙ was))

-- EVERY SEND WAITS
module _ (g : Group) (k : ℕ) (q : Request) (stands : Waits g k) (taken : (n : ℕ) → (answer g (on k q)).says ≡ refusal n → ⊥) where
  abbrev c : Record
  c = record_of_all g k

  sized : sizes_ok g ≡ true
  unfolding on_does refuses
  sized = go (sizes_ok g) refl
    where
      go : (z : Bool) → sizes_ok g ≡ z → z ≡ true
      go true e = refl
      go false e =
          absurd (taken 1 (ap (λ (z : Bool). (cond z (cond (open_b g.S g.table k)
          (put_turn g k (request_turn g.N (link_of g k) (record_of_all g k) (element_in g k) q)) (refuses g 2 (out_of q))) (refuses g 1 (out_of q))
          ).answer.says) e))

  is_open : OpenAt g k
  is_open = on_was_open g k q sized taken

  -- nothing is put back but what was there
  none_back : (put_turn g k (turn_of (nothing_sent c) (element_in g k) [])).group ≡ g
  unfolding put_turn turn_of outcome_of
  none_back = rw (table_back g.table k, memory_back g.memory g.N k)

  -- the tests of a send, where a place stands
  waits : (x : Outcome) (len : ℕ)
      → let no = refusal_of g.N (link_of g k) c (send_forbids c.marks) in
      let o = cond (eqb no 0) (cond (waits_b c len) (nothing_sent c) x) (refused_of no c) in
      request_turn g.N (link_of g k) c (element_in g k) q ≡ turn_of o (element_in g k) [] → Nothing g (on k q)
  unfolding put_turn turn_of refused_of outcome_of waits_b
  waits x len e = go (eqb (refusal_of g.N (link_of g k) c (send_forbids c.marks)) 0) e
    where
      no : ℕ
      no = refusal_of g.N (link_of g k) c (send_forbids c.marks)

      did : (o : Outcome) → request_turn g.N (link_of g k) c (element_in g k) q ≡ turn_of o (element_in g k) []
          → does g (on k q) ≡ put_turn g k (turn_of o (element_in g k) [])
      did o e = on_open g k q sized is_open ∙ ap (put_turn g k) e

      go : (z : Bool)
          → request_turn g.N (link_of g k) c (element_in g k) q
          ≡ turn_of (cond z (cond (c.outbound.urgent.standing || eqb len 0) (nothing_sent c) x) (refused_of no c)) (element_in g k) []
          → Nothing g (on k q)
      go true e =
          let d =
          did (nothing_sent c)
          (e ∙ ap (λ (s : Bool). turn_of (cond (s || eqb len 0) (nothing_sent c) x) (element_in g k) []) stands)
          in
          record {
            takes_none = ap (λ (y : Done). y.answer.says) d;
            tells_none = ap (λ (y : Done). y.answer.made) d;
            changes_none = ap (λ (y : Done). y.group) d ∙ none_back;
          }
      go false e = absurd (taken no (ap (λ (y : Done). y.answer.says) (did (refused_of no c) e)))

pub sends_wait : SendsWait
unfolding request_turn send_of urgent_send_of
sends_wait g k q (plainly b) stands taken = waits g k q stands taken (sent_of (record_of_all g k) (length b)) (length b) refl
sends_wait g k q (urgently b) stands taken = waits g k q stands taken (urgent_of (record_of_all g k) (length b)) (length b) refl

-- ALL CALLS
at_Q_next : (g : Group) → Sound g → AllAtQ g → (c : Call) → AllAtQ (next g c)
at_Q_next g s q c = record { every_open = each }
  where
    each : (k : ℕ) → OpenAt (next g c) k → PlaceIsQ (record_of_all (next g c) k)
    each zero o = absurd (no_slot_0 (next g c) o)
    each (suc i) o = go (record_after g c i there o)
      where
        there : i < length g.table
        there =
            let v = slot_in g.S (suc i) (rw (one_record g c).same_S at (open_in (next g c).S (next g c).table (suc i) o).slot) in
            omega (arith, enough g s.good, v.1)

        go : After g c i there → PlaceIsQ (record_of_all (next g c) (suc i))
        go (inl k) = k.1.at_Q (q.every_open (suc i) k.0)
        go (inr k) = k.1

at_Q_leaves : (cs : List Call) (g : Group) → Sound g → AllAtQ g → AllAtQ (leaves g cs)
unfolding leaves
at_Q_leaves [] g s q = q
at_Q_leaves (c ∷ cs) g s q = at_Q_leaves cs (next g c) (sound_next g s c) (at_Q_next g s q c)

pub always_at_Q : AlwaysAtQ
always_at_Q g fresh cs =
    at_Q_leaves cs g (sound_fresh g fresh) (record { every_open = λ k o. absurd (false≢true (sym (fresh.closed k) ∙ o)) })

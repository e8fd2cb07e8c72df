-- The claim of specs/Numbers. Assumes nothing.
use mathlib.Core.Path.{◌≡◌, refl, sym, ap, ◌∙◌, subst}
use mathlib.Core.Logic.{◌⊎◌, inl, inr, ◌≢◌}
use mathlib.Core.Bool.{Bool, true, false, false≢true, ◌&&◌, ◌||◌, not, cond, and-false}
use mathlib.Core.List.{List, [], ◌∷◌, ◌++◌}
use Prim.Native.Nat.{ℕ, zero, suc, ◌+◌, ◌%◌}
use native.Mathlib.Omega.{arith}
use native.Mathlib.Decide.{ℕ_discrete}
use lib.Dec.{eqb}
use lib.ListN.{length, length-append}
use borrow.Author.Tests.{eqb-true, eq-eqb, ne_eqb}
use Rattle.cdc.specs.declared.Message.{Message}
use Rattle.cdc.specs.declared.Decoded.{Decoded}
use Rattle.cdc.specs.declared.Decoded.TheVariants.{Good, Malformed}
use Rattle.cdc.specs.Cdc.{decode_of}
use Rattle.conn_record.specs.declared.Record.{Record}
use Rattle.conn_answer.specs.declared.Reply.{Reply}
use Rattle.conn_answer.specs.declared.Reply.TheVariants.{Heard}
use Rattle.closing.specs.declared.State.TheVariants.{PeerAbortWait}
use Rattle.conn_answer.specs.declared.Outcome.{Outcome}
use Rattle.conn_record.specs.Connection.{zero_record, opened_record, refusal_of, marks_to}
use Rattle.conn_answer.specs.Outcome.{refused_of, outcome_of, told_of, told_in, closed_if, sequence_after}
use Rattle.conn_answer.proofs.Goes.{By, pick, by_test, by_refused, by_outcome, by_urgent, by_shut, by_left}
use Rattle.conn_send.specs.Transmit.{send_of, sent_of, urgent_of, urgent_send_of}
use Rattle.conn_send.specs.Produced.{produced_of, urged_of}
use Rattle.conn_receive.specs.Receive.{place_of, read_of, take_of, torn_of, consumed_of, consumed_in, cleared_in}
use Rattle.closing.specs.Closing.{state_of, done_sent, closed_sent, abort_sent, marks_heard}
use Rattle.conn_hear.specs.Hear.{aborted_of, accepted_of, ruled_of, followed_of, validated_of, hear_of}
use Rattle.conn_hear.specs.Heard.{next_b, producer_b, consumer_b, heard_in, heard_record}
use Rattle.conn_hear.proofs.Laws.{aborted_shut, accepted_is, accepted_reply, shut_by, replied_to}
use Rattle.conn_finish.specs.Finish.{reset_of, closing_of, shutdown_of, close_of, abort_of}
use Rattle.conn_gather.specs.Pieces.{pieces_of}
use Rattle.group_rules.specs.Rules.{Group, Request, send, gather, urgent, place, read, shutdown, close, abort, open_slot, free_slot, link_change, link_message, link_send, sample, Call, on, hear, manage, Says, refusal, heard, says_of, Turn, turn_of, request_turn, hear_turn, Done, does, answer, next, refuses, put_turn, record_of_all, element_in, link_of, sizes_ok, holder_of}
use Rattle.group_table.specs.Table.{record_at}
use Rattle.thm_order.specs.Statement.{leaves}
use Rattle.thm_order.proofs.Near.{enough}
use Rattle.thm_order.proofs.Slots.{slot_in, open_in, open_is, record_same}
use Rattle.thm_safety.specs.Statement.{OpenAt, accepted_b}
use Rattle.thm_changes.specs.Numbers.{Taken, nothing_yet, refused_b, broken_b, sends_a, asked, counts_b, breaks_b, heard_by, with_number, with_message, taken_after, taken_from, first_number, counted_from, InOrder, NumbersInOrder}
use Rattle.thm_safety.proofs.Effects.{Acts, asks, hears, opens, frees, Effect, refuses_it, links_it, samples_it, puts_turn, effect}
use Rattle.thm_links.specs.Statements.{Call as LinkCall}
use Rattle.thm_safety.specs.Links.{call_of}
use Rattle.thm_changes.proofs.Acted.{acts_slot, acts_in, acts_high}
use Rattle.thm_changes.proofs.Changes.{one_record, acts_aside}
use Rattle.thm_refusals.proofs.Exactly.{aborting_is}
use Rattle.thm_safety.proofs.Failing.{only_the_link}
use Rattle.link_failover.specs.declared.Plan.{Plan}
use Rattle.link_failover.specs.Failover.{moved_of}
use Rattle.link_failover.proofs.Keeps.{ButLink, moved_keeps}
use Rattle.thm_safety.proofs.Invariant.{Sound}
use Rattle.thm_safety.proofs.Sound.{sound_fresh, sound_next}
use Rattle.thm_refusals.proofs.Gathered.{carried}

-- ONE NUMBER MORE
counted_more : (a n : ℕ) → counted_from a n ++ ((a + n) % 65536 ∷ []) ≡ counted_from a (suc n)
counted_more a zero = let e : a + 0 ≡ a = omega arith in ap (λ x. x % 65536 ∷ []) e
counted_more a (suc n) =
    let e : a + suc n ≡ a + 1 + n = omega arith in
    ap (λ l. a % 65536 ∷ l) (ap (λ x. counted_from (a + 1) n ++ (x % 65536 ∷ [])) e ∙ counted_more (a + 1) n)

long_more : (ns : List ℕ) (s : ℕ) → length (ns ++ (s ∷ [])) ≡ suc (length ns)
long_more ns s = let e = length-append ns (s ∷ []) in omega (arith, e)

one_more : (ns : List ℕ) (s : ℕ) → first_number + length ns ≡ length (ns ++ (s ∷ []))
one_more ns s = omega (arith, long_more ns s)

number_more : (ns : List ℕ) (s : ℕ) → ns ≡ counted_from first_number (length ns) → s ≡ (first_number + length ns) % 65536
    → ns ++ (s ∷ []) ≡ counted_from first_number (length (ns ++ (s ∷ [])))
number_more ns s e h =
    (λ i. e i ++ (h i ∷ [])) ∙ counted_more first_number (length ns) ∙ ap (counted_from first_number) (sym (long_more ns s))

-- WHAT A CALL LEAVES: it closes the slot, or leaves s as the last number heard, and the abort mark a
abbrev Last : ℕ → Bool → Record → Type 0
Last s a d = (d ≡ zero_record) ⊎ ((d.inbound.last ≡ s) × (d.marks.abort ≡ a))

-- a call on a slot, by its answer
record Same (q : Request) (c : Record) (r : Reply) (d : Record) : Type 0 where
  last : d.inbound.last ≡ c.inbound.last
  mark : d.marks.abort ≡ sends_a q (says_of r) || c.marks.abort

abbrev Leaves : Request → Record → Outcome → Type 0
Leaves q c = By (Same q c)

last_of : (q : Request) (c : Record) (o : Outcome) → Leaves q c o
    → Last c.inbound.last (sends_a q (says_of o.reply) || c.marks.abort) o.after
unfolding told_of told_in
last_of q c =
    by_left (Same q c) (λ r t d. (d.inbound.last ≡ c.inbound.last) × (d.marks.abort ≡ sends_a q (says_of r) || c.marks.abort))
    (λ r d s. (s.last, s.mark)) (λ r d s. (s.last, s.mark))

-- a refusal sends no A
no_refusal : (q : Request) (k : ℕ) → sends_a q (refusal k) ≡ false
no_refusal (send b) k = refl
no_refusal (urgent b) k = refl
no_refusal (gather h b) k = refl
no_refusal (place at b) k = refl
no_refusal (read out) k = refl
no_refusal shutdown k = refl
no_refusal close k = refl
no_refusal abort k = refl

refused : (q : Request) (c : Record) (k : ℕ) → Leaves q c (refused_of k c)
refused q c k = by_refused (Same q c) k c (record { last = refl; mark = ap (λ z. z || c.marks.abort) (sym (no_refusal q k)) })

module _ (n : ℕ) (a : Bool) (c : Record) where
  send_leaves : (b : List ℕ) → Leaves (send b) c (send_of n a c (length b))
  unfolding send_of sent_of produced_of
  send_leaves b = search (by_test, refused, by_outcome) depth 9

  urgent_leaves : (b : List ℕ) → Leaves (urgent b) c (urgent_send_of n a c (length b))
  unfolding urgent_send_of urgent_of urged_of produced_of
  urgent_leaves b = search (by_test, refused, by_outcome, by_urgent) depth 9

  place_leaves : (at : ℕ) (b : List ℕ) → Leaves (place at b) c (place_of n a c at (length b))
  unfolding place_of
  place_leaves at b = search (by_test, refused, by_outcome) depth 9

  read_leaves : (out : List ℕ) (t : Bool) → Leaves (read out) c (read_of n a c t (length out))
  unfolding read_of take_of torn_of consumed_of consumed_in cleared_in marks_to abort_sent
  read_leaves out t = search (by_test, refused, by_outcome) depth 9

  shutdown_leaves : Leaves shutdown c (shutdown_of n a c)
  unfolding shutdown_of marks_to done_sent
  shutdown_leaves = search (by_test, refused, by_outcome) depth 9

  close_leaves : Leaves close c (close_of n a c)
  unfolding close_of reset_of closing_of marks_to abort_sent closed_sent
  close_leaves = search (by_test, refused, by_outcome, by_shut) depth 9

  abort_leaves : Leaves abort c (abort_of n a c)
  unfolding abort_of marks_to abort_sent
  abort_leaves = search (by_test, refused, by_outcome) depth 9

  request_last : (e : List ℕ) (q : Request)
      → let t = request_turn n a c e q in Last c.inbound.last (sends_a q t.answer.says || c.marks.abort) t.after
  unfolding request_turn turn_of
  request_last e (send b) = last_of _ c _ (send_leaves b)
  request_last e (urgent b) = last_of _ c _ (urgent_leaves b)
  request_last e (gather h b) =
      let o = send_of n a c (length (h ++ b)) in
      carried (pieces_of c h b) (λ (s : Says). Last c.inbound.last (broken_b s || c.marks.abort) o.after) (λ n p q l. l)
      (says_of o.reply) (last_of (send (h ++ b)) c o (send_leaves (h ++ b)))
  request_last e (place at b) = last_of _ c _ (place_leaves at b)
  request_last e (read out) = last_of _ c _ (read_leaves out _)
  request_last e shutdown = last_of _ c _ (shutdown_leaves)
  request_last e close = last_of _ c _ (close_leaves)
  request_last e abort = last_of _ c _ (abort_leaves)

-- HEAR. A message that counts has the next number, which is then the last one heard; any other leaves it; the abort mark stays, but where
-- one with F differs
abbrev counts : Bool → Message → Says → Bool
counts was m says = counts_b (record { numbers = []; aborted = was }) m says

data Numbered (c : Record) (m : Message) (says : Says) (d : Record) : Type 0 where
  passes : counts c.marks.abort m says ≡ false → Last c.inbound.last (breaks_b m says || c.marks.abort) d → Numbered c m says d
  takes : counts c.marks.abort m says ≡ true → m.sequence ≡ sequence_after c.inbound.last
      → Last m.sequence c.marks.abort d → Numbered c m says d

-- a refusal breaks nothing
no_break : (m : Message) (k : ℕ) → breaks_b m (refusal k) ≡ false
no_break m k = ap (λ z. m.flags.failover && z) (and-false (not m.flags.abort)) ∙ and-false m.flags.failover

or-true : (b : Bool) → b || true ≡ true
or-true true = refl
or-true false = refl

record Hears (c : Record) (m : Message) (o : Outcome) : Type 0 where
  numbered : Numbered c m (says_of o.reply) o.after

module _ (n : ℕ) (a : Bool) (c : Record) (m : Message) where
  not_taken : (k : ℕ) → Hears c m (refused_of k c)
  unfolding refused_of
  not_taken k = record { numbered = passes refl (inr (refl, ap (λ z. z || c.marks.abort) (sym (no_break m k)))) }

  with_A : m.flags.abort ≡ true → Hears c m (aborted_of c)
  with_A h = record { numbered = passes (simp (h, and-false)) (inl (aborted_shut c)) }

  after_A : m.flags.abort ≡ false → c.marks.abort ≡ true → Hears c m (outcome_of (Heard 0 PeerAbortWait) false c)
  unfolding outcome_of
  after_A h s =
      record {
        numbered =
            passes (λ i. not (h i) && ((λ i. not m.flags.failover && not (s i)) ∙ and-false (not m.flags.failover)) i)
            (inr (refl, s ∙ sym ((λ i. breaks_b m (heard 0 PeerAbortWait) || s i) ∙ or-true (breaks_b m (heard 0 PeerAbortWait)))));
      }

  -- with F: the same number, and another
  agrees : m.flags.abort ≡ false → c.marks.abort ≡ false → m.flags.failover ≡ true → Hears c m (outcome_of (Heard 0 (state_of c.marks)) false c)
  unfolding outcome_of
  agrees h s v =
      record {
        numbered =
            passes (λ i. not (h i) && (not (v i) && not c.marks.abort))
            (inr (refl, ap (λ z. z || c.marks.abort) (sym (kept ∙ and-false m.flags.failover))));
      }
    where
      kept : breaks_b m (heard 0 (state_of c.marks)) ≡ m.flags.failover && false
      kept = ap (λ z. m.flags.failover && z) ((λ i. not m.flags.abort && (aborting_is c.marks ∙ s) i) ∙ and-false (not m.flags.abort))

  differs : m.flags.abort ≡ false → m.flags.failover ≡ true → Hears c m (outcome_of (Heard 0 PeerAbortWait) true (marks_to c (abort_sent c.marks)))
  unfolding outcome_of told_of told_in marks_to abort_sent
  differs h v =
      record {
        numbered =
            passes (λ i. not (h i) && (not (v i) && not c.marks.abort))
            (inr (refl, λ i. (sym v i && (not (sym h i) && true)) || c.marks.abort));
      }

  heard_last : (t s : Bool) (r : Reply)
      → Last m.sequence c.marks.abort (closed_if s (outcome_of r t (heard_record n c m))).after
  unfolding closed_if outcome_of told_of told_in heard_record heard_in marks_to marks_heard
  heard_last t true r = inl refl
  heard_last true false r = inr (refl, refl)
  heard_last false false r = inr (refl, refl)

  is_next : next_b c m ≡ true → m.sequence ≡ sequence_after c.inbound.last
  unfolding next_b
  is_next z = eqb-true m.sequence (sequence_after c.inbound.last) z

  accepts : m.flags.abort ≡ false → c.marks.abort ≡ false → m.flags.failover ≡ false → next_b c m ≡ true → Hears c m (accepted_of n c m)
  accepts h s v z =
      record {
        numbered =
            takes (λ i. not (refused_b (says_of (accepted_reply n c m i))) && (not (h i) && (not (v i) && not (s i))))
            (is_next z)
            (rw (accepted_is n c m) (heard_last _ (shut_by n c m) (replied_to n c m)));
      }

  hear_hears : Hears c m (hear_of n a c m)
  unfolding hear_of followed_of validated_of ruled_of
  hear_hears =
      pick (Hears c m) (eqb (refusal_of n a c false) 0) _ _
      (λ e.
      pick (Hears c m) m.flags.abort _ _ with_A
      (λ h.
      pick (Hears c m) c.marks.abort _ _ (after_A h)
      (λ s.
      pick (Hears c m) m.flags.failover _ _
      (λ v. pick (Hears c m) (eqb m.sequence c.inbound.last) _ _ (λ z. agrees h s v) (λ z. differs h v))
      (λ v.
      pick (Hears c m) (next_b c m) _ _
      (λ z. pick (Hears c m) (producer_b n c m.producer && consumer_b c m.consumer) _ _ (λ r. accepts h s v z) (λ r. not_taken 8))
      (λ z. not_taken 16)))))
      (λ e. not_taken _)

  hear_numbered : (e : List ℕ) → Numbered c m (hear_turn n a c e m).answer.says (hear_turn n a c e m).after
  unfolding hear_turn turn_of
  hear_numbered e = hear_hears.numbered

-- ONE CALL ON
module _ (g : Group) (c : Call) (k : ℕ) (j : Taken) (w : InOrder g k j) where
  abbrev says : Says
  says = (answer g c).says

  abbrev now : Taken
  now = taken_after g k j c says

  abbrev After : Taken → Type 0
  After l = InOrder (next g c) k l

  settled : (l : Taken) → now ≡ l → After l → After now
  settled l e h = subst After (sym e) h

  was_open : record_of_all (next g c) k ≡ record_of_all g k → OpenAt (next g c) k → OpenAt g k
  was_open e o =
      let v = open_in (next g c).S (next g c).table k o in
      open_is g.S g.table k (rw (one_record g c).same_S at v.slot) (ap (λ (r : Record). r.id.opened) (sym e) ∙ v.is_open)

  as_it_was : now ≡ j → record_of_all (next g c) k ≡ record_of_all g k → After now
  as_it_was e r =
      settled j e
      (record {
        counted = w.counted;
        last_number_heard = λ o. ap (λ (x : Record). x.inbound.last) r ∙ w.last_number_heard (was_open r o);
        mark_is = λ o. ap (λ (x : Record). x.marks.abort) r ∙ w.mark_is (was_open r o);
      })

  -- a connection that moved, or stays
  as_moved : (p : Plan) → now ≡ j → record_of_all (next g c) k ≡ moved_of g.N p (record_of_all g k) → After now
  as_moved p e r =
      settled j e
      (record {
        counted = w.counted;
        last_number_heard = λ o. ap (λ (x : Record). x.inbound.last) r ∙ ap (λ x. x.last) keeps.inbound ∙ w.last_number_heard (was o);
        mark_is = λ o. ap (λ (x : Record). x.marks.abort) r ∙ ap (λ x. x.abort) keeps.marks ∙ w.mark_is (was o);
      })
    where
      keeps : ButLink (record_of_all g k) (moved_of g.N p (record_of_all g k))
      keeps = moved_keeps g.N p (record_of_all g k)

      was : OpenAt (next g c) k → OpenAt g k
      was o =
          let v = open_in (next g c).S (next g c).table k o in
          open_is g.S g.table k (rw (one_record g c).same_S at v.slot)
          (sym (ap (λ (x : Record). x.id.opened) r ∙ keeps.opened) ∙ v.is_open)

  -- what is said after it, by what it is
  after : (z : Call) → c ≡ z → now ≡ taken_after g k j z says
  after z p = ap (λ z. taken_after g k j z says) p

  after_hear : (b : List ℕ) (m : Message) → c ≡ hear b → decode_of b ≡ Good m → now ≡ with_message g k j (Good m) says
  unfolding taken_after
  after_hear b m p d = after (hear b) p ∙ ap (λ x. with_message g k j x says) d

  -- A TURN OF THIS SLOT
  module _ (t : Turn) (said : says ≡ t.answer.says) (there : record_of_all (next g c) k ≡ t.after) where
    left : (s : ℕ) (a : Bool) → Last s a t.after → OpenAt (next g c) k
        → ((record_of_all (next g c) k).inbound.last ≡ s) × ((record_of_all (next g c) k).marks.abort ≡ a)
    unfolding zero_record
    left s a (inl z) o =
        absurd (false≢true (sym (ap (λ (r : Record). r.id.opened) (there ∙ z)) ∙ (open_in (next g c).S (next g c).table k o).is_open))
    left s a (inr e) o = (ap (λ (r : Record). r.inbound.last) there ∙ e.0, ap (λ (r : Record). r.marks.abort) there ∙ e.1)

    -- the numbers l, where s is the last, and whether A was sent
    leaves_it : (l : Taken) (s : ℕ) (a : Bool) → l.numbers ≡ counted_from first_number (length l.numbers) → s ≡ length l.numbers % 65536
        → a ≡ l.aborted → Last s a t.after → After l
    leaves_it l s a e f h v =
        record { counted = e; last_number_heard = λ o. (left s a v o).0 ∙ f; mark_is = λ o. (left s a v o).1 ∙ h }

    by : (m : Message) → holder_of g m.token ≡ k → OpenAt g k → (z : Bool) → counts (record_of_all g k).marks.abort m t.answer.says ≡ z
        → with_message g k j (Good m) says ≡ cond z (with_number j m.sequence) (record { numbers = j.numbers; aborted = breaks_b m t.answer.says || j.aborted })
    by m h o z x =
        let e : counts_b j m says ≡ z = (λ i. counts (sym (w.mark_is o) i) m (said i)) ∙ x in
        λ i.
        cond (eq-eqb (holder_of g m.token) k h i)
        (cond (e i) (with_number j m.sequence) (record { numbers = j.numbers; aborted = breaks_b m (said i) || j.aborted })) j

    heard_it : (m : Message) → OpenAt g k → holder_of g m.token ≡ k → Numbered (record_of_all g k) m t.answer.says t.after
        → After (with_message g k j (Good m) says)
    heard_it m o h (passes x l) =
        subst After (sym (by m h o false x))
        (leaves_it (record { numbers = j.numbers; aborted = breaks_b m t.answer.says || j.aborted }) _ _ w.counted (w.last_number_heard o)
        (ap (λ z. breaks_b m t.answer.says || z) (w.mark_is o)) l)
    heard_it m o h (takes x q l) =
        subst After (sym (by m h o true x))
        (leaves_it (with_number j m.sequence) _ _ (number_more j.numbers m.sequence w.counted number) (number ∙ many)
        (w.mark_is o) l)
      where
        number : m.sequence ≡ (first_number + length j.numbers) % 65536
        number = let v = w.last_number_heard o in omega (arith, q, v)

        many : (first_number + length j.numbers) % 65536 ≡ length (j.numbers ++ (m.sequence ∷ [])) % 65536
        many = ap (λ x. x % 65536) (one_more j.numbers m.sequence)

    this : Acts g c k t → After now
    unfolding taken_after opened_record
    this (asks q p o r) =
        settled (asked j q t.answer.says)
        (after (on k q) p ∙ (λ i. cond (eq-eqb k k refl i) (asked j q (said i)) j))
        (leaves_it (asked j q t.answer.says) _ _ w.counted (w.last_number_heard o)
        (ap (λ z. sends_a q t.answer.says || z) (w.mark_is o))
        (rw r (request_last g.N (link_of g k) (record_of_all g k) (element_in g k) q)))
    this (hears b m p d h o v r) =
        settled _ (after_hear b m p d) (heard_it m o h (rw r (hear_numbered g.N (link_of g k) (record_of_all g k) m (element_in g k))))
    this (opens given p n r) =
        settled nothing_yet
        (after (manage (open_slot k given)) p
        ∙ (λ i. cond (eq-eqb k k refl i && accepted_b ((said ∙ ap (λ (t : Turn). t.answer.says) r) i)) nothing_yet j))
        (leaves_it nothing_yet 0 false refl refl refl
        (inr (ap (λ (t : Turn). t.after.inbound.last) r, ap (λ (t : Turn). t.after.marks.abort) r)))
    this (frees p n r) =
        settled j (after (manage (free_slot k)) p) (leaves_it j _ _ w.counted refl refl (inl (ap (λ (t : Turn). t.after) r)))

  -- A TURN OF ANOTHER SLOT says nothing
  module _ (l : ℕ) (t : Turn) (d : l ≢ k) where
    none_said : Acts g c l t → now ≡ j
    unfolding taken_after
    none_said (asks q p o r) = after (on l q) p ∙ ap (λ z. cond z (asked j q says) j) (ne_eqb l k d)
    none_said (hears b m p e h o v r) =
        after_hear b m p e
        ∙ ap (λ z. cond z (heard_by j m says) j) (ne_eqb (holder_of g m.token) k (λ x. d (sym h ∙ x)))
    none_said (opens given p n r) =
        after (manage (open_slot l given)) p ∙ ap (λ z. cond (z && accepted_b says) nothing_yet j) (ne_eqb l k d)
    none_said (frees p n r) = after (manage (free_slot l)) p

  -- nor does a call on the links
  none_linked : (i : LinkCall) (b : List ℕ) → taken_after g k j (call_of i b) says ≡ j
  unfolding taken_after
  none_linked (LinkCall.change l up) b = refl
  none_linked (LinkCall.message l bytes) b = refl
  none_linked (LinkCall.send l h vs) b = refl

  -- nor does a refusal
  none_refused : (n : ℕ) (z : Call) → taken_after g k j z (refusal n) ≡ j
  unfolding taken_after
  none_refused n (on i q) = never (eqb i k) (sends_a q (refusal n)) (no_refusal q n)
    where
      never : (x y : Bool) → y ≡ false → cond x (record { numbers = j.numbers; aborted = y || j.aborted }) j ≡ j
      never true y e = ap (λ y. record { numbers = j.numbers; aborted = y || j.aborted }) e
      never false y e = refl
  none_refused n (hear b) = message (decode_of b)
    where
      broken : (x y : Bool) → y ≡ false → cond x (record { numbers = j.numbers; aborted = y || j.aborted }) j ≡ j
      broken true y e = ap (λ y. record { numbers = j.numbers; aborted = y || j.aborted }) e
      broken false y e = refl

      message : (x : Decoded) → with_message g k j x (refusal n) ≡ j
      message (Good m) = broken (eqb (holder_of g m.token) k) (breaks_b m (refusal n)) (no_break m n)
      message Malformed = refl
  none_refused n (manage (open_slot i given)) = ap (λ z. cond z nothing_yet j) (and-false (eqb i k))
  none_refused n (manage (free_slot i)) = refl
  none_refused n (manage (link_change l up b)) = refl
  none_refused n (manage (link_message l bytes b)) = refl
  none_refused n (manage (link_send l i vs b)) = refl
  none_refused n (manage (sample l ms)) = refl

  call_in_order : Sound g → After now
  unfolding refuses taken_after put_turn record_at
  call_in_order s = go (does g c) refl (effect g c)
    where
      turned : (l : ℕ) (t : Turn) → does g c ≡ put_turn g l t → sizes_ok g ≡ true → Acts g c l t → Dec (l ≡ k) → After now
      turned zero t did ok a e = absurd (omega (arith, slot_in g.S 0 (acts_in g c 0 t ok a)))
      turned (suc i) t did ok a (yes e) =
          this t (ap (λ (x : Done). x.answer.says) did)
          (ap (λ (x : Done). record_of_all x.group k) did ∙ ap (record_of_all (put_turn g (suc i) t).group) (sym e) ∙ put)
          (rw e at a)
        where
          put : record_of_all (put_turn g (suc i) t).group (suc i) ≡ t.after
          put = record_same g.table i t.after (omega (arith, enough g s.good, acts_high g c i t ok a))
      turned (suc i) t did ok a (no d) =
          as_it_was (none_said (suc i) t d a) ((one_record g c).others k (λ p. d (sym (p ∙ acts_slot g c (suc i) t ok a))) ∙ acts_aside g c (suc i) t (record_of_all g k) a)

      go : (x : Done) → does g c ≡ x → Effect g c x → After now
      go x q (refuses_it n h e) =
          as_it_was (ap (λ (d : Done). taken_after g k j c d.answer.says) (q ∙ e) ∙ none_refused n c)
          (ap (λ (d : Done). record_of_all d.group k) (q ∙ e))
      go x q (links_it i b p a e) =
          as_moved _ (after (call_of i b) p ∙ none_linked i b)
          (ap (λ (z : Call). record_of_all (next g z) k) p ∙ (only_the_link g i b).each k)
      go x q (samples_it l ms p z e) =
          as_it_was (after (manage (sample l ms)) p) (ap (λ (d : Done). record_of_all d.group k) (q ∙ e))
      go x q (puts_turn l t ok a e) = turned l t (q ∙ e) ok a (ℕ_discrete l k)

-- ALL CALLS
list_in_order : (cs : List Call) (g : Group) → Sound g → (k : ℕ) (j : Taken) → InOrder g k j → InOrder (leaves g cs) k (taken_from g k j cs)
unfolding leaves taken_from
list_in_order [] g s k j w = w
list_in_order (c ∷ cs) g s k j w = list_in_order cs (next g c) (sound_next g s c) k _ (call_in_order g c k j w s)

pub numbers_in_order : NumbersInOrder
numbers_in_order g f cs k =
    let closed : OpenAt g k → ⊥ = λ o. false≢true (sym (f.closed k) ∙ o) in
    list_in_order cs g (sound_fresh g f) k nothing_yet
    (record { counted = refl; last_number_heard = λ o. absurd (closed o); mark_is = λ o. absurd (closed o) })

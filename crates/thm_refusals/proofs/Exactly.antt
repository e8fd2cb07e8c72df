-- `ExactlyWhen` of specs/Refusals: what a call's first failing test gives, walked test by test. Assumes nothing.
use mathlib.Core.Path.{◌≡◌, refl, sym, ap, ◌∙◌}
use mathlib.Core.Bool.{Bool, true, false, ◌&&◌, ◌||◌, not, cond, and-true, and-false, and_assoc, or-false, or_assoc}
use mathlib.Core.Option.{Option, some, none, some-injective}
use mathlib.Core.List.{List, [], ◌∷◌, ◌++◌}
use Prim.Native.Nat.{ℕ, zero, suc, ◌+◌, ◌-◌, ◌*◌, ◌≤◌}
use native.Mathlib.Omega.{arith}
use lib.Dec.{ltb, leb, eqb}
use lib.ListN.{length, get_or}
use borrow.Author.Tests.{eqb-true, lt-ltb, le-ltb, le-leb, lt-leb, leb-true, leb-false, ne_eqb}
use Rattle.cursor.specs.Cursor.{in_range, same_b, good_b, gap_of}
use Rattle.cdc.specs.declared.Message.{Message}
use Rattle.cdc.specs.declared.Decoded.TheVariants.{Good, Malformed}
use Rattle.cdc.specs.Cdc.{fields_of, decode_of}
use Rattle.link_message.specs.Llc.{between, class_of}
use Rattle.link_message.specs.declared.Kind.{Kind}
use Rattle.link_message.specs.Layouts.{code_of, named_b, encode_of}
use Rattle.link_exchange.specs.declared.Exchange.{Exchange}
use Rattle.link_exchange.specs.declared.Said.{Said}
use Rattle.link_exchange.specs.declared.Fate.TheVariants.{Taken, Queued}
use Rattle.link_exchange.specs.Exchange.{said_of, add, sort_of, adding_b, due_b, full_b}
use Rattle.link_exchange.specs.Fates.{is_fate, acts_b, outside_b, may_send}
use Rattle.group_table.specs.declared.Links.{Links}
use Rattle.link_calls.specs.declared.Sent.{Sent as SentLink}
use Rattle.link_calls.specs.Calls.{down_b, optional_b, message_b, message_refusal, heard_in, fate_no, heard_work, nothing_heard, heard_of, no_reply, unchanged, sent_work, send_refusal, sent_in, sent_of as linkSentOf}
use Rattle.closing.specs.declared.Marks.{Marks}
use Rattle.closing.specs.declared.State.{State}
use Rattle.closing.specs.declared.State.TheVariants.{PeerAbortWait}
use Rattle.closing.specs.Closing.{marked, close_state_of, state_of, done_sent, abort_sent}
use Rattle.conn_record.specs.declared.Record.{Record}
use Rattle.conn_answer.specs.declared.Reply.{Reply}
use Rattle.conn_answer.specs.declared.Reply.TheVariants.{Accepted, Heard}
use Rattle.conn_answer.specs.declared.Outcome.{Outcome}
use Rattle.conn_record.specs.Connection.{fits_b, remote_ok, coherent_b, refusal_of, marks_to}
use Rattle.conn_answer.specs.Outcome.{sequence_after, refused_of, outcome_of, urgent_outcome, closed_if}
use Rattle.flow.specs.Flow.{window_of}
use Rattle.element.specs.Element.{all_free, intact_b}
use Rattle.conn_send.specs.Transmit.{nothing_sent, send_of, sent_of, urgent_of, urgent_send_of}
use Rattle.conn_send.specs.Produced.{send_forbids, waits_b}
use Rattle.conn_receive.specs.Receive.{unread_of, place_forbids, may_place, place_of, read_forbids, read_of, take_of, torn_of}
use Rattle.conn_hear.specs.Hear.{ruled_of, aborted_of, accepted_of, validated_of, followed_of, hear_of}
use Rattle.conn_hear.specs.Heard.{next_b, producer_b, consumer_b}
use Rattle.conn_finish.specs.Finish.{reset_of, closing_of, shutdown_forbids, shutdown_of, close_forbids, close_of, abort_of}
use Rattle.conn_answer.proofs.Laws.{outcome_reply, urgent_reply, closed_reply}
use Rattle.gauge.specs.declared.Gauge.{Gauge}
use Rattle.gauge.specs.Gauge.{most_ms, sampled_of}
use Rattle.group_table.specs.Table.{sizes_b, slot_b, open_b, active_b, gauge_at, find_from, gauge_set}
use Rattle.conn_record.specs.declared.Opening.{Opening}
use Rattle.group_table.specs.Table.{link_in}
use Rattle.conn_gather.specs.Pieces.{pieces_of}
use Rattle.group_rules.specs.Says.{said_in}
use Rattle.group_rules.proofs.Says.{says_refusal}
use Rattle.group_rules.specs.Rules.{Group, Request, send, gather, urgent, place, read, shutdown, close, abort, open_slot, free_slot, link_change, link_message, link_send, sample, Call, on, hear, manage, Says, refusal, says_of, turn_of, request_turn, hear_turn, Done, refuses, answer, sizes_ok, record_of_all, element_in, link_of, put_turn, on_does, holder_of, hear_at, hear_message, hear_does, open_refusal, open_does, free_refusal, free_does, lent_ok, link_refusal, fails_over, link_does, link_message_does, link_send_does, links_of, with_links, healthy, sample_refusal, sample_does, does, bad_opening}
use Rattle.thm_refusals.specs.Refusals.{outside, sizes_wrong, lent_wrong, slot_outside, slot_closed, incoherent, byte_is, malformed_link, token_unheld, connection_down, link_down, added_b, message_down, state_forbids, aborting, not_aborting, producer_broken, consumer_broken, byte_free, unplaceable, already_open, token_held, zero_or_out, link_outside, acted_outside, heard_fate, message_outside, queue_full, sendable, sending_barred, too_long, Test, ◌when◌, place_test, tests, first_of, ExactlyWhen}
use Rattle.thm_refusals.proofs.Answers.{clash}
use Rattle.thm_refusals.proofs.Gathered.{carried}

-- the number of a refusal
abbrev number : Says → Option ℕ
number says = cond (said_in says).refuses (some (said_in says).refused) none

number_is : (s : Says) (k : ℕ) → number s ≡ some k → s ≡ refusal k
number_is s k = go (said_in s).refuses refl
  where
    go : (t : Bool) → (said_in s).refuses ≡ t → cond t (some (said_in s).refused) none ≡ some k → s ≡ refusal k
    go true r e = says_refusal s r ∙ ap refusal (some-injective (said_in s).refused k e)
    go false r e = cc

unnumbered : (s : Says) → ((k : ℕ) → s ≡ refusal k → ⊥) → number s ≡ none
unnumbered s h = go (said_in s).refuses refl
  where
    go : (t : Bool) → (said_in s).refuses ≡ t → cond t (some (said_in s).refused) none ≡ none
    go true r = absurd (h (said_in s).refused (says_refusal s r))
    go false r = refl

-- TESTS. What F makes of the outcome of a test: where the test fails, its number; else what the tests after it give
module _ {A : Type 0} (F : A → Option ℕ) (n : ℕ) (l : List Test) where
  must : (t b : Bool) (x y : A) → t ≡ not b → F x ≡ first_of l → F y ≡ some n → F (cond b x y) ≡ first_of (n when t ∷ l)
  unfolding first_of
  must t true x y e h k = rw e h
  must t false x y e h k = rw e k

  must_not : (t b : Bool) (x y : A) → t ≡ b → F x ≡ first_of l → F y ≡ some n → F (cond b y x) ≡ first_of (n when t ∷ l)
  unfolding first_of
  must_not t true x y e h k = rw e k
  must_not t false x y e h k = rw e h

-- no test is left
none_left : none ≡ first_of []
unfolding first_of
none_left = refl

not_and : (a b : Bool) → not (a && b) ≡ not a || not b
not_and true b = refl
not_and false b = refl

not_leb : (a b : ℕ) → not (leb a b) ≡ ltb b a
not_leb a b = go (leb a b) refl
  where
    go : (t : Bool) → leb a b ≡ t → not t ≡ ltb b a
    go true e = sym (le-ltb b a (leb-true a b e))
    go false e = sym (lt-ltb b a (leb-false a b e))

-- outside a range
outside_is : (a b x : ℕ) → outside a b x ≡ not (leb a x && leb x b)
outside_is a b x = rw (not_and (leb a x) (leb x b), not_leb a x, not_leb x b)

module _ (g : Group) where
  sizes_is : sizes_wrong g ≡ not (sizes_ok g)
  unfolding sizes_b
  sizes_is = simp (not_and, not_leb, or_assoc)

  slot_is : (k : ℕ) → slot_outside g k ≡ not (slot_b g.S k)
  unfolding slot_b
  slot_is k = outside_is 1 g.S k

  open_is : (k : ℕ) → slot_closed g k ≡ not (open_b g.S g.table k)
  unfolding open_b
  open_is k = rw (not_and (slot_b g.S k) (record_of_all g k).id.opened, ← slot_is k)

opening_is : (o : Opening) → zero_or_out o ≡ bad_opening o
unfolding remote_ok fits_b
opening_is o = simp (not_and, not_leb, or_assoc)

-- ONE SLOT. An outcome that is no refusal
record Accepts (o : Outcome) : Type 0 where
  none_given : number (says_of o.reply) ≡ none

accepts : (o : Outcome) (r : Reply) → o.reply ≡ r → number (says_of r) ≡ none → Accepts o
accepts o r p e = record { none_given = ap (λ s. number (says_of s)) p ∙ e }

outcome : (r : Reply) (t : Bool) (d : Record) → number (says_of r) ≡ none → Accepts (outcome_of r t d)
outcome r t d e = accepts _ r (outcome_reply r t d) e

short : (r : Reply) (m : Message) (d : Record) → number (says_of r) ≡ none → Accepts (urgent_outcome r m d)
short r m d e = accepts _ r (urgent_reply r m d) e

shut : (s : Bool) (r : Reply) (t : Bool) (d : Record) → number (says_of r) ≡ none → Accepts (closed_if s (outcome_of r t d))
shut s r t d e = accepts _ r (closed_reply s (outcome_of r t d) ∙ outcome_reply r t d) e

either : (t : Bool) (o p : Outcome) → Accepts o → Accepts p → Accepts (cond t o p)
either true o p h k = h
either false o p h k = k

ruleset accepted-all = (outcome, short, shut, either)

-- what every call on a connection tests first
module _ (n : ℕ) (active : Bool) (c : Record) where
  abbrev after : Outcome → ℕ → Option ℕ
  after o r = number (says_of (cond (eqb r 0) o (refused_of r c)).reply)

  first_tests : (t f : Bool) (o : Outcome) (l : List Test) → t ≡ f → number (says_of o.reply) ≡ first_of l
      → after o (refusal_of n active c f) ≡ first_of (3 when not (coherent_b n c) ∷ 6 when not active ∷ 7 when t ∷ l)
  unfolding refusal_of refused_of
  first_tests t f o l e h =
      must (after o) 3 _ _ (coherent_b n c) _ _ refl
      (must (after o) 6 _ _ active _ _ refl (must_not (after o) 7 l t f 0 7 e h refl) refl)
      refl

  -- hear gives no 7
  first_two : (o : Outcome) (l : List Test) → number (says_of o.reply) ≡ first_of l
      → after o (refusal_of n active c false) ≡ first_of (3 when not (coherent_b n c) ∷ 6 when not active ∷ l)
  unfolding refusal_of refused_of
  first_two o l h = must (after o) 3 _ _ (coherent_b n c) _ _ refl (must (after o) 6 l _ active 0 6 refl h refl) refl

-- 9: byte by byte, or by the first and the last
past_end : (n x : ℕ) → leb n x ≡ not (leb (x + 1) n)
past_end n x = go (leb (x + 1) n) refl
  where
    go : (t : Bool) → leb (x + 1) n ≡ t → leb n x ≡ not t
    go true e = lt-leb n x (omega (arith, leb-true (x + 1) n e))
    go false e = le-leb n x (omega (arith, leb-false (x + 1) n e))

one_byte : (n x : ℕ) (f : Bool) → ltb x 4 || leb n x || not f ≡ not (leb 4 x && (leb (x + 1) n && f))
one_byte n x f =
    rw (not_and (leb 4 x) (leb (x + 1) n && f), not_and (leb (x + 1) n) f, not_leb 4 x, past_end n x)
    (or_assoc (ltb x 4) (not (leb (x + 1) n)) (not f))

one_more : (n x i : ℕ) (f r : Bool)
    → (leb 4 x && leb (x + suc (suc i)) n) && (f && r)
    ≡ (leb 4 x && (leb (x + 1) n && f)) && ((leb 4 (x + 1) && leb (x + 1 + suc i) n) && r)
one_more n x i f r = go (leb 4 x) refl (leb (x + suc (suc i)) n) refl
  where
    go : (a : Bool) → leb 4 x ≡ a → (b : Bool) → leb (x + suc (suc i)) n ≡ b
        → (a && b) && (f && r) ≡ (a && (leb (x + 1) n && f)) && ((leb 4 (x + 1) && leb (x + 1 + suc i) n) && r)
    go false p b q = refl
    go true p true q =
        let l = leb-true 4 x p in
        let m = leb-true (x + suc (suc i)) n q in
        rw (le-leb (x + 1) n (omega arith), le-leb 4 (x + 1) (omega arith), le-leb (x + 1 + suc i) n (omega arith))
    go true p false q =
        let m = leb-false (x + suc (suc i)) n q in
        rw (lt-leb (x + 1 + suc i) n (omega arith), and-false (leb 4 (x + 1)), and-false (leb (x + 1) n && f))

module _ (g : Group) (k : ℕ) where
  abbrev free : ℕ → Bool
  free x = byte_free g k x

  abbrev frees : ℕ → ℕ → Bool
  frees x j =
      let i = (record_of_all g k).inbound in
      all_free (g.N - 4) i.producer.offset (window_of g.N i.told i.producer) x j

  some_placeable : (x i : ℕ) → unplaceable g k x (suc i) ≡ not ((leb 4 x && leb (x + suc i) g.N) && frees x (suc i))
  unfolding unplaceable all_free
  some_placeable x zero =
      rw (or-false (ltb x 4 || leb g.N x || not (free x)), and-true (free x), one_byte g.N x (free x))
      (ap not (sym (and_assoc (leb 4 x) (leb (x + 1) g.N) (free x))))
  some_placeable x (suc i) =
      ap (λ t. ltb x 4 || leb g.N x || not (free x) || t) (some_placeable (x + 1) i)
      ∙ rw (one_byte g.N x (free x), ← not_and _ _, ← one_more g.N x i (free x) (frees (x + 1) (suc i)))

  placeable : (x j : ℕ) → unplaceable g k x j ≡ not (may_place g.N (record_of_all g k).inbound x j)
  unfolding unplaceable may_place
  placeable x zero = refl
  placeable x (suc i) = rw (ne_eqb (suc i) 0 (λ e. omega (arith, e))) (some_placeable x i)

-- the calls on a slot, from test 3 on
module _ (n : ℕ) (a : Bool) (c : Record) where
  abbrev from3 : Bool → List Test → List Test
  from3 t l = 3 when not (coherent_b n c) ∷ 6 when not a ∷ 7 when t ∷ l

  -- no test follows
  then_accepts : (o : Outcome) → Accepts o → number (says_of o.reply) ≡ first_of []
  then_accepts o h = h.none_given ∙ none_left

  send_first : (len : ℕ) (t : Bool) → t ≡ send_forbids c.marks → number (says_of (send_of n a c len).reply) ≡ first_of (from3 t [])
  unfolding send_of sent_of
  send_first len t e =
      let o = cond (waits_b c len) (nothing_sent c) (sent_of c len) in
      first_tests n a c t (send_forbids c.marks) o [] e (then_accepts o (search accepted-all))

  urgent_first : (len : ℕ) (t : Bool) → t ≡ send_forbids c.marks
      → number (says_of (urgent_send_of n a c len).reply) ≡ first_of (from3 t [])
  unfolding urgent_send_of urgent_of
  urgent_first len t e =
      let o = cond (waits_b c len) (nothing_sent c) (urgent_of c len) in
      first_tests n a c t (send_forbids c.marks) o [] e (then_accepts o (search accepted-all))

  read_first : (intact : Bool) (room : ℕ) (t : Bool) → t ≡ read_forbids c.marks
      → number (says_of (read_of n a c intact room).reply) ≡ first_of (from3 t [])
  unfolding read_of take_of torn_of
  read_first intact room t e =
      let o = cond intact (take_of n c room) (torn_of c) in
      first_tests n a c t (read_forbids c.marks) o [] e (then_accepts o (search accepted-all))

  place_first : (at len : ℕ) (t u : Bool) → t ≡ place_forbids c.marks → u ≡ not (may_place n c.inbound at len)
      → number (says_of (place_of n a c at len).reply) ≡ first_of (from3 t (9 when u ∷ []))
  unfolding place_of refused_of
  place_first at len t u e h =
      let may = may_place n c.inbound at len in
      let o = outcome_of Accepted false c in
      first_tests n a c t (place_forbids c.marks) (cond may o (refused_of 9 c)) (9 when u ∷ []) e
      (must (λ (p : Outcome). number (says_of p.reply)) 9 [] u may o (refused_of 9 c) h (then_accepts o (search accepted-all)) refl)

  shutdown_first : (t : Bool) → t ≡ shutdown_forbids c.marks → number (says_of (shutdown_of n a c).reply) ≡ first_of (from3 t [])
  unfolding shutdown_of
  shutdown_first t e =
      let o = outcome_of Accepted true (marks_to c (done_sent c.marks)) in
      first_tests n a c t (shutdown_forbids c.marks) o [] e (then_accepts o (search accepted-all))

  close_first : (t : Bool) → t ≡ close_forbids c.marks → number (says_of (close_of n a c).reply) ≡ first_of (from3 t [])
  unfolding close_of reset_of closing_of
  close_first t e =
      let o = cond (ltb 0 (unread_of n c.inbound)) (reset_of c) (closing_of c) in
      first_tests n a c t (close_forbids c.marks) o [] e (then_accepts o (search accepted-all))

  abort_first : number (says_of (abort_of n a c).reply) ≡ first_of (from3 c.marks.abort [])
  unfolding abort_of
  abort_first =
      let o = outcome_of Accepted true (marks_to c (abort_sent c.marks)) in
      first_tests n a c c.marks.abort c.marks.abort o [] refl (then_accepts o (search accepted-all))

-- 8: the rules of hear, one by one
p_broken : (r d l m s : Bool) → not r || not d || not l || m && not s ≡ not (r && (d && (l && (not m || s))))
p_broken false d l m s = refl
p_broken true false l m s = refl
p_broken true true false m s = refl
p_broken true true true false s = refl
p_broken true true true true s = refl

r_broken : (r d l : Bool) → not r || not d || not l ≡ not (r && (d && l))
r_broken false d l = refl
r_broken true false l = refl
r_broken true true l = refl

module _ (n : ℕ) (c : Record) (m : Message) where
  producer_is : producer_broken n c m ≡ not (producer_b n c m.producer)
  unfolding producer_b
  producer_is =
      let t = c.inbound.told in
      let old = c.inbound.producer in
      let new = m.producer in
      rw (← not_leb (gap_of (n - 4) t old) (gap_of (n - 4) t new))
      (p_broken (in_range n new) (good_b (n - 4) t new) (leb (gap_of (n - 4) t old) (gap_of (n - 4) t new)) (marked c.marks.heard) (same_b old new))

  consumer_is : consumer_broken c m ≡ not (consumer_b c m.consumer)
  unfolding consumer_b
  consumer_is =
      let d = c.remote.size - 4 in
      let q = c.outbound.producer in
      let r = m.consumer in
      rw (← not_leb (gap_of d r q) (gap_of d c.outbound.consumer q))
      (r_broken (in_range c.remote.size r) (good_b d r q) (leb (gap_of d r q) (gap_of d c.outbound.consumer q)))

  cursors_are : producer_broken n c m || consumer_broken c m ≡ not (producer_b n c m.producer && consumer_b c m.consumer)
  cursors_are = rw (producer_is, consumer_is) (sym (not_and (producer_b n c m.producer) (consumer_b c m.consumer)))

  by_abort : (a s f w ok t : Bool) (x y v z : Outcome) → t ≡ not ok → Accepts x → Accepts y → Accepts v → Accepts z
      → number (says_of (cond a x (cond s y (cond f v (cond w (cond ok z (refused_of 8 c)) (refused_of 16 c))))).reply)
      ≡ first_of (16 when (not a && (not s && (not f && not w))) ∷ 8 when (not a && (not s && (not f && t))) ∷ [])
  unfolding first_of refused_of
  by_abort true s f w ok t x y v z e h i l j = h.none_given
  by_abort false true f w ok t x y v z e h i l j = i.none_given
  by_abort false false true w ok t x y v z e h i l j = l.none_given
  by_abort false false false false ok t x y v z e h i l j = refl
  by_abort false false false true true t x y v z e h i l j = rw e j.none_given
  by_abort false false false true false t x y v z e h i l j = rw e

  hear_first : (a : Bool)
      → number (says_of (hear_of n a c m).reply)
      ≡ first_of
      (3 when not (coherent_b n c)
      ∷ 6 when not a
      ∷ 16 when (not m.flags.abort && (not c.marks.abort && (not m.flags.failover && not (eqb m.sequence (sequence_after c.inbound.last)))))
      ∷ 8 when (not m.flags.abort && (not c.marks.abort && (not m.flags.failover && (producer_broken n c m || consumer_broken c m))))
      ∷ [])
  unfolding hear_of followed_of validated_of ruled_of next_b aborted_of accepted_of
  hear_first a =
      let ok = producer_b n c m.producer && consumer_b c m.consumer in
      let s = outcome_of (Heard 0 PeerAbortWait) false c in
      first_two n a c (cond m.flags.abort (aborted_of c) (followed_of n c m)) _
      (by_abort m.flags.abort c.marks.abort m.flags.failover (next_b c m) ok _ (aborted_of c) s (validated_of c m) (accepted_of n c m) cursors_are (search accepted-all)
      (search accepted-all) (search accepted-all) (search accepted-all))

-- a request's turn
request_first : (g : Group) (k : ℕ) (q : Request)
    → number (request_turn g.N (link_of g k) (record_of_all g k) (element_in g k) q).answer.says
    ≡ first_of (3 when incoherent g k ∷ 6 when connection_down g k ∷ 7 when state_forbids g k q ∷ place_test g k q)
unfolding request_turn turn_of send_forbids place_forbids read_forbids shutdown_forbids close_forbids
request_first g k (send b) = send_first g.N (link_of g k) (record_of_all g k) (length b) _ (simp or_assoc)
request_first g k (urgent b) = urgent_first g.N (link_of g k) (record_of_all g k) (length b) _ (simp or_assoc)
request_first g k (gather h b) =
    let c = record_of_all g k in
    let first = first_of (3 when incoherent g k ∷ 6 when connection_down g k ∷ 7 when state_forbids g k (gather h b) ∷ []) in
    carried (pieces_of c h b) (λ (s : Says). number s ≡ first) (λ n p q e. e) (says_of (send_of g.N (link_of g k) c (length (h ++ b))).reply)
    (send_first g.N (link_of g k) c (length (h ++ b)) _ (simp or_assoc))
request_first g k (place at b) =
    place_first g.N (link_of g k) (record_of_all g k) at (length b) _ _ (simp or_assoc) (placeable g k at (length b))
request_first g k (read out) = read_first g.N (link_of g k) (record_of_all g k) (intact_b (element_in g k)) (length out) _ refl
request_first g k shutdown = shutdown_first g.N (link_of g k) (record_of_all g k) _ (simp or_assoc)
request_first g k close = close_first g.N (link_of g k) (record_of_all g k) _ refl
request_first g k abort = abort_first g.N (link_of g k) (record_of_all g k)

-- EVERY CALL.
abbrev refused_by : Done → Option ℕ
refused_by d = number d.answer.says

-- 4: three ways to be no message
by_bytes : {A : Type 0} (F : A → Option ℕ) (n : ℕ) (l : List Test) (p q r : Bool) (x y : A) → F x ≡ first_of l → F y ≡ some n
    → F (cond p (cond q (cond r x y) y) y) ≡ first_of (n when (not p || not q || not r) ∷ l)
unfolding first_of
by_bytes F n l false q r x y h k = k
by_bytes F n l true false r x y h k = k
by_bytes F n l true true false x y h k = k
by_bytes F n l true true true x y h k = h

-- 5: by the slot found
unheld_is : (g : Group) (token : ℕ) → token_unheld g token ≡ eqb (holder_of g token) 0
unheld_is g token = go (eqb token 0)
  where
    go : (t : Bool) → t || eqb (find_from g.table token g.S) 0 ≡ eqb (cond t 0 (find_from g.table token g.S)) 0
    go true = refl
    go false = refl

-- 7: PeerAbortWait is the state of A sent
module _ (m : Marks) where
  not_aborting_lem : (t : Bool) (x y : State) → aborting x ≡ false → aborting y ≡ false → aborting (cond t x y) ≡ false
  not_aborting_lem true x y h k = h
  not_aborting_lem false x y h k = k

  by_marks : aborting (close_state_of m) ≡ false
  unfolding close_state_of
  by_marks = search not_aborting_lem depth 9

  pub aborting_is : aborting (state_of m) ≡ m.abort
  unfolding state_of
  aborting_is = go m.abort
    where
      go : (t : Bool) → aborting (cond t PeerAbortWait (close_state_of m)) ≡ t
      go true = refl
      go false = by_marks

-- what open and free do with the number that their tests come to
module _ (g : Group) (out : List ℕ) (d : Done) where
  abbrev numbered : ℕ → Option ℕ
  numbered r = refused_by (cond (eqb r 0) d (refuses g r out))

  module _ (accepts : refused_by d ≡ none) where
    zero_first : numbered 0 ≡ first_of []
    zero_first = accepts ∙ none_left

    free_first : (k : ℕ)
        → numbered (free_refusal g k)
        ≡ first_of (1 when sizes_wrong g ∷ 2 when slot_closed g k ∷ 3 when incoherent g k ∷ 7 when not_aborting g k ∷ [])
    unfolding free_refusal refuses
    free_first k =
        must_not numbered 1 _ (sizes_wrong g) (not (sizes_ok g)) _ _ (sizes_is g)
        (must_not numbered 2 _ (slot_closed g k) (not (open_b g.S g.table k)) _ _ (open_is g k)
        (must_not numbered 3 _ (incoherent g k) (incoherent g k) _ _ refl
        (must_not numbered 7 [] (not_aborting g k) (not (record_of_all g k).marks.abort) 0 7 (ap not (aborting_is (record_of_all g k).marks))
        zero_first
        refl)
        refl)
        refl)
        refl

    open_first : (k : ℕ) (o : Opening)
        → numbered (open_refusal g k o)
        ≡ first_of (tests g (manage (open_slot k o)))
    unfolding open_refusal refuses
    open_first k o =
        must_not numbered 1 _ (sizes_wrong g) (not (sizes_ok g)) _ _ (sizes_is g)
        (must_not numbered 2 _ (slot_outside g k) (not (slot_b g.S k)) _ _ (slot_is g k)
        (must_not numbered 10 _ (already_open g k) (already_open g k) _ _ refl
        (must_not numbered 12 _ (zero_or_out o) (bad_opening o) _ _ (opening_is o)
        (must_not numbered 13 _ (link_outside o.link) (not (link_in o.link)) _ _ (outside_is 1 4 o.link)
        (must_not numbered 6 _ (link_down g o.link) (link_down g o.link) _ _ refl
        (must_not numbered 11 [] (token_held g o.own) (token_held g o.own) 0 11 refl zero_first refl)
        refl)
        refl)
        refl)
        refl)
        refl)
        refl

-- LINK MESSAGES
not-or : (a b : Bool) → not (a || b) ≡ not a && not b
not-or true b = refl
not-or false b = refl

-- the link being added
adds_is : (x : Exchange) → eqb (sort_of x) add ≡ not (outside 1 4 x.stage)
unfolding sort_of
adds_is x = go x.stage ∙ sym (ap not (outside_is 1 4 x.stage) ∙ twice (leb 1 x.stage && leb x.stage 4))
  where
    twice : (b : Bool) → not (not b) ≡ b
    twice true = refl
    twice false = refl

    by : (b c : Bool) → eqb (cond b 1 (cond c 2 3)) 1 ≡ b
    by true c = refl
    by false true = refl
    by false false = refl

    go : (s : ℕ) → eqb (cond (eqb s 0) 0 (cond (leb s 4) 1 (cond (eqb s 5) 2 3))) 1 ≡ (leb 1 s && leb s 4)
    go zero = refl
    go (suc n) = rw (ne_eqb (suc n) 0 (λ e. omega (arith, e)), le-leb 1 (suc n) (omega arith)) (by (leb (suc n) 4) (eqb (suc n) 5))

added_is : (x : Exchange) (l : ℕ) → added_b x l ≡ adding_b x l
unfolding adding_b
added_is x l = ap (λ (t : Bool). t && eqb l x.w) (sym (adds_is x))

down_is : (g : Group) (l first : ℕ) → message_down g l first ≡ down_b (links_of g) l first
unfolding down_b
down_is g l first =
    ap (λ (t : Bool). link_down g l && not (t && eqb first 0x01)) (added_is g.exchange l)
    ∙ sym (not-or (active_b g.links l) (adding_b g.exchange l && eqb first 0x01))

-- 14's list, by the kind
acts_by : (k : ℕ) (r z a c : Bool)
    → (eqb k 0x01 || eqb k 0x02 || eqb k 0x03 || eqb k 0x04)
    && not (eqb k 0x02 && not r && c || eqb k 0x02 && r && z || eqb k 0x04 && a)
    ≡ (eqb k 0x01 || (eqb k 0x02 && not (r && z || (not r && c)) || (eqb k 0x03 || (eqb k 0x04 && not a))))
acts_by zero r z a c = refl
acts_by (suc zero) r z a c = refl
acts_by (suc (suc zero)) true true a true = refl
acts_by (suc (suc zero)) true true a false = refl
acts_by (suc (suc zero)) true false a true = refl
acts_by (suc (suc zero)) true false a false = refl
acts_by (suc (suc zero)) false true a true = refl
acts_by (suc (suc zero)) false true a false = refl
acts_by (suc (suc zero)) false false a true = refl
acts_by (suc (suc zero)) false false a false = refl
acts_by (suc (suc (suc zero))) r z a c = refl
acts_by (suc (suc (suc (suc zero)))) r z true c = refl
acts_by (suc (suc (suc (suc zero)))) r z false c = refl
acts_by (suc (suc (suc (suc (suc zero))))) r z a c = refl
acts_by (suc (suc (suc (suc (suc (suc zero)))))) r z a c = refl
acts_by (suc (suc (suc (suc (suc (suc (suc zero))))))) r z a c = refl
acts_by (suc (suc (suc (suc (suc (suc (suc (suc zero)))))))) r z a c = refl
acts_by (suc (suc (suc (suc (suc (suc (suc (suc (suc zero))))))))) r z a c = refl
acts_by (suc (suc (suc (suc (suc (suc (suc (suc (suc (suc n)))))))))) r z a c = far (suc (suc (suc (suc (suc (suc (suc (suc (suc (suc n)))))))))) (omega arith)
  where
    far : (x : ℕ) → 10 ≤ x
        → (eqb x 0x01 || eqb x 0x02 || eqb x 0x03 || eqb x 0x04)
        && not (eqb x 0x02 && not r && c || eqb x 0x02 && r && z || eqb x 0x04 && a)
        ≡ (eqb x 0x01 || (eqb x 0x02 && not (r && z || (not r && c)) || (eqb x 0x03 || (eqb x 0x04 && not a))))
    far x h =
        rw (
          ne_eqb x 1 (λ e. omega (arith, e)),
          ne_eqb x 2 (λ e. omega (arith, e)),
          ne_eqb x 3 (λ e. omega (arith, e)),
          ne_eqb x 4 (λ e. omega (arith, e)),
        )
        refl

acted_is : (m : Said) → acted_outside m ≡ outside_b m
unfolding outside_b acts_b
acted_is m = λ i. acts_by m.kind m.reply m.z m.a m.client i && outside_is 1 4 m.link i

-- 15's list, by the kind: at stage 0, and while something runs
may_none : (k : ℕ) (r a c : Bool)
    → not r && (eqb k 0x07 || eqb k 0x04 && a || eqb k 0x04 && c || eqb k 0x02 && c && true || eqb k 0x02 && not c && true || eqb k 0x04 && not c && true
    || eqb k 0x06 && true || eqb k 0x09 && true)
    ≡ (not r && (eqb k 0x07 || (eqb k 0x04 && (a || c) || (eqb k 0x02 && (c && true) || (true && (eqb k 0x02 || (eqb k 0x04 || (eqb k 0x06 || eqb k 0x09))))))))
may_none zero true a c = refl
may_none zero false a c = refl
may_none (suc zero) true a c = refl
may_none (suc zero) false a c = refl
may_none (suc (suc zero)) true a c = refl
may_none (suc (suc zero)) false a true = refl
may_none (suc (suc zero)) false a false = refl
may_none (suc (suc (suc zero))) true a c = refl
may_none (suc (suc (suc zero))) false a c = refl
may_none (suc (suc (suc (suc zero)))) true a c = refl
may_none (suc (suc (suc (suc zero)))) false true true = refl
may_none (suc (suc (suc (suc zero)))) false true false = refl
may_none (suc (suc (suc (suc zero)))) false false true = refl
may_none (suc (suc (suc (suc zero)))) false false false = refl
may_none (suc (suc (suc (suc (suc zero))))) true a c = refl
may_none (suc (suc (suc (suc (suc zero))))) false a c = refl
may_none (suc (suc (suc (suc (suc (suc zero)))))) true a c = refl
may_none (suc (suc (suc (suc (suc (suc zero)))))) false a c = refl
may_none (suc (suc (suc (suc (suc (suc (suc zero))))))) true a c = refl
may_none (suc (suc (suc (suc (suc (suc (suc zero))))))) false a c = refl
may_none (suc (suc (suc (suc (suc (suc (suc (suc zero)))))))) true a c = refl
may_none (suc (suc (suc (suc (suc (suc (suc (suc zero)))))))) false a c = refl
may_none (suc (suc (suc (suc (suc (suc (suc (suc (suc zero))))))))) true a c = refl
may_none (suc (suc (suc (suc (suc (suc (suc (suc (suc zero))))))))) false a c = refl
may_none (suc (suc (suc (suc (suc (suc (suc (suc (suc (suc n)))))))))) r a c = far (suc (suc (suc (suc (suc (suc (suc (suc (suc (suc n)))))))))) r (omega arith)
  where
    far : (k : ℕ) (r : Bool) → 10 ≤ k
        → not r && (eqb k 0x07 || eqb k 0x04 && a || eqb k 0x04 && c || eqb k 0x02 && c && true || eqb k 0x02 && not c && true || eqb k 0x04 && not c && true
        || eqb k 0x06 && true || eqb k 0x09 && true)
        ≡ (not r && (eqb k 0x07 || (eqb k 0x04 && (a || c) || (eqb k 0x02 && (c && true) || (true && (eqb k 0x02 || (eqb k 0x04 || (eqb k 0x06 || eqb k 0x09))))))))
    far k true h = refl
    far k false h =
        rw (
          ne_eqb k 2 (λ e. omega (arith, e)),
          ne_eqb k 4 (λ e. omega (arith, e)),
          ne_eqb k 6 (λ e. omega (arith, e)),
          ne_eqb k 7 (λ e. omega (arith, e)),
          ne_eqb k 9 (λ e. omega (arith, e)),
        )
        refl

may_run : (k : ℕ) (r a c o : Bool)
    → not r && (eqb k 0x07 || eqb k 0x04 && a || eqb k 0x04 && c || eqb k 0x02 && c && o || eqb k 0x02 && not c && false || eqb k 0x04 && not c && false
    || eqb k 0x06 && false || eqb k 0x09 && false)
    ≡ (not r && (eqb k 0x07 || (eqb k 0x04 && (a || c) || (eqb k 0x02 && (c && o) || (false && (eqb k 0x02 || (eqb k 0x04 || (eqb k 0x06 || eqb k 0x09))))))))
may_run zero true a c o = refl
may_run zero false a c o = refl
may_run (suc zero) true a c o = refl
may_run (suc zero) false a c o = refl
may_run (suc (suc zero)) true a c o = refl
may_run (suc (suc zero)) false a true true = refl
may_run (suc (suc zero)) false a true false = refl
may_run (suc (suc zero)) false a false o = refl
may_run (suc (suc (suc zero))) true a c o = refl
may_run (suc (suc (suc zero))) false a c o = refl
may_run (suc (suc (suc (suc zero)))) true a c o = refl
may_run (suc (suc (suc (suc zero)))) false true true o = refl
may_run (suc (suc (suc (suc zero)))) false true false o = refl
may_run (suc (suc (suc (suc zero)))) false false true o = refl
may_run (suc (suc (suc (suc zero)))) false false false o = refl
may_run (suc (suc (suc (suc (suc zero))))) true a c o = refl
may_run (suc (suc (suc (suc (suc zero))))) false a c o = refl
may_run (suc (suc (suc (suc (suc (suc zero)))))) true a c o = refl
may_run (suc (suc (suc (suc (suc (suc zero)))))) false a c o = refl
may_run (suc (suc (suc (suc (suc (suc (suc zero))))))) true a c o = refl
may_run (suc (suc (suc (suc (suc (suc (suc zero))))))) false a c o = refl
may_run (suc (suc (suc (suc (suc (suc (suc (suc zero)))))))) true a c o = refl
may_run (suc (suc (suc (suc (suc (suc (suc (suc zero)))))))) false a c o = refl
may_run (suc (suc (suc (suc (suc (suc (suc (suc (suc zero))))))))) true a c o = refl
may_run (suc (suc (suc (suc (suc (suc (suc (suc (suc zero))))))))) false a c o = refl
may_run (suc (suc (suc (suc (suc (suc (suc (suc (suc (suc n)))))))))) r a c o = far (suc (suc (suc (suc (suc (suc (suc (suc (suc (suc n)))))))))) r (omega arith)
  where
    far : (k : ℕ) (r : Bool) → 10 ≤ k
        → not r && (eqb k 0x07 || eqb k 0x04 && a || eqb k 0x04 && c || eqb k 0x02 && c && o || eqb k 0x02 && not c && false || eqb k 0x04 && not c && false
        || eqb k 0x06 && false || eqb k 0x09 && false)
        ≡ (not r && (eqb k 0x07 || (eqb k 0x04 && (a || c) || (eqb k 0x02 && (c && o) || (false && (eqb k 0x02 || (eqb k 0x04 || (eqb k 0x06 || eqb k 0x09))))))))
    far k true h = refl
    far k false h =
        rw (
          ne_eqb k 2 (λ e. omega (arith, e)),
          ne_eqb k 4 (λ e. omega (arith, e)),
          ne_eqb k 6 (λ e. omega (arith, e)),
          ne_eqb k 7 (λ e. omega (arith, e)),
          ne_eqb k 9 (λ e. omega (arith, e)),
        )
        refl

may_is : (x : Exchange) (m : Said) → sendable x m ≡ may_send x m
unfolding may_send
may_is x m = go x.stage (not (eqb (sort_of x) add)) refl (ap not (adds_is x) ∙ twice (outside 1 4 x.stage))
  where
    twice : (b : Bool) → not (not b) ≡ b
    twice true = refl
    twice false = refl

    go : (s : ℕ) (o : Bool) → x.stage ≡ s → o ≡ outside 1 4 x.stage
        → sendable x m
        ≡ (not m.reply
        && (eqb m.kind 0x07
        || (eqb m.kind 0x04 && (m.a || m.client)
        || (eqb m.kind 0x02 && (m.client && o)
        || (eqb x.stage 0
        && (eqb m.kind 0x02 || (eqb m.kind 0x04 || (eqb m.kind 0x06 || eqb m.kind 0x09))))))))
    go zero o e h = rw (h, e) (may_none m.kind m.reply m.a m.client)
    go (suc n) o e h = rw (h, e, ne_eqb (suc n) 0 (λ e. omega (arith, e))) (may_run m.kind m.reply m.a m.client (outside 1 4 (suc n)))

-- the number that the tests of a link message come to, and of a link send, is what is refused
heard_refusal : (ls : Links) (l : ℕ) (b : List ℕ) → (heard_of ls l b).refusal ≡ message_refusal ls l b (heard_in ls b) (fate_no ls l (heard_in ls b))
unfolding heard_of heard_work nothing_heard
heard_refusal ls l b = go (eqb j 0) (not (optional_b b)) refl
  where
    j : ℕ
    j = message_refusal ls l b (heard_in ls b) (fate_no ls l (heard_in ls b))

    go : (t u : Bool) → eqb j 0 ≡ t
        → (cond (t && u) (heard_work ls l b (heard_in ls b) (due_b ls.exchange l (heard_in ls b)) (fate_no ls l (heard_in ls b))) (nothing_heard ls j)).refusal
        ≡ j
    go true true e = sym (eqb-true j 0 e)
    go true false e = refl
    go false u e = refl

sent_refusal : (ls : Links) (l : ℕ) (k : Kind) (vs : List ℕ)
    → (linkSentOf ls l k vs).refusal ≡ send_refusal ls l (sent_in ls k vs) (due_b ls.exchange l (sent_in ls k vs))
unfolding linkSentOf
sent_refusal ls l k vs = go (eqb j 0) refl
  where
    j : ℕ
    j = send_refusal ls l (sent_in ls k vs) (due_b ls.exchange l (sent_in ls k vs))

    go : (t : Bool) → eqb j 0 ≡ t
        → (cond {A = SentLink} t
        (record { refusal = 0; message = encode_of k vs; settled = sent_work ls l (sent_in ls k vs) (due_b ls.exchange l (sent_in ls k vs)) })
        (record { refusal = j; message = no_reply; settled = unchanged ls })
        ).refusal
        ≡ j
    go true e = sym (eqb-true j 0 e)
    go false e = refl

module _ (g : Group) (out : List ℕ) (d : Done) (accepts : refused_by d ≡ none) where
  -- the class by its three tests: a named, f FE, o optional
  abbrev class : Bool → Bool → Bool → ℕ
  class a f o = cond a 1 (cond f 2 (cond o 3 0))

  by_class : (len a f o two x y : Bool)
      → numbered g out d
      (cond (not len) 4
      (cond (eqb (class a f o) 3) 0
      (cond (not (eqb (class a f o) 1 && two)) 4
      (cond x 14 (cond y 15 0)))))
      ≡ first_of
      (4 when (not len || not (eqb (class a f o) 3) && (eqb (class a f o) 0 || eqb (class a f o) 2 || not two))
      ∷ 14 when (not (eqb (class a f o) 3) && x)
      ∷ 15 when (not (eqb (class a f o) 3) && y)
      ∷ [])
  unfolding first_of refuses
  by_class false a f o two x y = refl
  by_class true true f o false x y = refl
  by_class true true f o true true y = refl
  by_class true true f o true false true = refl
  by_class true true f o true false false = accepts
  by_class true false true o two x y = refl
  by_class true false false true two x y = accepts
  by_class true false false false two x y = refl

  message_first : (l : ℕ) (b : List ℕ)
      → numbered g out d (message_refusal (links_of g) l b (heard_in (links_of g) b) (fate_no (links_of g) l (heard_in (links_of g) b)))
      ≡ first_of (13 when link_outside l ∷ 6 when message_down g l (get_or b 0 0) ∷ 4 when malformed_link b ∷ 14 when message_outside g l b ∷ 15 when queue_full g l b ∷ [])
  unfolding message_refusal optional_b message_b named_b full_b refuses class_of
  message_first l b =
      let m = heard_in (links_of g) b in
      let taken = is_fate (heard_fate g l b) Taken || is_fate (heard_fate g l b) Queued in
      must_not (numbered g out d) 13 _ (link_outside l) (not (link_in l)) _ _ (outside_is 1 4 l)
      (must_not (numbered g out d) 6 _ (message_down g l (get_or b 0 0)) (down_b (links_of g) l (get_or b 0 0)) _ _ (down_is g l (get_or b 0 0))
      (bytes taken m)
      refl)
      refl
    where
      bytes : (taken : Bool) (m : Said)
          → numbered g out d
          (cond (not (eqb (length b) 44)) 4
          (cond (eqb (class_of (get_or b 0 0)) 3) 0
          (cond (not (named_b (get_or b 0 0) && byte_is b 1 0x2C)) 4
          (cond (taken && outside_b m) 14 (cond (is_fate (heard_fate g l b) Queued && leb 4 g.queue.count) 15 0)))))
          ≡ first_of
          (4 when malformed_link b
          ∷ 14 when (not (eqb (class_of (get_or b 0 0)) 3) && (taken && acted_outside m))
          ∷ 15 when queue_full g l b
          ∷ [])
      bytes taken m =
          let x = get_or b 0 0 in
          rw (acted_is m)
          (by_class (eqb (length b) 44) (between 0x01 0x04 x || between 0x06 0x09 x) (eqb x 0xFE) (between 0x80 0xBF x) (byte_is b 1 0x2C)
          (taken && outside_b m) (is_fate (heard_fate g l b) Queued && leb 4 g.queue.count))

  sending_first : (l : ℕ) (k : Kind) (vs : List ℕ)
      → numbered g out d (send_refusal (links_of g) l (sent_in (links_of g) k vs) (due_b g.exchange l (sent_in (links_of g) k vs)))
      ≡ first_of (13 when link_outside l ∷ 6 when message_down g l (code_of k) ∷ 14 when acted_outside (sent_in (links_of g) k vs) ∷ 15 when sending_barred g l (sent_in (links_of g) k vs) ∷ [])
  unfolding send_refusal refuses said_of
  sending_first l k vs =
      let m = sent_in (links_of g) k vs in
      must_not (numbered g out d) 13 _ (link_outside l) (not (link_in l)) _ _ (outside_is 1 4 l)
      (must_not (numbered g out d) 6 _ (message_down g l (code_of k)) (down_b (links_of g) l (code_of k)) _ _ (down_is g l (code_of k))
      (must_not (numbered g out d) 14 _ (acted_outside m) (outside_b m) _ _ (acted_is m)
      (must_not (numbered g out d) 15 [] (sending_barred g l m) (not (due_b g.exchange l m || may_send g.exchange m)) 0 15
      (ap (λ (t : Bool). not (due_b g.exchange l m || t)) (may_is g.exchange m))
      (accepts ∙ none_left)
      refl)
      refl)
      refl)
      refl

-- 1 first, of what they are lent
lent_is : (g : Group) (out : List ℕ) → lent_wrong g out ≡ not (lent_ok g out)
lent_is g out = (λ i. sizes_is g i || sym (not_leb (44 * g.S) (length out)) i) ∙ sym (not_and (sizes_ok g) (leb (44 * g.S) (length out)))

lent_first : (g : Group) (out : List ℕ) (d : Done) (j : ℕ) (l : List Test) → numbered g out d j ≡ first_of l
    → numbered g out d (link_refusal g out j) ≡ first_of (1 when lent_wrong g out ∷ l)
unfolding link_refusal refuses
lent_first g out d j l e = must (numbered g out d) 1 l (lent_wrong g out) (lent_ok g out) j 1 (lent_is g out) e refl

change_first : (g : Group) (out : List ℕ) (d : Done) → refused_by d ≡ none → (l : ℕ)
    → numbered g out d (cond (link_in l) 0 13) ≡ first_of (13 when link_outside l ∷ [])
unfolding refuses
change_first g out d accepts l = must (numbered g out d) 13 [] (link_outside l) (link_in l) 0 13 (outside_is 1 4 l) (accepts ∙ none_left) refl

-- sample, by the number of its refusal
sample_first : (g : Group) (l ms : ℕ) → refused_by (sample_does g l ms) ≡ first_of (tests g (manage (sample l ms)))
unfolding sample_does sample_refusal refuses first_of
sample_first g l ms =
    go (link_outside l) (link_down g l) (too_long ms) (not (link_in l)) (link_down g l) (not (leb ms most_ms)) (outside_is 1 4 l) refl
    (sym (not_leb ms most_ms))
  where
    q : Gauge
    q = sampled_of (gauge_at g.gauges l) ms

    done : ℕ → Done
    done j = cond (eqb j 0) (record { answer = healthy q; group = with_links g (gauge_set (links_of g) l q) }) (refuses g j [])

    go : (x y z a b d : Bool) → x ≡ a → y ≡ b → z ≡ d
        → refused_by (done (cond a 13 (cond b 6 (cond d 17 0)))) ≡ first_of (13 when x ∷ 6 when y ∷ 17 when z ∷ [])
    go x y z true b d e f h = rw e
    go x y z false true d e f h = rw (e, f)
    go x y z false false true e f h = rw (e, f, h)
    go x y z false false false e f h = rw (e, f, h)

call_first : (g : Group) (c : Call) → refused_by (does g c) ≡ first_of (tests g c)
unfolding on_does hear_does hear_at hear_turn open_does free_does fails_over link_does link_message_does link_send_does put_turn turn_of refuses decode_of
call_first g (on k q) =
    must refused_by 1 _ (sizes_wrong g) (sizes_ok g) _ _ (sizes_is g)
    (must refused_by 2 _ (slot_closed g k) (open_b g.S g.table k) _ _ (open_is g k) (request_first g k q) refl)
    refl
call_first g (hear b) =
    let m = fields_of b in
    let k = holder_of g m.token in
    must refused_by 1 _ (sizes_wrong g) (sizes_ok g) _ _ (sizes_is g)
    (by_bytes (λ d. refused_by (hear_message g d)) 4 _ (eqb (length b) 44) (byte_is b 0 0xFE) (byte_is b 1 0x2C) (Good m) Malformed
    (must_not refused_by 5 _ (token_unheld g m.token) (eqb k 0) _ _ (unheld_is g m.token) (hear_first g.N (record_of_all g k) m (link_of g k)) refl)
    refl)
    refl
call_first g (manage (open_slot k o)) = open_first g [] _ refl k o
call_first g (manage (free_slot k)) = free_first g [] _ refl k
call_first g (manage (link_change l up out)) = lent_first g out _ _ _ (change_first g out _ refl l)
call_first g (manage (link_message l b out)) =
    lent_first g out _ _ _ (ap (numbered g out _) (heard_refusal (links_of g) l b) ∙ message_first g out _ refl l b)
call_first g (manage (link_send l k vs out)) =
    lent_first g out _ _ _ (ap (numbered g out _) (sent_refusal (links_of g) l k vs) ∙ sending_first g out _ refl l k vs)
call_first g (manage (sample l ms)) = sample_first g l ms

pub exactly_when : ExactlyWhen
exactly_when g c =
    let e = call_first g c in
    record {
      refused = λ k. (λ h. sym e ∙ ap number h, λ h. number_is (answer g c).says k (e ∙ h));
      not_refused = (
        λ h. sym e ∙ unnumbered (answer g c).says h,
        λ h k r. let bad : ◌≡◌ {A = Option ℕ} (some k) none = sym (ap number r) ∙ (e ∙ h) in clash (cc),
      );
    }

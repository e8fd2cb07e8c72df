-- What a connection call leaves of its record, in any group: an open one, whose P and R did not go back, or none, and then why it closed.
-- A further call is one clause more of `request-course`. Assumes nothing.
use mathlib.Core.Path.{◌≡◌, refl, sym, ap, ◌∙◌}
use mathlib.Core.Logic.{◌⊎◌, inl, inr}
use mathlib.Core.Bool.{Bool, true, false, false≢true, ◌&&◌, ◌||◌, not, cond}
use mathlib.Core.List.{List, ◌++◌}
use Prim.Native.Nat.{ℕ, ◌-◌}
use lib.Dec.{ltb, eqb}
use lib.ListN.{length}
use borrow.Author.Tests.{eqb-true}
use Rattle.cursor.specs.declared.Cursor.{Cursor}
use Rattle.cursor.specs.Cursor.{same_b, good_b}
use Rattle.cursor.proofs.Laws.{gap_self, gap_rest, gap_front}
use Rattle.cdc.specs.declared.Message.{Message}
use Rattle.closing.specs.declared.Marks.{Marks}
use Rattle.closing.specs.Closing.{marked, done_sent, closed_sent, abort_sent, marks_heard}
use Rattle.conn_record.specs.declared.Record.{Record}
use Rattle.conn_answer.specs.declared.Reply.{Reply}
use Rattle.conn_answer.specs.declared.Reply.TheVariants.{Accepted, Heard, Refused}
use Rattle.conn_answer.specs.declared.Outcome.{Outcome}
use Rattle.conn_record.specs.Connection.{zero_record, refusal_of, marks_to}
use Rattle.conn_answer.specs.Outcome.{refused_of, outcome_of, urgent_outcome, told_of, told_in, used_in, closed_if}
use Rattle.conn_record.proofs.Laws.{Coherent, coherent_facts, refusal_none, tp_good, and_left, and_right}
use Rattle.conn_answer.proofs.Laws.{outcome_reply}
use Rattle.conn_send.specs.Transmit.{send_of, sent_of, urgent_of, urgent_send_of}
use Rattle.conn_send.specs.Produced.{produced_of, produced_out, urged_out, urged_of}
use Rattle.conn_receive.specs.Receive.{unread_of, place_of, read_of, take_of, torn_of, consumed_of, consumed_in, cleared_in}
use Rattle.conn_hear.specs.Hear.{ruled_of, hear_of, aborted_of, followed_of, validated_of, accepted_of}
use Rattle.conn_hear.specs.Heard.{next_b, producer_b, consumer_b, heard_record, heard_in, heard_out}
use Rattle.conn_hear.proofs.HeardLaws.{Produces, Consumes, producer_rules, consumer_rules}
use Rattle.conn_finish.specs.Finish.{reset_of, closing_of, shutdown_of, close_forbids, close_of, abort_of}
use Rattle.group_rules.specs.Rules.{Request, send, gather, urgent, place, read, shutdown, close, abort, Says, accepted, says_of, turn_of, request_turn, hear_turn, refusal, heard}
use Rattle.thm_refusals.proofs.Answers.{clash}
use Rattle.closing.specs.declared.State.{State}
use Rattle.thm_changes.specs.Changes.{Kept}

-- the marks that stay, of the same marks, and of those that a call or a message sets
kept_same : (m : Marks) → Kept m m
kept_same m =
    record { D_sent = λ e. e; C_sent = λ e. e; D_heard = λ e. e; C_heard = λ e. e; first = λ e. e; A_sent = λ e. e }

pub kept_by : (m n : Marks) → n ≡ m → Kept m n
kept_by m n e =
    record {
      D_sent = λ d. ap (λ (x : Marks). x.sent.done) e ∙ d;
      C_sent = λ d. ap (λ (x : Marks). x.sent.closed) e ∙ d;
      D_heard = λ d. ap (λ (x : Marks). x.heard.done) e ∙ d;
      C_heard = λ d. ap (λ (x : Marks). x.heard.closed) e ∙ d;
      first = λ d. ap (λ (x : Marks). x.first) e ∙ d;
      A_sent = λ d. ap (λ (x : Marks). x.abort) e ∙ d;
    }

or_left : (a b : Bool) → a ≡ true → a || b ≡ true
or_left true b e = refl
or_left false b e = absurd (false≢true e)

kept_done : (m : Marks) → Kept m (done_sent m)
unfolding done_sent
kept_done m =
    record {
      D_sent = λ e. refl;
      C_sent = λ e. e;
      D_heard = λ e. e;
      C_heard = λ e. e;
      first = or_left m.first _;
      A_sent = λ e. e;
    }

kept_closed : (m : Marks) → Kept m (closed_sent m)
unfolding closed_sent
kept_closed m =
    record {
      D_sent = λ e. e;
      C_sent = λ e. refl;
      D_heard = λ e. e;
      C_heard = λ e. e;
      first = or_left m.first _;
      A_sent = λ e. e;
    }

kept_abort : (m : Marks) → Kept m (abort_sent m)
unfolding abort_sent
kept_abort m =
    record { D_sent = λ e. e; C_sent = λ e. e; D_heard = λ e. e; C_heard = λ e. e; first = λ e. e; A_sent = λ e. refl }

kept_heard : (m : Marks) (d c : Bool) → Kept m (marks_heard m d c)
unfolding marks_heard
kept_heard m d c =
    record {
      D_sent = λ e. e;
      C_sent = λ e. e;
      D_heard = or_left m.heard.done d;
      C_heard = or_left m.heard.closed c;
      first = λ e. e;
      A_sent = λ e. e;
    }

-- the record d is still that of the connection of c, and P and R did not go back
pub record Ahead (n : ℕ) (c d : Record) : Type 0 where
  pub same_opened : d.id.opened ≡ c.id.opened
  pub P_ahead : good_b (n - 4) c.inbound.producer d.inbound.producer ≡ true
  pub R_ahead : good_b (c.remote.size - 4) c.outbound.consumer d.outbound.consumer ≡ true
  pub P_still : marked c.marks.heard ≡ true → d.inbound.producer ≡ c.inbound.producer
  pub kept : Kept c.marks d.marks

-- it ends where there is a reason, and only there
pub data Course (n : ℕ) (c : Record) (Why : Type 0) (d : Record) : Type 0 where
  goes : (Why → ⊥) → Ahead n c d → Course n c Why d
  ends : Why → d ≡ zero_record → Course n c Why d

-- of what an outcome leaves
record Leaves (n : ℕ) (c : Record) (Why : Reply → Type 0) (o : Outcome) : Type 0 where
  course : Course n c (Why o.reply) o.after

pub ahead : (n : ℕ) (c d : Record) → d.id.opened ≡ c.id.opened → d.inbound.producer ≡ c.inbound.producer
    → d.outbound.consumer ≡ c.outbound.consumer → Kept c.marks d.marks → Ahead n c d
ahead n c d i p r k =
    record {
      same_opened = i;
      P_ahead = ap (λ (x : Cursor). good_b (n - 4) c.inbound.producer x) p ∙ (gap_self (n - 4) c.inbound.producer).0;
      R_ahead =
          ap (λ (x : Cursor). good_b (c.remote.size - 4) c.outbound.consumer x) r
          ∙ (gap_self (c.remote.size - 4) c.outbound.consumer).0;
      P_still = λ m. p;
      kept = k;
    }

pub stays : (n : ℕ) (c d : Record) → d.id ≡ c.id → d.inbound.producer ≡ c.inbound.producer → d.outbound.consumer ≡ c.outbound.consumer
    → Kept c.marks d.marks → Ahead n c d
stays n c d i p r k =
    record {
      same_opened = ap (λ x. x.opened) i;
      P_ahead = ap (λ (x : Cursor). good_b (n - 4) c.inbound.producer x) p ∙ (gap_self (n - 4) c.inbound.producer).0;
      R_ahead =
          ap (λ (x : Cursor). good_b (c.remote.size - 4) c.outbound.consumer x) r
          ∙ (gap_self (c.remote.size - 4) c.outbound.consumer).0;
      P_still = λ m. p;
      kept = k;
    }

-- a refusal is no reason
module _ (n : ℕ) (c : Record) (Why : Reply → Type 0) (not_refused : (k : ℕ) → Why (Refused k) → ⊥) where
  by_test : (t : Bool) (o p : Outcome) → (t ≡ true → Leaves n c Why o) → (t ≡ false → Leaves n c Why p) → Leaves n c Why (cond t o p)
  by_test true o p h k = h refl
  by_test false o p h k = k refl

  refused : (k : ℕ) → Leaves n c Why (refused_of k c)
  unfolding refused_of
  refused k = record { course = goes (not_refused k) (stays n c c refl refl refl (kept_same c.marks)) }

  told : (r : Reply) (t : Bool) (d : Record) → (Why r → ⊥) → Ahead n c d → Leaves n c Why (outcome_of r t d)
  unfolding outcome_of told_of told_in used_in
  told r true d w h =
      record {
        course =
            goes w
            (record { same_opened = h.same_opened; P_ahead = h.P_ahead; R_ahead = h.R_ahead; P_still = h.P_still; kept = h.kept });
      }
  told r false d w h = record { course = goes w h }

  short : (r : Reply) (m : Message) (d : Record) → (Why r → ⊥) → d.id ≡ c.id → d.inbound.producer ≡ c.inbound.producer
      → d.outbound.consumer ≡ c.outbound.consumer → Kept c.marks d.marks → Leaves n c Why (urgent_outcome r m d)
  unfolding urgent_outcome told_of told_in used_in
  short r m d w i p q k = record { course = goes w (stays n c (told_of d) i p q k) }

  -- a record in which neither P nor R moved, with or without a message made
  outcome : (r : Reply) (t : Bool) (d : Record) → (Why r → ⊥) → d.id ≡ c.id → d.inbound.producer ≡ c.inbound.producer
      → d.outbound.consumer ≡ c.outbound.consumer → Kept c.marks d.marks → Leaves n c Why (outcome_of r t d)
  outcome r t d w i p q k = told r t d w (stays n c d i p q k)

  shut : (t : Bool) (o : Outcome) → (t ≡ true → Why o.reply) → (t ≡ false → Leaves n c Why o) → Leaves n c Why (closed_if t o)
  unfolding closed_if
  shut true o w h = record { course = ends (w refl) refl }
  shut false o w h = h refl

-- the same, of a reason that is none
because : {n : ℕ} {c d : Record} {Why Other : Type 0} → (Other → ⊥) → (Why → ⊥) → Course n c Why d → Course n c Other d
because none was (goes w h) = goes none h
because none was (ends w e) = absurd (was w)

-- CALLS ON A SLOT: of these close alone ends it, where C was heard
abbrev pub ClosesSlot : Record → Request → Says → Type 0
ClosesSlot c q says = (q ≡ close) × (says ≡ accepted) × (c.marks.heard.closed ≡ true)

module _ (n : ℕ) (a : Bool) (c : Record) where
  abbrev Why : Request → Reply → Type 0
  Why q r = ClosesSlot c q (says_of r)

  never : (q : Request) (k : ℕ) → Why q (Refused k) → ⊥
  never q k w = let e = w.1 in clash (cc)

  module _ (q : Request) (other : (r : Reply) → Why q r → ⊥) where
    send_leaves : (k : ℕ) → Leaves n c (Why q) (send_of n a c k)
    unfolding send_of sent_of produced_of produced_out
    send_leaves k = search (by_test, refused, outcome, never q, other, kept_same, kept_done, kept_abort) depth 9

    urgent_leaves : (k : ℕ) → Leaves n c (Why q) (urgent_send_of n a c k)
    unfolding urgent_send_of urgent_of urged_of urged_out produced_of produced_out
    urgent_leaves k = search (by_test, refused, outcome, short, never q, other, kept_same) depth 9

    place_leaves : (at k : ℕ) → Leaves n c (Why q) (place_of n a c at k)
    unfolding place_of
    place_leaves at k = search (by_test, refused, outcome, never q, other, kept_same, kept_done, kept_abort) depth 9

    read_leaves : (t : Bool) (k : ℕ) → Leaves n c (Why q) (read_of n a c t k)
    unfolding read_of take_of torn_of consumed_of consumed_in cleared_in marks_to
    read_leaves t k = search (by_test, refused, outcome, never q, other, kept_same, kept_done, kept_abort) depth 9

    shutdown_leaves : Leaves n c (Why q) (shutdown_of n a c)
    unfolding shutdown_of marks_to
    shutdown_leaves = search (by_test, refused, outcome, never q, other, kept_same, kept_done, kept_abort) depth 9

    abort_leaves : Leaves n c (Why q) (abort_of n a c)
    unfolding abort_of marks_to
    abort_leaves = search (by_test, refused, outcome, never q, other, kept_same, kept_done, kept_abort) depth 9

  close_leaves : Leaves n c (Why close) (close_of n a c)
  unfolding close_of reset_of closing_of marks_to
  close_leaves =
      by_test n c _ (never close) (eqb (refusal_of n a c (close_forbids c.marks)) 0) _ _
      (λ e.
      by_test n c _ (never close) (ltb 0 (unread_of n c.inbound)) _ _
      (λ u. outcome n c _ (never close) _ _ _ (λ w. let z = w.1 in clash (cc)) refl refl refl (kept_abort c.marks))
      (λ u.
      shut n c _ (never close) c.marks.heard.closed _
      (λ h. (refl, ap says_of (outcome_reply Accepted true (marks_to c (closed_sent c.marks))), h))
      (λ h. outcome n c _ (never close) _ _ _ (λ w. false≢true (sym h ∙ w.2)) refl refl refl (kept_closed c.marks))))
      (λ e. refused n c _ (never close) _)

  pub request_course : (e : List ℕ) (q : Request)
      → Course n c (ClosesSlot c q (request_turn n a c e q).answer.says) (request_turn n a c e q).after
  unfolding request_turn turn_of
  request_course e (send b) = (send_leaves (send b) (λ r w. let z = w.0 in clash (cc)) (length b)).course
  request_course e (urgent b) = (urgent_leaves (urgent b) (λ r w. let z = w.0 in clash (cc)) (length b)).course
  request_course e (gather h b) =
      because (λ w. let z = w.0 in clash (cc)) (λ w. let z = w.0 in clash (cc)) (send_leaves (gather h b) (λ r w. let z = w.0 in clash (cc)) (length (h ++ b))).course
  request_course e (place at b) = (place_leaves (place at b) (λ r w. let z = w.0 in clash (cc)) at (length b)).course
  request_course e (read out) = (read_leaves (read out) (λ r w. let z = w.0 in clash (cc)) _ (length out)).course
  request_course e shutdown = (shutdown_leaves shutdown (λ r w. let z = w.0 in clash (cc))).course
  request_course e close = close_leaves.course
  request_course e abort = (abort_leaves abort (λ r w. let z = w.0 in clash (cc))).course

-- HEAR. A message that is heard with A ends it; so does C where C is sent, unless A was
abbrev pub EndsSlot : Record → Message → Says → Type 0
EndsSlot c m says =
    ((k : ℕ) → says ≡ refusal k → ⊥)
    × ((m.flags.abort ≡ true)
    ⊎ (((c.marks.heard.closed || m.flags.closed) && c.marks.sent.closed ≡ true) × (c.marks.abort ≡ false) × (m.flags.failover ≡ false)))

same_cursor : (a b : Cursor) → same_b a b ≡ true → b ≡ a
unfolding same_b
same_cursor a b e =
    let p = eqb-true a.offset b.offset (and_left (eqb a.offset b.offset) _ e) in
    let q = eqb-true a.wrap b.wrap (and_right (eqb a.offset b.offset) _ e) in
    λ i. record { offset = sym p i; wrap = sym q i }

module _ (n : ℕ) (a : Bool) (c : Record) (m : Message) where
  -- the record with what the message says
  heard_ahead : Coherent n c → Produces n c m.producer → Consumes c m.consumer → Ahead n c (heard_record n c m)
  unfolding heard_record heard_in heard_out marks_to
  heard_ahead f p r =
      record {
        same_opened = refl;
        P_ahead =
            (gap_rest n c.inbound.told c.inbound.producer m.producer f.t_range f.p_range p.range (tp_good n c f).0
            p.tp_good p.no_less).0;
        R_ahead =
            (gap_front c.remote.size c.outbound.consumer m.consumer c.outbound.producer f.r_range r.range
            r.rq_good f.rq_good r.no_more).0;
        P_still = λ h. same_cursor c.inbound.producer m.producer (still h);
        kept = kept_heard c.marks m.flags.done m.flags.closed;
      }
    where
      still : marked c.marks.heard ≡ true → same_b c.inbound.producer m.producer ≡ true
      still h = go (marked c.marks.heard) h p.still
        where
          go : (t : Bool) → t ≡ true → not t || same_b c.inbound.producer m.producer ≡ true
              → same_b c.inbound.producer m.producer ≡ true
          go true e q = q
          go false e q = absurd (false≢true e)

  abbrev Ends : Reply → Type 0
  Ends r = EndsSlot c m (says_of r)

  unheard : (k : ℕ) → Ends (Refused k) → ⊥
  unheard k w = w.0 k refl

  neither : (says : Says) → m.flags.abort ≡ false
      → ((c.marks.heard.closed || m.flags.closed) && c.marks.sent.closed ≡ true → c.marks.abort ≡ false → m.flags.failover ≡ false → ⊥) → EndsSlot c m says → ⊥
  neither says h no-C w = go w.1
    where
      go : (m.flags.abort ≡ true)
          ⊎ (((c.marks.heard.closed || m.flags.closed) && c.marks.sent.closed ≡ true) × (c.marks.abort ≡ false) × (m.flags.failover ≡ false)) → ⊥
      go (inl a) = false≢true (sym h ∙ a)
      go (inr b) = no-C b.0 b.1 b.2

  -- a call that is heard is not refused
  was_heard : (r : Reply) (moved : ℕ) (s : State) → r ≡ Heard moved s → (k : ℕ) → says_of r ≡ refusal k → ⊥
  was_heard r moved s e k p = let q : heard moved s ≡ refusal k = sym (ap says_of e) ∙ p in clash (cc)

  hear_leaves : Leaves n c Ends (hear_of n a c m)
  unfolding hear_of aborted_of followed_of validated_of ruled_of accepted_of heard_record marks_heard marks_to
  hear_leaves =
      by_test n c Ends unheard (eqb (refusal_of n a c false) 0) _ _
      (λ e.
      let ok = coherent_facts n c (refusal_none n a c false (eqb-true (refusal_of n a c false) 0 e)).0 in
      by_test n c Ends unheard m.flags.abort _ _
      (λ h. shut n c Ends unheard true _ (λ t. (was_heard _ _ _ (outcome_reply _ _ _), inl h)) (λ t. absurd (false≢true (sym t))))
      (λ h.
      by_test n c Ends unheard c.marks.abort _ _
      (λ s. outcome n c Ends unheard _ _ _ (neither _ h (λ x y f. false≢true (sym y ∙ s))) refl refl refl (kept_same c.marks))
      (λ s.
      by_test n c Ends unheard m.flags.failover _ _
      (λ v.
      by_test n c Ends unheard (eqb m.sequence c.inbound.last) _ _
      (λ z. outcome n c Ends unheard _ _ _ (neither _ h (λ x y f. false≢true (sym f ∙ v))) refl refl refl (kept_same c.marks))
      (λ z. outcome n c Ends unheard _ _ _ (neither _ h (λ x y f. false≢true (sym f ∙ v))) refl refl refl (kept_abort c.marks)))
      (λ v.
      by_test n c Ends unheard (next_b c m) _ _
      (λ z.
      by_test n c Ends unheard (producer_b n c m.producer && consumer_b c m.consumer) _ _
      (λ r.
      let p = producer_rules n c m.producer (and_left (producer_b n c m.producer) _ r) in
      let q = consumer_rules c m.consumer (and_right (producer_b n c m.producer) _ r) in
      shut n c Ends unheard _ _ (λ w. (was_heard _ _ _ (outcome_reply _ _ _), inr (w, s, v)))
      (λ w. told n c Ends unheard _ _ _ (neither _ h (λ x y f. false≢true (sym w ∙ x))) (heard_ahead ok p q)))
      (λ r. refused n c Ends unheard 8))
      (λ z. refused n c Ends unheard 16)))))
      (λ e. refused n c Ends unheard _)

  pub hear_course : (e : List ℕ) → Course n c (EndsSlot c m (hear_turn n a c e m).answer.says) (hear_turn n a c e m).after
  unfolding hear_turn turn_of
  hear_course e = hear_leaves.course

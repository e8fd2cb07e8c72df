-- Hear of the first message under way is accepted, and what it leaves, in the plain engine's positions. Assumes nothing.
use mathlib.Core.Path.{◌≡◌, refl, sym, ap, ◌∙◌, subst}
use mathlib.Core.Logic.{◌⊎◌, inl, inr}
use mathlib.Core.Bool.{Bool, true, false, ◌&&◌, ◌||◌, not, cond, false≢true}
use Prim.Native.Nat.{ℕ, ◌+◌, ◌-◌, ◌%◌, ◌≤◌}
use native.Mathlib.Omega.{arith}
use native.Mathlib.Decide.{dec_lt}
use lib.Dec.{ltb}
use borrow.Author.Tests.{eq-eqb, ltb-true, lt-ltb, le-ltb, le-leb}
use Rattle.cursor.specs.declared.Cursor.{Cursor}
use Rattle.cursor.specs.Cursor.{cursor_at, gap_of, same_b}
use Rattle.cursor.proofs.Positions.{gap_at, good_at, range_at}
use Rattle.cdc.specs.declared.Message.{Message}
use Rattle.cdc.specs.declared.Decoded.{Decoded}
use Rattle.closing.specs.declared.State.{State}
use Rattle.closing.specs.declared.State.TheVariants.{PeerAbortWait, Closed}
use Rattle.closing.specs.Closing.{marked, abort_sent, marks_heard, state_of}
use Rattle.conn_record.specs.declared.Record.{Record}
use Rattle.conn_record.specs.Connection.{zero_record, place_at, marks_to, coherent_b, passed_by}
use Rattle.conn_record.proofs.Laws.{refusal_0}
use Rattle.conn_answer.specs.declared.Reply.TheVariants.{Heard}
use Rattle.conn_answer.specs.declared.Outcome.{Outcome}
use Rattle.conn_answer.specs.Outcome.{outcome_of, told_of, closed_if, sequence_after}
use Rattle.conn_answer.proofs.Laws.{outcome_reply, outcome_after, outcome_made, closed_reply}
use Rattle.conn_hear.specs.Heard.{producer_b, consumer_b, urges_b, urgent_in, heard_in, heard_out, heard_record, answers_b, next_b, moved_by}
use Rattle.conn_hear.specs.Hear.{aborted_of, validated_of, followed_of, hear_of}
use Rattle.conn_hear.proofs.Laws.{hear_accepts, shut_by, replied_to, accepted_is, heard_outcome}
use Rattle.thm_sent.specs.Books.{Names}
use Rattle.thm_sent.specs.Plain.{Mark, Outward, Inward, OutwardIs, InwardIs, urgent_at, plain_heard_out, plain_heard_in}
use Rattle.thm_sent.proofs.Way.{Bears, step, ends_b}
use Rattle.thm_sent.proofs.Follows.{Held, Kept, Follows, kept_self, outcome_follows, shut_follows, or_left, or_right}
use Rattle.thm_sent.proofs.Sends.{passed_at, stands_at}

same_self : (c : Cursor) → same_b c c ≡ true
unfolding same_b
same_self c = simp (eq-eqb c.offset c.offset refl, eq-eqb c.wrap c.wrap refl)

-- the next message's Q lies from P on and at most d after T, its C from R on and at most at Q
pub record Fits (d : ℕ) (o : Outward) (i : Inward) (k : Mark) : Type 0 where
  pub T_P : i.T ≤ i.P
  pub C_P : i.C ≤ i.P
  pub P_y : i.P ≤ k.taken
  pub y_T : k.taken ≤ i.T + d
  pub R_z : o.R ≤ k.read
  pub z_Q : k.read ≤ o.Q
  pub U_Q : o.U ≤ o.Q

-- the record that it leaves open
pub record Still (d d' : ℕ) (c : Record) (m : Message) (o1 : Outward) (i1 : Inward) (c1 : Record) (x : Outcome) : Type 0 where
  pub left_is : x.after ≡ cond x.made (told_of c1) c1
  pub out_now : OutwardIs d' o1 c1.outbound
  pub in_now : InwardIs d i1 c1.inbound
  pub heard_up : marked c1.marks.heard ≡ true → (marked c.marks.heard ≡ true) ⊎ (ends_b m ≡ true)

-- Q and C stay
pub record HearStep (d d' Q C : ℕ) (c : Record) (m : Message) (o1 : Outward) (i1 : Inward) (x : Outcome) : Type 0 where
  pub c1 : Record
  pub follows : Follows c c1 x
  pub Q_is : c1.outbound.producer ≡ cursor_at d' Q
  pub C_is : c1.inbound.consumer ≡ cursor_at d C
  pub urgent_is : c1.marks.abort ≡ false → c1.outbound.urgent.standing ≡ ltb o1.R o1.U
  pub left : (x.after ≡ zero_record) ⊎ Still d d' c m o1 i1 c1 x
  pub moved : ℕ
  pub state : State
  pub replies : x.reply ≡ Heard moved state

module _ {d d' : ℕ} {c : Record} {o : Outward} {i : Inward} (held : Held d d' c o i) {a : Bool} (up : a ≡ true) where
  open held use {full, full', out, inn, size', Q_R}

  coh : coherent_b (d + 4) c ≡ true
  coh = held.coherent

  abbrev Does : Message → Outward → Inward → Outcome → Type 0
  Does = HearStep d d' o.Q i.C c

  aborts_it : (m : Message) → m.flags.abort ≡ true → hear_of (d + 4) a c m ≡ aborted_of c
  unfolding hear_of
  aborts_it m e = simp (refusal_0 (d + 4) a c false coh up refl, e)

  waits_it : (m : Message) → m.flags.abort ≡ false → c.marks.abort ≡ true
      → hear_of (d + 4) a c m ≡ outcome_of (Heard 0 PeerAbortWait) false c
  unfolding hear_of followed_of
  waits_it m e mute = simp (refusal_0 (d + 4) a c false coh up refl, e, mute)

  passes_it : (m : Message) → c.marks.abort ≡ false → m.flags.abort ≡ false → m.flags.failover ≡ true → m.sequence ≡ c.inbound.last
      → hear_of (d + 4) a c m ≡ outcome_of (Heard 0 (state_of c.marks)) false c
  unfolding hear_of followed_of validated_of
  passes_it m live no_Abort far number =
      simp (refusal_0 (d + 4) a c false coh up refl, no_Abort, live, far, eq-eqb m.sequence c.inbound.last number)

  -- WITH A: the slot closes
  aborts : (m : Message) (o1 : Outward) (i1 : Inward) → m.flags.abort ≡ true → Does m o1 i1 (hear_of (d + 4) a c m)
  unfolding aborted_of closed_if marks_to abort_sent
  aborts m o1 i1 e = subst (Does m o1 i1) (sym (aborts_it m e)) closing
    where
      kept : Kept c (marks_to c (abort_sent c.marks))
      kept = search

      quiet : (t : Bool) → not t ≡ false → true ≡ t
      quiet true e = refl
      quiet false e = absurd (false≢true (sym e))

      closing : Does m o1 i1 (aborted_of c)
      closing =
          let r = Heard 0 Closed in
          let t = not c.marks.abort in
          let c1 = marks_to c (abort_sent c.marks) in
          record {
            c1 = c1;
            follows = shut_follows true (outcome_follows kept r t (λ e. (quiet c.marks.abort e, refl)));
            Q_is = out.Q_is;
            C_is = inn.C_is;
            urgent_is = λ e. absurd (false≢true (sym e));
            left = inl refl;
            moved = 0;
            state = Closed;
            replies = outcome_reply r t c1;
          }

  -- NOTHING CHANGES, and no message is made
  stays : (m : Message) (st : State) → Does m o i (outcome_of (Heard 0 st) false c)
  unfolding outcome_of
  stays m st =
      record {
        c1 = c;
        follows = outcome_follows (kept_self c) (Heard 0 st) false (λ e. (refl, refl));
        Q_is = out.Q_is;
        C_is = inn.C_is;
        urgent_is = λ z. stands_at out;
        left = inr (record { left_is = refl; out_now = out; in_now = inn; heard_up = λ f. inl f });
        moved = 0;
        state = st;
        replies = refl;
      }

  -- after A was sent
  pub hear_muted : (m : Message) → c.marks.abort ≡ true → Does m o i (hear_of (d + 4) a c m)
  hear_muted m mute = go m.flags.abort refl
    where
      go : (x : Bool) → m.flags.abort ≡ x → Does m o i (hear_of (d + 4) a c m)
      go true e = aborts m o i e
      go false e = subst (Does m o i) (sym (waits_it m e mute)) (stays m PeerAbortWait)

  -- one with F, of the last number heard: no message is made
  pub hear_passes : (m : Message) → m.flags.abort ≡ false → m.flags.failover ≡ true
      → (c.marks.abort ≡ false → m.sequence ≡ c.inbound.last)
      → (st : State) × (hear_of (d + 4) a c m ≡ outcome_of (Heard 0 st) false c)
  hear_passes m no_Abort far number = go c.marks.abort refl
    where
      go : (t : Bool) → c.marks.abort ≡ t → (st : State) × (hear_of (d + 4) a c m ≡ outcome_of (Heard 0 st) false c)
      go true f = (PeerAbortWait, waits_it m no_Abort f)
      go false f = (state_of c.marks, passes_it m f no_Abort far (number f))

  -- THE NEXT MESSAGE, number s + 1
  module _ (n : Names) {x s : ℕ} {read : Decoded} {k : Mark} (b : Bears d d' n x s read k) (plain : k.failover ≡ false) (f : Fits d o i k)
      (last-was : i.last ≡ s) (live : c.marks.abort ≡ false) (not-A : b.m.flags.abort ≡ false)
      (still : (marked c.marks.heard ≡ false) ⊎ (k.taken ≡ i.P)) where
    abbrev m : Message
    m = b.m

    producer_is : m.producer ≡ cursor_at d k.taken
    producer_is = b.producer_is ∙ ap (cursor_at d) (sym b.taken_is)

    number_is : s + step k ≡ s + 1
    number_is = ap (λ (t : Bool). s + cond t 0 1) plain

    next_number : next_b c m ≡ true
    unfolding next_b
    next_number =
        eq-eqb m.sequence (sequence_after c.inbound.last) (omega (arith, b.sequence_is, number_is, inn.last_number_is, last-was))

    produces : producer_b (d + 4) c m.producer ≡ true
    unfolding producer_b
    produces =
        let four : d + 4 - 4 ≡ d = omega arith in
        simp (
          producer_is,
          inn.T_is,
          inn.P_is,
          four,
          range_at d full k.taken,
          good_at d full i.T k.taken (omega arith) f.y_T,
          gap_at d full i.T i.P f.T_P (omega arith),
          gap_at d full i.T k.taken (omega arith) f.y_T,
          le-leb (i.P - i.T) (k.taken - i.T) (omega arith),
          stays_P still,
        )
      where
        stays_P : (marked c.marks.heard ≡ false) ⊎ (k.taken ≡ i.P)
            → not (marked c.marks.heard) || same_b (cursor_at d i.P) (cursor_at d k.taken) ≡ true
        stays_P (inl e) = simp e
        stays_P (inr e) = rw (e, same_self (cursor_at d i.P)) (or_right (not (marked c.marks.heard)) refl)

    consumes : consumer_b c m.consumer ≡ true
    unfolding consumer_b
    consumes =
        let four : d' + 4 - 4 ≡ d' = omega arith in
        simp (
          b.consumer_is,
          size',
          out.R_is,
          out.Q_is,
          four,
          range_at d' full' k.read,
          good_at d' full' k.read o.Q f.z_Q (omega arith),
          gap_at d' full' k.read o.Q f.z_Q (omega arith),
          gap_at d' full' o.R o.Q (omega arith) Q_R,
          le-leb (o.Q - k.read) (o.Q - o.R) (omega arith),
        )

    abbrev c1 : Record
    c1 = heard_record (d + 4) c m

    -- one that urges and moves P makes the new P urgent
    moves : ltb 0 (moved_by (d + 4) c.inbound m) ≡ ltb i.P k.taken
    moves =
        let lap : d + 4 - 4 ≡ d = omega arith in
        let gap : moved_by (d + 4) c.inbound m ≡ k.taken - i.P =
        (λ j. gap_of (lap j) (inn.P_is j) (producer_is j)) ∙ gap_at d full i.P k.taken f.P_y (omega (arith, f.y_T, f.T_P))
        in
        elim (dec_lt i.P k.taken) [
          | yes l ↦ rw (gap, lt-ltb 0 (k.taken - i.P) (omega (arith, l)), lt-ltb i.P k.taken l)
          | no l ↦ rw (gap, le-ltb 0 (k.taken - i.P) (omega (arith, l)), le-ltb i.P k.taken (omega (arith, l)))
        ]

    W_now : urgent_in (d + 4) c.inbound m ≡ urgent_at d i.C (cond (k.urges && ltb i.P k.taken) k.taken i.W)
    unfolding urgent_in urges_b
    W_now =
        (λ j. cond (b.urgent_is not-A j && moves j) (place_at (producer_is j)) (inn.W_is j)) ∙ go k.urges (ltb i.P k.taken) refl
      where
        go : (u t : Bool) → ltb i.P k.taken ≡ t
            → cond (u && t) (place_at (cursor_at d k.taken)) (urgent_at d i.C i.W)
            ≡ urgent_at d i.C (cond (u && t) k.taken i.W)
        go true true z = rw (lt-ltb i.C k.taken (omega (arith, ltb-true i.P k.taken z, f.C_P)))
        go true false z = refl
        go false t z = refl

    out_now : OutwardIs d' (plain_heard_out o k) c1.outbound
    unfolding heard_record heard_out marks_to plain_heard_out
    out_now =
        record {
          Q_is = out.Q_is;
          R_is = b.consumer_is;
          U_is =
              (λ j. passed_by (size' j) (b.consumer_is j) (out.Q_is j) (out.U_is j))
              ∙ passed_at d' full' o.R o.Q k.read o.U f.R_z f.z_Q Q_R f.U_Q;
          next_number_is = out.next_number_is;
        }

    in_now : InwardIs d (plain_heard_in i k) c1.inbound
    unfolding heard_record heard_in marks_to plain_heard_in
    in_now =
        record {
          P_is = producer_is;
          C_is = inn.C_is;
          T_is = inn.T_is;
          W_is = W_now;
          last_number_is = b.sequence_is ∙ ap (λ (j : ℕ). j % 65536) (sym b.number_is);
        }

    heard_over : marked c1.marks.heard ≡ true → (marked c.marks.heard ≡ true) ⊎ (ends_b m ≡ true)
    unfolding heard_record marks_to marks_heard
    heard_over e = go c.marks.heard.done m.flags.done c.marks.heard.closed m.flags.closed e
      where
        go : (x y z w : Bool) → (x || y) || (z || w) ≡ true → (x || z ≡ true) ⊎ ((y || w) || m.flags.abort ≡ true)
        go true y z w e = inl refl
        go false true z w e = inr refl
        go false false true w e = inl refl
        go false false false w e = inr (or_left m.flags.abort e)

    goes_on : Follows c c1 (heard_outcome (d + 4) c m)
    unfolding heard_record heard_in heard_out marks_to marks_heard
    goes_on =
        outcome_follows (search)
        (replied_to (d + 4) c m)
        (answers_b (d + 4) c.inbound m) (λ e. (refl, refl))

    next_step : (t : Bool) → Does m (plain_heard_out o k) (plain_heard_in i k) (closed_if t (heard_outcome (d + 4) c m))
    unfolding closed_if plain_heard_out plain_heard_in
    next_step t =
        let r = replied_to (d + 4) c m in
        let u = answers_b (d + 4) c.inbound m in
        record {
          c1 = c1;
          follows = shut_follows t goes_on;
          Q_is = out_now.Q_is;
          C_is = in_now.C_is;
          urgent_is = λ z. stands_at out_now;
          left = left_as t;
          moved = gap_of (d + 4 - 4) c.inbound.producer m.producer;
          state = state_of c1.marks;
          replies = closed_reply t (heard_outcome (d + 4) c m) ∙ outcome_reply r u c1;
        }
      where
        left_as : (t : Bool) → ((closed_if t (heard_outcome (d + 4) c m)).after ≡ zero_record)
            ⊎ Still d d' c m (plain_heard_out o k) (plain_heard_in i k) c1 (closed_if t (heard_outcome (d + 4) c m))
        left_as true = inl refl
        left_as false =
            let r = replied_to (d + 4) c m in
            let u = answers_b (d + 4) c.inbound m in
            inr (record {
              left_is = outcome_after r u c1 ∙ ap (λ (t : Bool). cond t (told_of c1) c1) (sym (outcome_made r u c1));
              out_now = out_now;
              in_now = in_now;
              heard_up = heard_over;
            })

    hears_next : Does m (plain_heard_out o k) (plain_heard_in i k) (hear_of (d + 4) a c m)
    hears_next =
        subst (Does m (plain_heard_out o k) (plain_heard_in i k))
        (sym
        (hear_accepts (d + 4) a c m coh up not-A live (b.failover_is ∙ plain) next_number produces consumes ∙ accepted_is (d + 4) c m))
        (next_step (shut_by (d + 4) c m))

  pub hear_next : (n : Names) {x s : ℕ} {read : Decoded} {k : Mark} (b : Bears d d' n x s read k) → k.failover ≡ false → Fits d o i k
      → i.last ≡ s
      → c.marks.abort ≡ false → (marked c.marks.heard ≡ false) ⊎ (k.taken ≡ i.P)
      → Does b.m (plain_heard_out o k) (plain_heard_in i k) (hear_of (d + 4) a c b.m)
  hear_next n {k = k} b plain f last live still = go b.m.flags.abort refl
    where
      go : (x : Bool) → b.m.flags.abort ≡ x → Does b.m (plain_heard_out o k) (plain_heard_in i k) (hear_of (d + 4) a c b.m)
      go true e = aborts b.m (plain_heard_out o k) (plain_heard_in i k) e
      go false e = hears_next n b plain f last live e still

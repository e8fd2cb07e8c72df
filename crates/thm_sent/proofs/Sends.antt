-- What a send, urgent or not, makes of a record, in the plain engine's positions. Assumes nothing.
use mathlib.Core.Path.{◌≡◌, refl, sym, ap, ◌∙◌}
use mathlib.Core.Logic.{◌⊎◌, inl, inr}
use mathlib.Core.Bool.{Bool, true, false, ◌&&◌, ◌||◌, cond, false≢true}
use Prim.Native.Nat.{ℕ, ◌+◌, ◌-◌, ◌≤◌, ◌<◌, min}
use native.Mathlib.Omega.{arith}
use native.Mathlib.Decide.{dec_lt, dec_le}
use lib.Dec.{ltb, leb, eqb}
use borrow.Author.Tests.{eqb-true, ltb-true, ltb-false, lt-ltb, le-ltb, le-leb, lt-leb}
use Rattle.cursor.specs.Cursor.{cursor_at, gap_of, step_of}
use Rattle.cursor.proofs.Positions.{step_at, gap_at}
use Rattle.flow.specs.Flow.{room_of, taken_of}
use Rattle.flow.proofs.Laws.{stretches_none}
use Rattle.conn_record.specs.declared.Record.{Record}
use Rattle.conn_record.specs.declared.Outbound.{Outbound}
use Rattle.conn_record.specs.declared.Urgent.{Urgent}
use Rattle.conn_record.specs.Connection.{no_place, place_at, passed_by, reached_b}
use Rattle.conn_answer.specs.declared.Reply.TheVariants.{Refused, Sent}
use Rattle.conn_answer.specs.declared.Placings.TheVariants.{Nowhere}
use Rattle.conn_answer.specs.declared.Outcome.{Outcome}
use Rattle.conn_answer.specs.Outcome.{message_of, pending_of, outcome_of, urgent_outcome, refused_of}
use Rattle.conn_answer.proofs.Laws.{outcome_reply}
use Rattle.conn_send.specs.Produced.{send_forbids, n_of, produced_out, produced_of, tells_of, urged_out, urged_of, waits_b}
use Rattle.conn_send.proofs.Laws.{send_cases, urgent_cases}
use Rattle.conn_send.specs.Transmit.{send_of, sent_of, urgent_send_of, sent_reply, nothing_sent, placings_of}
use Rattle.thm_sent.specs.Plain.{Outward, Inward, OutwardIs, urgent_at, free_room, plain_sent}
use Rattle.thm_sent.proofs.Follows.{ended_b, Kept, Follows, alike_own, alike_pending, kept_self, outcome_follows, urgent_follows, refused_follows, Held, or-none}

-- the urgent place of position u is cleared exactly when the cursor on its way to it has reached it
module _ (d : ℕ) (full : 0 < d) (r q z u : ℕ) (rz : r ≤ z) (zq : z ≤ q) (qr : q ≤ r + d) (uq : u ≤ q) where
  pub passed_at : passed_by (d + 4) (cursor_at d z) (cursor_at d q) (urgent_at d r u) ≡ urgent_at d z u
  unfolding passed_by reached_b
  passed_at = go (ltb r u) refl
    where
      four : d + 4 - 4 ≡ d
      four = omega arith

      go : (t : Bool) → ltb r u ≡ t
          → let place : Urgent = cond t (place_at (cursor_at d u)) no_place in
          cond (place.standing && leb (gap_of (d + 4 - 4) (cursor_at d z) (cursor_at d q)) (gap_of (d + 4 - 4) place.place (cursor_at d q)))
          no_place
          place
          ≡ urgent_at d z u
      go true e =
          let l = ltb-true r u e in
          let gz = gap_at d full z q zq (omega arith) in
          let gu = gap_at d full u q uq (omega arith) in
          elim (dec_le u z) [
            | yes h ↦ rw (four, gz, gu, le-leb (q - z) (q - u) (omega arith), le-ltb z u h)
            | no h ↦ rw (four, gz, gu, lt-leb (q - z) (q - u) (omega arith), lt-ltb z u (omega arith))
          ]
      go false e = rw (le-ltb z u (omega (arith, ltb-false r u e)))

-- it stands while R is before it
pub stands_at : {d' : ℕ} {o : Outward} {c : Outbound} → OutwardIs d' o c → c.urgent.standing ≡ ltb o.R o.U
stands_at {d'} {o} i = ap (λ (u : Urgent). u.standing) i.U_is ∙ go (ltb o.R o.U)
  where
    go : (t : Bool) → (cond t (place_at (cursor_at d' o.U)) no_place).standing ≡ t
    go true = refl
    go false = refl

-- what a send of len bytes does: m bytes are taken, and c1 is told or not
pub record SendStep (d' : ℕ) (c : Record) (o : Outward) (u : Bool) (len : ℕ) (x : Outcome) : Type 0 where
  pub m : ℕ
  pub c1 : Record
  pub follows : Follows c c1 x
  pub now : OutwardIs d' (plain_sent o u len m) c1.outbound
  pub same_in : c1.inbound ≡ c.inbound
  pub same_heard : c1.marks.heard ≡ c.marks.heard
  pub m_len : m ≤ len
  pub m_room : o.Q + m ≤ o.R + d'
  pub ended : ended_b c.marks ≡ true → m ≡ 0
  pub replies : ((k : ℕ) × (x.reply ≡ Refused k) × (m ≡ 0)) ⊎ ((x.reply ≡ sent_reply c m) × (m ≡ free_room d' o len))

module _ {d d' : ℕ} {c : Record} {o : Outward} {i : Inward} (x : Held d d' c o i) (u : Bool) (len : ℕ) where
  open x use {full', size', R_Q, Q_R}

  at : OutwardIs d' o c.outbound
  at = x.out

  abbrev Does : Outcome → Type 0
  Does = SendStep d' c o u len

  -- U stays where the send is not urgent, or is cut short
  abbrev new_u : ℕ → ℕ
  new_u m = cond (u && (ltb 0 len && leb len m)) (o.Q + m) o.U

  cut_short : (m : ℕ) → m < len → new_u m ≡ o.U
  cut_short m l = rw (lt-leb len m l) (go u (ltb 0 len))
    where
      go : (u v : Bool) → cond (u && (v && false)) (o.Q + m) o.U ≡ o.U
      go true true = refl
      go true false = refl
      go false v = refl

  -- nothing is taken
  idle_sends : OutwardIs d' (plain_sent o u len 0) c.outbound
  unfolding plain_sent
  idle_sends =
      let z : o.Q ≡ o.Q + 0 = omega arith in
      record {
        Q_is = at.Q_is ∙ ap (cursor_at d') z;
        R_is = at.R_is;
        U_is = at.U_is ∙ ap (urgent_at d' o.R) (sym same);
        next_number_is = at.next_number_is;
      }
    where
      same : new_u 0 ≡ o.U
      same = elim (dec_lt 0 len) [ yes l ↦ cut_short 0 l | no l ↦ rw (le-ltb 0 len (omega arith)) (go u) ]
        where
          go : (u : Bool) → cond (u && false) (o.Q + 0) o.U ≡ o.U
          go true = refl
          go false = refl

  idle : (y : Outcome) → Follows c c y
      → ((k : ℕ) × (y.reply ≡ Refused k) × (◌≡◌ {A = ℕ} 0 0)) ⊎ ((y.reply ≡ sent_reply c 0) × (0 ≡ free_room d' o len)) → Does y
  idle y g r =
      record {
        m = 0;
        c1 = c;
        follows = g;
        now = idle_sends;
        same_in = refl;
        same_heard = refl;
        m_len = omega arith;
        m_room = omega arith;
        ended = λ e. refl;
        replies = r;
      }

  refuses : (k : ℕ) → Does (refused_of k c)
  unfolding refused_of
  refuses k = idle (refused_of k c) (refused_follows c k) (inl (k, refl, refl))

  waits : waits_b c len ≡ true → Does (nothing_sent c)
  unfolding outcome_of waits_b
  waits w =
      idle (nothing_sent c) (outcome_follows (kept_self c) (Sent 0 Nowhere) false (λ e. (refl, refl)))
      (inr (
        ap (λ s. Sent 0 (placings_of c s)) (sym (stretches_none c.remote.size c.outbound.producer)),
        none c.outbound.urgent.standing (eqb len 0) refl refl w,
      ))
    where
      none : (x y : Bool) → c.outbound.urgent.standing ≡ x → eqb len 0 ≡ y → x || y ≡ true → 0 ≡ free_room d' o len
      none true y q r e = ap (λ (t : Bool). cond t 0 (min (o.R + d' - o.Q) len)) (sym q ∙ stands_at at)
      none false true q r e = go (ltb o.R o.U)
        where
          l : len ≡ 0
          l = eqb-true len 0 r

          go : (t : Bool) → 0 ≡ cond t 0 (min (o.R + d' - o.Q) len)
          go true = refl
          go false = omega (arith, l)
      none false false q r e = absurd (false≢true e)

  -- IT MAY SEND
  module _ (may : send_forbids c.marks ≡ false) (w : waits_b c len ≡ false) where
    free : c.outbound.urgent.standing ≡ false
    unfolding waits_b
    free = (or-none c.outbound.urgent.standing (eqb len 0) w).0

    not_ended : ended_b c.marks ≡ true → n_of c len ≡ 0
    unfolding send_forbids
    not_ended e = absurd (clash_marks c.marks.sent.done c.marks.sent.closed c.marks.abort _ may e)
      where
        clash_marks : (x y z w : Bool) → x || (y || (z || w)) ≡ false → (x || y) || z ≡ true → ⊥
        clash_marks true y z w f g = false≢true (sym f)
        clash_marks false true z w f g = false≢true (sym f)
        clash_marks false false true w f g = false≢true (sym f)
        clash_marks false false false w f g = false≢true g

    n_at : n_of c len ≡ min (o.R + d' - o.Q) len
    unfolding n_of room_of taken_of
    n_at =
        let four : d' + 4 - 4 ≡ d' = omega arith in
        let room : d' - (o.Q - o.R) ≡ o.R + d' - o.Q = omega arith in
        rw (size', at.Q_is, at.R_is, four, gap_at d' full' o.R o.Q R_Q Q_R, room)

    n_free : n_of c len ≡ free_room d' o len
    n_free = n_at ∙ ap (λ (t : Bool). cond t 0 (min (o.R + d' - o.Q) len)) (sym (sym (stands_at at) ∙ free))

    Q_now : step_of c.remote.size c.outbound.producer (n_of c len) ≡ cursor_at d' (o.Q + n_of c len)
    Q_now = (λ i. step_of (size' i) (at.Q_is i) (n_of c len)) ∙ step_at d' full' o.Q (n_of c len) (omega (arith, n_at, R_Q))

    -- the record c1 with Q moved, and perhaps urgent, is told or not
    moved_step : (y : Outcome) (c1 : Record) → Follows c c1 y → OutwardIs d' (plain_sent o u len (n_of c len)) c1.outbound
        → c1.inbound ≡ c.inbound → c1.marks.heard ≡ c.marks.heard → y.reply ≡ sent_reply c (n_of c len) → Does y
    moved_step y c1 g now z m r =
        record {
          m = n_of c len;
          c1 = c1;
          follows = g;
          now = now;
          same_in = z;
          same_heard = m;
          m_len = omega (arith, n_at);
          m_room = omega (arith, n_at);
          ended = not_ended;
          replies = inr (r, n_free);
        }

    abbrev c1 : Record
    c1 = produced_of c (n_of c len) len

    produced_kept : Kept c c1
    unfolding produced_of produced_out
    produced_kept = search

    produced_at : new_u (n_of c len) ≡ o.U → OutwardIs d' (plain_sent o u len (n_of c len)) c1.outbound
    unfolding plain_sent produced_of produced_out
    produced_at e = record { Q_is = Q_now; R_is = at.R_is; U_is = at.U_is ∙ ap (urgent_at d' o.R) (sym e); next_number_is = at.next_number_is }

    sends : u ≡ false → Does (sent_of c len)
    unfolding sent_of produced_of produced_out
    sends plain =
        let r = sent_reply c (n_of c len) in
        let t = tells_of c (n_of c len) len in
        moved_step (outcome_of r t c1) c1 (outcome_follows produced_kept r t (λ e. (refl, refl)))
        (produced_at (ap (λ (t : Bool). cond (t && (ltb 0 len && leb len (n_of c len))) (o.Q + n_of c len) o.U) plain)) refl refl
        (outcome_reply r t c1)

    short : n_of c len < len → Does (urgent_outcome (sent_reply c (n_of c len)) (pending_of (message_of c1)) c1)
    unfolding urgent_outcome produced_of produced_out
    short l =
        let r = sent_reply c (n_of c len) in
        moved_step (urgent_outcome r (pending_of (message_of c1)) c1) c1
        (urgent_follows produced_kept r (pending_of (message_of c1)) (alike_pending c1))
        (produced_at (cut_short (n_of c len) l)) refl refl refl

    abbrev c2 : Record
    c2 = urged_of c1

    whole : u ≡ true → 0 < len → n_of c len ≡ len → Does (urgent_outcome (sent_reply c (n_of c len)) (message_of c2) c2)
    unfolding urgent_outcome plain_sent urged_of urged_out produced_of produced_out
    whole urgent some all =
        let r = sent_reply c (n_of c len) in
        let kept : Kept c c2 = search in
        moved_step (urgent_outcome r (message_of c2) c2) c2 (urgent_follows kept r (message_of c2) (alike_own c2))
        (record {
          Q_is = Q_now;
          R_is = at.R_is;
          U_is =
              ap place_at Q_now
              ∙ ap (λ (t : Bool). cond t (place_at (cursor_at d' (o.Q + n_of c len))) no_place) (sym later)
              ∙ ap (urgent_at d' o.R) (sym becomes);
          next_number_is = at.next_number_is;
        })
        refl refl refl
      where
        becomes : new_u (n_of c len) ≡ o.Q + n_of c len
        becomes = rw (urgent, lt-ltb 0 len some, le-leb len (n_of c len) (omega (arith, all)))

        later : ltb o.R (o.Q + n_of c len) ≡ true
        later = lt-ltb o.R (o.Q + n_of c len) (omega (arith, all, some, R_Q))

  pub send_step : u ≡ false → (n : ℕ) (a : Bool) → Does (send_of n a c len)
  send_step e n a = send_cases n a c len Does refuses waits (λ m. sends m.may m.free e)

  pub urgent_step : u ≡ true → (n : ℕ) (a : Bool) → Does (urgent_send_of n a c len)
  urgent_step e n a =
      urgent_cases n a c len Does refuses waits (λ m l. short m.may m.free l) (λ m some all. whole m.may m.free e some all)

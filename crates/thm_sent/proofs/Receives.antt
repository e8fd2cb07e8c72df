-- What a read, an ending and a place of bytes under way make of a record, in the plain engine's positions. Assumes nothing.
use mathlib.Core.Path.{◌≡◌, refl, sym, ap, ◌∙◌}
use mathlib.Core.Logic.{◌⊎◌, inl, inr}
use mathlib.Core.Bool.{Bool, true, false, ◌||◌, cond, false≢true}
use Prim.Native.Nat.{ℕ, ◌+◌, ◌-◌, ◌%◌, ◌≤◌, ◌<◌, min}
use native.Mathlib.Omega.{arith}
use native.Mathlib.Nat.{mod-lt, mod-eq_of_lt}
use lib.Dec.{ltb, eqb}
use borrow.Author.Tests.{eqb-true, eq-eqb, lt-ltb, le-leb}
use Rattle.cursor.specs.Cursor.{cursor_at, gap_of, step_of}
use Rattle.cursor.proofs.Positions.{step_at, gap_at, Ahead, same_turn, next_turn, ahead}
use Rattle.closing.specs.declared.Marks.{Marks}
use Rattle.closing.specs.Closing.{marked, done_sent, closed_sent, abort_sent}
use Rattle.flow.specs.Flow.{taken_of, window_of}
use Rattle.element.specs.Element.{all_free, free_from, free_b}
use Rattle.element.proofs.Free.{from_up, from_down, each_all_free}
use Rattle.conn_record.specs.declared.Record.{Record}
use Rattle.conn_record.specs.Connection.{marks_to, coherent_b, refusal_of, passed_by}
use Rattle.conn_record.proofs.Laws.{refusal_none}
use Rattle.conn_answer.specs.declared.Reply.{Reply}
use Rattle.conn_answer.specs.declared.Reply.TheVariants.{Refused, Accepted, Read, Reset}
use Rattle.conn_answer.specs.declared.Outcome.{Outcome}
use Rattle.conn_answer.specs.Outcome.{outcome_of, refused_of, closed_if}
use Rattle.conn_answer.proofs.Laws.{outcome_reply}
use Rattle.conn_receive.specs.Receive.{place_forbids, may_place, place_of, read_forbids, unread_of, consumed_in, cleared_in, consumed_of, update_of}
use Rattle.conn_receive.specs.Receive.{take_of, read_of}
use Rattle.conn_receive.proofs.Laws.{Placeable}
use Rattle.conn_finish.specs.Finish.{shutdown_forbids, close_forbids, shutdown_of, close_of, reset_of, closing_of, abort_of}
use Rattle.thm_sent.specs.Plain.{Outward, Inward, InwardIs, urgent_at, plain_read}
use Rattle.conn_answer.proofs.Goes.{pick}
use Rattle.thm_sent.proofs.Follows.{Held, Kept, Follows, kept_self, outcome_follows, shut_follows, refused_follows, or-none, or_right}
use Rattle.thm_sent.proofs.Sends.{passed_at}

-- A PLACE of bytes that are free, each at the place of a position from P on and before T + d
module _ (d : ℕ) (full : 0 < d) where
  free_at : (p y : ℕ) → p ≤ y → y < p + d → free_from d (4 + p % d) (4 + y % d) ≡ y - p
  free_at p y h k = go (ahead d full p y h (omega arith))
    where
      go : Ahead d p y → free_from d (4 + p % d) (4 + y % d) ≡ y - p
      go (same_turn e f) =
          let s : 4 + y % d - (4 + p % d) ≡ y - p = omega arith in
          from_up d (4 + p % d) (4 + y % d) (omega arith) ∙ rw s (mod-eq_of_lt (omega arith))
      go (next_turn e f) =
          let r : p % d < d = mod-lt p full in
          let s : (4 + p % d - (4 + y % d) - 1) % d ≡ 4 + p % d - (4 + y % d) - 1 = mod-eq_of_lt (omega arith) in
          from_down d (4 + p % d) (4 + y % d) (omega arith) ∙ rw s (omega arith)

  module _ (t p at k : ℕ) (tp : t ≤ p) (pt : p ≤ t + d)
      (where_to : (i : ℕ) → i < k → (y : ℕ) × (p ≤ y) × (y < t + d) × (at + i ≡ 4 + y % d)) where
    pub owed_free : all_free d (cursor_at d p).offset (window_of (d + 4) (cursor_at d t) (cursor_at d p)) at k ≡ true
    unfolding window_of cursor_at
    owed_free = each_all_free d (4 + p % d) (d + 4 - 4 - gap_of (d + 4 - 4) (cursor_at d t) (cursor_at d p)) at k each
      where
        w : d + 4 - 4 - gap_of (d + 4 - 4) (cursor_at d t) (cursor_at d p) ≡ d - (p - t)
        w = let four : d + 4 - 4 ≡ d = omega arith in rw (four, gap_at d full t p tp pt)

        each : (i : ℕ) → i < k → free_b d (4 + p % d) (d + 4 - 4 - gap_of (d + 4 - 4) (cursor_at d t) (cursor_at d p)) (at + i) ≡ true
        each i h =
            let y = where_to i h in
            let l = lt-ltb (y.0 - p) (d - (p - t)) (omega (arith, y.1, y.2)) in
            rw (w, y.3, free_at p y.0 y.1 (omega (arith, y.2)), l, lt-ltb 0 d full)

    -- so they lie in the data
    pub owed_in : 0 < k → (4 ≤ at) × (at + k ≤ d + 4)
    owed_in some =
        let y = where_to 0 some in
        let z = where_to (k - 1) (omega arith) in
        (omega (arith, y.3), omega (arith, z.3, mod-lt z.0 full, some))

-- READ: m bytes are read, and c1 is told or not
pub record ReadStep (d : ℕ) (c : Record) (i : Inward) (room : ℕ) (o : Outcome) : Type 0 where
  pub m : ℕ
  pub c1 : Record
  pub follows : Follows c c1 o
  pub now : InwardIs d (plain_read i m) c1.inbound
  pub same_out : c1.outbound ≡ c.outbound
  pub same_marks : c1.marks ≡ c.marks
  pub alive : (m ≡ 0) ⊎ (c.marks.abort ≡ false)
  pub most : i.C + m ≤ i.P
  pub replies : ((k : ℕ) × (o.reply ≡ Refused k) × (m ≡ 0)) ⊎ ((o.reply ≡ Read m) × (m ≡ min (i.P - i.C) room))

module _ {d d' : ℕ} {c : Record} {o : Outward} {i : Inward} (x : Held d d' c o i) (room : ℕ) where
  open x use {full, C_P, P_C, W_P}

  at : InwardIs d i c.inbound
  at = x.inn

  abbrev Does : Outcome → Type 0
  Does = ReadStep d c i room

  refuses_read : (k : ℕ) → Does (refused_of k c)
  unfolding refused_of plain_read
  refuses_read k =
      let z : i.C ≡ i.C + 0 = omega arith in
      record {
        m = 0;
        c1 = c;
        follows = refused_follows c k;
        now =
            record {
              P_is = at.P_is;
              C_is = at.C_is ∙ ap (cursor_at d) z;
              T_is = at.T_is;
              W_is = at.W_is ∙ ap (λ (y : ℕ). urgent_at d y i.W) z;
              last_number_is = at.last_number_is;
            };
        same_out = refl;
        same_marks = refl;
        alive = inl refl;
        most = omega arith;
        replies = inl (k, refl, refl);
      }

  abbrev taken : ℕ
  taken = taken_of (unread_of (d + 4) c.inbound) room

  taken_at : taken ≡ min (i.P - i.C) room
  unfolding taken_of unread_of
  taken_at =
      let four : d + 4 - 4 ≡ d = omega arith in
      ap (λ (y : ℕ). min y room) ((λ j. gap_of (four j) (at.C_is j) (at.P_is j)) ∙ gap_at d full i.C i.P C_P P_C)

  C_now : step_of (d + 4) c.inbound.consumer taken ≡ cursor_at d (i.C + taken)
  C_now = ap (λ y. step_of (d + 4) y taken) at.C_is ∙ step_at d full i.C taken (omega (arith, taken_at, P_C))

  takes : c.marks.abort ≡ false → Does (take_of (d + 4) c room)
  unfolding take_of consumed_of consumed_in cleared_in plain_read
  takes live =
      let c1 = consumed_of (d + 4) c taken in
      let t = update_of (d + 4) (consumed_in (d + 4) c.inbound taken) taken in
      let kept : Kept c c1 = search in
      record {
        m = taken;
        c1 = c1;
        follows = outcome_follows kept (Read taken) t (λ e. (refl, refl));
        now =
            record {
              P_is = at.P_is;
              C_is = C_now;
              T_is = at.T_is;
              W_is =
                  (λ j. passed_by (d + 4) (C_now j) (at.P_is j) (at.W_is j))
                  ∙ passed_at d full i.C i.P (i.C + taken) i.W (omega arith) (omega (arith, taken_at)) P_C W_P;
              last_number_is = at.last_number_is;
            };
        same_out = refl;
        same_marks = refl;
        alive = inr live;
        most = omega (arith, taken_at);
        replies = inr (outcome_reply (Read taken) t c1, taken_at);
      }

  pub read_step : (a : Bool) → Does (read_of (d + 4) a c true room)
  unfolding read_of read_forbids
  read_step a =
      let forbids = c.marks.sent.closed || c.marks.abort in
      let no = refusal_of (d + 4) a c forbids in
      pick Does (eqb no 0) _ _
      (λ e. takes (or-none c.marks.sent.closed c.marks.abort (refusal_none (d + 4) a c forbids (eqb-true no 0 e)).2).1)
      (λ e. refuses_read no)

-- THE ENDINGS: marks change, and it is told
pub record FinishStep (c : Record) (o : Outcome) : Type 0 where
  pub c1 : Record
  pub follows : Follows c c1 o
  pub same_out : c1.outbound ≡ c.outbound
  pub same_in : c1.inbound ≡ c.inbound
  pub same_heard : c1.marks.heard ≡ c.marks.heard

-- PLACE: the record stays; bytes that are free are let in, unless the state forbids
pub data PlaceStep (c : Record) (o : Outcome) : Type 0 where
  taken_in : o.reply ≡ Accepted → PlaceStep c o
  forbidden : o.reply ≡ Refused 7 → place_forbids c.marks ≡ true → PlaceStep c o

module _ (n : ℕ) (a : Bool) (c : Record) where
  ends_refused : (k : ℕ) → FinishStep c (refused_of k c)
  ends_refused k = record { c1 = c; follows = refused_follows c k; same_out = refl; same_in = refl; same_heard = refl }

  marks_step : (m : Marks) (r : Reply) (t : Bool) → (c.marks.abort ≡ true → m.abort ≡ true)
      → (marked c.marks.sent ≡ true → marked m.sent ≡ true)
      → m.heard ≡ c.marks.heard → FinishStep c (closed_if t (outcome_of r true (marks_to c m)))
  unfolding marks_to
  marks_step m r t au su hs =
      let kept : Kept c (marks_to c m) = search in
      record {
        c1 = marks_to c m;
        follows = shut_follows t (outcome_follows kept r true (λ e. absurd (false≢true (sym e))));
        same_out = refl;
        same_in = refl;
        same_heard = hs;
      }

  not_shut : (o : Outcome) → FinishStep c (closed_if false o) → FinishStep c o
  unfolding closed_if
  not_shut o s = s

  finish : (forbids : Bool) (x : Outcome) → FinishStep c x
      → let no = refusal_of n a c forbids in
      FinishStep c (cond (eqb no 0) x (refused_of no c))
  finish forbids x s = let no = refusal_of n a c forbids in pick (FinishStep c) (eqb no 0) x (refused_of no c) (λ e. s) (λ e. ends_refused no)

  aborts : (r : Reply) → FinishStep c (outcome_of r true (marks_to c (abort_sent c.marks)))
  unfolding abort_sent
  aborts r = not_shut _ (marks_step (abort_sent c.marks) r false (λ e. refl) (λ e. e) refl)

  pub shutdown_step : FinishStep c (shutdown_of n a c)
  unfolding shutdown_of done_sent
  shutdown_step =
      finish (shutdown_forbids c.marks) _ (not_shut _ (marks_step (done_sent c.marks) Accepted false (λ e. e) (λ e. refl) refl))

  pub abort_step : FinishStep c (abort_of n a c)
  unfolding abort_of
  abort_step = finish c.marks.abort _ (aborts Accepted)

  pub close_step : FinishStep c (close_of n a c)
  unfolding close_of reset_of closing_of closed_sent
  close_step =
      finish (close_forbids c.marks) _
      (pick (FinishStep c) (ltb 0 (unread_of n c.inbound)) _ _ (λ f. aborts Reset)
      (λ f. marks_step (closed_sent c.marks) Accepted c.marks.heard.closed (λ e. e) (λ e. or_right c.marks.sent.done refl)
      refl))

  pub place_step : coherent_b n c ≡ true → a ≡ true → (at k : ℕ) → Placeable n c.inbound at k
      → Follows c c (place_of n a c at k) × ((place_of n a c at k).made ≡ false) × PlaceStep c (place_of n a c at k)
  unfolding place_of refusal_of may_place outcome_of refused_of
  place_step coh up at k may = go (place_forbids c.marks) refl may
    where
      let_in : Follows c c (outcome_of Accepted false c)
      let_in = outcome_follows (kept_self c) Accepted false (λ e. (refl, refl))

      go : (f : Bool) → place_forbids c.marks ≡ f → Placeable n c.inbound at k
          → Follows c c (place_of n a c at k) × ((place_of n a c at k).made ≡ false) × PlaceStep c (place_of n a c at k)
      go true e may = rw (coh, up, e) (refused_follows c 7, refl, forbidden refl e)
      go false e (inl z) = rw (coh, up, e, eq-eqb k 0 z) (let_in, refl, taken_in refl)
      go false e (inr w) =
          rw (coh, up, e, le-leb 4 at w.0, le-leb (at + k) n w.1, w.2, or_right (eqb k 0) {b = true} refl)
          (let_in, refl, taken_in refl)

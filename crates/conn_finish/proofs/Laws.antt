-- Laws of shutdown, close and abort: what they leave of a record, and which marks they set.
-- Assumes nothing.
use mathlib.Core.Path.{◌≡◌, refl, ap, sym, ◌∙◌}
use mathlib.Core.Bool.{Bool, true, false, ◌&&◌, cond}
use mathlib.Core.Logic.{◌⊎◌, inl, inr}
use Prim.Native.Nat.{ℕ, ◌<◌}
use native.Mathlib.Omega.{arith}
use borrow.Author.Tests.{lt-ltb, ltb-false}
use lib.Dec.{ltb, eqb}
use Rattle.closing.specs.declared.Marks.{Marks}
use Rattle.closing.specs.Closing.{done_sent, closed_sent, abort_sent}
use Rattle.conn_record.specs.declared.Record.{Record}
use Rattle.conn_answer.specs.declared.Reply.{Reply}
use Rattle.conn_answer.specs.declared.Reply.TheVariants.{Refused, Accepted, Reset}
use Rattle.conn_answer.specs.declared.Outcome.{Outcome}
use Rattle.conn_record.specs.Connection.{zero_record, coherent_b, refusal_of, marks_to}
use Rattle.conn_answer.specs.Outcome.{refused_of, outcome_of, closed_if}
use Rattle.conn_receive.specs.Receive.{unread_of}
use Rattle.conn_record.proofs.Laws.{coherent_facts, refusal_0, marks_coherent}
use Rattle.conn_answer.proofs.Laws.{outcome_reply, refused_after, outcome_id, outcome_marks, outcome_coherent, closed_after}
use Rattle.conn_finish.specs.Finish.{shutdown_forbids, shutdown_of, close_forbids, reset_of, closing_of, close_of, abort_of}

-- the outcome of a call that only sets marks
abbrev marked_of : Reply → Record → Marks → Outcome
marked_of reply rec m = outcome_of reply true (marks_to rec m)

module _ (reply : Reply) (rec : Record) (m : Marks) where
  marked_coherent : (n : ℕ) → coherent_b n rec ≡ true → m.sent.closed && m.heard.closed ≡ false
      → coherent_b n (marked_of reply rec m).after ≡ true
  marked_coherent n e b = outcome_coherent n (marks_to rec m) reply true (marks_coherent n rec m e b)

  marked_id : (marked_of reply rec m).after.id ≡ rec.id
  unfolding marks_to
  marked_id = outcome_id reply true (marks_to rec m)

  marked_marks : (marked_of reply rec m).after.marks ≡ m
  unfolding marks_to
  marked_marks = outcome_marks reply true (marks_to rec m)

-- a refusal, or the outcome of an accepted call: what holds of both holds of the call's
pick : (P : Outcome → Type 0) (r : ℕ) (rec : Record) (o : Outcome) → ((k : ℕ) → P (refused_of k rec)) → P o
    → P (cond (eqb r 0) o (refused_of r rec))
pick P r rec o refused accepted = go (eqb r 0)
  where
    go : (b : Bool) → P (cond b o (refused_of r rec))
    go true = accepted
    go false = refused r

refused_coherent : (n : ℕ) (rec : Record) → coherent_b n rec ≡ true → (k : ℕ) → coherent_b n (refused_of k rec).after ≡ true
refused_coherent n rec e k = rw (refused_after k rec) e

refused_id : (rec : Record) (k : ℕ) → (refused_of k rec).after.id ≡ rec.id
refused_id rec k = ap (λ (w : Record). w.id) (refused_after k rec)

module _ (n : ℕ) (active : Bool) (rec : Record) where
  -- shutdown leaves the record coherent, with its identity
  pub shutdown_coherent : coherent_b n rec ≡ true → coherent_b n (shutdown_of n active rec).after ≡ true
  unfolding shutdown_of done_sent
  shutdown_coherent e =
      pick (λ o. coherent_b n o.after ≡ true) (refusal_of n active rec (shutdown_forbids rec.marks)) rec
      (marked_of Accepted rec (done_sent rec.marks)) (refused_coherent n rec e)
      (marked_coherent Accepted rec (done_sent rec.marks) n e (coherent_facts n rec e).not_both)

  pub shutdown_keeps_id : (shutdown_of n active rec).after.id ≡ rec.id
  unfolding shutdown_of
  shutdown_keeps_id =
      pick (λ o. o.after.id ≡ rec.id) (refusal_of n active rec (shutdown_forbids rec.marks)) rec
      (marked_of Accepted rec (done_sent rec.marks)) (refused_id rec) (marked_id Accepted rec (done_sent rec.marks))

  -- and so does abort
  pub abort_coherent : coherent_b n rec ≡ true → coherent_b n (abort_of n active rec).after ≡ true
  unfolding abort_of abort_sent
  abort_coherent e =
      pick (λ o. coherent_b n o.after ≡ true) (refusal_of n active rec rec.marks.abort) rec
      (marked_of Accepted rec (abort_sent rec.marks)) (refused_coherent n rec e)
      (marked_coherent Accepted rec (abort_sent rec.marks) n e (coherent_facts n rec e).not_both)

  pub abort_keeps_id : (abort_of n active rec).after.id ≡ rec.id
  unfolding abort_of
  abort_keeps_id =
      pick (λ o. o.after.id ≡ rec.id) (refusal_of n active rec rec.marks.abort) rec (marked_of Accepted rec (abort_sent rec.marks))
      (refused_id rec) (marked_id Accepted rec (abort_sent rec.marks))

  -- close leaves the slot closed, or what holds of the record as it was, with A sent, and with C sent and not heard
  close_cases : (P : Record → Type 0) → P rec → P (marked_of Reset rec (abort_sent rec.marks)).after
      → (rec.marks.heard.closed ≡ false → P (marked_of Accepted rec (closed_sent rec.marks)).after)
      → ((close_of n active rec).after ≡ zero_record) ⊎ P (close_of n active rec).after
  unfolding close_of reset_of closing_of
  close_cases P kept aborted sent =
      pick (λ x. (x.after ≡ zero_record) ⊎ P x.after) (refusal_of n active rec (close_forbids rec.marks)) rec
      (cond (ltb 0 (unread_of n rec.inbound)) (reset_of rec) (closing_of rec)) (λ k. inr (rw (refused_after k rec) kept))
      (unread (ltb 0 (unread_of n rec.inbound)))
    where
      go : (w : Record) (h : Bool) → (h ≡ false → P w) → (cond h zero_record w ≡ zero_record) ⊎ P (cond h zero_record w)
      go w true s = inl refl
      go w false s = inr (s refl)

      unread : (b : Bool) → ((cond b (reset_of rec) (closing_of rec)).after ≡ zero_record) ⊎ P (cond b (reset_of rec) (closing_of rec)).after
      unread true = inr aborted
      unread false =
          let o = marked_of Accepted rec (closed_sent rec.marks) in
          let h = rec.marks.heard.closed in
          rw (closed_after h o) (go o.after h sent)

  pub close_coherent : coherent_b n rec ≡ true
      → ((close_of n active rec).after ≡ zero_record) ⊎ (coherent_b n (close_of n active rec).after ≡ true)
  unfolding closed_sent abort_sent
  close_coherent e =
      close_cases (λ w. coherent_b n w ≡ true) e
      (marked_coherent Reset rec (abort_sent rec.marks) n e (coherent_facts n rec e).not_both)
      (marked_coherent Accepted rec (closed_sent rec.marks) n e)

  pub close_keeps_id : ((close_of n active rec).after ≡ zero_record) ⊎ ((close_of n active rec).after.id ≡ rec.id)
  close_keeps_id =
      close_cases (λ w. w.id ≡ rec.id) refl (marked_id Reset rec (abort_sent rec.marks))
      (λ h. marked_id Accepted rec (closed_sent rec.marks))

  -- where nothing forbids it, each sets its mark; a close closes the slot where C was heard
  module _ (k : coherent_b n rec ≡ true) (up : active ≡ true) where
    pub shutdown_sends : shutdown_forbids rec.marks ≡ false → (shutdown_of n active rec).after.marks ≡ done_sent rec.marks
    unfolding shutdown_of
    shutdown_sends may = simp (refusal_0 n active rec _ k up may, marked_marks Accepted rec (done_sent rec.marks))

    pub abort_sends : rec.marks.abort ≡ false → (abort_of n active rec).after.marks ≡ abort_sent rec.marks
    unfolding abort_of
    abort_sends may = simp (refusal_0 n active rec _ k up may, marked_marks Accepted rec (abort_sent rec.marks))

    -- with no byte unread
    pub close_sends : close_forbids rec.marks ≡ false → unread_of n rec.inbound ≡ 0 → rec.marks.heard.closed ≡ false
        → (close_of n active rec).after.marks ≡ closed_sent rec.marks
    unfolding close_of closing_of closed_if
    close_sends may none h = simp (refusal_0 n active rec _ k up may, none, h, marked_marks Accepted rec (closed_sent rec.marks))

    pub close_shuts : close_forbids rec.marks ≡ false → unread_of n rec.inbound ≡ 0 → rec.marks.heard.closed ≡ true
        → (close_of n active rec).after ≡ zero_record
    unfolding close_of closing_of closed_if
    close_shuts may none h = simp (refusal_0 n active rec _ k up may, none, h)

    -- with unread bytes A is sent, C is not, and the slot stays open
    pub close_resets : close_forbids rec.marks ≡ false → 0 < unread_of n rec.inbound
        → ((close_of n active rec).reply ≡ Reset) × ((close_of n active rec).after.marks ≡ abort_sent rec.marks)
    unfolding close_of reset_of
    close_resets may some =
        let u = lt-ltb 0 (unread_of n rec.inbound) some in (
          simp (refusal_0 n active rec _ k up may, u, outcome_reply Reset true (marks_to rec (abort_sent rec.marks))),
          simp (refusal_0 n active rec _ k up may, u, marked_marks Reset rec (abort_sent rec.marks)),
        )

-- NOTHING IS DROPPED IN SILENCE: a close is refused, or answers "reset", or found every byte read
pub close_answers : (n : ℕ) (active : Bool) (rec : Record)
    → ((k : ℕ) × ((close_of n active rec).reply ≡ Refused k)) ⊎ (((close_of n active rec).reply ≡ Reset) ⊎ (unread_of n rec.inbound ≡ 0))
unfolding close_of reset_of refused_of
close_answers n active rec =
    let j = refusal_of n active rec (close_forbids rec.marks) in
    go j (eqb j 0) (ltb 0 (unread_of n rec.inbound)) refl
  where
    go : (j : ℕ) (t u : Bool) → ltb 0 (unread_of n rec.inbound) ≡ u
        → let o = cond t (cond u (reset_of rec) (closing_of rec)) (refused_of j rec) in
        ((k : ℕ) × (o.reply ≡ Refused k)) ⊎ ((o.reply ≡ Reset) ⊎ (unread_of n rec.inbound ≡ 0))
    go j false u h = inl (j, refl)
    go j true true h = inr (inl (outcome_reply Reset true (marks_to rec (abort_sent rec.marks))))
    go j true false h = inr (inr (omega (arith, ltb-false 0 (unread_of n rec.inbound) h)))

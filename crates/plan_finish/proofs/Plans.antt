-- The rules' shutdown, close and abort are their plans, put together. Assumes nothing.
use Prim.Native.Nat.{ℕ, zero, suc, ◌<◌}
use mathlib.Core.Path.{◌≡◌, refl, sym, ap, ◌∙◌}
use mathlib.Core.Bool.{Bool, true, false, cond}
use mathlib.Core.List.{List, []}
use native.Mathlib.Omega.{arith}
use lib.Dec.{ltb, eqb}
use lib.ListN.{length}
use borrow.Author.Tests.{eq-eqb, ne_eqb}
use Rattle.closing.specs.declared.Marks.{Marks}
use Rattle.closing.specs.Closing.{done_sent, closed_sent, abort_sent}
use Rattle.conn_record.specs.declared.Record.{Record}
use Rattle.conn_record.specs.Connection.{zero_record, marks_to}
use Rattle.conn_answer.specs.declared.Reply.{Reply}
use Rattle.conn_answer.specs.declared.Reply.TheVariants.{Accepted, Reset}
use Rattle.conn_answer.specs.declared.Outcome.{Outcome}
use Rattle.conn_answer.specs.Outcome.{no_message}
use Rattle.conn_receive.specs.Receive.{unread_of}
use Rattle.conn_finish.specs.Finish.{shutdown_forbids, shutdown_of, close_forbids, reset_of, closing_of, close_of, abort_of}
use Rattle.group_table.specs.declared.Links.{Links}
use Rattle.group_table.specs.Table.{record_at, active_b, with_record}
use Rattle.group_rules.specs.Rules.{Answer, Group, Call, Done, does, group_of, turn_of, request_turn, out_of, element_in}
use Rattle.group_rules.specs.Rules as Rules
use Rattle.plan.specs.Direct.{refusal_at}
use Rattle.plan.specs.Step.{Step, refuses, leaves, closing, unless7, settle_by, step_by, left_by_of, made_by_of, bytes_by, answer_by, done_by}
use Rattle.plan.proofs.Steps.{closing_is, leaves_is, by_test, first_then}
use Rattle.plan.proofs.Does.{does_step}
use Rattle.plan_finish.specs.declared.Ending.{Ending}
use Rattle.plan_finish.specs.declared.Ending.TheVariants.{Shutdown, Close, Abort}
use Rattle.plan_finish.specs.declared.Finishing.{Finishing}
use Rattle.plan_finish.specs.declared.Finished.{Finished}
use Rattle.plan_finish.specs.Finishing.{refused_answer, refused_plan, marked, shutdown_plan, close_plan, abort_plan, plan_of}
use Rattle.plan_finish.specs.Finishing.{message_by, marked_record, leaves_of, silently, telling, finished_by, record_left}
use Rattle.plan_finish.specs.DirectFinish.{request_of, finished_of, Finishes}

-- a plan as a step
abbrev pub step_of : Record → Finishing → Step
step_of rec t =
    record {
      refusal = t.said.refusal;
      reply = cond t.said.reset Reset Accepted;
      before = marks_to rec t.marks;
      made = t.said.made;
      pending = false;
      closes = t.closes;
    }

module _ (rec : Record) where
  abbrev m : Marks
  m = rec.marks

  forbidden : step_of rec (refused_plan 7 m) ≡ refuses 7 rec
  unfolding marks_to
  forbidden = refl

  by_plan : (f : Bool) (t : Finishing) → unless7 f rec (step_of rec t) ≡ step_of rec (cond f (refused_plan 7 m) t)
  by_plan true t = sym forbidden
  by_plan false t = refl

  choose : (b : Bool) (x y : Finishing) → cond b (step_of rec x) (step_of rec y) ≡ step_of rec (cond b x y)
  choose true x y = refl
  choose false x y = refl

module _ (n : ℕ) (rec : Record) where
  abbrev unread : Bool
  unread = ltb 0 (unread_of n rec.inbound)

  abbrev resets : Finishing
  resets = marked (abort_sent rec.marks) true false

  abbrev ends : Finishing
  ends = marked (closed_sent rec.marks) false rec.marks.heard.closed

  module _ (active : Bool) where
    shutdown_by_plan : shutdown_of n active rec ≡ step_by n active rec (step_of rec (shutdown_plan rec.marks))
    unfolding shutdown_of shutdown_plan
    shutdown_by_plan =
        first_then n active rec _ _ (shutdown_forbids rec.marks) (sym (leaves_is rec Accepted true (marks_to rec (done_sent rec.marks))))
        ∙ ap (step_by n active rec) (by_plan rec (shutdown_forbids rec.marks) (marked (done_sent rec.marks) false false))

    abort_by_plan : abort_of n active rec ≡ step_by n active rec (step_of rec (abort_plan rec.marks))
    unfolding abort_of abort_plan
    abort_by_plan =
        first_then n active rec _ _ rec.marks.abort (sym (leaves_is rec Accepted true (marks_to rec (abort_sent rec.marks))))
        ∙ ap (step_by n active rec) (by_plan rec rec.marks.abort (marked (abort_sent rec.marks) false false))

    close_by_plan : close_of n active rec ≡ step_by n active rec (step_of rec (close_plan n rec))
    unfolding close_of close_plan reset_of closing_of
    close_by_plan =
        first_then n active rec _ _ (close_forbids rec.marks)
        (by_test rec unread (step_of rec resets) (step_of rec ends) _ _
        (sym (leaves_is rec Reset true (marks_to rec (abort_sent rec.marks))))
        (sym (closing_is rec Accepted true (marks_to rec (closed_sent rec.marks)) rec.marks.heard.closed)))
        ∙ ap (λ (t : Step). step_by n active rec (unless7 (close_forbids rec.marks) rec t)) (choose rec unread resets ends)
        ∙ ap (step_by n active rec) (by_plan rec (close_forbids rec.marks) (cond unread resets ends))

    -- the turn of any of the three
    turn_by_plan : (what : Ending) (e : List ℕ)
        → request_turn n active rec e (request_of what)
        ≡ turn_of (step_by n active rec (step_of rec (plan_of what n rec))) e (out_of (request_of what))
    unfolding request_turn
    turn_by_plan Shutdown e = ap (λ (o : Outcome). turn_of o e []) shutdown_by_plan
    turn_by_plan Close e = ap (λ (o : Outcome). turn_of o e []) close_by_plan
    turn_by_plan Abort e = ap (λ (o : Outcome). turn_of o e []) abort_by_plan

  -- what a plan answers and leaves is what its step does
  record Same (t : Finishing) : Type 0 where
    answers : finished_of (answer_by (step_of rec t) []) ≡ finished_by rec t
    leaves : left_by_of rec (step_of rec t) ≡ record_left rec t

  same_7 : Same (refused_plan 7 rec.marks)
  unfolding finished_by record_left left_by_of bytes_by
  same_7 = record { answers = refl; leaves = refl }

  same_marked : (m : Marks) (reset closes : Bool) → Same (marked m reset closes)
  unfolding finished_by record_left left_by_of bytes_by message_by marked_record
  same_marked m true closes = record { answers = refl; leaves = refl }
  same_marked m false closes = record { answers = refl; leaves = refl }

  same_of : (b : Bool) (x y : Finishing) → Same x → Same y → Same (cond b x y)
  same_of true x y v w = v
  same_of false x y v w = w

  same : (what : Ending) → Same (plan_of what n rec)
  unfolding shutdown_plan close_plan abort_plan
  same Shutdown = same_of (shutdown_forbids rec.marks) _ _ same_7 (same_marked (done_sent rec.marks) false false)
  same Close =
      same_of (close_forbids rec.marks) _ _ same_7
      (same_of unread resets ends (same_marked (abort_sent rec.marks) true false)
      (same_marked (closed_sent rec.marks) false rec.marks.heard.closed))
  same Abort = same_of rec.marks.abort _ _ same_7 (same_marked (abort_sent rec.marks) false false)

-- the whole call, by what refuses it before its plan
module _ (what : Ending) (s n : ℕ) (tab : List Record) (ls : Links) (m : List ℕ) (k : ℕ) where
  abbrev g : Group
  g = group_of s n tab ls m

  abbrev rec : Record
  rec = record_at tab k

  abbrev plan : Finishing
  plan = plan_of what n rec

  abbrev j : ℕ
  j = refusal_at s n (length m) tab ls.active k

  does_plan : does g (Call.on k (request_of what)) ≡ done_by g k j (step_of rec plan) (out_of (request_of what))
  does_plan =
      does_step s n tab ls m k (request_of what) (step_of rec plan)
      (turn_by_plan n rec (active_b ls.active rec.id.link) what (element_in g k))

  abbrev out : List ℕ
  out = out_of (request_of what)

  does_refuse : (j ≡ 0 → ⊥) → does g (Call.on k (request_of what)) ≡ Rules.refuses g j out
  unfolding done_by
  does_refuse z = does_plan ∙ simp (ne_eqb j 0 z)

  abbrev done : Done
  done = record { answer = answer_by (step_of rec plan) out; group = group_of s n (with_record tab k (left_by_of rec (step_of rec plan))) ls m }

  does_finish : j ≡ 0 → does g (Call.on k (request_of what)) ≡ done
  unfolding done_by
  does_finish z = does_plan ∙ simp (eq-eqb j 0 z)

  pub finishes_refused : (j ≡ 0 → ⊥) → Finishes (request_of what) g k (silently (refused_answer j)) g
  unfolding Rules.refuses
  finishes_refused z =
      record {
        answered = ap (λ (d : Done). finished_of d.answer) (sym (does_refuse z));
        next_left = ap (λ (d : Done). d.group) (sym (does_refuse z));
      }

  pub finishes_plan : j ≡ 0
      → Finishes (request_of what) g k (finished_by rec plan) (group_of s n (with_record tab k (record_left rec plan)) ls m)
  finishes_plan z =
      let w = same n rec what in
      record {
        answered = sym w.answers ∙ ap (λ (d : Done). finished_of d.answer) (sym (does_finish z));
        next_left =
            ap (λ (c : Record). group_of s n (with_record tab k c) ls m) (sym w.leaves)
            ∙ ap (λ (d : Done). d.group) (sym (does_finish z));
      }

  -- no out buffer is lent
  none : (w : Ending) → out_of (request_of w) ≡ []
  none Shutdown = refl
  none Close = refl
  none Abort = refl

  same_out : (b : Bool) → (cond b done (Rules.refuses g j out)).answer.out ≡ out
  unfolding Rules.refuses
  same_out true = refl
  same_out false = refl

  pub no_out : (Rules.answer g (Call.on k (request_of what))).out ≡ []
  unfolding done_by
  no_out = ap (λ (d : Done). d.answer.out) does_plan ∙ same_out (eqb j 0) ∙ none what

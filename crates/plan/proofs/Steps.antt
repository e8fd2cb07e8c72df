-- The laws of steps that all calls share. Assumes nothing.
use mathlib.Core.Path.{◌≡◌, refl, sym, ap}
use mathlib.Core.Bool.{Bool, true, false, ◌&&◌, cond}
use Prim.Native.Nat.{ℕ}
use lib.Dec.{eqb}
use Rattle.conn_record.specs.declared.Record.{Record}
use Rattle.cdc.specs.Cdc.{encode_of}
use Rattle.conn_record.specs.Connection.{zero_record, coherent_b, refusal_of}
use Rattle.conn_record.proofs.Laws.{refusal_3, refusal_6, refusal_7, refusal_0}
use Rattle.conn_answer.specs.declared.Reply.{Reply}
use Rattle.conn_answer.specs.declared.Outcome.{Outcome}
use Rattle.conn_answer.specs.Outcome.{no_message, told_of, outcome_of, refused_of, closed_if}
use Rattle.group_rules.specs.Rules.{refusal, says_of}
use Rattle.plan.specs.Step.{Step, refuses, leaves, closing, message_by, tell_by, settle_by, step_by}
use Rattle.plan.specs.Step.{unless7, left_by_of, made_by_of, bytes_by, says_by}

-- a refusal; a record, told or not, and perhaps closed
pub refuses_is : (j : ℕ) (rec : Record) → eqb j 0 ≡ false → settle_by rec (refuses j rec) ≡ refused_of j rec
unfolding settle_by
refuses_is j rec e = simp e

tell_is : (reply : Reply) (made : Bool) (next : Record) → tell_by reply made false next ≡ outcome_of reply made next
unfolding tell_by outcome_of
tell_is reply made next = refl

pub closing_is : (rec : Record) (reply : Reply) (made : Bool) (next : Record) (shut : Bool)
    → settle_by rec (closing reply made next shut) ≡ closed_if shut (outcome_of reply made next)
unfolding settle_by
closing_is rec reply made next shut = ap (closed_if shut) (tell_is reply made next)

pub leaves_is : (rec : Record) (reply : Reply) (made : Bool) (next : Record)
    → settle_by rec (leaves reply made next) ≡ outcome_of reply made next
unfolding closed_if
leaves_is rec reply made next = closing_is rec reply made next false

pub by_test : (rec : Record) (b : Bool) (x y : Step) (o p : Outcome) → o ≡ settle_by rec x → p ≡ settle_by rec y
    → cond b o p ≡ settle_by rec (cond b x y)
by_test rec true x y o p f g = f
by_test rec false x y o p f g = g

-- 3, 6 and 7 before the outcome: 3 and 6 before the step, and 7 its first test
module _ (n : ℕ) (active : Bool) (rec : Record) (o : Outcome) (t : Step) where
  abbrev Same : Bool → Type 0
  Same f =
      cond (eqb (refusal_of n active rec f) 0) o (refused_of (refusal_of n active rec f) rec) ≡ step_by n active rec (unless7 f rec t)

  by_marks : o ≡ settle_by rec t → coherent_b n rec ≡ true → active ≡ true → (f : Bool) → Same f
  unfolding step_by
  by_marks h g a true = simp (refusal_7 n active rec true g a refl, refusal_0 n active rec false g a refl) (sym (refuses_is 7 rec refl))
  by_marks h g a false = simp (refusal_0 n active rec false g a refl) h

  by_link_lem : o ≡ settle_by rec t → coherent_b n rec ≡ true → (a : Bool) → active ≡ a → (f : Bool) → Same f
  unfolding step_by
  by_link_lem h g true a f = by_marks h g a f
  by_link_lem h g false a f = simp (refusal_6 n active rec f g a, refusal_6 n active rec false g a)

  by_record : o ≡ settle_by rec t → (g : Bool) → coherent_b n rec ≡ g → (f : Bool) → Same f
  unfolding step_by
  by_record h true g f = by_link_lem h g active refl f
  by_record h false g f = simp (refusal_3 n active rec f g, refusal_3 n active rec false g)

  pub first_then : (f : Bool) → o ≡ settle_by rec t → Same f
  first_then f h = by_record h (coherent_b n rec) refl f

-- what any call leaves and tells, once for all of them: the record, whether a message is made, and its bytes
module _ (rec : Record) (t : Step) where
  abbrev by : Bool → Bool → Bool → Outcome
  by ok shut made = cond ok (closed_if shut (tell_by t.reply made t.pending t.before)) (refused_of t.refusal rec)

  after_by : (ok shut made : Bool) → (by ok shut made).after ≡ cond ok (cond shut zero_record (cond made (told_of t.before) t.before)) rec
  unfolding closed_if tell_by refused_of
  after_by true true true = refl
  after_by true true false = refl
  after_by true false true = refl
  after_by true false false = refl
  after_by false shut made = refl

  made_by : (ok shut made : Bool) → (by ok shut made).made ≡ ok && made
  unfolding closed_if tell_by refused_of
  made_by true true true = refl
  made_by true true false = refl
  made_by true false true = refl
  made_by true false false = refl
  made_by false shut made = refl

  bytes_by_lem : (ok shut made : Bool)
      → (by ok shut made).message ≡ cond (ok && made) (encode_of (message_by t.before t.pending)) no_message
  unfolding closed_if tell_by refused_of
  bytes_by_lem true true true = refl
  bytes_by_lem true true false = refl
  bytes_by_lem true false true = refl
  bytes_by_lem true false false = refl
  bytes_by_lem false shut made = refl

  pub settled_after : (settle_by rec t).after ≡ left_by_of rec t
  unfolding settle_by left_by_of
  settled_after = after_by (eqb t.refusal 0) t.closes t.made

  pub settled_made : (settle_by rec t).made ≡ made_by_of t
  unfolding settle_by
  settled_made = made_by (eqb t.refusal 0) t.closes t.made

  says_by_lem : (ok shut made : Bool) → says_of (by ok shut made).reply ≡ cond ok (says_of t.reply) (refusal t.refusal)
  unfolding closed_if tell_by refused_of
  says_by_lem true true true = refl
  says_by_lem true true false = refl
  says_by_lem true false true = refl
  says_by_lem true false false = refl
  says_by_lem false shut made = refl

  pub settled_says : says_of (settle_by rec t).reply ≡ says_by t
  unfolding settle_by
  settled_says = says_by_lem (eqb t.refusal 0) t.closes t.made

  pub settled_bytes : (settle_by rec t).message ≡ bytes_by t
  unfolding settle_by bytes_by
  settled_bytes = bytes_by_lem (eqb t.refusal 0) t.closes t.made

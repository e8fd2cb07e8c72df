-- What a connection call never answers, once its record is coherent and its element intact: refusal 3, or "torn". Assumes nothing.
use mathlib.Core.Path.{◌≡◌}
use mathlib.Core.Bool.{Bool, true, false, cond}
use Prim.Native.Nat.{ℕ}
use native.Mathlib.Omega.{arith}
use Rattle.cdc.specs.declared.Message.{Message}
use Rattle.conn_record.specs.declared.Record.{Record}
use Rattle.conn_answer.specs.declared.Reply.{Reply}
use Rattle.conn_answer.specs.declared.Reply.TheVariants.{Refused, Accepted, Sent, Read, Torn, Reset, Heard, Sampled}
use Rattle.conn_answer.specs.declared.Outcome.{Outcome}
use Rattle.conn_record.specs.Connection.{coherent_b, refusal_of}
use Rattle.conn_answer.specs.Outcome.{refused_of}
use Rattle.conn_answer.proofs.Goes.{By, by_test, by_refused, by_outcome, by_urgent, by_shut}
use Rattle.conn_send.specs.Transmit.{send_of, sent_of, urgent_of, urgent_send_of}
use Rattle.conn_receive.specs.Receive.{place_of, read_of, take_of}
use Rattle.conn_hear.specs.Hear.{ruled_of, hear_of, aborted_of, followed_of, validated_of, accepted_of}
use Rattle.conn_finish.specs.Finish.{reset_of, closing_of, shutdown_of, close_of, abort_of}
use Rattle.group_rules.specs.Rules.{refusal, torn, says_of}

-- from an equation of two constructors
pub clash : {A : Type 0} → ◌≡◌ {A = ℕ} 0 1 → A
clash e = absurd (omega (arith, e))

-- neither refusal 3 nor torn
abbrev Fair : Reply → Type 0
Fair (Refused k) = k ≡ 3 → ⊥
Fair Accepted = Unit {0}
Fair (Sent n p) = Unit {0}
Fair (Read n) = Unit {0}
Fair Torn = ⊥
Fair (Heard moved state) = Unit {0}
Fair Reset = Unit {0}
Fair (Sampled q) = Unit {0}

pub fair_3 : (r : Reply) → Fair r → says_of r ≡ refusal 3 → ⊥
fair_3 (Refused k) f e = f (cc)
fair_3 Accepted f e = clash (cc)
fair_3 (Sent n p) f e = clash (cc)
fair_3 (Read n) f e = clash (cc)
fair_3 Torn f e = f
fair_3 (Heard moved state) f e = clash (cc)
fair_3 Reset f e = clash (cc)
fair_3 (Sampled q) f e = clash (cc)

pub fair_torn : (r : Reply) → Fair r → says_of r ≡ torn → ⊥
fair_torn (Refused k) f e = clash (cc)
fair_torn Accepted f e = clash (cc)
fair_torn (Sent n p) f e = clash (cc)
fair_torn (Read n) f e = clash (cc)
fair_torn Torn f e = f
fair_torn (Heard moved state) f e = clash (cc)
fair_torn Reset f e = clash (cc)
fair_torn (Sampled q) f e = clash (cc)

abbrev pub Answers : Outcome → Type 0
Answers = By (λ r d. Fair r)

module _ (n : ℕ) (active : Bool) (c : Record) (ok : coherent_b n c ≡ true) where
  -- what is tested before all else is never 3
  first : (forbids : Bool) → Answers (refused_of (refusal_of n active c forbids) c)
  unfolding refusal_of
  first forbids = by_refused _ _ c (rw ok (go active forbids))
    where
      go : (a f : Bool) → ◌≡◌ {A = ℕ} (cond a (cond f 7 0) 6) 3 → ⊥
      go true true e = omega (arith, e)
      go true false e = omega (arith, e)
      go false f e = omega (arith, e)

  cursors : Answers (refused_of 8 c)
  cursors = by_refused _ 8 c (λ e. omega (arith, e))

  number : Answers (refused_of 16 c)
  number = by_refused _ 16 c (λ e. omega (arith, e))

  outside : Answers (refused_of 9 c)
  outside = by_refused _ 9 c (λ e. omega (arith, e))

  pub send_answers : (k : ℕ) → Answers (send_of n active c k)
  unfolding send_of sent_of
  send_answers k = search (by_test, first, by_outcome) depth 9

  pub urgent_answers : (k : ℕ) → Answers (urgent_send_of n active c k)
  unfolding urgent_send_of urgent_of
  urgent_answers k = search (by_test, first, by_outcome, by_urgent) depth 9

  pub place_answers : (at k : ℕ) → Answers (place_of n active c at k)
  unfolding place_of
  place_answers at k = search (by_test, first, outside, by_outcome) depth 9

  pub read_answers : (k : ℕ) → Answers (read_of n active c true k)
  unfolding read_of take_of
  read_answers k = search (by_test, first, by_outcome) depth 9

  pub hear_answers : (m : Message) → Answers (hear_of n active c m)
  unfolding hear_of aborted_of followed_of validated_of ruled_of accepted_of
  hear_answers m = search (by_test, first, number, cursors, by_outcome, by_shut) depth 9

  pub shutdown_answers : Answers (shutdown_of n active c)
  unfolding shutdown_of
  shutdown_answers = search (by_test, first, by_outcome) depth 9

  pub close_answers : Answers (close_of n active c)
  unfolding close_of reset_of closing_of
  close_answers = search (by_test, first, by_outcome, by_shut) depth 9

  pub abort_answers : Answers (abort_of n active c)
  unfolding abort_of
  abort_answers = search (by_test, first, by_outcome) depth 9

-- What a connection call leaves of its slot: a record that has the identity that it had, own token and link with it, or is closed, all
-- zeros; and an element as long as it was. Assumes nothing.
use mathlib.Core.Path.{◌≡◌, refl, ◌∙◌}
use mathlib.Core.Logic.{◌⊎◌, inl, inr}
use mathlib.Core.Bool.{Bool, true, false, false≢true, ◌&&◌, ◌||◌, cond}
use mathlib.Core.List.{List, [], ◌++◌}
use Prim.Native.Nat.{ℕ, ◌+◌, ◌≤◌}
use native.Mathlib.Omega.{arith}
use lib.Dec.{leb, eqb}
use lib.ListN.{length, length-append, length-take, length-drop}
use borrow.Author.Tests.{leb-true, eqb-true}
use Rattle.cursor.specs.Cursor.{data_of}
use Rattle.cdc.specs.declared.Message.{Message}
use Rattle.cdc.specs.declared.Decoded.{Decoded}
use Rattle.cdc.specs.declared.Decoded.TheVariants.{Good, Malformed}
use Rattle.cdc.specs.Cdc.{decode_of}
use Rattle.flow.specs.Flow.{window_of}
use Rattle.element.specs.Element.{splice, in_data, all_free}
use Rattle.conn_record.specs.declared.Record.{Record}
use Rattle.conn_answer.specs.declared.Reply.{Reply}
use Rattle.conn_answer.specs.declared.Reply.TheVariants.{Accepted}
use Rattle.conn_answer.specs.declared.Outcome.{Outcome}
use Rattle.conn_record.specs.Connection.{zero_record, refusal_of, marks_to}
use Rattle.conn_answer.specs.Outcome.{refused_of, outcome_of, told_of}
use Rattle.conn_answer.proofs.Goes.{By, by_test, by_refused, by_outcome, by_urgent, by_shut, by_left}
use Rattle.conn_send.specs.Transmit.{send_of, sent_of, urgent_of, urgent_send_of}
use Rattle.conn_send.specs.Produced.{produced_of, urged_of}
use Rattle.conn_receive.specs.Receive.{place_of, may_place, place_forbids, read_of, take_of, torn_of, consumed_of}
use Rattle.conn_hear.specs.Hear.{ruled_of, hear_of, aborted_of, followed_of, validated_of, accepted_of}
use Rattle.conn_hear.specs.Heard.{heard_record}
use Rattle.conn_finish.specs.Finish.{reset_of, closing_of, shutdown_of, close_of, abort_of}
use Rattle.group_rules.specs.Rules.{Request, send, gather, urgent, place, read, shutdown, close, abort, Call, on, hear, manage, Turn, turn_of, request_turn, hear_turn, placed_in}

-- the record d is left of c
abbrev pub Left : Record → Record → Type 0
Left c d = (d.id ≡ c.id) ⊎ (d ≡ zero_record)

abbrev Same : Record → Reply → Record → Type 0
Same c r d = d.id ≡ c.id

abbrev Keeps : Record → Outcome → Type 0
Keeps c o = By (Same c) o

module _ (c : Record) where
  send_keeps : (n : ℕ) (a : Bool) (k : ℕ) → Keeps c (send_of n a c k)
  unfolding send_of sent_of produced_of
  send_keeps n a k = search (by_test, by_refused, by_outcome) depth 9

  urgent_keeps : (n : ℕ) (a : Bool) (k : ℕ) → Keeps c (urgent_send_of n a c k)
  unfolding urgent_send_of urgent_of urged_of produced_of
  urgent_keeps n a k = search (by_test, by_refused, by_outcome, by_urgent) depth 9

  place_keeps : (n : ℕ) (a : Bool) (at k : ℕ) → Keeps c (place_of n a c at k)
  unfolding place_of
  place_keeps n a at k = search (by_test, by_refused, by_outcome) depth 9

  read_keeps : (n : ℕ) (a t : Bool) (k : ℕ) → Keeps c (read_of n a c t k)
  unfolding read_of take_of torn_of consumed_of marks_to
  read_keeps n a t k = search (by_test, by_refused, by_outcome) depth 9

  hear_keeps : (n : ℕ) (a : Bool) (m : Message) → Keeps c (hear_of n a c m)
  unfolding hear_of aborted_of followed_of validated_of ruled_of accepted_of heard_record marks_to
  hear_keeps n a m = search (by_test, by_refused, by_outcome, by_shut) depth 9

  shutdown_keeps : (n : ℕ) (a : Bool) → Keeps c (shutdown_of n a c)
  unfolding shutdown_of marks_to
  shutdown_keeps n a = search (by_test, by_refused, by_outcome) depth 9

  close_keeps : (n : ℕ) (a : Bool) → Keeps c (close_of n a c)
  unfolding close_of reset_of closing_of marks_to
  close_keeps n a = search (by_test, by_refused, by_outcome, by_shut) depth 9

  abort_keeps : (n : ℕ) (a : Bool) → Keeps c (abort_of n a c)
  unfolding abort_of marks_to
  abort_keeps n a = search (by_test, by_refused, by_outcome) depth 9

-- a splice of bytes that lie inside, or of none
splice_keeps : (e b : List ℕ) (at : ℕ) → (length b ≡ 0) ⊎ (at + length b ≤ length e) → length (splice e at b) ≡ length e
unfolding splice
splice_keeps e b at (inl h) = simp (length-append, length-take, length-drop) (omega arith)
splice_keeps e b at (inr h) = simp (length-append, length-take, length-drop) (omega arith)

either : (a b : Bool) → a || b ≡ true → (a ≡ true) ⊎ (b ≡ true)
either true b h = inl refl
either false b h = inr h

pub and_both : (a b : Bool) → a && b ≡ true → (a ≡ true) × (b ≡ true)
and_both true b h = (refl, h)
and_both false b h = absurd (false≢true h)

module _ (n : ℕ) (a : Bool) (c : Record) (e : List ℕ) (long : length e ≡ n) where
  place_length : (at : ℕ) (b : List ℕ) → length (placed_in (place_of n a c at (length b)).reply e at b) ≡ n
  unfolding place_of refused_of outcome_of may_place
  place_length at b = go (eqb (refusal_of n a c (place_forbids c.marks)) 0) (may_place n c.inbound at (length b)) refl
    where
      inside : (eqb (length b) 0 ≡ true) ⊎ (in_data n at (length b) && all_free (data_of n) c.inbound.producer.offset (window_of n c.inbound.told c.inbound.producer) at (length b) ≡ true)
          → (length b ≡ 0) ⊎ (at + length b ≤ length e)
      inside (inl h) = inl (eqb-true (length b) 0 h)
      inside (inr h) = inr (omega (arith, leb-true (at + length b) n (and_both (leb 4 at) (leb (at + length b) n) (and_both (in_data n at (length b)) _ h).0).1))

      go : (t u : Bool) → may_place n c.inbound at (length b) ≡ u
          → length (placed_in (cond t (cond u (outcome_of Accepted false c) (refused_of 9 c)) (refused_of (refusal_of n a c (place_forbids c.marks)) c)).reply e at b) ≡ n
      go true true h = splice_keeps e b at (inside (either (eqb (length b) 0) _ h)) ∙ long
      go true false h = long
      go false u h = long

-- THE TURN OF A CONNECTION CALL. A call that acts on no slot has none: what stands for it here is not met.
abbrev pub idle : Record → List ℕ → Turn
idle c e = turn_of (refused_of 0 c) e []

abbrev pub heard_turn : ℕ → Bool → Record → List ℕ → Decoded → Turn
heard_turn n a c e (Good m) = hear_turn n a c e m
heard_turn n a c e Malformed = idle c e

abbrev pub turn_by : ℕ → Bool → Record → List ℕ → Call → Turn
turn_by n a c e (on s q) = request_turn n a c e q
turn_by n a c e (hear b) = heard_turn n a c e (decode_of b)
turn_by n a c e (manage d) = idle c e

module _ (n : ℕ) (a : Bool) (c : Record) (e : List ℕ) where
  turn_left : (o : Outcome) (f out : List ℕ) → Keeps c o → Left c (turn_of o f out).after
  unfolding turn_of told_of
  turn_left o f out h = go (by_left (Same c) (λ r t d. d.id ≡ c.id) (λ r d e. e) (λ r d e. e) o h)
    where
      go : (o.after ≡ zero_record) ⊎ (o.after.id ≡ c.id) → Left c o.after
      go (inl z) = inr z
      go (inr e) = inl e

  request_left : (q : Request) → Left c (request_turn n a c e q).after
  unfolding request_turn
  request_left (send b) = turn_left _ _ _ (send_keeps c n a (length b))
  request_left (urgent b) = turn_left _ _ _ (urgent_keeps c n a (length b))
  request_left (gather h b) = turn_left _ _ _ (send_keeps c n a (length (h ++ b)))
  request_left (place at b) = turn_left _ _ _ (place_keeps c n a at (length b))
  request_left (read out) = turn_left _ _ _ (read_keeps c n a _ (length out))
  request_left shutdown = turn_left _ _ _ (shutdown_keeps c n a)
  request_left close = turn_left _ _ _ (close_keeps c n a)
  request_left abort = turn_left _ _ _ (abort_keeps c n a)

  heard_left : (d : Decoded) → Left c (heard_turn n a c e d).after
  unfolding hear_turn
  heard_left (Good m) = turn_left _ _ _ (hear_keeps c n a m)
  heard_left Malformed = turn_left _ _ _ (by_refused (Same c) 0 c refl)

  pub left_by : (call : Call) → Left c (turn_by n a c e call).after
  left_by (on s q) = request_left q
  left_by (hear b) = heard_left (decode_of b)
  left_by (manage d) = turn_left _ _ _ (by_refused (Same c) 0 c refl)

  module _ (long : length e ≡ n) where
    request_long : (q : Request) → length (request_turn n a c e q).element ≡ n
    unfolding request_turn turn_of
    request_long (send b) = long
    request_long (urgent b) = long
    request_long (gather h b) = long
    request_long (place at b) = place_length n a c e long at b
    request_long (read out) = long
    request_long shutdown = long
    request_long close = long
    request_long abort = long

    heard_long : (d : Decoded) → length (heard_turn n a c e d).element ≡ n
    unfolding hear_turn turn_of
    heard_long (Good m) = long
    heard_long Malformed = long

    pub long_by : (call : Call) → length (turn_by n a c e call).element ≡ n
    unfolding turn_of
    long_by (on s q) = request_long q
    long_by (hear b) = heard_long (decode_of b)
    long_by (manage d) = long

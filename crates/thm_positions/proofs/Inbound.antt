-- What a connection call does to P, C and T, by its answer: C moves by the n that a read names, P by what hear names, and a message made sets
-- T to C. A further call is one clause more of `request-steps`. Assumes nothing.
use mathlib.Core.Path.{◌≡◌, refl, sym, ap, ◌∙◌}
use mathlib.Core.Logic.{◌⊎◌, inl, inr}
use mathlib.Core.Bool.{Bool, true, false, cond}
use mathlib.Core.List.{List, ◌++◌}
use Prim.Native.Nat.{ℕ, ◌-◌}
use Rattle.cursor.specs.Cursor.{gap_of, step_of}
use Rattle.cdc.specs.declared.Message.{Message}
use Rattle.conn_record.specs.declared.Record.{Record}
use Rattle.conn_answer.specs.declared.Reply.{Reply}
use Rattle.conn_answer.specs.declared.Outcome.{Outcome}
use Rattle.conn_record.specs.Connection.{zero_record, marks_to}
use Rattle.conn_answer.specs.Outcome.{told_of, told_in}
use Rattle.conn_answer.proofs.Goes.{By, by_test, by_refused, by_outcome, by_urgent, by_shut, by_left}
use Rattle.conn_send.specs.Transmit.{send_of, sent_of, urgent_of, urgent_send_of}
use Rattle.conn_send.specs.Produced.{produced_of, urged_of}
use Rattle.conn_receive.specs.Receive.{place_of, read_of, take_of, torn_of, consumed_of, consumed_in, cleared_in, unread_of}
use Rattle.conn_hear.specs.Hear.{hear_of, aborted_of}
use Rattle.conn_hear.specs.Heard.{heard_record, heard_in}
use Rattle.conn_hear.proofs.Laws.{replied_to, hear_cases, accepted_is}
use Rattle.conn_hear.proofs.HeardLaws.{Produces}
use Rattle.conn_finish.specs.Finish.{reset_of, closing_of, shutdown_of, close_of, abort_of}
use Rattle.conn_answer.specs.declared.Placing.{Placing}
use Rattle.conn_gather.specs.Pieces.{Piece, pieces_of}
use Rattle.group_rules.specs.Rules.{Says, says_of, refusal, accepted, Request, read, turn_of, request_turn, send, gather, urgent, place, shutdown, close, abort, hear_turn, heard, torn, reset, sampled, link_changed, link_heard, link_sent, sent, gathered, was_read_of, Turn}
use Rattle.conn_record.specs.declared.Inbound.{Inbound}
use Rattle.thm_positions.specs.Positions.{moved_in, read_in}
use Rattle.cursor.proofs.Laws.{step_none}
use lib.ListN.{length}
use Rattle.cursor.specs.declared.Cursor.{Cursor}
use Rattle.thm_refusals.proofs.Gathered.{carried}

-- `New` says which cursors P may be replaced by
pub record Steps (n : ℕ) (c : Record) (New : Cursor → Type 0) (says : Says) (made : Bool) (d : Record) : Type 0 where
  pub C_steps : d.inbound.consumer ≡ step_of n c.inbound.consumer (read_in says)
  pub T_tells : d.inbound.told ≡ cond made d.inbound.consumer c.inbound.told
  pub P-moves :
      ((d.inbound.producer ≡ c.inbound.producer) × (moved_in says ≡ 0))
      ⊎ (New d.inbound.producer × Produces n c d.inbound.producer × (moved_in says ≡ gap_of (n - 4) c.inbound.producer d.inbound.producer))

-- by the answer and the record before telling; no call but read names a number read
record Moves (n : ℕ) (c : Record) (New : Cursor → Type 0) (r : Reply) (d : Record) : Type 0 where
  steps : Steps n c New (says_of r) false d
  none_read : read_in (says_of r) ≡ 0

module _ (n : ℕ) (c : Record) (New : Cursor → Type 0) where
  abbrev Stepped : Outcome → Type 0
  Stepped = By (λ r d. Steps n c New (says_of r) false d)

  abbrev Moved : Outcome → Type 0
  Moved = By (Moves n c New)

  -- making a message sets T to C
  tells : (says : Says) (d : Record) → Steps n c New says false d → Steps n c New says true (told_of d)
  unfolding told_of told_in
  tells says d s = record { C_steps = s.C_steps; T_tells = refl; P-moves = s.P-moves }

  stepped : (o : Outcome) → Stepped o → (o.after ≡ zero_record) ⊎ Steps n c New (says_of o.reply) o.made o.after
  stepped = by_left _ (λ r t d. Steps n c New (says_of r) t d) (λ r d s. s) (λ r d s. tells (says_of r) d s)

  moved : (o : Outcome) → Moved o → (o.after ≡ zero_record) ⊎ Steps n c New (says_of o.reply) o.made o.after
  moved o h = stepped o (record { before = h.before; goes = h.goes; stands = h.stands.steps })

  -- a record with P, C and T as they were, and an answer that names nothing
  stays : (says : Says) (d : Record) → moved_in says ≡ 0 → read_in says ≡ 0 → d.inbound ≡ c.inbound → Steps n c New says false d
  stays says d m r e =
      record {
        C_steps =
            ap (λ (i : Inbound). i.consumer) e
            ∙ sym (step_none n c.inbound.consumer)
            ∙ ap (step_of n c.inbound.consumer) (sym r);
        T_tells = ap (λ (i : Inbound). i.told) e;
        P-moves = inl (ap (λ (i : Inbound). i.producer) e, m);
      }

  quiet : (r : Reply) (d : Record) → moved_in (says_of r) ≡ 0 → read_in (says_of r) ≡ 0 → d.inbound ≡ c.inbound → Moves n c New r d
  quiet r d m z e = record { steps = stays (says_of r) d m z e; none_read = z }

  -- the record with what a message says
  heard_moves : (m : Message) → New m.producer → Produces n c m.producer → Moves n c New (replied_to n c m) (heard_record n c m)
  unfolding heard_record heard_in marks_to
  heard_moves m w p =
      record {
        steps = record { C_steps = sym (step_none n c.inbound.consumer); T_tells = refl; P-moves = inr (w, p, refl) };
        none_read = refl;
      }

  module _ (a : Bool) where
    send_moves : (k : ℕ) → Moved (send_of n a c k)
    unfolding send_of sent_of produced_of
    send_moves k = search (by_test, by_refused, by_outcome, quiet) depth 9

    urgent_moves : (k : ℕ) → Moved (urgent_send_of n a c k)
    unfolding urgent_send_of urgent_of urged_of produced_of
    urgent_moves k = search (by_test, by_refused, by_outcome, by_urgent, quiet) depth 9

    place_moves : (at k : ℕ) → Moved (place_of n a c at k)
    unfolding place_of
    place_moves at k = search (by_test, by_refused, by_outcome, quiet) depth 9

    shutdown_moves : Moved (shutdown_of n a c)
    unfolding shutdown_of marks_to
    shutdown_moves = search (by_test, by_refused, by_outcome, quiet) depth 9

    abort_moves : Moved (abort_of n a c)
    unfolding abort_of marks_to
    abort_moves = search (by_test, by_refused, by_outcome, quiet) depth 9

    close_moves : Moved (close_of n a c)
    unfolding close_of reset_of closing_of marks_to
    close_moves = search (by_test, by_refused, by_outcome, by_shut, quiet) depth 9

    taken : (k : ℕ) → Stepped (take_of n c k)
    unfolding take_of consumed_of consumed_in cleared_in unread_of
    taken k = by_outcome _ _ _ _ (record { C_steps = refl; T_tells = refl; P-moves = inl (refl, refl) })

    read_steps : (t : Bool) (k : ℕ) → Stepped (read_of n a c t k)
    unfolding read_of torn_of marks_to
    read_steps t k = search (by_test, by_refused, by_outcome, stays, taken) depth 9

    -- hear replaces P by what keeps the rules
    hear_moves : (m : Message) → New m.producer → Moved (hear_of n a c m)
    unfolding aborted_of marks_to
    hear_moves m w =
        hear_cases n a c m Moved (λ k. by_refused _ k c (quiet _ c refl refl refl))
        (by_shut _ true _ (by_outcome _ _ _ _ (quiet _ _ refl refl refl)))
        (by_outcome _ _ _ c (quiet _ c refl refl refl))
        (by_outcome _ _ _ c (quiet _ c refl refl refl))
        (by_outcome _ _ _ _ (quiet _ _ refl refl refl))
        (λ p r. rw (accepted_is n c m) (by_shut _ _ _ (by_outcome _ _ _ _ (heard_moves m w p))))

module _ (n : ℕ) (a : Bool) (c : Record) (e : List ℕ) where
  -- what a turn does to P, C and T, unless it closes the slot
  abbrev pub Turned : (Cursor → Type 0) → Turn → Type 0
  Turned New t = (t.after ≡ zero_record) ⊎ Steps n c New t.answer.says t.answer.made t.after

  as_sent : (New : Cursor → Type 0) (made : Bool) (d : Record) (m : ℕ) (p : List Placing) (q : List Piece)
      → (d ≡ zero_record) ⊎ Steps n c New (sent m p) made d → (d ≡ zero_record) ⊎ Steps n c New (gathered m q) made d
  as_sent New made d m p q (inl z) = inl z
  as_sent New made d m p q (inr s) = inr (record { C_steps = s.C_steps; T_tells = s.T_tells; P-moves = s.P-moves })

  -- no call but hear moves P, so to nothing
  pub request_steps : (New : Cursor → Type 0) (q : Request) → Turned New (request_turn n a c e q)
  unfolding request_turn turn_of
  request_steps New (send b) = moved n c New _ (send_moves n c New a (length b))
  request_steps New (urgent b) = moved n c New _ (urgent_moves n c New a (length b))
  request_steps New (gather h b) =
      let o = send_of n a c (length (h ++ b)) in
      carried (pieces_of c h b) (λ (s : Says). (o.after ≡ zero_record) ⊎ Steps n c New s o.made o.after) (as_sent New o.made o.after)
      (says_of o.reply) (moved n c New o (send_moves n c New a (length (h ++ b))))
  request_steps New (place at b) = moved n c New _ (place_moves n c New a at (length b))
  request_steps New (read out) = stepped n c New _ (read_steps n c New a _ (length out))
  request_steps New shutdown = moved n c New _ (shutdown_moves n c New a)
  request_steps New close = moved n c New _ (close_moves n c New a)
  request_steps New abort = moved n c New _ (abort_moves n c New a)

  -- and hear to the message's
  pub hear_steps : (New : Cursor → Type 0) (m : Message) → New m.producer → Turned New (hear_turn n a c e m)
  unfolding hear_turn turn_of
  hear_steps New m w = moved n c New _ (hear_moves n c New a m w)

-- WHO READS: no call but read names a number read
module _ (n : ℕ) (a : Bool) (c : Record) where
  abbrev Any : Cursor → Type 0
  Any p = Unit {0}

  -- a request that names a number read is a read
  abbrev pub Reader : Request → Says → Type 0
  Reader q says = (read_in says ≡ 0) ⊎ ((out : List ℕ) × (q ≡ read out) × (says ≡ was_read_of (read_in says)))

  reader : (q : Request) (out : List ℕ) → q ≡ read out → (says : Says) → Reader q says
  reader q out p (refusal k) = inl refl
  reader q out p accepted = inl refl
  reader q out p (sent k l) = inl refl
  reader q out p (gathered k l) = inl refl
  reader q out p (was_read_of k) = inr (out, p, refl)
  reader q out p torn = inl refl
  reader q out p (heard moved state) = inl refl
  reader q out p reset = inl refl
  reader q out p (sampled h) = inl refl
  reader q out p (link_changed n) = inl refl
  reader q out p (link_heard f t u n) = inl refl
  reader q out p (link_sent u n) = inl refl

  pub request_reader : (e : List ℕ) (q : Request) → Reader q (request_turn n a c e q).answer.says
  unfolding request_turn turn_of
  request_reader e (send b) = inl (send_moves n c Any a (length b)).stands.none_read
  request_reader e (urgent b) = inl (urgent_moves n c Any a (length b)).stands.none_read
  request_reader e (gather h b) =
      inl (carried (pieces_of c h b) (λ (s : Says). read_in s ≡ 0) (λ n p q r. r) (says_of (send_of n a c (length (h ++ b))).reply)
      (send_moves n c Any a (length (h ++ b))).stands.none_read)
  request_reader e (place at b) = inl (place_moves n c Any a at (length b)).stands.none_read
  request_reader e (read out) = reader (read out) out refl _
  request_reader e shutdown = inl (shutdown_moves n c Any a).stands.none_read
  request_reader e close = inl (close_moves n c Any a).stands.none_read
  request_reader e abort = inl (abort_moves n c Any a).stands.none_read

  pub hear_reads_none : (e : List ℕ) (m : Message) → read_in (hear_turn n a c e m).answer.says ≡ 0
  unfolding hear_turn turn_of
  hear_reads_none e m = (hear_moves n c Any a m tt).stands.none_read

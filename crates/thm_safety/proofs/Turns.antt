-- One turn of a slot whose record is coherent and whose element is intact: what it leaves, and what it does not say. A further call on a
-- slot is one clause more of `request`. Assumes nothing.
use mathlib.Core.Path.{◌≡◌, refl, sym, ap, ◌∙◌}
use mathlib.Core.Logic.{◌⊎◌, inl, inr}
use mathlib.Core.Bool.{Bool, true, false, cond}
use mathlib.Core.List.{List, [], ◌++◌}
use Prim.Native.Nat.{ℕ}
use native.Mathlib.Omega.{arith}
use lib.ListN.{length}
use Rattle.cdc.specs.declared.Message.{Message}
use Rattle.element.specs.Element.{splice, intact_b}
use Rattle.element.proofs.Others.{intact_kept}
use Rattle.conn_record.specs.declared.Record.{Record}
use Rattle.conn_answer.specs.declared.Reply.{Reply}
use Rattle.conn_answer.specs.declared.Reply.TheVariants.{Refused, Accepted, Sent, Read, Torn, Reset, Heard, Sampled}
use Rattle.conn_answer.specs.declared.Outcome.{Outcome}
use Rattle.conn_record.specs.Connection.{coherent_b, zero_record}
use Rattle.conn_send.specs.Transmit.{send_of, urgent_send_of}
use Rattle.conn_send.proofs.Laws.{send_coherent, urgent_coherent}
use Rattle.conn_receive.specs.Receive.{place_of, read_of}
use Rattle.conn_receive.proofs.Laws.{Placeable, place_coherent, place_accepted, read_coherent}
use Rattle.conn_hear.specs.Hear.{hear_of}
use Rattle.conn_hear.proofs.Laws.{hear_coherent}
use Rattle.conn_finish.specs.Finish.{shutdown_of, close_of, abort_of}
use Rattle.conn_finish.proofs.Laws.{shutdown_coherent, close_coherent, abort_coherent}
use Rattle.conn_gather.specs.Pieces.{pieces_of}
use Rattle.group_rules.specs.Rules.{Request, send, gather, urgent, place, read, shutdown, close, abort, refusal, torn, says_of, in_pieces, Turn, turn_of, request_turn, hear_turn, placed_in}
use Rattle.thm_safety.specs.Statement.{accepted_b, placed_by}
use Rattle.thm_refusals.proofs.Answers.{Answers, fair_3, fair_torn, send_answers, urgent_answers, place_answers, read_answers, hear_answers, shutdown_answers, close_answers, abort_answers}
use Rattle.thm_safety.proofs.Lists.{splice_none}
use Rattle.thm_refusals.proofs.Gathered.{refused_in, torn_in}

-- the turn of an element of n bytes; `now` is what it must hold after
pub record Kept (n : ℕ) (now : List ℕ) (t : Turn) : Type 0 where
  pub kept_record : (t.after ≡ zero_record) ⊎ (coherent_b n t.after ≡ true)
  pub kept_eye : intact_b t.element ≡ true
  pub kept_held : t.element ≡ now
  pub not_3 : t.answer.says ≡ refusal 3 → ⊥
  pub not_torn : t.answer.says ≡ torn → ⊥

pub same : (b : Bool) (e : List ℕ) → cond b e e ≡ e
same true e = refl
same false e = refl

-- a turn that stores nothing
still : (n : ℕ) (e : List ℕ) (o : Outcome) (out : List ℕ) → intact_b e ≡ true → Answers o
    → (o.after ≡ zero_record) ⊎ (coherent_b n o.after ≡ true)
    → Kept n (cond (accepted_b (turn_of o e out).answer.says) e e) (turn_of o e out)
unfolding turn_of
still n e o out eye a h =
    record {
      kept_record = h;
      kept_eye = eye;
      kept_held = sym (same (accepted_b (says_of o.reply)) e);
      not_3 = fair_3 o.reply a.stands;
      not_torn = fair_torn o.reply a.stands;
    }

module _ (n : ℕ) (a : Bool) (c : Record) (e : List ℕ) (long : length e ≡ n) (ok : coherent_b n c ≡ true) (eye : intact_b e ≡ true) where
  -- the bytes of a place stand where they may, or are none
  placed_held : (r : Reply) (at : ℕ) (b : List ℕ) → placed_in r e at b ≡ cond (accepted_b (says_of r)) (splice e at b) e
  placed_held (Refused k) at b = refl
  placed_held Accepted at b = refl
  placed_held (Sent k p) at b = refl
  placed_held (Read k) at b = refl
  placed_held Torn at b = refl
  placed_held (Heard moved state) at b = refl
  placed_held Reset at b = refl
  placed_held (Sampled q) at b = refl

  placed_eye : (r : Reply) (at : ℕ) (b : List ℕ) → (r ≡ Accepted → Placeable n c.inbound at (length b))
      → intact_b (placed_in r e at b) ≡ true
  placed_eye (Refused k) at b h = eye
  placed_eye Accepted at b h = go (h refl)
    where
      go : Placeable n c.inbound at (length b) → intact_b (splice e at b) ≡ true
      go (inl z) = ap intact_b (splice_none e b at z) ∙ eye
      go (inr l) = intact_kept e b at l.0 (omega (arith, l.1)) ∙ eye
  placed_eye (Sent k p) at b h = eye
  placed_eye (Read k) at b h = eye
  placed_eye Torn at b h = eye
  placed_eye (Heard moved state) at b h = eye
  placed_eye Reset at b h = eye
  placed_eye (Sampled q) at b h = eye

  pub request : (q : Request) → Kept n (cond (accepted_b (request_turn n a c e q).answer.says) (placed_by q e) e) (request_turn n a c e q)
  unfolding request_turn turn_of
  request (send b) = still n e (send_of n a c (length b)) [] eye (send_answers n a c ok (length b)) (inr (send_coherent n a c (length b) ok))
  request (urgent b) =
      still n e (urgent_send_of n a c (length b)) [] eye (urgent_answers n a c ok (length b)) (inr (urgent_coherent n a c (length b) ok))
  request (gather h b) =
      let o = send_of n a c (length (h ++ b)) in
      let f = pieces_of c h b in
      let w = (send_answers n a c ok (length (h ++ b))).stands in
      record {
        kept_record = inr (send_coherent n a c (length (h ++ b)) ok);
        kept_eye = eye;
        kept_held = sym (same (accepted_b (in_pieces f (says_of o.reply))) e);
        not_3 = λ r. fair_3 o.reply w (refused_in f (says_of o.reply) 3 r);
        not_torn = λ r. fair_torn o.reply w (torn_in f (says_of o.reply) r);
      }
  request (place at b) =
      let o = place_of n a c at (length b) in
      let f = (place_answers n a c ok at (length b)).stands in
      record {
        kept_record = inr (place_coherent n a c at (length b) ok);
        kept_eye = placed_eye o.reply at b (place_accepted n a c at (length b));
        kept_held = placed_held o.reply at b;
        not_3 = fair_3 o.reply f;
        not_torn = fair_torn o.reply f;
      }
  request (read out) =
      rw eye (still n e (read_of n a c true (length out)) _ eye (read_answers n a c ok (length out)) (inr (read_coherent n a c true (length out) ok)))
  request shutdown = still n e (shutdown_of n a c) [] eye (shutdown_answers n a c ok) (inr (shutdown_coherent n a c ok))
  request close = still n e (close_of n a c) [] eye (close_answers n a c ok) (close_coherent n a c ok)
  request abort = still n e (abort_of n a c) [] eye (abort_answers n a c ok) (inr (abort_coherent n a c ok))

  pub heard : (m : Message) → Kept n (cond (accepted_b (hear_turn n a c e m).answer.says) e e) (hear_turn n a c e m)
  unfolding hear_turn
  heard m = still n e (hear_of n a c m) [] eye (hear_answers n a c ok m) (hear_coherent n a c m ok)

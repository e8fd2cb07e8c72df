-- A send of a head and a body, from what its parts gave. Assumes nothing.
use Prim.Native.Nat.{ℕ, ◌+◌}
use mathlib.Core.Path.{◌≡◌, sym, ap, ◌∙◌}
use mathlib.Core.Bool.{Bool}
use mathlib.Core.List.{List, [], ◌++◌}
use lib.ListN.{length, length-append}
use Rattle.conn_record.specs.declared.Record.{Record}
use Rattle.conn_answer.specs.declared.Outcome.{Outcome}
use Rattle.conn_send.specs.Transmit.{send_of}
use Rattle.conn_gather.specs.Pieces.{pieces_of}
use Rattle.group_table.specs.declared.Links.{Links}
use Rattle.group_table.specs.declared.Turned.{Turned}
use Rattle.group_table.specs.Table.{record_at, with_record}
use Rattle.group_rules.specs.Rules.{on, send, gather, Did, group_of, answer, answer_in_pieces, turn_of, request_turn}
use Rattle.group_rules.specs.Promises.{shown_by, on_record, Promise}
use Rattle.group_rules.proofs.Settled.{on_promised}
use Rattle.group_rules.proofs.Joined.{joined_left, joined_says}
use Rattle.group_gather.specs.Gathering.{gather_answer, DidGather}

-- the turn of a send of the joined bytes, whose length the code adds up
pub joined_turn : (n : ℕ) (active : Bool) (c : Record) (e h b : List ℕ) (o : Outcome) → o ≡ send_of n active c (length h + length b)
    → request_turn n active c e (send (h ++ b)) ≡ turn_of o e []
unfolding request_turn
joined_turn n active c e h b o p =
    ap (λ (w : Outcome). turn_of w e []) (ap (send_of n active c) (length-append h b) ∙ sym p)

-- what a send of the joined bytes did, a gather did
pub did_joined : (s n : ℕ) (m : List ℕ) (t : List Record) (ls : Links) (k : ℕ) (c : Record) (h b : List ℕ) (a : Turned) → c ≡ record_at t k
    → Promise s n m m t ls (on k (send (h ++ b))) k a []
    → Did (group_of s n t ls m) (on k (gather h b)) (gather_answer c h b a.answer)
    (group_of s n (with_record t k a.after) a.answer.links m)
did_joined s n m t ls k c h b a hc p =
    let g = group_of s n t ls m in
    record {
      answered =
          ap (answer_in_pieces (pieces_of c h b)) p.answered
          ∙ ap (λ (r : Record). answer_in_pieces (pieces_of r h b) (answer g (on k (send (h ++ b))))) hc
          ∙ sym (joined_says g k h b);
      left = p.left ∙ sym (joined_left g k h b);
    }

-- THE LENT FORM: what the record that was found, its step and the store give together
pub gather_returns : (s n : ℕ) (m : List ℕ) (t : List Record) (ls : Links) (slot : ℕ) (h b : List ℕ) → (rec : Record)
    → rec ≡ record_at t slot → (d : Turned) → shown_by d [] m ≡ on_record s n m (length t) ls slot rec (send (h ++ b))
    → (z : List Record) → z ≡ with_record t slot d.after
    → DidGather (group_of s n t ls m) slot h b (record { answer = d.answer; found = rec }) (group_of s n z d.answer.links m)
gather_returns s n m t ls slot h b rec er d e z ez =
    let q = on_promised s n t ls m slot (send (h ++ b)) rec er d [] m e in
    let p = did_joined s n m t ls slot rec h b d er q in
    let left = ap (λ (u : List Record). group_of s n u d.answer.links m) ez in
    record {
      as_sent = record { answered = q.answered; left = left ∙ q.left };
      as_found = er;
      did = record { answered = p.answered; left = left ∙ p.left };
    }

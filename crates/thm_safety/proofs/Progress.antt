-- The one_byte sentence of specs/Statement, its twin for read, and where placings lie. Assumes nothing.
use mathlib.Core.Path.{◌≡◌, refl, sym, ap, ◌∙◌, subst}
use mathlib.Core.Bool.{Bool, true, false}
use mathlib.Core.List.{List}
use Prim.Native.Nat.{ℕ, min}
use native.Mathlib.Nat.{zero-add}
use native.Mathlib.Omega.{arith}
use lib.ListN.{length}
use Rattle.flow.specs.Flow.{taken_of}
use Rattle.element.specs.Element.{intact_b, unread}
use Rattle.conn_answer.specs.declared.Placing.{Placing}
use Rattle.conn_answer.specs.declared.Placings.{Placings}
use Rattle.conn_answer.specs.declared.Placings.TheVariants.{Nowhere, One, Two}
use Rattle.conn_record.specs.declared.Record.{Record}
use Rattle.conn_answer.specs.declared.Reply.{Reply}
use Rattle.conn_answer.specs.declared.Reply.TheVariants.{Refused, Accepted, Sent, Read, Torn, Reset, Heard, Sampled}
use Rattle.conn_record.specs.Connection.{coherent_b}
use Rattle.conn_record.proofs.Laws.{refusal_0}
use Rattle.conn_answer.proofs.Laws.{outcome_reply}
use Rattle.conn_send.specs.Transmit.{placings_total, all_within}
use Rattle.conn_send.proofs.Laws.{writes_a_byte, send_takes, send_within, urgent_within}
use Rattle.conn_receive.specs.Receive.{read_forbids, unread_of, take_of, read_of}
use Rattle.group_rules.specs.Rules.{Group, Request, send, read, on, sent, says_of, placing_list, turn_of, request_turn, read_into, Answer, Done, does, answer, refuses, on_does, out_of, sizes_ok, record_of_all, element_in, link_of}
use Rattle.thm_safety.specs.Statement.{total_of, AllWithin, OneByte, plainly, urgently, PlacingsWithin, OneRead}
use Rattle.thm_refusals.proofs.Answers.{clash}
use Rattle.thm_safety.proofs.OnSlot.{on_was_open, on_answer}

-- the record's law, of the list that the answer names
total_is : (p : Placings) → total_of (placing_list p) ≡ placings_total p
total_is Nowhere = refl
total_is (One p) = omega arith
total_is (Two p q) = omega arith

all_within_lem : (c : Record) (p : Placings) → all_within c p → AllWithin c 0 (placing_list p)
all_within_lem c Nowhere h = tt
all_within_lem c (One p) h = (h, tt)
all_within_lem c (Two p q) h = (h.0, (rw (zero-add p.len) h.1, tt))

pub one_byte : OneByte
unfolding request_turn turn_of
one_byte h k b sizes o ok may free some room up =
    let c = record_of_all h k in
    let w = writes_a_byte h.N (link_of h k) c (length b) ok up may free room some in
    let a = on_answer h k (send b) sizes o in
    record {
      n = w.0;
      placings = placing_list w.1;
      says = ap (λ (x : Answer). x.says) a ∙ ap says_of w.3;
      some = w.2;
      most = (send_takes h.N (link_of h k) c (length b) w.0 w.1 w.3).1;
      total = total_is w.1 ∙ w.5;
      within = all_within_lem c w.1 w.6;
      told = ap (λ (x : Answer). x.made) a ∙ w.4;
    }

-- a reply that names n and placings
sent_is : (r : Reply) (n : ℕ) (l : List Placing) → says_of r ≡ sent n l → (p : Placings) × (r ≡ Sent n p) × (placing_list p ≡ l)
sent_is (Refused k) n l e = clash (cc)
sent_is Accepted n l e = clash (cc)
sent_is (Sent m p) n l e = let m' : m ≡ n = cc in (p, ap (λ (x : ℕ). Sent x p) m', cc)
sent_is (Read m) n l e = clash (cc)
sent_is Torn n l e = clash (cc)
sent_is (Heard moved state) n l e = clash (cc)
sent_is Reset n l e = clash (cc)
sent_is (Sampled health) n l e = clash (cc)

-- a request that says so on an open slot
module _ (g : Group) (k n : ℕ) (q : Request) (l : List Placing) (e : (answer g (on k q)).says ≡ sent n l) where
  within : (r : Reply) → (request_turn g.N (link_of g k) (record_of_all g k) (element_in g k) q).answer.says ≡ says_of r
      → ((p : Placings) → r ≡ Sent n p → all_within (record_of_all g k) p) → AllWithin (record_of_all g k) 0 l
  unfolding on_does refuses
  within r says h = sized (sizes_ok g) refl
    where
      c : Record
      c = record_of_all g k

      by : sizes_ok g ≡ true → AllWithin c 0 l
      by ok =
          let o = on_was_open g k q ok (λ j x. clash (cc)) in
          let s = sent_is r n l (sym (ap (λ (x : Answer). x.says) (on_answer g k q ok o) ∙ says) ∙ e) in
          subst (AllWithin c 0) s.2 (all_within_lem c s.0 (h s.0 s.1))

      unsized : sizes_ok g ≡ false → does g (on k q) ≡ refuses g 1 (out_of q)
      unsized f = rw f

      sized : (t : Bool) → sizes_ok g ≡ t → AllWithin c 0 l
      sized true f = by f
      sized false f = let x = ap (λ (y : Done). y.answer.says) (unsized f) in clash (cc)

pub placings_within : PlacingsWithin
unfolding request_turn turn_of
placings_within g k n q l (plainly b) e =
    within g k n q l e _ refl (λ p s. send_within g.N (link_of g k) (record_of_all g k) (length b) n p s)
placings_within g k n q l (urgently b) e =
    within g k n q l e _ refl (λ p s. urgent_within g.N (link_of g k) (record_of_all g k) (length b) n p s)

-- an intact element is read
reads_smaller : (n : ℕ) (active : Bool) (c : Record) (room : ℕ) → coherent_b n c ≡ true → active ≡ true → read_forbids c.marks ≡ false
    → (read_of n active c true room).reply ≡ Read (min (unread_of n c.inbound) room)
unfolding read_of take_of taken_of
reads_smaller n active c room ok up may = rw (refusal_0 n active c (read_forbids c.marks) ok up may) (outcome_reply _ _ _)

pub one_read : OneRead
unfolding request_turn turn_of unread
one_read h k out sizes o ok may whole up =
    let c = record_of_all h k in
    let e = element_in h k in
    let a = on_answer h k (read out) sizes o in
    let r : (read_of h.N (link_of h k) c (intact_b e) (length out)).reply ≡ Read (min (unread_of h.N c.inbound) (length out)) =
    rw whole (reads_smaller h.N (link_of h k) c (length out) ok up may) in
    record {
      n = min (unread_of h.N c.inbound) (length out);
      smaller = refl;
      says = ap (λ (x : Answer). x.says) a ∙ ap says_of r;
      bytes = ap (λ (x : Answer). x.out) a ∙ ap (λ (s : Reply). read_into s c.inbound.consumer e out) r;
    }

-- `RefusedKeeps` of specs/Refusals, by one walk of each call's tests. Assumes nothing.
use mathlib.Core.Path.{◌≡◌, refl, sym, ap, ◌∙◌}
use mathlib.Core.Bool.{Bool, true, false, false≢true, cond}
use mathlib.Core.List.{List, [], ◌∷◌, ◌++◌}
use Prim.Native.Nat.{ℕ, zero, suc}
use lib.Dec.{eqb}
use lib.ListN.{length, take, drop, take-append-drop}
use lib.Seq.{drop-drop, set-get_or}
use Rattle.cdc.specs.declared.Message.{Message}
use Rattle.cdc.specs.declared.Decoded.{Decoded}
use Rattle.cdc.specs.declared.Decoded.TheVariants.{Good, Malformed}
use Rattle.element.specs.Element.{part, base_of, element_of, splice}
use Rattle.conn_record.specs.declared.Record.{Record}
use Rattle.conn_answer.specs.declared.Reply.{Reply}
use Rattle.conn_answer.specs.declared.Reply.TheVariants.{Refused}
use Rattle.conn_answer.specs.declared.Outcome.{Outcome}
use Rattle.conn_record.specs.Connection.{zero_record}
use Rattle.conn_answer.specs.Outcome.{refused_of, outcome_of, urgent_outcome, closed_if}
use Rattle.conn_answer.proofs.Laws.{outcome_reply, urgent_reply, closed_reply}
use Rattle.conn_send.specs.Transmit.{send_of, sent_of, urgent_of, urgent_send_of}
use Rattle.conn_receive.specs.Receive.{place_of, read_of, take_of, torn_of}
use Rattle.conn_hear.specs.Hear.{ruled_of, hear_of, aborted_of, validated_of, followed_of, accepted_of}
use Rattle.conn_finish.specs.Finish.{reset_of, closing_of, shutdown_of, close_of, abort_of}
use Rattle.group_table.specs.Table.{record_at, with_record}
use Rattle.conn_gather.specs.Pieces.{pieces_of}
use Rattle.group_rules.specs.Says.{said_in}
use Rattle.group_rules.specs.Rules.{Group, Request, send, gather, urgent, place, read, shutdown, close, abort, open_slot, free_slot, link_change, link_message, link_send, sample, Call, on, hear, manage, Says, refusal, says_of, answer_in_pieces, turn_of, placed_in, read_into, request_turn, hear_turn, Done, refuses, record_of_all, element_in, link_of, put_turn, out_of, on_does, holder_of, hear_at, hear_message, hear_does, open_does, free_does, fails_over, link_does, link_message_does, link_send_does, sample_does, does}
use Rattle.thm_refusals.specs.Refusals.{lent_out, RefusedKeeps}
use Rattle.thm_refusals.proofs.Gathered.{refused_in}

-- PUTTING BACK WHAT WAS THERE changes nothing, whatever the table and the memory
drop_taken : (n : ℕ) (l : List ℕ) → drop (length (take n l)) l ≡ drop n l
drop_taken zero l = refl
drop_taken (suc n) [] = refl
drop_taken (suc n) (x ∷ l) = drop_taken n l

pub memory_back : (m : List ℕ) (n k : ℕ) → splice m (base_of n k) (element_of n k m) ≡ m
unfolding splice element_of part
memory_back m n k =
    let a = base_of n k in
    rw (← drop-drop (length (take n (drop a m))) a m, drop_taken n (drop a m), take-append-drop n (drop a m), take-append-drop a m)

pub table_back : (t : List Record) (k : ℕ) → with_record t k (record_at t k) ≡ t
unfolding with_record record_at
table_back t zero = refl
table_back t (suc i) = set-get_or t i zero_record

turn_back : (g : Group) (j k : ℕ) (out : List ℕ) → put_turn g j (turn_of (refused_of k (record_of_all g j)) (element_in g j) out) ≡ refuses g k out
unfolding put_turn turn_of refused_of refuses
turn_back g j k out = rw (table_back g.table j, memory_back g.memory g.N j)

abbrev refusal_b : Says → Bool
refusal_b says = (said_in says).refuses

-- what x does, by F: where it refuses, it does no more than that
module _ {A : Type 0} (g : Group) (out : List ℕ) (F : A → Done) where
  record Refuses (x : A) : Type 0 where
    only : (k : ℕ) → (F x).answer.says ≡ refusal k → F x ≡ refuses g k out

  refused : (x : A) (k : ℕ) → F x ≡ refuses g k out → Refuses x
  unfolding refuses
  refused x k e = record { only = λ j q. e ∙ ap (λ i. refuses g i out) (is j q) }
    where
      is : (j : ℕ) → (F x).answer.says ≡ refusal j → k ≡ j
      is j q = let p : refusal k ≡ refusal j = sym (ap (λ (d : Done). d.answer.says) e) ∙ q in cc

  never : (x : A) → refusal_b (F x).answer.says ≡ false → Refuses x
  never x h = record { only = λ k e. absurd (false≢true (sym h ∙ ap refusal_b e)) }

  by_test : (t : Bool) (x y : A) → Refuses x → Refuses y → Refuses (cond t x y)
  by_test true x y h k = h
  by_test false x y h k = k

-- A SLOT'S CALLS. What an outcome o does: o's reply says what the element (f) and out (h) then hold
module _ (g : Group) (j : ℕ) (out : List ℕ) (f h : Reply → List ℕ)
    (kept : (k : ℕ) → (f (Refused k) ≡ element_in g j) × (h (Refused k) ≡ out)) where
  abbrev turned : Outcome → Done
  turned o = put_turn g j (turn_of o (f o.reply) (h o.reply))

  refuse : (k : ℕ) → Refuses g out turned (refused_of k (record_of_all g j))
  unfolding refused_of
  refuse k = refused g out turned _ k (rw ((kept k).0, (kept k).1) (turn_back g j k out))

  replies : (o : Outcome) (r : Reply) → o.reply ≡ r → refusal_b (says_of r) ≡ false → Refuses g out turned o
  unfolding put_turn turn_of
  replies o r p e = never g out turned o (ap (λ s. refusal_b (says_of s)) p ∙ e)

  outcome : (r : Reply) (t : Bool) (d : Record) → refusal_b (says_of r) ≡ false → Refuses g out turned (outcome_of r t d)
  outcome r t d e = replies _ r (outcome_reply r t d) e

  short : (r : Reply) (m : Message) (d : Record) → refusal_b (says_of r) ≡ false → Refuses g out turned (urgent_outcome r m d)
  short r m d e = replies _ r (urgent_reply r m d) e

  shut : (s : Bool) (r : Reply) (t : Bool) (d : Record) → refusal_b (says_of r) ≡ false
      → Refuses g out turned (closed_if s (outcome_of r t d))
  shut s r t d e = replies _ r (closed_reply s (outcome_of r t d) ∙ outcome_reply r t d) e

  settled : (o : Outcome) → Refuses g out turned o → Refuses g out (λ d. d) (turned o)
  settled o p = record { only = p.only }

ruleset walk = (by_test, refuse, outcome, short, shut)

module _ (g : Group) (j : ℕ) where
  abbrev e : List ℕ
  e = element_in g j

  -- a call that leaves the element and has no out
  quiet : (o : Outcome) → Refuses g [] (turned g j [] (λ r. e) (λ r. []) (λ k. (refl, refl))) o
      → Refuses g [] (λ d. d) (put_turn g j (turn_of o e []))
  quiet o p = settled g j [] (λ r. e) (λ r. []) (λ k. (refl, refl)) o p

  -- a gather refuses where the send of the joined bytes does, and as that does
  joined : (h b : List ℕ) → Refuses g [] (λ d. d) (put_turn g j (request_turn g.N (link_of g j) (record_of_all g j) e (send (h ++ b))))
      → Refuses g [] (λ d. d) (put_turn g j (request_turn g.N (link_of g j) (record_of_all g j) e (gather h b)))
  unfolding request_turn put_turn turn_of refuses
  joined h b s =
      let f = pieces_of (record_of_all g j) h b in
      record {
        only =
            λ k r.
            ap (λ (d : Done). record { answer = answer_in_pieces f d.answer; group = d.group }) (s.only k (refused_in f _ k r));
      }

  request : (q : Request) → Refuses g (out_of q) (λ d. d) (put_turn g j (request_turn g.N (link_of g j) (record_of_all g j) e q))
  unfolding request_turn send_of sent_of urgent_send_of urgent_of place_of read_of take_of torn_of shutdown_of close_of reset_of closing_of abort_of
  request (send b) = quiet _ (search walk depth 9)
  request (urgent b) = quiet _ (search walk depth 9)
  request (gather h b) = joined h b (quiet _ (search walk depth 9))
  request (place at b) = settled g j [] (λ r. placed_in r e at b) (λ r. []) (λ k. (refl, refl)) _ (search walk depth 9)
  request (read out) =
      settled g j out (λ r. e) (λ r. read_into r (record_of_all g j).inbound.consumer e out) (λ k. (refl, refl)) _ (search walk depth 9)
  request shutdown = quiet _ (search walk depth 9)
  request close = quiet _ (search walk depth 9)
  request abort = quiet _ (search walk depth 9)

  hears : (m : Message) → Refuses g [] (λ d. d) (put_turn g j (hear_turn g.N (link_of g j) (record_of_all g j) e m))
  unfolding hear_turn hear_of aborted_of followed_of validated_of ruled_of accepted_of
  hears m = quiet _ (search walk depth 9)

-- EVERY CALL
module _ (g : Group) where
  gives : (out : List ℕ) (k : ℕ) → Refuses g out (λ d. d) (refuses g k out)
  gives out k = refused g out (λ d. d) _ k refl

  heard_by_lem : (d : Decoded) → Refuses g [] (λ d. d) (hear_message g d)
  unfolding hear_at
  heard_by_lem (Good m) = let k = holder_of g m.token in by_test g [] (λ d. d) (eqb k 0) _ _ (search gives) (hears g k m)
  heard_by_lem Malformed = search gives

  call : (c : Call) → Refuses g (lent_out c) (λ d. d) (does g c)
  unfolding on_does hear_does open_does free_does fails_over link_does link_message_does link_send_does sample_does put_turn
  call (on k q) = search (by_test, gives, request)
  call (hear b) = search (by_test, gives, heard_by_lem)
  call (manage (open_slot k o)) = search (by_test, gives, never)
  call (manage (free_slot k)) = search (by_test, gives, never)
  call (manage (link_change l up out)) = search (by_test, gives, never)
  call (manage (link_message l b out)) = search (by_test, gives, never)
  call (manage (link_send l k vs out)) = search (by_test, gives, never)
  call (manage (sample l ms)) = search (by_test, gives, never)

pub refused_keeps : RefusedKeeps
unfolding refuses
refused_keeps g c k e =
    let p = (call g c).only k e in
    (ap (λ (d : Done). d.group) p, ap (λ (d : Done). d.answer) p)

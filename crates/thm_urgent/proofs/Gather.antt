-- A send of a head and a body is a send of the joined bytes (specs/Gather). Assumes nothing.
use mathlib.Core.Path.{◌≡◌, refl, sym, ap, ◌∙◌}
use mathlib.Core.Bool.{Bool, true, false}
use mathlib.Core.List.{List, [], ◌∷◌, ◌++◌}
use Prim.Native.Nat.{ℕ, zero, suc, ◌+◌, ◌-◌, min}
use native.Mathlib.Omega.{arith}
use lib.ListN.{length, take}
use Rattle.cursor.specs.declared.Cursor.{Cursor}
use Rattle.cursor.proofs.Laws.{step_none}
use Rattle.flow.proofs.Laws.{room_most}
use Rattle.conn_answer.specs.declared.Placings.{Placings}
use Rattle.conn_record.specs.declared.Record.{Record}
use Rattle.conn_answer.specs.declared.Reply.{Reply}
use Rattle.conn_answer.specs.declared.Reply.TheVariants.{Refused, Accepted, Sent, Read, Torn, Reset, Heard, Sampled}
use Rattle.conn_record.proofs.Laws.{coherent_facts}
use Rattle.conn_send.specs.Transmit.{send_of, rtoken_of, element_start, placing_of}
use Rattle.conn_send.proofs.Laws.{send_takes, send_was_coherent, send_places, send_steps}
use Rattle.conn_gather.specs.Pieces.{Piece, rest_of, offset_of, bytes_of, stretch_of, piece_of, unless_empty, pieces_from, pieces_of}
use Rattle.conn_gather.proofs.Theorem.{gather_pieces}
use Rattle.group_table.specs.Table.{record_at}
use Rattle.thm_order.proofs.Slots.{open_in, open_there, record_same}
use Rattle.group_rules.proofs.Joined.{joined_left, joined_says}
use Rattle.group_rules.specs.Rules.{Group, Request, send, gather, on, sent, gathered, says_of, placing_list, in_pieces, Answer, turn_of, request_turn, Done, does, next, refuses, put_turn, on_does, sizes_ok, record_of_all, element_in, link_of}
use Rattle.thm_safety.specs.Statement.{OpenAt, plainly}
use Rattle.thm_urgent.specs.Gather.{GatherIsSend, InPieces, GatheredInPieces, empty_at_q, GatherWaits}
use Rattle.thm_refusals.proofs.Answers.{clash}
use Rattle.thm_safety.proofs.OnSlot.{on_was_open, on_answer, on_open}
use Rattle.thm_urgent.proofs.Urgent.{sends_wait}

pub gather_is_send : GatherIsSend
gather_is_send g k h b = record { left = joined_left g k h b; answered = joined_says g k h b }

-- a request on an open slot leaves its record there
slot_left : (g : Group) (k : ℕ) (q : Request) → sizes_ok g ≡ true → OpenAt g k
    → record_of_all (next g (on k q)) k ≡ (request_turn g.N (link_of g k) (record_of_all g k) (element_in g k) q).after
unfolding put_turn record_at
slot_left g zero q ok o = let l = (open_in g.S g.table 0 o).low in absurd (omega arith)
slot_left g (suc i) q ok o =
    ap (λ (d : Done). record_of_all d.group (suc i)) (on_open g (suc i) q ok o)
    ∙ record_same g.table i _ (open_there g.table i (open_in g.S g.table (suc i) o).is_open)

gathered_is : (f : ℕ → List Piece) (r : Reply) (n : ℕ) (ps : List Piece) → in_pieces f (says_of r) ≡ gathered n ps
    → (p : Placings) × (r ≡ Sent n p) × (ps ≡ f n)
gathered_is f (Refused k) n ps e = clash (cc)
gathered_is f Accepted n ps e = clash (cc)
gathered_is f (Sent m p) n ps e =
    let m' : m ≡ n = cc in
    let l : f m ≡ ps = cc in
    (p, ap (λ (x : ℕ). Sent x p) m', sym l ∙ ap f m')
gathered_is f (Read m) n ps e = clash (cc)
gathered_is f Torn n ps e = clash (cc)
gathered_is f (Heard moved state) n ps e = clash (cc)
gathered_is f Reset n ps e = clash (cc)
gathered_is f (Sampled health) n ps e = clash (cc)

pub gathered_in_pieces : GatheredInPieces
unfolding request_turn turn_of on_does refuses
gathered_in_pieces g k h b n ps e = sized (sizes_ok g) refl
  where
    by : sizes_ok g ≡ true → InPieces g k h b n ps
    by ok =
        let c = record_of_all g k in
        let len = length (h ++ b) in
        let was = on_was_open g k (gather h b) ok (λ j r. clash (cc)) in
        let says = ap (λ (x : Answer). x.says) (on_answer g k (gather h b) ok was) in
        let s = gathered_is (pieces_of c h b) (send_of g.N (link_of g k) c len).reply n ps (sym says ∙ e) in
        let r = s.1 in
        let takes = send_takes g.N (link_of g k) c len n s.0 r in
        let facts = coherent_facts g.N c (send_was_coherent g.N (link_of g k) c len n s.0 r) in
        let most = room_most c.remote.size c.outbound.consumer c.outbound.producer in
        record {
          named = s.2;
          pieces = gather_pieces c h b n (record { is_in_range = facts.q_range; fits = omega (arith, takes.0); offered = takes.1 });
          new-q =
              sym (ap (λ (x : Record). x.outbound.producer) (slot_left g k (gather h b) ok was)
              ∙ send_steps g.N (link_of g k) c len n s.0 r);
          plain =
              ap (λ (x : Answer). x.says) (on_answer g k (send (h ++ b)) ok was)
              ∙ ap says_of r
              ∙ ap (λ (x : Placings). sent n (placing_list x)) (send_places g.N (link_of g k) c len n s.0 r);
        }

    unsized : sizes_ok g ≡ false → does g (on k (gather h b)) ≡ refuses g 1 []
    unsized f = rw f

    sized : (t : Bool) → sizes_ok g ≡ t → InPieces g k h b n ps
    sized true f = by f
    sized false f = let r = ap (λ (x : Done). x.answer.says) (unsized f) in clash (cc)

-- of no bytes there is the empty piece alone, at Q
module _ (rec : Record) (h b : List ℕ) where
  abbrev q : Cursor
  q = rec.outbound.producer

  no_bytes : bytes_of h b rec.remote.size q 0 0 ≡ []
  unfolding bytes_of
  no_bytes =
      let m : min (0 - 0) (rec.remote.size - offset_of rec.remote.size q 0) ≡ 0 = omega arith in
      ap (λ (x : ℕ). take x (rest_of h b 0)) m

  abbrev one : List ℕ → Piece
  one w =
      let p = placing_of rec (stretch_of rec 0 (length w)) in
      record { key = p.key; address = p.address; bytes = w }

  one_piece : pieces_of rec h b 0 ≡ one [] ∷ []
  unfolding pieces_from piece_of
  one_piece = ap (λ (w : List ℕ). one w ∷ unless_empty w (pieces_from 0 rec h b 0 (0 + length w))) no_bytes

  pub none_taken : pieces_of rec h b 0 ≡ empty_at_q rec ∷ []
  unfolding placing_of
  none_taken =
      one_piece
      ∙ ap (λ (c : Cursor). record { key = (rtoken_of rec).key; address = element_start rec + c.offset; bytes = [] } ∷ [])
      (step_none rec.remote.size q)

pub gather_waits : GatherWaits
gather_waits g k h b stands taken =
    let is = gather_is_send g k h b in
    let says = ap (λ (x : Answer). x.says) is.answered in
    let f = pieces_of (record_of_all g k) h b in
    let w = sends_wait g k (send (h ++ b)) (plainly (h ++ b)) stands (λ n e. taken n (says ∙ ap (in_pieces f) e)) in
    record {
      takes_none = says ∙ ap (in_pieces f) w.takes_none ∙ ap (gathered 0) (none_taken (record_of_all g k) h b);
      tells_none = ap (λ (x : Answer). x.made) is.answered ∙ w.tells_none;
      changes_none = is.left ∙ w.changes_none;
    }

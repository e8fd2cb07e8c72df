-- The pieces cut from the placings of a send of the joined bytes are the rules' pieces of the gather. Assumes nothing.
use mathlib.Core.Path.{◌≡◌, refl, sym, ap, ◌∙◌, subst}
use mathlib.Core.Bool.{Bool, true, false, cond}
use mathlib.Core.List.{List, [], ◌∷◌, ◌++◌}
use Prim.Native.Nat.{ℕ, zero, suc, ◌+◌, ◌-◌, ◌%◌, ◌^◌, ◌≤◌, ◌<◌, min}
use native.Mathlib.Omega.{arith}
use native.Mathlib.Decide.{dec_lt}
use borrow.Author.Tests.{lt-ltb, le-ltb}
use lib.Dec.{ltb, eqb}
use lib.ListN.{length, take, drop, get_or, length-take, length-drop}
use Rattle.cursor.specs.declared.Cursor.{Cursor}
use Rattle.cursor.specs.Cursor.{data_of, in_range, step_of}
use Rattle.cursor.proofs.Laws.{range_is, step_range, step_in, moved_short, moved_over}
use Rattle.flow.specs.declared.Stretch.{Stretch}
use Rattle.flow.specs.declared.Stretches.{Stretches}
use Rattle.flow.specs.Flow.{stretches_of}
use Rattle.flow.proofs.Laws.{stretches_by, room_most}
use Rattle.conn_record.specs.declared.Record.{Record}
use Rattle.conn_record.specs.Connection.{remote_ok}
use Rattle.conn_record.proofs.Laws.{coherent_facts}
use Rattle.conn_answer.specs.declared.Placing.{Placing}
use Rattle.conn_answer.specs.declared.Placings.{Placings}
use Rattle.conn_answer.specs.declared.Reply.{Reply}
use Rattle.conn_answer.specs.declared.Reply.TheVariants.{Refused, Accepted, Sent, Read, Torn, Reset, Heard, Sampled}
use Rattle.conn_send.specs.Transmit.{rtoken_of, element_start, no_placing, placing_of, placings_of, send_of}
use Rattle.conn_send.proofs.Laws.{element_fits, send_takes, send_was_coherent, send_places}
use Rattle.conn_gather.specs.Pieces.{Piece, rest_of, offset_of, allowed_of, bytes_of, stretch_of, piece_of, unless_empty, pieces_from, pieces_of}
use Rattle.conn_gather.proofs.Laws.{take_least}
use Rattle.group_table.specs.Table.{open_b}
use Rattle.group_rules.specs.Rules.{Group, Says, refusal, sent, gathered, says_of, placing_list, in_pieces, on, send, gather, Answer, Turn, turn_of, request_turn, Done, answer, refuses, put_turn, on_does, sizes_ok, record_of_all, element_in, link_of}
use Rattle.group_rules.proofs.Joined.{joined_says}
use Rattle.plan.specs.DirectMade.{named_in}
use Rattle.plan_send.specs.declared.SendAnswer.{SendAnswer}
use Rattle.c_send.specs.DirectSend as Direct
use Rattle.c_send.proofs.Laws.{nothing_lost}
use Rattle.plan_gather.specs.declared.Joined.{Joined}
use Rattle.plan_gather.specs.Cutting.{placing_with, cut_at, piece_in, bytes_in, shown_at, handed_out_of}
use Rattle.c_gather.specs.DirectGather.{last_of, joined_of, says_in}

-- A PART OF A PLACING, from byte k on: its bytes are those of byte k's own buffer from there on
part : (h b : List ℕ) (z : Bool) (k left : ℕ)
    → take (cond z (min left (length h - k)) left) (drop (cond z k (k - length h)) (cond (eqb (cond z 0 1) 0) h b))
    ≡ take left (cond z (drop k h) (drop (k - length h) b))
part h b true k left = ap (λ (x : ℕ). take (min left x) (drop k h)) (sym (length-drop k h)) ∙ take_least left (drop k h)
part h b false k left = refl

-- WHERE IT GOES, as `pieces` has it
module _ (size : ℕ) (q : Cursor) (r : in_range size q ≡ true) where
  off_short : (k : ℕ) → q.offset + k < size → offset_of size q k ≡ q.offset + k
  off_short k h =
      let o = range_is size q r in
      ap (λ (c : Cursor). c.offset) (step_in size q k r (omega arith) ∙ moved_short size q k h)

  off-over : (k : ℕ) → k + 4 ≤ size → size ≤ q.offset + k → offset_of size q k ≡ q.offset + k - size + 4
  off-over k h i = ap (λ (c : Cursor). c.offset) (step_in size q k r h ∙ moved_over size q k i)

  pub off_less : (k : ℕ) → offset_of size q k < size
  off_less k = (range_is size (step_of size q k) (step_range size q k r)).1

-- what is left of the second placing
rest_long : (w n k : ℕ) → w ≤ k → k < n → n - w - (k - w) ≡ n - k
rest_long w n k a b = omega arith

rest-fits : (N o n k : ℕ) → o < N → n + 4 ≤ N → N ≤ o + k → k < n → n - k ≤ N - (o + k - N + 4)
rest-fits N o n k a b c d = omega arith

over_long : (N o n k : ℕ) → o < N → n + 4 ≤ N → N ≤ o + k → k < n
    → n - (N - o) - (k - (N - o)) ≡ min (n - k) (N - (o + k - N + 4))
over_long N o n k a b c d = rest_long (N - o) n k (omega arith) d ∙ least (n - k) _ (rest-fits N o n k a b c d)
  where
    least : (x y : ℕ) → x ≤ y → x ≡ min x y
    least x y e = omega arith

-- p has what the rules' piece has from byte k on, where n bytes are taken
pub record Fits (rec : Record) (n k : ℕ) (p : Placing) : Type 0 where
  pub own_key : p.key ≡ (rtoken_of rec).key
  pub there : (p.address + (k - p.start)) % 2 ^ 64 ≡ element_start rec + offset_of rec.remote.size rec.outbound.producer k
  pub as_long : p.len - (k - p.start) ≡ allowed_of rec.remote.size rec.outbound.producer n k

module _ (rec : Record) (ok : remote_ok rec.remote ≡ true) (r : in_range rec.remote.size rec.outbound.producer ≡ true) (n : ℕ) where
  abbrev N' : ℕ
  N' = rec.remote.size

  abbrev q : Cursor
  q = rec.outbound.producer

  -- a part of the stretch s, whose byte k is at its own offset
  inside : (s : Stretch) (k : ℕ) → offset_of N' q k ≡ s.offset + (k - s.start)
      → s.len - (k - s.start) ≡ min (n - k) (N' - offset_of N' q k) → Fits rec n k (placing_of rec s)
  unfolding placing_of
  inside s k e l =
      let f = element_fits rec ok in
      let o = off_less N' q r k in
      record { own_key = refl; there = omega (arith, f, o, e); as_long = l }

  -- the empty one after all
  at-end : (k : ℕ) → k ≡ n → Fits rec n k (placing_of rec (stretch_of rec n 0))
  at-end k e =
      inside (stretch_of rec n 0) k (ap (offset_of N' q) e ∙ omega (arith, e)) (omega (arith, e))

  abbrev ans : Bool → Stretches → Joined
  ans made s =
      record {
        sent = Direct.send_answer (named_in (sent n (placing_list (placings_of rec s)))) made;
        last = placing_of rec (stretch_of rec n 0);
      }

  module _ (made : Bool) (fits : n + 4 ≤ N') where
    abbrev At : Stretches → Type 0
    At s = (k : ℕ) → k ≤ n → Fits rec n k (placing_with (ans made s) k)

    last_with : (x y z : Placing) (k m : ℕ) → x.len ≤ k → m ≤ k → z ≡ cond (ltb k x.len) x (cond (ltb k m) y z)
    last_with x y z k m h i = rw (le-ltb k x.len h, le-ltb k m i)

    first_with : (x y z : Placing) (k m : ℕ) → k < x.len → x ≡ cond (ltb k x.len) x (cond (ltb k m) y z)
    first_with x y z k m h = rw (lt-ltb k x.len h)

    second_with : (x y z : Placing) (k m : ℕ) → x.len ≤ k → k < m → y ≡ cond (ltb k x.len) x (cond (ltb k m) y z)
    second_with x y z k m h i = rw (le-ltb k x.len h, lt-ltb k m i)

    abbrev end : Placing
    end = placing_of rec (stretch_of rec n 0)

    place_len : (s : Stretch) → (placing_of rec s).len ≡ s.len
    unfolding placing_of
    place_len s = refl

    ended : (x y : Placing) (k : ℕ) → k ≤ n → x.len ≤ k → n ≤ k → Fits rec n k (cond (ltb k x.len) x (cond (ltb k n) y end))
    ended x y k i h j = subst (Fits rec n k) (last_with x y end k n h j) (at-end k (omega arith))

    pub placed : At (stretches_of N' q n)
    placed =
        let o = range_is N' q r in
        stretches_by N' q n At
        (λ e k i. ended no_placing no_placing k i (omega arith) (omega (arith, e)))
        (λ l w k i.
        let s : Stretch = record { offset = q.offset; start = 0; len = n } in
        let x = placing_of rec s in
        let xl = place_len s in
        elim (dec_lt k n) [
          | yes j ↦
              let e = off_short N' q r k (omega arith) in
              subst (Fits rec n k) (first_with x no_placing end k n (omega (arith, xl)))
              (inside s k (omega (arith, e)) (omega (arith, e)))
          | no j ↦ ended x no_placing k i (omega (arith, xl)) (omega arith)
        ])
        (λ w k i.
        let s : Stretch = record { offset = q.offset; start = 0; len = N' - q.offset } in
        let u : Stretch = record { offset = 4; start = N' - q.offset; len = n - (N' - q.offset) } in
        let x = placing_of rec s in
        let y = placing_of rec u in
        let xl = place_len s in
        elim (dec_lt k (N' - q.offset)) [
          | yes j ↦
              let e = off_short N' q r k (omega arith) in
              subst (Fits rec n k) (first_with x y end k n (omega (arith, xl)))
              (inside s k (omega (arith, e)) (omega (arith, e)))
          | no j ↦
              elim (dec_lt k n) [
                | yes m ↦
                    let e = off-over N' q r k (omega arith) (omega arith) in
                    subst (Fits rec n k) (second_with x y end k n (omega (arith, xl)) m)
                    (inside u k (omega (arith, e))
                    (over_long N' q.offset n k o.1 fits (omega arith) m ∙ ap (λ (x : ℕ). min (n - k) (N' - x)) (sym e)))
                | no m ↦ ended x y k i (omega (arith, xl)) (omega arith)
              ]
        ])

-- PIECE BY PIECE
module _ (rec : Record) (h b : List ℕ) (n : ℕ) (a : Joined) (takes : a.sent.taken ≡ n)
    (placed : (k : ℕ) → k ≤ n → Fits rec n k (placing_with a k))
  where
    abbrev made : ℕ → ℕ → List ℕ → Piece
    made key address bytes = record { key = key; address = address; bytes = bytes }

    shown_is : (k : ℕ) → k ≤ n → shown_at a h b k ≡ piece_of rec h b n k
    unfolding piece_in cut_at piece_of bytes_of placing_of
    shown_is k i =
        let e : min k a.sent.taken ≡ k = omega (arith, takes) in
        let p = placing_with a k in
        let f = placed k i in
        let at : Placing → ℕ → Piece = λ p j.
        made p.key ((p.address + (j - p.start)) % 2 ^ 64) (bytes_in h b (cut_at (length h) j p)) in
        ap (λ (j : ℕ). at (placing_with a j) j) e
        ∙ (λ i. made (f.own_key i) (f.there i) (part h b (ltb k (length h)) k (p.len - (k - p.start)) i))
        ∙ ap (λ (l : ℕ). made (rtoken_of rec).key (element_start rec + offset_of rec.remote.size rec.outbound.producer k)
        (take l (rest_of h b k))) f.as_long

    up : (k : ℕ) → k ≤ n → k + length (piece_of rec h b n k).bytes ≤ n
    unfolding piece_of bytes_of
    up k i =
        let m = allowed_of rec.remote.size rec.outbound.producer n k in
        omega (arith, length-take m (rest_of h b k))

    pub handed_is : (f k : ℕ) → k ≤ n → handed_out_of f a h b k ≡ pieces_from f rec h b n k
    unfolding handed_out_of pieces_from
    handed_is zero k i = refl
    handed_is (suc f) k i =
        let p = piece_of rec h b n k in
        ap (λ (x : Piece). x ∷ unless_empty x.bytes (handed_out_of f a h b (k + length x.bytes))) (shown_is k i)
        ∙ ap (λ (ps : List Piece). p ∷ unless_empty p.bytes ps) (handed_is f (k + length p.bytes) (up k i))

-- WHAT A SEND THAT IS NOT REFUSED TOOK
clash : {A : Type 0} → ◌≡◌ {A = ℕ} 0 1 → A
clash e = absurd (omega (arith, e))

sent_is : (r : Reply) (n : ℕ) (ps : List Placing) → says_of r ≡ sent n ps → (p : Placings) × (r ≡ Sent n p) × (ps ≡ placing_list p)
sent_is (Refused k) n ps e = clash (cc)
sent_is Accepted n ps e = clash (cc)
sent_is (Sent m p) n ps e =
    let m' : m ≡ n = cc in
    let l : placing_list p ≡ ps = cc in
    (p, ap (λ (x : ℕ). Sent x p) m', sym l)
sent_is (Read m) n ps e = clash (cc)
sent_is Torn n ps e = clash (cc)
sent_is (Heard moved state) n ps e = clash (cc)
sent_is Reset n ps e = clash (cc)
sent_is (Sampled health) n ps e = clash (cc)

pub record Took (rec : Record) (n : ℕ) (ps : List Placing) : Type 0 where
  pub remote_ok_lem : remote_ok rec.remote ≡ true
  pub q_range : in_range rec.remote.size rec.outbound.producer ≡ true
  pub fits : n ≤ data_of rec.remote.size
  pub places : ps ≡ placing_list (placings_of rec (stretches_of rec.remote.size rec.outbound.producer n))

module _ (g : Group) (k : ℕ) (bytes : List ℕ) where
  abbrev tested : Bool → Bool → Turn → Done
  tested t u w = cond t (cond u (put_turn g k w) (refuses g 2 [])) (refuses g 1 [])

  abbrev plain : Turn
  plain = request_turn g.N (link_of g k) (record_of_all g k) (element_in g k) (send bytes)

  pub took : (n : ℕ) (ps : List Placing) → (answer g (on k (send bytes))).says ≡ sent n ps → Took (record_of_all g k) n ps
  unfolding on_does request_turn put_turn turn_of refuses
  took n ps = go (sizes_ok g) (open_b g.S g.table k)
    where
      go : (t u : Bool) → (tested t u plain).answer.says ≡ sent n ps → Took (record_of_all g k) n ps
      go true true e =
          let c = record_of_all g k in
          let len = length bytes in
          let s = sent_is (send_of g.N (link_of g k) c len).reply n ps e in
          let takes = send_takes g.N (link_of g k) c len n s.0 s.1 in
          let facts = coherent_facts g.N c (send_was_coherent g.N (link_of g k) c len n s.0 s.1) in
          let most = room_most c.remote.size c.outbound.consumer c.outbound.producer in
          record {
            remote_ok_lem = facts.remote_ok_lem;
            q_range = facts.q_range;
            fits = omega (arith, takes.0);
            places = s.2 ∙ ap placing_list (send_places g.N (link_of g k) c len n s.0 s.1);
          }
      go true false e = clash (cc)
      go false u e = clash (cc)

  -- as the small answer says
  abbrev a : Answer
  a = answer g (on k (send bytes))

  abbrev x : SendAnswer
  x = Direct.send_answer_of a

  pub says_sent : eqb x.refusal 0 ≡ true → a.says ≡ sent x.taken (take x.placings (x.first ∷ x.second ∷ []))
  unfolding Direct.says_in
  says_sent e =
      sym (nothing_lost g k bytes)
      ∙ ap (λ (z : Bool). cond z (sent x.taken (take x.placings (x.first ∷ x.second ∷ []))) (refusal x.refusal)) e

  pub says_refused : eqb x.refusal 0 ≡ false → a.says ≡ refusal x.refusal
  unfolding Direct.says_in
  says_refused e =
      sym (nothing_lost g k bytes)
      ∙ ap (λ (z : Bool). cond z (sent x.taken (take x.placings (x.first ∷ x.second ∷ []))) (refusal x.refusal)) e

-- SO THE ANSWER SAYS WHAT THE RULES SAY
module _ (g : Group) (k : ℕ) (h b : List ℕ) where
  abbrev rec : Record
  rec = record_of_all g k

  abbrev said : Answer
  said = answer g (on k (send (h ++ b)))

  abbrev f : ℕ → List Piece
  f = pieces_of rec h b

  -- the answer, by what is said
  abbrev by : Says → Joined
  by s = record { sent = Direct.send_answer (named_in s) said.made; last = last_of rec (named_in s) }

  says_is : (s : Says) → says_in (by s) h b ≡ in_pieces f s → said.says ≡ s → says_in (by said.says) h b ≡ in_pieces f said.says
  says_is s e w = ap (λ (y : Says). says_in (by y) h b) w ∙ e ∙ ap (in_pieces f) (sym w)

  no_pieces : (j : ℕ) → eqb j 0 ≡ false → says_in (by (refusal j)) h b ≡ refusal j
  unfolding says_in
  no_pieces j e = ap (λ (z : Bool). cond z (gathered 0 (handed_out_of (0 + 1) (by (refusal j)) h b 0)) (refusal j)) e

  all_pieces : (n : ℕ) (ps : List Placing) → Took rec n ps → says_in (by (sent n ps)) h b ≡ gathered n (f n)
  unfolding says_in
  all_pieces n ps t =
      let fits = t.fits in
      let o = range_is rec.remote.size rec.outbound.producer t.q_range in
      let s = stretches_of rec.remote.size rec.outbound.producer n in
      ap (λ (y : List Placing). says_in (by (sent n y)) h b) t.places
      ∙ ap (gathered n)
      (handed_is rec h b n (by (sent n (placing_list (placings_of rec s)))) refl
      (placed rec t.remote_ok_lem t.q_range n said.made (omega arith)) (n + 1) 0 (omega arith))

  by_test : (z : Bool) → eqb (Direct.send_answer_of said).refusal 0 ≡ z → says_in (by said.says) h b ≡ in_pieces f said.says
  by_test true z =
      let e = says_sent g k (h ++ b) z in
      says_is _ (all_pieces _ _ (took g k (h ++ b) _ _ e)) e
  by_test false z = says_is _ (no_pieces _ z) (says_refused g k (h ++ b) z)

  pub gather_said : says_in (joined_of rec said) h b ≡ (answer g (on k (gather h b))).says
  gather_said =
      by_test (eqb (Direct.send_answer_of said).refusal 0) refl ∙ sym (ap (λ (y : Answer). y.says) (joined_says g k h b))

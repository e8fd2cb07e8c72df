-- Laws of send: the parts of an accepted one put together, what it keeps of a record, that it writes a byte where there is room, and how
-- far Q moves.
-- Assumes nothing.
use mathlib.Core.Path.{◌≡◌, refl, sym, ap, ◌∙◌, subst}
use mathlib.Core.Bool.{Bool, true, false, ◌&&◌, false≢true, ◌||◌, cond}
use Prim.Native.Nat.{ℕ, ◌+◌, ◌-◌, ◌*◌, ◌≤◌, ◌<◌}
use native.Mathlib.Nat.{one-mul, add-mul, sub-add_cancel}
use native.Mathlib.Omega.{arith}
use lib.Dec.{T, ltb, eqb}
use borrow.Author.Rules.{rules}
use borrow.Author.Tests.{eqb-true, eqb-false, ltb-true, ltb-false, ne_eqb, lt-ltb, le-ltb}
use Rattle.cursor.specs.Cursor.{in_range, good_b, gap_of, step_of}
use Rattle.cursor.specs.declared.Cursor.{Cursor}
use Rattle.cursor.proofs.Laws.{range_is, good_most, step_range, step_none, step_gap}
use Rattle.flow.specs.declared.Stretch.{Stretch}
use Rattle.flow.specs.declared.Stretches.{Stretches}
use Rattle.flow.specs.declared.Stretches.TheVariants as Parts
use Rattle.flow.specs.Flow.{room_of, stretches_of, stretches_total, Placed, all_placed}
use Rattle.flow.proofs.Laws.{taken_most, taken_len, taken_some, room_most, room_rest, stretches_none, stretches_total_lem, stretches_placed}
use Rattle.cdc.specs.declared.Message.{Message}
use Rattle.conn_record.specs.declared.RToken.{RToken}
use Rattle.conn_answer.specs.declared.Placing.{Placing}
use Rattle.conn_answer.specs.declared.Placings.{Placings}
use Rattle.conn_answer.specs.declared.Placings.TheVariants.{Nowhere, One, Two}
use Rattle.conn_record.specs.declared.Record.{Record}
use Rattle.conn_answer.specs.declared.Reply.{Reply}
use Rattle.conn_answer.specs.declared.Reply.TheVariants.{Sent}
use Rattle.conn_answer.specs.declared.Outcome.{Outcome}
use Rattle.conn_record.specs.Connection.{most_address, fits_b, remote_ok, coherent_b, refusal_of}
use Rattle.conn_answer.specs.Outcome.{refused_of, message_of, pending_of, outcome_of, urgent_outcome}
use Rattle.conn_record.proofs.Laws.{fits_facts, remote_facts, Coherent, coherent_facts, coherent_from, place_new, place_further, refusal_none, refusal_0}
use Rattle.conn_answer.proofs.Laws.{told_coherent, urgent_reply, urgent_after, refused_reply, refused_after, outcome_reply, outcome_made, outcome_id, outcome_remote, outcome_q, outcome_r, outcome_coherent}
use Rattle.conn_answer.proofs.Goes.{pick}
use Rattle.conn_send.specs.Produced.{send_forbids, n_of, produced_out, produced_of, tells_of, urged_out, urged_of, waits_b}
use Rattle.conn_send.proofs.ProducedLaws.{tells_some}
use Rattle.conn_send.specs.Transmit.{rtoken_of, element_start, placing_of, placings_of, placings_total, Within, all_within, sent_reply, sent_of, urgent_of, nothing_sent, send_of, urgent_send_of}

-- an accepted send, of the code's parts: n, the answer, the record with Q moved, whether it tells
module _ (rec : Record) (len n : ℕ) (reply : Reply) (next : Record) (o : Outcome) (hn : n ≡ n_of rec len) (hr : reply ≡ sent_reply rec n)
    (hx : next ≡ produced_of rec n len) where
  pub sent_parts : (tells : Bool) → tells ≡ tells_of rec n len → o ≡ outcome_of reply tells next → o ≡ sent_of rec len
  unfolding sent_of
  sent_parts tells ht ho = simp (ho, ht, hx, hr, hn)

  pub short_parts : (m p : Message) → n < len → m ≡ message_of next → p ≡ pending_of m → o ≡ urgent_outcome reply p next → o ≡ urgent_of rec len
  unfolding urgent_of
  short_parts m p l hm hp ho = simp (ho, hp, hm, hx, hr, ← hn, lt-ltb n len l)

  pub whole_parts : (urged : Record) (m : Message) → len ≤ n → urged ≡ urged_of next → m ≡ message_of urged → o ≡ urgent_outcome reply m urged
      → o ≡ urgent_of rec len
  unfolding urgent_of
  whole_parts urged m l hu hm ho = simp (ho, hm, hu, hx, hr, ← hn, le-ltb n len l)

-- element k ends where k elements do
element_end : (n k : ℕ) → 1 ≤ k → (k - 1) * n + n ≡ k * n
element_end n k h =
    ap (λ (x : ℕ). (k - 1) * n + x) (sym (one-mul n))
    ∙ sym (add-mul (k - 1) 1 n)
    ∙ ap (λ (x : ℕ). x * n) (sub-add_cancel h)

-- what holds of the peer's memory on every link holds on the connection's own
any_link : (a b c : Bool) (P : RToken → Type 0) (w x y z : RToken) → P w → P x → P y → P z → P (cond a w (cond b x (cond c y z)))
any_link true b c P w x y z hw hx hy hz = hw
any_link false true c P w x y z hw hx hy hz = hx
any_link false false true P w x y z hw hx hy hz = hy
any_link false false false P w x y z hw hx hy hz = hz

-- so the peer's element ends below 2^64 there, and every stretch of its data has an address
module _ (rec : Record) (e : remote_ok rec.remote ≡ true) where
  rtoken_fits : fits_b rec.remote.size rec.remote.index (rtoken_of rec).base ≡ true
  unfolding rtoken_of
  rtoken_fits =
      let r = rec.remote in
      let f = remote_facts r e in
      any_link (eqb rec.id.link 1) (eqb rec.id.link 2) (eqb rec.id.link 3)
      (λ (t : RToken). fits_b r.size r.index t.base ≡ true) r.link1 r.link2 r.link3 r.link4
      f.fits1 f.fits2 f.fits3 f.fits4

  pub element_fits : element_start rec + rec.remote.size ≤ most_address + 1
  element_fits =
      let r = rec.remote in
      let first = element_end r.size r.index (remote_facts r e).index_least in
      omega (arith, first, fits_facts r.size r.index (rtoken_of rec).base rtoken_fits)

  -- the same, of what the code has of the peer's memory
  pub token_fits : (t : RToken) → t ≡ rtoken_of rec
      → t.base + (rec.remote.index - 1) * rec.remote.size + rec.remote.size ≤ most_address + 1
  token_fits t h = rw h element_fits

  placing_within : (start : ℕ) (s : Stretch) → Placed rec.remote.size start s → Within rec start (placing_of rec s)
  unfolding placing_of
  placing_within start s h =
      let f = element_fits in
      let low = h.low in
      let high = h.high in
      record {
        some = h.some;
        follows = h.follows;
        own_key = refl;
        low = omega arith;
        high = omega arith;
        top = omega arith;
      }

  pub placings_within : (s : Stretches) → all_placed rec.remote.size s → all_within rec (placings_of rec s)
  unfolding placing_of
  placings_within Parts.Nowhere h = tt
  placings_within (Parts.One s) h = placing_within 0 s h
  placings_within (Parts.Two s t) h =
      let before = h.2 in
      (placing_within 0 s h.0, placing_within s.len t h.1, omega arith)

-- the code's test of a record and an offset, by its two parts
pub ok_parts : (a ok : Bool) (x y : ℕ) → a ≡ ok → a && ltb x y ≡ true → (ok ≡ true) × (x < y)
ok_parts true ok x y e h = (sym e, ltb-true x y h)
ok_parts false ok x y e h = let bad : ◌≡◌ {A = Bool} false true = h in absurd (subst T (sym bad) tt)

-- the code's stretches, by their variant: their offsets are in range, and what it makes of them is what the rule has
module _ (rec : Record) (s : Stretches) (h : all_placed rec.remote.size s) where
  pub one_in : (a : Stretch) → s ≡ Parts.One a → a.offset < rec.remote.size
  one_in a e =
      let p : Placed rec.remote.size 0 a = subst (all_placed rec.remote.size) e h in
      omega (arith, p.some, p.high)

  pub two_in : (a b : Stretch) → s ≡ Parts.Two a b → (a.offset < rec.remote.size) × (b.offset < rec.remote.size)
  two_in a b e =
      let p : all_placed rec.remote.size (Parts.Two a b) = subst (all_placed rec.remote.size) e h in
      (omega (arith, p.0.some, p.0.high), omega (arith, p.1.some, p.1.high))

pub one_is : (rec : Record) (s : Stretches) (a : Stretch) (p : Placing) → s ≡ Parts.One a → p ≡ placing_of rec a → One p ≡ placings_of rec s
one_is rec s a p e h = rw (e, h)

pub two_is : (rec : Record) (s : Stretches) (a b : Stretch) (p q : Placing) → s ≡ Parts.Two a b → p ≡ placing_of rec a → q ≡ placing_of rec b
    → Two p q ≡ placings_of rec s
two_is rec s a b p q e h i = rw (e, h, i)

-- and the lengths stay
placings_total_lem : (rec : Record) (s : Stretches) → placings_total (placings_of rec s) ≡ stretches_total s
unfolding placing_of
placings_total_lem rec Parts.Nowhere = refl
placings_total_lem rec (Parts.One s) = refl
placings_total_lem rec (Parts.Two s t) = refl

-- the distance R to Q, and the room
abbrev pub gap_rq : Record → ℕ
gap_rq rec = gap_of (rec.remote.size - 4) rec.outbound.consumer rec.outbound.producer

abbrev pub room_in : Record → ℕ
room_in rec = room_of rec.remote.size rec.outbound.consumer rec.outbound.producer

abbrev stretches_in : Record → ℕ → Stretches
stretches_in rec n = stretches_of rec.remote.size rec.outbound.producer n

-- an urgent send: the record that one taken whole tells, and its outcome; the outcome of one cut short
abbrev pub whole_record : Record → ℕ → Record
whole_record rec len = urged_of (produced_of rec (n_of rec len) len)

abbrev pub whole_of : Record → ℕ → Outcome
whole_of rec len = urgent_outcome (sent_reply rec (n_of rec len)) (message_of (whole_record rec len)) (whole_record rec len)

abbrev pub short_of : Record → ℕ → Outcome
short_of rec len =
    let next = produced_of rec (n_of rec len) len in
    urgent_outcome (sent_reply rec (n_of rec len)) (pending_of (message_of next)) next

-- n is at most the room and at most the length, and above 0 where both are
module _ (rec : Record) (len : ℕ) where
  pub n_room : n_of rec len ≤ room_in rec
  unfolding n_of
  n_room = taken_most (room_in rec) len

  n_len : n_of rec len ≤ len
  unfolding n_of
  n_len = taken_len (room_in rec) len

  -- so a coherent record names only places in the peer's data
  n_placed : remote_ok rec.remote ≡ true → in_range rec.remote.size rec.outbound.producer ≡ true
      → all_placed rec.remote.size (stretches_in rec (n_of rec len))
  n_placed e r =
      let o = rec.outbound in
      let N' = rec.remote.size in
      let q = range_is N' o.producer r in
      let least = (remote_facts rec.remote e).size_least in
      let most = room_most N' o.consumer o.producer in
      stretches_placed N' o.producer (n_of rec len) q.0 q.1 (omega (arith, n_room))

  n_within : (n : ℕ) → coherent_b n rec ≡ true → all_within rec (placings_of rec (stretches_in rec (n_of rec len)))
  n_within n e =
      let f = coherent_facts n rec e in
      placings_within rec f.remote_ok_lem (stretches_in rec (n_of rec len)) (n_placed f.remote_ok_lem f.q_range)

  n_some : 0 < room_in rec → 0 < len → 0 < n_of rec len
  unfolding n_of
  n_some r l = taken_some (room_in rec) len r l

-- the same, of what the code has taken
pub taken_placed : (rec : Record) (len n : ℕ) → remote_ok rec.remote ≡ true → in_range rec.remote.size rec.outbound.producer ≡ true
    → n ≡ n_of rec len → all_placed rec.remote.size (stretches_in rec n)
taken_placed rec len n e r hn = rw hn (n_placed rec len e r)

pub code_placed : (rec : Record) (n : ℕ) (s : Stretches) → s ≡ stretches_in rec n → all_placed rec.remote.size (stretches_in rec n)
    → all_placed rec.remote.size s
code_placed rec n s e h = rw e h

-- what an unrefused send may suppose of its record
pub sent_may : (n : ℕ) (active : Bool) (rec : Record) (forbids : Bool) → refusal_of n active rec forbids ≡ 0
    → (remote_ok rec.remote ≡ true) × (in_range rec.remote.size rec.outbound.producer ≡ true)
sent_may n active rec forbids e =
    let f = coherent_facts n rec (refusal_none n active rec forbids e).0 in
    (f.remote_ok_lem, f.q_range)

-- Q moved by k, at most the room
module _ (n : ℕ) (rec : Record) (k len : ℕ) (f : Coherent n rec) (h : k ≤ room_in rec) where
  produced-gap :
      (good_b (rec.remote.size - 4) rec.outbound.consumer (step_of rec.remote.size rec.outbound.producer k) ≡ true)
      × (gap_of (rec.remote.size - 4) rec.outbound.consumer (step_of rec.remote.size rec.outbound.producer k) ≡ gap_rq rec + k)
  produced-gap =
      let o = rec.outbound in
      let N' = rec.remote.size in
      let most = good_most (N' - 4) o.consumer o.producer f.rq_good in
      let rest = room_rest N' o.consumer o.producer most in
      step_gap N' o.consumer o.producer k f.r_range f.q_range f.rq_good (omega arith)

  produced_facts : Coherent n (produced_of rec k len)
  unfolding produced_of produced_out
  produced_facts =
      let g = produced-gap in
      let q = step_range rec.remote.size rec.outbound.producer k f.q_range in
      let o = rec.outbound in
      let stands = place_further rec.remote.size o.consumer o.producer (step_of rec.remote.size o.producer k) o.urgent f.at_own_place (omega (arith, g.1)) in
      search rules

  -- and that is the urgent place, where k is above 0
  urged_facts : 0 < k → Coherent n (urged_of (produced_of rec k len))
  unfolding urged_of urged_out produced_of produced_out
  urged_facts some =
      let p = produced_facts in
      let g = produced-gap in
      let q = step_of rec.remote.size rec.outbound.producer k in
      let r = step_range rec.remote.size rec.outbound.producer k f.q_range in
      let stands =
      place_new rec.remote.size rec.outbound.consumer q q
      (record { range = r; good = g.0; least = omega (arith, g.1); most = omega arith })
      in
      search rules

-- it may send: no test refuses it, and nothing stands in its way
pub record MaySend (n : ℕ) (rec : Record) (len : ℕ) : Type 0 where
  pub coherent : coherent_b n rec ≡ true
  pub may : send_forbids rec.marks ≡ false
  pub free : waits_b rec len ≡ false

-- the tests of both sends, walked once: what holds of each outcome that they lead to holds of theirs
module _ (n : ℕ) (active : Bool) (rec : Record) (len : ℕ) (P : Outcome → Type 0) where
  offered : (x : Outcome) → ((k : ℕ) → P (refused_of k rec)) → (waits_b rec len ≡ true → P (nothing_sent rec)) → (MaySend n rec len → P x)
      → let no = refusal_of n active rec (send_forbids rec.marks) in
      P (cond (eqb no 0) (cond (waits_b rec len) (nothing_sent rec) x) (refused_of no rec))
  offered x refused none sent =
      let no = refusal_of n active rec (send_forbids rec.marks) in
      pick P (eqb no 0) _ _
      (λ e.
      let ok = refusal_none n active rec (send_forbids rec.marks) (eqb-true no 0 e) in
      pick P (waits_b rec len) _ _ none (λ w. sent (record { coherent = ok.0; may = ok.2; free = w })))
      (λ e. refused no)

  pub send_cases : ((k : ℕ) → P (refused_of k rec)) → (waits_b rec len ≡ true → P (nothing_sent rec))
      → (MaySend n rec len → P (sent_of rec len)) → P (send_of n active rec len)
  unfolding send_of
  send_cases refused none sent = offered (sent_of rec len) refused none sent

  -- an urgent send is cut short, or taken whole
  pub urgent_cases : ((k : ℕ) → P (refused_of k rec)) → (waits_b rec len ≡ true → P (nothing_sent rec))
      → (MaySend n rec len → n_of rec len < len → P (short_of rec len))
      → (MaySend n rec len → 0 < len → n_of rec len ≡ len → P (whole_of rec len)) → P (urgent_send_of n active rec len)
  unfolding urgent_send_of urgent_of waits_b
  urgent_cases refused none short whole =
      offered (urgent_of rec len) refused none
      (λ m.
      pick P (ltb (n_of rec len) len) _ _ (λ s. short m (ltb-true (n_of rec len) len s))
      (λ s. whole m (offers m.free) (omega (arith, n_len rec len, ltb-false (n_of rec len) len s))))
    where
      offers : rec.outbound.urgent.standing || eqb len 0 ≡ false → 0 < len
      offers w = go rec.outbound.urgent.standing (eqb len 0) refl w
        where
          go : (s z : Bool) → eqb len 0 ≡ z → s || z ≡ false → 0 < len
          go true z q h = absurd (false≢true (sym h))
          go false true q h = absurd (false≢true (sym h))
          go false false q h = omega (arith, eqb-false len 0 q)

-- making a message keeps the distance R to Q
outcome_gap : (reply : Reply) (tells : Bool) (rec : Record) → gap_rq (outcome_of reply tells rec).after ≡ gap_rq rec
outcome_gap reply tells rec = simp (outcome_remote reply tells rec, outcome_r reply tells rec, outcome_q reply tells rec)

-- what an accepted send with bytes leaves
module _ (rec : Record) (len : ℕ) where
  abbrev answer : Reply
  answer = Sent (n_of rec len) (placings_of rec (stretches_in rec (n_of rec len)))

  sent_is : sent_of rec len ≡ outcome_of answer (tells_of rec (n_of rec len) len) (produced_of rec (n_of rec len) len)
  unfolding sent_of
  sent_is = refl

  sent_reply_lem : (sent_of rec len).reply ≡ answer
  sent_reply_lem = ap (λ (o : Outcome). o.reply) sent_is ∙ outcome_reply answer _ _

  sent_id : (sent_of rec len).after.id ≡ rec.id
  unfolding produced_of
  sent_id =
      ap (λ (o : Outcome). o.after.id) sent_is
      ∙ outcome_id answer (tells_of rec (n_of rec len) len) (produced_of rec (n_of rec len) len)

  sent_gap : (n : ℕ) → Coherent n rec → gap_rq (sent_of rec len).after ≡ gap_rq rec + n_of rec len
  unfolding produced_of produced_out
  sent_gap n f =
      ap (λ (o : Outcome). gap_rq o.after) sent_is
      ∙ outcome_gap answer (tells_of rec (n_of rec len) len) (produced_of rec (n_of rec len) len)
      ∙ (produced-gap n rec (n_of rec len) len f (n_room rec len)).1

  sent_coherent : (n : ℕ) → coherent_b n rec ≡ true → coherent_b n (sent_of rec len).after ≡ true
  sent_coherent n e =
      let next = produced_of rec (n_of rec len) len in
      let kept = coherent_from n next (produced_facts n rec (n_of rec len) len (coherent_facts n rec e) (n_room rec len)) in
      rw sent_is (outcome_coherent n next answer (tells_of rec (n_of rec len) len) kept)

-- send leaves the record coherent
pub send_coherent : (n : ℕ) (active : Bool) (rec : Record) (len : ℕ) → coherent_b n rec ≡ true
    → coherent_b n (send_of n active rec len).after ≡ true
send_coherent n active rec len e =
    send_cases n active rec len (λ o. coherent_b n o.after ≡ true)
    (λ k. rw (refused_after k rec) e)
    (λ w. outcome_coherent n rec (Sent 0 Nowhere) false e)
    (λ m. sent_coherent rec len n e)

-- and so does an urgent send
pub urgent_coherent : (n : ℕ) (active : Bool) (rec : Record) (len : ℕ) → coherent_b n rec ≡ true
    → coherent_b n (urgent_send_of n active rec len).after ≡ true
urgent_coherent n active rec len e =
    urgent_cases n active rec len (λ o. coherent_b n o.after ≡ true)
    (λ k. rw (refused_after k rec) e)
    (λ w. outcome_coherent n rec (Sent 0 Nowhere) false e)
    (λ k l. told _ _ next (produced_facts n rec (n_of rec len) len f (n_room rec len)))
    (λ k some all. told _ _ (urged_of next) (urged_facts n rec (n_of rec len) len f (n_room rec len) (omega arith)))
  where
    f : Coherent n rec
    f = coherent_facts n rec e

    next : Record
    next = produced_of rec (n_of rec len) len

    told : (r : Reply) (m : Message) (d : Record) → Coherent n d → coherent_b n (urgent_outcome r m d).after ≡ true
    told r m d g = rw (urgent_after r m d) (told_coherent n d (coherent_from n d g))

-- and keeps its identity
pub send_keeps_id : (n : ℕ) (active : Bool) (rec : Record) (len : ℕ) → (send_of n active rec len).after.id ≡ rec.id
send_keeps_id n active rec len =
    send_cases n active rec len (λ o. o.after.id ≡ rec.id)
    (λ k. ap (λ (w : Record). w.id) (refused_after k rec))
    (λ w. outcome_id (Sent 0 Nowhere) false rec)
    (λ m. sent_id rec len)

-- nothing forbids it and bytes are offered
pub send_accepts : (n : ℕ) (active : Bool) (rec : Record) (len : ℕ) → coherent_b n rec ≡ true → active ≡ true
    → send_forbids rec.marks ≡ false → rec.outbound.urgent.standing ≡ false → 0 < len → send_of n active rec len ≡ sent_of rec len
unfolding send_of waits_b
send_accepts n active rec len e up may free some =
    simp (refusal_0 n active rec (send_forbids rec.marks) e up may, free, ne_eqb len 0 (λ z. omega arith))

-- The one-byte sentence: a coherent record that may send, with no urgent place of its own, bytes offered, room at the peer and an active
-- link, takes a byte or more, names a place in the peer's data for each, and tells the peer
pub writes_a_byte : (n : ℕ) (active : Bool) (rec : Record) (len : ℕ) → coherent_b n rec ≡ true → active ≡ true
    → send_forbids rec.marks ≡ false → rec.outbound.urgent.standing ≡ false → 0 < room_in rec → 0 < len
    → (k : ℕ)
    × (p : Placings)
    × (0 < k)
    × ((send_of n active rec len).reply ≡ Sent k p)
    × ((send_of n active rec len).made ≡ true)
    × (placings_total p ≡ k)
    × all_within rec p
writes_a_byte n active rec len e up may free room some =
    let t = n_of rec len in
    let a = send_accepts n active rec len e up may free some in
    let h = n_some rec len room some in
    let made = outcome_made (answer rec len) (tells_of rec t len) (produced_of rec t len) ∙ tells_some rec t len h in (
      t,
      placings_of rec (stretches_in rec t),
      h,
      ap (λ (x : Outcome). x.reply) a ∙ sent_reply_lem rec len,
      ap (λ (x : Outcome). x.made) (a ∙ sent_is rec len) ∙ made,
      placings_total_lem rec (stretches_in rec t) ∙ stretches_total_lem rec.remote.size rec.outbound.producer t,
      n_within rec len n e,
    )

-- whatever k a send names: it is at most the room and the length, the placings name k bytes and lie in the peer's data, and the distance
-- R to Q is k more
module _ (n : ℕ) (active : Bool) (rec : Record) (len k : ℕ) (p : Placings) (e : (send_of n active rec len).reply ≡ Sent k p) where
  none_is : (outcome_of (Sent 0 Nowhere) false rec).reply ≡ Sent k p → (0 ≡ k) × (Nowhere ≡ p)
  none_is r = let s : Sent 0 Nowhere ≡ Sent k p = sym (outcome_reply (Sent 0 Nowhere) false rec) ∙ r in (cc, cc)

  some_is : (sent_of rec len).reply ≡ Sent k p
      → (n_of rec len ≡ k) × (placings_of rec (stretches_in rec (n_of rec len)) ≡ p)
  some_is r = let s : answer rec len ≡ Sent k p = sym (sent_reply_lem rec len) ∙ r in (cc, cc)

  not_refused : {A : Type 0} (j : ℕ) → (refused_of j rec).reply ≡ Sent k p → A
  not_refused j r = let bad : ◌≡◌ {A = ℕ} 0 1 = cc (refused_reply j rec) in absurd (omega arith)

  pub send_takes : (k ≤ room_in rec) × (k ≤ len) × (placings_total p ≡ k)
  send_takes =
      send_cases n active rec len (λ o. o.reply ≡ Sent k p → (k ≤ room_in rec) × (k ≤ len) × (placings_total p ≡ k)) not_refused
      (λ z r. let a = none_is r in (omega arith, omega arith, rw (← a.1) a.0))
      (λ g r.
      let a = some_is r in
      let total =
      placings_total_lem rec (stretches_in rec (n_of rec len))
      ∙ stretches_total_lem rec.remote.size rec.outbound.producer (n_of rec len)
      in
      (rw (← a.0) (n_room rec len), rw (← a.0) (n_len rec len), rw (← a.1) (total ∙ a.0)))
      e

  pub send_within : all_within rec p
  send_within =
      send_cases n active rec len (λ o. o.reply ≡ Sent k p → all_within rec p) not_refused (λ z r. rw (← (none_is r).1) tt)
      (λ g r. rw (← (some_is r).1) (n_within rec len n g.coherent))
      e

  pub send_moves : gap_rq (send_of n active rec len).after ≡ gap_rq rec + k
  send_moves =
      send_cases n active rec len (λ o. o.reply ≡ Sent k p → gap_rq o.after ≡ gap_rq rec + k) (λ j r. not_refused j r)
      (λ z r. let a = none_is r in omega (arith, outcome_gap (Sent 0 Nowhere) false rec))
      (λ g r. rw (← (some_is r).0) (sent_gap rec len n (coherent_facts n rec g.coherent)))
      e

  -- so the record was coherent, p is where k bytes go from Q on, and Q moves by k
  pub send_was_coherent : coherent_b n rec ≡ true
  unfolding send_of
  send_was_coherent =
      let no = refusal_of n active rec (send_forbids rec.marks) in
      pick (λ (o : Outcome). o.reply ≡ Sent k p → coherent_b n rec ≡ true) (eqb no 0) _ _
      (λ z r. (refusal_none n active rec (send_forbids rec.marks) (eqb-true no 0 z)).0)
      (λ z r. not_refused no r)
      e

  pub send_places : p ≡ placings_of rec (stretches_in rec k)
  send_places =
      send_cases n active rec len (λ o. o.reply ≡ Sent k p → p ≡ placings_of rec (stretches_in rec k)) (λ j r. not_refused j r)
      (λ z r.
      let a = none_is r in
      sym a.1
      ∙ ap (placings_of rec) (sym (stretches_none rec.remote.size rec.outbound.producer))
      ∙ ap (λ (x : ℕ). placings_of rec (stretches_in rec x)) a.0)
      (λ g r. let a = some_is r in sym a.1 ∙ ap (λ (x : ℕ). placings_of rec (stretches_in rec x)) a.0)
      e

  pub send_steps : (send_of n active rec len).after.outbound.producer ≡ step_of rec.remote.size rec.outbound.producer k
  unfolding produced_of produced_out
  send_steps =
      let Q : ℕ → Cursor = λ x. step_of rec.remote.size rec.outbound.producer x in
      send_cases n active rec len (λ o. o.reply ≡ Sent k p → o.after.outbound.producer ≡ Q k) (λ j r. not_refused j r)
      (λ z r.
      outcome_q (Sent 0 Nowhere) false rec ∙ sym (step_none rec.remote.size rec.outbound.producer) ∙ ap Q (none_is r).0)
      (λ g r.
      ap (λ (o : Outcome). o.after.outbound.producer) (sent_is rec len)
      ∙ outcome_q (answer rec len) (tells_of rec (n_of rec len) len) (produced_of rec (n_of rec len) len)
      ∙ ap Q (some_is r).0)
      e

-- the placings of an urgent send lie there too
pub urgent_within : (n : ℕ) (active : Bool) (rec : Record) (len k : ℕ) (p : Placings) → (urgent_send_of n active rec len).reply ≡ Sent k p
    → all_within rec p
urgent_within n active rec len k p =
    urgent_cases n active rec len (λ o. o.reply ≡ Sent k p → all_within rec p)
    (λ j r. let bad : ◌≡◌ {A = ℕ} 0 1 = cc (refused_reply j rec) in absurd (omega arith))
    (λ z r.
    let s : Sent 0 Nowhere ≡ Sent k p = sym (outcome_reply (Sent 0 Nowhere) false rec) ∙ r in
    let y : Nowhere ≡ p = cc in
    rw (← y) tt)
    (λ g l r. named g.coherent (sym (urgent_reply _ _ _) ∙ r))
    (λ g some all r. named g.coherent (sym (urgent_reply _ _ _) ∙ r))
  where
    named : coherent_b n rec ≡ true → sent_reply rec (n_of rec len) ≡ Sent k p → all_within rec p
    named g s = let z : placings_of rec (stretches_in rec (n_of rec len)) ≡ p = cc in rw (← z) (n_within rec len n g)

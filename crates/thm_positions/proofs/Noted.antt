-- What each call does to one slot of a sound group, and to what is said of it: nothing to either; a turn of the slot, which is noted; an open,
-- with which what is said begins anew; a free; or it is a message heard by another slot that has the token that this one had once.
-- Assumes nothing.
use mathlib.Core.Path.{◌≡◌, refl, sym, ap, ◌∙◌, subst}
use mathlib.Core.Logic.{◌⊎◌, inl, inr, ◌≢◌}
use mathlib.Core.Bool.{Bool, true, false, ◌&&◌, cond, and-false}
use mathlib.Core.List.{List, append-nil}
use Prim.Native.Nat.{ℕ, zero, suc, ◌+◌, ◌-◌}
use native.Mathlib.Decide.{ℕ_discrete}
use native.Mathlib.Omega.{arith}
use lib.Dec.{leb, eqb}
use lib.ListN.{length, get_or}
use borrow.Author.Tests.{eqb-true, eq-eqb, ne_eqb, le-ltb}
use Rattle.conn_receive.proofs.Laws.{Placeable, place_accepted}
use Rattle.conn_record.specs.declared.Opening as Given
use Rattle.conn_record.specs.Connection.{opened_record}
use Rattle.conn_answer.specs.Outcome.{no_message}
use Rattle.group_rules.specs.Rules.{accepted, Group, Request, read, on, turn_of, request_turn, Done, answer, next, refuses, put_turn, record_of_all, element_in, link_of, send, gather, urgent, place, shutdown, close, abort, Says, says_of, hear_turn, refusal, Call, Turn, does, open_slot, free_slot, link_change, link_message, link_send, sample, hear, manage, sizes_ok, placed_in, Answer}
use Rattle.thm_safety.specs.Statement.{accepted_b, OpenAt, own_of}
use Rattle.thm_safety.proofs.Invariant.{Sound, sizes}
use Rattle.thm_safety.proofs.Effects.{opens, open_facts, Acts, asks, hears, frees, Effect, refuses_it, links_it, samples_it, puts_turn, effect}
use Rattle.thm_links.specs.Statements.{Call as LinkCall}
use Rattle.element.specs.Element.{element_of}
use Rattle.link_failover.proofs.Keeps.{ButLink, moved_keeps}
use Rattle.thm_safety.proofs.Failing.{only_the_link}
use Rattle.thm_safety.specs.Links.{call_of}
use Rattle.cursor.specs.declared.Cursor.{Cursor}
use Rattle.cdc.specs.declared.Message.{Message}
use Rattle.conn_record.specs.declared.Record.{Record}
use Rattle.conn_answer.specs.declared.Reply.{Reply}
use Rattle.conn_answer.specs.declared.Reply.TheVariants.{Accepted, Heard, Refused, Read, Sent, Torn, Reset, Sampled}
use Rattle.conn_record.specs.Connection.{zero_record}
use Rattle.conn_receive.specs.Receive.{place_of}
use Rattle.cdc.specs.declared.Decoded.TheVariants.{Good}
use Rattle.cdc.specs.Cdc.{decode_of}
use Rattle.thm_refusals.specs.Refusals.{lent_out}
use Rattle.thm_positions.specs.Positions.{read_in, Placed, Journal, covers_b, noted, opened, nothing, placed, names_b, after_call}
use Rattle.thm_order.proofs.Near.{enough}
use Rattle.thm_order.proofs.Slots.{slot_in, Put, put}
use Rattle.thm_positions.proofs.Inbound.{Steps, request_steps, hear_steps, Reader, request_reader, hear_reads_none}
use Rattle.thm_safety.proofs.Reader.{read_byte, read_room, read_most_unread}
use Rattle.thm_changes.proofs.Acted.{acts_in, acts_high, acts_long}
use Rattle.thm_order.proofs.Records.{Left, left_by, heard_turn}
use Rattle.thm_positions.proofs.Journals.{Storing, Reading, keeps_all_lem, stores_all}

-- A REFUSAL leaves what is said as it was
module _ (d : ℕ) (j : Journal) where
  noted_refused : (p : Placed) (n : ℕ) (out : List ℕ) → noted d j p (record { says = refusal n; made = false; message = no_message; out = out }) ≡ j
  noted_refused p n out =
      let a : j.announced + 0 ≡ j.announced = omega arith in
      let h : j.handed + 0 ≡ j.handed = omega arith in
      λ i. record { own = j.own; announced = a i; handed = h i; told = j.told; stream = append-nil j.stream i; written = j.written }

  either : (t : Bool) (x : Journal) → x ≡ j → cond t x j ≡ j
  either true x e = e
  either false x e = refl

  -- a call on the links says nothing of a slot
  after_links : (k : ℕ) (c : LinkCall) (b : List ℕ) (a : Answer) → after_call d k j (call_of c b) a ≡ j
  unfolding after_call
  after_links k (LinkCall.change l up) b a = refl
  after_links k (LinkCall.message l bytes) b a = refl
  after_links k (LinkCall.send l i vs) b a = refl

  pub after_refused : (k : ℕ) (c : Call) (n : ℕ) (out : List ℕ)
      → after_call d k j c (record { says = refusal n; made = false; message = no_message; out = out }) ≡ j
  unfolding after_call
  after_refused k (on i q) n out = either (eqb i k) _ (noted_refused (placed q) n out)
  after_refused k (hear b) n out = either (names_b j.own (decode_of b)) _ (noted_refused nothing n out)
  after_refused k (manage (open_slot i given)) n out = ap (λ t. cond t (opened given.own) j) (and-false (eqb i k))
  after_refused k (manage (free_slot i)) n out = refl
  after_refused k (manage (link_change l up b)) n out = refl
  after_refused k (manage (link_message l bytes b)) n out = refl
  after_refused k (manage (link_send l i vs b)) n out = refl
  after_refused k (manage (sample l ms)) n out = refl

-- WHAT A REQUEST STORES
nothing_covers : (t : Bool) (x : ℕ) → t && covers_b nothing x ≡ false
nothing_covers true x = rw (le-ltb x 0 (omega arith)) (and-false (leb 0 x))
nothing_covers false x = refl

stores_none : (n : ℕ) (c : Record) (e : List ℕ) (says : Says) → Storing n c e nothing says e
stores_none n c e says = keeps_all_lem (nothing_covers (accepted_b says)) refl

module _ (n : ℕ) (a : Bool) (c : Record) (e : List ℕ) where
  request_stores : (q : Request)
      → let t = request_turn n a c e q in Storing n c e (placed q) t.answer.says t.element
  unfolding request_turn turn_of
  request_stores (send b) = stores_none n c e _
  request_stores (urgent b) = stores_none n c e _
  request_stores (gather h b) = stores_none n c e _
  request_stores (place at b) = go (place_of n a c at (length b)).reply (place_accepted n a c at (length b))
    where
      go : (r : Reply) → (r ≡ Accepted → Placeable n c.inbound at (length b))
          → Storing n c e (record { at = at; bytes = b }) (says_of r) (placed_in r e at b)
      go (Refused k) h = keeps_all_lem (λ x. refl) refl
      go Accepted h = stores_all refl refl (h refl)
      go (Sent k p) h = keeps_all_lem (λ x. refl) refl
      go (Read k) h = keeps_all_lem (λ x. refl) refl
      go Torn h = keeps_all_lem (λ x. refl) refl
      go (Heard moved state) h = keeps_all_lem (λ x. refl) refl
      go Reset h = keeps_all_lem (λ x. refl) refl
      go (Sampled q) h = keeps_all_lem (λ x. refl) refl
  request_stores (read out) = stores_none n c e _
  request_stores shutdown = stores_none n c e _
  request_stores close = stores_none n c e _
  request_stores abort = stores_none n c e _

-- WHAT IT HANDS OUT
reads_none : (n : ℕ) (c : Record) (e : List ℕ) (a : Answer) → read_in a.says ≡ 0 → Reading n c e a
reads_none n c e a z = record { most = omega (arith, z); room = omega (arith, z); each = λ i l. absurd (omega (arith, z, l)) }

-- A MESSAGE HEARD, whose producer is p
abbrev pub HeardWith : Call → Cursor → Type 0
HeardWith c p = (b : List ℕ) × (m : Message) × (c ≡ hear b) × (decode_of b ≡ Good m) × (p ≡ m.producer)

module _ (g : Group) (c : Call) (i : ℕ) (j : Journal) where
  abbrev pub was : Record
  was = record_of_all g (suc i)

  abbrev pub now : Record
  now = record_of_all (next g c) (suc i)

  abbrev pub was_in : List ℕ
  was_in = element_in g (suc i)

  abbrev pub now_in : List ℕ
  now_in = element_in (next g c) (suc i)

  -- what is said after it
  abbrev pub said_after : Journal
  said_after = after_call (g.N - 4) (suc i) j c (answer g c)

  -- a turn of the open slot, answered by said
  pub record Noted : Type 0 where
    pub bytes : Placed
    pub said : Answer
    pub is_noted : said_after ≡ noted (g.N - 4) j bytes said
    pub goes : (now ≡ zero_record) ⊎ ((now.id ≡ was.id) × Steps g.N was (HeardWith c) said.says said.made now)
    pub storing : Storing g.N was was_in bytes said.says now_in
    pub reading : Reading g.N was was_in said

  pub data SlotTurn : Type 0 where
    aside : now ≡ was → now_in ≡ was_in → said_after ≡ j → SlotTurn
    -- its link may be another (request 2026-13)
    moves : ButLink was now → now_in ≡ was_in → said_after ≡ j → SlotTurn
    turns : OpenAt g (suc i) → Noted → SlotTurn
    begins : (given : Given.Opening) → (record_of_all g (suc i)).id.opened ≡ false → c ≡ manage (open_slot (suc i) given)
        → (answer g c).says ≡ accepted → now ≡ opened_record given → said_after ≡ opened given.own → SlotTurn
    closes : now ≡ zero_record → now_in ≡ was_in → said_after ≡ j → SlotTurn
    strays : (OpenAt g (suc i) → ⊥) → now ≡ was → (a : Answer) → said_after ≡ noted (g.N - 4) j nothing a → read_in a.says ≡ 0 → SlotTurn

module _ (g : Group) (s : Sound g) (c : Call) (i : ℕ) (j : Journal) (own_is : OpenAt g (suc i) → own_of g (suc i) ≡ j.own) where
  -- A TURN OF THIS SLOT
  module _ (t : Turn) (did : does g c ≡ put_turn g (suc i) t) (there : Put g i t (put_turn g (suc i) t).group) where
    its_answer : answer g c ≡ t.answer
    unfolding put_turn
    its_answer = ap (λ (d : Done). d.answer) did

    its_record : now g c i j ≡ t.after
    its_record = ap (λ (d : Done). record_of_all d.group (suc i)) did ∙ there.this_record

    its_element : now_in g c i j ≡ t.element
    its_element = ap (λ (d : Done). element_in d.group (suc i)) did ∙ there.this_element

    -- what a read hands out
    read_out : (q : Request) → c ≡ on (suc i) q → Reader g.N (link_of g (suc i)) (was g c i j) q t.answer.says
        → Reading g.N (was g c i j) (was_in g c i j) t.answer
    read_out q p (inl z) = reads_none g.N (was g c i j) (was_in g c i j) t.answer z
    read_out q p (inr w) =
        let out = w.0 in
        let n = read_in t.answer.says in
        let an = ap (answer g) (sym (p ∙ ap (on (suc i)) w.1)) ∙ its_answer in
        let says = ap (λ (a : Answer). a.says) an ∙ w.2 in
        record {
          most = read_most_unread g s i n out says;
          room = rw an at (read_room g s i n out says);
          each = λ x l. ap (λ (a : Answer). get_or a.out x 0) (sym an) ∙ read_byte g s i n out says x l;
        }

    -- the slot is closed, or its record is still that of the connection
    went : (r : Record) → (t.after ≡ zero_record) ⊎ Steps g.N (was g c i j) (HeardWith c) t.answer.says t.answer.made t.after
        → Left (was g c i j) t.after
        → (t.after ≡ zero_record)
        ⊎ ((t.after.id ≡ (was g c i j).id) × Steps g.N (was g c i j) (HeardWith c) t.answer.says t.answer.made t.after)
    went r (inl z) l = inl z
    went r (inr w) (inl e) = inr (e, w)
    went r (inr w) (inr z) = inl z

    take_note : (p : Placed)
        → after_call (g.N - 4) (suc i) j c t.answer ≡ noted (g.N - 4) j p t.answer
        → (t.after ≡ zero_record) ⊎ Steps g.N (was g c i j) (HeardWith c) t.answer.says t.answer.made t.after
        → Left (was g c i j) t.after
        → Storing g.N (was g c i j) (was_in g c i j) p t.answer.says t.element
        → Reading g.N (was g c i j) (was_in g c i j) t.answer
        → Noted g c i j
    take_note p says steps left store reading =
        record {
          bytes = p;
          said = t.answer;
          is_noted = ap (after_call (g.N - 4) (suc i) j c) its_answer ∙ says;
          goes = rw its_record (went t.after steps left);
          storing = rw its_element store;
          reading = reading;
        }

    asked : (q : Request) → c ≡ on (suc i) q → t ≡ request_turn g.N (link_of g (suc i)) (was g c i j) (was_in g c i j) q → Noted g c i j
    unfolding after_call
    asked q p r =
        take_note (placed q)
        (ap (λ z. after_call (g.N - 4) (suc i) j z t.answer) p
        ∙ ap (λ z. cond z (noted (g.N - 4) j (placed q) t.answer) j) (eq-eqb (suc i) (suc i) refl))
        (rw r (request_steps g.N (link_of g (suc i)) (was g c i j) (was_in g c i j) (HeardWith c) q))
        (rw r (left_by g.N (link_of g (suc i)) (was g c i j) (was_in g c i j) (on (suc i) q)))
        (rw r (request_stores g.N (link_of g (suc i)) (was g c i j) (was_in g c i j) q))
        (read_out q p (rw r (request_reader g.N (link_of g (suc i)) (was g c i j) (was_in g c i j) q)))

    hears_it : (b : List ℕ) (m : Message) → c ≡ hear b → decode_of b ≡ Good m → j.own ≡ m.token
        → t ≡ hear_turn g.N (link_of g (suc i)) (was g c i j) (was_in g c i j) m → Noted g c i j
    unfolding after_call hear_turn turn_of
    hears_it b m p d w r =
        let its : eqb m.token j.own ≡ true = eq-eqb m.token j.own (sym w) in
        take_note nothing
        (ap (λ z. after_call (g.N - 4) (suc i) j z t.answer) p
        ∙ ap (λ z. cond (names_b j.own z) (noted (g.N - 4) j nothing t.answer) j) d
        ∙ ap (λ z. cond z (noted (g.N - 4) j nothing t.answer) j) its)
        (rw r (hear_steps g.N (link_of g (suc i)) (was g c i j) (was_in g c i j) (HeardWith c) m (b, m, p, d, refl)))
        (subst (λ (t : Turn). Left (was g c i j) t.after) (heard_as_lem ∙ sym r)
        (left_by g.N (link_of g (suc i)) (was g c i j) (was_in g c i j) (hear b)))
        (rw r (stores_none g.N (was g c i j) (was_in g c i j) _))
        (reads_none g.N (was g c i j) (was_in g c i j) t.answer
        (rw r (hear_reads_none g.N (link_of g (suc i)) (was g c i j) (was_in g c i j) m)))
      where
        heard_as_lem : heard_turn g.N (link_of g (suc i)) (was g c i j) (was_in g c i j) (decode_of b)
            ≡ hear_turn g.N (link_of g (suc i)) (was g c i j) (was_in g c i j) m
        heard_as_lem = ap (heard_turn g.N (link_of g (suc i)) (was g c i j) (was_in g c i j)) d

    this : Acts g c (suc i) t → SlotTurn g c i j
    unfolding after_call
    this (asks q p o r) = turns o (asked q p r)
    this (hears b m p d h o w r) = turns o (hears_it b m p d (sym (own_is o) ∙ w) r)
    this (opens given p n r) =
        begins given (open_facts g (suc i) given n).was_closed p
        (ap (λ (a : Answer). a.says) its_answer ∙ ap (λ (t : Turn). t.answer.says) r)
        (its_record ∙ ap (λ (t : Turn). t.after) r)
        (ap (after_call (g.N - 4) (suc i) j c) its_answer
        ∙ ap (λ z. after_call (g.N - 4) (suc i) j z t.answer) p
        ∙ ap (λ (t : Turn). cond (eqb (suc i) (suc i) && accepted_b t.answer.says) (opened given.own) j) r
        ∙ ap (λ z. cond (z && true) (opened given.own) j) (eq-eqb (suc i) (suc i) refl))
    this (frees p n r) =
        closes (its_record ∙ ap (λ (t : Turn). t.after) r) (its_element ∙ ap (λ (t : Turn). t.element) r)
        (ap (λ z. after_call (g.N - 4) (suc i) j z (answer g c)) p)

  -- A TURN OF ANOTHER SLOT
  module _ (l : ℕ) (t : Turn) (d : i ≢ l) (did : does g c ≡ put_turn g (suc l) t) (there : Put g l t (put_turn g (suc l) t).group) where
    ne : suc l ≡ suc i → ⊥
    ne e = d (omega (arith, e))

    same_record : now g c i j ≡ was g c i j
    same_record = ap (λ (x : Done). record_of_all x.group (suc i)) did ∙ there.other_record i d

    same_element : now_in g c i j ≡ was_in g c i j
    same_element = ap (λ (x : Done). element_in x.group (suc i)) did ∙ there.other_element i d

    -- heard by the other slot: the message has not this one's token, or this one is closed
    overheard : (b : List ℕ) (m : Message) → c ≡ hear b → decode_of b ≡ Good m → OpenAt g (suc l) → own_of g (suc l) ≡ m.token
        → read_in (answer g c).says ≡ 0 → SlotTurn g c i j
    unfolding after_call
    overheard b m p e o w unread = go (eqb m.token j.own) refl
      where
        says : (z : Bool) → eqb m.token j.own ≡ z → said_after g c i j ≡ cond z (noted (g.N - 4) j nothing (answer g c)) j
        says z h =
            ap (λ z. after_call (g.N - 4) (suc i) j z (answer g c)) p
            ∙ ap (λ z. cond (names_b j.own z) (noted (g.N - 4) j nothing (answer g c)) j) e
            ∙ ap (λ z. cond z (noted (g.N - 4) j nothing (answer g c)) j) h

        go : (z : Bool) → eqb m.token j.own ≡ z → SlotTurn g c i j
        go true h =
            strays (λ x. d (s.good.apart i l x o (own_is x ∙ sym (eqb-true m.token j.own h) ∙ sym w))) same_record (answer g c)
            (says true h) unread
        go false h = aside same_record same_element (says false h)

    other : Acts g c (suc l) t → SlotTurn g c i j
    unfolding after_call put_turn
    other (asks q p o r) =
        aside same_record same_element
        (ap (λ z. after_call (g.N - 4) (suc i) j z (answer g c)) p
        ∙ ap (λ z. cond z (noted (g.N - 4) j (placed q) (answer g c)) j) (ne_eqb (suc l) (suc i) ne))
    other (hears b m p e h o w r) =
        overheard b m p e o w
        (ap (λ (x : Done). read_in x.answer.says) did
        ∙ ap (λ (t : Turn). read_in t.answer.says) r
        ∙ hear_reads_none g.N (link_of g (suc l)) (record_of_all g (suc l)) (element_in g (suc l)) m)
    other (opens given p n r) =
        aside same_record same_element
        (ap (λ z. after_call (g.N - 4) (suc i) j z (answer g c)) p
        ∙ ap (λ z. cond (z && accepted_b (answer g c).says) (opened given.own) j) (ne_eqb (suc l) (suc i) ne))
    other (frees p n r) = aside same_record same_element (ap (λ z. after_call (g.N - 4) (suc i) j z (answer g c)) p)

  pub slot_turn : SlotTurn g c i j
  unfolding refuses after_call
  slot_turn = go (does g c) refl (effect g c)
    where
      said_by_lem : (x : Done) → does g c ≡ x → said_after g c i j ≡ after_call (g.N - 4) (suc i) j c x.answer
      said_by_lem x q = ap (λ (d : Done). after_call (g.N - 4) (suc i) j c d.answer) q

      turned : (l : ℕ) (t : Turn) → does g c ≡ put_turn g l t → sizes_ok g ≡ true → Acts g c l t → SlotTurn g c i j
      turned zero t did ok a = absurd (omega (arith, slot_in g.S 0 (acts_in g c 0 t ok a)))
      turned (suc l) t did ok a =
          by (ℕ_discrete i l)
          (put g l t (sizes g s).whole (acts_high g c l t ok a) (omega (arith, enough g s.good, acts_high g c l t ok a)) (acts_long g c l t ok a))
        where
          by : Dec (i ≡ l) → Put g l t (put_turn g (suc l) t).group → SlotTurn g c i j
          by (yes e) there =
              subst
              (λ (m : ℕ). Put g m t (put_turn g (suc m) t).group → does g c ≡ put_turn g (suc m) t → Acts g c (suc m) t → SlotTurn g c i j)
              e
              (λ there did a. this t did there a)
              there did a
          by (no d) there = other l t d did there a

      go : (x : Done) → does g c ≡ x → Effect g c x → SlotTurn g c i j
      go x q (refuses_it n h e) =
          aside (ap (λ (d : Done). record_of_all d.group (suc i)) (q ∙ e)) (ap (λ (d : Done). element_in d.group (suc i)) (q ∙ e))
          (said_by_lem (refuses g n (lent_out c)) (q ∙ e) ∙ after_refused (g.N - 4) j (suc i) c n (lent_out c))
      go x q (links_it k b p a e) =
          let o = only_the_link g k b in
          let r = ap (λ (z : Call). record_of_all (next g z) (suc i)) p ∙ o.each (suc i) in
          moves (subst (ButLink (record_of_all g (suc i))) (sym r) (moved_keeps g.N _ (record_of_all g (suc i))))
          (ap (λ (z : Call). element_in (next g z) (suc i)) p ∙ (λ x. element_of (o.same_N x) (suc i) (o.same_memory x)))
          (ap (λ z. after_call (g.N - 4) (suc i) j z (answer g c)) p ∙ after_links (g.N - 4) j (suc i) k b (answer g c))
      go x q (samples_it l ms p y e) =
          aside (ap (λ (d : Done). record_of_all d.group (suc i)) (q ∙ e)) (ap (λ (d : Done). element_in d.group (suc i)) (q ∙ e))
          (ap (λ z. after_call (g.N - 4) (suc i) j z (answer g c)) p)
      go x q (puts_turn l t ok a e) = turned l t (q ∙ e) ok a

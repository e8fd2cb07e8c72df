-- One event at an end where the connection is open, whatever call it is: what holds of both ends holds after it, and what the premises let
-- through is taken. Assumes nothing.
use mathlib.Core.Path.{◌≡◌, refl, sym, ap, ◌∙◌, subst}
use mathlib.Core.Logic.{◌⊎◌, inl, inr}
use mathlib.Core.Bool.{Bool, true, false, cond, false≢true}
use mathlib.Core.List.{List, [], ◌∷◌, ◌++◌}
use Prim.Native.Nat.{ℕ, zero, suc, ◌+◌, ◌-◌, ◌≤◌, ◌<◌, min}
use native.Mathlib.Omega.{arith}
use lib.Dec.{eqb}
use lib.ListN.{length, get_or}
use borrow.Author.Tests.{eqb-true, not-true}
use Rattle.conn_record.proofs.Laws.{and_right}
use Rattle.cdc.specs.Cdc.{decode_of, encode_of}
use Rattle.cdc.proofs.RoundTrip.{reads_back}
use Rattle.element.specs.Element.{intact_b}
use Rattle.conn_record.specs.declared.Record.{Record}
use Rattle.conn_record.specs.Connection.{zero_record}
use Rattle.conn_answer.specs.declared.Outcome.{Outcome}
use Rattle.conn_answer.specs.declared.Reply.{Reply}
use Rattle.conn_answer.specs.declared.Reply.TheVariants.{Refused, Read}
use Rattle.conn_answer.specs.Outcome.{message_of}
use Rattle.conn_receive.specs.Receive.{place_of, read_of}
use Rattle.link_failover.specs.declared.Plan.{Plan}
use Rattle.link_failover.specs.Failover.{plan_of, moves_b, tells_b, failover_of}
use Rattle.group_rules.specs.Rules.{Request, send, urgent, gather, place, read, shutdown, close, abort, Call, on, hear, manage, Says, refusal}
use Rattle.group_rules.specs.Rules.{was_read_of, says_of, Answer, Turn, turn_of, request_turn, hear_turn, answer, record_of_all, element_in, link_of}
use Rattle.thm_order.proofs.Slots.{open_in}
use Rattle.thm_refusals.proofs.Answers.{clash}
use Rattle.thm_safety.specs.Statement.{OpenAt, offset_from}
use Rattle.thm_safety.proofs.Invariant.{no_slot_0}
use Rattle.thm_safety.proofs.Reader.{read_byte, read_room}
use Rattle.thm_positions.specs.Positions.{read_in, names_b}
use Rattle.thm_sent.specs.Books.{Aim, sends, places, reads, finishes, hears, elsewhere, asked, aim_of, message, tells_in, moves_over}
use Rattle.thm_sent.specs.Books.{failover_b, with_coming, with_group}
use Rattle.thm_sent.specs.OnlySent.{IfComes, AllPerformed, EachOwed, FirstIs, TakenIn}
use Rattle.thm_sent.specs.Plain.{unless_refused, mine_b, moved_mark, plain_reaches}
use Rattle.thm_sent.proofs.Way.{Bears}
use Rattle.thm_sent.proofs.Direction.{dir_tells, dir_moved, dir_elem}
use Rattle.thm_sent.proofs.Sends.{stands_at, send_step, urgent_step}
use Rattle.thm_sent.proofs.Receives.{FinishStep, read_step, shutdown_step, close_step, abort_step, place_step, PlaceStep, taken_in}
use Rattle.thm_sent.proofs.Receives.{forbidden}
use Rattle.thm_sent.proofs.Slots.{Turned, slot_of, on_turned, hear_turned, Elsewhere, stays, closes, elsewhere_turned}
use Rattle.thm_sent.proofs.Pair.{known_of, AtRec, moved_rec, AtEnd, Act, rec_of, elem_of, at_of, held, next_of, next_sound}
use Rattle.thm_sent.proofs.Pair.{next_N, Next, After, no_items}
use Rattle.thm_sent.proofs.OnlySentTheoremSends.{Sent, SaysSent, sends_event, says_sent, says_gathered, finishes_event}
use Rattle.thm_sent.proofs.OnlySentTheoremReceives.{WasRead, reads_event, may_place_lem, places_event, FirstOf, the_first, passes, heard_event}

pub record Come (a : Act) (aim : Aim) : Type 0 where
  pub goal : After a (answer a.e.group a.call) aim
  pub taken : TakenIn (answer a.e.group a.call) aim

-- A REQUEST ON THE SLOT, or a message with its token
module _ (a : Act) where
  open a use {n, m, d, d', full, full', e, f, p, q, h, k, pair, opened, is_open, call}

  abbrev act : Bool
  act = link_of e.group n.slot

  abbrev said : Answer
  said = answer e.group call

  turned : (r : Request) → call ≡ on n.slot r → Turned e.group call n.slot (request_turn (d + 4) act (rec_of a) (elem_of a) r)
  turned r z =
      subst (λ (c : Call). Turned e.group c n.slot (request_turn (d + 4) act (rec_of a) (elem_of a) r)) (sym z)
      (subst (λ (x : ℕ). Turned e.group (on n.slot r) n.slot (request_turn x act (rec_of a) (elem_of a) r)) pair.at_e.N_is
      (on_turned e.group pair.at_e.sound n.slot is_open r))

  -- sends, by the turn that each is
  sent_goal : {u : Bool} {b : List ℕ} {o : Outcome} (r : Request) → call ≡ on n.slot r → (step : Sent a u b o) (says : Says)
      → SaysSent a b step.m says
      → let t = request_turn (d + 4) act (rec_of a) (elem_of a) r in
      t.answer ≡ record { says = says; made = o.made; message = o.message; out = [] } → t.after ≡ o.after → t.element ≡ elem_of a
      → After a said (sends u b)
  sent_goal {u} {b} r z step says s x y w =
      let t = turned r z in
      subst (λ (x : Answer). After a x (sends u b)) (sym (t.answer_is ∙ x))
      (sends_event a step says s [] (t.record_is ∙ y) (t.element_is ∙ w))

  send_goal : (b : List ℕ) → call ≡ on n.slot (send b) → After a said (sends false b)
  unfolding request_turn turn_of
  send_goal b z =
      let step = send_step (held a) false (length b) refl (d + 4) act in
      sent_goal (send b) z step _ (says_sent a step) refl refl refl

  urgent_goal : (b : List ℕ) → call ≡ on n.slot (urgent b) → After a said (sends true b)
  unfolding request_turn turn_of
  urgent_goal b z =
      let step = urgent_step (held a) true (length b) refl (d + 4) act in
      sent_goal (urgent b) z step _ (says_sent a step) refl refl refl

  gather_goal : (head body : List ℕ) → call ≡ on n.slot (gather head body) → After a said (sends false (head ++ body))
  unfolding request_turn turn_of
  gather_goal head body z =
      let step = send_step (held a) false (length (head ++ body)) refl (d + 4) act in
      sent_goal (gather head body) z step _ (says_gathered a head body step) refl refl refl

  -- an ending
  finish_goal : {o : Outcome} (r : Request) → call ≡ on n.slot r → FinishStep (rec_of a) o
      → request_turn (d + 4) act (rec_of a) (elem_of a) r ≡ turn_of o (elem_of a) [] → Come a finishes
  unfolding turn_of
  finish_goal {o} r z step is =
      let t = turned r z in
      record {
        goal =
            subst (λ (x : Answer). After a x finishes) (sym (t.answer_is ∙ ap (λ (x : Turn). x.answer) is))
            (finishes_event a step (says_of o.reply) [] (t.record_is ∙ ap (λ (x : Turn). x.after) is)
            (t.element_is ∙ ap (λ (x : Turn). x.element) is));
        taken = tt;
      }

  -- A READ names m bytes, and hands out these
  record SaysRead (room j : ℕ) (says : Says) : Type 0 where
    read_is : read_in says ≡ j
    engine_is : unless_refused says (min (p.inward.P - p.inward.C) room) ≡ j
    was : (j ≡ 0) ⊎ (says ≡ was_read_of j)

  says_read : (room : ℕ) (o : Outcome) (step : WasRead a room o) → SaysRead room step.m (says_of o.reply)
  says_read room o step = go step.replies
    where
      go : ((i : ℕ) × (o.reply ≡ Refused i) × (step.m ≡ 0))
          ⊎ ((o.reply ≡ Read step.m) × (step.m ≡ min (p.inward.P - p.inward.C) room))
          → SaysRead room step.m (says_of o.reply)
      go (inl z) =
          subst (λ (r : Reply). SaysRead room step.m (says_of r)) (sym z.1)
          (record { read_is = sym z.2; engine_is = sym z.2; was = inl z.2 })
      go (inr z) =
          subst (λ (r : Reply). SaysRead room step.m (says_of r)) (sym z.0)
          (record { read_is = refl; engine_is = sym z.1; was = inr refl })

  record Gives (m : ℕ) (out : List ℕ) : Type 0 where
    room : m ≤ length out
    each : (j : ℕ) → j < m → get_or out j 0 ≡ get_or (elem_of a) (offset_from e.group.N (rec_of a).inbound.consumer.offset j) 0

  gives : (k j : ℕ) → n.slot ≡ k → (out : List ℕ) → call ≡ on n.slot (read out) → (j ≡ 0) ⊎ (said.says ≡ was_read_of j)
      → Gives j said.out
  gives k j z out c (inl y) = record { room = omega (arith, y); each = λ i l. absurd (omega (arith, l, y)) }
  gives zero j z out c (inr y) = absurd (no_slot_0 e.group (subst (OpenAt e.group) z is_open))
  gives (suc i) j z out c (inr y) =
      let same : call ≡ on (suc i) (read out) = c ∙ ap (λ (x : ℕ). on x (read out)) z in
      let was : (answer e.group (on (suc i) (read out))).says ≡ was_read_of j = ap (λ (x : Call). (answer e.group x).says) (sym same) ∙ y in
      subst (λ (x : Call). Gives j (answer e.group x).out) (sym same)
      (record {
        room = read_room e.group pair.at_e.sound i j out was;
        each =
            λ x l.
            read_byte e.group pair.at_e.sound i j out was x l
            ∙ (λ t. get_or (element_in e.group (sym z t))
            (offset_from e.group.N (record_of_all e.group (sym z t)).inbound.consumer.offset x) 0);
      })

  read_goal : (out : List ℕ) → call ≡ on n.slot (read out) → After a said (reads out)
  unfolding request_turn turn_of
  read_goal out z =
      let t = turned (read out) z in
      let intact : true ≡ intact_b (elem_of a) = sym (slot_of e.group pair.at_e.sound n.slot is_open).intact in
      let o = read_of (d + 4) act (rec_of a) (intact_b (elem_of a)) (length out) in
      let step : WasRead a (length out) o =
      subst (λ (i : Bool). WasRead a (length out) (read_of (d + 4) act (rec_of a) i (length out))) intact
      (read_step (held a) (length out) act)
      in
      let s = says_read (length out) o step in
      let g = gives n.slot step.m refl out z (by step.m s.was (ap (λ (x : Answer). x.says) t.answer_is)) in
      let at_turn = subst (Gives step.m) (ap (λ (x : Answer). x.out) t.answer_is) g in
      subst (λ (x : Answer). After a x (reads out)) (sym t.answer_is)
      (reads_event a out step (says_of o.reply) _ s.read_is s.engine_is at_turn.room at_turn.each t.record_is
      t.element_is)
    where
      by : (j : ℕ) {says : Says} → (j ≡ 0) ⊎ (says ≡ was_read_of j) → said.says ≡ says → (j ≡ 0) ⊎ (said.says ≡ was_read_of j)
      by j (inl y) x = inl y
      by j (inr y) x = inr (x ∙ y)

  -- A PLACE of bytes under way
  place_come : (at : ℕ) (b : List ℕ) → call ≡ on n.slot (place at b) → act ≡ true → EachOwed n e at b → Come a (places at b)
  unfolding request_turn turn_of
  place_come at b z up owed_all =
      let t = turned (place at b) z in
      let step = place_step (d + 4) act (rec_of a) (held a).coherent up at (length b) (may_place_lem a at b owed_all) in
      record {
        goal =
            subst (λ (x : Answer). After a x (places at b)) (sym t.answer_is)
            (places_event a at b owed_all step.0 step.2 t.record_is t.element_is);
        taken =
            λ j y. only_7 (place_of (d + 4) act (rec_of a) at (length b)) j (sym (ap (λ (x : Answer). x.says) t.answer_is) ∙ y) step.2;
      }
    where
      only_7 : (o : Outcome) (j : ℕ) → says_of o.reply ≡ refusal j → PlaceStep (rec_of a) o → j ≡ 7
      only_7 o j y (taken_in z) = let bad = ap says_of (sym z) ∙ y in clash (cc)
      only_7 o j y (forbidden z bars) = let same : refusal 7 ≡ refusal j = ap says_of (sym z) ∙ y in cc

  -- A MESSAGE, the first under way
  hear_come : (b : List ℕ) → call ≡ hear b → act ≡ true → FirstIs b e.coming → AllPerformed e.coming → Come a (hears b)
  unfolding hear_turn turn_of
  hear_come b z up first-is all = go first.first.failover refl
    where
      first : FirstOf a b
      first = the_first a b first-is all up

      turn : Turned e.group call n.slot (hear_turn (d + 4) act (rec_of a) (elem_of a) first.is.bears.m)
      turn =
          let is = first.is.bears in
          subst (λ (c : Call). Turned e.group c n.slot (hear_turn (d + 4) act (rec_of a) (elem_of a) is.m)) (sym z)
          (subst (λ (x : ℕ). Turned e.group (hear b) n.slot (hear_turn x act (rec_of a) (elem_of a) is.m)) pair.at_e.N_is
          (hear_turned e.group pair.at_e.sound n.slot is_open b is.m is.decoded
          ((at_of a).matched.own_is ∙ sym is.token_is_lem)))

      failover_is : failover_b (decode_of b) ≡ first.first.failover
      failover_is = ap failover_b first.is.bears.decoded ∙ first.is.bears.failover_is

      go : (t : Bool) → first.first.failover ≡ t → Come a (hears b)
      go true far =
          let w = passes a b first-is all up turn.record_is turn.element_is far in
          record {
            goal = subst (λ (x : Answer). After a x (hears b)) (sym turn.answer_is) w.0;
            taken = (
              λ j y. w.1 j (sym (ap (λ (x : Answer). x.says) turn.answer_is) ∙ y),
              λ y. ap (λ (x : Answer). x.made)
                  turn.answer_is ∙ w.2,
            );
          }
      go false plain =
          let w = heard_event a b first-is all up turn.record_is turn.element_is plain in
          record {
            goal = subst (λ (x : Answer). After a x (hears b)) (sym turn.answer_is) w.0;
            taken = (
              λ j y. w.1 j (sym (ap (λ (x : Answer). x.says) turn.answer_is) ∙ y),
              λ y. absurd (false≢true (sym (failover_is ∙ plain) ∙ y)),
            );
          }

  -- A CALL ELSEWHERE: the record stays, or moves to another link, and then may tell; or the slot closes
  tells_live : (x : Plan) (N : ℕ) (c : Record) → tells_b N x c ≡ true → c.marks.abort ≡ false
  unfolding tells_b
  tells_live x N c e = not-true c.marks.abort (and_right (moves_b N x c) _ e)

  abbrev tells : Bool
  tells = tells_in n e.group call

  abbrev mark : List ℕ
  mark = encode_of (failover_of (rec_of a))

  elsewhere_come : aim_of n call ≡ elsewhere → Come a elsewhere
  unfolding moves_over zero_record failover_of message_of
  elsewhere_come z = record { goal = go tells refl; taken = tt }
    where
      aside : Elsewhere e.group pair.at_e.sound n.slot is_open call
      aside = elsewhere_turned e.group pair.at_e.sound n.slot is_open n refl (at_of a).matched.own_is call (ap mine_b z)

      rec_now : OpenAt (next_of a) n.slot → Elsewhere e.group pair.at_e.sound n.slot is_open call
          → AtRec n m d d' (known_of p h) (record_of_all (next_of a) n.slot)
      rec_now o (stays w x) = moved_rec w (at_of a)
      rec_now o (closes r x) =
          absurd (false≢true (ap (λ (r : Record). r.id.opened) (sym r) ∙ (open_in (next_of a).S (next_of a).table n.slot o).is_open))

      same_element : Elsewhere e.group pair.at_e.sound n.slot is_open call → element_in (next_of a) n.slot ≡ elem_of a
      same_element (stays w x) = x
      same_element (closes r x) = x

      at_e : AtEnd n m d d' (next_of a) e.opened (known_of p h)
      at_e =
          record { sound = next_sound a; N_is = next_N a; rec = λ z o. rec_now o aside; before = λ z. absurd (false≢true (sym z ∙ opened)) }

      told : tells ≡ true → Bears d' d m p.outward.Q p.outward.made (decode_of mark) (moved_mark p)
      told y =
          let at = at_of a in
          record {
            m = failover_of (rec_of a);
            decoded = reads_back (failover_of (rec_of a));
            producer_is = at.out_now.Q_is;
            consumer_is = at.in_now.C_is;
            taken_is = refl;
            sequence_is = omega (arith, at.out_now.next_number_is);
            number_is = omega arith;
            failover_is = refl;
            not_abort = λ x. tells_live (plan_of e.group.links (next_of a).links) e.group.N (rec_of a) y;
            token_is_lem = at.matched.peer_is;
            urgent_is = λ x. stands_at at.out_now;
          }

      go : (t : Bool) → tells ≡ t
          → Next a (with_group e (next_of a)) (with_coming f (f.coming ++ cond t (message mark ∷ []) [])) p
          (cond t (plain_reaches q (moved_mark p)) q)
      go true y =
          record {
            hidden = h;
            pair =
                record {
                  at_e = at_e;
                  at_f = pair.at_f;
                  to_f =
                      dir_tells pair.to_f mark (moved_mark p) p.outward.made h.ended (omega arith) (λ x. x)
                      (record { bears = told y; last = λ x. (sym (at_of a).ended_is ∙ x, sym pair.to_f.Q_is) });
                  to_e = dir_elem (dir_moved pair.to_e (moved_mark p) refl) (element_in (next_of a) n.slot) (same_element aside);
                };
          }
      go false y =
          record {
            hidden = h;
            pair =
                record {
                  at_e = at_e;
                  at_f = pair.at_f;
                  to_f = no_items a e p h pair.to_f;
                  to_e = dir_elem pair.to_e (element_in (next_of a) n.slot) (same_element aside);
                };
          }

  -- what the premises ask of it
  pub record Asked (aim : Aim) : Type 0 where
    pub up : IfComes (λ at b. act ≡ true) (λ b. act ≡ true) aim
    pub owed_all : IfComes (EachOwed n e) (λ b. Unit {0}) aim
    pub performed : IfComes (λ at b. Unit {0}) (λ b. AllPerformed e.coming) aim
    pub first : IfComes (λ at b. Unit {0}) (λ b. FirstIs b e.coming) aim

  -- ANY CALL
  request_come : (r : Request) → call ≡ on n.slot r → Asked (asked r) → Come a (asked r)
  unfolding request_turn
  request_come (send b) z w = record { goal = send_goal b z; taken = tt }
  request_come (urgent b) z w = record { goal = urgent_goal b z; taken = tt }
  request_come (gather head body) z w = record { goal = gather_goal head body z; taken = tt }
  request_come (place at b) z w = place_come at b z w.up w.owed_all
  request_come (read out) z w = record { goal = read_goal out z; taken = tt }
  request_come shutdown z w = finish_goal shutdown z (shutdown_step (d + 4) act (rec_of a)) refl
  request_come close z w = finish_goal close z (close_step (d + 4) act (rec_of a)) refl
  request_come abort z w = finish_goal abort z (abort_step (d + 4) act (rec_of a)) refl

  pub any_come : Asked (aim_of n call) → Come a (aim_of n call)
  unfolding aim_of
  any_come w = by call refl
    where
      so : (aim : Aim) → aim_of n call ≡ aim → (Asked aim → Come a aim) → Come a (aim_of n call)
      so aim z f = subst (Come a) (sym z) (f (subst Asked z w))

      by : (c : Call) → call ≡ c → Come a (aim_of n call)
      by (on j r) z = go (eqb j n.slot) refl
        where
          go : (t : Bool) → eqb j n.slot ≡ t → Come a (aim_of n call)
          go true y =
              so (asked r) (ap (aim_of n) z ∙ ap (λ (t : Bool). cond t (asked r) elsewhere) y)
              (λ v. request_come r (z ∙ ap (λ (x : ℕ). on x r) (eqb-true j n.slot y)) v)
          go false y =
              let x : aim_of n call ≡ elsewhere = ap (aim_of n) z ∙ ap (λ (t : Bool). cond t (asked r) elsewhere) y in
              so elsewhere x (λ v. elsewhere_come x)
      by (hear b) z = go (names_b n.own (decode_of b)) refl
        where
          go : (t : Bool) → names_b n.own (decode_of b) ≡ t → Come a (aim_of n call)
          go true y =
              so (hears b) (ap (aim_of n) z ∙ ap (λ (t : Bool). cond t (hears b) elsewhere) y)
              (λ v. hear_come b z v.up v.first v.performed)
          go false y =
              let x : aim_of n call ≡ elsewhere = ap (aim_of n) z ∙ ap (λ (t : Bool). cond t (hears b) elsewhere) y in
              so elsewhere x (λ v. elsewhere_come x)
      by (manage g) z = let x : aim_of n call ≡ elsewhere = ap (aim_of n) z in so elsewhere x (λ v. elsewhere_come x)

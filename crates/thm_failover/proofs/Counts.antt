-- Claim 5 of specs/Resilience: counting. Assumes nothing.
use Prim.Native.Nat.{ℕ, zero, suc, ◌+◌, ◌%◌}
use mathlib.Core.Path.{◌≡◌, refl, sym, ap, ◌∙◌, subst}
use mathlib.Core.Logic.{◌⊎◌, inl, inr, ◌≢◌}
use mathlib.Core.Bool.{Bool, true, false, false≢true, ◌&&◌, ◌||◌, not, cond, and-false}
use mathlib.Core.List.{List, [], ◌∷◌, ◌++◌}
use native.Mathlib.Omega.{arith}
use native.Mathlib.Decide.{ℕ_discrete}
use lib.Dec.{eqb}
use lib.ListN.{length, length-append}
use borrow.Author.Tests.{eq-eqb, ne_eqb}
use Rattle.cdc.specs.declared.Message.{Message}
use Rattle.cdc.specs.declared.Decoded.{Decoded}
use Rattle.cdc.specs.declared.Decoded.TheVariants.{Good, Malformed}
use Rattle.cdc.specs.Cdc.{decode_of}
use Rattle.conn_record.specs.declared.Record.{Record}
use Rattle.conn_record.specs.Connection.{zero_record, opened_record, marks_to}
use Rattle.conn_answer.specs.declared.Reply.{Reply}
use Rattle.conn_answer.specs.declared.Outcome.{Outcome}
use Rattle.conn_answer.specs.Outcome.{told_of, used_in, sequence_after}
use Rattle.conn_answer.proofs.Goes.{By, by_test, by_refused, by_outcome, by_urgent, by_shut, by_left}
use Rattle.conn_send.specs.Transmit.{send_of, sent_of, urgent_of, urgent_send_of}
use Rattle.conn_send.specs.Produced.{produced_out, produced_of, urged_out, urged_of}
use Rattle.conn_receive.specs.Receive.{place_of, read_of, take_of, torn_of, consumed_of}
use Rattle.conn_hear.specs.Heard.{heard_out, heard_record}
use Rattle.conn_hear.specs.Hear.{aborted_of, accepted_of, ruled_of, followed_of, validated_of, hear_of}
use Rattle.conn_finish.specs.Finish.{reset_of, closing_of, shutdown_of, close_of, abort_of}
use Rattle.link_failover.proofs.Keeps.{moved_keeps}
use Rattle.thm_links.specs.Statements.{Call as LinkCall}
use Rattle.group_rules.specs.Rules.{Group, Request, send, gather, urgent, place, read, shutdown, close, abort, open_slot, free_slot, link_change}
use Rattle.group_rules.specs.Rules.{link_message, link_send, sample, Call, on, hear, manage, Says, Answer, Turn, turn_of, request_turn, hear_turn}
use Rattle.group_rules.specs.Rules.{Done, does, answer, next, refuses, put_turn, record_of_all, element_in, link_of, sizes_ok, holder_of}
use Rattle.thm_order.specs.Statement.{leaves, hearer}
use Rattle.thm_order.proofs.Near.{enough}
use Rattle.thm_order.proofs.Slots.{slot_in, open_in, open_is, record_same}
use Rattle.thm_safety.specs.Statement.{OpenAt, accepted_b}
use Rattle.thm_safety.specs.Links.{call_of}
use Rattle.thm_safety.proofs.Effects.{Acts, asks, hears, opens, frees, Effect, refuses_it, links_it, samples_it, puts_turn, effect}
use Rattle.thm_safety.proofs.Failing.{only_the_link}
use Rattle.thm_safety.proofs.Invariant.{Sound}
use Rattle.thm_safety.proofs.Sound.{sound_fresh, sound_next}
use Rattle.thm_changes.specs.Numbers.{Taken, nothing_yet, refused_b, sends_a, breaks_b, with_number, heard_by, with_message, taken_after, taken_from}
use Rattle.thm_changes.proofs.Acted.{acts_slot, acts_in, acts_high}
use Rattle.thm_changes.proofs.Changes.{one_record, acts_aside}
use Rattle.thm_changes.proofs.Numbers.{numbers_in_order}
use Rattle.thm_failover.specs.Resilience.{one_more_of, made_after, made_from, made, ordinary, took_message, took_after, took_from, Counting}

-- ONE MESSAGE USES ONE NUMBER. What a call leaves: a closed slot, or the number after the next where a message was made, else the same
abbrev Uses : Record → Bool → Record → Type 0
Uses c made d = (d ≡ zero_record) ⊎ (d.outbound.next ≡ cond made (sequence_after c.outbound.next) c.outbound.next)

abbrev Same : Record → Reply → Record → Type 0
Same c r d = d.outbound.next ≡ c.outbound.next

abbrev Leaves : Record → Outcome → Type 0
Leaves c = By (Same c)

uses : (c : Record) (o : Outcome) → Leaves c o → Uses c o.made o.after
unfolding told_of used_in
uses c =
    by_left (Same c) (λ r t d. d.outbound.next ≡ cond t (sequence_after c.outbound.next) c.outbound.next) (λ r d e. e)
    (λ r d e. ap sequence_after e)

module _ (n : ℕ) (a : Bool) (c : Record) where
  send_leaves : (k : ℕ) → Leaves c (send_of n a c k)
  unfolding send_of sent_of produced_of produced_out
  send_leaves k = search (by_test, by_refused, by_outcome) depth 9

  urgent_leaves : (k : ℕ) → Leaves c (urgent_send_of n a c k)
  unfolding urgent_send_of urgent_of urged_of urged_out produced_of produced_out
  urgent_leaves k = search (by_test, by_refused, by_outcome, by_urgent) depth 9

  place_leaves : (at k : ℕ) → Leaves c (place_of n a c at k)
  unfolding place_of
  place_leaves at k = search (by_test, by_refused, by_outcome) depth 9

  read_leaves : (t : Bool) (k : ℕ) → Leaves c (read_of n a c t k)
  unfolding read_of take_of torn_of consumed_of marks_to
  read_leaves t k = search (by_test, by_refused, by_outcome) depth 9

  hear_leaves : (m : Message) → Leaves c (hear_of n a c m)
  unfolding hear_of aborted_of followed_of validated_of ruled_of accepted_of heard_record heard_out marks_to
  hear_leaves m = search (by_test, by_refused, by_outcome, by_shut) depth 9

  shutdown_leaves : Leaves c (shutdown_of n a c)
  unfolding shutdown_of marks_to
  shutdown_leaves = search (by_test, by_refused, by_outcome) depth 9

  close_leaves : Leaves c (close_of n a c)
  unfolding close_of reset_of closing_of marks_to
  close_leaves = search (by_test, by_refused, by_outcome, by_shut) depth 9

  abort_leaves : Leaves c (abort_of n a c)
  unfolding abort_of marks_to
  abort_leaves = search (by_test, by_refused, by_outcome) depth 9

  request_uses : (e : List ℕ) (q : Request) → let t = request_turn n a c e q in Uses c t.answer.made t.after
  unfolding request_turn turn_of
  request_uses e (send b) = uses c _ (send_leaves (length b))
  request_uses e (urgent b) = uses c _ (urgent_leaves (length b))
  request_uses e (gather h b) = uses c _ (send_leaves (length (h ++ b)))
  request_uses e (place at b) = uses c _ (place_leaves at (length b))
  request_uses e (read out) = uses c _ (read_leaves _ (length out))
  request_uses e shutdown = uses c _ (shutdown_leaves)
  request_uses e close = uses c _ (close_leaves)
  request_uses e abort = uses c _ (abort_leaves)

  hear_uses : (e : List ℕ) (m : Message) → let t = hear_turn n a c e m in Uses c t.answer.made t.after
  unfolding hear_turn turn_of
  hear_uses e m = uses c _ (hear_leaves m)

-- ONE CALL ON
abbrev Next : Group → ℕ → List (List ℕ) → Type 0
Next g k ms = OpenAt g k → (record_of_all g k).outbound.next ≡ (1 + length ms) % 65536

-- one more
next_more : (s : ℕ) (ms : List (List ℕ)) (m : List ℕ) (t : Bool) → s ≡ (1 + length ms) % 65536
    → cond t (sequence_after s) s ≡ (1 + length (one_more_of ms t m)) % 65536
next_more s ms m true e = let l = length-append ms (m ∷ []) in omega (arith, e, l)
next_more s ms m false e = e

module _ (g : Group) (c : Call) (k : ℕ) (ms : List (List ℕ)) (w : Next g k ms) where
  abbrev now : List (List ℕ)
  now = made_after g k ms c (answer g c)

  abbrev After : List (List ℕ) → Type 0
  After l = Next (next g c) k l

  settled : (l : List (List ℕ)) → now ≡ l → After l → After now
  settled l e h = subst After (sym e) h

  -- the call and its answer, by what they are
  after : (z : Call) (x : Answer) → c ≡ z → answer g c ≡ x → now ≡ made_after g k ms z x
  after z x p e = λ i. made_after g k ms (p i) (e i)

  was_open : (record_of_all (next g c) k).id.opened ≡ (record_of_all g k).id.opened → OpenAt (next g c) k → OpenAt g k
  was_open e o =
      let v = open_in (next g c).S (next g c).table k o in
      open_is g.S g.table k (rw (one_record g c).same_S at v.slot) (sym e ∙ v.is_open)

  as_it_was : now ≡ ms → (record_of_all (next g c) k).id.opened ≡ (record_of_all g k).id.opened
      → (record_of_all (next g c) k).outbound ≡ (record_of_all g k).outbound → After now
  as_it_was e p r = settled ms e (λ o. ap (λ x. x.next) r ∙ w (was_open p o))

  -- a refusal makes none
  none_refused : (z : Call) (x : Answer) → x.made ≡ false → accepted_b x.says ≡ false → made_after g k ms z x ≡ ms
  unfolding made_after
  none_refused (on j q) x e f = ap (λ t. one_more_of ms t x.message) (ap (λ t. eqb j k && t) e ∙ and-false (eqb j k))
  none_refused (hear b) x e f =
      ap (λ t. one_more_of ms t x.message) (ap (λ t. eqb (hearer g (decode_of b)) k && t) e ∙ and-false (eqb (hearer g (decode_of b)) k))
  none_refused (manage (open_slot j o)) x e f = ap (λ t. cond t [] ms) (ap (λ t. eqb j k && t) f ∙ and-false (eqb j k))
  none_refused (manage (free_slot j)) x e f = refl
  none_refused (manage (link_change l up b)) x e f = refl
  none_refused (manage (link_message l bytes b)) x e f = refl
  none_refused (manage (link_send l i vs b)) x e f = refl
  none_refused (manage (sample l s)) x e f = refl

  none_linked : (i : LinkCall) (b : List ℕ) (x : Answer) → made_after g k ms (call_of i b) x ≡ ms
  unfolding made_after
  none_linked (LinkCall.change l up) b x = refl
  none_linked (LinkCall.message l bytes) b x = refl
  none_linked (LinkCall.send l h vs) b x = refl

  -- A TURN OF THIS SLOT
  module _ (t : Turn) (said : answer g c ≡ t.answer) (there : record_of_all (next g c) k ≡ t.after) where
    used : OpenAt g k → Uses (record_of_all g k) t.answer.made t.after → After (one_more_of ms t.answer.made t.answer.message)
    unfolding zero_record
    used was (inl z) o =
        absurd (false≢true (sym (ap (λ (r : Record). r.id.opened) (there ∙ z)) ∙ (open_in (next g c).S (next g c).table k o).is_open))
    used was (inr e) o =
        ap (λ (r : Record). r.outbound.next) there
        ∙ e
        ∙ next_more (record_of_all g k).outbound.next ms t.answer.message t.answer.made (w was)

    this : Acts g c k t → After now
    unfolding made_after opened_record zero_record
    this (asks q p o r) =
        settled _ (after (on k q) t.answer p said ∙ ap (λ z. one_more_of ms (z && t.answer.made) t.answer.message) (eq-eqb k k refl))
        (used o
        (subst (λ (t : Turn). Uses (record_of_all g k) t.answer.made t.after) (sym r)
        (request_uses g.N (link_of g k) (record_of_all g k) (element_in g k) q)))
    this (hears b m p d h o v r) =
        settled _
        (after (hear b) t.answer p said
        ∙ ap (λ z. one_more_of ms (z && t.answer.made) t.answer.message) (eq-eqb (hearer g (decode_of b)) k (ap (hearer g) d ∙ h)))
        (used o
        (subst (λ (t : Turn). Uses (record_of_all g k) t.answer.made t.after) (sym r)
        (hear_uses g.N (link_of g k) (record_of_all g k) (element_in g k) m)))
    this (opens given p n r) =
        settled []
        (after (manage (open_slot k given)) t.answer p said
        ∙ (λ i. cond (eq-eqb k k refl i && accepted_b (r i).answer.says) [] ms))
        (λ o. ap (λ (r : Record). r.outbound.next) (there ∙ ap (λ (t : Turn). t.after) r))
    this (frees p n r) =
        λ o.
        absurd
        (false≢true
        (sym (ap (λ (r : Record). r.id.opened) (there ∙ ap (λ (t : Turn). t.after) r))
        ∙ (open_in (next g c).S (next g c).table k o).is_open))

  -- A TURN OF ANOTHER
  module _ (l : ℕ) (t : Turn) (d : l ≢ k) where
    none_made : Acts g c l t → now ≡ ms
    unfolding made_after
    none_made (asks q p o r) =
        after (on l q) (answer g c) p refl ∙ ap (λ z. one_more_of ms (z && (answer g c).made) (answer g c).message) (ne_eqb l k d)
    none_made (hears b m p e h o v r) =
        after (hear b) (answer g c) p refl
        ∙ ap (λ z. one_more_of ms (z && (answer g c).made) (answer g c).message)
        (ne_eqb (hearer g (decode_of b)) k (λ x. d (sym (ap (hearer g) e ∙ h) ∙ x)))
    none_made (opens given p n r) =
        after (manage (open_slot l given)) (answer g c) p refl ∙ ap (λ z. cond (z && accepted_b (answer g c).says) [] ms) (ne_eqb l k d)
    none_made (frees p n r) = after (manage (free_slot l)) (answer g c) p refl

  next_after : Sound g → After now
  unfolding refuses put_turn made_after
  next_after s = go (does g c) refl (effect g c)
    where
      turned : (l : ℕ) (t : Turn) → does g c ≡ put_turn g l t → sizes_ok g ≡ true → Acts g c l t → Dec (l ≡ k) → After now
      turned zero t did ok a e = absurd (omega (arith, slot_in g.S 0 (acts_in g c 0 t ok a)))
      turned (suc i) t did ok a (yes e) =
          this t (ap (λ (x : Done). x.answer) did)
          (ap (λ (x : Done). record_of_all x.group k) did ∙ ap (record_of_all (put_turn g (suc i) t).group) (sym e) ∙ put)
          (rw e at a)
        where
          put : record_of_all (put_turn g (suc i) t).group (suc i) ≡ t.after
          put = record_same g.table i t.after (omega (arith, enough g s.good, acts_high g c i t ok a))
      turned (suc i) t did ok a (no d) =
          let r = (one_record g c).others k (λ p. d (sym (p ∙ acts_slot g c (suc i) t ok a))) ∙ acts_aside g c (suc i) t (record_of_all g k) a in
          as_it_was (none_made (suc i) t d a) (ap (λ (r : Record). r.id.opened) r) (ap (λ (r : Record). r.outbound) r)

      go : (x : Done) → does g c ≡ x → Effect g c x → After now
      go x q (refuses_it n h e) =
          let r = ap (λ (d : Done). record_of_all d.group k) (q ∙ e) in
          as_it_was (ap (λ (d : Done). made_after g k ms c d.answer) (q ∙ e) ∙ none_refused c _ refl refl)
          (ap (λ (r : Record). r.id.opened) r) (ap (λ (r : Record). r.outbound) r)
      go x q (links_it i b p a e) =
          let r = ap (λ (z : Call). record_of_all (next g z) k) p ∙ (only_the_link g i b).each k in
          let m = moved_keeps g.N _ (record_of_all g k) in
          as_it_was (after (call_of i b) (answer g c) p refl ∙ none_linked i b (answer g c))
          (ap (λ (r : Record). r.id.opened) r ∙ m.opened)
          (ap (λ (r : Record). r.outbound) r ∙ m.outbound)
      go x q (samples_it l s p z e) =
          let r = ap (λ (d : Done). record_of_all d.group k) (q ∙ e) in
          as_it_was (after (manage (sample l s)) (answer g c) p refl) (ap (λ (r : Record). r.id.opened) r)
          (ap (λ (r : Record). r.outbound) r)
      go x q (puts_turn l t ok a e) = turned l t (q ∙ e) ok a (ℕ_discrete l k)

list_next : (cs : List Call) (g : Group) → Sound g → (k : ℕ) (ms : List (List ℕ)) → Next g k ms → Next (leaves g cs) k (made_from g k ms cs)
unfolding leaves made_from
list_next [] g s k ms w = w
list_next (c ∷ cs) g s k ms w = list_next cs (next g c) (sound_next g s c) k _ (next_after g c k ms w s)

-- WHAT IT TOOK, beside 2026-07's count: as many, until A is sent
abbrev AsMany : List (List ℕ) → Taken → Type 0
AsMany ms j = j.aborted ≡ false → length ms ≡ length j.numbers

or_left : (a b : Bool) → a || b ≡ false → b ≡ false
or_left true b e = absurd (false≢true (sym e))
or_left false b e = e

module _ (g : Group) (k : ℕ) (ms : List (List ℕ)) (j : Taken) (w : AsMany ms j) where
  took_heard : (b : List ℕ) (m : Message) (says : Says)
      → AsMany (one_more_of ms (not (refused_b says) && ordinary m) b) (heard_by j m says)
  took_heard b m says = go (not (refused_b says)) (not m.flags.abort) (not m.flags.failover) (breaks_b m says) j.aborted refl
    where
      go : (r a f x z : Bool) → j.aborted ≡ z
          → AsMany (one_more_of ms (r && (a && f)) b)
          (cond (r && (a && (f && not z))) (with_number j m.sequence) (record { numbers = j.numbers; aborted = x || j.aborted }))
      go true true true x false z =
          λ e.
          let l = length-append ms (b ∷ []) in
          let n = length-append j.numbers (m.sequence ∷ []) in
          let v = w z in
          omega (arith, l, n, v)
      go true true true x true z = λ e. absurd (false≢true (sym (or_left x j.aborted e) ∙ z))
      go true true false x y z = λ e. w (or_left x j.aborted e)
      go true false f x y z = λ e. w (or_left x j.aborted e)
      go false a f x y z = λ e. w (or_left x j.aborted e)

  took_message_lem : (b : List ℕ) (d : Decoded) (says : Says) → AsMany (took_message g k ms b d says) (with_message g k j d says)
  took_message_lem b (Good m) says = go (eqb (holder_of g m.token) k)
    where
      go : (t : Bool) → AsMany (one_more_of ms (t && (not (refused_b says) && ordinary m)) b) (cond t (heard_by j m says) j)
      go true = took_heard b m says
      go false = w
  took_message_lem b Malformed says = w

  took_one : (c : Call) (says : Says) → AsMany (took_after g k ms c says) (taken_after g k j c says)
  unfolding took_after taken_after
  took_one (on i q) says = go (eqb i k)
    where
      go : (t : Bool) → AsMany ms (cond t (record { numbers = j.numbers; aborted = sends_a q says || j.aborted }) j)
      go true = λ e. w (or_left (sends_a q says) j.aborted e)
      go false = w
  took_one (hear b) says = took_message_lem b (decode_of b) says
  took_one (manage (open_slot i o)) says = go (eqb i k && accepted_b says)
    where
      go : (t : Bool) → AsMany (cond t [] ms) (cond t nothing_yet j)
      go true = λ e. refl
      go false = w
  took_one (manage (free_slot i)) says = w
  took_one (manage (link_change l up b)) says = w
  took_one (manage (link_message l bytes b)) says = w
  took_one (manage (link_send l i vs b)) says = w
  took_one (manage (sample l s)) says = w

list_took : (cs : List Call) (g : Group) (k : ℕ) (ms : List (List ℕ)) (j : Taken) → AsMany ms j
    → AsMany (took_from g k ms cs) (taken_from g k j cs)
unfolding took_from taken_from
list_took [] g k ms j w = w
list_took (c ∷ cs) g k ms j w = list_took cs (next g c) k _ _ (took_one g k ms j w c (answer g c).says)

-- THE CLAIM
pub counting : Counting
counting g f cs k o =
    let n = list_next cs g (sound_fresh g f) k [] (λ z. absurd (false≢true (sym (f.closed k) ∙ z))) o in
    let i = numbers_in_order g f cs k in
    record {
      next_number_is = n;
      F_carries = omega (arith, n);
      last_number_is =
          λ a.
          i.last_number_heard o ∙ ap (λ x. x % 65536) (sym (list_took cs g k [] nothing_yet (λ e. refl) (sym (i.mark_is o) ∙ a)));
    }

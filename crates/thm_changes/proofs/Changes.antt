-- The claims of specs/Changes. Assumes nothing.
use mathlib.Core.Path.{◌≡◌, refl, sym, ap, subst, ◌∙◌}
use mathlib.Core.Logic.{◌⊎◌, inl, inr, ◌≢◌}
use mathlib.Core.Bool.{true, false≢true, cond, Bool, false, not, ◌&&◌, ◌||◌}
use Prim.Native.Nat.{ℕ, zero, suc}
use native.Mathlib.Omega.{arith}
use lib.ListN.{length}
use Rattle.group_table.specs.Table.{record_at, with_record}
use Rattle.thm_links.specs.Statements.{Call as LinkCall}
use Rattle.thm_links.proofs.Theorems.{links_touched}
use Rattle.thm_safety.specs.Links.{call_of}
use Rattle.thm_safety.proofs.Failing.{OnlyLinks, only_the_link}
use Rattle.link_failover.specs.declared.Plan.{Plan}
use Rattle.link_failover.specs.Failover.{plan_of, moved_of}
use Rattle.link_failover.proofs.Keeps.{moved_keeps}
use Rattle.link_failover.proofs.Still.{same_moved}
use Rattle.group_rules.specs.Rules.{links_of, Group, Call, Turn, Done, does, answer, refuses, put_turn, record_of_all, sizes_ok, on, request_turn, next, element_in, link_of, close, hear_turn, turn_of, says_of, refusal, heard, Answer, holder_of, Request, hear, link_change, link_message, link_send, open_slot, free_slot, sample, manage}
use Rattle.thm_order.proofs.Slots.{slot_in, record_other, table_long, memory_long, open_in, open_is, open_there, record_same}
use Rattle.thm_changes.specs.Changes.{aside_of, OneTurned, OneRecord, Touches, LinksByLinkCalls, HeardFor, Closes, ClosedBy, Forward, NeverBack, Kept, MarksStay, by_close, by_hear, by_abort, by_free, AbortAnswer, AbortHeard, slot_of_all, Closing}
use Rattle.thm_safety.proofs.Effects.{Acts, Effect, refuses_it, links_it, samples_it, puts_turn, effect, opens, open_facts, free_facts, asks, hears, frees}
use Rattle.thm_changes.proofs.Acted.{acts_slot, acts_in, is_sizes, acts_high, acts_long}
use Rattle.thm_changes.proofs.Course.{Course, goes, ends, ahead, stays, kept_by, EndsSlot, request_course, hear_course, ClosesSlot}
use Rattle.thm_safety.specs.Statement.{OpenAt}
use Rattle.conn_record.specs.declared.Record.{Record}
use Rattle.conn_record.specs.Connection.{zero_record, refusal_of, marks_to}
use Rattle.conn_answer.specs.Outcome.{refused_of, message_of, outcome_of, no_message}
use native.Mathlib.Decide.{ℕ_discrete}
use lib.Dec.{eqb}
use Rattle.cdc.specs.declared.Message.{Message}
use Rattle.closing.specs.Closing.{abort_sent}
use Rattle.conn_hear.specs.Hear.{hear_of, aborted_of, followed_of}
use Rattle.cdc.specs.Cdc.{encode_of, decode_of}
use Rattle.closing.specs.declared.State.TheVariants.{Closed}
use Rattle.thm_refusals.proofs.Answers.{clash}
use Rattle.conn_answer.specs.declared.Reply.TheVariants.{Heard}
use Rattle.conn_answer.specs.declared.Outcome.{Outcome}
use Rattle.conn_answer.proofs.Laws.{outcome_reply, closed_reply, refused_reply, outcome_made, outcome_message, closed_made, closed_message}
use mathlib.Core.List.{List}
use Rattle.cdc.specs.declared.Decoded.TheVariants.{Good}
use Rattle.thm_order.specs.Statement.{hearer}

-- a call that acts on a slot moves nothing
pub acts_aside : (g : Group) (c : Call) (k : ℕ) (t : Turn) (r : Record) → Acts g c k t → aside_of g c r ≡ r
acts_aside g c k t r (asks q p o e) = ap (λ (z : Call). aside_of g z r) p
acts_aside g c k t r (hears b m p d h o v e) = ap (λ (z : Call). aside_of g z r) p
acts_aside g c k t r (opens given p n e) = ap (λ (z : Call). aside_of g z r) p
acts_aside g c k t r (frees p n e) = ap (λ (z : Call). aside_of g z r) p

-- 1. One record
turn_one : (g : Group) (c : Call) (k : ℕ) (t : Turn) → sizes_ok g ≡ true → Acts g c k t → OneTurned g c (put_turn g k t).group
unfolding put_turn record_at
turn_one g c zero t ok a = absurd (omega (arith, slot_in g.S 0 (acts_in g c 0 t ok a)))
turn_one g c (suc i) t ok a =
    record {
      same_S = refl;
      same_N = refl;
      as_many = table_long g.table (suc i) t.after;
      as_long =
          memory_long g.N g.S g.memory (is_sizes g c (suc i) t ok).whole i (acts_high g c i t ok a) t.element (acts_long g c i t ok a);
      others = λ j d. other j (λ p. d (p ∙ sym (acts_slot g c (suc i) t ok a))) ∙ sym (acts_aside g c (suc i) t (record_of_all g j) a);
    }
  where
    other : (j : ℕ) → j ≢ suc i → record_at (with_record g.table (suc i) t.after) j ≡ record_at g.table j
    other zero d = refl
    other (suc j) d = record_other g.table i j t.after (λ p. d (ap suc p))

-- a call on the links acts on no slot
no_slot : (g : Group) (k : LinkCall) (b : List ℕ) → slot_of_all g (call_of k b) ≡ 0
no_slot g (LinkCall.change l up) b = refl
no_slot g (LinkCall.message l bytes) b = refl
no_slot g (LinkCall.send l i vs) b = refl

-- and leaves each record as failover does
linked : (g : Group) (k : LinkCall) (b : List ℕ) → OneTurned g (call_of k b) (next g (call_of k b))
linked g k b = go k (only_the_link g k b)
  where
    go : (k : LinkCall) → OnlyLinks g (next g (call_of k b)) → OneTurned g (call_of k b) (next g (call_of k b))
    go (LinkCall.change l up) o = record { same_S = o.same_S; same_N = o.same_N; as_many = o.as_many; as_long = ap (λ (m : List ℕ). length m) o.same_memory; others = λ j d. o.each j }
    go (LinkCall.message l bytes) o =
        record { same_S = o.same_S; same_N = o.same_N; as_many = o.as_many; as_long = ap (λ (m : List ℕ). length m) o.same_memory; others = λ j d. o.each j }
    go (LinkCall.send l i vs) o =
        record { same_S = o.same_S; same_N = o.same_N; as_many = o.as_many; as_long = ap (λ (m : List ℕ). length m) o.same_memory; others = λ j d. o.each j }

-- nor does a call that leaves the links
kept_aside : (g : Group) (c : Call) (r : Record) → (next g c).links ≡ g.links → aside_of g c r ≡ r
kept_aside g (on k q) r e = refl
kept_aside g (hear b) r e = refl
kept_aside g (manage (open_slot k given)) r e = refl
kept_aside g (manage (free_slot k)) r e = refl
kept_aside g (manage (link_change l up b)) r e = ap (λ (x : List Bool). moved_of g.N (plan_of g.links x) r) e ∙ same_moved g.N g.links r
kept_aside g (manage (link_message l bytes b)) r e = ap (λ (x : List Bool). moved_of g.N (plan_of g.links x) r) e ∙ same_moved g.N g.links r
kept_aside g (manage (link_send l k vs b)) r e = ap (λ (x : List Bool). moved_of g.N (plan_of g.links x) r) e ∙ same_moved g.N g.links r
kept_aside g (manage (sample l ms)) r e = refl

pub one_record : OneRecord
unfolding refuses
one_record g c = go (does g c) refl (effect g c)
  where
    as_was : (h : Group) → h ≡ g → ((r : Record) → aside_of g c r ≡ r) → OneTurned g c h
    as_was h e s =
        record {
          same_S = ap (λ (x : Group). x.S) e;
          same_N = ap (λ (x : Group). x.N) e;
          as_many = ap (λ (x : Group). length x.table) e;
          as_long = ap (λ (x : Group). length x.memory) e;
          others = λ k d. ap (λ (x : Group). record_of_all x k) e ∙ sym (s (record_of_all g k));
        }

    go : (x : Done) → does g c ≡ x → Effect g c x → OneTurned g c x.group
    go x q (refuses_it n h e) =
        as_was x.group (ap (λ (d : Done). d.group) e)
        (λ r. kept_aside g c r (ap (λ (d : Done). d.group.links) (q ∙ e)))
    go x q (links_it k b p a e) =
        subst (λ (z : Done). OneTurned g c z.group) q (subst (λ (z : Call). OneTurned g z (next g z)) (sym p) (linked g k b))
    go x q (samples_it l ms p z e) =
        rw e (record { same_S = refl; same_N = refl; as_many = refl; as_long = refl; others = λ k d. sym (ap (λ (z : Call). aside_of g z (record_of_all g k)) p) })
    go x q (puts_turn k t s a e) =
        rw e (turn_one g c k t s a)

-- 2. Links
pub links_by_link_calls : LinksByLinkCalls
unfolding refuses put_turn
links_by_link_calls g c = go (does g c) refl (effect g c)
  where
    go : (x : Done) → does g c ≡ x → Effect g c x → (x.group.links ≡ g.links) ⊎ Touches g c
    go x q (refuses_it n h e) = inl (ap (λ (d : Done). d.group.links) e)
    go x q (links_it k b p a e) =
        inr (record {
          call = k;
          lent = b;
          is = p;
          touches =
              ap (λ (d : Done). d.group.links) q ∙ ap (λ (h : Group). h.links) e ∙ (links_touched (links_of g) k).0;
        })
    go x q (samples_it l ms p z e) = inl (ap (λ (d : Done). d.group.links) e)
    go x q (puts_turn k t s a e) = inl (ap (λ (d : Done). d.group.links) e)

-- WHAT A CALL MAKES OF AN OPEN SLOT'S RECORD
pub slot_0 : (g : Group) → OpenAt g 0 → ⊥
slot_0 g o = omega (arith, (open_in g.S g.table 0 o).low)

module _ (g : Group) (c : Call) (i : ℕ) (o : OpenAt g (suc i)) where
  abbrev was : Record
  was = record_of_all g (suc i)

  abbrev After : Record → Type 0
  After d = Course g.N was (Closes g c (suc i)) d

  as_it_was : (Closes g c (suc i) → ⊥) → (d : Record) → d ≡ was → After d
  as_it_was w d e =
      goes w
      (stays g.N was d (ap (λ (x : Record). x.id) e) (ap (λ (x : Record). x.inbound.producer) e)
      (ap (λ (x : Record). x.outbound.consumer) e) (kept_by was.marks d.marks (ap (λ (x : Record). x.marks) e)))

  -- a connection that moved, or stays
  moved : (Closes g c (suc i) → ⊥) → (p : Plan) (d : Record) → d ≡ moved_of g.N p was → After d
  moved w p d e =
      let k = moved_keeps g.N p was in
      goes w
      (ahead g.N was d (ap (λ (x : Record). x.id.opened) e ∙ k.opened)
      (ap (λ (x : Record). x.inbound.producer) e ∙ ap (λ x. x.producer) k.inbound)
      (ap (λ (x : Record). x.outbound.consumer) e ∙ ap (λ x. x.consumer) k.outbound)
      (kept_by was.marks d.marks (ap (λ (x : Record). x.marks) e ∙ k.marks)))

  -- a refusal closes nothing, and what closes a slot acts on it
  not_refused : (n : ℕ) → (answer g c).says ≡ refusal n → Closes g c (suc i) → ⊥
  not_refused n e (by_close p a h) = clash (cc)
  not_refused n e (by_hear m for w s v) = for.took n e
  not_refused n e (by_abort m for w) = for.took n e
  not_refused n e (by_free p a h) = clash (cc)

  closes_slot : Closes g c (suc i) → slot_of_all g c ≡ suc i
  closes_slot (by_close p a h) = ap (slot_of_all g) p
  closes_slot (by_hear m for w s v) = ap (slot_of_all g) for.is ∙ ap (hearer g) for.reads ∙ for.holder
  closes_slot (by_abort m for w) = ap (slot_of_all g) for.is ∙ ap (hearer g) for.reads ∙ for.holder
  closes_slot (by_free p a h) = ap (slot_of_all g) p

  elsewhere : slot_of_all g c ≢ suc i → Closes g c (suc i) → ⊥
  elsewhere d w = d (closes_slot w)

  -- another reason for the same
  because : (Why : Type 0) (d : Record) → (Why → Closes g c (suc i)) → (Closes g c (suc i) → Why) → Course g.N was Why d → After d
  because Why d f h (goes w a) = goes (λ x. w (h x)) a
  because Why d f h (ends w z) = ends (f w) z

  module _ (t : Turn) (did : does g c ≡ put_turn g (suc i) t) where
    said : (answer g c).says ≡ t.answer.says
    unfolding put_turn
    said = ap (λ (d : Done). d.answer.says) did

    asked : (q : Request) → c ≡ on (suc i) q → t ≡ request_turn g.N (link_of g (suc i)) was (element_in g (suc i)) q → After t.after
    asked q p r =
        because (ClosesSlot was q t.answer.says) t.after
        (λ w. by_close (p ∙ ap (on (suc i)) w.0) (said ∙ w.1) w.2) back
        (rw r (request_course g.N (link_of g (suc i)) was (element_in g (suc i)) q))
      where
        back : Closes g c (suc i) → ClosesSlot was q t.answer.says
        back (by_close e a h) = (let x : q ≡ close = cc in x, sym said ∙ a, h)
        back (by_hear m for w s v) = let e = for.is in clash (cc)
        back (by_abort m for w) = let e = for.is in clash (cc)
        back (by_free e a h) = clash (cc)

    hears_it : (b : List ℕ) (m : Message) → c ≡ hear b → decode_of b ≡ Good m → holder_of g m.token ≡ suc i
        → t ≡ hear_turn g.N (link_of g (suc i)) was (element_in g (suc i)) m → After t.after
    hears_it b m p d h r =
        because (EndsSlot was m t.answer.says) t.after why back
        (rw r (hear_course g.N (link_of g (suc i)) was m (element_in g (suc i))))
      where
        for : ((k : ℕ) → t.answer.says ≡ refusal k → ⊥) → HeardFor g c (suc i) m
        for w = record { bytes = b; is = p; reads = d; holder = h; took = λ n e. w n (sym said ∙ e) }

        why : EndsSlot was m t.answer.says → Closes g c (suc i)
        why w = go w.1
          where
            go : (m.flags.abort ≡ true)
                ⊎ (((was.marks.heard.closed || m.flags.closed) && was.marks.sent.closed ≡ true) × (was.marks.abort ≡ false) × (m.flags.failover ≡ false))
                → Closes g c (suc i)
            go (inl a) = by_abort m (for w.0) a
            go (inr a) = by_hear m (for w.0) a.0 a.1 a.2

        -- the message heard is the one that the call's bytes are
        one : (n : Message) → HeardFor g c (suc i) n → n ≡ m
        one n f = let e = f.is in let u = f.reads in let v : b ≡ f.bytes = cc in cc

        taken : (n : Message) → HeardFor g c (suc i) n → (k : ℕ) → t.answer.says ≡ refusal k → ⊥
        taken n f k e = f.took k (said ∙ e)

        back : Closes g c (suc i) → EndsSlot was m t.answer.says
        back (by_close e a h) = clash (cc)
        back (by_hear n f w s v) = (taken n f, inr (rw (one n f) at w, s, rw (one n f) at v))
        back (by_abort n f w) = (taken n f, inl (rw (one n f) at w))
        back (by_free e a h) = clash (cc)

    by_acts : Acts g c (suc i) t → After t.after
    by_acts (asks q p o r) = asked q p r
    by_acts (hears b m p d h o w r) = hears_it b m p d h r
    by_acts (opens given p n r) =
        absurd (false≢true (sym (open_facts g (suc i) given n).was_closed ∙ (open_in g.S g.table (suc i) o).is_open))
    by_acts (frees p n r) =
        ends (by_free p (said ∙ ap (λ (t : Turn). t.answer.says) r) (free_facts g (suc i) n).aborted) (ap (λ (t : Turn). t.after) r)

  pub slot_course : After (record_of_all (next g c) (suc i))
  unfolding refuses put_turn record_at
  slot_course = go (does g c) refl (effect g c)
    where
      this : (t : Turn) → record_of_all (put_turn g (suc i) t).group (suc i) ≡ t.after
      this t = record_same g.table i t.after (open_there g.table i (open_in g.S g.table (suc i) o).is_open)

      turned : (k : ℕ) (t : Turn) → does g c ≡ put_turn g k t → sizes_ok g ≡ true → Acts g c k t → Dec (suc i ≡ k)
          → After (record_of_all (next g c) (suc i))
      turned k t did ok a (yes e) =
          let q = ap (λ (d : Done). record_of_all d.group (suc i)) (rw (← e) at did) ∙ this t in
          rw q (by_acts t (rw (← e) at did) (rw (← e) at a))
      turned k t did ok a (no d) =
          let s = acts_slot g c k t ok a in
          as_it_was (elsewhere (λ p. d (sym p ∙ s))) _ ((one_record g c).others (suc i) (λ p. d (p ∙ s)) ∙ acts_aside g c k t was a)

      go : (x : Done) → does g c ≡ x → Effect g c x → After (record_of_all (next g c) (suc i))
      go x q (refuses_it n h e) =
          as_it_was (not_refused n (ap (λ (d : Done). d.answer.says) (q ∙ e))) _ (ap (λ (d : Done). record_of_all d.group (suc i)) (q ∙ e))
      go x q (links_it k b p a e) =
          moved (elsewhere (λ z. omega (arith, sym (ap (slot_of_all g) p ∙ no_slot g k b) ∙ z))) _ _
          (ap (λ (z : Call). record_of_all (next g z) (suc i)) p ∙ (only_the_link g k b).each (suc i))
      go x q (samples_it l ms p y e) =
          as_it_was (elsewhere (λ z. omega (arith, sym (ap (slot_of_all g) p) ∙ z))) _ (ap (λ (d : Done). record_of_all d.group (suc i)) (q ∙ e))
      go x q (puts_turn k t s a e) = turned k t (q ∙ e) s a (ℕ_discrete (suc i) k)

-- 4. Closing
pub closed_by : ClosedBy
closed_by g c zero o = absurd (slot_0 g o)
closed_by g c (suc i) o = go (slot_course g c i o)
  where
    go : Course g.N (record_of_all g (suc i)) (Closes g c (suc i)) (record_of_all (next g c) (suc i)) → Closing g c (suc i)
    go (goes w a) =
        let v = open_in g.S g.table (suc i) o in
        record {
          only_by =
              inl (open_is (next g c).S (next g c).table (suc i) (rw (one_record g c).same_S v.slot)
              (a.same_opened ∙ v.is_open));
          zeroed = λ x. absurd (w x);
        }
    go (ends w z) = record { only_by = inr w; zeroed = λ x. z }

-- 5. Cursors
pub never_back : NeverBack
unfolding zero_record
never_back g c zero o h = absurd (slot_0 g o)
never_back g c (suc i) o h = go (slot_course g c i o)
  where
    go : Course g.N (record_of_all g (suc i)) (Closes g c (suc i)) (record_of_all (next g c) (suc i)) → Forward g (next g c) (suc i)
    go (goes w a) = record { P_forward = a.P_ahead; R_forward = a.R_ahead; P_stays = a.P_still }
    go (ends w z) =
        absurd (false≢true (sym (ap (λ (x : Record). x.id.opened) z) ∙ (open_in (next g c).S (next g c).table (suc i) h).is_open))

-- 6. Marks
pub marks_stay : MarksStay
unfolding zero_record
marks_stay g c zero o h = absurd (slot_0 g o)
marks_stay g c (suc i) o h = go (slot_course g c i o)
  where
    go : Course g.N (record_of_all g (suc i)) (Closes g c (suc i)) (record_of_all (next g c) (suc i))
        → Kept (record_of_all g (suc i)).marks (record_of_all (next g c) (suc i)).marks
    go (goes w a) = a.kept
    go (ends w z) =
        absurd (false≢true (sym (ap (λ (x : Record). x.id.opened) z) ∙ (open_in (next g c).S (next g c).table (suc i) h).is_open))

-- 7. A heard
abbrev aborted : Record → Record
aborted c = marks_to c (abort_sent c.marks)

record Aborts (c : Record) (o : Outcome) : Type 0 where
  says_closed : says_of o.reply ≡ heard 0 Closed
  made_once : o.made ≡ not c.marks.abort
  has_A : o.made ≡ true → o.message ≡ encode_of (message_of (aborted c))

aborts : (c : Record) → Aborts c (aborted_of c)
unfolding aborted_of
aborts c =
    let t = not c.marks.abort in
    let r = Heard 0 Closed in
    let o = outcome_of r t (aborted c) in
    let made = closed_made true o ∙ outcome_made r t (aborted c) in
    record {
      says_closed = ap says_of (closed_reply true o ∙ outcome_reply r t (aborted c));
      made_once = made;
      has_A =
          λ e.
          closed_message true o
          ∙ outcome_message r t (aborted c)
          ∙ ap (λ z. cond z (encode_of (message_of (aborted c))) no_message) (sym made ∙ e);
    }

hear_aborts : (n : ℕ) (a : Bool) (c : Record) (m : Message) → m.flags.abort ≡ true
    → ((k : ℕ) → says_of (hear_of n a c m).reply ≡ refusal k → ⊥)
    → Aborts c (hear_of n a c m)
unfolding hear_of
hear_aborts n a c m e h = go (eqb (refusal_of n a c false) 0) h
  where
    tested : Bool → Outcome
    tested z = cond z (cond m.flags.abort (aborted_of c) (followed_of n c m)) (refused_of (refusal_of n a c false) c)

    go : (z : Bool) → ((k : ℕ) → says_of (tested z).reply ≡ refusal k → ⊥) → Aborts c (tested z)
    go true h = rw e (aborts c)
    go false h = absurd (h (refusal_of n a c false) (ap says_of (refused_reply (refusal_of n a c false) c)))

pub abort_heard : AbortHeard
unfolding refuses put_turn hear_turn turn_of message_of marks_to abort_sent
abort_heard g c k m for a = go (does g c) refl (effect g c)
  where
    turn : Turn
    turn = hear_turn g.N (link_of g k) (record_of_all g k) (element_in g k) m

    this : answer g c ≡ turn.answer → AbortAnswer g c k
    this e =
        let w =
        hear_aborts g.N (link_of g k) (record_of_all g k) m a (λ n p. for.took n (ap (λ (x : Answer). x.says) e ∙ p))
        in
        record {
          says_closed = ap (λ (x : Answer). x.says) e ∙ w.says_closed;
          made_once = ap (λ (x : Answer). x.made) e ∙ w.made_once;
          has_A =
              λ p.
              let bytes = w.has_A (ap (λ (x : Answer). x.made) (sym e) ∙ p) in
              (message_of (aborted (record_of_all g k)), ap (λ (x : Answer). x.message) e ∙ bytes, refl, refl);
        }

    by : (j : ℕ) (t : Turn) → does g c ≡ put_turn g j t → Acts g c j t → AbortAnswer g c k
    by j t did (asks q p o r) = let w = for.is in clash (cc)
    by j t did (hears b n p d h o w r) =
        let s : b ≡ for.bytes = let z = for.is in cc in
        let u : n ≡ m = let z = for.reads in cc in
        let v : j ≡ k = sym h ∙ ap (λ (x : Message). holder_of g x.token) u ∙ for.holder in
        let said =
        ap (λ (d : Done). d.answer) did
        ∙ ap (λ (t : Turn). t.answer) r
        ∙ (λ i. (hear_turn g.N (link_of g (v i)) (record_of_all g (v i)) (element_in g (v i)) (u i)).answer)
        in
        this said
    by j t did (opens given p n r) = let w = for.is in clash (cc)
    by j t did (frees p n r) = let w = for.is in clash (cc)

    go : (x : Done) → does g c ≡ x → Effect g c x → AbortAnswer g c k
    go x q (refuses_it n h e) = absurd (for.took n (ap (λ (d : Done). d.answer.says) (q ∙ e)))
    go x q (links_it k b p a e) = let w = for.is in clash (cc)
    go x q (samples_it l ms p z e) = let w = for.is in clash (cc)
    go x q (puts_turn j t s a e) = by j t (q ∙ e) a

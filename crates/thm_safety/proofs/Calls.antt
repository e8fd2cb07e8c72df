-- What a call does to a sound group: no slot is touched, or one turn is put back, with a record that is coherent or closed and an element that
-- is intact and holds what it must; and it answers neither refusal 3 nor "torn". Assumes nothing.
use mathlib.Core.Path.{◌≡◌, refl, sym, ap, ◌∙◌}
use mathlib.Core.Logic.{◌⊎◌, inl, inr, ◌≢◌}
use mathlib.Core.Bool.{Bool, true, false, false≢true, cond}
use mathlib.Core.List.{List}
use Prim.Native.Nat.{ℕ, zero, suc, ◌<◌, ◌≤◌}
use native.Mathlib.Omega.{arith}
use lib.Dec.{leb}
use lib.ListN.{length}
use borrow.Author.Tests.{eq-eqb, ne_eqb, leb-true}
use Rattle.cdc.specs.declared.Message.{Message}
use Rattle.element.specs.Element.{intact_b}
use Rattle.element.proofs.Others.{fresh_length, fresh_intact}
use Rattle.conn_record.specs.Connection.{coherent_b, zero_record}
use Rattle.conn_record.proofs.Laws.{and_left, and_right, opened_coherent}
use Rattle.conn_record.specs.declared.Opening as Given
use Rattle.group_rules.specs.Rules.{Group, Request, open_slot, free_slot, sample, Call, on, hear, manage, refusal, accepted, torn, Turn, turn_of, request_turn, hear_turn, Done, does, refuses, put_turn, record_of_all, element_in, link_of, links_of}
use Rattle.thm_order.proofs.Records.{long_by}
use Rattle.thm_order.proofs.Near.{enough}
use Rattle.thm_order.proofs.Slots.{slot_in, open_in, element_long, Put, put}
use Rattle.thm_safety.specs.Statement.{OpenAt, accepted_b, changed_by}
use Rattle.thm_refusals.specs.Refusals.{lent_out}
use Rattle.thm_refusals.proofs.Answers.{clash}
use Rattle.thm_safety.proofs.Effects.{Openable, open_facts, open_turn, free_facts, free_turn, Acts, asks, hears, opens, frees, Incoherent, Effect, refuses_it, links_it, samples_it, puts_turn, Quiet, resampled}
use Rattle.thm_links.specs.Statements.{Call as LinkCall}
use Rattle.thm_safety.specs.Links.{call_of}
use Rattle.thm_safety.proofs.Effects
use Rattle.conn_record.specs.declared.Record.{Record}
use Rattle.group_table.specs.declared.Links.{Links}
use Rattle.link_failover.specs.declared.Plan.{Plan}
use Rattle.link_failover.specs.Failover.{plan_of, moved_of, moved_all}
use Rattle.link_failover.proofs.Keeps.{moved_keeps, moved_at}
use Rattle.group_table.specs.Table.{record_at}
use Rattle.link_failover.proofs.Still.{moved_coherent, plan_most}
use Rattle.thm_links.specs.Statements as Link
use Rattle.thm_safety.specs.Links.{relinked}
use Rattle.thm_safety.proofs.Invariant.{Sound, no_slot_0, sizes}
use Rattle.thm_safety.proofs.Turns.{Kept, same, request, heard}

-- it opened slot k
pub record Opening (g : Group) (c : Call) (k : ℕ) (x : Done) : Type 0 where
  pub given : Given.Opening
  pub is : c ≡ manage (open_slot k given)
  pub took : x.answer.says ≡ accepted

-- what slot k's element must hold after it
abbrev held_by_of : Group → Call → Done → ℕ → List ℕ → List ℕ
held_by_of g c x k e = cond (accepted_b x.answer.says) (changed_by g.N k c e) e

-- no slot is touched, but that its link may be another (request 2026-13)
pub record Untouched (g : Group) (c : Call) (x : Done) : Type 0 where
  pub same_S : x.group.S ≡ g.S
  pub same_N : x.group.N ≡ g.N
  pub same_open : (j : ℕ) → (record_of_all x.group j).id.opened ≡ (record_of_all g j).id.opened
  pub still_coherent : (j : ℕ) → coherent_b g.N (record_of_all g j) ≡ true → coherent_b g.N (record_of_all x.group j) ≡ true
  pub same_memory : x.group.memory ≡ g.memory
  pub same_held : (k : ℕ) (e : List ℕ) → held_by_of g c x k e ≡ e

-- the turn t is put back in slot i + 1
pub record Turned (g : Group) (c : Call) (x : Done) (i : ℕ) (t : Turn) : Type 0 where
  pub back : Put g i t x.group
  pub left_record : (t.after ≡ zero_record) ⊎ (coherent_b g.N t.after ≡ true)
  pub left_eye : intact_b t.element ≡ true
  pub left_held : t.element ≡ held_by_of g c x (suc i) (element_in g (suc i))
  pub others_held : (j : ℕ) (e : List ℕ) → j ≢ i → held_by_of g c x (suc j) e ≡ e
  pub was_open : OpenAt g (suc i) ⊎ Opening g c (suc i) x

pub record Does (g : Group) (c : Call) (x : Done) : Type 0 where
  pub effect : Untouched g c x ⊎ ((i : ℕ) × (t : Turn) × Turned g c x i t)
  pub not_3 : x.answer.says ≡ refusal 3 → ⊥
  pub not_torn : x.answer.says ≡ torn → ⊥

module _ (g : Group) (s : Sound g) where
  -- a refusal
  refused : (c : Call) (n : ℕ) (out : List ℕ) → Incoherent g n → Does g c (refuses g n out)
  unfolding refuses
  refused c n out h =
      record {
        effect = inl (record { same_S = refl; same_N = refl; same_open = λ j. refl; still_coherent = λ j e. e; same_memory = refl; same_held = λ k e. refl });
        not_3 = λ e. let w = h (cc) in not_here w.0 w.1 w.2;
        not_torn = λ e. clash (cc);
      }
    where
      not_here : (k : ℕ) → OpenAt g k → coherent_b g.N (record_of_all g k) ≡ false → ⊥
      not_here zero o e = no_slot_0 g o
      not_here (suc i) o e = false≢true (sym e ∙ s.coherent i o)

  -- a call on the links touches no slot, but that connections may move
  aside : (c : Call) (x : Done) (k : LinkCall) (b : List ℕ) → c ≡ call_of k b → Quiet x.answer.says → x.group ≡ relinked g k → Does g c x
  aside c x k b p a r =
      record {
        effect =
            inl
            (record {
              same_S = ap (λ (h : Group). h.S) r;
              same_N = ap (λ (h : Group). h.N) r;
              same_open = λ j. ap (λ (h : Group). (record_of_all h j).id.opened) r ∙ ap (λ (c : Record). c.id.opened) (here j) ∙ (moved_keeps g.N plan (record_of_all g j)).opened;
              still_coherent =
                  λ j e.
                  ap (λ (h : Group). coherent_b g.N (record_of_all h j)) r
                  ∙ ap (coherent_b g.N) (here j)
                  ∙ moved_coherent g.N plan (record_of_all g j) (plan_most g.links after.active) e;
              same_memory = ap (λ (h : Group). h.memory) r;
              same_held = λ s e. rw p (held k s e (accepted_b x.answer.says));
            });
        not_3 = a.not_refused 3;
        not_torn = a.not_torn;
      }
    where
      after : Links
      after = Link.next (links_of g) k

      plan : Plan
      plan = plan_of g.links after.active

      here : (j : ℕ) → record_at (moved_all g.N plan g.table) j ≡ moved_of g.N plan (record_of_all g j)
      here j = moved_at g.N plan g.table j

      held : (k : LinkCall) (s : ℕ) (e : List ℕ) (t : Bool) → cond t (changed_by g.N s (call_of k b) e) e ≡ e
      held (LinkCall.change l up) s e t = same t e
      held (LinkCall.message l bytes) s e t = same t e
      held (LinkCall.send l i vs) s e t = same t e

  sampled_aside : (l ms : ℕ) → Does g (manage (sample l ms)) (resampled g l ms)
  sampled_aside l ms =
      record {
        effect = inl (record { same_S = refl; same_N = refl; same_open = λ j. refl; still_coherent = λ j e. e; same_memory = refl; same_held = λ k e. refl });
        not_3 = λ e. clash (cc);
        not_torn = λ e. clash (cc);
      }

  -- a turn put back in slot i + 1
  turned : (c : Call) (i : ℕ) (t : Turn) → i < g.S → length t.element ≡ g.N
      → Kept g.N (held_by_of g c (put_turn g (suc i) t) (suc i) (element_in g (suc i))) t
      → ((j : ℕ) (e : List ℕ) → j ≢ i → changed_by g.N (suc j) c e ≡ e)
      → OpenAt g (suc i) ⊎ Opening g c (suc i) (put_turn g (suc i) t)
      → Does g c (put_turn g (suc i) t)
  unfolding put_turn
  turned c i t l fits k others o =
      record {
        effect =
            inr (
              i,
              t,
              record {
                back = put g i t (sizes g s).whole l (omega (arith, enough g s.good)) fits;
                left_record = k.kept_record;
                left_eye = k.kept_eye;
                left_held = k.kept_held;
                others_held = λ j e d. rw (others j e d) (same (accepted_b t.answer.says) e);
                was_open = o;
              },
            );
        not_3 = k.not_3;
        not_torn = k.not_torn;
      }

  -- an open slot's element
  module _ (i : ℕ) (o : OpenAt g (suc i)) where
    abbrev e : List ℕ
    e = element_in g (suc i)

    high : i < g.S
    high = (open_in g.S g.table (suc i) o).high

    long : length e ≡ g.N
    long = element_long g.N g.S g.memory (sizes g s).whole i high

    asked : (q : Request)
        → Does g (on (suc i) q) (put_turn g (suc i) (request_turn g.N (link_of g (suc i)) (record_of_all g (suc i)) e q))
    unfolding put_turn
    asked q =
        let t = request_turn g.N (link_of g (suc i)) (record_of_all g (suc i)) e q in
        let fits = long_by g.N (link_of g (suc i)) (record_of_all g (suc i)) e long (on (suc i) q) in
        let k = request g.N (link_of g (suc i)) (record_of_all g (suc i)) e long (s.coherent i o) (s.intact i o) q in
        turned (on (suc i) q) i t high fits (rw (eq-eqb (suc i) (suc i) refl) k)
        (λ j e d. rw (ne_eqb (suc i) (suc j) (λ p. d (omega (arith, p)))))
        (inl o)

    heard_it : (b : List ℕ) (m : Message)
        → Does g (hear b) (put_turn g (suc i) (hear_turn g.N (link_of g (suc i)) (record_of_all g (suc i)) e m))
    unfolding put_turn hear_turn turn_of
    heard_it b m =
        turned (hear b) i (hear_turn g.N (link_of g (suc i)) (record_of_all g (suc i)) e m) high long
        (heard g.N (link_of g (suc i)) (record_of_all g (suc i)) e long (s.coherent i o) (s.intact i o) m) (λ j e d. refl) (inl o)

    freed : Does g (manage (free_slot (suc i))) (put_turn g (suc i) (free_turn g (suc i)))
    unfolding put_turn
    freed =
        turned (manage (free_slot (suc i))) i (free_turn g (suc i)) high long
        (record { kept_record = inl refl; kept_eye = s.intact i o; kept_held = refl; not_3 = λ e. clash (cc); not_torn = λ e. clash (cc) })
        (λ j e d. refl) (inl o)

  opened : (i : ℕ) (given : Given.Opening) → Openable g (suc i) given
      → Does g (manage (open_slot (suc i) given)) (put_turn g (suc i) (open_turn g given))
  unfolding put_turn
  opened i given f =
      let four : 4 ≤ g.N = omega (arith, (sizes g s).least) in
      let ok =
      opened_coherent g.N given (sizes g s).least f.own_some f.peer_some
      (leb-true 1 given.link (and_left (leb 1 given.link) (leb given.link 4) f.link_in_lem))
      (leb-true given.link 4 (and_right (leb 1 given.link) (leb given.link 4) f.link_in_lem)) f.remote_ok_lem
      in
      turned (manage (open_slot (suc i) given)) i (open_turn g given) (slot_in g.S (suc i) f.slot).1
      (fresh_length g.N four)
      (record {
        kept_record = inr ok;
        kept_eye = fresh_intact g.N four;
        kept_held = rw (eq-eqb (suc i) (suc i) refl);
        not_3 = λ e. clash (cc);
        not_torn = λ e. clash (cc);
      })
      (λ j e d. rw (ne_eqb (suc i) (suc j) (λ p. d (omega (arith, p)))))
      (inr (record { given = given; is = refl; took = refl }))

  acts_does : (c : Call) (k : ℕ) (t : Turn) → Acts g c k t → Does g c (put_turn g k t)
  acts_does c zero t (asks q p o r) = absurd (no_slot_0 g o)
  acts_does c zero t (hears b m p d h o w r) = absurd (no_slot_0 g o)
  acts_does c zero t (opens given p n r) =
      absurd (omega (arith, slot_in g.S 0 (open_facts g 0 given n).slot))
  acts_does c zero t (frees p n r) = absurd (no_slot_0 g (free_facts g 0 n).is_open)
  acts_does c (suc i) t (asks q p o r) = rw (p, r) (asked i o q)
  acts_does c (suc i) t (hears b m p d h o w r) = rw (p, r) (heard_it i o b m)
  acts_does c (suc i) t (opens given p n r) =
      rw (p, r) (opened i given (open_facts g (suc i) given n))
  acts_does c (suc i) t (frees p n r) = rw (p, r) (freed i (free_facts g (suc i) n).is_open)

  pub call_does : (c : Call) → Does g c (does g c)
  call_does c = go (does g c) (Effects.effect g c)
    where
      go : (x : Done) → Effect g c x → Does g c x
      go x (refuses_it n h e) = rw e (refused c n (lent_out c) h)
      go x (links_it k b p a e) = aside c x k b p a e
      go x (samples_it l ms p z e) = rw (p, e) (sampled_aside l ms)
      go x (puts_turn k t z a e) = rw e (acts_does c k t a)

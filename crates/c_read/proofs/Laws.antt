-- What the proof of `fordlinnet_make_read` cites. Assumes nothing.
use Prim.Native.Nat.{ℕ, zero, suc, ◌<◌, ◌≤◌}
use mathlib.Core.Path.{◌≡◌, refl, sym, ap, ◌∙◌, subst}
use mathlib.Core.Bool.{Bool, true, false, ◌||◌, cond}
use mathlib.Core.List.{List, []}
use native.Mathlib.Omega.{arith}
use lib.Dec.{eqb}
use lib.ListN.{length, get_or, set}
use Rattle.cdc.specs.Cdc.{encode_of}
use Rattle.element.specs.Element.{base_of, intact_at}
use Rattle.element.specs.Element as Element
use Rattle.conn_record.specs.declared.Record.{Record}
use Rattle.conn_answer.specs.declared.Outcome.{Outcome}
use Rattle.conn_record.specs.Connection.{zero_record, marks_to}
use Rattle.conn_answer.specs.Outcome.{no_message, message_of}
use Rattle.conn_receive.specs.Receive.{read_forbids, read_of}
use Rattle.group_table.specs.declared.Links.{Links}
use Rattle.group_table.specs.declared.Turned.{Turned}
use Rattle.group_table.specs.Table.{sizes_b, index_of, record_at, with_record, active_b, found_of_all, settled_by}
use Rattle.group_table.proofs.Laws.{record_kept}
use Rattle.group_table.proofs.SlotsLaws.{record_at_returns, record_at_returns_2, put_record_returns, put_record_returns_2}
use Rattle.group_rules.specs.Rules.{on, read, Answer, answer, Did, links_of, group_of, answer_of}
use Rattle.group_calls.proofs.Bytes.{read_none}
use Rattle.group_calls.proofs.ReceivingLaws.{read_did}
use Rattle.plan.specs.declared.LinkStates.{LinkStates}
use Rattle.plan.specs.Direct.{held_of, refusal_at, marks_left}
use Rattle.plan.proofs.Laws.{links_stay}
use Rattle.plan.specs.DirectMade.{InEveryGroup}
use Rattle.plan.proofs.DirectMadeLaws.{made_by, told_same}
use Rattle.plan_read.specs.declared.ReadAnswer.{ReadAnswer}
use Rattle.plan_read.specs.declared.Reading.{Reading}
use Rattle.plan_read.specs.Reading.{refused_answer, refused_reading, torn_reading, took_of, reading_of, inbound_left, outbound_left, record_left, moved_of, message_left, copied_by}
use Rattle.c_read.specs.ReadLeft.{LeftBy}
use Rattle.c_read.specs.DirectRead.{read_answer_of, ReadMade, says_in, NothingLost}
use Rattle.c_read.proofs.Agree.{Agrees, agree, refused_agree}

-- A REFUSED READING leaves its record as it was
or-false : (a : Bool) → a || false ≡ a
or-false true = refl
or-false false = refl

left_refused : (rec : Record) (first : ℕ) → record_left rec (refused_reading first rec.inbound.consumer) ≡ rec
unfolding record_left inbound_left outbound_left marks_left marks_to
left_refused rec first =
    ap (λ (a : Bool). marks_to rec (record { sent = rec.marks.sent; heard = rec.marks.heard; first = rec.marks.first; abort = a }))
    (or-false rec.marks.abort)

either : (b : Bool) (x y : Record) → x ≡ y → x ≡ cond b x y
either true x y e = refl
either false x y e = e

-- so that what is put back is what the rules leave
module _ (n room : ℕ) (rec : Record) where
  picked : Bool → Bool → Reading
  picked forbids intact =
      let c = rec.inbound.consumer in
      cond forbids (refused_reading 7 c) (cond intact (took_of n rec.inbound room) (torn_reading c))

  abbrev Stays : Reading → Type 0
  Stays t = record_left rec t ≡ cond (eqb t.said.refusal 0) (record_left rec t) rec

  stays_refused : (k : ℕ) → Stays (refused_reading k rec.inbound.consumer)
  stays_refused k = either (eqb k 0) (record_left rec (refused_reading k rec.inbound.consumer)) rec (left_refused rec k)

  stays : (forbids intact : Bool) → Stays (picked forbids intact)
  unfolding took_of picked
  stays true intact = stays_refused 7
  stays false true = refl
  stays false false = refl

  left_either : (intact : Bool) → Stays (reading_of n intact rec room)
  unfolding reading_of picked
  left_either intact = stays (read_forbids rec.marks) intact

-- THE READ
module _ (s n : ℕ) (m : List ℕ) (t : List Record) (states : LinkStates) (k : ℕ) (out b : List ℕ) where
  abbrev held : ℕ
  held = cond (sizes_b s n (length m) (length t)) (held_of s n states.active k (record_at t k)) 1

  held_is : refusal_at s n (length m) t states.active k ≡ held
  unfolding refusal_at
  held_is = refl

  abbrev active : Bool
  active = active_b states.active (record_at t k).id.link

  abbrev j : ℕ
  j = found_of_all s n (length m) (length t) k (record_at t k)

  abbrev whole : Bool
  whole = intact_at m (base_of n k)

  abbrev o : Outcome
  o = read_of n active (record_at t k) whole (length out)

  -- what is promised of an answer r, a table u, the out bytes l and the 44 bytes c
  abbrev Promised : ReadAnswer → List Record → List ℕ → List ℕ → Type 0
  Promised r u l c = InEveryGroup states.active (λ (ls : Links). ReadMade (group_of s n t ls m) k out b r (group_of s n u ls m) l c)

  -- a reading that agrees with the rules' read, and what it leaves
  module _ (r : Reading) (stays : Stays n (length out) (record_at t k) r) (c : List ℕ) (ec : c ≡ message_left (record_at t k) r b)
      (u : List Record) (eu : u ≡ with_record t k (record_left (record_at t k) r)) (l : List ℕ) (el : l ≡ copied_by n m k r out)
    where
      module _ (ls : Links) (ea : ls.active ≡ states.active) (ag : Agrees (record_at t k) r (settled_by j ls (record_at t k) o)) where
        abbrev a : Turned
        a = settled_by j ls (record_at t k) o

        out-is : l ≡ Element.read_of m (base_of n k) n (record_at t k).inbound.consumer.offset r.said.count out
        unfolding copied_by
        out-is = el ∙ ap (λ (x : ℕ). Element.read_of m (base_of n k) n x r.said.count out) ag.from_is

        did : Did (group_of s n t ls m) (on k (read out)) (answer_of a.answer l)
            (group_of s n (with_record t k a.after) a.answer.links m)
        did =
            let up = ap (λ (x : List Bool). active_b x (record_at t k).id.link) (sym ea) in
            read_did s n t ls m k out (record_at t k) refl j refl active up whole refl o refl a refl
            r.said.count (sym ag.copied) l out-is

        pub did_read : Did (group_of s n t ls m) (on k (read out)) (answer_of a.answer l) (group_of s n u ls m)
        did_read =
            record {
              answered = did.answered;
              left =
                  (λ i. group_of s n ((eu ∙ ap (with_record t k) (stays ∙ sym ag.after)) i) (sym (links_stay j ls (record_at t k) o) i) m)
                  ∙ did.left;
            }

        message_is : c ≡ cond a.answer.made a.answer.message b
        unfolding message_left
        message_is =
            let bytes = encode_of (message_of (moved_of (record_at t k) r)) in
            ec
            ∙ told_same r.said.made bytes no_message b
            ∙ (λ i. cond (ag.answers i).made (sym ag.message i) b)

        reads : ReadMade (group_of s n t ls m) k out b r.said (group_of s n u ls m) l c
        reads = made_by read_answer_of b did_read ag.answers refl message_is

      made : ((ls : Links) → Agrees (record_at t k) r (settled_by j ls (record_at t k) o)) → Promised r.said u l c
      made ag ls ea = reads ls ea (ag ls)

  -- one that 1, 2, 3 and 6 do not refuse
  pub read_made : refusal_at s n (length m) t states.active k ≡ 0
      → (a : ReadAnswer) (u : List Record) (l c : List ℕ) → LeftBy n m t k out b a u l c → Promised a u l c
  read_made z a u l c (ea, eu, el, ec) =
      subst (λ (y : ReadAnswer). Promised y u l c) (sym ea)
      (made (reading_of n whole (record_at t k) (length out)) (left_either n (length out) (record_at t k) whole) c ec u eu l el
      (λ ls. agree s n (length m) (length t) k states.active (record_at t k) whole (length out) ls (sym held_is ∙ z)))

  -- one that they refuse
  pub refused_made : (refusal_at s n (length m) t states.active k ≡ 0 → ⊥)
      → (a : ReadAnswer) → a ≡ refused_answer (refusal_at s n (length m) t states.active k) → Promised a t out b
  unfolding message_left copied_by
  refused_made z a ea =
      subst (λ (x : ReadAnswer). Promised x t out b) (sym (ea ∙ ap refused_answer held_is))
      (made (refused_reading held (record_at t k).inbound.consumer) (stays_refused n (length out) (record_at t k) held) b refl t
      (sym (ap (with_record t k) (left_refused (record_at t k) held) ∙ record_kept t k)) out
      (sym (read_none m (base_of n k) n (record_at t k).inbound.consumer.offset out))
      (λ ls. refused_agree s n (length m) (length t) k states.active (record_at t k) whole (length out) ls (λ y. z (held_is ∙ y))))

  -- so nothing is lost in the struct
  module _ (ls : Links) (ea : ls.active ≡ states.active) where
    abbrev Said : Answer → Type 0
    Said a = says_in (read_answer_of a) ≡ a.says

    said_by_lem : (r : Reading) → Stays n (length out) (record_at t k) r → Agrees (record_at t k) r (settled_by j ls (record_at t k) o)
        → Said (answer (group_of s n t ls m) (on k (read out)))
    said_by_lem r stays ag =
        let d =
        did_read r stays (message_left (record_at t k) r b) refl (with_record t k (record_left (record_at t k) r)) refl (copied_by n m k r out)
        refl ls ea ag in
        subst Said d.answered (ap says_in (sym ag.answers) ∙ ag.says)

    by_held : (x : ℕ) → held ≡ x → Said (answer (group_of s n t ls m) (on k (read out)))
    by_held zero e =
        said_by_lem (reading_of n whole (record_at t k) (length out)) (left_either n (length out) (record_at t k) whole)
        (agree s n (length m) (length t) k states.active (record_at t k) whole (length out) ls e)
    by_held (suc i) e =
        said_by_lem (refused_reading held (record_at t k).inbound.consumer) (stays_refused n (length out) (record_at t k) held)
        (refused_agree s n (length m) (length t) k states.active (record_at t k) whole (length out) ls
        (λ z. absurd (omega (arith, z, e))))

    pub all_said : Said (answer (group_of s n t ls m) (on k (read out)))
    all_said = by_held held refl

pub nothing_lost : NothingLost
nothing_lost g k out = all_said g.S g.N g.memory g.table (record { active = g.links }) k out [] (links_of g) refl

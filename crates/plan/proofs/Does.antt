-- What the rules answer and leave of a call that is a step. Assumes nothing.
use mathlib.Core.Path.{◌≡◌, refl, sym, ap, ◌∙◌}
use mathlib.Core.Bool.{Bool, true, false, cond}
use mathlib.Core.List.{List}
use Prim.Native.Nat.{ℕ}
use lib.Dec.{eqb}
use lib.ListN.{length}
use Rattle.conn_record.specs.declared.Record.{Record}
use Rattle.conn_answer.specs.declared.Outcome.{Outcome}
use Rattle.group_table.specs.declared.Links.{Links}
use Rattle.group_table.specs.declared.Turned.{Turned}
use Rattle.group_table.specs.Table.{record_at, active_b, with_record, found_of_all, refused_by, kept_by_of, turned_by, settled_by}
use Rattle.group_table.proofs.Laws.{record_kept}
use Rattle.group_rules.specs.Rules.{Group, Request, Call, Answer, Done, Did, does, group_of, answer_of, turn_of, request_turn, out_of, element_in, says_of}
use Rattle.group_rules.specs.Rules as Rules
use Rattle.group_rules.proofs.Settled.{on_plain}
use Rattle.plan.specs.Direct.{refusal_at}
use Rattle.plan.specs.Step.{Step, settle_by, step_by, left_by_of, answer_by, done_by}
use Rattle.plan.proofs.Steps.{settled_after, settled_made, settled_bytes, settled_says}
use Rattle.plan.proofs.Tested.{step_held}

module _ (s n : ℕ) (tab : List Record) (ls : Links) (m : List ℕ) (k : ℕ) (q : Request) (t : Step) where
  abbrev g : Group
  g = group_of s n tab ls m

  abbrev rec : Record
  rec = record_at tab k

  abbrev up : Bool
  up = active_b ls.active rec.id.link

  abbrev j : ℕ
  j = refusal_at s n (length m) tab ls.active k

  abbrev o : Outcome
  o = step_by n up rec t

  abbrev a : Turned
  a = settled_by (found_of_all s n (length m) (length tab) k rec) ls rec o

  abbrev by : Bool → Turned
  by z = cond z (turned_by ls (settle_by rec t)) (kept_by_of rec (refused_by j ls))

  settled_is : a ≡ by (eqb j 0)
  unfolding refusal_at
  settled_is = step_held s n (length m) (length tab) k ls.active rec ls t

  -- the answer, the table and the links, by whether it was refused before
  abbrev done : Bool → Done
  done z = cond z (record { answer = answer_by t (out_of q); group = group_of s n (with_record tab k (left_by_of rec t)) ls m })
      (Rules.refuses g j (out_of q))

  answer_by_lem : (z : Bool) → answer_of (by z).answer (out_of q) ≡ (done z).answer
  unfolding turned_by kept_by_of refused_by Rules.refuses
  answer_by_lem true =
      λ i. record { says = settled_says rec t i; made = settled_made rec t i; message = settled_bytes rec t i; out = out_of q }
  answer_by_lem false = refl

  group_by : (z : Bool) → group_of s n (with_record tab k (by z).after) (by z).answer.links m ≡ (done z).group
  unfolding turned_by kept_by_of refused_by Rules.refuses
  group_by true = ap (λ (c : Record). group_of s n (with_record tab k c) ls m) (settled_after rec t)
  group_by false = ap (λ (u : List Record). group_of s n u ls m) (record_kept tab k)

  module _ (turn : request_turn n up rec (element_in g k) q ≡ turn_of o (element_in g k) (out_of q)) where
    did : Did g (Call.on k q) (answer_of a.answer (out_of q)) (group_of s n (with_record tab k a.after) a.answer.links m)
    did = on_plain s n tab ls m k q rec refl (found_of_all s n (length m) (length tab) k rec) refl up refl o a refl turn

    answered : Rules.answer g (Call.on k q) ≡ (done (eqb j 0)).answer
    answered = sym did.answered ∙ ap (λ (w : Turned). answer_of w.answer (out_of q)) settled_is ∙ answer_by_lem (eqb j 0)

    leaves : Rules.next g (Call.on k q) ≡ (done (eqb j 0)).group
    leaves =
        sym did.left ∙ ap (λ (w : Turned). group_of s n (with_record tab k w.after) w.answer.links m) settled_is
        ∙ group_by (eqb j 0)

    pub does_step : does g (Call.on k q) ≡ done_by g k j t (out_of q)
    unfolding done_by
    does_step = λ i. record { answer = answered i; group = leaves i }

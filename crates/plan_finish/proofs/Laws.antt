-- What the proofs of `finish_on` and `finish` cite. Assumes nothing.
use borrow.Author.Tests.{lt-ltb, le-ltb}
use Prim.Native.Nat.{ℕ, ◌<◌, ◌≤◌}
use mathlib.Core.Path.{◌≡◌, refl, sym, ap, ◌∙◌, subst}
use mathlib.Core.Bool.{Bool, true, false, not, cond}
use mathlib.Core.List.{List}
use native.Mathlib.Omega.{arith}
use lib.Dec.{ltb}
use lib.ListN.{length, get_or, set}
use Rattle.closing.specs.declared.Marks.{Marks}
use Rattle.conn_record.specs.declared.Record.{Record}
use Rattle.conn_record.specs.Connection.{zero_record}
use Rattle.group_table.specs.declared.Links.{Links}
use Rattle.group_table.specs.Table.{index_of, record_at, with_record}
use Rattle.group_table.proofs.Laws.{record_kept}
use Rattle.group_table.proofs.SlotsLaws.{record_at_returns, record_at_returns_2, put_record_returns, put_record_returns_2}
use Rattle.group_rules.specs.Rules.{Group, group_of}
use Rattle.plan.specs.declared.LinkStates.{LinkStates}
use Rattle.plan.specs.Direct.{refusal_at}
use Rattle.plan.specs.DirectMade.{InEveryGroup}
use Rattle.plan_finish.specs.declared.FinishAnswer.{FinishAnswer}
use Rattle.plan_finish.specs.declared.Ending.{Ending}
use Rattle.plan_finish.specs.declared.Finishing.{Finishing}
use Rattle.plan_finish.specs.declared.Finished.{Finished}
use Rattle.plan_finish.specs.Finishing.{refused_answer, plan_of, marked_record, leaves_of, silently, telling, finished_by, record_left}
use Rattle.plan_finish.specs.DirectFinish.{request_of, LeftBy, Finishes, FinishMade}
use Rattle.plan_finish.proofs.Plans.{finishes_refused, finishes_plan, no_out}

-- BY THE PLAN
module _ (what : Ending) (n : ℕ) (t : List Record) (k : ℕ) (p : Finishing) (ep : p ≡ plan_of what n (record_at t k)) (j : ℕ)
    (ej : j ≡ p.said.refusal)
  where
    abbrev rec : Record
    rec = record_at t k

    moved : (f : Finished) (u : List Record) → f ≡ finished_by rec p → u ≡ with_record t k (record_left rec p) → LeftBy what n t k f u
    moved f u ef eu = (
      ef ∙ ap (finished_by rec) ep,
      eu ∙ ap (λ (q : Finishing). with_record t k (record_left rec q)) ep,
    )

    refuses : 0 < j → ltb 0 p.said.refusal ≡ true
    refuses h = ap (ltb 0) (sym ej) ∙ lt-ltb 0 j h

    passes : j ≤ 0 → ltb 0 p.said.refusal ≡ false
    passes h = ap (ltb 0) (sym ej) ∙ le-ltb 0 j h

    pub on_refused : 0 < j → (f : Finished) → f ≡ silently p.said → LeftBy what n t k f t
    unfolding finished_by record_left
    on_refused h f ef = moved f t (ef ∙ sym (simp (refuses h))) (sym (record_kept t k) ∙ ap (with_record t k) (sym (simp (refuses h))))

    pub on_told : j ≤ 0 → (f : Finished) → f ≡ telling rec p → (closes : Bool) → closes ≡ p.closes
        → (u : List Record) → u ≡ with_record t k (leaves_of rec p.marks closes) → LeftBy what n t k f u
    unfolding finished_by record_left
    on_told h f ef closes ec u eu =
        moved f u (ef ∙ sym (simp (passes h)))
        (eu ∙ ap (λ (b : Bool). with_record t k (leaves_of rec p.marks b)) ec ∙ ap (with_record t k) (sym (simp (passes h))))

-- THE WHOLE CALL
module _ (what : Ending) (s n : ℕ) (m : List ℕ) (t : List Record) (states : LinkStates) (k j : ℕ)
    (ej : j ≡ refusal_at s n (length m) t states.active k)
  where
    abbrev Done : Finished → List Record → Type 0
    Done f u = InEveryGroup states.active (λ (ls : Links). Finishes (request_of what) (group_of s n t ls m) k f (group_of s n u ls m))

    module _ (ls : Links) (ea : ls.active ≡ states.active) where
      abbrev i : ℕ
      i = refusal_at s n (length m) t ls.active k

      same : j ≡ i
      same = ej ∙ ap (λ (l : List Bool). refusal_at s n (length m) t l k) (sym ea)

      refused_in : (j ≡ 0 → ⊥) → (f : Finished) → f ≡ silently (refused_answer j)
          → Finishes (request_of what) (group_of s n t ls m) k f (group_of s n t ls m)
      refused_in z f ef =
          subst (λ (x : Finished). Finishes (request_of what) (group_of s n t ls m) k x (group_of s n t ls m))
          (ap (λ (x : ℕ). silently (refused_answer x)) (sym same) ∙ sym ef)
          (finishes_refused what s n t ls m k (λ x. z (same ∙ x)))

      planned_in : j ≡ 0 → (f : Finished) (u : List Record) → LeftBy what n t k f u
          → Finishes (request_of what) (group_of s n t ls m) k f (group_of s n u ls m)
      planned_in z f u l =
          let w = finishes_plan what s n t ls m k (sym same ∙ z) in
          record {
            answered = l.0 ∙ w.answered;
            next_left = ap (λ (x : List Record). group_of s n x ls m) l.1 ∙ w.next_left;
          }

    pub all_refused : (j ≡ 0 → ⊥) → (f : Finished) → f ≡ silently (refused_answer j) → Done f t
    all_refused z f ef = λ ls ea. refused_in ls ea z f ef

    pub all_planned : j ≡ 0 → (f : Finished) (u : List Record) → LeftBy what n t k f u → Done f u
    all_planned z f u l = λ ls ea. planned_in ls ea z f u l

-- the same with the message in a buffer
pub finish_made : (what : Ending) (s n : ℕ) (m : List ℕ) (t : List Record) (states : LinkStates) (k : ℕ) (b : List ℕ)
    → (f : Finished) (u : List Record)
    → InEveryGroup states.active (λ (ls : Links). Finishes (request_of what) (group_of s n t ls m) k f (group_of s n u ls m))
    → (a : FinishAnswer) (c : List ℕ) → (a ≡ f.said) × (c ≡ cond f.said.made f.message b)
    → InEveryGroup states.active (λ (ls : Links). FinishMade (request_of what) (group_of s n t ls m) k b a (group_of s n u ls m) c)
finish_made what s n m t states k b f u h a c e ls ea =
    let w = h ls ea in
    record {
      answered = e.0 ∙ ap (λ (x : Finished). x.said) w.answered;
      next_left = w.next_left;
      out_is_left = sym (no_out what s n t ls m k);
      message_is_left = e.1 ∙ ap (λ (x : Finished). cond x.said.made x.message b) w.answered;
    }

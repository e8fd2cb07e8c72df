-- What shutdown, close and abort promise: the rules' calls, whatever gauges, role, exchange and queue stand beside the links' states.
-- Assumes nothing.
use Rattle.std.specs.Prelude.{ℕ, ◌≡◌, List, []}
use Rattle.conn_record.specs.declared.Record.{Record}
use Rattle.group_table.specs.Table.{record_at, with_record}
use Rattle.group_rules.specs.Rules.{Group, Answer, Request, Call, answer, next}
use Rattle.plan.specs.DirectMade.{named_in, Made}
use Rattle.plan_finish.specs.declared.FinishAnswer.{FinishAnswer}
use Rattle.plan_finish.specs.declared.Ending.{Ending}
use Rattle.plan_finish.specs.declared.Ending.TheVariants.{Shutdown, Close, Abort}
use Rattle.plan_finish.specs.declared.Finished.{Finished}
use Rattle.plan_finish.specs.Finishing.{plan_of, finished_by, record_left}

-- the call, as the rules name it
abbrev pub request_of : Ending → Request
request_of Shutdown = Request.shutdown
request_of Close = Request.close
request_of Abort = Request.abort

-- the small answer; beside it the message, 44 zeros where none is made
abbrev pub finish_answer_of : Answer → FinishAnswer
finish_answer_of a = let x = named_in a.says in record { refusal = x.refused; made = a.made; reset = x.resets }

abbrev pub finished_of : Answer → Finished
finished_of a = record { said = finish_answer_of a; message = a.message }

-- the call q on slot k of g: the answer r, the group h that it leaves, and the buffer c that it leaves of b
abbrev pub FinishMade : Request → Group → ℕ → List ℕ → FinishAnswer → Group → List ℕ → Type 0
FinishMade q g k b r h c = Made finish_answer_of g (Call.on k q) b r h [] c

-- the same with the message beside the answer, and no buffer
pub record Finishes (q : Request) (g : Group) (k : ℕ) (r : Finished) (h : Group) : Type 0 where
  pub answered : r ≡ finished_of (answer g (Call.on k q))
  pub next_left : h ≡ next g (Call.on k q)

-- one that 1, 2, 3 and 6 do not refuse, by its plan
abbrev pub LeftBy : Ending → ℕ → List Record → ℕ → Finished → List Record → Type 0
LeftBy what n t k r u =
    let rec = record_at t k in
    let p = plan_of what n rec in
    (r ≡ finished_by rec p) × (u ≡ with_record t k (record_left rec p))

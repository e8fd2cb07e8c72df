-- Document 02, 2026-08: what the code answers to a send of a head and a body. Assumes nothing.
use Rattle.std.specs.Prelude.{ℕ, ◌≡◌, List, [], ◌++◌}
use Rattle.conn_record.specs.declared.Record.{Record}
use Rattle.conn_gather.specs.Pieces.{pieces_of}
use Rattle.group_table.specs.declared.Answered.{Answered}
use Rattle.group_rules.specs.Rules.{Group, Answer, Call, on, send, gather, Did, record_of_all, answer_of, answer_in_pieces}
use Rattle.group_gather.specs.declared.Gathered.{Gathered}

abbrev pub call_of : ℕ → List ℕ → List ℕ → Call
call_of slot head body = on slot (gather head body)

-- the code's answer, with pieces in the place of placings: by the record that the call found
abbrev pub gather_answer : Record → List ℕ → List ℕ → Answered → Answer
gather_answer found head body a = answer_in_pieces (pieces_of found head body) (answer_of a [])

-- On the group g a gather of head and body is answered by r and leaves h: for all inputs, refused or not, its answer, placings too, is that
-- of a send of the joined bytes; `found` is the slot's record before the call, all zeros beyond the table; and cut by it, the answer is
-- the rules' to a gather
pub record DidGather (g : Group) (slot : ℕ) (head body : List ℕ) (r : Gathered) (h : Group) : Type 0 where
  pub as_sent : Did g (on slot (send (head ++ body))) (answer_of r.answer []) h
  pub as_found : r.found ≡ record_of_all g slot
  pub did : Did g (call_of slot head body) (gather_answer r.found head body r.answer) h

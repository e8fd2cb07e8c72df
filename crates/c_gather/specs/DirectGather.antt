-- What the gather for C and Rust promises: the rules' gather, and the rules' pieces. Assumes nothing.
use Rattle.std.specs.Prelude.{ℕ, ◌+◌, ◌≡◌, Bool, cond, List, [], ◌++◌, eqb, length}
use Rattle.conn_answer.specs.declared.Placing.{Placing}
use Rattle.conn_record.specs.declared.Record.{Record}
use Rattle.conn_send.specs.Transmit.{no_placing, placing_of}
use Rattle.conn_gather.specs.Pieces.{stretch_of}
use Rattle.group_rules.specs.Rules.{Says, refusal, gathered, Group, on, send, gather, Answer, record_of_all}
use Rattle.plan.specs.DirectMade.{Named, named_in, Made}
use Rattle.c_send.specs.DirectSend.{send_answer_of}
use Rattle.plan_gather.specs.declared.Joined.{Joined}
use Rattle.plan_gather.specs.declared.GatherAnswer.{GatherAnswer}
use Rattle.plan_gather.specs.Cutting.{in_pieces, handed_out_of}

-- THE SEND OF THE JOINED BYTES, in a small struct: its answer, and an empty placing where the record has Q after it; one that is not named is
-- all zeros
abbrev pub last_of : Record → Named → Placing
last_of rec x = cond (eqb x.refused 0) (placing_of rec (stretch_of rec x.count 0)) no_placing

abbrev pub joined_of : Record → Answer → Joined
joined_of rec a = record { sent = send_answer_of a; last = last_of rec (named_in a.says) }

-- WHAT IT SAYS, with all its pieces: n bytes make no more than n, and the empty one
unfoldable pub says_in : Joined → List ℕ → List ℕ → Says
says_in a head body =
    let n = a.sent.taken in
    cond (eqb a.sent.refusal 0) (gathered n (handed_out_of (n + 1) a head body 0)) (refusal a.sent.refusal)

abbrev pub shown_of : Answer → Says × Bool
shown_of a = (a.says, a.made)

-- On the group g, a gather of head and body on slot k, lent 44 bytes b for a message, is answered by r and leaves h and c: r is the rules'
-- answer to a send of the joined bytes in pieces, and what that says, piece by piece, is the rules' answer to the gather
pub record GatherMade (g : Group) (k : ℕ) (head body b : List ℕ) (r : GatherAnswer) (h : Group) (c : List ℕ) : Type 0 where
  pub sent : Joined
  pub as_sent : Made (joined_of (record_of_all g k)) g (on k (send (head ++ body))) b sent h [] c
  pub as_pieces : r ≡ in_pieces sent (length head)
  pub did : Made shown_of g (on k (gather head body)) b (says_in sent head body, r.made) h [] c

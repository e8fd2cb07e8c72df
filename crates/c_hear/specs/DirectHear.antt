-- What the hear for C and Rust promises: the rules' hear. Assumes nothing.
use Rattle.std.specs.Prelude.{ℕ, ◌≡◌, Bool, cond, List, [], eqb}
use Rattle.closing.specs.Closing.{state_at}
use Rattle.group_rules.specs.Rules.{Says, refusal, heard, Group, hear, Answer, answer}
use Rattle.plan.specs.DirectMade.{Named, named_in, Made}
use Rattle.plan_hear.specs.declared.HearAnswer.{HearAnswer}

-- the answer's struct: a refusal's number, whether a message is made, the state's number, how far P moved
abbrev pub hear_answer : Named → Bool → HearAnswer
hear_answer x made = record { refusal = x.refused; made = made; state = x.state; moved = x.moved }

abbrev pub hear_answer_of : Answer → HearAnswer
hear_answer_of a = hear_answer (named_in a.says) a.made

-- on the group g, a hear of the bytes, lent 44 bytes b for a message: it is answered by r and leaves h and c
abbrev pub HearMade : Group → List ℕ → List ℕ → HearAnswer → Group → List ℕ → Type 0
HearMade g bytes b r h c = Made hear_answer_of g (hear bytes) b r h [] c

-- NOTHING IS LOST in the struct: what it says is what the rules say. Proved in proofs/Laws.antt
unfoldable pub says_in : HearAnswer → Says
says_in r = cond (eqb r.refusal 0) (heard r.moved (state_at r.state)) (refusal r.refusal)

abbrev pub NothingLost : Type 0
NothingLost = (g : Group) (bytes : List ℕ) → let a = answer g (hear bytes) in says_in (hear_answer_of a) ≡ a.says

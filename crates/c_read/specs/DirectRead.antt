-- What the read for C and Rust promises: the rules' read. Assumes nothing.
use Rattle.std.specs.Prelude.{ℕ, ◌≡◌, Bool, cond, List, eqb}
use Rattle.group_rules.specs.Rules.{Says, refusal, was_read_of, torn, Group, on, read, Answer, answer}
use Rattle.plan.specs.DirectMade.{Named, named_in, Made}
use Rattle.plan_read.specs.declared.ReadAnswer.{ReadAnswer}

-- the answer's struct: a refusal's number, whether the read was torn, whether a message is made, how many bytes were read
abbrev pub read_answer : Named → Bool → ReadAnswer
read_answer x made = record { refusal = x.refused; torn = x.tears; made = made; count = x.count }

abbrev pub read_answer_of : Answer → ReadAnswer
read_answer_of a = read_answer (named_in a.says) a.made

-- on the group g, a read of slot k, lent `out` and 44 bytes b for a message: it is answered by r and leaves h, `left` and c
abbrev pub ReadMade : Group → ℕ → List ℕ → List ℕ → ReadAnswer → Group → List ℕ → List ℕ → Type 0
ReadMade g k out b r h left c = Made read_answer_of g (on k (read out)) b r h left c

-- NOTHING IS LOST in the struct: what it says is what the rules say. Proved in proofs/Laws.antt
unfoldable pub says_in : ReadAnswer → Says
says_in r = cond (eqb r.refusal 0) (cond r.torn torn (was_read_of r.count)) (refusal r.refusal)

abbrev pub NothingLost : Type 0
NothingLost = (g : Group) (k : ℕ) (out : List ℕ)
    → let a = answer g (on k (read out)) in says_in (read_answer_of a) ≡ a.says

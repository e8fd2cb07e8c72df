-- What the send and the urgent send for C and Rust promise: the rules'. Assumes nothing.
use Rattle.std.specs.Prelude.{ℕ, ◌≡◌, Bool, true, false, cond, List, [], ◌∷◌, eqb, length, take, get_or}
use Rattle.conn_send.specs.Transmit.{no_placing}
use Rattle.group_rules.specs.Rules.{Says, refusal, sent, Group, Request, Call, on, send, urgent, Answer, answer}
use Rattle.plan.specs.DirectMade.{Named, named_in, Made}
use Rattle.plan_send.specs.declared.SendAnswer.{SendAnswer}

-- the answer's struct: a refusal's number, whether a message is made, how many bytes were taken, how many placings and which; one that is
-- not named is all zeros
abbrev pub send_answer : Named → Bool → SendAnswer
send_answer x made =
    record {
      refusal = x.refused;
      made = made;
      placings = length x.placings;
      taken = x.count;
      first = get_or x.placings 0 no_placing;
      second = get_or x.placings 1 no_placing;
    }

abbrev pub send_answer_of : Answer → SendAnswer
send_answer_of a = send_answer (named_in a.says) a.made

-- on the group g, a send of the bytes on slot k, lent 44 bytes b for a message: it is answered by r and leaves h and c
abbrev pub SendMade : Group → ℕ → List ℕ → List ℕ → SendAnswer → Group → List ℕ → Type 0
SendMade g k bytes b r h c = Made send_answer_of g (on k (send bytes)) b r h [] c

-- an urgent send, the same
abbrev pub UrgentMade : Group → ℕ → List ℕ → List ℕ → SendAnswer → Group → List ℕ → Type 0
UrgentMade g k bytes b r h c = Made send_answer_of g (on k (urgent bytes)) b r h [] c

-- either, by whether it is urgent
abbrev pub request_of : Bool → List ℕ → Request
request_of true bytes = urgent bytes
request_of false bytes = send bytes

abbrev pub Sends : Bool → Group → ℕ → List ℕ → List ℕ → SendAnswer → Group → List ℕ → Type 0
Sends u g k bytes b r h c = Made send_answer_of g (on k (request_of u bytes)) b r h [] c

-- NOTHING IS LOST in the struct: what it says is what the rules say, so that two placings are all. Proved in proofs/Laws.antt
unfoldable pub says_in : SendAnswer → Says
says_in r = cond (eqb r.refusal 0) (sent r.taken (take r.placings (r.first ∷ r.second ∷ []))) (refusal r.refusal)

abbrev pub NothingLost : Type 0
NothingLost = (g : Group) (k : ℕ) (bytes : List ℕ)
    → let a = answer g (on k (send bytes)) in says_in (send_answer_of a) ≡ a.says

abbrev pub UrgentNothingLost : Type 0
UrgentNothingLost = (g : Group) (k : ℕ) (bytes : List ℕ)
    → let a = answer g (on k (urgent bytes)) in says_in (send_answer_of a) ≡ a.says

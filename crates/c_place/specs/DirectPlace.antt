-- What the place for C and Rust promises: the rules' place. Assumes nothing.
use Rattle.std.specs.Prelude.{ℕ, ◌≡◌, cond, List, [], eqb}
use Rattle.group_rules.specs.Rules.{Says, refusal, accepted, Group, Call, on, place, Answer, answer}
use Rattle.plan.specs.DirectMade.{named_in, Made}

-- the answer's number: a refusal's, or 0
abbrev pub place_answer_of : Answer → ℕ
place_answer_of a = (named_in a.says).refused

-- on the group g, a place of the bytes b at an offset of slot k: it is answered by r and leaves h
abbrev pub PlaceMade : Group → ℕ → ℕ → List ℕ → ℕ → Group → Type 0
PlaceMade g k offset b r h = Made place_answer_of g (on k (place offset b)) [] r h [] []

-- NOTHING IS LOST in the number: what it says is what the rules say. Proved in proofs/Laws.antt
unfoldable pub says_in : ℕ → Says
says_in r = cond (eqb r 0) accepted (refusal r)

abbrev pub NothingLost : Type 0
NothingLost = (g : Group) (k offset : ℕ) (b : List ℕ) → let a = answer g (on k (place offset b)) in says_in (place_answer_of a) ≡ a.says

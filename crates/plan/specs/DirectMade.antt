-- What a call on the lent table itself promises, whole: its answer is the rules' answer in a small struct, each field that the answer does
-- not name zero, and all that it leaves is what the rules leave. Assumes nothing.
use Rattle.std.specs.Prelude.{ℕ, ◌≡◌, Bool, cond, List}
use Rattle.group_table.specs.declared.Links.{Links}
use Rattle.group_rules.specs.Says.{Said, said_in}
use Rattle.group_rules.specs.Rules.{Says, Group, Call, Answer, answer, next}

-- WHAT AN ANSWER NAMES, and zero for what it does not: the refusal's number, whether a close reset and whether a read was torn, the bytes
-- taken or read, the placings, how far P moved, and the state's number
abbrev pub Named : Type 0
Named = Said

abbrev pub named_in : Says → Named
named_in = said_in

-- ONE PROMISE FOR EVERY CALL. On the group g the call q, lent 44 bytes b for a message, is answered by r, which is `of` of the rules'
-- answer, and leaves the group h, the out bytes `left` and the 44 bytes c: the message where one is made, else as they were. A call that is
-- lent no out buffer or no bytes for a message has [] there
pub record Made {R : Type 0} (of : Answer → R) (g : Group) (q : Call) (b : List ℕ) (r : R) (h : Group) (left c : List ℕ) : Type 0 where
  pub answered : r ≡ of (answer g q)
  pub next_left : h ≡ next g q
  pub out_is_left : left ≡ (answer g q).out
  pub message_is_left : c ≡ cond (answer g q).made (answer g q).message b

-- Such a call is given the links' states alone: it holds in every group that has them, whatever gauges, role, exchange and queue stand
-- beside
abbrev pub InEveryGroup : List Bool → (Links → Type 0) → Type 0
InEveryGroup active P = (links : Links) → links.active ≡ active → P links

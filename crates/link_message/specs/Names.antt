-- Request 2026-01, part 1: the names of the rows that a rule looks at or sets.
-- Assumes nothing.
use Rattle.std.specs.Prelude.{ℕ, ◌+◌, cond, List, [], ◌∷◌, eqb}
use Rattle.link_message.specs.declared.Kind.{Kind}
use Rattle.link_message.specs.declared.Kind.TheVariants.{ConfirmLink, AddLink, AddLinkContinuation, DeleteLink, ConfirmRkey, TestLink, ConfirmRkeyContinuation, DeleteRkey}
use Rattle.link_message.specs.Layouts.{most_rows}

pub data Name : Type 0 where
  R : Name
  Z : Name
  A : Name
  C : Name
  reason : Name
  link : Name
  num : Name
  mtu : Name
  mask : Name
  other : Name

-- a kind's rows behind R, in the table's order; other: no rule names it ("the count fields of 03 are not followed")
abbrev behind_r : Kind → List Name
behind_r ConfirmLink = other ∷ other ∷ other ∷ other ∷ link ∷ other ∷ other ∷ []
behind_r AddLink = Z ∷ reason ∷ other ∷ other ∷ other ∷ other ∷ link ∷ mtu ∷ other ∷ []
behind_r AddLinkContinuation = link ∷ other ∷ other ∷ other ∷ other ∷ other ∷ other ∷ other ∷ []
behind_r DeleteLink = A ∷ other ∷ link ∷ reason ∷ []
behind_r ConfirmRkey = Z ∷ C ∷ num ∷ other ∷ other ∷ other ∷ other ∷ other ∷ other ∷ other ∷ other ∷ []
behind_r TestLink = other ∷ other ∷ []
behind_r ConfirmRkeyContinuation = Z ∷ num ∷ other ∷ other ∷ other ∷ other ∷ other ∷ other ∷ other ∷ other ∷ other ∷ []
behind_r DeleteRkey = Z ∷ other ∷ mask ∷ other ∷ other ∷ other ∷ other ∷ other ∷ other ∷ other ∷ other ∷ []

-- R is the first of every kind
abbrev names_of : Kind → List Name
names_of k = R ∷ behind_r k

abbrev name_number : Name → ℕ
name_number R = 0
name_number Z = 1
name_number A = 2
name_number C = 3
name_number reason = 4
name_number link = 5
name_number num = 6
name_number mtu = 7
name_number mask = 8
name_number other = 9

abbrev row_from : ℕ → Name → List Name → ℕ
row_from i n [] = most_rows
row_from i n (x ∷ l) = cond (eqb (name_number n) (name_number x)) i (row_from (i + 1) n l)

-- the number of a kind's row of that name, from 0; 12 where it has none
abbrev pub row_of : Kind → Name → ℕ
row_of k n = row_from 0 n (names_of k)

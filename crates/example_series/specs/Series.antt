-- Calls one after the other, in code. Assumes nothing.
use Rattle.std.specs.Prelude.{List, [], ◌∷◌, ◌++◌}
use Rattle.group_table.specs.declared.Answered.{Answered}
use Rattle.group_rules.specs.Rules.{Group, Call, Answer}
use Rattle.thm_order.specs.Statement.{Made}
use Rattle.example_series.specs.declared.Two.{Two}

abbrev pub two_of : Answered → Answered → Two
two_of first second = record { first = first; second = second }

-- Two calls c, d were made from g, answered a, b and left h, the second on the group as the first left it: `Made` is what the theorem about
-- lists of calls (crate thm_order) asks of calls
abbrev pub MadeTwo : Group → Call → Call → Answer → Answer → Group → Type 0
MadeTwo g c d a b h = Made g (c ∷ d ∷ []) (a ∷ b ∷ []) h

-- what two pieces made, one after the other, is made by the list that joins them
abbrev pub Joined : Type 0
Joined =
    (g h end : Group) (cs ds : List Call) (said also : List Answer)
    → Made g cs said h → Made h ds also end → Made g (cs ++ ds) (said ++ also) end

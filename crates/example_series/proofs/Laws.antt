-- What the two calls give together, and lists that are joined. Assumes nothing.
use Prim.Native.Nat.{ℕ}
use mathlib.Core.List.{List, [], ◌∷◌}
use Rattle.conn_record.specs.declared.Record.{Record}
use Rattle.group_table.specs.declared.Links.{Links}
use Rattle.group_table.specs.declared.Answered.{Answered}
use Rattle.group_rules.specs.Rules.{Did, group_of, answer_of}
use Rattle.group_make.specs.declared.Command.{Command}
use Rattle.group_make.specs.Group.{call_of, out_left, OutKept}
use Rattle.thm_order.specs.Statement.{none_made, one_made}
use Rattle.example_series.specs.Series.{MadeTwo, Joined}

pub joined : Joined
joined g h end [] ds [] also none_made rest = rest
joined g h end (c ∷ cs) ds (a ∷ said) also (one_made d m) rest = one_made d (joined _ h end cs ds said also m rest)
joined g h end [] ds (a ∷ said) also x4 rest = elim x4 [ ]
joined g h end (c ∷ cs) ds [] also x4 rest = elim x4 [ ]

pub make_two_returns : (s n : ℕ) (m : List ℕ) (t : List Record) (ls : Links) (c : Command) (b out : List ℕ) (d : Command) (b' out' : List ℕ)
    → (a₁ : Answered) (m₁ : List ℕ) (t₁ : List Record) (o₁ : List ℕ)
    → Did (group_of s n t ls m) (call_of c b out) (answer_of a₁ (out_left c o₁)) (group_of s n t₁ a₁.links m₁)
    × OutKept c out o₁
    → (a₂ : Answered) (m₂ : List ℕ) (t₂ : List Record) (o₂ : List ℕ)
    → Did (group_of s n t₁ a₁.links m₁) (call_of d b' out') (answer_of a₂ (out_left d o₂)) (group_of s n t₂ a₂.links m₂)
    × OutKept d out' o₂
    → MadeTwo (group_of s n t ls m) (call_of c b out) (call_of d b' out') (answer_of a₁ (out_left c o₁)) (answer_of a₂ (out_left d o₂))
    (group_of s n t₂ a₂.links m₂)
    × OutKept c out o₁ × OutKept d out' o₂
make_two_returns s n m t ls c b out d b' out' a₁ m₁ t₁ o₁ d₁ a₂ m₂ t₂ o₂ d₂ = (one_made d₁.0 (one_made d₂.0 none_made), d₁.1, d₂.1)

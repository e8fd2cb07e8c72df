-- What a caller of the core promises: an example. Assumes nothing.
use Rattle.std.specs.Prelude.{ℕ, List, [], ◌∷◌}
use Rattle.conn_record.specs.declared.Record.{Record}
use Rattle.group_table.specs.declared.Answered.{Answered}
use Rattle.group_rules.specs.Rules.{Group, on, send, shutdown, answer_of, group_of}
use Rattle.thm_order.specs.Statement.{Made}
use Rattle.example_send.specs.declared.Said.{Said}

abbrev pub said_of : Answered → Answered → Said
said_of sent done = record { sent = sent; done = done }

-- Two calls were made on slot k of the group g, one after the other: a send of the bytes b, then a shutdown; t and m are the table and the
-- memory after them. Both did what the rules say, the second on the group as the first left it. `Made` is what the theorem about lists of
-- calls (crate thm_order) asks of calls.
abbrev pub LastWords : Group → ℕ → List ℕ → Said → List Record → List ℕ → Type 0
LastWords g k b r t m =
    Made g (on k (send b) ∷ on k shutdown ∷ []) (answer_of r.sent [] ∷ answer_of r.done [] ∷ [])
    (group_of g.S g.N t r.done.links m)

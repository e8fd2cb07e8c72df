-- `text_replay::link_lent` meets its contract. Assumes nothing.
use Rattle.std.proofs.Common.{ℕ, Option, List, ◌≡◌, length, take, replicate, rules, arith}
use Rattle.std.proofs.lemmas.Grind.{common_steps}
use Rattle.group_link.specs.declared.LinkCommand.{LinkCommand}
use Rattle.text_link.specs.LinkText.{values_in, room_of}
use Rattle.text_state.specs.declared.World.{World}
use Rattle.text_replay.specs.ReplayCalls.{LinkCalled}
use Rattle.text_replay.proofs.link_lent.Goals as goal

-- what the call was lent are the parts m₁, b₁ and o₁, and the values vs
lent_on : (w r : World) (c : LinkCommand) (count : ℕ) (room : Option ℕ) (m b out m₁ b₁ vs o₁ left : List ℕ)
    → LinkCalled w c m₁ b₁ vs (replicate (length o₁) 165) r left → m₁ ≡ take w.len m → b₁ ≡ take count b → vs ≡ values_in b
    → o₁ ≡ take (room_of w.s room) out
    → LinkCalled w c (take w.len m) (take count b) (values_in b) (replicate (length (take (room_of w.s room) out)) 165) r left
lent_on w r c count room m b out m₁ b₁ vs o₁ left h e f v g = rw (← e, ← f, ← v, ← g) h

pub returns : goal.returns
returns c =
    let a = c.args in
    record {
      left = c.link_called.new.buffer;
      called =
          lent_on _ _ _ a.count a.room a.mem.now a.given.now a.out.now _ _ _ _ _ c.link_called.ensures
          (first_of (search rules, grind (arith, common_steps))) (first_of (search rules, grind (arith, common_steps)))
          c.values_in-values.ensures (first_of (search rules, grind (arith, common_steps)));
      rest = first_of (search rules, grind (arith, common_steps));
    }

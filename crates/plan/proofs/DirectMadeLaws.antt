-- From the rules' answer and the group that they leave to the promise. Assumes nothing.
use mathlib.Core.Path.{◌≡◌, refl, ap, ◌∙◌}
use mathlib.Core.Bool.{Bool, true, false, cond}
use mathlib.Core.List.{List}
use Prim.Native.Nat.{ℕ}
use Rattle.group_rules.specs.Rules.{Group, Call, Answer, Did}
use Rattle.plan.specs.DirectMade.{Made}

pub made_by : {R : Type 0} (of : Answer → R) {g h : Group} {q : Call} {a : Answer} (b : List ℕ) {r : R} {left c : List ℕ}
    → Did g q a h → r ≡ of a → left ≡ a.out → c ≡ cond a.made a.message b → Made of g q b r h left c
made_by of b did er el ec =
    record {
      answered = er ∙ ap of did.answered;
      next_left = did.left;
      out_is_left = el ∙ ap (λ (x : Answer). x.out) did.answered;
      message_is_left = ec ∙ ap (λ (x : Answer). cond x.made x.message b) did.answered;
    }

-- the 44 bytes, where the answer's message is zeros unless one is made
pub told_same : (made : Bool) (x none b : List ℕ) → cond made x b ≡ cond made (cond made x none) b
told_same true x none b = refl
told_same false x none b = refl

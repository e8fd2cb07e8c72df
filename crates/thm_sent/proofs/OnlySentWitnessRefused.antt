-- Refused calls may stand: a stranger's placing outside the data (9), and a message heard again (16). By computing the rules. Assumes
-- nothing.
use mathlib.Core.Path.{◌≡◌, refl}
use mathlib.Core.Bool.{Bool, true, false, cond}
use mathlib.Core.List.{List, [], ◌∷◌, ◌++◌}
use lib.ListN.{length}
use Rattle.group_rules.proofs.Says.{says_refusal}
use Rattle.group_rules.specs.Rules.{send, place, read, on, hear}
use Rattle.thm_order.proofs.Witness.{a_group}
use Rattle.thm_changes.specs.Numbers.{refused_b}
use Rattle.thm_sent.specs.Books.{near, far, Event}
use Rattle.thm_sent.specs.OnlySent.{course}
use Rattle.thm_sent.specs.Reuse.{OwnOpen, Without, both_end, keeps, strikes, SameWithout}
use Rattle.thm_sent.proofs.Refused.{refused_may_stand}
use Rattle.thm_sent.proofs.Rules.{rules}
use Rattle.thm_sent.proofs.Lists.{Step, does, hears_at, happened, start, throughout_b, throughout_by, own_b, own_by, as_left}
use Rattle.thm_sent.proofs.Lists.{names, opens, msg}

abbrev all : List Step
all =
    opens
    ++ does near (on 1 (send (1 ∷ []))) ∷ does far (on 2 (place 4 (1 ∷ []))) ∷ does far (on 2 (place 3 (9 ∷ []))) ∷ hears_at far
    ∷ does far (hear (msg 1 9 5 4 false)) ∷ does far (on 2 (read (0 ∷ 0 ∷ []))) ∷ []

-- without its refused calls
abbrev unrefused : List Event → List Event
unrefused [] = []
unrefused (v ∷ es) = cond (refused_b v.said.says) (unrefused es) (v ∷ unrefused es)

without : (es : List Event) → Without es (unrefused es)
without [] = both_end
without (v ∷ es) = go (refused_b v.said.says) refl (without es)
  where
    go : (t : Bool) → refused_b v.said.says ≡ t → Without es (unrefused es) → Without (v ∷ es) (cond t (unrefused es) (v ∷ unrefused es))
    go true e w = strikes _ (says_refusal v.said.says e) w
    go false e w = keeps w

abbrev left : List Event
left = unrefused (happened names start all)

two_struck : (length (happened names start all) ≡ 10) × (length left ≡ 8)
unfolding rules
two_struck = (refl, refl)

left_met : throughout_b OwnOpen own_b own_by names start left ≡ true
unfolding rules
left_met = refl

-- so the theorem speaks of it
pub same_without : SameWithout names a_group a_group left (course names start (happened names start all)) (course names start left)
same_without =
    refused_may_stand names a_group a_group (happened names start all) left
    (record {
      as_left = as_left names all;
      without = without (happened names start all);
      throughout = throughout_by OwnOpen own_b own_by names left start left_met;
    })

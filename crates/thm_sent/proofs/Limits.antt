-- Where the claims end: each premise is needed, for without it a short list has bytes read that are not the first of those taken; and an
-- element may be used again once A was heard, not after free. By computing the rules. Assumes nothing.
use mathlib.Core.Path.{◌≡◌, refl}
use mathlib.Core.Bool.{true, false, Bool, ◌||◌}
use mathlib.Core.List.{List, [], ◌∷◌, ◌++◌}
use Rattle.group_rules.specs.Rules.{send, place, read, abort, on, hear, manage, free_slot, record_of_all}
use Rattle.thm_sent.specs.Books.{near, far, Two, End, Event, Names}
use Rattle.thm_sent.specs.OnlySent.{course, StillOpen, OpenThere, Premises}
use Rattle.thm_sent.proofs.Rules.{rules}
use Rattle.thm_sent.proofs.Lists.{Step, does, hears_at, happened, start, opens_both, set_link, names, opens, msg, throughout_b}
use Rattle.thm_sent.proofs.Lists.{both_b, both_by, own_b, own_by, met_both, met_each, named, again, unfreed_b, unfreed_by}
use Rattle.thm_order.proofs.Witness.{a_group}
use Rattle.thm_changes.specs.Numbers.{refused_b}
use Rattle.thm_sent.specs.Reuse.{OwnOpen, NoBytes, NoneToCome}
use Rattle.thm_sent.proofs.Reuse.{nothing_under_way}

abbrev ended : List Step → Two End
ended l = course names start (happened names start (opens ++ l))

-- A message that nobody made (HeardInOrder): number 1, two bytes
abbrev forged : List Step
forged = does far (hear (msg 1 9 6 4 false)) ∷ does far (on 2 (read (5 ∷ 5 ∷ 5 ∷ []))) ∷ []

pub forged_read : ((ended forged).at_far.read.got ≡ 0 ∷ 0 ∷ []) × ((ended forged).at_near.took ≡ [])
unfolding rules
forged_read = (refl, refl)

-- A message before its placing (PerformedBefore)
abbrev unperformed : List Step
unperformed = does near (on 1 (send (1 ∷ []))) ∷ hears_at far ∷ does far (on 2 (read (5 ∷ 5 ∷ 5 ∷ []))) ∷ []

pub unperformed_read : ((ended unperformed).at_far.read.got ≡ 0 ∷ []) × ((ended unperformed).at_near.took ≡ 1 ∷ [])
unfolding rules
unperformed_read = (refl, refl)

-- Another placing (NoOthers)
abbrev stray : List Step
stray =
    does near (on 1 (send (1 ∷ []))) ∷ does far (on 2 (place 4 (1 ∷ []))) ∷ does far (on 2 (place 4 (9 ∷ []))) ∷ hears_at far
    ∷ does far (on 2 (read (5 ∷ 5 ∷ 5 ∷ []))) ∷ []

pub stray_read : ((ended stray).at_far.read.got ≡ 9 ∷ []) × ((ended stray).at_near.took ≡ 1 ∷ [])
unfolding rules
stray_read = (refl, refl)

-- A placing performed while the link is down, so refused with 6 (LinkActive)
abbrev down : List Step
down =
    does near (on 1 (send (1 ∷ []))) ∷ set_link far 2 false ∷ does far (on 2 (place 4 (1 ∷ []))) ∷ set_link far 2 true ∷ hears_at far
    ∷ does far (on 2 (read (5 ∷ 5 ∷ 5 ∷ []))) ∷ []

pub down_read : ((ended down).at_far.read.got ≡ 0 ∷ []) × ((ended down).at_near.took ≡ 1 ∷ [])
unfolding rules
down_read = (refl, refl)

-- The slot is closed at both ends and opened again with the same tokens (StillOpen): the books go on, and the second connection's byte is
-- read
abbrev reopened : List Step
reopened =
    does near (on 1 (send (1 ∷ [])))
    ∷ does near (on 1 abort) ∷ does near (manage (free_slot 1)) ∷ does far (on 2 abort) ∷ does far (manage (free_slot 2)) ∷ opens_both 7 1 9 2
    ++ does near (on 1 (send (2 ∷ []))) ∷ does far (on 2 (place 4 (2 ∷ []))) ∷ hears_at far ∷ does far (on 2 (read (5 ∷ 5 ∷ 5 ∷ []))) ∷ []

pub reopened_read : ((ended reopened).at_far.read.got ≡ 2 ∷ []) × ((ended reopened).at_near.took ≡ 1 ∷ 2 ∷ [])
unfolding rules
reopened_read = (refl, refl)

-- A message with F that overtakes the one before it (HeardInOrder): it aborts the connection
abbrev overtaken : List Step
overtaken = does near (on 1 (send (1 ∷ []))) ∷ set_link near 2 true ∷ set_link near 1 false ∷ does far (hear (msg 1 9 5 4 true)) ∷ []

pub overtaken_aborts : (record_of_all (ended overtaken).at_far.group 2).marks.abort ≡ true
unfolding rules
overtaken_aborts = refl

-- A SENT, THEN HEARD. A byte is under way when far sends A; near hears it, closes and answers A; the byte comes, and is refused with 7; far
-- hears of it, and then A, and closes
abbrev waits : List Step
waits =
    opens
    ++ does near (on 1 (send (1 ∷ []))) ∷ does far (on 2 abort) ∷ hears_at near ∷ does far (on 2 (place 4 (1 ∷ []))) ∷ hears_at far
    ∷ hears_at far ∷ []

abbrev waited : Two End
waited = course names start (happened names start waits)

waits_met : throughout_b OwnOpen own_b own_by names start (happened names start waits) ≡ true
unfolding rules
waits_met = refl

waits_closed : (waited.at_far.opened ≡ true) × (OpenThere names.at_far waited.at_far ≡ false)
    × (unfreed_b (happened names start waits) ≡ true)
unfolding rules
waits_closed = (refl, refl, refl)

-- so the theorem speaks of it
pub none_comes : NoneToCome names.at_near waited.at_far waited.at_near
none_comes =
    let es = happened names start waits in
    nothing_under_way names a_group a_group es (met_each names waits waits_met) far (unfreed_by far names es start waits_closed.2)
    waits_closed.0
    waits_closed.1

-- A SENT, THEN FREE: all premises are met (those of `OnlyWhatWasSent`, too), the slot is closed, and a byte is under way
abbrev frees : List Step
frees = opens ++ does near (on 1 (send (1 ∷ []))) ∷ does far (on 2 abort) ∷ does far (manage (free_slot 2)) ∷ []

abbrev freed : Two End
freed = course names start (happened names start frees)

frees_met : throughout_b StillOpen both_b both_by names start (happened names start frees) ≡ true
unfolding rules
frees_met = refl

pub premises_met : Premises names a_group a_group (happened names start frees)
premises_met = met_both names frees frees_met

pub closed_by_free : (freed.at_far.opened ≡ true) × (OpenThere names.at_far freed.at_far ≡ false)
unfolding rules
closed_by_free = (refl, refl)

pub byte_under_way : NoBytes freed.at_far.coming → ⊥
unfolding rules
byte_under_way e = e

-- OPENED AGAIN, with other tokens, at both ends: the new connection's byte 2 is placed, then the old one's byte 1 comes, and is accepted.
-- The read hands out 1, of 2. (That late byte is what NoOthers of the new connection excludes.) No call of the list is refused
abbrev names2 : Two Names
names2 = named 17 1 19 2

abbrev reuses : List Step
reuses =
    again (happened names start (frees ++ hears_at near ∷ []))
    ++ opens_both 17 1 19 2
    ++ does near (on 1 (send (2 ∷ []))) ∷ does far (on 2 (place 4 (2 ∷ []))) ∷ does far (on 2 (place 4 (1 ∷ []))) ∷ hears_at far
    ∷ does far (on 2 (read (0 ∷ 0 ∷ []))) ∷ []

abbrev any_refused : List Event → Bool
any_refused [] = false
any_refused (v ∷ es) = refused_b v.said.says || any_refused es

abbrev reused : Two End
reused = course names2 start (happened names2 start reuses)

pub old_byte_read : (reused.at_far.read.got ≡ 1 ∷ []) × (reused.at_near.took ≡ 2 ∷ [])
    × (any_refused (happened names2 start reuses) ≡ false)
unfolding rules
old_byte_read = (refl, refl, refl)

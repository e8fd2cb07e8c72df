-- The premises of request 2026-14 can be met. Three bytes go over in an urgent send, and are read in two reads; near's link goes down, and
-- the connection moves to another (request 2026-13); three more bytes go over by head and body, with that link's key and base, past the
-- element's end in three pieces, performed out of order, in parts and twice; far's link goes down too; all six are read, and both ends
-- close. A second connection is opened in the same slots, and reads its own bytes. Assumes nothing.
use mathlib.Core.Path.{◌≡◌, refl}
use mathlib.Core.Bool.{true, false}
use mathlib.Core.List.{List, [], ◌∷◌, ◌++◌}
use Rattle.group_rules.specs.Rules.{send, urgent, gather, place, read, close, on, record_of_all}
use Rattle.thm_order.proofs.Witness.{a_group}
use Rattle.thm_sent.specs.Books.{near, far, Two, Names, End}
use Rattle.thm_sent.specs.OnlySent.{StillOpen, OpenThere, course, Premises, OnlySent}
use Rattle.thm_sent.specs.Plain.{Plain, plain_course_of}
use Rattle.thm_sent.specs.Reuse.{OwnOpen, NoneToCome}
use Rattle.thm_sent.proofs.Theorem.{only_what_was_sent}
use Rattle.thm_sent.proofs.Reuse.{nothing_under_way}
use Rattle.thm_sent.proofs.Rules.{rules}
use Rattle.thm_sent.proofs.Lists.{Step, does, hears_at, happened, start, throughout_b, both_b, both_by, own_b, own_by, met_both}
use Rattle.thm_sent.proofs.Lists.{met_each, named, opens_both, set_link, names, opens, again, unfreed_b, unfreed_by}

-- THE FIRST CONNECTION, until far closes
abbrev steps : List Step
steps =
    opens
    ++ does near (on 1 (urgent (1 ∷ 2 ∷ 3 ∷ []))) ∷ does far (on 2 (place 4 (1 ∷ 2 ∷ 3 ∷ []))) ∷ hears_at far ∷ hears_at near
    ∷ does near (on 1 (send (9 ∷ []))) ∷ does far (on 2 (read (0 ∷ 0 ∷ []))) ∷ hears_at near ∷ does far (on 2 (read (0 ∷ 0 ∷ 0 ∷ [])))
    ∷ hears_at near
    ∷ set_link near 2 true ∷ set_link near 1 false ∷ hears_at far
    ∷ does near (on 1 (gather (4 ∷ 5 ∷ []) (6 ∷ []))) ∷ does far (on 2 (place 4 (5 ∷ []))) ∷ does far (on 2 (place 7 (4 ∷ [])))
    ∷ does far (on 2 (place 4 (5 ∷ 6 ∷ []))) ∷ hears_at far
    ∷ set_link far 1 true ∷ set_link far 2 false ∷ does far (on 2 (read (0 ∷ 0 ∷ 0 ∷ 0 ∷ 0 ∷ []))) ∷ hears_at near ∷ hears_at near
    ∷ does near (on 1 close) ∷ hears_at far ∷ does far (on 2 close) ∷ []

abbrev ends : Two End
ends = course names start (happened names start steps)

abbrev plains : Two Plain
plains = plain_course_of names start (happened names start steps)

steps_met : throughout_b StillOpen both_b both_by names start (happened names start steps) ≡ true
unfolding rules
steps_met = refl

six : (ends.at_far.read.got ≡ 1 ∷ 2 ∷ 3 ∷ 4 ∷ 5 ∷ 6 ∷ []) × (ends.at_near.took ≡ 1 ∷ 2 ∷ 3 ∷ 4 ∷ 5 ∷ 6 ∷ [])
unfolding rules
six = (refl, refl)

pub premises_met : Premises names a_group a_group (happened names start steps)
premises_met = met_both names steps steps_met

-- so the theorem speaks of it
pub only_six : OnlySent ends.at_far ends.at_near
only_six = (only_what_was_sent names a_group a_group (happened names start steps) premises_met).1

-- far's slot is closed; the connection was on other links by then: near's record names link 2
closed_far : (OpenThere names.at_near ends.at_near ≡ true) × (OpenThere names.at_far ends.at_far ≡ false)
    × ((record_of_all ends.at_near.group 1).id.link ≡ 2)
unfolding rules
closed_far = (refl, refl, refl)

-- the plain engine: six bytes taken, read and told; three messages of near's, five of far's; and the cursors are those of its positions, a
-- lap on
plain_near : (plains.at_near.outward ≡ record { Q = 6; R = 6; U = 3; made = 3 }) × (plains.at_near.inward.last ≡ 4)
unfolding rules
plain_near = (refl, refl)

plain_far : (plains.at_far.inward ≡ record { P = 6; C = 6; T = 6; W = 3; last = 3 }) × (plains.at_far.outward.made ≡ 5)
unfolding rules
plain_far = (refl, refl)

cursor_near : (record_of_all ends.at_near.group 1).outbound.producer ≡ record { offset = 6; wrap = 1 }
unfolding rules
cursor_near = refl

-- NEAR HEARS OF IT, and closes
abbrev closing : List Step
closing = steps ++ hears_at near ∷ []

abbrev closed : Two End
closed = course names start (happened names start closing)

closing_met : throughout_b OwnOpen own_b own_by names start (happened names start closing) ≡ true
unfolding rules
closing_met = refl

both_closed : (OpenThere names.at_near closed.at_near ≡ false) × (OpenThere names.at_far closed.at_far ≡ false)
unfolding rules
both_closed = (refl, refl)

closing_unfreed : unfreed_b (happened names start closing) ≡ true
unfolding rules
closing_unfreed = refl

was_opened : (closed.at_near.opened ≡ true) × (closed.at_far.opened ≡ true)
unfolding rules
was_opened = (refl, refl)

-- so nothing is under way to either, and the elements may be used again
pub none_comes : NoneToCome names.at_far closed.at_near closed.at_far
    × NoneToCome names.at_near closed.at_far closed.at_near
none_comes =
    let es = happened names start closing in
    let met = met_each names closing closing_met in (
      nothing_under_way names a_group a_group es met near (unfreed_by near names es start closing_unfreed) was_opened.0 both_closed.0,
      nothing_under_way names a_group a_group es met far (unfreed_by far names es start closing_unfreed) was_opened.1 both_closed.1,
    )

-- A SECOND CONNECTION in the same slots, by other tokens and the links that are active
abbrev names2 : Two Names
names2 = named 17 2 19 1

abbrev second : List Step
second =
    again (happened names start closing)
    ++ opens_both 17 2 19 1
    ++ does near (on 1 (send (7 ∷ 8 ∷ []))) ∷ does far (on 2 (place 4 (7 ∷ 8 ∷ []))) ∷ hears_at far ∷ does far (on 2 (read (0 ∷ 0 ∷ 0 ∷ [])))
    ∷ []

abbrev ends2 : Two End
ends2 = course names2 start (happened names2 start second)

second_met : throughout_b StillOpen both_b both_by names2 start (happened names2 start second) ≡ true
unfolding rules
second_met = refl

two_more : (ends2.at_far.read.got ≡ 7 ∷ 8 ∷ []) × (ends2.at_near.took ≡ 7 ∷ 8 ∷ [])
unfolding rules
two_more = (refl, refl)

pub only_two : OnlySent ends2.at_far ends2.at_near
only_two = (only_what_was_sent names2 a_group a_group (happened names2 start second) (met_both names2 second second_met)).1

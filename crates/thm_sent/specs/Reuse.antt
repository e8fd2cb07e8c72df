-- Request 2026-14, what follows besides: nothing is lost; what a move hands over stands in the call's buffer; when an element may be used
-- again; and strangers' refused calls harm nothing. Over `Books` and `OnlySent`. Crate thm_sent proves it. Assumes nothing.
use Rattle.std.specs.Prelude.{ℕ, ◌-◌, ◌*◌, ◌≡◌, true, false, List, [], ◌∷◌, length, take, drop}
use Rattle.cdc.specs.Cdc.{encode_of}
use Rattle.conn_send.specs.Produced.{send_forbids}
use Rattle.conn_receive.specs.Receive.{unread_of}
use Rattle.link_failover.specs.Failover.{plan_of, failover_of, count_of}
use Rattle.group_rules.specs.Rules.{Group, free_slot, Call, manage, refusal, answer, next, record_of_all}
use Rattle.thm_safety.specs.Statement.{accepted_b}
use Rattle.thm_sent.specs.Books.{Side, Two, pick, other_side, same_side, Event, Names, Item, owed, message, tells_in, End, both_begun}
use Rattle.thm_sent.specs.OnlySent.{Asking, Throughout, OpenThere, OpenIf, AsLeft, Met, PremisesWith, Premises, BothOnly, course}
use Rattle.thm_sent.specs.OnlySent.{NotTurnedAway}

-- NOTHING IS LOST: where the slot is open and A was not sent, nothing is under way and nothing unread, all bytes taken at the other were
-- read
abbrev pub AllRead : Names → End → End → Type 0
AllRead n e other =
    let c = record_of_all e.group n.slot in
    e.opened ≡ true → OpenThere n e ≡ true → c.marks.abort ≡ false → e.coming ≡ [] → unread_of e.group.N c.inbound ≡ 0
    → e.read.got ≡ other.took

abbrev pub NothingLost : Type 0
NothingLost =
    (names : Two Names) (g h : Group) (es : List Event) → Premises names g h es
    → let ends = course names (both_begun g h) es in
    AllRead names.at_near ends.at_near ends.at_far × AllRead names.at_far ends.at_far ends.at_near

-- WHAT A MOVE HANDS OVER stands in the buffer that the call was lent, after the messages of the slots before; of any group and call
abbrev pub InTheBuffer : Type 0
InTheBuffer =
    (n : Names) (g : Group) (c : Call) → tells_in n g c ≡ true
    → let before = count_of g.N (plan_of g.links (next g c).links) (take (n.slot - 1) g.table) in
    take 44 (drop (44 * before) (answer g c).out) ≡ encode_of (failover_of (record_of_all g n.slot))

-- UNTIL EACH END'S OWN SLOT CLOSES. `StillOpen` ends a list when the slot closes at either end. This asks less: a call is made at an end
-- where the slot is open, or that open was not made yet; so when one end has closed, calls at the other may follow, until it closes too
abbrev pub OwnOpen : Asking
OwnOpen names ends e = OpenIf (pick e.side names) (pick e.side ends)

abbrev pub UntilEach : Two Names → Group → Group → List Event → Type 0
UntilEach = PremisesWith OwnOpen

abbrev pub OnlySentUntilEach : Type 0
OnlySentUntilEach =
    (names : Two Names) (g h : Group) (es : List Event) → UntilEach names g h es
    → BothOnly (course names (both_begun g h) es) × Throughout NotTurnedAway names (both_begun g h) es

-- WHEN AN ELEMENT MAY BE USED AGAIN. At an end where the slot has closed by any call but an accepted free (so C was heard and C sent, or A
-- was heard: `ClosedBy` in changes) no byte of the connection is under way to it, then and at every later point; and the other end, while
-- its slot is open, may not send
abbrev pub NotFreed : Side → Asking
NotFreed s names ends e =
    (pick s ends).opened ≡ true → same_side s e.side ≡ true → e.call ≡ manage (free_slot (pick s names).slot)
    → accepted_b e.said.says ≡ false

abbrev pub NoBytes : List Item → Type 0
NoBytes [] = Unit {0}
NoBytes (owed o ∷ l) = ⊥
NoBytes (message b ∷ l) = NoBytes l

pub record NoneToCome (theirs : Names) (e other : End) : Type 0 where
  pub no_bytes : NoBytes e.coming
  pub no_sends : OpenThere theirs other ≡ true → send_forbids (record_of_all other.group theirs.slot).marks ≡ true

abbrev pub NothingUnderWay : Type 0
NothingUnderWay =
    (names : Two Names) (g h : Group) (es : List Event) → UntilEach names g h es → (s : Side)
    → Throughout (NotFreed s) names (both_begun g h) es
    → let ends = course names (both_begun g h) es in
    (pick s ends).opened ≡ true → OpenThere (pick s names) (pick s ends) ≡ false
    → NoneToCome (pick (other_side s) names) (pick s ends) (pick (other_side s) ends)

-- STRANGERS: some calls of a list that were refused are struck from it, whatever they are: a stranger's placing, a message heard late or
-- twice. All calls were made, and the premises are asked of those that are left
pub data Without : List Event → List Event → Type 0 where
  both_end : Without [] []
  keeps : {e : Event} {es rest : List Event} → Without es rest → Without (e ∷ es) (e ∷ rest)
  strikes : {e : Event} {es rest : List Event} (k : ℕ) → e.said.says ≡ refusal k → Without es rest → Without (e ∷ es) rest

pub record ButRefused (names : Two Names) (g h : Group) (es rest : List Event) : Type 0 where
  pub as_left : AsLeft g h es
  pub without : Without es rest
  pub throughout : Throughout (Met OwnOpen) names (both_begun g h) rest

-- then these meet all premises; both lists leave the same groups, and the same bytes taken and read; and of all calls, too, the bytes read
-- are the first so many of the bytes taken
pub record SameBooks (e left : End) : Type 0 where
  pub group_is : e.group ≡ left.group
  pub opened_is : e.opened ≡ left.opened
  pub took_is : e.took ≡ left.took
  pub got_is : e.read.got ≡ left.read.got

abbrev pub FirstSoMany : End → End → Type 0
FirstSoMany e other = e.read.got ≡ take (length e.read.got) other.took

pub record SameWithout (names : Two Names) (g h : Group) (rest : List Event) (ends left : Two End) : Type 0 where
  pub met : UntilEach names g h rest
  pub near_same : SameBooks ends.at_near left.at_near
  pub far_same : SameBooks ends.at_far left.at_far
  pub near_only : FirstSoMany ends.at_near ends.at_far
  pub far_only : FirstSoMany ends.at_far ends.at_near

abbrev pub RefusedMayStand : Type 0
RefusedMayStand =
    (names : Two Names) (g h : Group) (es rest : List Event) → ButRefused names g h es rest
    → SameWithout names g h rest (course names (both_begun g h) es) (course names (both_begun g h) rest)

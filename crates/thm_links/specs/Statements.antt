-- Request 2026-01: what holds of the three calls beyond their rules. proofs/Theorems proves each.
-- Assumes nothing.
use Rattle.std.specs.Prelude.{ℕ, ◌+◌, ◌≤◌, ◌<◌, min, ◌≡◌, Bool, true, false, List, length, replicate}
use Rattle.link_message.specs.declared.Kind.{Kind}
use Rattle.link_exchange.specs.declared.Waiting.{Waiting}
use Rattle.link_exchange.specs.declared.Queue.{Queue}
use Rattle.link_exchange.specs.declared.Touch.TheVariants.{Up, Down, All}
use Rattle.link_exchange.specs.declared.Said.{Said}
use Rattle.link_exchange.specs.Exchange.{no_exchange, due_b, empty_queue, most_waiting, place_in, runs_over}
use Rattle.link_exchange.specs.Fates.{arriving_of}
use Rattle.group_table.specs.declared.Links.{Links}
use Rattle.link_calls.specs.declared.Settled.{Settled}
use Rattle.link_calls.specs.Calls.{touched, heard_of, sent_of, changed_of, heard_in, sent_in}

-- A CALL: link change, link message or link send, with what it is given
pub data Call : Type 0 where
  change : ℕ → Bool → Call
  message : ℕ → List ℕ → Call
  send : ℕ → Kind → List ℕ → Call

abbrev pub does : Links → Call → Settled
does g (change l up) = changed_of g l up
does g (message l b) = (heard_of g l b).settled
does g (send l k vs) = (sent_of g l k vs).settled

abbrev pub next : Links → Call → Links
next g c = (does g c).after

-- no call changes the role, and the links are touched as the call says and no further
abbrev pub RoleStays : Type 0
RoleStays = (g : Links) (c : Call) → (next g c).role ≡ g.role

abbrev pub LinksTouched : Type 0
LinksTouched = (g : Links) (c : Call)
    → ((next g c).active ≡ (touched g (does g c).touch).active) × ((next g c).gauges ≡ (touched g (does g c).touch).gauges)

-- a refused call changes neither exchange, queue nor links
pub record Refused (g : Links) (r : ℕ) (s : Settled) : Type 0 where
  pub kept : (r ≡ 0 → ⊥) → s.after ≡ g

abbrev pub RefusedKeeps : Type 0
RefusedKeeps = (g : Links) (l : ℕ) (b : List ℕ) (k : Kind) (vs : List ℕ)
    → Refused g (heard_of g l b).refusal (heard_of g l b).settled × Refused g (sent_of g l k vs).refusal (sent_of g l k vs).settled

-- THE QUEUE is first in, first out, place by place, of four places. A call leaves it; or puts its own message behind those that wait, and
-- touches no other place; or takes the first, and each of the others moves up by one; or empties it
pub record Behind (q : Queue) (m : Waiting) (r : Queue) : Type 0 where
  pub one_more : r.count ≡ q.count + 1
  pub last : place_in r q.count ≡ m
  pub others : (i : ℕ) → (i ≡ q.count → ⊥) → place_in r i ≡ place_in q i

pub record FirstTaken (q r : Queue) : Type 0 where
  pub one_less : r.count + 1 ≡ min q.count 4
  pub up_by_one : (i : ℕ) → i < 3 → place_in r i ≡ place_in q (i + 1)
  pub last_zero : place_in r 3 ≡ record { link = 0; bytes = replicate 44 0 }

pub record Emptied (r : Queue) : Type 0 where
  pub none : r.count ≡ 0
  pub zeros : (i : ℕ) → i < 4 → place_in r i ≡ record { link = 0; bytes = replicate 44 0 }

pub data Order (q : Queue) (c : Call) (r : Queue) : Type 0 where
  kept : r ≡ q → Order q c r
  behind : (l : ℕ) (b : List ℕ) → c ≡ message l b → Behind q (record { link = l; bytes = b }) r → Order q c r
  first_taken : FirstTaken q r → Order q c r
  emptied : Emptied r → Order q c r

abbrev pub KeepsOrder : Type 0
KeepsOrder = (g : Links) (c : Call) → length g.queue.places ≡ 4 → Order g.queue c (next g c).queue

-- and has at most four
abbrev pub AtMostFour : Type 0
AtMostFour = (g : Links) (c : Call) → g.queue.count ≤ most_waiting → (next g c).queue.count ≤ most_waiting

-- no exchange is left that is run over a link that the call took down
abbrev pub NoneOverDown : Type 0
NoneOverDown = (g : Links) (c : Call) (l : ℕ) → (does g c).touch ≡ Down l → runs_over (next g c).exchange l ≡ false

-- a whole group that goes down has no exchange and nothing queued
pub record Idle (h : Links) : Type 0 where
  pub ended : h.exchange ≡ no_exchange
  pub empty : h.queue ≡ empty_queue

abbrev pub AllEnds : Type 0
AllEnds = (g : Links) (c : Call) → (does g c).touch ≡ All → Idle (next g c)

-- an exchange ends when the desk takes a link down that it is run over, and the queue is then empty
abbrev pub EndsDown : Type 0
EndsDown = (g : Links) (l : ℕ) → runs_over g.exchange l ≡ true → (does g (change l false)).touch ≡ Down l → Idle (next g (change l false))

-- A LINK BECOMES ACTIVE only by link change, or as w by a CONFIRM LINK reply that was due, at stage 4
pub record Confirmed (g : Links) (L : ℕ) (m : Said) (l : ℕ) : Type 0 where
  pub due : due_b g.exchange L m ≡ true
  pub stage : g.exchange.stage ≡ 4
  pub named : g.exchange.w ≡ l

abbrev pub UpCause : Links → ℕ → Call → Type 0
UpCause g l (change L up) = (L ≡ l) × (up ≡ true)
UpCause g l (message L b) = Confirmed g L (heard_in g b) l
UpCause g l (send L k vs) = Confirmed g L (sent_in g k vs) l

abbrev pub BecomesActive : Type 0
BecomesActive = (g : Links) (c : Call) (l : ℕ) → (does g c).touch ≡ Up l → UpCause g l c

-- A LINK GOES DOWN only by link change; as w by the DELETE LINK reply of stage 5; by a DELETE LINK from the server that names it; all four
-- by a DELETE LINK request with A
pub record Deleted (g : Links) (L : ℕ) (m : Said) (l : ℕ) : Type 0 where
  pub due : due_b g.exchange L m ≡ true
  pub stage : g.exchange.stage ≡ 5
  pub named : g.exchange.w ≡ l

pub record Told (m : Said) (l : ℕ) : Type 0 where
  pub line : arriving_of m ≡ 4
  pub named : m.link ≡ l

pub data HeardDown (g : Links) (L : ℕ) (m : Said) (l : ℕ) : Type 0 where
  replied : Deleted g L m l → HeardDown g L m l
  told : Told m l → HeardDown g L m l

abbrev pub DownCause : Links → ℕ → Call → Type 0
DownCause g l (change L up) = (L ≡ l) × (up ≡ false)
DownCause g l (message L b) = HeardDown g L (heard_in g b) l
DownCause g l (send L k vs) = Deleted g L (sent_in g k vs) l

abbrev pub GoesDown : Type 0
GoesDown = (g : Links) (c : Call) (l : ℕ) → (does g c).touch ≡ Down l → DownCause g l c

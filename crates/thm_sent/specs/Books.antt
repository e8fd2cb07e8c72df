-- Request 2026-14: the books that are kept of one connection between two groups, event by event: what is under way to each end, which byte
-- a placing put where, which bytes were taken and which were read. `OnlySent` says what is claimed of them. Assumes nothing.
use Rattle.std.specs.Prelude.{ℕ, zero, suc, ◌+◌, Bool, true, false, ◌&&◌, ◌||◌, cond, List, [], ◌∷◌, ◌++◌, map, ltb, leb, eqb, length, take, get_or}
use Rattle.std.proofs.Math.Option.{Option, none, some}
use Rattle.cdc.specs.declared.Decoded.{Decoded}
use Rattle.cdc.specs.declared.Decoded.TheVariants.{Good, Malformed}
use Rattle.cdc.specs.Cdc.{decode_of, encode_of}
use Rattle.conn_record.specs.declared.RToken.{RToken}
use Rattle.conn_record.specs.Connection.{first_byte_of}
use Rattle.conn_answer.specs.declared.Placing.{Placing}
use Rattle.conn_gather.specs.Statement.{Write, writes_of, placing_writes}
use Rattle.link_failover.specs.Failover.{plan_of, tells_b, failover_of}
use Rattle.group_rules.specs.Rules.{Group, Request, send, urgent, gather, place, read, shutdown, close, abort, Call, on, hear, manage, Answer}
use Rattle.group_rules.specs.Rules.{next, record_of_all, element_in, Says, refusal, accepted, sent, gathered, was_read_of, torn, heard, reset, sampled}
use Rattle.group_rules.specs.Rules.{link_changed, link_heard, link_sent}
use Rattle.thm_safety.specs.Statement.{accepted_b, offset_from}
use Rattle.thm_positions.specs.Positions.{read_in, names_b}

-- THE TWO ENDS
pub data Side : Type 0 where
  near : Side
  far : Side

pub record Two (A : Type 0) : Type 0 where
  pub at_near : A
  pub at_far : A

abbrev pub pick : {A : Type 0} → Side → Two A → A
pick near t = t.at_near
pick far t = t.at_far

abbrev pub other_side : Side → Side
other_side near = far
other_side far = near

-- what stands at this side, and at the other
abbrev pub both : {A : Type 0} → Side → A → A → Two A
both near mine theirs = record { at_near = mine; at_far = theirs }
both far mine theirs = record { at_near = theirs; at_far = mine }

abbrev pub same_side : Side → Side → Bool
same_side near near = true
same_side near far = false
same_side far near = false
same_side far far = true

-- WHAT HAPPENED, in the order in which it happened: calls at either group, each with its answer. A call holds all bytes lent to it
pub record Event : Type 0 where
  pub side : Side
  pub call : Call
  pub said : Answer

unfoldable pub calls_at : Side → List Event → List Call
calls_at s [] = []
calls_at s (e ∷ es) = cond (same_side s e.side) (e.call ∷ calls_at s es) (calls_at s es)

unfoldable pub said_at : Side → List Event → List Answer
said_at s [] = []
said_at s (e ∷ es) = cond (same_side s e.side) (e.said ∷ said_at s es) (said_at s es)

-- THE CONNECTION, by what its two opens are given: at each end a slot, an own token and a link; and, for each link of the other end, the
-- key and the base of this end's memory there
pub record Names : Type 0 where
  pub slot : ℕ
  pub own : ℕ
  pub link : ℕ
  pub reach : ℕ → RToken

-- WHAT A CALL IS TO THE CONNECTION at an end where it is open: bytes offered, urgent or not (of head and body, both joined), bytes placed,
-- a read, an ending, each on its slot; a message with its token heard; or nothing of it
pub data Aim : Type 0 where
  sends : Bool → List ℕ → Aim
  places : ℕ → List ℕ → Aim
  reads : List ℕ → Aim
  finishes : Aim
  hears : List ℕ → Aim
  elsewhere : Aim

abbrev pub asked : Request → Aim
asked (send b) = sends false b
asked (urgent b) = sends true b
asked (gather head body) = sends false (head ++ body)
asked (place at b) = places at b
asked (read out) = reads out
asked shutdown = finishes
asked close = finishes
asked abort = finishes

unfoldable pub aim_of : Names → Call → Aim
aim_of n (on k q) = cond (eqb k n.slot) (asked q) elsewhere
aim_of n (hear b) = cond (names_b n.own (decode_of b)) (hears b) elsewhere
aim_of n (manage d) = elsewhere

-- UNDER WAY to an end: each byte that the other end's placings or pieces name, and each message that its calls made, in the order in which
-- they were handed over; a message follows the placings that it announces. `number` counts the bytes taken from the open on, from 0; `link`
-- is the link over which the byte goes
pub record Owed : Type 0 where
  pub number : ℕ
  pub link : ℕ
  pub key : ℕ
  pub address : ℕ
  pub byte : ℕ
  pub performed : Bool

pub data Item : Type 0 where
  owed : Owed → Item
  message : List ℕ → Item

unfoldable pub placed_writes : List ℕ → List Placing → List Write
placed_writes b [] = []
placed_writes b (p ∷ l) = placing_writes b p ++ placed_writes b l

-- what a send took, and what it names for the card to write, of the bytes offered; another answer: nothing
abbrev pub by_send : {A : Type 0} → A → (ℕ → (List ℕ → List Write) → A) → Says → A
by_send z f (refusal k) = z
by_send z f accepted = z
by_send z f (sent n p) = f n (λ b. placed_writes b p)
by_send z f (gathered n p) = f n (λ b. writes_of p)
by_send z f (was_read_of n) = z
by_send z f torn = z
by_send z f (heard moved state) = z
by_send z f reset = z
by_send z f (sampled q) = z
by_send z f (link_changed n) = z
by_send z f (link_heard x t u n) = z
by_send z f (link_sent u n) = z

abbrev pub taken_by : Says → ℕ
taken_by = by_send 0 (λ n w. n)

abbrev pub written_by : List ℕ → Says → List Write
written_by b = by_send [] (λ n w. w b)

-- bytes that the card is to write, one after the other, the first of them number x
unfoldable pub owed_from : ℕ → ℕ → List Write → List Item
owed_from x link [] = []
owed_from x link (w ∷ ws) =
    owed (record { number = x; link = link; key = w.key; address = w.address; byte = w.byte; performed = false })
    ∷ owed_from (suc x) link ws

-- what a call hands over: first the bytes, then the message if one is made. One elsewhere hands over what a move does, if anything
abbrev pub told_by : Answer → List Item
told_by a = cond a.made (message a.message ∷ []) []

abbrev pub hands_over : ℕ → ℕ → Answer → List Item → Aim → List Item
hands_over x link a moves (sends u b) = owed_from x link (written_by b a.says) ++ told_by a
hands_over x link a moves (places at b) = told_by a
hands_over x link a moves (reads out) = told_by a
hands_over x link a moves finishes = told_by a
hands_over x link a moves (hears b) = told_by a
hands_over x link a moves elsewhere = moves

-- THE CONNECTION MOVES (request 2026-13) in a call on the links in which its link goes down and another is active. Unless A was sent it
-- tells: what is handed over is the message with F that is made from the record as it was
abbrev pub tells_in : Names → Group → Call → Bool
tells_in n g c = tells_b g.N (plan_of g.links (next g c).links) (record_of_all g n.slot)

unfoldable pub moves_over : Names → Group → Call → List Item
moves_over n g c = cond (tells_in n g c) (message (encode_of (failover_of (record_of_all g n.slot))) ∷ []) []

abbrev pub failover_b : Decoded → Bool
failover_b (Good m) = m.flags.failover
failover_b Malformed = false

-- WHERE A BYTE LANDS, at an end whose elements have N bytes: in this end's memory by its key, and in the slot's element by its address,
-- which is base + (index - 1) x N + the offset. Among the k offsets from `at` on:
abbrev pub start_of : Names → ℕ → ℕ → ℕ
start_of n N link = first_byte_of N n.slot (n.reach link).base

abbrev pub covers : ℕ → ℕ → ℕ → Bool
covers at k y = leb at y && ltb y (at + k)

unfoldable pub lands_in : Names → ℕ → ℕ → ℕ → Owed → Bool
lands_in n N at k o = eqb o.key (n.reach o.link).key && covers (start_of n N o.link + at) k o.address

-- a place of k bytes performs the bytes under way that land where it puts them: all of a placing, a part of it, or more than one; and once
-- more changes nothing
abbrev pub performs : Names → ℕ → ℕ → ℕ → Item → Item
performs n N at k (owed o) =
    owed (record {
      number = o.number;
      link = o.link;
      key = o.key;
      address = o.address;
      byte = o.byte;
      performed = o.performed || lands_in n N at k o;
    })
performs n N at k (message m) = message m

-- a message heard goes, with all that was handed over before it; one with F announces no bytes, and goes alone
unfoldable pub after_message : List Item → List Item
after_message [] = []
after_message (owed o ∷ l) = after_message l
after_message (message m ∷ l) = l

unfoldable pub less_message : List Item → List Item
less_message [] = []
less_message (owed o ∷ l) = owed o ∷ less_message l
less_message (message m ∷ l) = l

-- the number of the byte under way to an offset
unfoldable pub number_at : Names → ℕ → ℕ → List Item → Option ℕ
number_at n N y [] = none
number_at n N y (owed o ∷ l) = cond (lands_in n N y 1 o) (some o.number) (number_at n N y l)
number_at n N y (message m ∷ l) = number_at n N y l

-- ONE END: its group as last left; whether that open was made; what is under way to it; which byte of the stream a placing put at each
-- offset of the element, none at the open; all bytes that sends took; all bytes that reads gave, and of each where it was read, what stood
-- there, and which byte had been put there
pub record Origin : Type 0 where
  pub offset : ℕ
  pub holds : ℕ
  pub put : Option ℕ

pub record Reading : Type 0 where
  pub got : List ℕ
  pub origins : List Origin

pub record End : Type 0 where
  pub group : Group
  pub opened : Bool
  pub coming : List Item
  pub put : ℕ → Option ℕ
  pub took : List ℕ
  pub read : Reading

abbrev pub nowhere : ℕ → Option ℕ
nowhere y = none

abbrev pub begun : Group → End
begun g = record { group = g; opened = false; coming = []; put = nowhere; took = []; read = record { got = []; origins = [] } }

abbrev pub both_begun : Group → Group → Two End
both_begun g h = record { at_near = begun g; at_far = begun h }

-- byte number i of a read stands i bytes on from C, and from the element's end on at 4
abbrev pub origin_at : End → ℕ → ℕ → Origin
origin_at e k i =
    let x = offset_from e.group.N (record_of_all e.group k).inbound.consumer.offset i in
    record { offset = x; holds = get_or (element_in e.group k) x 0; put = e.put x }

unfoldable pub origins_from : End → ℕ → ℕ → ℕ → List Origin
origins_from e k i zero = []
origins_from e k i (suc n) = origin_at e k i ∷ origins_from e k (suc i) n

-- A CALL AT AN END WHERE THE CONNECTION IS OPEN: what it leaves there, by what it is to the connection. The group is left as g
abbrev pub with_coming : End → List Item → End
with_coming e l = record { group = e.group; opened = e.opened; coming = l; put = e.put; took = e.took; read = e.read }

abbrev pub with_group : End → Group → End
with_group e g = record { group = g; opened = e.opened; coming = e.coming; put = e.put; took = e.took; read = e.read }

-- a send takes the first so many of the bytes offered
abbrev pub takes : End → List ℕ → End
takes e b = record { group = e.group; opened = e.opened; coming = e.coming; put = e.put; took = e.took ++ b; read = e.read }

-- a place performs what it covers; an accepted one puts there the bytes that are under way to these offsets
abbrev pub puts : Names → End → Bool → ℕ → ℕ → End
puts n e taken at k =
    record {
      group = e.group;
      opened = e.opened;
      coming = map (performs n e.group.N at k) e.coming;
      put = λ y. cond (taken && covers at k y) (number_at n e.group.N y e.coming) (e.put y);
      took = e.took;
      read = e.read;
    }

-- a read gives the first so many bytes of out
abbrev pub gives : Names → End → ℕ → List ℕ → End
gives n e k out =
    record {
      group = e.group;
      opened = e.opened;
      coming = e.coming;
      put = e.put;
      took = e.took;
      read = record { got = e.read.got ++ take k out; origins = e.read.origins ++ origins_from e n.slot 0 k };
    }

abbrev pub acted : Names → End → Answer → Aim → End
acted n e a (sends u b) = takes e (take (taken_by a.says) b)
acted n e a (places at b) = puts n e (accepted_b a.says) at (length b)
acted n e a (reads out) = gives n e (read_in a.says) a.out
acted n e a finishes = e
acted n e a (hears b) = with_coming e (cond (failover_b (decode_of b)) (less_message e.coming) (after_message e.coming))
acted n e a elsewhere = e

unfoldable pub called : Names → End → Call → Answer → End
called n e c a = with_group (acted n e a (aim_of n c)) (next e.group c)

-- and what it adds to what is under way to the other end: bytes go over the connection's own link, the one that its record names
unfoldable pub reached : Names → End → Call → Answer → End → End
reached n e c a other =
    let link = (record_of_all e.group n.slot).id.link in
    with_coming other (other.coming ++ hands_over (length e.took) link a (moves_over n e.group c) (aim_of n c))

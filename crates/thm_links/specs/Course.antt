-- Request 2026-01: at most one exchange runs, what ends it, what takes all links down, and two ends that add a link. proofs/Course and
-- proofs/TwoEnds prove each. Assumes nothing.
use Rattle.std.specs.Prelude.{ℕ, ◌≡◌, Bool, true, false, ◌&&◌, ◌||◌, not, List, leb, eqb}
use Rattle.link_message.specs.declared.Kind.{Kind}
use Rattle.link_message.specs.declared.Kind.TheVariants.{AddLink}
use Rattle.link_exchange.specs.declared.Role.{Role}
use Rattle.link_exchange.specs.declared.Role.TheVariants.{Client, Server}
use Rattle.link_exchange.specs.declared.Exchange.{Exchange}
use Rattle.link_exchange.specs.declared.Touch.{Touch}
use Rattle.link_exchange.specs.declared.Touch.TheVariants.{Nothing, Up, Down, All}
use Rattle.link_exchange.specs.declared.Said.{Said}
use Rattle.link_exchange.specs.Exchange.{no_exchange, add, delete, rkey, sort_of, due_b, went_on, empty_queue, runs_over}
use Rattle.link_exchange.specs.Fates.{arriving_of, outside_b}
use Rattle.group_table.specs.declared.Links.{Links}
use Rattle.group_table.specs.Table.{link_in, active_b}
use Rattle.link_calls.specs.Calls.{down_b, heard_in, sent_in, heard_of, sent_of}
use Rattle.thm_links.specs.Statements.{Call, does, next, Idle}
use Rattle.thm_links.specs.Statements.Call.{change, message, send}

-- AT MOST ONE EXCHANGE RUNS. There is one, of one stage: a call leaves it, or it goes on by the call's own message, which was due, or it ends
-- because the call takes links down; the call's own message begins another where none runs, and the server's ADD LINK in the place of an rkey
abbrev pub Own : Links → Call → ℕ → Said → Type 0
Own g (change l up) L m = ⊥
Own g (message l b) L m = (L ≡ l) × (m ≡ heard_in g b)
Own g (send l k vs) L m = (L ≡ l) × (m ≡ sent_in g k vs)

-- "02: stage 1; the server's 04 without A: 5; 06: 6, or 7 with more than two RTokens; 09: 11"; v is the message's link, w the link that it names
pub data Begins (l : ℕ) (m : Said) : Exchange → Type 0 where
  adding : m.kind ≡ 0x02 → Begins l m (record { stage = 1; v = l; w = m.link })
  deleting : m.kind ≡ 0x04 → Begins l m (record { stage = 5; v = l; w = m.link })
  confirming : m.kind ≡ 0x06 → leb m.num 2 ≡ true → Begins l m (record { stage = 6; v = l; w = 0 })
  confirming_more : m.kind ≡ 0x06 → leb m.num 2 ≡ false → Begins l m (record { stage = 7; v = l; w = 0 })
  withdrawing : m.kind ≡ 0x09 → Begins l m (record { stage = 11; v = l; w = 0 })

abbrev pub takes_down : Touch → Bool
takes_down Nothing = false
takes_down (Up l) = false
takes_down (Down l) = true
takes_down All = true

pub data Course (g : Links) (c : Call) (t : Touch) : Exchange → Type 0 where
  stays : Course g c t g.exchange
  goes_on : (l : ℕ) (m : Said) → Own g c l m → due_b g.exchange l m ≡ true → Course g c t (went_on g.exchange m)
  ends : takes_down t ≡ true → Course g c t no_exchange
  begins : (l : ℕ) (m : Said) (x : Exchange) → Own g c l m → g.exchange.stage ≡ 0 → Begins l m x → Course g c t x
  replaced : (l : ℕ) (m : Said) → Own g c l m → sort_of g.exchange ≡ rkey → m.kind ≡ 0x02
      → Course g c t (record { stage = 1; v = l; w = m.link })

abbrev pub OneExchange : Type 0
OneExchange = (g : Links) (c : Call) → Course g c (does g c).touch (next g c).exchange

-- a send that would begin one while one runs, and is refused with nothing before 15, is refused with that
abbrev pub would_begin : Said → Bool
would_begin m =
    not m.reply
    && (eqb m.kind 0x06 || (eqb m.kind 0x09 || (not m.client && (eqb m.kind 0x02 || (eqb m.kind 0x04 && not m.a)))))

abbrev pub NoSecond : Type 0
NoSecond =
    (g : Links) (l : ℕ) (k : Kind) (vs : List ℕ) → (g.exchange.stage ≡ 0 → ⊥) → would_begin (sent_in g k vs) ≡ true
    → due_b g.exchange l (sent_in g k vs) ≡ false → link_in l ≡ true → down_b g l (sent_in g k vs).kind ≡ false
    → outside_b (sent_in g k vs) ≡ false → (sent_of g l k vs).refusal ≡ 15

-- WHAT ENDS IT. The call hears or sends the message that was due
abbrev pub due_in : Links → Call → Bool
due_in g (change l up) = false
due_in g (message l b) = due_b g.exchange l (heard_in g b)
due_in g (send l k vs) = due_b g.exchange l (sent_in g k vs)

-- by whichever call a link goes down that it is run over, it ends, and the queue is emptied; but where a delete has ended by its reply, which
-- takes the link down, the queue stands
pub record Ended (g : Links) (c : Call) : Type 0 where
  pub ended : (next g c).exchange ≡ no_exchange
  pub emptied : due_in g c ≡ false → (next g c).queue ≡ empty_queue

abbrev pub EndsByAny : Type 0
EndsByAny = (g : Links) (c : Call) (l : ℕ) → (does g c).touch ≡ Down l → runs_over g.exchange l ≡ true → Ended g c

-- "other links going down leave exchange and queue alone", by whichever call; the reply that ends a delete aside
pub record LeftAlone (g h : Links) : Type 0 where
  pub same_exchange : h.exchange ≡ g.exchange
  pub same_queue : h.queue ≡ g.queue

abbrev pub OthersAlone : Type 0
OthersAlone =
    (g : Links) (c : Call) (l : ℕ) → (does g c).touch ≡ Down l → runs_over g.exchange l ≡ false → due_in g c ≡ false → LeftAlone g (next g c)

-- ALL FOUR LINKS GO DOWN only by a DELETE LINK request with A, heard or sent
abbrev pub AllCause : Links → Call → Type 0
AllCause g (change l up) = ⊥
AllCause g (message l b) = arriving_of (heard_in g b) ≡ 5
AllCause g (send l k vs) = ((sent_in g k vs).kind ≡ 0x04) × ((sent_in g k vs).a ≡ true)

abbrev pub AllGoDown : Type 0
AllGoDown = (g : Links) (c : Call) → (does g c).touch ≡ All → AllCause g c

-- and such a request, not refused, does take them down, whatever runs: no exchange is left, and none that waits
pub record GroupDown (h : Links) : Type 0 where
  pub all : (l : ℕ) → link_in l ≡ true → active_b h.active l ≡ false
  pub idle : Idle h

abbrev pub WholeGroup : Said → Type 0
WholeGroup m = (m.kind ≡ 0x04) × (m.reply ≡ false) × (m.a ≡ true)

abbrev pub AllDownByA : Type 0
AllDownByA =
    (g : Links) (l : ℕ) (b : List ℕ) (k : Kind) (vs : List ℕ)
    → ((heard_of g l b).refusal ≡ 0 → WholeGroup (heard_in g b) → GroupDown (next g (message l b)))
    × ((sent_of g l k vs).refusal ≡ 0 → WholeGroup (sent_in g k vs) → GroupDown (next g (send l k vs)))

-- the server's DELETE LINK without A, at a client that adds and deletes none, takes down the link that it names; and the reply that ends a
-- delete takes down w
pub record ServersDelete (g : Links) (m : Said) : Type 0 where
  pub is_04 : m.kind ≡ 0x04
  pub request : m.reply ≡ false
  pub not-all : m.a ≡ false
  pub from_the_server : m.client ≡ false
  pub not_adding : (sort_of g.exchange ≡ add → ⊥)
  pub not_deleting : (sort_of g.exchange ≡ delete → ⊥)

abbrev pub DownByServer : Type 0
DownByServer =
    (g : Links) (l : ℕ) (b : List ℕ) → (heard_of g l b).refusal ≡ 0 → ServersDelete g (heard_in g b)
    → active_b (next g (message l b)).active (heard_in g b).link ≡ false

abbrev pub DownByReply : Type 0
DownByReply =
    (g : Links) (l : ℕ) (b : List ℕ) → (heard_of g l b).refusal ≡ 0 → g.exchange.stage ≡ 5 → due_b g.exchange l (heard_in g b) ≡ true
    → active_b (next g (message l b)).active g.exchange.w ≡ false

-- TWO ENDS over ordered links: one is the client and one the server, they have the same links active and the same exchange
abbrev pub other_role : Role → Role
other_role Client = Server
other_role Server = Client

pub record InStep (a b : Links) : Type 0 where
  pub opposite : b.role ≡ other_role a.role
  pub same_active : b.active ≡ a.active
  pub same_exchange : b.exchange ≡ a.exchange

-- a message that an end sends, what that leaves of it, and what is left of the end that hears the bytes
abbrev pub bytes_of : Links → ℕ → Kind → List ℕ → List ℕ
bytes_of a l k vs = (sent_of a l k vs).message

abbrev pub sent_end : Links → ℕ → Kind → List ℕ → Links
sent_end a l k vs = (sent_of a l k vs).settled.after

abbrev pub heard_end : Links → Links → ℕ → Kind → List ℕ → Links
heard_end a b l k vs = (heard_of b l (bytes_of a l k vs)).settled.after

-- a message of an add that is due where it is sent, and not refused
pub record OfAdd (a : Links) (l : ℕ) (k : Kind) (vs : List ℕ) : Type 0 where
  pub adds : sort_of a.exchange ≡ add
  pub due : due_b a.exchange l (sent_in a k vs) ≡ true
  pub allowed : (sent_of a l k vs).refusal ≡ 0

-- it is not refused where it is heard, and leaves the ends in step
pub record HeardInStep (a b : Links) (l : ℕ) (k : Kind) (vs : List ℕ) : Type 0 where
  pub allowed : (heard_of b l (bytes_of a l k vs)).refusal ≡ 0
  pub in_step : InStep (sent_end a l k vs) (heard_end a b l k vs)

abbrev pub AddInStep : Type 0
AddInStep = (a b : Links) → InStep a b → (l : ℕ) (k : Kind) (vs : List ℕ) → OfAdd a l k vs → HeardInStep a b l k vs

-- it begins: with none running, the server's ADD LINK request with an mtu of 1 to 5 is not refused where it is heard, and leaves them in step
abbrev pub AddBegins : Type 0
AddBegins =
    (a b : Links) → InStep a b → a.role ≡ Server → a.exchange.stage ≡ 0 → (l : ℕ) (vs : List ℕ) → (sent_in a AddLink vs).reply ≡ false
    → (leb 1 (sent_in a AddLink vs).mtu && leb (sent_in a AddLink vs).mtu 5) ≡ true → (sent_of a l AddLink vs).refusal ≡ 0
    → HeardInStep a b l AddLink vs

-- an add from a stage on, each message heard before the next is sent, by either end
pub data Adding : Links → Links → Links → Links → Type 0 where
  done : {a b : Links} → Adding a b a b
  first_sends : {a b c d : Links} (l : ℕ) (k : Kind) (vs : List ℕ) → OfAdd a l k vs
      → Adding (sent_end a l k vs) (heard_end a b l k vs) c d → Adding a b c d
  second_sends : {a b c d : Links} (l : ℕ) (k : Kind) (vs : List ℕ) → OfAdd b l k vs
      → Adding (heard_end b a l k vs) (sent_end b l k vs) c d → Adding a b c d

-- so however far it has gone, accepted or rejected, the same links are active at both ends
abbrev pub SameLinksAdded : Type 0
SameLinksAdded = (a b c d : Links) → InStep a b → Adding a b c d → InStep c d

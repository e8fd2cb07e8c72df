-- Request 2026-01, parts 2 and 6: what a link message says, the exchange, its stages, the queue, and what the links' going down ends.
-- Assumes nothing.
use Rattle.std.specs.Prelude.{ℕ, ◌+◌, ◌-◌, ◌%◌, min, Bool, true, false, ◌&&◌, ◌||◌, not, cond, List, [], ◌∷◌, get_or, set, replicate, leb, ltb, eqb}
use Rattle.link_message.specs.declared.Kind.{Kind}
use Rattle.link_message.specs.Layouts.{code_of}
use Rattle.link_message.specs.Names.{row_of}
use Rattle.link_message.specs.Names.Name.{R, Z, A, link, num, mtu}
use Rattle.link_exchange.specs.declared.Role.{Role}
use Rattle.link_exchange.specs.declared.Role.TheVariants.{Client, Server}
use Rattle.link_exchange.specs.declared.Exchange.{Exchange}
use Rattle.link_exchange.specs.declared.Waiting.{Waiting}
use Rattle.link_exchange.specs.declared.Queue.{Queue}
use Rattle.link_exchange.specs.declared.Touch.{Touch}
use Rattle.link_exchange.specs.declared.Touch.TheVariants.{Nothing, Up, Down, All}
use Rattle.link_exchange.specs.declared.Places.{Places}
use Rattle.link_exchange.specs.declared.Said.{Said}

-- WHAT A MESSAGE SAYS: its kind, and those of its values that the rules look at. Where a kind has Z, A, its link, num and mtu: the row's
-- number, from 0
abbrev pub nowhere : ℕ
nowhere = 12

abbrev pub places_of : Kind → Places
places_of k = record { 0 = row_of k Z; 1 = row_of k A; 2 = row_of k link; 3 = row_of k num; 4 = row_of k mtu }

-- a flag, and a row of a byte or less; 0 where there is none
unfoldable pub flag_at : List ℕ → ℕ → Bool
flag_at vs i = ltb i nowhere && eqb (get_or vs i 0) 1

unfoldable pub byte_at : List ℕ → ℕ → ℕ
byte_at vs i = cond (ltb i nowhere) (get_or vs i 0 % 256) 0

-- "a heard message is from the other role, a sent one from ours"
abbrev pub client_b : Role → Bool
client_b Client = true
client_b Server = false

unfoldable pub said_of : Role → Bool → Kind → List ℕ → Said
said_of r heard k vs =
    record {
      kind = code_of k;
      heard = heard;
      client = heard && not (client_b r) || (not heard && client_b r);
      reply = flag_at vs (row_of k R);
      z = flag_at vs (places_of k).0;
      a = flag_at vs (places_of k).1;
      link = byte_at vs (places_of k).2;
      num = byte_at vs (places_of k).3;
      mtu = byte_at vs (places_of k).4;
    }

-- THE EXCHANGE. "One that ends is written 0, 0, 0"
abbrev pub no_exchange : Exchange
no_exchange = record { stage = 0; v = 0; w = 0 }

-- the sorts' numbers
abbrev pub none : ℕ
none = 0

abbrev pub add : ℕ
add = 1

abbrev pub delete : ℕ
delete = 2

abbrev pub rkey : ℕ
rkey = 3

-- stages 1 to 4 add, 5 delete, above that rkey
unfoldable pub sort_of : Exchange → ℕ
sort_of x = cond (eqb x.stage 0) none (cond (leb x.stage 4) add (cond (eqb x.stage 5) delete rkey))

-- "the link being added is w while the sort is add"
unfoldable pub adding_b : Exchange → ℕ → Bool
adding_b x l = eqb (sort_of x) add && eqb l x.w

-- THE STAGES. A line: the stage; the message due, its kind and whether it is a reply; whom it is from; the link it comes over; what it
-- carries
pub data From : Type 0 where
  client : From
  server : From
  peer : From
  us : From

pub data Over : Type 0 where
  v : Over
  w : Over

pub data Carries : Type 0 where
  anything : Carries
  is_w : Carries
  z_or_w : Carries
  is_without_a : Carries

pub record Line : Type 0 where
  pub stage : ℕ
  pub kind : ℕ
  pub reply : Bool
  pub from : From
  pub over : Over
  pub carries : Carries

abbrev line : ℕ → ℕ → Bool → From → Over → Carries → Line
line s k r f o c = record { stage = s; kind = k; reply = r; from = f; over = o; carries = c }

abbrev request : Bool
request = false

abbrev reply : Bool
reply = true

unfoldable pub stages : List Line
stages =
    line 1 0x02 reply client v z_or_w
    ∷ line 2 0x03 request server v is_w
    ∷ line 2 0x01 request server w is_w
    ∷ line 3 0x03 reply client v is_w
    ∷ line 4 0x01 reply client w is_w
    ∷ line 5 0x04 reply peer v is_without_a
    ∷ line 6 0x06 reply peer v anything
    ∷ line 7 0x06 reply peer v anything
    ∷ line 8 0x08 request us v anything
    ∷ line 9 0x08 reply peer v anything
    ∷ line 10 0x08 reply peer v anything
    ∷ line 11 0x09 reply peer v anything
    ∷ []

abbrev from_b : Said → From → Bool
from_b m client = m.client
from_b m server = not m.client
from_b m peer = m.heard
from_b m us = not m.heard

abbrev over_of : Exchange → Over → ℕ
over_of x v = x.v
over_of x w = x.w

abbrev carries_b : Exchange → Said → Carries → Bool
carries_b x m anything = true
carries_b x m is_w = eqb m.link x.w
carries_b x m z_or_w = m.z || eqb m.link x.w
carries_b x m is_without_a = not m.a && eqb m.link x.w

abbrev reply_b : Said → Bool → Bool
reply_b m true = m.reply
reply_b m false = not m.reply

-- "a message is due if the stage's line names it, its sender and its link"
abbrev is_due : Exchange → ℕ → Said → Line → Bool
is_due x l m n =
    eqb x.stage n.stage
    && (eqb m.kind n.kind && (reply_b m n.reply && (from_b m n.from && (eqb l (over_of x n.over) && carries_b x m n.carries))))

abbrev some_line : (Line → Bool) → List Line → Bool
some_line f [] = false
some_line f (n ∷ ns) = f n || some_line f ns

unfoldable pub due_b : Exchange → ℕ → Said → Bool
due_b x l m = some_line (is_due x l m) stages

-- the next stage
unfoldable pub next_stage : Exchange → Said → ℕ
next_stage x m =
    cond (eqb x.stage 1) (cond m.z 0 2)
    (cond (eqb x.stage 2) (cond (eqb m.kind 0x03) 3 4)
    (cond (eqb x.stage 3) 2
    (cond (eqb x.stage 7) (cond m.z 0 8)
    (cond (eqb x.stage 8) (cond (leb m.num 3) 9 10)
    (cond (eqb x.stage 10) (cond m.z 0 8) 0)))))

unfoldable pub went_on : Exchange → Said → Exchange
went_on x m = cond (eqb (next_stage x m) 0) no_exchange (record { stage = next_stage x m; v = x.v; w = x.w })

-- stage 4: "and w becomes active"; stage 5: "and then w goes down"
unfoldable pub due_touch : Exchange → Touch
due_touch x = cond (eqb x.stage 4) (Up x.w) (cond (eqb x.stage 5) (Down x.w) Nothing)

-- THE QUEUE. "above 4 counts as 4"
abbrev pub most_waiting : ℕ
most_waiting = 4

abbrev pub no_waiting : Waiting
no_waiting = record { link = 0; bytes = replicate 44 0 }

unfoldable pub empty_queue : Queue
empty_queue = record { count = 0; places = replicate most_waiting no_waiting }

unfoldable pub full_b : Queue → Bool
full_b q = leb most_waiting q.count

-- "queueing writes place count + 1"
unfoldable pub queued : Queue → Waiting → Queue
queued q m = cond (full_b q) q (record { count = q.count + 1; places = set q.places q.count m })

-- "taking the oldest moves places 2 to 4 up by one and writes place 4 zeros"
-- the code is lent four places by its types
abbrev pub place_in : Queue → ℕ → Waiting
place_in q i = get_or q.places i (record { link = 0; bytes = [] })

unfoldable pub oldest : Queue → Waiting
oldest q = place_in q 0

unfoldable pub without_oldest : Queue → Queue
without_oldest q = record { count = min q.count most_waiting - 1; places = place_in q 1 ∷ place_in q 2 ∷ place_in q 3 ∷ no_waiting ∷ [] }

-- THE LINKS. "an exchange is run over v, an add over w too"
unfoldable pub runs_over : Exchange → ℕ → Bool
runs_over x l = not (eqb x.stage 0) && (eqb l x.v || adding_b x l)

-- "when such a link goes down while it runs, it ends and the queue is emptied"; "an 04 request with A writes the exchange 0, 0, 0 and
-- empties the queue whatever ran"
unfoldable pub ends_b : Exchange → Touch → Bool
ends_b x Nothing = false
ends_b x (Up l) = false
ends_b x (Down l) = runs_over x l
ends_b x All = true

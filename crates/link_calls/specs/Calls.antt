-- Request 2026-01, parts 4 to 6: link message, link send, and what link change does to exchange and queue.
-- Assumes nothing.
use Rattle.std.specs.Prelude.{ℕ, Bool, true, false, ◌&&◌, ◌||◌, not, cond, List, [], ◌∷◌, length, get_or, set, replicate, ltb, eqb}
use Rattle.link_message.specs.Llc.{class_of, optional}
use Rattle.link_message.specs.declared.Kind.{Kind}
use Rattle.link_message.specs.declared.Kind.TheVariants.{ConfirmLink}
use Rattle.link_message.specs.Layouts.{code_of, mark, kind_of, named_b, read_of, reduced_of, encode_of, most_rows}
use Rattle.link_message.specs.Names.{Name, row_of}
use Rattle.link_message.specs.Names.Name.{R, Z, C, reason, mask}
use Rattle.link_exchange.specs.declared.Role.{Role}
use Rattle.link_exchange.specs.declared.Fate.{Fate}
use Rattle.link_exchange.specs.declared.Fate.TheVariants.{Taken, Queued, Denied, Dropped}
use Rattle.link_exchange.specs.declared.Exchange.{Exchange}
use Rattle.link_exchange.specs.declared.Waiting.{Waiting}
use Rattle.link_exchange.specs.declared.Queue.{Queue}
use Rattle.link_exchange.specs.declared.Touch.{Touch}
use Rattle.link_exchange.specs.declared.Touch.TheVariants.{Nothing, Up, Down, All}
use Rattle.link_exchange.specs.declared.Said.{Said}
use Rattle.link_exchange.specs.Exchange.{client_b, said_of, no_exchange, adding_b, due_b, went_on, due_touch, empty_queue, full_b, queued, oldest, without_oldest, ends_b}
use Rattle.link_exchange.specs.Fates.{fate_of, fate_number, fate_named, outside_b, taken_exchange, taken_touch, may_send, sent_exchange, sent_touch}
use Rattle.group_table.specs.declared.Links.{Links}
use Rattle.group_table.specs.Table.{link_in, active_b, link_set, exchange_set}
use Rattle.link_calls.specs.declared.Fields.{Fields}
use Rattle.link_calls.specs.declared.TakenUp.{TakenUp}
use Rattle.link_calls.specs.declared.Settled.{Settled}
use Rattle.link_calls.specs.declared.Heard.{Heard}
use Rattle.link_calls.specs.declared.Sent.{Sent}

-- kind and values of bytes, "none if byte 0 is no named kind"
unfoldable pub no_fields : Fields
no_fields = record { named = false; kind = ConfirmLink; values = replicate most_rows 0 }

abbrev pub first : List ℕ → ℕ
first b = get_or b 0 0

unfoldable pub fields_in : List ℕ → Fields
fields_in b = cond (named_b (first b)) (record { named = true; kind = kind_of (first b); values = read_of (kind_of (first b)) b }) no_fields

-- THE LINKS, by what a call does to them; one that goes down loses its gauge (request 2026-10)
unfoldable pub touched : Links → Touch → Links
touched g Nothing = g
touched g (Up l) = link_set g l true
touched g (Down l) = link_set g l false
touched g All = link_set (link_set (link_set (link_set g 1 false) 2 false) 3 false) 4 false

-- TAKING UP. "Its fate is taken if our role is server and it is an 02 request, or an 04 request without A whose link is active after the
-- call's own work; otherwise dropped". g: the group after it
unfoldable pub up_taken : Links → Said → Bool
up_taken g m =
    not (client_b g.role)
    && (not m.reply && (eqb m.kind 0x02 || eqb m.kind 0x04 && (not m.a && active_b g.active m.link)))

unfoldable pub none_up : TakenUp
none_up = record { some = false; link = 0; fields = no_fields; fate = Dropped }

unfoldable pub taken_up : Links → Waiting → TakenUp
taken_up g q =
    let f = fields_in q.bytes in
    record {
      some = true;
      link = q.link;
      fields = f;
      fate = cond (f.named && up_taken g (said_of g.role true f.kind f.values)) Taken Dropped;
    }

-- WHAT FOLLOWS in every call: "order within a call: stage, links, exchange ended by links, taking up". x, t and q are what the message
-- made of the exchange, does to the links, and made of the queue; due, that it was due
unfoldable pub settled_of : Links → Exchange → Touch → Queue → Bool → Settled
settled_of g x t q due =
    let links = touched g t in
    let ended = ends_b x t in
    let rest = cond ended empty_queue q in
    let takes = due && (eqb x.stage 0 && ltb 0 rest.count) in
    record {
      up = cond takes (taken_up links (oldest rest)) none_up;
      touch = t;
      after = exchange_set links (cond ended no_exchange x) (cond takes (without_oldest rest) rest);
    }

-- a refused call changes nothing
unfoldable pub unchanged : Links → Settled
unchanged g = record { up = none_up; touch = Nothing; after = g }

-- LINK CHANGE: 13
unfoldable pub change_touch : ℕ → Bool → Touch
change_touch l up = cond up (Up l) (Down l)

unfoldable pub changed_of : Links → ℕ → Bool → Settled
changed_of g l up = cond (link_in l) (settled_of g g.exchange (change_touch l up) g.queue false) (unchanged g)

-- LINK MESSAGE. "Tests 13, 6, length 44 (4), then optional, else 4, 14, 15"
-- 6: "not given where L is the link being added and the first byte is 01"
unfoldable pub down_b : Links → ℕ → ℕ → Bool
down_b g l byte = not (active_b g.active l || adding_b g.exchange l && eqb byte 0x01)

unfoldable pub optional_b : List ℕ → Bool
optional_b b = eqb (class_of (first b)) optional

unfoldable pub message_b : List ℕ → Bool
message_b b = named_b (first b) && eqb (get_or b 1 0) mark

abbrev pub heard_in : Links → List ℕ → Said
heard_in g b = said_of g.role true (fields_in b).kind (fields_in b).values

abbrev pub fate_no : Links → ℕ → Said → ℕ
fate_no g l m = fate_number (fate_of g.exchange l m)

-- 14: "a dropped or denied message acts on none"
unfoldable pub message_refusal : Links → ℕ → List ℕ → Said → ℕ → ℕ
message_refusal g l b m f =
    cond (not (link_in l)) 13
    (cond (down_b g l (first b)) 6
    (cond (not (eqb (length b) 44)) 4
    (cond (optional_b b) 0
    (cond (not (message_b b)) 4
    (cond ((eqb f (fate_number Taken) || eqb f (fate_number Queued)) && outside_b m) 14
    (cond (eqb f (fate_number Queued) && full_b g.queue) 15 0))))))

-- THE REPLY. "A reply is the fields heard with R 1 and what is named". A line: what arrives, its fate, the reply
pub data Sender : Type 0 where
  client : Sender
  server : Sender
  anyone : Sender

pub data Arriving : Type 0 where
  request : ℕ → Sender → Arriving
  without_a : ℕ → Sender → Arriving
  with_a : ℕ → Arriving
  reply : ℕ → Arriving

infix 68 ◌is◌
pub data Named : Type 0 where
  ◌is◌ : Name → ℕ → Named

-- a reply may be by the link that the message names: only if it is down; or one if it is active, another if it is down
pub data Reply : Type 0 where
  none : Reply
  naming : List Named → Reply
  only_down : List Named → Reply
  by_link : List Named → List Named → Reply

pub data Line : Type 0 where
  line : List Arriving → Fate → Reply → Line

-- unknown link, "reason 00100000"
abbrev pub unknown_link : ℕ
unknown_link = 0x00100000

unfoldable pub replies : List Line
replies =
    line (request 0x02 server ∷ []) Taken none
    ∷ line (request 0x02 server ∷ []) Denied (naming (Z is 1 ∷ reason is 2 ∷ []))
    ∷ line (request 0x02 client ∷ reply 0x07 ∷ []) Taken none
    ∷ line (without_a 0x04 client ∷ []) Taken (only_down (reason is unknown_link ∷ []))
    ∷ line (without_a 0x04 server ∷ []) Taken (by_link (reason is 0 ∷ []) (reason is unknown_link ∷ []))
    ∷ line (with_a 0x04 ∷ []) Taken none
    ∷ line (request 0x06 anyone ∷ request 0x08 anyone ∷ []) Taken (naming (Z is 0 ∷ C is 0 ∷ []))
    ∷ line (request 0x06 anyone ∷ request 0x08 anyone ∷ []) Denied (naming (Z is 1 ∷ C is 1 ∷ []))
    ∷ line (request 0x09 anyone ∷ []) Taken (naming (Z is 0 ∷ mask is 0 ∷ []))
    ∷ line (request 0x07 anyone ∷ []) Taken (naming [])  -- as it is
    ∷ []

abbrev sender_b : Said → Sender → Bool
sender_b m client = m.client
sender_b m server = not m.client
sender_b m anyone = true

abbrev arrives_b : Said → Arriving → Bool
arrives_b m (request k s) = sender_b m s && (not m.reply && eqb m.kind k)
arrives_b m (without_a k s) = sender_b m s && (not m.a && (not m.reply && eqb m.kind k))
arrives_b m (with_a k) = m.a && (not m.reply && eqb m.kind k)
arrives_b m (reply k) = m.reply && eqb m.kind k

abbrev some_b : {A : Type 0} → (A → Bool) → List A → Bool
some_b q [] = false
some_b q (x ∷ []) = q x
some_b q (x ∷ y ∷ l) = q x || some_b q (y ∷ l)

-- down: the link that the message names is down
abbrev made_b : Bool → Reply → Bool
made_b down none = false
made_b down (naming ns) = true
made_b down (only_down ns) = down
made_b down (by_link up dn) = true

abbrev answers_b : Said → ℕ → Bool → Line → Bool
answers_b m f down (line ms fate r) = made_b down r && (some_b (arrives_b m) ms && eqb f (fate_number fate))

-- f: the fate's number
unfoldable pub replies_b : Said → ℕ → Bool → Bool
replies_b m f down = some_b (answers_b m f down) replies

abbrev named_in : Bool → Reply → List Named
named_in down none = []
named_in down (naming ns) = ns
named_in down (only_down ns) = ns
named_in down (by_link up dn) = cond down dn up

abbrev named_by : Said → ℕ → Bool → List Line → List Named
named_by m f down [] = []
named_by m f down (line ms fate r ∷ ls) = cond (answers_b m f down (line ms fate r)) (named_in down r) (named_by m f down ls)

-- what a kind has no row for is not set: 08 has no C
unfoldable pub named : Kind → List Named → List ℕ → List ℕ
named k [] vs = vs
named k (n is v ∷ ns) vs = named k ns (cond (ltb (row_of k n) most_rows) (set vs (row_of k n) v) vs)

unfoldable pub reply_values : Said → ℕ → Bool → List ℕ → List ℕ
reply_values m f down vs = named (kind_of m.kind) (R is 1 ∷ named_by m f down replies) vs

-- "Due: the stage goes on as its line says. Queued: L and the bytes are put into the queue. Dropped: nothing. Taken or denied: as follows"
unfoldable pub message_work : Links → ℕ → List ℕ → Said → Bool → ℕ → Settled
message_work g l b m due f =
    settled_of g
    (cond due (went_on g.exchange m) (taken_exchange g.exchange l m f))
    (cond due (due_touch g.exchange) (taken_touch m f))
    (cond (eqb f (fate_number Queued)) (queued g.queue (record { link = l; bytes = b })) g.queue)
    due

unfoldable pub no_reply : List ℕ
no_reply = replicate 44 0

unfoldable pub heard_work : Links → ℕ → List ℕ → Said → Bool → ℕ → Heard
heard_work g l b m due f =
    let down = not (active_b g.active m.link) in
    let replies = not due && replies_b m f down in
    record {
      refusal = 0;
      fields = fields_in b;
      fate = fate_named f;
      replies = replies;
      reply = cond replies (encode_of (fields_in b).kind (reply_values m f down (fields_in b).values)) no_reply;
      settled = message_work g l b m due f;
    }

-- a refusal, and "optional: no fields, dropped, nothing else"
unfoldable pub nothing_heard : Links → ℕ → Heard
nothing_heard g j =
    record { refusal = j; fields = no_fields; fate = Dropped; replies = false; reply = no_reply; settled = unchanged g }

unfoldable pub heard_of : Links → ℕ → List ℕ → Heard
heard_of g l b =
    let m = heard_in g b in
    let f = fate_no g l m in
    let j = message_refusal g l b m f in
    cond (eqb j 0 && not (optional_b b)) (heard_work g l b m (due_b g.exchange l m) f) (nothing_heard g j)

-- LINK SEND. "Tests 13; 6, but not for 01 where L is the link being added; 14 by the same list as above; 15"
unfoldable pub send_refusal : Links → ℕ → Said → Bool → ℕ
send_refusal g l m due =
    cond (not (link_in l)) 13
    (cond (down_b g l m.kind) 6
    (cond (outside_b m) 14
    (cond (not (due || may_send g.exchange m)) 15 0)))

unfoldable pub sent_work : Links → ℕ → Said → Bool → Settled
sent_work g l m due =
    settled_of g
    (cond due (went_on g.exchange m) (sent_exchange g.exchange l m))
    (cond due (due_touch g.exchange) (sent_touch m))
    g.queue
    due

-- "values are first reduced to their rows' bits; all below looks at the reduced ones"
abbrev pub sent_in : Links → Kind → List ℕ → Said
sent_in g k vs = said_of g.role false k (reduced_of k vs)

unfoldable pub sent_of : Links → ℕ → Kind → List ℕ → Sent
sent_of g l k vs =
    let m = sent_in g k vs in
    let due = due_b g.exchange l m in
    let j = send_refusal g l m due in
    cond (eqb j 0)
    (record { refusal = 0; message = encode_of k vs; settled = sent_work g l m due })
    (record { refusal = j; message = no_reply; settled = unchanged g })

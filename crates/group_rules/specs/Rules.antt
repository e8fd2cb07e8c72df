-- Document 01's rules for a whole group: what each call answers, and the group that it leaves.
-- The contracts of the calls cite `Did`, which is `answer` and `next`; the theorems about lists of calls cite these and `Fresh`, and, for
-- whose a call is and what it sees, `recordOf`, `elementIn`, `link_of` and `holderOf`.
-- Assumes nothing.
use Rattle.std.specs.Prelude.{ℕ, ◌*◌, ◌≡◌, Bool, true, false, ◌&&◌, ◌||◌, not, cond, List, [], ◌∷◌, ◌++◌, ltb, leb, eqb, length, replicate}
use Rattle.cursor.specs.declared.Cursor.{Cursor}
use Rattle.cdc.specs.declared.Message.{Message}
use Rattle.cdc.specs.declared.Decoded.{Decoded}
use Rattle.cdc.specs.declared.Decoded.TheVariants.{Good, Malformed}
use Rattle.cdc.specs.Cdc.{decode_of}
use Rattle.link_message.specs.declared.Kind.{Kind}
use Rattle.link_exchange.specs.declared.Role.{Role}
use Rattle.link_exchange.specs.declared.Exchange.{Exchange}
use Rattle.link_exchange.specs.declared.Queue.{Queue}
use Rattle.link_exchange.specs.declared.Fate.{Fate}
use Rattle.closing.specs.declared.State.{State}
use Rattle.gauge.specs.declared.Gauge.{Gauge}
use Rattle.gauge.specs.declared.Health.{Health}
use Rattle.gauge.specs.Gauge.{most_ms, sampled_of, health_of}
use Rattle.element.specs.Element.{base_of, element_of, splice, intact_b, fresh_element, into_out}
use Rattle.conn_record.specs.declared.Record.{Record}
use Rattle.conn_record.specs.declared.Opening.{Opening}
use Rattle.conn_answer.specs.declared.Placing.{Placing}
use Rattle.conn_answer.specs.declared.Placings.{Placings}
use Rattle.conn_answer.specs.declared.Placings.TheVariants.{Nowhere, One, Two}
use Rattle.conn_answer.specs.declared.Reply.{Reply}
use Rattle.conn_answer.specs.declared.Reply.TheVariants.{Refused, Accepted, Sent, Read, Torn, Reset, Heard, Sampled}
use Rattle.conn_answer.specs.declared.Outcome.{Outcome}
use Rattle.conn_record.specs.Connection.{zero_record, opened_record, remote_ok, coherent_b}
use Rattle.conn_answer.specs.Outcome.{no_message}
use Rattle.conn_send.specs.Transmit.{send_of, urgent_send_of}
use Rattle.conn_gather.specs.Pieces.{Piece, pieces_of}
use Rattle.conn_receive.specs.Receive.{place_of, read_of}
use Rattle.conn_hear.specs.Hear.{hear_of}
use Rattle.conn_finish.specs.Finish.{shutdown_of, close_of, abort_of}
use Rattle.group_table.specs.declared.Links.{Links}
use Rattle.group_table.specs.declared.Answered.{Answered}
use Rattle.group_table.specs.Table.{sizes_b, slot_b, record_at, open_b, link_in, active_b, gauge_at, find_from, with_record, gauge_set}
use Rattle.link_failover.specs.Failover.{plan_of, moved_all, messages_of, count_of, buffer_left}
use Rattle.link_calls.specs.declared.Fields.{Fields}
use Rattle.link_calls.specs.declared.TakenUp.{TakenUp}
use Rattle.link_calls.specs.Calls.{changed_of, heard_of, sent_of}

-- A group: S and N, one connection table, four links, a gauge for each, our role, the exchange that runs, the messages that wait for its
-- end (request 2026-01), one receive memory. The code is given four links and gauges by its type; the rules are said for lists of any
-- length.
pub record Group : Type 0 where
  pub S : ℕ
  pub N : ℕ
  pub table : List Record
  pub links : List Bool
  pub gauges : List Gauge
  pub role : Role
  pub exchange : Exchange
  pub queue : Queue
  pub memory : List ℕ

-- its links with their gauges, role, exchange and queue
abbrev pub links_of : Group → Links
links_of g = record { active = g.links; gauges = g.gauges; role = g.role; exchange = g.exchange; queue = g.queue }

-- what is lent to the code, as a group
abbrev pub group_of : ℕ → ℕ → List Record → Links → List ℕ → Group
group_of s n t l m =
    record {
      S = s;
      N = n;
      table = t;
      links = l.active;
      gauges = l.gauges;
      role = l.role;
      exchange = l.exchange;
      queue = l.queue;
      memory = m;
    }

-- the group with another table, other links, another memory
abbrev pub with_table : Group → List Record → Group
with_table g t = group_of g.S g.N t (links_of g) g.memory

abbrev pub with_links : Group → Links → Group
with_links g l = group_of g.S g.N g.table l g.memory

abbrev pub with_memory : Group → List ℕ → Group
with_memory g m = group_of g.S g.N g.table (links_of g) m

-- THE CALLS, each with all bytes lent to it.

-- of a connection, on its slot. A read is lent an out buffer, a gather (document 02, 2026-08) a head and a body
pub data Request : Type 0 where
  send : List ℕ → Request
  urgent : List ℕ → Request
  gather : List ℕ → List ℕ → Request
  place : ℕ → List ℕ → Request
  read : List ℕ → Request
  shutdown : Request
  close : Request
  abort : Request

-- of management, document 01's desk calls: open takes a slot and what the connection is given (own token, peer token, link, N', index, and
-- a key and a base for each link); link change a link and whether it is active; link message a link and bytes; link send (request 2026-01)
-- a link, a kind and its values; sample (request 2026-10) a link and milliseconds. The three calls on links are lent a buffer (request
-- 2026-13)
pub data Management : Type 0 where
  open_slot : ℕ → Opening → Management
  free_slot : ℕ → Management
  link_change : ℕ → Bool → List ℕ → Management
  link_message : ℕ → List ℕ → List ℕ → Management
  link_send : ℕ → Kind → List ℕ → List ℕ → Management
  sample : ℕ → ℕ → Management

pub data Call : Type 0 where
  on : ℕ → Request → Call
  hear : List ℕ → Call
  manage : Management → Call

-- THE ANSWERS: the refusal's number, or all that the call's line names, with every byte of a message made, and the out buffer's bytes
-- as the call leaves them. A link message answers its fields, its fate and what was taken up, a link send what was taken up.
pub data Says : Type 0 where
  refusal : ℕ → Says
  accepted : Says
  sent : ℕ → List Placing → Says
  gathered : ℕ → List Piece → Says
  was_read_of : ℕ → Says
  torn : Says
  heard : ℕ → State → Says
  reset : Says
  sampled : Health → Says
  link_changed : ℕ → Says
  link_heard : Fields → Fate → TakenUp → ℕ → Says
  link_sent : TakenUp → ℕ → Says

-- 44 zeros stand in the place of a message where none is made
pub record Answer : Type 0 where
  pub says : Says
  pub made : Bool
  pub message : List ℕ
  pub out : List ℕ

-- the code's enums, as the page's numbers and values
abbrev pub placing_list : Placings → List Placing
placing_list Nowhere = []
placing_list (One p) = p ∷ []
placing_list (Two p q) = p ∷ q ∷ []

abbrev pub says_of : Reply → Says
says_of (Refused k) = refusal k
says_of Accepted = accepted
says_of (Sent n p) = sent n (placing_list p)
says_of (Read n) = was_read_of n
says_of Torn = torn
says_of (Heard moved state) = heard moved state
says_of Reset = reset
says_of (Sampled h) = sampled h

-- ONE SLOT. A call of a connection, from N, whether its link is active, its record, its element's bytes and what is lent: its answer,
-- the record and the bytes that it leaves. It sees nothing else.
pub record Turn : Type 0 where
  pub answer : Answer
  pub after : Record
  pub element : List ℕ

unfoldable pub turn_of : Outcome → List ℕ → List ℕ → Turn
turn_of o e out =
    record {
      answer = record { says = says_of o.reply; made = o.made; message = o.message; out = out };
      after = o.after;
      element = e;
    }

-- the bytes are stored where place is accepted, and nothing else
abbrev pub placed_in : Reply → List ℕ → ℕ → List ℕ → List ℕ
placed_in (Refused k) e at b = e
placed_in Accepted e at b = splice e at b
placed_in (Sent k p) e at b = e
placed_in (Read n) e at b = e
placed_in Torn e at b = e
placed_in (Heard moved state) e at b = e
placed_in Reset e at b = e
placed_in (Sampled h) e at b = e

-- the first n unread bytes from C are copied to out where n are read; else out is untouched
abbrev pub read_into : Reply → Cursor → List ℕ → List ℕ → List ℕ
read_into (Refused k) c e out = out
read_into Accepted c e out = out
read_into (Sent k p) c e out = out
read_into (Read n) c e out = into_out e c.offset n out
read_into Torn c e out = out
read_into (Heard moved state) c e out = out
read_into Reset c e out = out
read_into (Sampled h) c e out = out

-- Gather: refusals, n, record and message are those of a send of the joined bytes, head first; where that names placings, it names pieces
abbrev pub in_pieces : (ℕ → List Piece) → Says → Says
in_pieces pieces (refusal k) = refusal k
in_pieces pieces accepted = accepted
in_pieces pieces (sent n p) = gathered n (pieces n)
in_pieces pieces (gathered n p) = gathered n p
in_pieces pieces (was_read_of n) = was_read_of n
in_pieces pieces torn = torn
in_pieces pieces (heard moved state) = heard moved state
in_pieces pieces reset = reset
in_pieces pieces (sampled health) = sampled health
in_pieces pieces (link_changed n) = link_changed n
in_pieces pieces (link_heard fields fate up n) = link_heard fields fate up n
in_pieces pieces (link_sent up n) = link_sent up n

abbrev pub answer_in_pieces : (ℕ → List Piece) → Answer → Answer
answer_in_pieces pieces a = record { says = in_pieces pieces a.says; made = a.made; message = a.message; out = a.out }

abbrev pub send_turn : ℕ → Bool → Record → List ℕ → List ℕ → Turn
send_turn n active c e b = turn_of (send_of n active c (length b)) e []

abbrev pub gather_turn : ℕ → Bool → Record → List ℕ → List ℕ → List ℕ → Turn
gather_turn n active c e head body =
    let t = send_turn n active c e (head ++ body) in
    record { answer = answer_in_pieces (pieces_of c head body) t.answer; after = t.after; element = t.element }

unfoldable pub request_turn : ℕ → Bool → Record → List ℕ → Request → Turn
request_turn n active c e (send b) = send_turn n active c e b
request_turn n active c e (urgent b) = turn_of (urgent_send_of n active c (length b)) e []
request_turn n active c e (gather head body) = gather_turn n active c e head body
request_turn n active c e (place at b) =
    let o = place_of n active c at (length b) in turn_of o (placed_in o.reply e at b) []
request_turn n active c e (read out) =
    let o = read_of n active c (intact_b e) (length out) in turn_of o e (read_into o.reply c.inbound.consumer e out)
request_turn n active c e shutdown = turn_of (shutdown_of n active c) e []
request_turn n active c e close = turn_of (close_of n active c) e []
request_turn n active c e abort = turn_of (abort_of n active c) e []

unfoldable pub hear_turn : ℕ → Bool → Record → List ℕ → Message → Turn
hear_turn n active c e m = turn_of (hear_of n active c m) e []

-- THE GROUP. What a call answers, and the group that it leaves.
pub record Done : Type 0 where
  pub answer : Answer
  pub group : Group

-- a refusal returns its number only, and changes no table, memory or out buffer
unfoldable pub refuses : Group → ℕ → List ℕ → Done
refuses g k out = record { answer = record { says = refusal k; made = false; message = no_message; out = out }; group = g }

-- 1: S, N, the memory's length or the table's is wrong
abbrev pub sizes_ok : Group → Bool
sizes_ok g = sizes_b g.S g.N (length g.memory) (length g.table)

-- the slot's record, its element, and whether its link is active
abbrev pub record_of_all : Group → ℕ → Record
record_of_all g k = record_at g.table k

abbrev pub element_in : Group → ℕ → List ℕ
element_in g k = element_of g.N k g.memory

abbrev pub link_of : Group → ℕ → Bool
link_of g k = active_b g.links (record_of_all g k).id.link

-- the turn of slot k, with its record and its element put back
unfoldable pub put_turn : Group → ℕ → Turn → Done
put_turn g k t =
    record {
      answer = t.answer;
      group = with_memory (with_table g (with_record g.table k t.after)) (splice g.memory (base_of g.N k) t.element);
    }

-- what is lent as an out buffer
abbrev pub out_of : Request → List ℕ
out_of (send b) = []
out_of (urgent b) = []
out_of (gather head body) = []
out_of (place at b) = []
out_of (read out) = out
out_of shutdown = []
out_of close = []
out_of abort = []

-- connection calls test 1, then 2
unfoldable pub on_does : Group → ℕ → Request → Done
on_does g k q =
    cond (sizes_ok g)
    (cond (open_b g.S g.table k)
    (put_turn g k (request_turn g.N (link_of g k) (record_of_all g k) (element_in g k) q))
    (refuses g 2 (out_of q)))
    (refuses g 1 (out_of q))

-- 5: no open slot has the token, or it is 0. Hear finds the lowest slot with the token
abbrev pub holder_of : Group → ℕ → ℕ
holder_of g token = cond (eqb token 0) 0 (find_from g.table token g.S)

unfoldable pub hear_at : Group → Message → ℕ → Done
hear_at g m k =
    cond (eqb k 0) (refuses g 5 []) (put_turn g k (hear_turn g.N (link_of g k) (record_of_all g k) (element_in g k) m))

-- 4: the bytes are not a message
abbrev pub hear_message : Group → Decoded → Done
hear_message g (Good m) = hear_at g m (holder_of g m.token)
hear_message g Malformed = refuses g 4 []

unfoldable pub hear_does : Group → List ℕ → Done
hear_does g b = cond (sizes_ok g) (hear_message g (decode_of b)) (refuses g 1 [])

-- an answer that names nothing and makes no message
abbrev pub plain : Answer
plain = record { says = accepted; made = false; message = no_message; out = [] }

abbrev pub plain_turn : Record → List ℕ → Turn
plain_turn c e = record { answer = plain; after = c; element = e }

-- 12: a zero token, N' or the index out of range, or an element whose last byte would pass the top of 64 bits on any link
abbrev pub bad_opening : Opening → Bool
bad_opening o = eqb o.own 0 || (eqb o.peer 0 || not (remote_ok o.remote))

-- Open: 1, 2 (outside only), 10 (already open), 12, 13, 6 (the named link is down), 11 (own token held by another open slot: any holder is
-- another, since slot k is closed here); 0: not refused
unfoldable pub open_refusal : Group → ℕ → Opening → ℕ
open_refusal g k o =
    cond (not (sizes_ok g)) 1
    (cond (not (slot_b g.S k)) 2
    (cond (record_of_all g k).id.opened 10
    (cond (bad_opening o) 12
    (cond (not (link_in o.link)) 13
    (cond (not (active_b g.links o.link)) 6
    (cond (ltb 0 (find_from g.table o.own g.S)) 11 0))))))

-- it zeroes the element and writes the eye catcher
unfoldable pub open_does : Group → ℕ → Opening → Done
open_does g k o =
    let j = open_refusal g k o in
    cond (eqb j 0) (put_turn g k (plain_turn (opened_record o) (fresh_element g.N))) (refuses g j [])

-- Free: 1, 2, 3, 7 (outside PeerAbortWait, which is: abort sent); it closes the slot
unfoldable pub free_refusal : Group → ℕ → ℕ
free_refusal g k =
    cond (not (sizes_ok g)) 1
    (cond (not (open_b g.S g.table k)) 2
    (cond (not (coherent_b g.N (record_of_all g k))) 3
    (cond (not (record_of_all g k).marks.abort) 7 0)))

unfoldable pub free_does : Group → ℕ → Done
free_does g k =
    let j = free_refusal g k in
    cond (eqb j 0) (put_turn g k (plain_turn zero_record (element_in g k))) (refuses g j [])

-- FAILOVER (request 2026-13). "The three calls now test 1 first", and "1 covers a buffer under 44 x S bytes"; j: what they test then
abbrev pub lent_ok : Group → List ℕ → Bool
lent_ok g b = sizes_ok g && leb (44 * g.S) (length b)

unfoldable pub link_refusal : Group → List ℕ → ℕ → ℕ
link_refusal g b j = cond (lent_ok g b) j 1

-- after a call's own work on the links, connections move, and the messages stand in the buffer b; the answer counts them
unfoldable pub fails_over : Group → Links → List ℕ → (ℕ → Says) → Bool → List ℕ → Done
fails_over g links b says made message =
    let p = plan_of g.links links.active in
    record {
      answer =
          record {
            says = says (count_of g.N p g.table);
            made = made;
            message = message;
            out = buffer_left (messages_of g.N p g.table) b;
          };
      group = group_of g.S g.N (moved_all g.N p g.table) links g.memory;
    }

-- Link change: 1, 13; it sets one link, and one that is set down loses its gauge, and ends an exchange that is run over it
unfoldable pub link_does : Group → ℕ → Bool → List ℕ → Done
link_does g l up b =
    let j = link_refusal g b (cond (link_in l) 0 13) in
    cond (eqb j 0) (fails_over g (changed_of (links_of g) l up).after b link_changed false no_message) (refuses g j b)

-- Link message: 1, 13, 6, 4, 14, 15, and what the bytes are
unfoldable pub link_message_does : Group → ℕ → List ℕ → List ℕ → Done
link_message_does g l bytes b =
    let h = heard_of (links_of g) l bytes in
    let j = link_refusal g b h.refusal in
    cond (eqb j 0)
    (fails_over g h.settled.after b (link_heard h.fields h.fate h.settled.up) h.replies h.reply)
    (refuses g j b)

-- Link send: 1, 13, 6, 14, 15, and the message made
unfoldable pub link_send_does : Group → ℕ → Kind → List ℕ → List ℕ → Done
link_send_does g l k vs b =
    let h = sent_of (links_of g) l k vs in
    let j = link_refusal g b h.refusal in
    cond (eqb j 0) (fails_over g h.settled.after b (link_sent h.settled.up) true h.message) (refuses g j b)

-- Sample: 13, 6, 17 (above 60,000 milliseconds); 0: not refused
unfoldable pub sample_refusal : List Bool → ℕ → ℕ → ℕ
sample_refusal links l ms = cond (not (link_in l)) 13 (cond (not (active_b links l)) 6 (cond (not (leb ms most_ms)) 17 0))

-- it answers the health that the gauge then has
abbrev pub healthy : Gauge → Answer
healthy q = record { says = sampled (health_of q); made = false; message = no_message; out = [] }

-- that link's gauge has one sample more, and nothing else changes
unfoldable pub sample_does : Group → ℕ → ℕ → Done
sample_does g l ms =
    let j = sample_refusal g.links l ms in
    let q = sampled_of (gauge_at g.gauges l) ms in
    cond (eqb j 0) (record { answer = healthy q; group = with_links g (gauge_set (links_of g) l q) }) (refuses g j [])

abbrev pub manage_does : Group → Management → Done
manage_does g (open_slot k o) = open_does g k o
manage_does g (free_slot k) = free_does g k
manage_does g (link_change l up b) = link_does g l up b
manage_does g (link_message l bytes b) = link_message_does g l bytes b
manage_does g (link_send l k vs b) = link_send_does g l k vs b
manage_does g (sample l ms) = sample_does g l ms

abbrev pub does : Group → Call → Done
does g (on k q) = on_does g k q
does g (hear b) = hear_does g b
does g (manage d) = manage_does g d

-- ONE RULE FOR ALL CALLS.
abbrev pub answer : Group → Call → Answer
answer g c = (does g c).answer

abbrev pub next : Group → Call → Group
next g c = (does g c).group

-- what each contract promises: the answer a and the group h that the call c left of g are what the rules say
pub record Did (g : Group) (c : Call) (a : Answer) (h : Group) : Type 0 where
  pub answered : a ≡ answer g c
  pub left : h ≡ next g c

-- what the code returns, as an answer
abbrev pub answer_of : Answered → List ℕ → Answer
answer_of r out = record { says = says_of r.reply; made = r.made; message = r.message; out = out }

-- A fresh group has S and N in range, a table of S records, every slot closed (whatever else it holds), every link down, no sample in any
-- gauge (whatever else it holds), no exchange, none that waits (whatever v, w and the places hold), either role, and memory all zeros.
pub record Fresh (g : Group) : Type 0 where
  pub sizes : sizes_ok g ≡ true
  pub closed : (k : ℕ) → open_b g.S g.table k ≡ false
  pub down : (l : ℕ) → active_b g.links l ≡ false
  pub unheard : (l : ℕ) → (gauge_at g.gauges l).count ≡ 0
  pub idle : g.exchange.stage ≡ 0
  pub none : g.queue.count ≡ 0
  pub zeros : g.memory ≡ replicate (length g.memory) 0

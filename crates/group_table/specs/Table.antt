-- Document 01, "The memory and the tables", "When the desk says no": sizes, slots, links, and the search by token.
-- Assumes nothing.
use Rattle.std.specs.Prelude.{ℕ, zero, suc, ◌-◌, ◌*◌, Bool, true, false, ◌&&◌, not, cond, List, [], ◌∷◌, leb, eqb, length, get_or, set}
use Rattle.gauge.specs.declared.Gauge.{Gauge}
use Rattle.gauge.specs.Gauge.{cleared_of}
use Rattle.link_exchange.specs.declared.Exchange.{Exchange}
use Rattle.link_exchange.specs.declared.Queue.{Queue}
use Rattle.conn_record.specs.declared.Record.{Record}
use Rattle.conn_answer.specs.declared.Outcome.{Outcome}
use Rattle.conn_answer.specs.declared.Reply.TheVariants.{Refused}
use Rattle.conn_record.specs.Connection.{least_size, most_size, most_link, every, zero_record}
use Rattle.conn_answer.specs.Outcome.{no_message}
use Rattle.group_table.specs.declared.Links.{Links}
use Rattle.group_table.specs.declared.Answered.{Answered}
use Rattle.group_table.specs.declared.Turned.{Turned}

-- the most elements that a memory has
abbrev pub most_slots : ℕ
most_slots = 255

-- S from 1 to 255, N from 8 to 65,540, a memory of S x N bytes, and a table of S records
unfoldable pub sizes_b : ℕ → ℕ → ℕ → ℕ → Bool
sizes_b s n len count = every (leb 1 s ∷ leb s most_slots ∷ leb least_size n ∷ leb n most_size ∷ eqb len (s * n) ∷ eqb count s ∷ [])

-- slot k, from 1 to S
unfoldable pub slot_b : ℕ → ℕ → Bool
slot_b s k = leb 1 k && leb k s

-- the record of slot k: slots are counted from 1; beyond the table, all zeros
unfoldable pub record_at : List Record → ℕ → Record
record_at t zero = zero_record
record_at t (suc i) = get_or t i zero_record

-- where it stands in a table of `count` records; `count` for a slot outside it
unfoldable pub index_of : ℕ → ℕ → ℕ
index_of k count = cond (leb 1 k && leb k count) (k - 1) count

-- slot k is one of 1 to S, and open
unfoldable pub open_b : ℕ → List Record → ℕ → Bool
open_b s t k = slot_b s k && (record_at t k).id.opened

-- link l, from 1 to 4
abbrev pub link_in : ℕ → Bool
link_in l = leb 1 l && leb l most_link

-- it is active
unfoldable pub active_b : List Bool → ℕ → Bool
active_b links zero = false
active_b links (suc i) = get_or links i false

-- its gauge (request 2026-10); beyond the links, a cleared one
unfoldable pub gauge_at : List Gauge → ℕ → Gauge
gauge_at gauges zero = cleared_of
gauge_at gauges (suc i) = get_or gauges i cleared_of

-- the record is open and has the token
unfoldable pub holds_b : ℕ → Record → Bool
holds_b token c = c.id.opened && eqb c.id.own token

-- 1 where this record passes, else one more than where a later one stands; 0 for none
abbrev pub or_later : Bool → ℕ → ℕ
or_later true k = 1
or_later false zero = 0
or_later false (suc k) = suc (suc k)

-- where the first of the list's first s records that passes a test stands, counted from 1; 0 for none
unfoldable pub lowest : (Record → Bool) → ℕ → List Record → ℕ
lowest q zero t = 0
lowest q (suc s) [] = 0
lowest q (suc s) (c ∷ t) = or_later (q c) (lowest q s t)

-- the lowest slot of 1 to S that is open with the token
unfoldable pub find_from : List Record → ℕ → ℕ → ℕ
find_from t token s = lowest (holds_b token) s t

-- the same, of the whole table, where no slot has the token 0
unfoldable pub holder_in : List Record → ℕ → ℕ
holder_in t token = cond (eqb token 0) 0 (find_from t token (length t))

-- another record in slot k, and every other slot as it was
unfoldable pub with_record : List Record → ℕ → Record → List Record
with_record t zero c = t
with_record t (suc i) c = set t i c

unfoldable pub with_link : List Bool → ℕ → Bool → List Bool
with_link l zero up = l
with_link l (suc i) up = set l i up

unfoldable pub with_gauge : List Gauge → ℕ → Gauge → List Gauge
with_gauge gauges zero q = gauges
with_gauge gauges (suc i) q = set gauges i q

-- THE LINKS, THEIR GAUGES AND EXCHANGE: these active and these gauges, beside the same role, exchange and queue
abbrev pub links_set : Links → List Bool → List Gauge → Links
links_set links active gauges =
    record { active = active; gauges = gauges; role = links.role; exchange = links.exchange; queue = links.queue }

-- link l active or down; another gauge for it
abbrev pub active_set : Links → ℕ → Bool → Links
active_set links l up = links_set links (with_link links.active l up) links.gauges

abbrev pub gauge_set : Links → ℕ → Gauge → Links
gauge_set links l q = links_set links links.active (with_gauge links.gauges l q)

-- another exchange and queue (request 2026-01)
abbrev pub exchange_set : Links → Exchange → Queue → Links
exchange_set links x q = record { active = links.active; gauges = links.gauges; role = links.role; exchange = x; queue = q }

-- a link change: one that is set down loses its gauge, also where it was down already
unfoldable pub link_set : Links → ℕ → Bool → Links
link_set links l up = cond up (active_set links l up) (gauge_set (active_set links l up) l cleared_of)

-- WHAT THE CODE ANSWERS. What a call on slot k, whose record is c, tests first: 1, then 2 (outside 1 to S, or closed); 0: neither
unfoldable pub found_of_all : ℕ → ℕ → ℕ → ℕ → ℕ → Record → ℕ
found_of_all s n len count k c = cond (not (sizes_b s n len count)) 1 (cond (not (slot_b s k && c.id.opened)) 2 0)

unfoldable pub refused_by : ℕ → Links → Answered
refused_by k l = record { reply = Refused k; made = false; message = no_message; links = l }

-- an answer, and the record as it was
unfoldable pub kept_by_of : Record → Answered → Turned
kept_by_of c a = record { after = c; answer = a }

-- what the step of one record gave
unfoldable pub turned_by : Links → Outcome → Turned
turned_by l o = record { after = o.after; answer = record { reply = o.reply; made = o.made; message = o.message; links = l } }

-- refusal j, or, where that is 0, what the step of the record c gave
unfoldable pub settled_by : ℕ → Links → Record → Outcome → Turned
settled_by j l c o = cond (eqb j 0) (turned_by l o) (kept_by_of c (refused_by j l))

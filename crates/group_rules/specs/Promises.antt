-- What the functions of a call promise. Most are shown one record, and no table: what they answer and leave is said of what they are given,
-- for all inputs, whatever table the record is from. In every table that shows it, that is `Did` (`InTable`). Assumes nothing.
use Rattle.std.specs.Prelude.{ℕ, ◌≡◌, Bool, false, ◌&&◌, not, cond, List, [], ltb, eqb, length}
use Rattle.cdc.specs.declared.Decoded.{Decoded}
use Rattle.cdc.specs.declared.Decoded.TheVariants.{Good, Malformed}
use Rattle.cdc.specs.Cdc.{decode_of}
use Rattle.element.specs.Element.{base_of, element_of, splice, fresh_element}
use Rattle.conn_record.specs.declared.Record.{Record}
use Rattle.conn_record.specs.declared.Opening.{Opening}
use Rattle.conn_record.specs.Connection.{zero_record, opened_record, coherent_b}
use Rattle.conn_answer.specs.Outcome.{no_message}
use Rattle.group_table.specs.declared.Links.{Links}
use Rattle.group_table.specs.declared.Answered.{Answered}
use Rattle.group_table.specs.declared.Turned.{Turned}
use Rattle.group_table.specs.Table.{sizes_b, slot_b, link_in, active_b, with_record, found_of_all}
use Rattle.group_rules.specs.Rules.{Group, Request, Call, Answer, Turn, refusal, Did, group_of, answer_of, links_of, with_links, out_of, request_turn, hear_turn, plain_turn, bad_opening, sample_does}

-- ONE RECORD. What is answered; the record, the links and the memory that are left
pub record Shown : Type 0 where
  pub answer : Answer
  pub after : Record
  pub links : Links
  pub memory : List ℕ

-- what the code returned, with the out buffer and the memory as it left them
abbrev pub shown_by : Turned → List ℕ → List ℕ → Shown
shown_by r out left = record { answer = answer_of r.answer out; after = r.after; links = r.answer.links; memory = left }

-- refused with j: the number only, and all is as it was; `out` is what was lent to be filled
unfoldable pub keeps_all : Links → List ℕ → Record → ℕ → List ℕ → Shown
keeps_all links m c j out =
    record { answer = record { says = refusal j; made = false; message = no_message; out = out }; after = c; links = links; memory = m }

-- not refused: what the record's turn says, and the memory `left`
unfoldable pub shows_turn : Links → List ℕ → Turn → Shown
shows_turn links left t = record { answer = t.answer; after = t.after; links = links; memory = left }

-- whether the record's link is active
abbrev pub active_for : Links → Record → Bool
active_for links c = active_b links.active c.id.link

-- a call on slot k, whose record is c: 1, 2, or the record's turn, its element put back
unfoldable pub on_record : ℕ → ℕ → List ℕ → ℕ → Links → ℕ → Record → Request → Shown
on_record s n m count links k c q =
    let j = found_of_all s n (length m) count k c in
    let t = request_turn n (active_for links c) c (element_of n k m) q in
    cond (eqb j 0) (shows_turn links (splice m (base_of n k) t.element) t) (keeps_all links m c j (out_of q))

-- hear, where slot k, whose record is c, has the token, and 0 is none: 1, 4, 5, or the record's turn
abbrev pub hears_by : ℕ → Links → List ℕ → ℕ → Record → Decoded → Shown
hears_by n links m k c (Good w) =
    cond (eqb k 0) (keeps_all links m c 5 []) (shows_turn links m (hear_turn n (active_for links c) c (element_of n k m) w))
hears_by n links m k c Malformed = keeps_all links m c 4 []

unfoldable pub hear_record : ℕ → ℕ → List ℕ → ℕ → Links → ℕ → Record → List ℕ → Shown
hear_record s n m count links k c b =
    cond (sizes_b s n (length m) count) (hears_by n links m k c (decode_of b)) (keeps_all links m c 1 [])

-- open of slot k, whose record is c, where the slot `holder` has the own token: 1, 2, 10, 12, 13, 6, 11
unfoldable pub open_number : ℕ → ℕ → ℕ → ℕ → Links → ℕ → ℕ → Record → Opening → ℕ
open_number s n len count links holder k c o =
    cond (not (sizes_b s n len count)) 1
    (cond (not (slot_b s k)) 2
    (cond c.id.opened 10
    (cond (bad_opening o) 12
    (cond (not (link_in o.link)) 13
    (cond (not (active_b links.active o.link)) 6
    (cond (ltb 0 holder) 11 0))))))

unfoldable pub open_record : ℕ → ℕ → List ℕ → ℕ → Links → ℕ → ℕ → Record → Opening → Shown
open_record s n m count links holder k c o =
    let j = open_number s n (length m) count links holder k c o in
    cond (eqb j 0) (shows_turn links (splice m (base_of n k) (fresh_element n)) (plain_turn (opened_record o) (fresh_element n)))
    (keeps_all links m c j [])

-- free: 1, 2, 3, 7
unfoldable pub free_number : ℕ → ℕ → ℕ → ℕ → ℕ → Record → ℕ
free_number s n len count k c =
    cond (not (sizes_b s n len count)) 1
    (cond (not (slot_b s k && c.id.opened)) 2
    (cond (not (coherent_b n c)) 3
    (cond (not c.marks.abort) 7 0)))

unfoldable pub free_record : ℕ → ℕ → List ℕ → ℕ → Links → ℕ → Record → Shown
free_record s n m count links k c =
    let j = free_number s n (length m) count k c in
    cond (eqb j 0) (shows_turn links m (plain_turn zero_record (element_of n k m))) (keeps_all links m c j [])

-- sample sees the links alone, and keeps the record
unfoldable pub sample_record : ℕ → ℕ → List ℕ → Links → Record → ℕ → ℕ → Shown
sample_record s n m links c l ms =
    let d = sample_does (group_of s n [] links m) l ms in
    record { answer = d.answer; after = c; links = links_of d.group; memory = m }

-- IN A TABLE. Of the table t: the answer, the table with the record that was left in the slot and no other moved, the links and the memory
-- are what the rules say
abbrev pub InTable : ℕ → ℕ → List ℕ → List Record → Links → Call → ℕ → Shown → Type 0
InTable s n m t links call slot x =
    Did (group_of s n t links m) call x.answer (group_of s n (with_record t slot x.after) x.links x.memory)

abbrev pub Promise : ℕ → ℕ → List ℕ → List ℕ → List Record → Links → Call → ℕ → Turned → List ℕ → Type 0
Promise s n m l t links call slot r out = InTable s n m t links call slot (shown_by r out l)

-- a call on the links and their gauges alone: in every group that has them
abbrev pub DidLinks : Links → Call → Answered → Type 0
DidLinks links call r = (g : Group) → links_of g ≡ links → Did g call (answer_of r []) (with_links g r.links)

-- Link change, link message and link send by their numbers, and their answers in numbers (requests 2026-01 and 2026-13). Assumes nothing.
use Rattle.std.specs.Prelude.{ℕ, ◌%◌, ◌≡◌, Bool, true, false, ◌&&◌, ◌||◌, cond, List, eqb, replicate, Result, MatchResult}
use Rattle.link_message.specs.Layouts.{code_of, kind_of, named_b}
use Rattle.link_exchange.specs.declared.Fate.{Fate}
use Rattle.link_exchange.specs.declared.Fate.TheVariants.{Taken, Queued, Denied, Dropped}
use Rattle.conn_answer.specs.declared.Reply.{Reply}
use Rattle.conn_answer.specs.declared.Reply.TheVariants.{Refused, Accepted, Sent, Read, Torn, Heard, Reset, Sampled}
use Rattle.conn_answer.specs.Outcome.{no_message}
use Rattle.group_table.specs.declared.Links.{Links}
use Rattle.link_calls.specs.declared.Fields.{Fields}
use Rattle.link_calls.specs.declared.TakenUp.{TakenUp}
use Rattle.group_link.specs.declared.LinkCommand.{LinkCommand}
use Rattle.group_link.specs.declared.LinkCommand.TheVariants.{Change, Message, Send}
use Rattle.group_link.specs.declared.LinkDone.{LinkDone}
use Rattle.group_link.specs.declared.Values.{Values}
use Rattle.group_link.specs.LinkDesk.{call_of}
use Rattle.group_rules.specs.Rules.{Says, refusal, accepted, sent, gathered, was_read_of, torn, heard, reset, sampled}
use Rattle.group_rules.specs.Rules.{link_changed, link_heard, link_sent}
use Rattle.group_rules.specs.Rules.{Group, Call, Answer, answer, next, links_of}
use Rattle.c_call.specs.declared.FlatLinks.{FlatLinks}
use Rattle.c_call.specs.Flat.{flat_links}
use Rattle.c_call_link.specs.declared.FlatFields.{FlatFields}
use Rattle.c_call_link.specs.declared.FlatTakenUp.{FlatTakenUp}
use Rattle.c_call_link.specs.declared.FlatLinkCommand.{FlatLinkCommand}
use Rattle.c_call_link.specs.declared.FlatLinkAnswer.{FlatLinkAnswer}
use Rattle.c_call_link.specs.declared.UnknownLinkCall.{UnknownLinkCall}

-- THE CALLS' NUMBERS: 3 link change, 13 link message, 14 link send of a kind that is one of the messages'
unfoldable pub link_known_b : FlatLinkCommand → Bool
link_known_b q = eqb q.number 3 || (eqb q.number 13 || (eqb q.number 14 && named_b q.fields.kind))

-- 14, link send, is the one that is left
unfoldable pub link_named_of : FlatLinkCommand → LinkCommand
link_named_of q =
    cond (eqb q.number 3) (Change q.link q.up)
    (cond (eqb q.number 13) (Message q.link)
    (Send q.link (kind_of q.fields.kind)))

-- the rules' call, with what is lent
abbrev pub link_asked : FlatLinkCommand → List ℕ → List ℕ → Call
link_asked q b out = call_of (link_named_of q) b q.fields.values out

-- WHAT AN ANSWER SAYS. 0: no fate
abbrev pub fate_number : Fate → ℕ
fate_number Taken = 1
fate_number Queued = 2
fate_number Denied = 3
fate_number Dropped = 4

-- a kind is its byte 0; 0: none is named
unfoldable pub kind_number : Fields → ℕ
kind_number f = cond f.named (code_of f.kind) 0

abbrev pub flat_fields : Fields → FlatFields
flat_fields f = record { kind = kind_number f; values = f.values }

abbrev pub no_flat_fields : FlatFields
no_flat_fields = record { kind = 0; values = replicate 12 0 }

unfoldable pub up_fate : TakenUp → ℕ
up_fate up = cond up.some (fate_number up.fate) 0

abbrev pub flat_up : TakenUp → FlatTakenUp
flat_up up = record { some = up.some; link = up.link; fate = up_fate up; fields = flat_fields up.fields }

-- an answer that names at most a refusal and a count, beside the message
abbrev pub link_bare : ℕ → ℕ → ℕ → Bool → List ℕ → FlatLinks → FlatLinkAnswer
link_bare said number count made message links =
    record {
      said = said;
      refusal = number;
      fate = 0;
      fields = no_flat_fields;
      up = record { some = false; link = 0; fate = 0; fields = no_flat_fields };
      count = count;
      made = made;
      message = message;
      links = links;
    }

-- one that names a fate and fields, the message taken up, and a count
abbrev pub link_named : ℕ → ℕ → FlatFields → TakenUp → ℕ → Bool → List ℕ → FlatLinks → FlatLinkAnswer
link_named said fate fields up count made message links =
    record {
      said = said;
      refusal = 0;
      fate = fate;
      fields = fields;
      up = flat_up up;
      count = count;
      made = made;
      message = message;
      links = links;
    }

-- 1 refused, 13 link heard, 14 link sent, 15 link changed; the three calls say nothing else, and the other numbers are `flatSays`'
abbrev pub link_says : Says → Bool → List ℕ → FlatLinks → FlatLinkAnswer
link_says (refusal k) made message links = link_bare 1 k 0 made message links
link_says (link_heard f fate up n) made message links = link_named 13 (fate_number fate) (flat_fields f) up n made message links
link_says (link_sent up n) made message links = link_named 14 0 no_flat_fields up n made message links
link_says (link_changed n) made message links = link_bare 15 0 n made message links
link_says accepted made message links = link_bare 2 0 0 made message links
link_says (sent n ps) made message links = link_bare 3 0 0 made message links
link_says (gathered n ps) made message links = link_bare 4 0 0 made message links
link_says (was_read_of n) made message links = link_bare 5 0 0 made message links
link_says torn made message links = link_bare 6 0 0 made message links
link_says (heard moved state) made message links = link_bare 7 0 0 made message links
link_says reset made message links = link_bare 8 0 0 made message links
link_says (sampled health) made message links = link_bare 9 0 0 made message links

abbrev pub link_of : Answer → Links → FlatLinkAnswer
link_of a links = link_says a.says a.made a.message (flat_links links)

-- 0: the number is none of the calls', or the kind none of the messages'
abbrev pub link_unknown_by : FlatLinks → FlatLinkAnswer
link_unknown_by links = link_bare 0 0 0 false no_message links

abbrev pub link_unknown_of : Links → FlatLinkAnswer
link_unknown_of links = link_unknown_by (flat_links links)

-- WHAT THE EXPORTED CALL PROMISES. On the group g the command q, lent the bytes b and the buffer out, is answered by r and leaves the
-- group h and the buffer `left`
pub record LinkMade (g : Group) (q : FlatLinkCommand) (b out : List ℕ) (r : FlatLinkAnswer) (h : Group) (left : List ℕ) : Type 0 where
  pub answered : link_known_b q ≡ true → r ≡ link_of (answer g (link_asked q b out)) (links_of (next g (link_asked q b out)))
  pub next_left : link_known_b q ≡ true → h ≡ next g (link_asked q b out)
  pub out_is_left : link_known_b q ≡ true → left ≡ (answer g (link_asked q b out)).out
  pub unknown : link_known_b q ≡ false → (r ≡ link_unknown_of (links_of g)) × (h ≡ g) × (left ≡ out)

-- a number names its call, and any other, or a kind that is no message's, none
abbrev pub LinkNames : FlatLinkCommand → Result LinkCommand UnknownLinkCall → Type 0
LinkNames q r =
    MatchResult r (λ c. (link_known_b q ≡ true) × (c ≡ link_named_of q)) (λ e. (link_known_b q ≡ false) × (e.0 ≡ q.number))

-- WHAT THE CODE DOES. For an unknown number it makes a call that changes nothing
unfoldable pub link_command_of : FlatLinkCommand → LinkCommand
link_command_of q = cond (link_known_b q) (link_named_of q) (Change 0 false)

abbrev pub values_of : FlatLinkCommand → Values
values_of q = record { values = q.fields.values }

-- what the call names in the place of "accepted"
abbrev pub accepted_of : LinkCommand → LinkDone → ℕ → Bool → List ℕ → FlatLinks → FlatLinkAnswer
accepted_of (Change l up) d count made message links = link_bare 15 0 count made message links
accepted_of (Message l) d count made message links =
    link_named 13 (fate_number d.fate) (flat_fields d.fields) d.up count made message links
accepted_of (Send l k) d count made message links = link_named 14 0 no_flat_fields d.up count made message links

abbrev pub said_number : Reply → ℕ
said_number (Refused k) = 1
said_number Accepted = 2
said_number (Sent n p) = 3
said_number (Read n) = 5
said_number Torn = 6
said_number Reset = 8
said_number (Heard moved state) = 7
said_number (Sampled health) = 9

abbrev pub refusal_number : Reply → ℕ
refusal_number (Refused k) = k
refusal_number Accepted = 0
refusal_number (Sent n p) = 0
refusal_number (Read n) = 0
refusal_number Torn = 0
refusal_number Reset = 0
refusal_number (Heard moved state) = 0
refusal_number (Sampled health) = 0

unfoldable pub link_told : LinkCommand → LinkDone → FlatLinkAnswer
link_told c d =
    let a = d.answer in
    let links = flat_links a.links in
    cond (eqb (said_number a.reply) 2) (accepted_of c d (d.count % 4294967296) a.made a.message links)
    (link_bare (said_number a.reply) (refusal_number a.reply) 0 a.made a.message links)

unfoldable pub link_told_of : FlatLinkCommand → FlatLinks → LinkDone → FlatLinkAnswer
link_told_of q links d = cond (link_known_b q) (link_told (link_named_of q) d) (link_unknown_by links)

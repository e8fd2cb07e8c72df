-- A call by its number and an answer in numbers: one definition each, between the rules' `Call` and `Answer` and what C and Rust hand in
-- and get. Assumes nothing.
use Rattle.std.specs.Prelude.{ℕ, ◌≡◌, Bool, true, false, ◌&&◌, not, cond, List, [], ◌∷◌, leb, eqb, Float, Result, MatchResult}
use Rattle.closing.specs.declared.State.{State}
use Rattle.closing.specs.Closing.{number_of}
use Rattle.link_exchange.specs.declared.Role.{Role}
use Rattle.link_exchange.specs.declared.Role.TheVariants.{Client, Server}
use Rattle.link_exchange.specs.Exchange.{client_b}
use Rattle.gauge.specs.declared.Health.{Health}
use Rattle.gauge.specs.declared.Health.TheVariants.{Unheard, Steady, Late}
use Rattle.gauge.specs.Gauge.{none}
use Rattle.conn_answer.specs.declared.Placing.{Placing}
use Rattle.conn_answer.specs.Outcome.{no_message}
use Rattle.group_calls.specs.declared.Request.TheVariants as On
use Rattle.group_calls.specs.Calls.{reads_b}
use Rattle.group_desk.specs.declared.Management.TheVariants as Desk
use Rattle.group_table.specs.declared.Links.{Links}
use Rattle.group_table.specs.declared.Answered.{Answered}
use Rattle.group_make.specs.declared.Command.{Command}
use Rattle.group_make.specs.declared.Command.TheVariants.{On, Hear, Manage}
use Rattle.group_make.specs.Group.{call_of}
use Rattle.group_rules.specs.Rules.{Says, refusal, accepted, sent, gathered, was_read_of, torn, heard, reset, sampled}
use Rattle.group_rules.specs.Rules.{link_changed, link_heard, link_sent}
use Rattle.group_rules.specs.Rules.{Group, Call, Answer, answer, next, links_of, answer_of}
use Rattle.c_call.specs.declared.FlatCommand.{FlatCommand}
use Rattle.c_call.specs.declared.FlatAnswer.{FlatAnswer}
use Rattle.c_call.specs.declared.FlatLinks.{FlatLinks}
use Rattle.c_call.specs.declared.UnknownCall.{UnknownCall}

-- THE LINKS. The role is told as whether it is the server's; each direction undoes the other (`Statement`)
unfoldable pub role_of : Bool → Role
role_of server = cond server Server Client

abbrev pub links_in : FlatLinks → Links
links_in f =
    record { active = f.active; gauges = f.gauges; role = role_of f.server; exchange = f.exchange; queue = f.queue }

abbrev pub flat_links : Links → FlatLinks
flat_links l =
    record { active = l.active; gauges = l.gauges; server = not (client_b l.role); exchange = l.exchange; queue = l.queue }

-- THE CALLS' NUMBERS; 3 is link change, which is lent a buffer (`c_call_link`)
unfoldable pub known_b : FlatCommand → Bool
known_b q = leb 1 q.number && (leb q.number 12 && not (eqb q.number 3))

-- 12, hear, is the one that is left
unfoldable pub named_of : FlatCommand → Command
named_of q =
    cond (eqb q.number 1) (Manage (Desk.Open q.slot q.opening))
    (cond (eqb q.number 2) (Manage (Desk.Free q.slot))
    (cond (eqb q.number 4) (Manage (Desk.Sample q.link q.ms))
    (cond (eqb q.number 5) (On q.slot On.Send)
    (cond (eqb q.number 6) (On q.slot On.Urgent)
    (cond (eqb q.number 7) (On q.slot (On.Place q.offset))
    (cond (eqb q.number 8) (On q.slot On.Read)
    (cond (eqb q.number 9) (On q.slot On.Shutdown)
    (cond (eqb q.number 10) (On q.slot On.Close)
    (cond (eqb q.number 11) (On q.slot On.Abort)
    Hear)))))))))

-- the rules' call, with what is lent
abbrev pub asked : FlatCommand → List ℕ → List ℕ → Call
asked q b out = call_of (named_of q) b out

-- WHAT AN ANSWER SAYS. Beside the message nothing, or a refusal's number, or a count
abbrev pub nowhere : Placing
nowhere = record { key = 0; address = 0; start = 0; len = 0 }

unfoldable pub bare : ℕ → ℕ → ℕ → Bool → List ℕ → FlatLinks → FlatAnswer
bare said number n made message links =
    record {
      said = said;
      refusal = number;
      n = n;
      state = 0;
      moved = 0;
      health = 0;
      placings = 0;
      first = nowhere;
      second = nowhere;
      mean = none;
      worst = none;
      made = made;
      message = message;
      links = links;
    }

-- a send's placings: how many, and the first two, which are all (`placingList`)
abbrev pub placed : ℕ → Placing → Placing → FlatAnswer → FlatAnswer
placed count p q f =
    record {
      said = f.said;
      refusal = f.refusal;
      n = f.n;
      state = f.state;
      moved = f.moved;
      health = f.health;
      placings = count;
      first = p;
      second = q;
      mean = f.mean;
      worst = f.worst;
      made = f.made;
      message = f.message;
      links = f.links;
    }

abbrev pub with_placings : List Placing → FlatAnswer → FlatAnswer
with_placings [] f = f
with_placings (p ∷ []) f = placed 1 p f.second f
with_placings (p ∷ q ∷ ps) f = placed 2 p q f

-- hear: how far P moved, and the state
abbrev pub with_heard : ℕ → State → FlatAnswer → FlatAnswer
with_heard moved state f =
    record {
      said = f.said;
      refusal = f.refusal;
      n = f.n;
      state = number_of state;
      moved = moved;
      health = f.health;
      placings = f.placings;
      first = f.first;
      second = f.second;
      mean = f.mean;
      worst = f.worst;
      made = f.made;
      message = f.message;
      links = f.links;
    }

-- sample: the health's number, and the numbers behind it
abbrev pub healthy : ℕ → Float → Float → FlatAnswer → FlatAnswer
healthy health mean worst f =
    record {
      said = f.said;
      refusal = f.refusal;
      n = f.n;
      state = f.state;
      moved = f.moved;
      health = health;
      placings = f.placings;
      first = f.first;
      second = f.second;
      mean = mean;
      worst = worst;
      made = f.made;
      message = f.message;
      links = f.links;
    }

abbrev pub with_health : Health → FlatAnswer → FlatAnswer
with_health Unheard f = healthy 1 f.mean f.worst f
with_health (Steady m) f = healthy 2 m f.worst f
with_health (Late m w) f = healthy 3 m w f

-- 1 refused, with the refusal's number; 2 accepted; 3 sent; 4 gathered, whose pieces are handed out apart; 5 read; 6 torn; 7 heard;
-- 8 reset; 9 sampled; 13 link heard, 14 link sent, 15 link changed, whose own answers name more (`c_call_link`)
abbrev pub flat_says : Says → Bool → List ℕ → FlatLinks → FlatAnswer
flat_says (refusal k) made message links = bare 1 k 0 made message links
flat_says accepted made message links = bare 2 0 0 made message links
flat_says (sent n ps) made message links = with_placings ps (bare 3 0 n made message links)
flat_says (gathered n ps) made message links = bare 4 0 n made message links
flat_says (was_read_of n) made message links = bare 5 0 n made message links
flat_says torn made message links = bare 6 0 0 made message links
flat_says (heard moved state) made message links = with_heard moved state (bare 7 0 0 made message links)
flat_says reset made message links = bare 8 0 0 made message links
flat_says (sampled health) made message links = with_health health (bare 9 0 0 made message links)
flat_says (link_heard fields fate up n) made message links = bare 13 0 0 made message links
flat_says (link_sent up n) made message links = bare 14 0 0 made message links
flat_says (link_changed n) made message links = bare 15 0 0 made message links

abbrev pub flat_of : Answer → Links → FlatAnswer
flat_of a links = flat_says a.says a.made a.message (flat_links links)

-- 0: the number is none of the calls'
abbrev pub unknown_by : FlatLinks → FlatAnswer
unknown_by links = bare 0 0 0 false no_message links

abbrev pub unknown_of : Links → FlatAnswer
unknown_of links = unknown_by (flat_links links)

-- WHAT THE EXPORTED CALL PROMISES. The out bytes of a read are those of its answer; any other call leaves them
abbrev pub out_after : Command → List ℕ → List ℕ → List ℕ
out_after (On k q) told out = cond (reads_b q) told out
out_after Hear told out = out
out_after (Manage d) told out = out

-- On the group g the command q, lent the bytes b and out, is answered by r and leaves the group h and the out bytes `left`
pub record CallMade (g : Group) (q : FlatCommand) (b out : List ℕ) (r : FlatAnswer) (h : Group) (left : List ℕ) : Type 0 where
  pub answered : known_b q ≡ true → r ≡ flat_of (answer g (asked q b out)) (links_of (next g (asked q b out)))
  pub next_left : known_b q ≡ true → h ≡ next g (asked q b out)
  pub out_is_left : known_b q ≡ true → left ≡ out_after (named_of q) (answer g (asked q b out)).out out
  pub unknown : known_b q ≡ false → (r ≡ unknown_of (links_of g)) × (h ≡ g) × (left ≡ out)

-- a number names its call, and any other none
abbrev pub Names : FlatCommand → Result Command UnknownCall → Type 0
Names q r =
    MatchResult r (λ c. (known_b q ≡ true) × (c ≡ named_of q)) (λ e. (known_b q ≡ false) × (e.0 ≡ q.number))

-- WHAT THE CODE DOES. For an unknown number it makes a call that changes nothing
unfoldable pub command_of : FlatCommand → Command
command_of q = cond (known_b q) (named_of q) (Manage (Desk.Sample 0 0))

unfoldable pub told_of : FlatCommand → FlatLinks → Answered → FlatAnswer
told_of q links a = cond (known_b q) (flat_of (answer_of a []) a.links) (unknown_by links)

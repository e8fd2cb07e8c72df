-- Failover (request 2026-13; RFC 7609, 2.3, "SMC-R Resilience and Load Balancing"): six claims about the rules that every contract cites
-- (`answer`, `next`), in its page's order and words. The three calls are link change, link message and link send (`call_of`). 1, 3 and 4 are
-- of any group, however it came about; 2, 5 and 6 of lists of calls from fresh groups. A call holds all that a peer hands in, so "any list"
-- is any peer, lying or not. proofs/ proves each. Assumes nothing.
use Rattle.std.specs.Prelude.{ℕ, zero, suc, ◌+◌, ◌*◌, ◌%◌, ◌<◌, ◌≡◌, ◌⊎◌, ◌↔◌, ◌≢◌, Bool, true, false, ◌&&◌, ◌||◌, not, cond, List, [], ◌∷◌, ◌++◌, eqb, length, take, drop}
use Rattle.cdc.specs.declared.Message.{Message}
use Rattle.cdc.specs.declared.Decoded.{Decoded}
use Rattle.cdc.specs.declared.Decoded.TheVariants.{Good, Malformed}
use Rattle.cdc.specs.Cdc.{decode_of}
use Rattle.link_message.specs.declared.Kind.{Kind}
use Rattle.closing.specs.declared.State.TheVariants.{PeerAbortWait}
use Rattle.closing.specs.Closing.{state_of}
use Rattle.conn_record.specs.declared.Record.{Record}
use Rattle.conn_record.specs.Connection.{coherent_b}
use Rattle.group_table.specs.Table.{link_in, active_b, open_b}
use Rattle.thm_links.specs.Statements.{Call as LinkCall}
use Rattle.group_rules.specs.Says.{said_in}
use Rattle.group_rules.specs.Rules.{Group, abort, open_slot, free_slot, link_change, link_message, link_send, sample, Call, on, hear, manage, Says}
use Rattle.group_rules.specs.Rules.{refusal, accepted, heard}
use Rattle.group_rules.specs.Rules.{Answer, answer, next, record_of_all, link_of, holder_of, Fresh}
use Rattle.thm_order.specs.Statement.{leaves, At, hearer}
use Rattle.thm_safety.specs.Statement.{OpenAt, own_of, accepted_b}
use Rattle.thm_safety.specs.Links.{call_of, Other}
use Rattle.thm_changes.specs.Changes.{slot_of_all}
use Rattle.thm_changes.specs.Numbers.{refused_b}

-- WHAT MOVES, by the group g before a call and h after it. "A link is gone if it was active before the call and is down after"
abbrev pub gone_in : Group → Group → ℕ → Bool
gone_in g h l = active_b g.links l && not (active_b h.links l)

-- "the target is the lowest-numbered of links 1 to 4 active after the call"; whether there is one
pub record Target (h : Group) (l : ℕ) : Type 0 where
  pub one_of_four : link_in l ≡ true
  pub is_active : active_b h.links l ≡ true
  pub lowest : (j : ℕ) → j < l → active_b h.links j ≡ false

abbrev pub any_active : Group → Bool
any_active h = active_b h.links 1 || (active_b h.links 2 || (active_b h.links 3 || active_b h.links 4))

-- "a slot of 1 to S moves if there is a target and the slot is open, coherent, and its link is gone"
abbrev pub moves_in : Group → Group → ℕ → Bool
moves_in g h k =
    any_active h && (open_b g.S g.table k && (coherent_b g.N (record_of_all g k) && gone_in g h (record_of_all g k).id.link))

-- "a slot that moves tells unless we sent A"
abbrev pub tells_in : Group → Group → ℕ → Bool
tells_in g h k = moves_in g h k && not (record_of_all g k).marks.abort

-- 1. NONE LEFT BEHIND. Where a link is active after it, each open, coherent slot whose link was active before is on an active link after
abbrev pub NoneBehind : Type 0
NoneBehind =
    (g : Group) (c : LinkCall) (b : List ℕ) (k : ℕ)
    → let h = next g (call_of c b) in
    any_active h ≡ true → OpenAt g k → coherent_b g.N (record_of_all g k) ≡ true → link_of g k ≡ true → link_of h k ≡ true

-- 2. ONE LINK IS ENOUGH. Some link is active, or no slot is open
abbrev pub Linked : Group → Type 0
Linked h = (any_active h ≡ true) ⊎ ((k : ℕ) → OpenAt h k → ⊥)

-- a call of a connection
abbrev pub Connection : Call → Type 0
Connection (on k q) = Unit {0}
Connection (hear b) = Unit {0}
Connection (manage d) = ⊥

-- every open slot's link is active, so whatever call a connection makes then, it is not given 6
pub record AllLinked (h : Group) : Type 0 where
  pub every_open : (k : ℕ) → OpenAt h k → link_of h k ≡ true
  pub never_6 : (c : Call) → Connection c → (answer h c).says ≡ refusal 6 → ⊥

-- any list of calls from a fresh group after each of which the group is linked: that holds before each of them, and after the last
abbrev pub OneLinkEnough : Type 0
OneLinkEnough =
    (g : Group) → Fresh g → (cs : List Call) → ((i : ℕ) → Linked (leaves g (take i cs))) → (i : ℕ) → AllLinked (leaves g (take i cs))

-- 3. ONLY THE LINK. Two records that differ in the link alone
pub record SameButLink (c d : Record) : Type 0 where
  pub same_open : d.id.opened ≡ c.id.opened
  pub same_own : d.id.own ≡ c.id.own
  pub same_peer : d.id.peer ≡ c.id.peer
  pub same_remote : d.remote ≡ c.remote
  pub same_inbound : d.inbound ≡ c.inbound
  pub same_outbound : d.outbound ≡ c.outbound
  pub same_marks : d.marks ≡ c.marks

-- the three calls change of a record at most its link, from a gone one to the target; every other slot keeps its record whole, so each
-- whose link stays active; and the memory stays
pub record OnlyLinks (g h : Group) : Type 0 where
  pub moves : (k : ℕ) → moves_in g h k ≡ true → SameButLink (record_of_all g k) (record_of_all h k) × Target h (record_of_all h k).id.link
  pub stays : (k : ℕ) → moves_in g h k ≡ false → record_of_all h k ≡ record_of_all g k
  pub still_active : (k : ℕ) → active_b h.links (record_of_all g k).id.link ≡ true → record_of_all h k ≡ record_of_all g k
  pub same_S : h.S ≡ g.S
  pub same_N : h.N ≡ g.N
  pub as_many : length h.table ≡ length g.table
  pub same_memory : h.memory ≡ g.memory

abbrev pub OnlyTheLink : Type 0
OnlyTheLink = (g : Group) (c : LinkCall) (b : List ℕ) → OnlyLinks g (next g (call_of c b))

-- the count of an answer
abbrev pub count_in : Says → ℕ
count_in says = (said_in says).messages

-- link send keeps all records, and its buffer
abbrev pub SendKeeps : Type 0
SendKeeps =
    (g : Group) (l : ℕ) (k : Kind) (vs b : List ℕ)
    → let c = manage (link_send l k vs b) in
    ((next g c).table ≡ g.table) × (count_in (answer g c).says ≡ 0) × ((answer g c).out ≡ b)

-- every other call changes at most one record, that of the slot on which it acts, and no link's state
pub record OneChanged (g : Group) (c : Call) (h : Group) : Type 0 where
  pub one_record : (k : ℕ) → k ≢ slot_of_all g c → record_of_all h k ≡ record_of_all g k
  pub same_links : h.links ≡ g.links

abbrev pub OthersOne : Type 0
OthersOne = (g : Group) (c : Call) → Other c → OneChanged g c (next g c)

-- 4. THE MESSAGES. The F message of a record: the number before the next, 65,535 where that is 0; the peer token; Q; C; B; P and U if our
-- urgent place stands; R off; F on; D if D was sent, C if C was sent; A off
abbrev pub message_f : Record → Message
message_f c =
    record {
      sequence = (c.outbound.next + 65535) % 65536;
      token = c.id.peer;
      producer = c.outbound.producer;
      consumer = c.inbound.consumer;
      flags =
          record {
            blocked = c.outbound.blocked;
            pending = c.outbound.urgent.standing;
            urgent = c.outbound.urgent.standing;
            request = false;
            failover = true;
            done = c.marks.sent.done;
            closed = c.marks.sent.closed;
            abort = false;
          };
    }

-- of the n slots from k on those that tell, in slot order; of slots 1 to S
unfoldable pub tellers_from : Group → Group → ℕ → ℕ → List ℕ
tellers_from g h k zero = []
tellers_from g h k (suc n) = cond (tells_in g h k) (k ∷ tellers_from g h (suc k) n) (tellers_from g h (suc k) n)

abbrev pub tellers : Group → Group → List ℕ
tellers g h = tellers_from g h 1 g.S

-- number i of the messages in a buffer, counted from 0: bytes 44 i to 44 i + 43
abbrev pub message_at : List ℕ → ℕ → List ℕ
message_at b i = take 44 (drop (44 * i) b)

-- the count is the number of slots that tell; number i in the buffer decodes to the fields for the i-th of them; the rest of the buffer,
-- which was b, stays
pub record Tells (g h : Group) (a : Answer) (b : List ℕ) : Type 0 where
  pub counts : count_in a.says ≡ length (tellers g h)
  pub each : (i k : ℕ) → At (tellers g h) i k → decode_of (message_at a.out i) ≡ Good (message_f (record_of_all g k))
  pub as_long : length a.out ≡ length b
  pub rest : drop (44 * length (tellers g h)) a.out ≡ drop (44 * length (tellers g h)) b

abbrev pub TheMessages : Type 0
TheMessages = (g : Group) (c : LinkCall) (b : List ℕ) → Tells g (next g (call_of c b)) (answer g (call_of c b)) b

-- 5. COUNTING. The messages that slot k made since its last accepted open, each with its bytes: where a call on it, or a message heard for
-- it, makes one; F messages do not count. One call on, made of g and answered a
abbrev pub one_more_of : List (List ℕ) → Bool → List ℕ → List (List ℕ)
one_more_of ms more m = cond more (ms ++ (m ∷ [])) ms

unfoldable pub made_after : Group → ℕ → List (List ℕ) → Call → Answer → List (List ℕ)
made_after g k ms (on j q) a = one_more_of ms (eqb j k && a.made) a.message
made_after g k ms (hear b) a = one_more_of ms (eqb (hearer g (decode_of b)) k && a.made) a.message
made_after g k ms (manage (open_slot j o)) a = cond (eqb j k && accepted_b a.says) [] ms
made_after g k ms (manage (free_slot j)) a = ms
made_after g k ms (manage (link_change l up b)) a = ms
made_after g k ms (manage (link_message l bytes b)) a = ms
made_after g k ms (manage (link_send l i vs b)) a = ms
made_after g k ms (manage (sample l ms')) a = ms

unfoldable pub made_from : Group → ℕ → List (List ℕ) → List Call → List (List ℕ)
made_from g k ms [] = ms
made_from g k ms (c ∷ cs) = made_from (next g c) k (made_after g k ms c (answer g c)) cs

abbrev pub made : Group → List Call → ℕ → List (List ℕ)
made g cs k = made_from g k [] cs

-- and those without A and F that it accepted: not refused, and it has the token
abbrev pub ordinary : Message → Bool
ordinary m = not m.flags.abort && not m.flags.failover

abbrev pub took_message : Group → ℕ → List (List ℕ) → List ℕ → Decoded → Says → List (List ℕ)
took_message g k ms b (Good m) says = one_more_of ms (eqb (holder_of g m.token) k && (not (refused_b says) && ordinary m)) b
took_message g k ms b Malformed says = ms

unfoldable pub took_after : Group → ℕ → List (List ℕ) → Call → Says → List (List ℕ)
took_after g k ms (on j q) says = ms
took_after g k ms (hear b) says = took_message g k ms b (decode_of b) says
took_after g k ms (manage (open_slot j o)) says = cond (eqb j k && accepted_b says) [] ms
took_after g k ms (manage (free_slot j)) says = ms
took_after g k ms (manage (link_change l up b)) says = ms
took_after g k ms (manage (link_message l bytes b)) says = ms
took_after g k ms (manage (link_send l i vs b)) says = ms
took_after g k ms (manage (sample l ms')) says = ms

unfoldable pub took_from : Group → ℕ → List (List ℕ) → List Call → List (List ℕ)
took_from g k ms [] = ms
took_from g k ms (c ∷ cs) = took_from (next g c) k (took_after g k ms c (answer g c).says) cs

abbrev pub took : Group → List Call → ℕ → List (List ℕ)
took g cs k = took_from g k [] cs

-- an open slot's next is 1 and those made, so F carries their count; the last heard of a slot that did not send A is the count of those
-- taken; each mod 65,536
pub record Counted (c : Record) (made took : List (List ℕ)) : Type 0 where
  pub next_number_is : c.outbound.next ≡ (1 + length made) % 65536
  pub F_carries : (message_f c).sequence ≡ length made % 65536
  pub last_number_is : c.marks.abort ≡ false → c.inbound.last ≡ length took % 65536

abbrev pub Counting : Type 0
Counting =
    (g : Group) → Fresh g → (cs : List Call) (k : ℕ) → OpenAt (leaves g cs) k
    → Counted (record_of_all (leaves g cs) k) (made g cs k) (took g cs k)

-- 6. VALIDATION. Slot j of the sender s and slot k of the hearer h: both open, the sender's peer token is the hearer's own, A sent at
-- neither, the hearer's link active
pub record Ends (s h : Group) (j k : ℕ) : Type 0 where
  pub sender_open : OpenAt s j
  pub hearer_open : OpenAt h k
  pub tokens : (record_of_all s j).id.peer ≡ own_of h k
  pub sender_not_A : (record_of_all s j).marks.abort ≡ false
  pub hearer_not_A : (record_of_all h k).marks.abort ≡ false
  pub hearer_linked : link_of h k ≡ true

-- it is accepted: 0, the state of the marks, no message, and nothing changes
pub record Accepted (h : Group) (c : Call) (k : ℕ) : Type 0 where
  pub says : (answer h c).says ≡ heard 0 (state_of (record_of_all h k).marks)
  pub none_made : (answer h c).made ≡ false
  pub kept : next h c ≡ h

-- it aborts: 0, PeerAbortWait, and record and message are those of abort
pub record Aborted (h : Group) (c : Call) (k : ℕ) : Type 0 where
  pub says : (answer h c).says ≡ heard 0 PeerAbortWait
  pub one_made : (answer h c).made ≡ true
  pub abort_made : (answer h c).message ≡ (answer h (on k abort)).message
  pub same_as_abort : next h c ≡ next h (on k abort)
  pub abort_says : (answer h (on k abort)).says ≡ accepted

abbrev pub Agree : List (List ℕ) → List (List ℕ) → Type 0
Agree made took = length made % 65536 ≡ length took % 65536

-- it is accepted exactly if made and taken agree mod 65,536, else it aborts; where those taken are the first of those made, in order, and
-- fewer than 65,536 are missing, exactly if none is missing; heard again at once, it is accepted again
pub record Validated (h : Group) (c : Call) (k : ℕ) (made took : List (List ℕ)) : Type 0 where
  pub exactly : Accepted h c k ↔ Agree made took
  pub else_aborts : (Agree made took → ⊥) → Aborted h c k
  pub in_order : (missing : List (List ℕ)) → made ≡ took ++ missing → length missing < 65536 → Accepted h c k ↔ (missing ≡ [])
  pub again : Accepted h c k → Accepted (next h c) c k

-- b: the F message made from the sender's record
abbrev pub Validation : Type 0
Validation =
    (g₁ g₂ : Group) → Fresh g₁ → Fresh g₂ → (cs₁ cs₂ : List Call) (j k : ℕ) → Ends (leaves g₁ cs₁) (leaves g₂ cs₂) j k
    → (b : List ℕ) → decode_of b ≡ Good (message_f (record_of_all (leaves g₁ cs₁) j))
    → Validated (leaves g₂ cs₂) (hear b) k (made g₁ cs₁ j) (took g₂ cs₂ k)

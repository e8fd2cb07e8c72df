-- Demand 1's refusals, "When the desk says no": when a call is refused and with which number, and what a refused call leaves. Two claims
-- about the rules that every contract cites (`answer`, `next`), of any group, however it came about, and any call. proofs/Exactly and
-- proofs/Refusals prove them. Assumes nothing.
use Rattle.std.specs.Prelude.{ℕ, zero, suc, ◌+◌, ◌-◌, ◌*◌, ◌≡◌, ◌↔◌, Bool, true, false, ◌&&◌, ◌||◌, not, cond, List, [], ◌∷◌, ltb, leb, eqb, length, get_or}
use Rattle.std.proofs.Math.Option.{Option, some, none}
use Rattle.cursor.specs.Cursor.{data_of, in_range, same_b, good_b, gap_of}
use Rattle.cdc.specs.declared.Message.{Message}
use Rattle.cdc.specs.Cdc.{fields_of}
use Rattle.link_message.specs.Llc.{unknown, cursor_message, optional, class_of}
use Rattle.link_message.specs.Layouts.{code_of}
use Rattle.link_exchange.specs.declared.Fate.{Fate}
use Rattle.link_exchange.specs.declared.Fate.TheVariants.{Taken, Queued}
use Rattle.link_exchange.specs.declared.Exchange.{Exchange}
use Rattle.link_exchange.specs.declared.Said.{Said}
use Rattle.link_exchange.specs.Exchange.{due_b}
use Rattle.link_exchange.specs.Fates.{is_fate, fate_of}
use Rattle.closing.specs.declared.Marks.{Marks}
use Rattle.closing.specs.declared.State.{State}
use Rattle.closing.specs.declared.State.TheVariants.{Active, PeerCloseWait1, PeerCloseWait2, AppCloseWait1, AppCloseWait2, PeerAbortWait}
use Rattle.closing.specs.declared.State.TheVariants.{Closed}
use Rattle.closing.specs.Closing.{marked, state_of}
use Rattle.flow.specs.Flow.{window_of}
use Rattle.element.specs.Element.{free_b}
use Rattle.conn_record.specs.declared.RToken.{RToken}
use Rattle.conn_record.specs.declared.Remote.{Remote}
use Rattle.conn_record.specs.declared.Record.{Record}
use Rattle.conn_record.specs.declared.Opening.{Opening}
use Rattle.conn_record.specs.Connection.{coherent_b}
use Rattle.conn_answer.specs.Outcome.{no_message, sequence_after}
use Rattle.group_table.specs.Table.{active_b, find_from}
use Rattle.link_calls.specs.Calls.{heard_in, sent_in}
use Rattle.group_rules.specs.Rules.{Group, Request, send, gather, urgent, place, read, shutdown, close, abort, open_slot, free_slot, link_change}
use Rattle.group_rules.specs.Rules.{link_message, link_send, sample, Call, on, hear, manage, refusal, answer, next, out_of, record_of_all, link_of}
use Rattle.group_rules.specs.Rules.{holder_of, links_of}

-- EACH NUMBER'S CONDITION, as the page's table has it.

abbrev pub outside : ℕ → ℕ → ℕ → Bool
outside least most x = ltb x least || ltb most x

-- 1: S, N, the memory's length or the table's is wrong
abbrev pub sizes_wrong : Group → Bool
sizes_wrong g =
    outside 1 255 g.S || outside 8 65540 g.N || not (eqb (length g.memory) (g.S * g.N)) || not (eqb (length g.table) g.S)

-- and, in the calls on links, a buffer under 44 x S bytes (request 2026-13)
abbrev pub lent_wrong : Group → List ℕ → Bool
lent_wrong g out = sizes_wrong g || ltb (length out) (44 * g.S)

-- 2: slot outside 1 to S, or closed (for open: outside only)
abbrev pub slot_outside : Group → ℕ → Bool
slot_outside g k = outside 1 g.S k

abbrev pub slot_closed : Group → ℕ → Bool
slot_closed g k = slot_outside g k || not (record_of_all g k).id.opened

-- 3: the open record is not coherent
abbrev pub incoherent : Group → ℕ → Bool
incoherent g k = not (coherent_b g.N (record_of_all g k))

-- 4: bytes are not 44; byte 0 is not FE (hear), or unknown or FE (link message); byte 1 is not 2C (optional link messages aside)
abbrev pub byte_is : List ℕ → ℕ → ℕ → Bool
byte_is b i x = eqb (get_or b i 0) x

abbrev pub class_is : List ℕ → ℕ → Bool
class_is b c = eqb (class_of (get_or b 0 0)) c

abbrev pub malformed : List ℕ → Bool
malformed b = not (eqb (length b) 44) || not (byte_is b 0 0xFE) || not (byte_is b 1 0x2C)

abbrev pub malformed_link : List ℕ → Bool
malformed_link b =
    not (eqb (length b) 44)
    || not (class_is b optional) && (class_is b unknown || class_is b cursor_message || not (byte_is b 1 0x2C))

-- 5: no open slot has the token, or it is 0
abbrev pub token_unheld : Group → ℕ → Bool
token_unheld g token = eqb token 0 || eqb (find_from g.table token g.S) 0

-- 6: the connection's or named link is down
abbrev pub connection_down : Group → ℕ → Bool
connection_down g k = not (link_of g k)

abbrev pub link_down : Group → ℕ → Bool
link_down g l = not (active_b g.links l)

-- "not for 01 on the link being added" (request 2026-01): w, at stages 1 to 4
abbrev pub added_b : Exchange → ℕ → Bool
added_b x l = not (outside 1 4 x.stage) && eqb l x.w

abbrev pub message_down : Group → ℕ → ℕ → Bool
message_down g l first = link_down g l && not (added_b g.exchange l && eqb first 0x01)

-- 7: the state forbids: send, urgent or not, after D, C or A sent or C heard; place after A sent or D or C heard; read after C or A sent;
-- shutdown after D, C or A sent; close after C or A sent; abort after A sent; free outside PeerAbortWait
abbrev pub send_barred : Marks → Bool
send_barred m = m.sent.done || m.sent.closed || m.abort || m.heard.closed

abbrev pub forbids : Request → Marks → Bool
forbids (send b) m = send_barred m
forbids (urgent b) m = send_barred m
forbids (gather head body) m = send_barred m
forbids (place at b) m = m.abort || m.heard.done || m.heard.closed
forbids (read out) m = m.sent.closed || m.abort
forbids shutdown m = m.sent.done || m.sent.closed || m.abort
forbids close m = m.sent.closed || m.abort
forbids abort m = m.abort

abbrev pub state_forbids : Group → ℕ → Request → Bool
state_forbids g k q = forbids q (record_of_all g k).marks

abbrev pub aborting : State → Bool
aborting Active = false
aborting PeerCloseWait1 = false
aborting PeerCloseWait2 = false
aborting AppCloseWait1 = false
aborting AppCloseWait2 = false
aborting PeerAbortWait = true
aborting Closed = false

abbrev pub not_aborting : Group → ℕ → Bool
not_aborting g k = not (aborting (state_of (record_of_all g k).marks))

-- 8: a cursor rule of hear is broken. The new P is out of range, has no good distance from T, or one less than before, or moved after D or
-- C was heard; the new R is out of range, at no good distance before Q, or at one greater than before
abbrev pub producer_broken : ℕ → Record → Message → Bool
producer_broken N c m =
    let d = data_of N in
    not (in_range N m.producer)
    || not (good_b d c.inbound.told m.producer)
    || ltb (gap_of d c.inbound.told m.producer) (gap_of d c.inbound.told c.inbound.producer)
    || marked c.marks.heard && not (same_b c.inbound.producer m.producer)

abbrev pub consumer_broken : Record → Message → Bool
consumer_broken c m =
    let d = data_of c.remote.size in
    not (in_range c.remote.size m.consumer)
    || not (good_b d m.consumer c.outbound.producer)
    || ltb (gap_of d c.outbound.consumer c.outbound.producer) (gap_of d m.consumer c.outbound.producer)

-- 16: a message heard carries another number than the last one heard plus one, 65,535 going on to 0 (request 2026-07). A message with A is
-- exempt, as is any heard after we sent A; and one with F (request 2026-13)
abbrev pub not_next : Group → ℕ → Message → Bool
not_next g k m =
    not m.flags.abort
    && (not (record_of_all g k).marks.abort && (not m.flags.failover && not (eqb m.sequence (sequence_after (record_of_all g k).inbound.last))))

-- with A or F in the message cursors are not looked at, and after A sent nothing is
abbrev pub cursor_broken : Group → ℕ → Message → Bool
cursor_broken g k m =
    not m.flags.abort
    && (not (record_of_all g k).marks.abort
    && (not m.flags.failover && (producer_broken g.N (record_of_all g k) m || consumer_broken (record_of_all g k) m)))

-- 9: a placed byte is outside the data or not free
abbrev pub byte_free : Group → ℕ → ℕ → Bool
byte_free g k x =
    let i = (record_of_all g k).inbound in
    free_b (data_of g.N) i.producer.offset (window_of g.N i.told i.producer) x

unfoldable pub unplaceable : Group → ℕ → ℕ → ℕ → Bool
unplaceable g k x zero = false
unplaceable g k x (suc j) = (ltb x 4 || leb g.N x || not (byte_free g k x)) || unplaceable g k (x + 1) j

-- 10: open: slot already open
abbrev pub already_open : Group → ℕ → Bool
already_open g k = (record_of_all g k).id.opened

-- 11: open: own token held by another open slot (any is another: slot k is closed, by 10)
abbrev pub token_held : Group → ℕ → Bool
token_held g own = ltb 0 (find_from g.table own g.S)

-- 12: open: a zero token, or N' out of range; an index outside 1 to 255, or an element whose last byte, base + index x N' - 1, would pass
-- the top of 64 bits on any link (request 2026-09)
abbrev pub passes_top : Remote → RToken → Bool
passes_top r t = ltb 0xFFFFFFFF_FFFFFFFF (t.base + r.index * r.size - 1)

abbrev pub zero_or_out : Opening → Bool
zero_or_out o =
    let r = o.remote in
    eqb o.own 0
    || eqb o.peer 0
    || outside 8 65540 r.size
    || outside 1 255 r.index
    || passes_top r r.link1
    || passes_top r r.link2
    || passes_top r r.link3
    || passes_top r r.link4

-- 13: link number outside 1 to 4
abbrev pub link_outside : ℕ → Bool
link_outside l = outside 1 4 l

-- 14: the number acted on is outside 1 to 4: "the link field of 01, 02, 03 and 04, but not of an 02 request from the client, an 02 reply
-- with Z or an 04 with A"; "a dropped or denied message acts on none" (request 2026-01)
abbrev pub is_kind : Said → ℕ → Bool
is_kind m k = eqb m.kind k

abbrev pub acts_on : Said → Bool
acts_on m =
    (is_kind m 0x01 || is_kind m 0x02 || is_kind m 0x03 || is_kind m 0x04)
    && not (is_kind m 0x02 && not m.reply && m.client || is_kind m 0x02 && m.reply && m.z || is_kind m 0x04 && m.a)

abbrev pub acted_outside : Said → Bool
acted_outside m = acts_on m && outside 1 4 m.link

abbrev pub heard_fate : Group → ℕ → List ℕ → Fate
heard_fate g l b = fate_of g.exchange l (heard_in (links_of g) b)

abbrev pub message_outside : Group → ℕ → List ℕ → Bool
message_outside g l b =
    not (class_is b optional)
    && ((is_fate (heard_fate g l b) Taken || is_fate (heard_fate g l b) Queued) && acted_outside (heard_in (links_of g) b))

-- 15: a message is to be queued and the count is 4 or more; a send is neither due nor allowed by what runs (request 2026-01)
abbrev pub queue_full : Group → ℕ → List ℕ → Bool
queue_full g l b = not (class_is b optional) && (is_fate (heard_fate g l b) Queued && leb 4 g.queue.count)

-- what may be sent that is not due: "07 request; 04 request with A; client's 04 request without A: always; client's 02 request: sort not
-- add; server's 02 request, server's 04 request without A, 06 request, 09 request: stage 0"
abbrev pub sendable : Exchange → Said → Bool
sendable x m =
    not m.reply
    && (is_kind m 0x07
    || is_kind m 0x04 && m.a
    || is_kind m 0x04 && m.client
    || is_kind m 0x02 && m.client && outside 1 4 x.stage
    || is_kind m 0x02 && not m.client && eqb x.stage 0
    || is_kind m 0x04 && not m.client && eqb x.stage 0
    || is_kind m 0x06 && eqb x.stage 0
    || is_kind m 0x09 && eqb x.stage 0)

abbrev pub sending_barred : Group → ℕ → Said → Bool
sending_barred g l m = not (due_b g.exchange l m || sendable g.exchange m)

-- 17: a sample is above 60,000 milliseconds (request 2026-10)
abbrev pub too_long : ℕ → Bool
too_long ms = ltb 60000 ms

-- THE TESTS OF EACH CALL, in the page's order: a number, and when it is given.
infix 68 ◌when◌
pub data Test : Type 0 where
  ◌when◌ : ℕ → Bool → Test

-- 9 is place's alone
abbrev pub place_test : Group → ℕ → Request → List Test
place_test g k (send b) = []
place_test g k (urgent b) = []
place_test g k (gather head body) = []
place_test g k (place at b) = 9 when unplaceable g k at (length b) ∷ []
place_test g k (read out) = []
place_test g k shutdown = []
place_test g k close = []
place_test g k abort = []

-- Connection calls test 1, then 2 (hear: 4, 5), 3, 6, 7, 16, 8, 9. Hear finds the lowest slot with the token and gives no 7. Open: 1, 2,
-- 10, 12, 13, 6, 11. Free: 1, 2, 3, 7. Link change: 13. Link message: 13, 6, length 44, then optional, else 4, 14, 15. Link send: 13, 6,
-- 14, 15
abbrev pub tests : Group → Call → List Test
tests g (on k q) =
    1 when sizes_wrong g
    ∷ 2 when slot_closed g k
    ∷ 3 when incoherent g k
    ∷ 6 when connection_down g k
    ∷ 7 when state_forbids g k q
    ∷ place_test g k q
tests g (hear b) =
    let m = fields_of b in
    let k = holder_of g m.token in
    1 when sizes_wrong g
    ∷ 4 when malformed b
    ∷ 5 when token_unheld g m.token
    ∷ 3 when incoherent g k
    ∷ 6 when connection_down g k
    ∷ 16 when not_next g k m
    ∷ 8 when cursor_broken g k m
    ∷ []
tests g (manage (open_slot k o)) =
    1 when sizes_wrong g
    ∷ 2 when slot_outside g k
    ∷ 10 when already_open g k
    ∷ 12 when zero_or_out o
    ∷ 13 when link_outside o.link
    ∷ 6 when link_down g o.link
    ∷ 11 when token_held g o.own
    ∷ []
tests g (manage (free_slot k)) =
    1 when sizes_wrong g
    ∷ 2 when slot_closed g k
    ∷ 3 when incoherent g k
    ∷ 7 when not_aborting g k
    ∷ []
tests g (manage (link_change l up out)) = 1 when lent_wrong g out ∷ 13 when link_outside l ∷ []
tests g (manage (link_message l b out)) =
    1 when lent_wrong g out
    ∷ 13 when link_outside l
    ∷ 6 when message_down g l (get_or b 0 0)
    ∷ 4 when malformed_link b
    ∷ 14 when message_outside g l b
    ∷ 15 when queue_full g l b
    ∷ []
tests g (manage (link_send l k vs out)) =
    let m = sent_in (links_of g) k vs in
    1 when lent_wrong g out ∷ 13 when link_outside l ∷ 6 when message_down g l (code_of k) ∷ 14 when acted_outside m ∷ 15 when sending_barred g l m ∷ []
tests g (manage (sample l ms)) = 13 when link_outside l ∷ 6 when link_down g l ∷ 17 when too_long ms ∷ []

-- the number of the first test whose condition holds; `none`: none does
unfoldable pub first_of : List Test → Option ℕ
first_of [] = none
first_of (n when holds ∷ l) = cond holds (some n) (first_of l)

-- ONE NUMBERED REFUSAL EXACTLY WHEN THE LIST SAYS SO. A call is refused with k if and only if k is the number of the first test whose
-- condition holds, and it is not refused if and only if none holds.
pub record Exactly (g : Group) (c : Call) : Type 0 where
  pub refused : (k : ℕ) → ((answer g c).says ≡ refusal k) ↔ (first_of (tests g c) ≡ some k)
  pub not_refused : ((k : ℕ) → (answer g c).says ≡ refusal k → ⊥) ↔ (first_of (tests g c) ≡ none)

abbrev pub ExactlyWhen : Type 0
ExactlyWhen = (g : Group) (c : Call) → Exactly g c

-- what is lent to a call to write into, beside the group: a read's out buffer, and that of a call on links
abbrev pub lent_out : Call → List ℕ
lent_out (on k q) = out_of q
lent_out (hear b) = []
lent_out (manage (open_slot k o)) = []
lent_out (manage (free_slot k)) = []
lent_out (manage (link_change l up out)) = out
lent_out (manage (link_message l b out)) = out
lent_out (manage (link_send l k vs out)) = out
lent_out (manage (sample l ms)) = []

-- A REFUSED CALL ALTERS NOTHING IT WAS LENT. The group stays as it was, in every table and byte; the answer is the number only, with no
-- message, and out holds what it held.
abbrev pub RefusedKeeps : Type 0
RefusedKeeps =
    (g : Group) (c : Call) (k : ℕ) → (answer g c).says ≡ refusal k
    → (next g c ≡ g) × (answer g c ≡ record { says = refusal k; made = false; message = no_message; out = lent_out c })

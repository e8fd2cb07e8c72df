-- What stays true over any list of calls from any fresh group, the one-byte sentence of demand 2 with its twin for read, and where placings
-- lie: claims about the rules that every contract cites (`answer`, `next`). A call holds all that a peer hands in, messages and placed
-- bytes, so "any list" is any peer, lying or not. proofs/Theorem and proofs/Progress prove them. Assumes nothing.
use Rattle.std.specs.Prelude.{ℕ, ◌+◌, ◌-◌, ◌*◌, ◌≤◌, ◌<◌, min, ◌≡◌, ◌⊎◌, Bool, true, false, cond, List, [], ◌∷◌, ◌++◌, ltb, eqb, length, take, drop, get_or, replicate}
use Rattle.std.proofs.Math.ListN.{get_elem?}
use Rattle.flow.specs.Flow.{room_of}
use Rattle.element.specs.Element.{base_of, splice, intact_b, fresh_element, ring_from}
use Rattle.conn_record.specs.declared.Opening.{Opening}
use Rattle.conn_answer.specs.declared.Placing.{Placing}
use Rattle.conn_record.specs.declared.Record.{Record}
use Rattle.conn_record.specs.Connection.{coherent_b}
use Rattle.conn_send.specs.Transmit.{Within}
use Rattle.conn_send.specs.Produced.{send_forbids}
use Rattle.conn_receive.specs.Receive.{read_forbids, unread_of}
use Rattle.group_table.specs.Table.{slot_b, open_b}
use Rattle.group_rules.specs.Says.{said_in}
use Rattle.group_rules.specs.Rules.{Group, Request, send, gather, urgent, place, read, shutdown, close, abort, open_slot, free_slot, link_change, link_message, link_send, sample, Call, on, hear, manage, Says, refusal, accepted, sent, was_read_of, torn, reset, Answer, answer, next, sizes_ok, record_of_all, element_in, link_of, holder_of, Fresh}
use Rattle.thm_order.specs.Statement.{leaves, At}

-- whatever calls are made of a fresh group, this holds of the group that they leave
abbrev pub Always : (Group → Type 0) → Type 0
Always P = (g : Group) → Fresh g → (cs : List Call) → P (leaves g cs)

-- slot k is one of 1 to S, and open; its own token; the offset of its C
abbrev pub OpenAt : Group → ℕ → Type 0
OpenAt h k = open_b h.S h.table k ≡ true

abbrev pub own_of : Group → ℕ → ℕ
own_of h k = (record_of_all h k).id.own

abbrev pub offset_c : Group → ℕ → ℕ
offset_c h k = (record_of_all h k).inbound.consumer.offset

-- 1. TOKENS APART. No two open slots have the same own token, so the lowest slot that hear finds by a token is the only one.
pub record Apart (h : Group) : Type 0 where
  pub no_two : (j k : ℕ) → OpenAt h j → OpenAt h k → own_of h j ≡ own_of h k → j ≡ k
  pub the_only : (k token : ℕ) → OpenAt h k → own_of h k ≡ token → holder_of h token ≡ k

abbrev pub TokensApart : Type 0
TokensApart = Always Apart

-- 2. COHERENT. Every open record is coherent, so refusal 3 is never given.
pub record AllCoherent (h : Group) : Type 0 where
  pub every_open : (k : ℕ) → OpenAt h k → coherent_b h.N (record_of_all h k) ≡ true
  pub never_3 : (c : Call) → (answer h c).says ≡ refusal 3 → ⊥

abbrev pub AlwaysCoherent : Type 0
AlwaysCoherent = Always AllCoherent

-- 3. INTACT. Every open element begins with its eye catcher, so read never answers "torn".
pub record AllIntact (h : Group) : Type 0 where
  pub every_open : (k : ℕ) → OpenAt h k → intact_b (element_in h k) ≡ true
  pub never_torn : (c : Call) → (answer h c).says ≡ torn → ⊥

abbrev pub AlwaysIntact : Type 0
AlwaysIntact = Always AllIntact

-- 4. NO STALE BYTES. What slot k's element must hold, by the calls alone. An open of slot k that is accepted makes it the eye catcher and
-- zeros; a place on slot k that is accepted puts its bytes at its offset, and every other byte stays; nothing else changes it.
abbrev pub accepted_b : Says → Bool
accepted_b says = (said_in says).accepts

abbrev pub placed_by : Request → List ℕ → List ℕ
placed_by (send b) e = e
placed_by (urgent b) e = e
placed_by (gather head body) e = e
placed_by (place at b) e = splice e at b
placed_by (read out) e = e
placed_by shutdown e = e
placed_by close e = e
placed_by abort e = e

abbrev pub changed_by : ℕ → ℕ → Call → List ℕ → List ℕ
changed_by N k (on j q) e = cond (eqb j k) (placed_by q e) e
changed_by N k (hear b) e = e
changed_by N k (manage (open_slot j o)) e = cond (eqb j k) (fresh_element N) e
changed_by N k (manage (free_slot j)) e = e
changed_by N k (manage (link_change l up b)) e = e
changed_by N k (manage (link_message l bytes b)) e = e
changed_by N k (manage (link_send l i vs b)) e = e
changed_by N k (manage (sample l ms)) e = e

-- one call on, from the bytes e
unfoldable pub held_after : Group → Call → ℕ → List ℕ → List ℕ
held_after g c k e = cond (accepted_b (answer g c).says) (changed_by g.N k c e) e

unfoldable pub held_from : Group → List ℕ → List Call → ℕ → List ℕ
held_from g e [] k = e
held_from g e (c ∷ cs) k = held_from (next g c) (held_after g c k e) cs k

-- a fresh group's memory is all zeros
abbrev pub held : Group → List Call → ℕ → List ℕ
held g cs k = held_from g (replicate g.N 0) cs k

-- The same, of one byte. Call number i of the list, counted from 0, is c and was accepted, made on the group as the calls before left it
abbrev pub AcceptedAt : Group → List Call → ℕ → Call → Type 0
AcceptedAt g cs i c = At cs i c × ((answer (leaves g (take i cs)) c).says ≡ accepted)

-- it opened slot k
pub record Opens (g : Group) (cs : List Call) (i k : ℕ) : Type 0 where
  pub given : Opening
  pub took : AcceptedAt g cs i (manage (open_slot k given))

-- it is a place on slot k that covers the byte at offset x
pub record Covers (g : Group) (cs : List Call) (i k x : ℕ) : Type 0 where
  pub at : ℕ
  pub bytes : List ℕ
  pub took : AcceptedAt g cs i (on k (place at bytes))
  pub low : at ≤ x
  pub high : x < at + length bytes

-- number `opening` opened slot k, and no later one: the connection that the slot has now
pub record LastOpen (g : Group) (cs : List Call) (opening k : ℕ) : Type 0 where
  pub opened : Opens g cs opening k
  pub last : (i : ℕ) → opening < i → Opens g cs i k → ⊥

-- the byte v is that of the last place that covers offset x, of those on that connection: after its open
pub record Stored (g : Group) (cs : List Call) (k x v : ℕ) : Type 0 where
  pub opening : ℕ
  pub open_last : LastOpen g cs opening k
  pub storing : ℕ
  pub since : opening < storing
  pub covers : Covers g cs storing k x
  pub byte : get_or covers.bytes (x - covers.at) 0 ≡ v
  pub latest : (i : ℕ) → storing < i → Covers g cs i k x → ⊥

-- the byte v is zero, as the open left it: no place on that connection covers offset x
pub record Unstored (g : Group) (cs : List Call) (k x v : ℕ) : Type 0 where
  pub opening : ℕ
  pub open_last : LastOpen g cs opening k
  pub none_since : (i : ℕ) → opening < i → Covers g cs i k x → ⊥
  pub zero_byte : v ≡ 0

-- where byte number i of a read stands in an element of N bytes: i bytes on from C, and from the end on at 4
abbrev pub offset_from : ℕ → ℕ → ℕ → ℕ
offset_from N c i = cond (ltb (c + i) N) (c + i) (c + i - N + 4)

-- a read on slot k, made after the calls cs had left h, named n and left its buffer, which held `out`, as `now`
pub record Handed (g : Group) (cs : List Call) (h : Group) (k n : ℕ) (out now : List ℕ) : Type 0 where
  -- n bytes of what the element must hold, from C on, stand in front, and out beyond n stays
  pub bytes : now ≡ take n (ring_from (held g cs k) (offset_c h k)) ++ drop n out
  -- each of the n was stored last by a place on that same connection, at that very offset; or none was stored there, and it is zero
  pub each : (i : ℕ) → i < n
      → let x = offset_from g.N (offset_c h k) i in Stored g cs k x (get_or now i 0) ⊎ Unstored g cs k x (get_or now i 0)

-- each element holds exactly what it must, and a read hands out bytes of that
pub record NoneStale (g : Group) (cs : List Call) (h : Group) : Type 0 where
  pub exactly : (k : ℕ) → slot_b g.S k ≡ true → element_in h k ≡ held g cs k
  pub reads : (k n : ℕ) (out : List ℕ) → (answer h (on k (read out))).says ≡ was_read_of n
      → Handed g cs h k n out (answer h (on k (read out))).out

abbrev pub NoStaleBytes : Type 0
NoStaleBytes = (g : Group) → Fresh g → (cs : List Call) → NoneStale g cs (leaves g cs)

-- 5. NOBODY ELSE'S. Byte x of the memory is data of element k: bytes (k-1)N+4 to kN-1
abbrev pub InData : Group → ℕ → ℕ → Type 0
InData h k x = (base_of h.N k + 4 ≤ x) × (x < k * h.N)

-- A call on slot k, a place too, leaves every byte that is not data of element k as it was; a read leaves every byte as it was.
pub record OwnTouched (h : Group) : Type 0 where
  pub by_any : (k : ℕ) (q : Request) (x : ℕ) → (InData h k x → ⊥) → get_elem? (next h (on k q)).memory x ≡ get_elem? h.memory x
  pub by_read : (k : ℕ) (out : List ℕ) → (next h (on k (read out))).memory ≡ h.memory

-- the bytes of slot k's element after the eye catcher
abbrev pub data_in : Group → ℕ → List ℕ
data_in h k = drop 4 (element_in h k)

pub record SameOwn (h i : Group) (k : ℕ) : Type 0 where
  pub same_S : h.S ≡ i.S
  pub same_N : h.N ≡ i.N
  pub same_record : record_of_all h k ≡ record_of_all i k
  pub same_link : link_of h k ≡ link_of i k
  pub same_data : data_in h k ≡ data_in i k

-- Two groups that calls leave, each of a fresh one, may differ in every byte of the memory that is not data of element k: a call on slot
-- k, a place or a read too, answers the same in both.
abbrev pub OwnSeen : Type 0
OwnSeen =
    (g₁ g₂ : Group) → Fresh g₁ → Fresh g₂ → (cs₁ cs₂ : List Call) (k : ℕ) → SameOwn (leaves g₁ cs₁) (leaves g₂ cs₂) k
    → (q : Request) → answer (leaves g₁ cs₁) (on k q) ≡ answer (leaves g₂ cs₂) (on k q)

abbrev pub NobodyElses : Type 0
NobodyElses = Always OwnTouched × OwnSeen

-- THE ONE-BYTE SENTENCE. Given the right S, N and memory, an open, coherent connection that may send, with data offered, free room at
-- the peer and an active link, writes at least one byte, except while an urgent place of its own stands (request 2026-04). It holds of any
-- group, however it came about.
abbrev pub total_of : List Placing → ℕ
total_of [] = 0
total_of (p ∷ l) = p.len + total_of l

-- each placing lies in the data of the peer's element, and takes the bytes after the one before it, from `start` on
abbrev pub AllWithin : Record → ℕ → List Placing → Type 0
AllWithin c start [] = Unit {0}
AllWithin c start (p ∷ l) = Within c start p × AllWithin c (start + p.len) l

-- n is above 0 and at most what was offered, the placings name n bytes in all, each in the data of the peer's element, and a message is made
pub record Writes (c : Record) (offered : ℕ) (a : Answer) : Type 0 where
  pub n : ℕ
  pub placings : List Placing
  pub says : a.says ≡ sent n placings
  pub some : 0 < n
  pub most : n ≤ offered
  pub total : total_of placings ≡ n
  pub within : AllWithin c 0 placings
  pub told : a.made ≡ true

abbrev pub OneByte : Type 0
OneByte =
    (h : Group) (k : ℕ) (b : List ℕ) → sizes_ok h ≡ true → OpenAt h k → coherent_b h.N (record_of_all h k) ≡ true
    → send_forbids (record_of_all h k).marks ≡ false → (record_of_all h k).outbound.urgent.standing ≡ false → 0 < length b
    → 0 < room_of (record_of_all h k).remote.size (record_of_all h k).outbound.consumer (record_of_all h k).outbound.producer
    → link_of h k ≡ true
    → Writes (record_of_all h k) (length b) (answer h (on k (send b)))

-- the sends: plain, and urgent
pub data Sends : Request → Type 0 where
  plainly : (b : List ℕ) → Sends (send b)
  urgently : (b : List ℕ) → Sends (urgent b)

-- NO ADDRESS PASSES THE TOP. Each placing of a send that is not refused, on any group, has the key of the connection's own link and lies
-- whole between the start of the peer's data and the element's end, below 2^64: the plain sum of the rules is an address of 64 bits.
abbrev pub PlacingsWithin : Type 0
PlacingsWithin =
    (g : Group) (k n : ℕ) (q : Request) (l : List Placing) → Sends q → (answer g (on k q)).says ≡ sent n l → AllWithin (record_of_all g k) 0 l

-- ITS TWIN FOR READ. Given the right S, N and memory, an open, coherent connection that may read, its element intact and its link active,
-- reads the smaller of what is unread and the room in out: those bytes, from C on, are what it leaves in front of out.
pub record Hands (h : Group) (k : ℕ) (out : List ℕ) (a : Answer) : Type 0 where
  pub n : ℕ
  pub smaller : n ≡ min (unread_of h.N (record_of_all h k).inbound) (length out)
  pub says : a.says ≡ was_read_of n
  pub bytes : a.out ≡ take n (ring_from (element_in h k) (offset_c h k)) ++ drop n out

abbrev pub OneRead : Type 0
OneRead =
    (h : Group) (k : ℕ) (out : List ℕ) → sizes_ok h ≡ true → OpenAt h k → coherent_b h.N (record_of_all h k) ≡ true
    → read_forbids (record_of_all h k).marks ≡ false → intact_b (element_in h k) ≡ true → link_of h k ≡ true
    → Hands h k out (answer h (on k (read out)))

-- NOTHING IS DROPPED IN SILENCE. A close that answers anything but a refusal or "reset" found every byte read, on any group.
abbrev pub NothingDropped : Type 0
NothingDropped =
    (g : Group) (k : ℕ) → ((j : ℕ) → (answer g (on k close)).says ≡ refusal j → ⊥) → ((answer g (on k close)).says ≡ reset → ⊥)
    → unread_of g.N (record_of_all g k).inbound ≡ 0

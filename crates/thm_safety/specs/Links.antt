-- Request 2026-01. Link change, link message and link send are the group's calls on its links, with their gauges, role, exchange and queue:
-- what the crate thm_links says of these calls on links holds of them on groups. All other calls leave the links as they are, but that a
-- sample changes a gauge, and look neither at role, exchange nor queue. Claims about the rules that every contract cites (`answer`, `next`).
-- proofs/Links proves each. Assumes nothing.
use Rattle.std.specs.Prelude.{ℕ, ◌≤◌, ◌≡◌, ◌⊎◌, List, cond}
use Rattle.thm_links.specs.Statements as Link
use Rattle.thm_links.specs.Course.{Course}
use Rattle.thm_links.specs.Statements.{Call as LinkCall}
use Rattle.group_rules.specs.Rules.{Group, Management, open_slot, free_slot, link_change, link_message, link_send, sample, Call, on, hear, manage, answer, next, links_of, group_of, lent_ok}
use Rattle.link_failover.specs.Failover.{plan_of, moved_all}
use Rattle.thm_safety.specs.Statement.{Always}

-- the desk call that a call on links is, with the buffer b (request 2026-13)
abbrev pub desk_of : LinkCall → List ℕ → Management
desk_of (LinkCall.change l up) b = link_change l up b
desk_of (LinkCall.message l bytes) b = link_message l bytes b
desk_of (LinkCall.send l k vs) b = link_send l k vs b

abbrev pub call_of : LinkCall → List ℕ → Call
call_of k b = manage (desk_of k b)

-- 1. Where 1 does not refuse it, it leaves the links that it leaves of them, refused or not; of each record at most its link is another,
-- as failover says (`movedOf`); and all else as it was
abbrev pub relinked : Group → LinkCall → Group
relinked g k =
    let ls = Link.next (links_of g) k in
    group_of g.S g.N (moved_all g.N (plan_of g.links ls.active) g.table) ls g.memory

abbrev pub LinkCallsLeave : Type 0
LinkCallsLeave = (g : Group) (k : LinkCall) (b : List ℕ) → next g (call_of k b) ≡ cond (lent_ok g b) (relinked g k) g

-- 2. Every other call leaves the links, the role, the exchange and the queue
pub record KeepsLinks (g h : Group) : Type 0 where
  pub same_links : h.links ≡ g.links
  pub same_role : h.role ≡ g.role
  pub same_exchange : h.exchange ≡ g.exchange
  pub same_queue : h.queue ≡ g.queue

abbrev pub OthersKeep : Type 0
OthersKeep = (g : Group) (c : Call) → KeepsLinks g (next g c) ⊎ ((k : LinkCall) × (b : List ℕ) × (c ≡ call_of k b))

-- 3. and reads neither role, exchange nor queue
abbrev pub Other : Call → Type 0
Other (on k q) = Unit {0}
Other (hear b) = Unit {0}
Other (manage (open_slot k o)) = Unit {0}
Other (manage (free_slot k)) = Unit {0}
Other (manage (link_change l up b)) = ⊥
Other (manage (link_message l bytes b)) = ⊥
Other (manage (link_send l k vs b)) = ⊥
Other (manage (sample l ms)) = Unit {0}

-- two groups that differ in these alone
pub record SameButExchange (g h : Group) : Type 0 where
  pub same_S : g.S ≡ h.S
  pub same_N : g.N ≡ h.N
  pub same_table : g.table ≡ h.table
  pub same_links : g.links ≡ h.links
  pub same_gauges : g.gauges ≡ h.gauges
  pub same_memory : g.memory ≡ h.memory

-- they answer every such call alike, and it leaves groups that differ in these alone
abbrev pub ExchangeUnread : Type 0
ExchangeUnread =
    (g h : Group) (c : Call) → Other c → SameButExchange g h → (answer g c ≡ answer h c) × SameButExchange (next g c) (next h c)

-- 4. Whatever calls are made of a fresh group: at most four messages wait; at most one exchange runs, of a stage from 0, which is none, to 11;
-- and of a call on links it stays, goes on, ends or begins as the crate thm_links says (`Course`)
pub record OneAtATime (h : Group) : Type 0 where
  pub most_wait : h.queue.count ≤ 4
  pub stages : h.exchange.stage ≤ 11
  pub course : (k : LinkCall) (b : List ℕ)
      → Course (links_of h) k (Link.does (links_of h) k).touch (next h (call_of k b)).exchange

abbrev pub AlwaysOne : Type 0
AlwaysOne = Always OneAtATime

-- Link gauges (request 2026-10): who changes one, what it holds, and that no call of document 01 reads one. Claims about the rules that
-- every contract cites (`answer`, `next`). proofs/Gauges proves each. Assumes nothing.
use Rattle.std.specs.Prelude.{ℕ, ◌+◌, ◌*◌, ◌≤◌, ◌≡◌, ◌⊎◌, Bool, true, false, ◌&&◌, not, cond, List, [], ◌∷◌, ◌++◌, ltb, eqb, length}
use Rattle.std.specs.Float.Ieee.Exact.{HasValue}
use Rattle.gauge.specs.declared.Gauge.{Gauge}
use Rattle.gauge.specs.Gauge.{most_ms, cleared_of, sampled_of, health_of, after, whole_from}
use Rattle.group_table.specs.Table.{gauge_at, with_gauge}
use Rattle.group_rules.specs.Rules.{Group, open_slot, free_slot, link_change, link_message, link_send, sample, Call, on, hear, manage, sampled, lent_ok}
use Rattle.group_rules.specs.Rules.{answer, next, links_of, Fresh}
use Rattle.link_exchange.specs.declared.Touch.{Touch}
use Rattle.link_exchange.specs.declared.Touch.TheVariants.{Nothing, Up, Down, All}
use Rattle.link_calls.specs.Calls.{touched}
use Rattle.thm_links.specs.Statements as Link
use Rattle.thm_links.specs.Statements.{Call as LinkCall}
use Rattle.thm_order.specs.Statement.{leaves}
use Rattle.thm_changes.specs.Numbers.{refused_b}
use Rattle.thm_safety.specs.Links.{call_of}

-- 1. WHO CHANGES A GAUGE, on any group: an accepted sample of its link, which answers the health that the gauge then has; and a call that
-- takes its link down, which clears it (`touched`). `withGauge` is another gauge at one link, and every other as it was
pub data Regauges (g : Group) (c : Call) : Type 0 where
  by_sample : (l ms : ℕ) → c ≡ manage (sample l ms) → (answer g c).says ≡ sampled (health_of (sampled_of (gauge_at g.gauges l) ms))
      → (next g c).gauges ≡ with_gauge g.gauges l (sampled_of (gauge_at g.gauges l) ms) → Regauges g c
  by_link_down : (k : LinkCall) (b : List ℕ) → c ≡ call_of k b → (next g c).gauges ≡ (touched (links_of g) (Link.does (links_of g) k).touch).gauges
      → Regauges g c

abbrev pub GaugesBySampleAndLinkDown : Type 0
GaugesBySampleAndLinkDown = (g : Group) (c : Call) → ((next g c).gauges ≡ g.gauges) ⊎ Regauges g c

-- 2. NO CALL OF DOCUMENT 01, LINK SEND AMONG THEM, READS ONE. They are all but sample
abbrev pub Document01 : Call → Type 0
Document01 (on k q) = Unit {0}
Document01 (hear b) = Unit {0}
Document01 (manage (open_slot k o)) = Unit {0}
Document01 (manage (free_slot k)) = Unit {0}
Document01 (manage (link_change l up b)) = Unit {0}
Document01 (manage (link_message l bytes b)) = Unit {0}
Document01 (manage (link_send l k vs b)) = Unit {0}
Document01 (manage (sample l ms)) = ⊥

-- two groups that differ in gauges alone
pub record SameButGauges (g h : Group) : Type 0 where
  pub same_S : g.S ≡ h.S
  pub same_N : g.N ≡ h.N
  pub same_table : g.table ≡ h.table
  pub same_links : g.links ≡ h.links
  pub same_role : g.role ≡ h.role
  pub same_exchange : g.exchange ≡ h.exchange
  pub same_queue : g.queue ≡ h.queue
  pub same_memory : g.memory ≡ h.memory

-- they answer every such call alike, and it leaves groups that differ in gauges alone
abbrev pub GaugesUnread : Type 0
GaugesUnread =
    (g h : Group) (c : Call) → Document01 c → SameButGauges g h → (answer g c ≡ answer h c) × SameButGauges (next g c) (next h c)

-- 3. WHAT A GAUGE HOLDS, over any list of calls from any fresh group: the accepted samples of its link since the link last went down,
-- oldest first. An open does not clear it, nor does a call by which the link becomes active. Where all four go down, so does l: no other
-- has a gauge
abbrev pub down_b : Touch → ℕ → Bool
down_b Nothing l = false
down_b (Up k) l = false
down_b (Down k) l = eqb k l
down_b All l = true

abbrev pub unless_down : Group → ℕ → List ℕ → LinkCall → List ℕ
unless_down g l ns k = cond (down_b (Link.does (links_of g) k).touch l) [] ns

abbrev pub heard_after : Group → ℕ → List ℕ → Call → List ℕ
heard_after g l ns (on k q) = ns
heard_after g l ns (hear b) = ns
heard_after g l ns (manage (open_slot k o)) = ns
heard_after g l ns (manage (free_slot k)) = ns
heard_after g l ns (manage (link_change k up b)) = cond (lent_ok g b) (unless_down g l ns (LinkCall.change k up)) ns
heard_after g l ns (manage (link_message k bytes b)) = cond (lent_ok g b) (unless_down g l ns (LinkCall.message k bytes)) ns
heard_after g l ns (manage (link_send k kind vs b)) = cond (lent_ok g b) (unless_down g l ns (LinkCall.send k kind vs)) ns
heard_after g l ns (manage (sample k ms)) = cond (eqb k l && not (refused_b (answer g (manage (sample k ms))).says)) (ns ++ ms ∷ []) ns

unfoldable pub heard_from : Group → ℕ → List ℕ → List Call → List ℕ
heard_from g l ns [] = ns
heard_from g l ns (c ∷ cs) = heard_from (next g c) l (heard_after g l ns c) cs

abbrev pub samples : Group → List Call → ℕ → List ℕ
samples g cs l = heard_from g l [] cs

-- with none, its count is 0, and nothing else of it is ever looked at
abbrev pub Holding : Gauge → List ℕ → Type 0
Holding q [] = q.count ≡ 0
Holding q (n ∷ ns) = q ≡ after cleared_of (n ∷ ns)

-- four gauges are lent by their type
abbrev pub GaugeHolds : Type 0
GaugeHolds =
    (g : Group) → Fresh g → length g.gauges ≡ 4 → (cs : List Call) (l : ℕ) → Holding (gauge_at (leaves g cs).gauges l) (samples g cs l)

-- so through the first eight of them its mean is exactly the whole number over 2,097,152
abbrev pub MeanExact : Type 0
MeanExact =
    (g : Group) → Fresh g → length g.gauges ≡ 4 → (cs : List Call) (l n : ℕ) (ns : List ℕ) → samples g cs l ≡ n ∷ ns → length ns ≤ 7
    → HasValue (gauge_at (leaves g cs).gauges l).mean false (whole_from (n * 2097152) ns) 2097152

-- and a sample after them is late exactly if it is above 4 x that mean, plus 20: nothing of the test rounds either
abbrev pub LateExact : Type 0
LateExact =
    (g : Group) → Fresh g → length g.gauges ≡ 4 → (cs : List Call) (l n : ℕ) (ns : List ℕ) → samples g cs l ≡ n ∷ ns → length ns ≤ 7
    → (s : ℕ) → s ≤ most_ms
    → (sampled_of (gauge_at (leaves g cs).gauges l) s).late ≡ ltb (4 * whole_from (n * 2097152) ns + 20 * 2097152) (s * 2097152)

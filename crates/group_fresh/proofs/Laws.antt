-- Closed slots, down links and zeroed bytes are a fresh group. Assumes nothing.
use Prim.Native.Nat.{ℕ, zero, suc, ◌*◌, ◌≤◌}
use mathlib.Core.Path.{◌≡◌, refl, sym, ap, ◌∙◌, subst}
use mathlib.Core.Bool.{Bool, true, false, ◌&&◌, and-false}
use mathlib.Core.List.{List}
use lib.ListN.{length, take, replicate, get_or, length-replicate}
use lib.Seq.{length-take-le}
use Rattle.gauge.specs.declared.Gauge.{Gauge}
use Rattle.gauge.specs.Gauge.{cleared_of}
use Rattle.link_exchange.specs.declared.Role.{Role}
use Rattle.link_exchange.specs.declared.Exchange.{Exchange}
use Rattle.link_exchange.specs.declared.Queue.{Queue}
use Rattle.link_exchange.specs.Exchange.{no_exchange, empty_queue}
use Rattle.conn_record.specs.declared.Record.{Record}
use Rattle.conn_record.specs.Connection.{zero_record}
use Rattle.group_table.specs.declared.Links.{Links}
use Rattle.group_table.specs.Table.{most_slots, sizes_b, slot_b, record_at, open_b, active_b, gauge_at}
use Rattle.group_table.proofs.Laws.{sizes_facts}
use Rattle.group_rules.specs.Rules.{group_of, Fresh}
use Rattle.group_fresh.specs.Fresh.{closed_table, down_links, FreshTables}

-- the first s of m equal things are that thing wherever one looks, and beyond them
all_alike : {A : Type 0} (x : A) (s m i : ℕ) → get_or (take s (replicate m x)) i x ≡ x
all_alike x zero m i = refl
all_alike x (suc s) zero i = refl
all_alike x (suc s) (suc m) zero = refl
all_alike x (suc s) (suc m) (suc i) = all_alike x s m i

closed_at : (s k : ℕ) → record_at (take s closed_table) k ≡ zero_record
unfolding record_at closed_table
closed_at s zero = refl
closed_at s (suc i) = all_alike zero_record s most_slots i

shut : (s k : ℕ) → open_b s (take s closed_table) k ≡ false
unfolding open_b zero_record
shut s k = ap (λ (c : Record). slot_b s k && c.id.opened) (closed_at s k) ∙ and-false (slot_b s k)

off : (role : Role) (k : ℕ) → active_b (down_links role).active k ≡ false
unfolding active_b down_links
off role zero = refl
off role (suc i) = all_alike false 4 4 i

empty : (role : Role) (k : ℕ) → (gauge_at (down_links role).gauges k).count ≡ 0
unfolding gauge_at down_links
empty role zero = refl
empty role (suc i) = ap (λ (q : Gauge). q.count) (all_alike cleared_of 4 4 i)

no_stage : (role : Role) → (down_links role).exchange.stage ≡ 0
unfolding down_links
no_stage role = refl

none_waits : (role : Role) → (down_links role).queue.count ≡ 0
unfolding down_links empty_queue
none_waits role = refl

count_of : (s : ℕ) → s ≤ most_slots → length (take s closed_table) ≡ s
unfolding closed_table
count_of s h = length-take-le s (replicate most_slots zero_record) (rw (length-replicate {A = Record} most_slots zero_record) h)

pub fresh_tables : (t : List Record) (l : Links) (role : Role) → t ≡ closed_table → l ≡ down_links role → FreshTables t l
fresh_tables t l role et el s n e =
    let long = length-replicate {A = ℕ} (s * n) 0 in
    subst (λ (x : List Record). Fresh (group_of s n (take s x) l (replicate (s * n) 0))) (sym et)
    (subst (λ (a : Links). Fresh (group_of s n (take s closed_table) a (replicate (s * n) 0))) (sym el)
    record {
      sizes =
          ap (λ (len : ℕ). sizes_b s n len (length (take s closed_table))) long
          ∙ (ap (sizes_b s n (s * n)) (count_of s (sizes_facts s n (s * n) s e).s_most) ∙ e);
      closed = shut s;
      down = off role;
      unheard = empty role;
      idle = no_stage role;
      none = none_waits role;
      zeros = ap (λ (len : ℕ). replicate len 0) (sym long);
    })

-- the code's tables: a zero record in each slot, a cleared gauge at each link
abbrev links_made : Role → Gauge → Exchange → Queue → Links
links_made role q x w = record { active = replicate 4 false; gauges = replicate 4 q; role = role; exchange = x; queue = w }

pub fresh_made : (role : Role) (z : Record) → z ≡ zero_record → (q : Gauge) → q ≡ cleared_of → (x : Exchange) → x ≡ no_exchange
    → (w : Queue) → w ≡ empty_queue
    → (replicate most_slots z ≡ closed_table) × (links_made role q x w ≡ down_links role)
    × FreshTables (replicate most_slots z) (links_made role q x w)
unfolding closed_table down_links
fresh_made role z ez q eq x ex w ew =
    let et : replicate most_slots z ≡ closed_table = ap (replicate most_slots) ez in
    let el : links_made role q x w ≡ down_links role = λ i. links_made role (eq i) (ex i) (ew i) in
    (et, el, fresh_tables (replicate most_slots z) (links_made role q x w) role et el)

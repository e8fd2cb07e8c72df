-- What a call on the links leaves (request 2026-13): each record is what failover makes of it, by the links before and after, and all else
-- stays. Assumes nothing.
use Prim.Native.Nat.{ℕ}
use mathlib.Core.Path.{◌≡◌, refl, sym, ap, subst, ◌∙◌}
use mathlib.Core.Bool.{Bool, true, false, cond}
use mathlib.Core.List.{List}
use lib.ListN.{length}
use Rattle.conn_record.specs.declared.Record.{Record}
use Rattle.group_table.specs.Table.{record_at}
use Rattle.link_failover.specs.Failover.{plan_of, moved_of}
use Rattle.link_failover.proofs.Keeps.{moved_at, moved_long}
use Rattle.link_failover.proofs.Still.{still_moved, same_still}
use Rattle.thm_links.specs.Statements.{Call as LinkCall}
use Rattle.group_rules.specs.Rules.{Group, next, record_of_all, lent_ok}
use Rattle.thm_safety.specs.Links.{call_of, relinked}
use Rattle.thm_safety.proofs.Links.{link_calls_leave}

pub record OnlyLinks (g h : Group) : Type 0 where
  pub same_S : h.S ≡ g.S
  pub same_N : h.N ≡ g.N
  pub as_many : length h.table ≡ length g.table
  pub same_memory : h.memory ≡ g.memory
  pub each : (k : ℕ) → record_of_all h k ≡ moved_of g.N (plan_of g.links h.links) (record_of_all g k)

either : (g : Group) (c : LinkCall) (ok : Bool) → OnlyLinks g (cond ok (relinked g c) g)
either g c true =
    record {
      same_S = refl;
      same_N = refl;
      as_many = moved_long g.N _ g.table;
      same_memory = refl;
      each = λ k. moved_at g.N _ g.table k;
    }
either g c false =
    record {
      same_S = refl;
      same_N = refl;
      as_many = refl;
      same_memory = refl;
      each =
          λ k.
          ap (λ (t : List Record). record_at t k) (still_moved (plan_of g.links g.links) g.N g.table (same_still g.links))
          ∙ moved_at g.N (plan_of g.links g.links) g.table k;
    }

pub only_the_link : (g : Group) (c : LinkCall) (b : List ℕ) → OnlyLinks g (next g (call_of c b))
only_the_link g c b = subst (OnlyLinks g) (sym (link_calls_leave g c b)) (either g c (lent_ok g b))

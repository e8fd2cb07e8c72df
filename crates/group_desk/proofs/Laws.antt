-- Any call of management: of what it is given; and in any table that shows the record, the answer and the group that is left are what the
-- rules say. Assumes nothing.
use Prim.Native.Nat.{ℕ}
use mathlib.Core.Path.{◌≡◌, refl, sym, ap, ◌∙◌, subst}
use mathlib.Core.Bool.{Bool, true, false, cond}
use mathlib.Core.List.{List, []}
use lib.Dec.{eqb}
use lib.ListN.{length}
use Rattle.gauge.specs.Gauge.{sampled_of}
use Rattle.conn_record.specs.declared.Record.{Record}
use Rattle.group_table.specs.declared.Links.{Links}
use Rattle.group_table.specs.declared.Answered.{Answered}
use Rattle.group_table.specs.declared.Turned.{Turned}
use Rattle.group_table.specs.Table.{record_at, gauge_at, gauge_set, holder_in, with_record, kept_by_of}
use Rattle.group_rules.specs.Rules.{Call, Management, Done, group_of, links_of, with_links, healthy, refuses, sample_refusal, sample_does}
use Rattle.group_rules.specs.Promises.{shown_by, sample_record, InTable, DidLinks}
use Rattle.group_desk.proofs.OpeningLaws.{open_in_table, free_in_table}
use Rattle.group_desk.specs.Management.{management_of, token_of, slot_of_all, manage_record}
use Rattle.group_desk.specs.declared.Management.{Management as Managed}
use Rattle.group_desk.specs.declared.Management.TheVariants.{Open, Free, Sample}

-- ANY CALL: what holds of the call that was matched holds of the call
module _ {x y : Managed} (e : x ≡ y) (s n : ℕ) (m l : List ℕ) (count : ℕ) (ls : Links) (holder : ℕ) (rec : Record) (r : Turned) where
  abbrev DidManaged : Managed → Type 0
  DidManaged q = shown_by r [] l ≡ manage_record s n m count ls holder rec q

  pub by_management : DidManaged y → DidManaged x
  by_management = subst DidManaged (sym e)

-- a sample keeps the record
pub sample_shown : (s n : ℕ) (m : List ℕ) (ls : Links) (c : Record) (l ms : ℕ) (r : Answered)
    → DidLinks ls (Call.manage (Management.sample l ms)) r → (d : Turned) → d ≡ kept_by_of c r
    → shown_by d [] m ≡ sample_record s n m ls c l ms
unfolding kept_by_of sample_record
sample_shown s n m ls c l ms r h d p =
    let y = h (group_of s n [] ls m) refl in
    ap (λ (x : Turned). shown_by x [] m) p
    ∙ (λ i. record { answer = y.answered i; after = c; links = links_of (y.left i); memory = m })

-- IN A TABLE that shows the record
module _ (s n : ℕ) (t : List Record) (ls : Links) (m : List ℕ) where
  -- what a sample answers, and the links that it leaves, are the same in every table
  sample_in_table : (c : Record) (l ms : ℕ) → InTable s n m t ls (Call.manage (Management.sample l ms)) 0 (sample_record s n m ls c l ms)
  unfolding sample_record sample_does with_record refuses
  sample_in_table c l ms = let y = go (eqb (sample_refusal ls.active l ms) 0) in record { answered = y.0; left = y.1 }
    where
      done : List Record → Bool → Done
      done u z =
          let q = sampled_of (gauge_at ls.gauges l) ms in
          let g = group_of s n u ls m in
          cond z (record { answer = healthy q; group = with_links g (gauge_set ls l q) }) (refuses g (sample_refusal ls.active l ms) [])

      go : (z : Bool) → ((done [] z).answer ≡ (done t z).answer) × (group_of s n t (links_of (done [] z).group) m ≡ (done t z).group)
      go true = (refl, refl)
      go false = (refl, refl)

  pub manage_in_table : (count : ℕ) → length t ≡ count → (q : Managed) (holder : ℕ) → holder ≡ holder_in t (token_of q) → (c : Record)
      → c ≡ record_at t (slot_of_all q)
      → InTable s n m t ls (Call.manage (management_of q)) (slot_of_all q) (manage_record s n m count ls holder c q)
  manage_in_table count long (Open k given) holder hh c hc = open_in_table s n t ls m k given holder hh count long c hc
  manage_in_table count long (Free k) holder hh c hc = free_in_table s n t ls m k count long c hc
  manage_in_table count long (Sample l ms) holder hh c hc = sample_in_table c l ms

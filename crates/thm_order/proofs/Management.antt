-- Desk calls keep what holds of every group made from a fresh one: open refuses an own token that another open slot has (11).
-- Assumes nothing.
use mathlib.Core.Path.{◌≡◌, refl, sym, ap, ◌∙◌}
use mathlib.Core.Logic.{◌⊎◌, inl, inr, ◌≢◌}
use mathlib.Core.Bool.{Bool, true, false, false≢true, not, cond}
use mathlib.Core.List.{List, []}
use Prim.Native.Nat.{ℕ, zero, suc, ◌<◌}
use native.Mathlib.Decide.{ℕ_discrete}
use native.Mathlib.Omega.{arith}
use lib.Dec.{ltb, eqb}
use lib.ListN.{length}
use borrow.Author.Tests.{eqb-true, ltb-false, not-false}
use Rattle.link_message.specs.declared.Kind.{Kind}
use Rattle.gauge.specs.declared.Gauge.{Gauge}
use Rattle.gauge.specs.Gauge.{sampled_of}
use Rattle.element.specs.Element.{fresh_element}
use Rattle.element.proofs.Others.{fresh_length}
use Rattle.conn_record.specs.Connection.{zero_record}
use Rattle.conn_record.specs.declared.Opening.{Opening}
use Rattle.group_table.specs.declared.Links.{Links}
use Rattle.conn_record.specs.declared.Record.{Record}
use Rattle.link_failover.specs.declared.Plan.{Plan}
use Rattle.link_failover.specs.Failover.{plan_of, moved_of, moved_all}
use Rattle.link_failover.proofs.Keeps.{ButLink, moved_keeps, moved_long, moved_at}
use Rattle.group_table.specs.Table.{sizes_b, slot_b, record_at, open_b, link_in, active_b, find_from, gauge_at, gauge_set}
use Rattle.link_calls.specs.Calls.{heard_of, sent_of}
use Rattle.conn_record.specs.Connection.{opened_record}
use Rattle.group_rules.specs.Rules.{Group, manage, Management, open_slot, free_slot, link_change, link_message, link_send, sample, Says, Turn, next, healthy, refuses, sizes_ok, record_of_all, element_in, put_turn, plain_turn, bad_opening, links_of, with_links, open_refusal, open_does, free_refusal, free_does, link_refusal, fails_over, link_does, link_message_does, link_send_does, sample_refusal, sample_does}
use Rattle.thm_order.proofs.Slots.{slot_in, open_in, open_is, open_found, element_long, Sizes, sizes_in, Put, put}
use Rattle.thm_order.proofs.Acts.{OpenAt, own_of}
use Rattle.thm_order.proofs.Near.{Good, enough}

good_sizes : (g : Group) → Good g → Sizes g.S g.N (length g.memory) (length g.table)
good_sizes g h = sizes_in g.S g.N (length g.memory) (length g.table) h.sizes

-- no open slot has the token
free_token : (g : Group) (j token : ℕ) → find_from g.table token g.S ≡ 0 → OpenAt g (suc j) → own_of g (suc j) ≡ token → ⊥
free_token g j token f o e =
    let w = open_found g.S g.table j o in
    omega (arith, sym f ∙ ap (λ t. find_from g.table t g.S) (sym e) ∙ w.1)

-- what is put into a slot is closed, or has an own token that no open slot has
good_put : (g : Group) (i : ℕ) (t : Turn) → Good g → i < g.S → length t.element ≡ g.N
    → (t.after.id.opened ≡ false) ⊎ (find_from g.table t.after.id.own g.S ≡ 0) → Good (put_turn g (suc i) t).group
good_put g i t good l fits f =
    record {
      sizes = cc (p.put_S, p.put_N, p.put_memory, p.put_table, good.sizes);
      apart = λ j k x y e. go j k x y e (ℕ_discrete j i) (ℕ_discrete k i);
    }
  where
    h : Group
    h = (put_turn g (suc i) t).group

    p : Put g i t (put_turn g (suc i) t).group
    p = put g i t (good_sizes g good).whole l (omega (arith, enough g good)) fits

    old : (j : ℕ) → j ≢ i → OpenAt h (suc j) → OpenAt g (suc j)
    old j d x =
        let w = open_in h.S h.table (suc j) x in
        open_is g.S g.table (suc j) (rw p.put_S at w.slot) (ap (λ r. r.id.opened) (sym (p.other_record j d)) ∙ w.is_open)

    old_own : (j : ℕ) → j ≢ i → own_of h (suc j) ≡ own_of g (suc j)
    old_own j d = ap (λ r. r.id.own) (p.other_record j d)

    new_own : (j : ℕ) → j ≡ i → own_of h (suc j) ≡ t.after.id.own
    new_own j e = ap (λ x. own_of h (suc x)) e ∙ ap (λ r. r.id.own) p.this_record

    -- another open slot with its own token
    clash : (j k : ℕ) → j ≡ i → k ≢ i → OpenAt h (suc j) → OpenAt h (suc k) → own_of h (suc k) ≡ own_of h (suc j)
        → (t.after.id.opened ≡ false) ⊎ (find_from g.table t.after.id.own g.S ≡ 0) → ⊥
    clash j k e d x y q (inl c) =
        false≢true (sym (ap (λ r. r.id.opened) p.this_record ∙ c) ∙ (open_in h.S h.table (suc i) (rw e at x)).is_open)
    clash j k e d x y q (inr c) = free_token g k t.after.id.own c (old k d y) (sym (old_own k d) ∙ q ∙ new_own j e)

    go : (j k : ℕ) → OpenAt h (suc j) → OpenAt h (suc k) → own_of h (suc j) ≡ own_of h (suc k) → Dec (j ≡ i) → Dec (k ≡ i) → j ≡ k
    go j k x y q (yes a) (yes b) = a ∙ sym b
    go j k x y q (yes a) (no b) = absurd (clash j k a b x y (sym q) f)
    go j k x y q (no a) (yes b) = absurd (clash k j b a y x q f)
    go j k x y q (no a) (no b) = good.apart j k (old j a x) (old k b y) (sym (old_own j a) ∙ q ∙ old_own k b)

-- a test that gives no refusal
past : (t : Bool) (x y : ℕ) → cond t (suc x) y ≡ 0 → (t ≡ false) × (y ≡ 0)
past true x y e = absurd (omega (arith, e))
past false x y e = (refl, e)

open_good : (g : Group) (k : ℕ) (o : Opening) → Good g → Good (open_does g k o).group
unfolding open_does open_refusal refuses opened_record
open_good g k o good = go (eqb (open_refusal g k o) 0) refl
  where
    by : (k : ℕ) → slot_b g.S k ≡ true → find_from g.table o.own g.S ≡ 0
        → Good (put_turn g k (plain_turn (opened_record o) (fresh_element g.N))).group
    by zero s f = absurd (omega (arith, slot_in g.S 0 s))
    by (suc i) s f =
        good_put g i (plain_turn (opened_record o) (fresh_element g.N)) good
        (slot_in g.S (suc i) s).1 (fresh_length g.N (omega (arith, (good_sizes g good).least))) (inr f)

    go : (t : Bool) → eqb (open_refusal g k o) 0 ≡ t
        → Good (cond t (put_turn g k (plain_turn (opened_record o) (fresh_element g.N)))
        (refuses g (open_refusal g k o) [])).group
    go false e = good
    go true e =
        let a = past (not (sizes_ok g)) 0 _ (eqb-true (open_refusal g k o) 0 e) in
        let b = past (not (slot_b g.S k)) 1 _ a.1 in
        let c = past (record_of_all g k).id.opened 9 _ b.1 in
        let d = past (bad_opening o) 11 _ c.1 in
        let x = past (not (link_in o.link)) 12 _ d.1 in
        let y = past (not (active_b g.links o.link)) 5 _ x.1 in
        let z = past (ltb 0 (find_from g.table o.own g.S)) 10 _ y.1 in
        by k (not-false (slot_b g.S k) b.0) (omega (arith, ltb-false 0 (find_from g.table o.own g.S) z.0))

free_good : (g : Group) (k : ℕ) → Good g → Good (free_does g k).group
unfolding free_does free_refusal refuses zero_record
free_good g k good = go (eqb (free_refusal g k) 0) refl
  where
    by : (k : ℕ) → open_b g.S g.table k ≡ true → Good (put_turn g k (plain_turn zero_record (element_in g k))).group
    by zero o = absurd (omega (arith, (open_in g.S g.table 0 o).low))
    by (suc i) o =
        let l = (open_in g.S g.table (suc i) o).high in
        good_put g i (plain_turn zero_record (element_in g (suc i))) good l
        (element_long g.N g.S g.memory (good_sizes g good).whole i l) (inl refl)

    go : (t : Bool) → eqb (free_refusal g k) 0 ≡ t
        → Good (cond t (put_turn g k (plain_turn zero_record (element_in g k))) (refuses g (free_refusal g k) [])).group
    go false e = good
    go true e =
        let a = past (not (sizes_ok g)) 0 _ (eqb-true (free_refusal g k) 0 e) in
        let b = past (not (open_b g.S g.table k)) 1 _ a.1 in
        by k (not-false (open_b g.S g.table k) b.0)

-- whatever its links and gauges
links_good : (g : Group) (ls : Links) → Good g → Good (with_links g ls)
links_good g ls good = record { sizes = good.sizes; apart = good.apart }

-- connections that moved are open and have their own tokens as before
failover_good : (g : Group) (ls : Links) (b : List ℕ) (says : ℕ → Says) (made : Bool) (message : List ℕ) → Good g
    → Good (fails_over g ls b says made message).group
unfolding fails_over
failover_good g ls b says made message good =
    record {
      sizes = ap (λ (k : ℕ). sizes_b g.S g.N (length g.memory) k) (moved_long g.N p g.table) ∙ good.sizes;
      apart = λ i j x y e. good.apart i j (old i x) (old j y) (sym (own i) ∙ e ∙ own j);
    }
  where
    p : Plan
    p = plan_of g.links ls.active

    kept : (i : ℕ) → ButLink (record_of_all g (suc i)) (moved_of g.N p (record_of_all g (suc i)))
    kept i = moved_keeps g.N p (record_of_all g (suc i))

    own : (i : ℕ) → (record_at (moved_all g.N p g.table) (suc i)).id.own ≡ own_of g (suc i)
    own i = ap (λ (c : Record). c.id.own) (moved_at g.N p g.table (suc i)) ∙ (kept i).own

    old : (i : ℕ) → open_b g.S (moved_all g.N p g.table) (suc i) ≡ true → OpenAt g (suc i)
    old i x =
        let w = open_in g.S (moved_all g.N p g.table) (suc i) x in
        open_is g.S g.table (suc i) w.slot
        (sym (ap (λ (c : Record). c.id.opened) (moved_at g.N p g.table (suc i)) ∙ (kept i).opened) ∙ w.is_open)

-- a call on the links, or a refused one
either_good : (g : Group) (ls : Links) (b : List ℕ) (says : ℕ → Says) (made : Bool) (message : List ℕ) (k : ℕ) (t : Bool) → Good g
    → Good (cond t (fails_over g ls b says made message) (refuses g k b)).group
unfolding refuses
either_good g ls b says made message k true good = failover_good g ls b says made message good
either_good g ls b says made message k false good = good

link_good : (g : Group) (l : ℕ) (up : Bool) (b : List ℕ) → Good g → Good (link_does g l up b).group
unfolding link_does
link_good g l up b good = either_good g _ b _ _ _ _ (eqb (link_refusal g b (cond (link_in l) 0 13)) 0) good

message_good : (g : Group) (l : ℕ) (bytes b : List ℕ) → Good g → Good (link_message_does g l bytes b).group
unfolding link_message_does
message_good g l bytes b good = either_good g _ b _ _ _ _ (eqb (link_refusal g b (heard_of (links_of g) l bytes).refusal) 0) good

send_good : (g : Group) (l : ℕ) (k : Kind) (vs b : List ℕ) → Good g → Good (link_send_does g l k vs b).group
unfolding link_send_does
send_good g l k vs b good = either_good g _ b _ _ _ _ (eqb (link_refusal g b (sent_of (links_of g) l k vs).refusal) 0) good

sample_good : (g : Group) (l ms : ℕ) → Good g → Good (sample_does g l ms).group
unfolding sample_does refuses
sample_good g l ms good = go (eqb (sample_refusal g.links l ms) 0)
  where
    q : Gauge
    q = sampled_of (gauge_at g.gauges l) ms

    go : (t : Bool)
        → Good (cond t (record { answer = healthy q; group = with_links g (gauge_set (links_of g) l q) }) (refuses g (sample_refusal g.links l ms) [])).group
    go true = links_good g (gauge_set (links_of g) l q) good
    go false = good

pub manage_good : (g : Group) (d : Management) → Good g → Good (next g (manage d))
manage_good g (open_slot k o) good = open_good g k o good
manage_good g (free_slot k) good = free_good g k good
manage_good g (link_change l up b) good = link_good g l up b good
manage_good g (link_message l bytes b) good = message_good g l bytes b good
manage_good g (link_send l k vs b) good = send_good g l k vs b good
manage_good g (sample l ms) good = sample_good g l ms good

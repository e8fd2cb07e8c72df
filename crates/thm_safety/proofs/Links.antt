-- The claims of specs/Links. Assumes nothing.
use Prim.Native.Nat.{ℕ, ◌≤◌}
use mathlib.Core.Path.{◌≡◌, refl, sym, ap, ◌∙◌, subst}
use mathlib.Core.Logic.{◌⊎◌, inl, inr}
use mathlib.Core.Bool.{Bool, true, false, cond}
use mathlib.Core.List.{List, [], ◌∷◌}
use lib.Dec.{leb, eqb}
use borrow.Author.Tests.{eqb-false}
use Rattle.cdc.specs.declared.Decoded.{Decoded}
use Rattle.cdc.specs.declared.Decoded.TheVariants.{Good, Malformed}
use Rattle.cdc.specs.Cdc.{decode_of}
use Rattle.link_message.specs.declared.Kind.TheVariants.{ConfirmLink}
use Rattle.link_exchange.specs.declared.Role.{Role}
use Rattle.link_exchange.specs.declared.Exchange.{Exchange}
use Rattle.link_exchange.specs.declared.Queue.{Queue}
use Rattle.link_exchange.specs.declared.Said.{Said}
use Rattle.link_exchange.specs.declared.Touch.{Touch}
use Rattle.link_exchange.specs.Exchange.{no_exchange, next_stage, went_on}
use Rattle.group_table.specs.declared.Links.{Links}
use Rattle.group_table.specs.Table.{open_b, link_in}
use Rattle.link_calls.specs.Calls.{unchanged, changed_of, heard_of, sent_of}
use Rattle.thm_links.specs.Statements as Link
use Rattle.thm_links.specs.Statements.{Call as LinkCall}
use Rattle.thm_links.specs.Course.{Begins, Course, stays, goes_on, ends, begins, replaced, adding, deleting, confirming, confirming_more, withdrawing}
use Rattle.thm_links.proofs.Course.{one_exchange}
use Rattle.thm_links.proofs.Theorems.{refused_keeps, at_most_four}
use Rattle.group_rules.specs.Rules.{Group, open_slot, free_slot, link_change, link_message, link_send, sample, Call, on, hear, manage, Turn, Done, does, refuses, put_turn, out_of, sizes_ok, on_does, hear_at, hear_message, hear_does, open_refusal, open_does, free_refusal, free_does, lent_ok, link_refusal, fails_over, link_does, link_message_does, link_send_does, sample_refusal, sample_does, Says, links_of, with_links, group_of, next}
use native.Mathlib.Omega.{arith}
use Rattle.conn_record.specs.declared.Record.{Record}
use Rattle.link_failover.specs.Failover.{plan_of, moved_all}
use Rattle.link_failover.proofs.Still.{still_moved, same_still}
use Rattle.thm_order.specs.Statement.{leaves}
use Rattle.thm_safety.specs.Links.{call_of, relinked, LinkCallsLeave, KeepsLinks, OthersKeep, Other, SameButExchange, ExchangeUnread, AlwaysOne}
use Rattle.thm_safety.proofs.Effects.{Effect, refuses_it, links_it, samples_it, puts_turn, effect}

-- 1. what is left, refused or not: links that are as they were move nothing
still_here : (g : Group) (ls : Links) → ls ≡ links_of g
    → group_of g.S g.N (moved_all g.N (plan_of g.links ls.active) g.table) ls g.memory ≡ g
still_here g ls e =
    ap (λ (l : Links). group_of g.S g.N (moved_all g.N (plan_of g.links l.active) g.table) l g.memory) e
    ∙ ap (λ (t : List Record). group_of g.S g.N t (links_of g) g.memory)
    (sym (still_moved (plan_of g.links g.links) g.N g.table (same_still g.links)))

either_left : (g : Group) (b : List ℕ) (ls : Links) (says : ℕ → Says) (made : Bool) (message : List ℕ) (j : ℕ)
    → (eqb j 0 ≡ false → ls ≡ links_of g) → (ok : Bool) → lent_ok g b ≡ ok
    → (cond (eqb (cond ok j 1) 0) (fails_over g ls b says made message) (refuses g (cond ok j 1) b)).group
    ≡ cond ok (group_of g.S g.N (moved_all g.N (plan_of g.links ls.active) g.table) ls g.memory) g
unfolding refuses fails_over
either_left g b ls says made message j h false e = refl
either_left g b ls says made message j h true e = go (eqb j 0) refl
  where
    go : (t : Bool) → eqb j 0 ≡ t
        → (cond t (fails_over g ls b says made message) (refuses g j b)).group
        ≡ group_of g.S g.N (moved_all g.N (plan_of g.links ls.active) g.table) ls g.memory
    go true f = refl
    go false f = sym (still_here g ls (h f))

change_kept : (ls : Links) (l : ℕ) (up : Bool) → eqb (cond (link_in l) 0 13) 0 ≡ false → (changed_of ls l up).after ≡ ls
unfolding changed_of unchanged
change_kept ls l up = go (link_in l) refl
  where
    go : (t : Bool) → link_in l ≡ t → eqb (cond t 0 13) 0 ≡ false → (changed_of ls l up).after ≡ ls
    go true f e = let z : ◌≡◌ {A = ℕ} 0 1 = cc in absurd (omega arith)
    go false f e = rw f

pub link_calls_leave : LinkCallsLeave
unfolding link_refusal link_does link_message_does link_send_does
link_calls_leave g (LinkCall.change l up) b =
    either_left g b (changed_of (links_of g) l up).after _ _ _ (cond (link_in l) 0 13) (change_kept (links_of g) l up) (lent_ok g b) refl
link_calls_leave g (LinkCall.message l bytes) b =
    let r = (heard_of (links_of g) l bytes).refusal in
    either_left g b (heard_of (links_of g) l bytes).settled.after _ _ _ r
    (λ e. (refused_keeps (links_of g) l bytes ConfirmLink []).0.kept (eqb-false r 0 e)) (lent_ok g b) refl
link_calls_leave g (LinkCall.send l k vs) b =
    let r = (sent_of (links_of g) l k vs).refusal in
    either_left g b (sent_of (links_of g) l k vs).settled.after _ _ _ r
    (λ e. (refused_keeps (links_of g) l [] k vs).1.kept (eqb-false r 0 e)) (lent_ok g b) refl

-- 2. who leaves them
pub others_keep : OthersKeep
unfolding refuses put_turn
others_keep g c = go (does g c) (effect g c)
  where
    go : (x : Done) → Effect g c x → KeepsLinks g x.group ⊎ ((k : LinkCall) × (b : List ℕ) × (c ≡ call_of k b))
    go x (refuses_it n h e) = inl (rw e (record { same_links = refl; same_role = refl; same_exchange = refl; same_queue = refl }))
    go x (links_it k b p a e) = inr (k, b, p)
    go x (samples_it l ms p z e) = inl (rw e (record { same_links = refl; same_role = refl; same_exchange = refl; same_queue = refl }))
    go x (puts_turn k t s a e) = inl (rw e (record { same_links = refl; same_role = refl; same_exchange = refl; same_queue = refl }))

-- 3. who does not read them
record Alike (x y : Done) : Type 0 where
  said : x.answer ≡ y.answer
  left : SameButExchange x.group y.group

by_test : (t : Bool) (x y u v : Done) → Alike x y → Alike u v → Alike (cond t x u) (cond t y v)
by_test true x y u v h k = h
by_test false x y u v h k = k

module _ (g : Group) (r : Role) (e : Exchange) (w : Queue) where
  -- the group with another role, exchange and queue
  abbrev other : Group
  other = with_links g (record { active = g.links; gauges = g.gauges; role = r; exchange = e; queue = w })

  same : SameButExchange g other
  same = record { same_S = refl; same_N = refl; same_table = refl; same_links = refl; same_gauges = refl; same_memory = refl }

  refused : (n : ℕ) (out : List ℕ) → Alike (refuses g n out) (refuses other n out)
  unfolding refuses
  refused n out = record { said = refl; left = same }

  turned : (k : ℕ) (t : Turn) → Alike (put_turn g k t) (put_turn other k t)
  unfolding put_turn
  turned k t =
      record {
        said = refl;
        left = record { same_S = refl; same_N = refl; same_table = refl; same_links = refl; same_gauges = refl; same_memory = refl };
      }

  heard : (d : Decoded) → Alike (hear_message g d) (hear_message other d)
  unfolding hear_at
  heard (Good m) = search (by_test, refused, turned)
  heard Malformed = refused 4 []

  alike : (c : Call) → Other c → Alike (does g c) (does other c)
  unfolding on_does hear_does open_refusal open_does free_refusal free_does sample_does
  alike (on k q) d =
      by_test (sizes_ok g) _ _ _ _ (by_test (open_b g.S g.table k) _ _ _ _ (turned k _) (refused 2 (out_of q))) (refused 1 (out_of q))
  alike (hear b) d = by_test (sizes_ok g) _ _ _ _ (heard (decode_of b)) (refused 1 [])
  alike (manage (open_slot k o)) d = by_test (eqb (open_refusal g k o) 0) _ _ _ _ (turned k _) (refused (open_refusal g k o) [])
  alike (manage (free_slot k)) d = by_test (eqb (free_refusal g k) 0) _ _ _ _ (turned k _) (refused (free_refusal g k) [])
  alike (manage (link_change l up b)) d = absurd d
  alike (manage (link_message l bytes b)) d = absurd d
  alike (manage (link_send l k vs b)) d = absurd d
  alike (manage (sample l ms)) d =
      by_test (eqb (sample_refusal g.links l ms) 0) _ _ _ _
      (record {
        said = refl;
        left = record { same_S = refl; same_N = refl; same_table = refl; same_links = refl; same_gauges = refl; same_memory = refl };
      })
      (refused (sample_refusal g.links l ms) [])

pub exchange_unread : ExchangeUnread
exchange_unread g h c d s = rw (sym is) (a.said, a.left)
  where
    is : other g h.role h.exchange h.queue ≡ h
    is =
        λ i.
        record {
          S = s.same_S i;
          N = s.same_N i;
          table = s.same_table i;
          links = s.same_links i;
          gauges = s.same_gauges i;
          role = h.role;
          exchange = h.exchange;
          queue = h.queue;
          memory = s.same_memory i;
        }

    a : Alike (does g c) (does (other g h.role h.exchange h.queue) c)
    a = alike g h.role h.exchange h.queue c d

-- 4. one at a time, from a fresh group on
no_more_than : (b : Bool) (x y : ℕ) → x ≤ 11 → y ≤ 11 → cond b x y ≤ 11
no_more_than true x y h i = h
no_more_than false x y h i = i

next_most : (x : Exchange) (m : Said) → next_stage x m ≤ 11
unfolding next_stage
next_most x m =
    no_more_than (eqb x.stage 1) _ _ (no_more_than m.z 0 2 (omega arith) (omega arith))
    (no_more_than (eqb x.stage 2) _ _ (no_more_than (eqb m.kind 0x03) 3 4 (omega arith) (omega arith))
    (no_more_than (eqb x.stage 3) 2 _ (omega arith)
    (no_more_than (eqb x.stage 7) _ _ (no_more_than m.z 0 8 (omega arith) (omega arith))
    (no_more_than (eqb x.stage 8) _ _ (no_more_than (leb m.num 3) 9 10 (omega arith) (omega arith))
    (no_more_than (eqb x.stage 10) _ 0 (no_more_than m.z 0 8 (omega arith) (omega arith)) (omega arith))))))

on_stage : (x : Exchange) (m : Said) → (went_on x m).stage ≤ 11
unfolding went_on
on_stage x m = go (eqb (next_stage x m) 0) (next_stage x m) (next_most x m)
  where
    go : (b : Bool) (n : ℕ) → n ≤ 11 → (cond b no_exchange (record { stage = n; v = x.v; w = x.w })).stage ≤ 11
    go true n h = omega arith
    go false n h = h

begin_stage : (l : ℕ) (m : Said) (x : Exchange) → Begins l m x → x.stage ≤ 11
begin_stage l m x (adding i) = omega arith
begin_stage l m x (deleting i) = omega arith
begin_stage l m x (confirming i j) = omega arith
begin_stage l m x (confirming_more i j) = omega arith
begin_stage l m x (withdrawing i) = omega arith

course_stage : (g : Links) (c : LinkCall) (t : Touch) (x : Exchange) → Course g c t x → g.exchange.stage ≤ 11 → x.stage ≤ 11
course_stage g c t x stays h = h
course_stage g c t x (goes_on l m o d) h = on_stage g.exchange m
course_stage g c t x (ends d) h = omega arith
course_stage g c t x (begins l m y o z b) h = begin_stage l m y b
course_stage g c t x (replaced l m o s i) h = omega arith

-- what a call on links makes of exchange and queue; where 1 refuses it, nothing
link_course : (g : Group) (k : LinkCall) (b : List ℕ)
    → Course (links_of g) k (Link.does (links_of g) k).touch (next g (call_of k b)).exchange
link_course g k b = rw (ap (λ (h : Group). h.exchange) (link_calls_leave g k b)) (go (lent_ok g b))
  where
    go : (ok : Bool) → Course (links_of g) k (Link.does (links_of g) k).touch (cond ok (relinked g k) g).exchange
    go true = one_exchange (links_of g) k
    go false = stays

link_waits : (g : Group) (k : LinkCall) (b : List ℕ) → g.queue.count ≤ 4 → (next g (call_of k b)).queue.count ≤ 4
link_waits g k b h = rw (ap (λ (w : Group). w.queue) (link_calls_leave g k b)) (go (lent_ok g b))
  where
    go : (ok : Bool) → (cond ok (relinked g k) g).queue.count ≤ 4
    go true = at_most_four (links_of g) k h
    go false = h

record Bounds (g : Group) : Type 0 where
  waits : g.queue.count ≤ 4
  stage : g.exchange.stage ≤ 11

call_bounds : (g : Group) (c : Call) → Bounds g → Bounds (next g c)
call_bounds g c w = go (others_keep g c)
  where
    go : KeepsLinks g (next g c) ⊎ ((k : LinkCall) × (b : List ℕ) × (c ≡ call_of k b)) → Bounds (next g c)
    go (inl e) =
        record {
          waits = rw (ap (λ (q : Queue). q.count) e.same_queue) w.waits;
          stage = rw (ap (λ (x : Exchange). x.stage) e.same_exchange) w.stage;
        }
    go (inr (k, b, p)) =
        subst (λ (d : Call). Bounds (next g d)) (sym p)
        (record {
          waits = link_waits g k b w.waits;
          stage = course_stage (links_of g) k (Link.does (links_of g) k).touch (next g (call_of k b)).exchange (link_course g k b) w.stage;
        })

list_bounds : (cs : List Call) (g : Group) → Bounds g → Bounds (leaves g cs)
unfolding leaves
list_bounds [] g w = w
list_bounds (c ∷ cs) g w = list_bounds cs (next g c) (call_bounds g c w)

pub always_one : AlwaysOne
always_one g f cs =
    let w = list_bounds cs g (record { waits = omega (arith, f.none); stage = omega (arith, f.idle) }) in
    record { most_wait = w.waits; stages = w.stage; course = link_course (leaves g cs) }

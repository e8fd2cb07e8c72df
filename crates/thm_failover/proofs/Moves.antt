-- What moves, by the page's words and by failover's definitions; claims 1 and 3 of specs/Resilience, but for link send. Assumes nothing.
use Prim.Native.Nat.{ℕ, zero, suc, ◌≤◌, ◌<◌}
use mathlib.Core.Path.{◌≡◌, refl, sym, ap, ◌∙◌, subst}
use mathlib.Core.Logic.{◌⊎◌, inl, inr}
use mathlib.Core.Bool.{Bool, true, false, false≢true, ◌&&◌, ◌||◌, not, cond}
use mathlib.Core.List.{List}
use native.Mathlib.Omega.{arith}
use lib.Dec.{ltb}
use lib.ListN.{length}
use Rattle.conn_record.specs.declared.Record.{Record}
use Rattle.conn_record.specs.Connection.{zero_record, coherent_b}
use Rattle.group_table.specs.Table.{active_b, record_at, open_b}
use Rattle.link_failover.specs.Failover.{target_of, plan_of, gone_b, moves_b, link_to, moved_of}
use Rattle.thm_links.specs.Statements.{Call as LinkCall}
use Rattle.group_rules.specs.Rules.{Group, Call, open_slot, free_slot, link_change, link_message, link_send, sample, on, hear, manage, next, record_of_all}
use Rattle.group_rules.specs.Rules.{link_of, sizes_ok, lent_ok}
use Rattle.thm_order.proofs.Slots.{slot_is, open_in, open_is, open_there, sizes_in}
use Rattle.thm_order.proofs.Records.{and_both}
use Rattle.thm_safety.specs.Links.{call_of, relinked, Other, KeepsLinks}
use Rattle.thm_safety.proofs.Links.{link_calls_leave, others_keep}
use Rattle.thm_safety.proofs.Failing.{only_the_link}
use Rattle.thm_changes.specs.Changes.{aside_of}
use Rattle.thm_changes.proofs.Changes.{one_record}
use Rattle.thm_failover.specs.Resilience.{gone_in, Target, any_active, moves_in, NoneBehind, SameButLink, OnlyLinks, OnlyTheLink}
use Rattle.thm_failover.specs.Resilience.{OthersOne}

-- THE TARGET
module _ (h : Group) where
  abbrev l : List Bool
  l = h.links

  pub any_target : ltb 0 (target_of l) ≡ any_active h
  unfolding target_of
  any_target = go (active_b l 1) (active_b l 2) (active_b l 3) (active_b l 4)
    where
      go : (a b c d : Bool) → ltb 0 (cond a 1 (cond b 2 (cond c 3 (cond d 4 0)))) ≡ a || (b || (c || d))
      go true b c d = refl
      go false true c d = refl
      go false false true d = refl
      go false false false true = refl
      go false false false false = refl

  none_at_0 : active_b l 0 ≡ false
  unfolding active_b
  none_at_0 = refl

  -- the links before a number
  below : (P : ℕ → Type 0) (n : ℕ) → n ≤ 4 → P 0 → (1 < n → P 1) → (2 < n → P 2) → (3 < n → P 3) → (j : ℕ) → j < n → P j
  below P n m z a b c zero k = z
  below P n m z a b c (suc zero) k = a k
  below P n m z a b c (suc (suc zero)) k = b k
  below P n m z a b c (suc (suc (suc zero))) k = c k
  below P n m z a b c (suc (suc (suc (suc j)))) k = absurd (omega (arith, k, m))

  pub target_is : any_active h ≡ true → Target h (target_of l)
  unfolding target_of
  target_is e = go (active_b l 1) (active_b l 2) (active_b l 3) (active_b l 4) refl refl refl refl e
    where
      go : (a b c d : Bool) → active_b l 1 ≡ a → active_b l 2 ≡ b → active_b l 3 ≡ c → active_b l 4 ≡ d → a || (b || (c || d)) ≡ true
          → Target h (cond a 1 (cond b 2 (cond c 3 (cond d 4 0))))
      go true b c d p q r s t =
          record {
            one_of_four = refl;
            is_active = p;
            lowest =
                below (λ j. active_b l j ≡ false) 1 (omega arith) none_at_0 (λ k. absurd (omega (arith, k))) (λ k. absurd (omega (arith, k)))
                (λ k. absurd (omega (arith, k)));
          }
      go false true c d p q r s t =
          record {
            one_of_four = refl;
            is_active = q;
            lowest =
                below (λ j. active_b l j ≡ false) 2 (omega arith) none_at_0 (λ k. p) (λ k. absurd (omega (arith, k)))
                (λ k. absurd (omega (arith, k)));
          }
      go false false true d p q r s t =
          record {
            one_of_four = refl;
            is_active = r;
            lowest = below (λ j. active_b l j ≡ false) 3 (omega arith) none_at_0 (λ k. p) (λ k. q) (λ k. absurd (omega (arith, k)));
          }
      go false false false true p q r s t =
          record {
            one_of_four = refl;
            is_active = s;
            lowest = below (λ j. active_b l j ≡ false) 4 (omega arith) none_at_0 (λ k. p) (λ k. q) (λ k. r);
          }
      go false false false false p q r s t = absurd (false≢true t)

-- in a table of S records an open record is that of an open slot
pub open_same : (g : Group) → sizes_ok g ≡ true → (k : ℕ) → (record_of_all g k).id.opened ≡ open_b g.S g.table k
unfolding zero_record record_at
open_same g ok zero = sym (shut (open_b g.S g.table 0) refl)
  where
    shut : (b : Bool) → open_b g.S g.table 0 ≡ b → b ≡ false
    shut true e = absurd (omega (arith, (open_in g.S g.table 0 e).low))
    shut false e = refl
open_same g ok (suc i) = go (record_of_all g (suc i)).id.opened (open_b g.S g.table (suc i)) refl refl
  where
    many : length g.table ≡ g.S
    many = (sizes_in g.S g.N (length g.memory) (length g.table) ok).counted

    go : (a b : Bool) → (record_of_all g (suc i)).id.opened ≡ a → open_b g.S g.table (suc i) ≡ b → a ≡ b
    go true true e f = refl
    go false false e f = refl
    go false true e f = sym e ∙ (open_in g.S g.table (suc i) f).is_open
    go true false e f =
        let h = open_there g.table i e in
        sym (sym f ∙ open_is g.S g.table (suc i) (slot_is g.S (suc i) (omega arith) (omega (arith, h, many))) e)

-- WHAT MOVES
pub moves_same : (g h : Group) → sizes_ok g ≡ true → (k : ℕ) → moves_b g.N (plan_of g.links h.links) (record_of_all g k) ≡ moves_in g h k
unfolding moves_b gone_b plan_of
moves_same g h ok k =
    (λ i. (any_target h i && (open_same g ok k i && gone_in g h (record_of_all g k).id.link)) && coherent_b g.N (record_of_all g k))
    ∙ turn (any_active h) (open_b g.S g.table k) (gone_in g h (record_of_all g k).id.link) (coherent_b g.N (record_of_all g k))
  where
    turn : (a o x c : Bool) → (a && (o && x)) && c ≡ a && (o && (c && x))
    turn false o x c = refl
    turn true false x c = refl
    turn true true false false = refl
    turn true true false true = refl
    turn true true true false = refl
    turn true true true true = refl

-- none is gone where the links stay
none_gone : (g : Group) (j : ℕ) → gone_in g g j ≡ false
none_gone g j = off (active_b g.links j)
  where
    off : (x : Bool) → x && not x ≡ false
    off true = refl
    off false = refl

all_false : (a o c x : Bool) → x ≡ false → a && (o && (c && x)) ≡ false
all_false false o c x e = refl
all_false true false c x e = refl
all_false true true false x e = refl
all_false true true true x e = e

pub none_moves : (g : Group) (k : ℕ) → moves_in g g k ≡ false
none_moves g k =
    all_false (any_active g) (open_b g.S g.table k) (coherent_b g.N (record_of_all g k)) (gone_in g g (record_of_all g k).id.link)
    (none_gone g (record_of_all g k).id.link)

-- the three calls leave the group as it was, or have tested its sizes
pub lent_cases : (g : Group) (c : LinkCall) (b : List ℕ) → (next g (call_of c b) ≡ g) ⊎ (lent_ok g b ≡ true)
lent_cases g c b = go (lent_ok g b) refl
  where
    go : (t : Bool) → lent_ok g b ≡ t → (next g (call_of c b) ≡ g) ⊎ (lent_ok g b ≡ true)
    go true e = inr e
    go false e = inl (link_calls_leave g c b ∙ ap (λ (t : Bool). cond t (relinked g c) g) e)

-- 3. ONLY THE LINK
module _ (g h : Group) (k : ℕ) (is : record_of_all h k ≡ moved_of g.N (plan_of g.links h.links) (record_of_all g k))
    (ok : sizes_ok g ≡ true) where
  record_stays : moves_in g h k ≡ false → record_of_all h k ≡ record_of_all g k
  unfolding moved_of
  record_stays e =
      is
      ∙ ap (λ (t : Bool). cond t (link_to (record_of_all g k) (plan_of g.links h.links).target) (record_of_all g k)) (moves_same g h ok k ∙ e)

  record_moves : moves_in g h k ≡ true → SameButLink (record_of_all g k) (record_of_all h k) × Target h (record_of_all h k).id.link
  unfolding moved_of plan_of
  record_moves e = (same, subst (Target h) (sym (ap (λ (c : Record). c.id.link) there)) (target_is h (and_both (any_active h) _ e).0))
    where
      there : record_of_all h k ≡ link_to (record_of_all g k) (target_of h.links)
      there = is ∙ ap (λ (t : Bool). cond t (link_to (record_of_all g k) (target_of h.links)) (record_of_all g k)) (moves_same g h ok k ∙ e)

      same : SameButLink (record_of_all g k) (record_of_all h k)
      same =
          record {
            same_open = ap (λ (c : Record). c.id.opened) there;
            same_own = ap (λ (c : Record). c.id.own) there;
            same_peer = ap (λ (c : Record). c.id.peer) there;
            same_remote = ap (λ (c : Record). c.remote) there;
            same_inbound = ap (λ (c : Record). c.inbound) there;
            same_outbound = ap (λ (c : Record). c.outbound) there;
            same_marks = ap (λ (c : Record). c.marks) there;
          }

active_stays : (g h : Group) (k : ℕ) → active_b h.links (record_of_all g k).id.link ≡ true → moves_in g h k ≡ false
active_stays g h k e =
    all_false (any_active h) (open_b g.S g.table k) (coherent_b g.N (record_of_all g k)) (gone_in g h (record_of_all g k).id.link)
    (off (active_b g.links (record_of_all g k).id.link) (active_b h.links (record_of_all g k).id.link) e)
  where
    off : (x y : Bool) → y ≡ true → x && not y ≡ false
    off true y e = ap not e
    off false y e = refl

pub only_links : OnlyTheLink
only_links g c b = go (lent_cases g c b)
  where
    h : Group
    h = next g (call_of c b)

    go : (next g (call_of c b) ≡ g) ⊎ (lent_ok g b ≡ true) → OnlyLinks g (next g (call_of c b))
    go (inl e) =
        subst (OnlyLinks g) (sym e)
        (record {
          moves = λ k m. absurd (false≢true (sym (none_moves g k) ∙ m));
          stays = λ k m. refl;
          still_active = λ k a. refl;
          same_S = refl;
          same_N = refl;
          as_many = refl;
          same_memory = refl;
        })
    go (inr t) =
        let o = only_the_link g c b in
        let ok = (and_both (sizes_ok g) _ t).0 in
        record {
          moves = λ k m. record_moves g h k (o.each k) ok m;
          stays = λ k m. record_stays g h k (o.each k) ok m;
          still_active = λ k a. record_stays g h k (o.each k) ok (active_stays g h k a);
          same_S = o.same_S;
          same_N = o.same_N;
          as_many = o.as_many;
          same_memory = o.same_memory;
        }

-- 1. NONE LEFT BEHIND
pub none_left_behind : NoneBehind
none_left_behind g c b k t o ok w = go (active_b h.links (record_of_all g k).id.link) refl
  where
    h : Group
    h = next g (call_of c b)

    moves : (a o x y z : Bool) → a ≡ true → o ≡ true → x ≡ true → y ≡ true → z ≡ false → a && (o && (x && (y && not z))) ≡ true
    moves a o x y z e f g h i = simp (e, f, g, h, i)

    go : (s : Bool) → active_b (next g (call_of c b)).links (record_of_all g k).id.link ≡ s → link_of (next g (call_of c b)) k ≡ true
    go true e = ap (λ (r : Record). active_b h.links r.id.link) ((only_links g c b).still_active k e) ∙ e
    go false e =
        ((only_links g c b).moves k
        (moves (any_active h) (open_b g.S g.table k) (coherent_b g.N (record_of_all g k)) (link_of g k)
        (active_b h.links (record_of_all g k).id.link) t o ok w e)
        ).1.is_active

-- EVERY OTHER CALL
pub others_one : OthersOne
others_one g c o =
    record { one_record = λ k d. (one_record g c).others k d ∙ aside c o (record_of_all g k); same_links = links (others_keep g c) }
  where
    aside : (z : Call) → Other z → (r : Record) → aside_of g z r ≡ r
    aside (on k q) o r = refl
    aside (hear b) o r = refl
    aside (manage (open_slot k given)) o r = refl
    aside (manage (free_slot k)) o r = refl
    aside (manage (link_change l up b)) o r = absurd o
    aside (manage (link_message l bytes b)) o r = absurd o
    aside (manage (link_send l k vs b)) o r = absurd o
    aside (manage (sample l ms)) o r = refl

    none : (k : LinkCall) (b : List ℕ) → Other (call_of k b) → ⊥
    none (LinkCall.change l up) b z = z
    none (LinkCall.message l bytes) b z = z
    none (LinkCall.send l k vs) b z = z

    links : KeepsLinks g (next g c) ⊎ ((k : LinkCall) × (b : List ℕ) × (c ≡ call_of k b)) → (next g c).links ≡ g.links
    links (inl k) = k.same_links
    links (inr w) = absurd (none w.0 w.1 (subst Other w.2 o))

-- A connection call refuses, or puts back one turn of the slot on which it acts. "Who sees what" follows. Assumes nothing.
use mathlib.Core.Path.{◌≡◌, refl, sym, ap, ◌∙◌, subst₂}
use mathlib.Core.Logic.{inl, inr}
use mathlib.Core.Bool.{Bool, true, false, false≢true, ◌&&◌, cond}
use mathlib.Core.List.{List, []}
use Prim.Native.Nat.{ℕ, zero, suc, ◌*◌, ◌<◌}
use native.Mathlib.Omega.{arith}
use lib.Dec.{eqb, eqb-suc-zero}
use lib.ListN.{length}
use Rattle.cdc.specs.declared.Message.{Message}
use Rattle.cdc.specs.declared.Decoded.{Decoded}
use Rattle.cdc.specs.declared.Decoded.TheVariants.{Good, Malformed}
use Rattle.cdc.specs.Cdc.{decode_of}
use Rattle.conn_record.specs.declared.Record.{Record}
use Rattle.conn_record.specs.Connection.{zero_record}
use Rattle.conn_answer.specs.Outcome.{no_message}
use Rattle.group_table.specs.Table.{slot_b, record_at, open_b, active_b, find_from}
use Rattle.group_rules.specs.Rules.{Group, Request, Call, on, hear, manage, refusal, Answer, Turn, Done, does, answer, next, refuses, out_of, sizes_ok, record_of_all, element_in, link_of, put_turn, on_does, hear_does, hear_message, hear_at, holder_of}
use Rattle.thm_order.specs.Statement.{hearer, ActsOn, SameSlot, Agree, WhoSeesWhat}
use Rattle.thm_order.proofs.Records.{Left, turn_by, left_by, long_by}
use Rattle.thm_order.proofs.Slots.{no_slot, open_in, open_there, found_open, open_found, sizes_in, element_long, Put, put}

-- connection calls
abbrev pub Conn : Call → Type 0
Conn (on s q) = Unit {0}
Conn (hear b) = Unit {0}
Conn (manage d) = ⊥

-- the slot on which a connection call acts; 0: none, and it is refused
abbrev pub target : Group → Call → ℕ
target g (on k q) = cond (open_b g.S g.table k) k 0
target g (hear b) = hearer g (decode_of b)
target g (manage d) = 0

-- the refusal's number there
abbrev heard_number : Decoded → ℕ
heard_number (Good m) = 5
heard_number Malformed = 4

abbrev number_by : Call → ℕ
number_by (on s q) = 2
number_by (hear b) = heard_number (decode_of b)
number_by (manage d) = 0

abbrev out_by : Call → List ℕ
out_by (on s q) = out_of q
out_by (hear b) = []
out_by (manage d) = []

abbrev pub refusal_by : Call → Answer
refusal_by c = record { says = refusal (number_by c); made = false; message = no_message; out = out_by c }

abbrev pub turn_at_of : Group → ℕ → Call → Turn
turn_at_of g k c = turn_by g.N (link_of g k) (record_of_all g k) (element_in g k) c

abbrev pub act_at : Group → Call → ℕ → Done
act_at g c zero = refuses g (number_by c) (out_by c)
act_at g c (suc i) = put_turn g (suc i) (turn_at_of g (suc i) c)

on_acts : (g : Group) (k : ℕ) (q : Request) (t : Bool) → open_b g.S g.table k ≡ t
    → cond t (put_turn g k (turn_at_of g k (on k q))) (refuses g 2 (out_of q)) ≡ act_at g (on k q) (cond t k 0)
on_acts g zero q true e = absurd (false≢true (sym (no_slot g.S) ∙ (open_in g.S g.table 0 e).slot))
on_acts g (suc i) q true e = refl
on_acts g k q false e = refl

hear_acts : (g : Group) (b : List ℕ) (d : Decoded) → decode_of b ≡ d → hear_message g d ≡ act_at g (hear b) (hearer g d)
unfolding hear_at
hear_acts g b (Good m) e = go (holder_of g m.token)
  where
    go : (k : ℕ) → hear_at g m k ≡ act_at g (hear b) k
    go zero = rw e
    go (suc i) = rw (e, eqb-suc-zero i)
hear_acts g b Malformed e = rw e

pub acts : (g : Group) (c : Call) → Conn c → sizes_ok g ≡ true → does g c ≡ act_at g c (target g c)
unfolding on_does hear_does
acts g (on k q) t h = rw h (on_acts g k q (open_b g.S g.table k) refl)
acts g (hear b) t h = rw h (hear_acts g b (decode_of b) refl)
acts g (manage d) t h = absurd t

wrong_sizes : (g : Group) (c : Call) → Conn c → sizes_ok g ≡ false → does g c ≡ refuses g 1 (out_by c)
unfolding on_does hear_does
wrong_sizes g (on k q) t h = rw h
wrong_sizes g (hear b) t h = rw h
wrong_sizes g (manage d) t h = absurd t

-- WHAT A CALL IS MEANT FOR. The slot k, if that is open with the own token t
abbrev pub Names : Decoded → ℕ → Type 0
Names (Good m) t = (eqb m.token 0 ≡ false) × (t ≡ m.token)
Names Malformed t = ⊥

pub names_one : (d : Decoded) (t u : ℕ) → Names d t → Names d u → t ≡ u
names_one (Good m) t u p q = p.1 ∙ sym q.1
names_one Malformed t u p q = absurd p

abbrev pub Aims : Call → ℕ → ℕ → Type 0
Aims (on s q) k t = s ≡ k
Aims (hear b) k t = Names (decode_of b) t
Aims (manage d) k t = ⊥

abbrev pub OpenAt : Group → ℕ → Type 0
OpenAt g k = open_b g.S g.table k ≡ true

abbrev pub own_of : Group → ℕ → ℕ
own_of g k = (record_of_all g k).id.own

-- it acts on a slot that is open and for which it is meant
pub target_open : (g : Group) (c : Call) (i : ℕ) → target g c ≡ suc i → OpenAt g (suc i) × Aims c (suc i) (own_of g (suc i))
target_open g (on k q) i e = go (open_b g.S g.table k) refl e
  where
    go : (t : Bool) → open_b g.S g.table k ≡ t → cond t k 0 ≡ suc i → OpenAt g (suc i) × (k ≡ suc i)
    go true o p = (rw p at o, p)
    go false o p = absurd (omega (arith, p))
target_open g (hear b) i e = go (decode_of b) e
  where
    by : (m : Message) (t : Bool) → eqb m.token 0 ≡ t → cond t 0 (find_from g.table m.token g.S) ≡ suc i
        → OpenAt g (suc i) × Names (Good m) (own_of g (suc i))
    by m true z p = absurd (omega (arith, p))
    by m false z p = let w = found_open g.S g.table m.token i p in (w.0, (z, w.1))

    go : (d : Decoded) → hearer g d ≡ suc i → OpenAt g (suc i) × Names d (own_of g (suc i))
    go (Good m) p = by m (eqb m.token 0) refl p
    go Malformed p = absurd (omega (arith, p))
target_open g (manage d) i e = absurd (omega (arith, e))

-- and on some slot if there is one
pub target_found : (g : Group) (c : Call) (i : ℕ) → OpenAt g (suc i) → Aims c (suc i) (own_of g (suc i)) → (j : ℕ) × (target g c ≡ suc j)
target_found g (on k q) i o a = (i, rw (a, o))
target_found g (hear b) i o a = go (decode_of b) a
  where
    go : (d : Decoded) → Names d (own_of g (suc i)) → (j : ℕ) × (hearer g d ≡ suc j)
    go (Good m) p = let w = open_found g.S g.table i o in (w.0, rw (p.0, ← p.1) w.1)
    go Malformed p = absurd p
target_found g (manage d) i o a = absurd a

-- ONE TURN, of an open slot in a group whose sizes are right.
module _ (g : Group) (c : Call) (i : ℕ) (sizes : sizes_ok g ≡ true) (o : OpenAt g (suc i)) where
  pub whole : length g.memory ≡ g.S * g.N
  whole = (sizes_in g.S g.N (length g.memory) (length g.table) sizes).whole

  pub inside : i < g.S
  inside = (open_in g.S g.table (suc i) o).high

  there : i < length g.table
  unfolding record_at
  there = open_there g.table i (open_in g.S g.table (suc i) o).is_open

  pub turned : Put g i (turn_at_of g (suc i) c) (put_turn g (suc i) (turn_at_of g (suc i) c)).group
  turned =
      put g i (turn_at_of g (suc i) c) whole inside there
      (long_by g.N (link_of g (suc i)) (record_of_all g (suc i)) (element_in g (suc i)) (element_long g.N g.S g.memory whole i inside) c)

  pub turn_left : Left (record_of_all g (suc i)) (turn_at_of g (suc i) c).after
  turn_left = left_by g.N (link_of g (suc i)) (record_of_all g (suc i)) (element_in g (suc i)) c

-- WHO SEES WHAT.
acts_conn : (g : Group) (c : Call) (k : ℕ) → ActsOn g c k → Conn c
acts_conn g (on s q) k a = tt
acts_conn g (hear b) k a = tt
acts_conn g (manage d) k a = absurd a

pub acts_on_lem : (g : Group) (c : Call) (i : ℕ) → target g c ≡ suc i → ActsOn g c (suc i)
acts_on_lem g (on s q) i e = (target_open g (on s q) i e).1
acts_on_lem g (hear b) i e = e
acts_on_lem g (manage d) i e = absurd (omega (arith, e))

-- no call acts on another slot
acts_at : (g : Group) (c : Call) (k i : ℕ) → ActsOn g c k → target g c ≡ suc i → k ≡ suc i
acts_at g (on s q) k i a e = sym a ∙ (target_open g (on s q) i e).1
acts_at g (hear b) k i a e = sym a ∙ e
acts_at g (manage d) k i a e = absurd a

-- what the call did in two groups: equal answers, and the groups still agree
abbrev Alike : ℕ → Done → Done → Type 0
Alike k x y = (x.answer ≡ y.answer) × Agree x.group y.group k

module _ (g h : Group) (k : ℕ) (n : Agree g h k) where
  same_sizes : sizes_ok g ≡ sizes_ok h
  same_sizes = cc (n.same_S, n.same_N, n.same_length, n.same_count)

  pub same_open : open_b g.S g.table k ≡ open_b h.S h.table k
  unfolding open_b
  same_open = go (slot_b g.S k) refl
    where
      go : (t : Bool) → slot_b g.S k ≡ t → slot_b g.S k && (record_of_all g k).id.opened ≡ slot_b h.S k && (record_of_all h k).id.opened
      go true e = let s = n.same_slot e in rw (← n.same_S, e) (ap (λ r. r.id.opened) s.same_record)
      go false e = rw (← n.same_S, e)

  same_target : (c : Call) → ActsOn g c k → ActsOn h c k → target g c ≡ target h c
  same_target (on s q) a b = rw (a, same_open)
  same_target (hear x) a b = a ∙ sym b
  same_target (manage d) a b = absurd a

  refused : (x : ℕ) (out : List ℕ) → Alike k (refuses g x out) (refuses h x out)
  unfolding refuses
  refused x out = (refl, n)

module _ (g h : Group) (c : Call) (i : ℕ) (n : Agree g h (suc i)) (sizes : sizes_ok g ≡ true) (o : OpenAt g (suc i)) where
  o' : OpenAt h (suc i)
  o' = sym (same_open g h (suc i) n) ∙ o

  sizes' : sizes_ok h ≡ true
  sizes' = sym (same_sizes g h (suc i) n) ∙ sizes

  slot : SameSlot g h (suc i)
  slot = n.same_slot (open_in g.S g.table (suc i) o).slot

  same_turn : turn_at_of g (suc i) c ≡ turn_at_of h (suc i) c
  same_turn = λ x. turn_by (n.same_N x) (slot.same_link x) (slot.same_record x) (slot.same_element x) c

  p : Put g i (turn_at_of g (suc i) c) (put_turn g (suc i) (turn_at_of g (suc i) c)).group
  p = turned g c i sizes o

  q : Put h i (turn_at_of h (suc i) c) (put_turn h (suc i) (turn_at_of h (suc i) c)).group
  q = turned h c i sizes' o'

  -- the link that a record names is the one that it named, or, closed, none
  link_left : (r : Record) → Left (record_of_all g (suc i)) r → active_b g.links r.id.link ≡ active_b h.links r.id.link
  unfolding zero_record active_b
  link_left r (inl e) = rw e (slot.same_link ∙ ap (λ z. active_b h.links z.id.link) (sym slot.same_record))
  link_left r (inr e) = rw e

  agree : Agree (put_turn g (suc i) (turn_at_of g (suc i) c)).group (put_turn h (suc i) (turn_at_of h (suc i) c)).group (suc i)
  agree =
      record {
        same_S = p.put_S ∙ n.same_S ∙ sym q.put_S;
        same_N = p.put_N ∙ n.same_N ∙ sym q.put_N;
        same_length = p.put_memory ∙ n.same_length ∙ sym q.put_memory;
        same_count = p.put_table ∙ n.same_count ∙ sym q.put_table;
        same_slot =
            λ e.
            record {
              same_record = p.this_record ∙ ap (λ t. t.after) same_turn ∙ sym q.this_record;
              same_element = p.this_element ∙ ap (λ t. t.element) same_turn ∙ sym q.this_element;
              same_link =
                  (λ x. active_b (p.put_links x).active (p.this_record x).id.link)
                  ∙ link_left (turn_at_of g (suc i) c).after (turn_left g c i sizes o)
                  ∙ (λ x. active_b h.links (same_turn x).after.id.link)
                  ∙ sym (λ x. active_b (q.put_links x).active (q.this_record x).id.link);
            };
      }

  both_turned : Alike (suc i) (put_turn g (suc i) (turn_at_of g (suc i) c)) (put_turn h (suc i) (turn_at_of h (suc i) c))
  unfolding put_turn
  both_turned = (ap (λ t. t.answer) same_turn, agree)

pub sees_what : WhoSeesWhat
sees_what g h c k a b n = go (sizes_ok g) refl
  where
    t : Conn c
    t = acts_conn g c k a

    did : (x y : Done) → does g c ≡ x → does h c ≡ y → Alike k x y → (answer g c ≡ answer h c) × Agree (next g c) (next h c) k
    did x y p q r = subst₂ (λ u v. Alike k u v) (sym p) (sym q) r

    by : (j : ℕ) → target g c ≡ j → sizes_ok g ≡ true → Alike k (act_at g c j) (act_at h c j)
    by zero e s = refused g h k n (number_by c) (out_by c)
    by (suc i) e s = let z = acts_at g c k i a e in rw z (both_turned g h c i (rw z at n) s (target_open g c i e).0)

    go : (s : Bool) → sizes_ok g ≡ s → (answer g c ≡ answer h c) × Agree (next g c) (next h c) k
    go false s =
        did (refuses g 1 (out_by c)) (refuses h 1 (out_by c)) (wrong_sizes g c t s) (wrong_sizes h c t (sym (same_sizes g h k n) ∙ s))
        (refused g h k n 1 (out_by c))
    go true s =
        did (act_at g c (target g c)) (act_at h c (target g c)) (acts g c t s)
        (acts h c t (sym (same_sizes g h k n) ∙ s) ∙ ap (λ j. act_at h c j) (sym (same_target g h k n c a b)))
        (by (target g c) refl s)

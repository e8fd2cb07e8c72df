-- The groups that can be met in one span: what connection calls keep of the group with which it began, and that each call reads and
-- changes its owner's slot alone. Assumes nothing.
use mathlib.Core.Path.{◌≡◌, refl, sym, ap, ◌∙◌, subst}
use mathlib.Core.Logic.{inl, inr, ◌≢◌}
use mathlib.Core.Bool.{Bool, true, false, false≢true, cond}
use mathlib.Core.List.{List, []}
use Prim.Native.Nat.{ℕ, zero, suc, ◌*◌, ◌≤◌}
use native.Mathlib.Decide.{ℕ_discrete}
use native.Mathlib.Omega.{arith}
use lib.ListN.{length}
use lib.Seq.{ext_get_or}
use Rattle.cdc.specs.Cdc.{decode_of}
use Rattle.conn_record.specs.declared.Record.{Record}
use Rattle.conn_record.specs.Connection.{zero_record}
use Rattle.element.specs.Element.{element_of}
use Rattle.group_table.specs.Table.{slot_b, record_at, open_b, active_b}
use Rattle.group_rules.specs.Rules.{Group, Call, on, hear, manage, Done, answer, next, refuses, sizes_ok, record_of_all, element_in, put_turn, links_of, Fresh}
use Rattle.thm_order.specs.Statement.{the_manager, connection, nobody, connection_at, owner_of, SameSlot, Agree}
use Rattle.thm_order.proofs.Records.{Left}
use Rattle.thm_order.proofs.Slots.{no_slot, open_in, open_is, same_memory, sizes_in, Put}
use Rattle.thm_order.proofs.Acts.{Conn, target, refusal_by, turn_at_of, act_at, acts, Aims, names_one, OpenAt, own_of, target_open, target_found, turned, turn_left, acts_on_lem, same_open, sees_what}

-- what holds of every group that calls make from a fresh one
pub record Good (g : Group) : Type 0 where
  pub sizes : sizes_ok g ≡ true
  -- own tokens of open slots differ
  pub apart : (i j : ℕ) → OpenAt g (suc i) → OpenAt g (suc j) → own_of g (suc i) ≡ own_of g (suc j) → i ≡ j

-- a record for each slot
pub enough : (g : Group) → Good g → g.S ≤ length g.table
enough g h = omega (arith, (sizes_in g.S g.N (length g.memory) (length g.table) h.sizes).counted)

-- the group g can be met in a span that began with b
pub record Near (b g : Group) : Type 0 where
  pub good : Good b
  pub kept_S : g.S ≡ b.S
  pub kept_N : g.N ≡ b.N
  pub kept_links : links_of g ≡ links_of b
  pub kept_memory : length g.memory ≡ length b.memory
  pub kept_table : length g.table ≡ length b.table
  -- nothing is opened, and what is open is what it was
  pub kept_open : (i : ℕ) → OpenAt g (suc i) → OpenAt b (suc i) × ((record_of_all g (suc i)).id ≡ (record_of_all b (suc i)).id)

pub near_start : (b : Group) → Good b → Near b b
near_start b h =
    record {
      good = h;
      kept_S = refl;
      kept_N = refl;
      kept_links = refl;
      kept_memory = refl;
      kept_table = refl;
      kept_open = λ i o. (o, refl);
    }

pub fresh_good : (g : Group) → Fresh g → Good g
fresh_good g f =
    record {
      sizes = f.sizes;
      apart = λ i j o p e. absurd (false≢true (sym (f.closed (suc i)) ∙ o));
    }

module _ (b g : Group) (n : Near b g) where
  near_sizes : sizes_ok g ≡ true
  near_sizes = cc (n.kept_S, n.kept_N, n.kept_memory, n.kept_table, n.good.sizes)

  pub near_good : Good g
  near_good =
      record {
        sizes = near_sizes;
        apart =
            λ i j o p e.
            let x = n.kept_open i o in
            let y = n.kept_open j p in
            n.good.apart i j x.0 y.0 (ap (λ r. r.own) (sym x.1) ∙ e ∙ ap (λ r. r.own) y.1);
      }

  -- a turn put back in an open slot
  near_turn : (c : Call) (i : ℕ) → OpenAt g (suc i) → Near b (put_turn g (suc i) (turn_at_of g (suc i) c)).group
  unfolding zero_record
  near_turn c i o =
      record {
        good = n.good;
        kept_S = p.put_S ∙ n.kept_S;
        kept_N = p.put_N ∙ n.kept_N;
        kept_links = p.put_links ∙ n.kept_links;
        kept_memory = p.put_memory ∙ n.kept_memory;
        kept_table = p.put_table ∙ n.kept_table;
        kept_open = λ j x. opened j x (ℕ_discrete j i);
      }
    where
      h : Group
      h = (put_turn g (suc i) (turn_at_of g (suc i) c)).group

      p : Put g i (turn_at_of g (suc i) c) (put_turn g (suc i) (turn_at_of g (suc i) c)).group
      p = turned g c i near_sizes o

      -- an open slot of h, whose record is r, is an open slot of g if r is open there
      was : (j : ℕ) → OpenAt h (suc j) → (record_of_all g (suc j)).id ≡ (record_of_all h (suc j)).id → OpenAt g (suc j)
      was j x e =
          let w = open_in h.S h.table (suc j) x in
          open_is g.S g.table (suc j) (rw p.put_S at w.slot) (ap (λ r. r.opened) e ∙ w.is_open)

      this : OpenAt h (suc i) → Left (record_of_all g (suc i)) (turn_at_of g (suc i) c).after
          → OpenAt b (suc i) × ((record_of_all h (suc i)).id ≡ (record_of_all b (suc i)).id)
      this x (inl e) = let w = n.kept_open i o in (w.0, ap (λ r. r.id) p.this_record ∙ e ∙ w.1)
      this x (inr e) =
          let w = open_in h.S h.table (suc i) x in
          absurd (false≢true (sym (ap (λ r. r.id.opened) (p.this_record ∙ e)) ∙ w.is_open))

      opened : (j : ℕ) → OpenAt h (suc j) → Dec (j ≡ i) → OpenAt b (suc j) × ((record_of_all h (suc j)).id ≡ (record_of_all b (suc j)).id)
      opened j x (no d) =
          let e = ap (λ r. r.id) (p.other_record j d) in
          let w = n.kept_open j (was j x (sym e)) in
          (w.0, e ∙ w.1)
      opened j x (yes z) = rw z (this (rw z at x) (turn_left g c i near_sizes o))

  pub near_next : (c : Call) → Conn c → Near b (next g c)
  unfolding refuses
  near_next c t = subst (λ (d : Done). Near b d.group) (sym (acts g c t near_sizes)) (go (target g c) refl)
    where
      go : (k : ℕ) → target g c ≡ k → Near b (act_at g c k).group
      go zero e = n
      go (suc i) e = near_turn c i (target_open g c i e).0

  -- nothing is opened in a span: where a call acts now, it would have acted when the span began ..
  pub target_began : (c : Call) (i : ℕ) → target g c ≡ suc i → target b c ≡ suc i
  target_began c i e =
      let w = target_open g c i e in
      let o = n.kept_open i w.0 in
      let a = aims i w.0 w.1 in
      let f = target_found b c i o.0 a in
      let x = target_open b c f.0 f.1 in
      f.1 ∙ ap suc (one c f.0 i x.0 o.0 x.1 a)
    where
      aims : (i : ℕ) → OpenAt g (suc i) → Aims c (suc i) (own_of g (suc i)) → Aims c (suc i) (own_of b (suc i))
      aims i o a = subst (λ r. Aims c (suc i) r.own) (n.kept_open i o).1 a

      -- a call is meant for one slot
      one : (c : Call) (i j : ℕ) → OpenAt b (suc i) → OpenAt b (suc j) → Aims c (suc i) (own_of b (suc i)) → Aims c (suc j) (own_of b (suc j)) → i ≡ j
      one (on s q) i j o p x y = omega (arith, x, y)
      one (hear m) i j o p x y = n.good.apart i j o p (names_one (decode_of m) (own_of b (suc i)) (own_of b (suc j)) x y)
      one (manage d) i j o p x y = absurd x

  -- .. and where it would have acted then it acts now, unless the slot was closed since
  pub target_now : (c : Call) (i : ℕ) → target b c ≡ suc i → OpenAt g (suc i) → target g c ≡ suc i
  target_now c i e o =
      let w = target_open b c i e in
      let f = target_found g c i o (subst (λ r. Aims c (suc i) r.own) (sym (n.kept_open i o).1) w.1) in
      f.1 ∙ sym (target_began c f.0 f.1) ∙ e

  pub target_none : (c : Call) → target b c ≡ 0 → target g c ≡ 0
  target_none c e = go (target g c) refl
    where
      go : (k : ℕ) → target g c ≡ k → k ≡ 0
      go zero p = refl
      go (suc i) p = absurd (omega (arith, target_began c i p))

  -- a call that acts on no slot is refused and changes nothing
  pub still : (c : Call) → Conn c → target g c ≡ 0 → (answer g c ≡ refusal_by c) × (next g c ≡ g)
  unfolding refuses
  still c t e =
      let d = acts g c t near_sizes ∙ ap (λ k. act_at g c k) e in
      (ap (λ (x : Done). x.answer) d, ap (λ (x : Done). x.group) d)

-- WHOSE CALL IT IS says on which slot it acts.
owner_target : (b : Group) (c : Call) → Conn c → owner_of b c ≡ connection_at (target b c)
unfolding owner_of
owner_target b (on k q) t = go k (open_b b.S b.table k) refl
  where
    go : (k : ℕ) (t : Bool) → open_b b.S b.table k ≡ t → cond t (connection k) nobody ≡ connection_at (cond t k 0)
    go zero true e = absurd (false≢true (sym (no_slot b.S) ∙ (open_in b.S b.table 0 e).slot))
    go (suc i) true e = refl
    go k false e = refl
owner_target b (hear m) t = refl
owner_target b (manage d) t = absurd t

pub owner_at : (b : Group) (c : Call) (k : ℕ) → Conn c → owner_of b c ≡ connection k → (i : ℕ) × (k ≡ suc i) × (target b c ≡ suc i)
owner_at b c k t e = go (target b c) refl (sym (owner_target b c t) ∙ e)
  where
    go : (j : ℕ) → target b c ≡ j → connection_at j ≡ connection k → (i : ℕ) × (k ≡ suc i) × (target b c ≡ suc i)
    go zero p q = let z : ◌≡◌ {A = ℕ} 0 1 = cc in absurd (omega arith)
    go (suc i) p q = (i, cc, p)

pub owner_none : (b : Group) (c : Call) → Conn c → owner_of b c ≡ nobody → target b c ≡ 0
owner_none b c t e = go (target b c) (sym (owner_target b c t) ∙ e)
  where
    go : (j : ℕ) → connection_at j ≡ nobody → j ≡ 0
    go zero q = refl
    go (suc i) q = let z : ◌≡◌ {A = ℕ} 0 1 = cc in absurd (omega arith)

-- connection calls are not the desk's
pub conn_owner : (b : Group) (c : Call) → Conn c → owner_of b c ≢ the_manager
conn_owner b c t e = go (target b c) (sym (owner_target b c t) ∙ e)
  where
    go : (j : ℕ) → connection_at j ≢ the_manager
    go zero q = let z : ◌≡◌ {A = ℕ} 0 1 = cc in omega arith
    go (suc i) q = let z : ◌≡◌ {A = ℕ} 0 1 = cc in omega arith

-- WHAT BELONGS TO A SLOT: its record and its element. There is no slot 0.
abbrev pub part_of : Group → ℕ → Record × List ℕ
part_of g zero = (zero_record, [])
part_of g (suc i) = (record_of_all g (suc i), element_in g (suc i))

-- in a span a group is its parts
module _ (b g h : Group) (n : Near b g) (m : Near b h) where
  pub same_group : ((k : ℕ) → part_of g k ≡ part_of h k) → g ≡ h
  unfolding record_at
  same_group f =
      λ x.
      record {
        S = (n.kept_S ∙ sym m.kept_S) x;
        N = same_N x;
        table = tables x;
        links = (same_links x).active;
        gauges = (same_links x).gauges;
        role = (same_links x).role;
        exchange = (same_links x).exchange;
        queue = (same_links x).queue;
        memory = memories x;
      }
    where
      same_links : links_of g ≡ links_of h
      same_links = n.kept_links ∙ sym m.kept_links

      same_N : g.N ≡ h.N
      same_N = n.kept_N ∙ sym m.kept_N

      tables : g.table ≡ h.table
      tables = ext_get_or zero_record g.table h.table (n.kept_table ∙ sym m.kept_table) (λ i l. ap (λ z. z.0) (f (suc i)))

      right : length b.memory ≡ b.S * b.N
      right = (sizes_in b.S b.N (length b.memory) (length b.table) n.good.sizes).whole

      memories : g.memory ≡ h.memory
      memories = same_memory g.N b.S g.memory h.memory (rw n.kept_N (n.kept_memory ∙ right)) (rw n.kept_N (m.kept_memory ∙ right))
          (λ i l. ap (λ z. z.1) (f (suc i)) ∙ ap (λ x. element_of x (suc i) h.memory) (sym same_N))

  agree : (k : ℕ) → part_of g k ≡ part_of h k → Agree g h k
  agree k e =
      record {
        same_S = n.kept_S ∙ sym m.kept_S;
        same_N = n.kept_N ∙ sym m.kept_N;
        same_length = n.kept_memory ∙ sym m.kept_memory;
        same_count = n.kept_table ∙ sym m.kept_table;
        same_slot = slot k e;
      }
    where
      slot : (k : ℕ) → part_of g k ≡ part_of h k → slot_b g.S k ≡ true → SameSlot g h k
      slot zero e o = absurd (false≢true (sym (no_slot g.S) ∙ o))
      slot (suc i) e o =
          record {
            same_record = λ x. (e x).0;
            same_element = λ x. (e x).1;
            same_link = λ x. active_b ((n.kept_links ∙ sym m.kept_links) x).active (e x).0.id.link;
          }

-- a call changes no slot but its owner's
pub part_kept : (b g : Group) (c : Call) (k : ℕ) → Near b g → Conn c → owner_of b c ≢ connection k → part_of (next g c) k ≡ part_of g k
part_kept b g c zero n t d = refl
part_kept b g c (suc j) n t d = go (target g c) refl
  where
    go : (k : ℕ) → target g c ≡ k → part_of (next g c) (suc j) ≡ part_of g (suc j)
    go zero e = ap (λ h. part_of h (suc j)) (still b g n c t e).1
    go (suc i) e = ap (λ (x : Done). part_of x.group (suc j)) (acts g c t (near_sizes b g n) ∙ ap (λ k. act_at g c k) e) ∙ (λ x. (p.other_record j other x, p.other_element j other x))
      where
        p : Put g i (turn_at_of g (suc i) c) (put_turn g (suc i) (turn_at_of g (suc i) c)).group
        p = turned g c i (near_sizes b g n) (target_open g c i e).0

        other : j ≢ i
        other q = d (owner_target b c t ∙ ap (λ k. connection_at k) (target_began b g n c i e) ∙ ap (λ z. connection (suc z)) (sym q))

-- a call of slot k's connection answers, and leaves that slot, by that slot alone
pub own : (b g h : Group) (c : Call) (k : ℕ) → Near b g → Near b h → Conn c → owner_of b c ≡ connection k → part_of g k ≡ part_of h k
    → (answer g c ≡ answer h c) × (part_of (next g c) k ≡ part_of (next h c) k)
own b g h c k n m t o e = let w = owner_at b c k t o in rw w.1 (by w.0 w.2 (rw w.1 at e))
  where
    by : (i : ℕ) → target b c ≡ suc i → part_of g (suc i) ≡ part_of h (suc i) → (answer g c ≡ answer h c) × (part_of (next g c) (suc i) ≡ part_of (next h c) (suc i))
    by i z e = go (open_b g.S g.table (suc i)) refl
      where
        a : Agree g h (suc i)
        a = agree b g h n m (suc i) e

        began : slot_b b.S (suc i) ≡ true
        began = (open_in b.S b.table (suc i) (target_open b c i z).0).slot

        -- closed since
        none_now : (x : Group) → Near b x → open_b x.S x.table (suc i) ≡ false → target x c ≡ 0
        none_now x y f = at (target x c) refl
          where
            at : (k : ℕ) → target x c ≡ k → k ≡ 0
            at zero p = refl
            at (suc j) p =
                let q : suc j ≡ suc i = sym (target_began b x y c j p) ∙ z in
                absurd (false≢true (sym f ∙ (rw q at (target_open x c j p).0)))

        go : (s : Bool) → open_b g.S g.table (suc i) ≡ s → (answer g c ≡ answer h c) × (part_of (next g c) (suc i) ≡ part_of (next h c) (suc i))
        go false f =
            let x = still b g n c t (none_now g n f) in
            let y = still b h m c t (none_now h m (sym (same_open g h (suc i) a) ∙ f)) in
            (x.0 ∙ sym y.0, ap (λ u. part_of u (suc i)) x.1 ∙ e ∙ ap (λ u. part_of u (suc i)) (sym y.1))
        go true f =
            let p = acts_on_lem g c i (target_now b g n c i z f) in
            let q = acts_on_lem h c i (target_now b h m c i z (sym (same_open g h (suc i) a) ∙ f)) in
            let w = sees_what g h c (suc i) p q a in
            let s = w.1.same_slot (rw (near_next b g n c t).kept_S began) in
            (w.0, λ x. (s.same_record x, s.same_element x))

-- nobody's call is refused, and changes nothing, all through a span
pub nobodys : (b g : Group) (c : Call) → Near b g → Conn c → owner_of b c ≡ nobody → (answer g c ≡ refusal_by c) × (next g c ≡ g)
nobodys b g c n t o = still b g n c t (target_none b g n c (owner_none b c t o))

-- Each open slot of a group that calls leave follows what is said of it. Assumes nothing.
use mathlib.Core.Path.{◌≡◌, refl, sym, ap, ◌∙◌, subst, subst₂}
use mathlib.Core.Logic.{◌⊎◌, inl, inr}
use mathlib.Core.Bool.{Bool, true, false, false≢true, cond}
use mathlib.Core.List.{List, [], ◌∷◌}
use Prim.Native.Nat.{ℕ, suc, ◌+◌, ◌-◌, ◌*◌, ◌<◌}
use native.Mathlib.Omega.{arith}
use native.Mathlib.Nat.{zero-mod, zero-div}
use lib.Dec.{eqb}
use lib.ListN.{length, get_or}
use Rattle.conn_record.specs.declared.Opening as Given
use Rattle.conn_record.specs.Connection.{opened_record, start_cursor}
use Rattle.group_rules.specs.Rules.{Group, on, answer, next, record_of_all, element_in, Says, Call, hear, manage, Fresh}
use Rattle.thm_order.proofs.Slots.{open_in, element_long, open_is}
use Rattle.thm_safety.specs.Statement.{OpenAt}
use Rattle.thm_safety.proofs.Invariant.{Sound, sizes}
use Rattle.thm_refusals.proofs.Answers.{clash}
use Rattle.cursor.specs.Cursor.{gap_of, cursor_at}
use Rattle.cdc.specs.declared.Message.{Message}
use Rattle.conn_record.specs.declared.Record.{Record}
use Rattle.conn_record.specs.Connection.{zero_record}
use Rattle.conn_hear.proofs.HeardLaws.{Produces}
use Rattle.cdc.specs.declared.Decoded.TheVariants.{Good, Malformed}
use Rattle.cdc.specs.Cdc.{decode_of, fields_of, num2, cursor_of}
use Rattle.thm_positions.specs.Positions.{moved_in, Journal, opened, after_call, noted, journal_from, journal, AreBytes}
use Rattle.thm_positions.proofs.Inbound.{Steps}
use Rattle.thm_safety.proofs.Sound.{kept_sizes, sound_next, sound_fresh}
use Rattle.thm_positions.proofs.Journals.{Keeps, turn_keeps}
use Rattle.thm_positions.proofs.Places.{norm}
use Rattle.link_failover.proofs.Keeps.{ButLink}
use Rattle.thm_positions.proofs.Noted.{HeardWith, now, Noted, SlotTurn, slot_turn, said_after, aside, moves, turns, begins, closes, strays}
use Rattle.thm_order.specs.Statement.{leaves, answers}

-- the bytes of a message heard are below 256
abbrev pub CallBytes : Call → Type 0
CallBytes (on k q) = Unit {0}
CallBytes (hear b) = (x : ℕ) → get_or b x 0 < 256
CallBytes (manage d) = Unit {0}

-- so its wrap numbers are below 65,536
fields_are : (x y z : Bool) (l m : Message) → cond x (cond y (cond z (Good l) Malformed) Malformed) Malformed ≡ Good m → l ≡ m
fields_are true true true l m e = cc
fields_are true true false l m e = clash (cc)
fields_are true false z l m e = clash (cc)
fields_are false y z l m e = clash (cc)

wrap_bits : (b : List ℕ) (m : Message) → decode_of b ≡ Good m → ((x : ℕ) → get_or b x 0 < 256) → m.producer.wrap < 65536
unfolding decode_of fields_of cursor_of num2
wrap_bits b m e h =
    let f = fields_are (eqb (length b) 44) (eqb (get_or b 0 0) 0xFE) (eqb (get_or b 1 0) 0x2C) (fields_of b) m e in
    let w : get_or b 10 0 * 256 + get_or b 11 0 ≡ m.producer.wrap = ap (λ (x : Message). x.producer.wrap) f in
    omega (arith, w, h 10, h 11)

-- AN OPEN: what is said begins anew
cursor_0 : (d : ℕ) → start_cursor ≡ cursor_at d 0
unfolding cursor_at
cursor_0 d = rw (zero-mod d, zero-div d)

began : (B : Type 0) (n : ℕ) (given : Given.Opening) (e : List ℕ) → Keeps B n (opened_record given) e (opened given.own)
unfolding opened_record
began B n given e =
    record {
      own_is = refl;
      P_at = cursor_0 (n - 4);
      P_bits = λ b. omega arith;
      C_at = cursor_0 (n - 4);
      T_at = cursor_0 (n - 4);
      told_handed = omega arith;
      handed_announced = omega arith;
      announced_most = omega arith;
      as_handed = refl;
      young = λ y l. refl;
      here = λ y v l m w. clash (cc);
      past = λ y v l w. clash (cc);
    }

-- another link changes nothing of it
but_link : (B : Type 0) {n : ℕ} {c d : Record} {e : List ℕ} {j : Journal} → ButLink c d → Keeps B n c e j → Keeps B n d e j
but_link B b k =
    record {
      own_is = b.own ∙ k.own_is;
      P_at = ap (λ x. norm x.producer) b.inbound ∙ k.P_at;
      P_bits = λ x. rw b.inbound (k.P_bits x);
      C_at = ap (λ x. x.consumer) b.inbound ∙ k.C_at;
      T_at = ap (λ x. x.told) b.inbound ∙ k.T_at;
      told_handed = k.told_handed;
      handed_announced = k.handed_announced;
      announced_most = k.announced_most;
      as_handed = k.as_handed;
      young = k.young;
      here = k.here;
      past = k.past;
    }

-- ONE CALL ON
module _ (B : Type 0) (g : Group) (i : ℕ) (j : Journal) where
  abbrev pub KeepsAt : Type 0
  KeepsAt = Keeps B g.N (record_of_all g (suc i)) (element_in g (suc i)) j

-- of a slot that is open: what holds of its record and element and of what is said of it
abbrev pub Following : Type 0 → Group → ℕ → Journal → Type 0
Following B g i j = OpenAt g (suc i) → KeepsAt B g i j

module _ (B : Type 0) (g : Group) (s : Sound g) (c : Call) (i : ℕ) (j : Journal) (k : Following B g i j) where
  -- a slot open after the call is not closed by it
  pub not_closed : OpenAt (next g c) (suc i) → (record_of_all (next g c) (suc i)).id.opened ≡ false → ⊥
  not_closed o z = false≢true (sym z ∙ (open_in (next g c).S (next g c).table (suc i) o).is_open)

  pub was_open : OpenAt (next g c) (suc i) → record_of_all (next g c) (suc i) ≡ record_of_all g (suc i) → OpenAt g (suc i)
  was_open o e =
      let w = open_in (next g c).S (next g c).table (suc i) o in
      open_is g.S g.table (suc i) (rw (kept_sizes g s c).0 at w.slot) (ap (λ (r : Record). r.id.opened) (sym e) ∙ w.is_open)

  pub was_open_by : OpenAt (next g c) (suc i) → (record_of_all (next g c) (suc i)).id.opened ≡ (record_of_all g (suc i)).id.opened → OpenAt g (suc i)
  was_open_by o e =
      let w = open_in (next g c).S (next g c).table (suc i) o in
      open_is g.S g.table (suc i) (rw (kept_sizes g s c).0 at w.slot) (sym e ∙ w.is_open)

  pub slot_turned : SlotTurn g c i j
  slot_turned = slot_turn g s c i j (λ o. (k o).own_is)

  P_bits : (B → CallBytes c) → OpenAt g (suc i) → (says : Says) (made : Bool) (r : Record)
      → Steps g.N (record_of_all g (suc i)) (HeardWith c) says made r → B → r.inbound.producer.wrap < 65536
  P_bits bytes o says made r w b = by w.P-moves
    where
      by : ((r.inbound.producer ≡ (record_of_all g (suc i)).inbound.producer) × (moved_in says ≡ 0))
          ⊎ (HeardWith c r.inbound.producer
          × Produces g.N (record_of_all g (suc i)) r.inbound.producer
          × (moved_in says ≡ gap_of (g.N - 4) (record_of_all g (suc i)).inbound.producer r.inbound.producer))
          → r.inbound.producer.wrap < 65536
      by (inl x) = rw x.0 ((k o).P_bits b)
      by (inr x) = let h = x.0 in rw h.4 (wrap_bits h.0 h.1 h.3 (rw h.2 at (bytes b)))

  pub long : OpenAt g (suc i) → length (element_in g (suc i)) ≡ g.N
  long o = element_long g.N g.S g.memory (sizes g s).whole i (open_in g.S g.table (suc i) o).high

  pub call_follows : (B → CallBytes c) → Following B (next g c) i (after_call (g.N - 4) (suc i) j c (answer g c))
  unfolding zero_record
  call_follows bytes now = go slot_turned
    where
      settled : (l : Journal) → said_after g c i j ≡ l → Keeps B g.N (record_of_all (next g c) (suc i)) (element_in (next g c) (suc i)) l
          → KeepsAt B (next g c) i (said_after g c i j)
      settled l e h =
          subst₂ (λ n x. Keeps B n (record_of_all (next g c) (suc i)) (element_in (next g c) (suc i)) x) (sym (kept_sizes g s c).1) (sym e) h

      here : Noted g c i j → OpenAt g (suc i) → KeepsAt B (next g c) i (after_call (g.N - 4) (suc i) j c (answer g c))
      here n o = by n.goes
        where
          by : (record_of_all (next g c) (suc i) ≡ zero_record)
              ⊎ (((record_of_all (next g c) (suc i)).id ≡ (record_of_all g (suc i)).id)
              × Steps g.N (record_of_all g (suc i)) (HeardWith c) n.said.says n.said.made (record_of_all (next g c) (suc i)))
              → KeepsAt B (next g c) i (after_call (g.N - 4) (suc i) j c (answer g c))
          by (inl z) = absurd (not_closed now (ap (λ (r : Record). r.id.opened) z))
          by (inr w) =
              settled (noted (g.N - 4) j n.bytes n.said) n.is_noted
              (turn_keeps B g.N (sizes g s).least (record_of_all g (suc i)) (element_in g (suc i)) (long o) (s.coherent i o) j (k o)
              (record_of_all (next g c) (suc i)) (element_in (next g c) (suc i)) n.bytes n.said (ap (λ r. r.own) w.0) (HeardWith c) w.1
              (P_bits bytes o _ _ _ w.1) n.storing n.reading)

      go : SlotTurn g c i j → KeepsAt B (next g c) i (after_call (g.N - 4) (suc i) j c (answer g c))
      go (aside r e w) = settled j w (subst₂ (λ x f. Keeps B g.N x f j) (sym r) (sym e) (k (was_open now r)))
      go (moves b e w) = settled j w (subst (λ f. Keeps B g.N (record_of_all (next g c) (suc i)) f j) (sym e) (but_link B b (k (was_open_by now b.opened))))
      go (turns o n) = here n o
      go (begins given z p a r w) =
          settled (opened given.own) w (subst (λ x. Keeps B g.N x (element_in (next g c) (suc i)) (opened given.own)) (sym r) (began B g.N given _))
      go (closes r e w) = absurd (not_closed now (ap (λ (r : Record). r.id.opened) r))
      go (strays o r a w n) = absurd (o (was_open now r))

-- ALL CALLS
bytes_first : (c : Call) (cs : List Call) → AreBytes (c ∷ cs) → CallBytes c
bytes_first (on k q) cs h = tt
bytes_first (hear b) cs h = h 0 b refl
bytes_first (manage d) cs h = tt

pub list_follows : (B : Type 0) (cs : List Call) (g : Group) → Sound g → (i : ℕ) (j : Journal) → Following B g i j → (B → AreBytes cs)
    → Following B (leaves g cs) i (journal_from (g.N - 4) (suc i) j cs (answers g cs))
unfolding leaves answers journal_from
list_follows B [] g s i j k h = k
list_follows B (c ∷ cs) g s i j k h =
    let step = call_follows B g s c i j k (λ b. bytes_first c cs (h b)) in
    let rest = list_follows B cs (next g c) (sound_next g s c) i _ step (λ b m l p x. h b (suc m) l p x) in
    subst
    (λ n.
    Following B (leaves (next g c) cs) i
    (journal_from (n - 4) (suc i) (after_call (g.N - 4) (suc i) j c (answer g c)) cs (answers (next g c) cs)))
    (kept_sizes g s c).1
    rest

pub fresh_follows : (g : Group) → Fresh g → (cs : List Call) (i : ℕ) → Following (AreBytes cs) (leaves g cs) i (journal g cs (suc i))
fresh_follows g f cs i =
    list_follows (AreBytes cs) cs g (sound_fresh g f) i (opened 0) (λ o. absurd (false≢true (sym (f.closed (suc i)) ∙ o))) (λ b. b)

-- What holds of both ends and both directions at every point of a list of events; an event at an end where the connection is open, with all
-- that every lemma about it has as arguments; and the last part of it: a message is told, or none is made. Assumes nothing.
use mathlib.Core.Path.{◌≡◌, sym, ap, ◌∙◌, subst, refl}
use mathlib.Core.Bool.{Bool, true, false, ◌||◌, cond, false≢true}
use mathlib.Core.List.{List, ◌++◌, [], ◌∷◌, append-nil, append_assoc}
use Prim.Native.Nat.{ℕ, ◌+◌, ◌<◌, ◌%◌}
use native.Mathlib.Omega.{arith}
use lib.ListN.{length}
use Rattle.closing.specs.declared.Marks.{Marks}
use Rattle.closing.specs.Closing.{marked}
use Rattle.link_failover.proofs.Keeps.{ButLink}
use Rattle.conn_record.specs.declared.Record.{Record}
use Rattle.conn_record.specs.declared.Remote.{Remote}
use Rattle.conn_record.specs.Connection.{coherent_b, zero_record}
use Rattle.group_rules.specs.Rules.{Group, Call, Answer, next, record_of_all, element_in}
use Rattle.thm_safety.specs.Statement.{OpenAt}
use Rattle.thm_safety.proofs.Invariant.{Sound}
use Rattle.thm_safety.proofs.Sound.{sound_next, kept_sizes}
use Rattle.thm_sent.specs.Books.{Names, Aim, End, hands_over, moves_over, tells_in, acted, with_coming, with_group, Item, message}
use Rattle.thm_sent.specs.Plain.{Plain, Outward, Inward, OutwardIs, InwardIs, plain_begun, plain_does, plain_mine, plain_theirs, aborts_b}
use Rattle.thm_sent.specs.Plain.{plain_told, plain_reaches, told_mark}
use Rattle.thm_sent.proofs.Direction.{Out, In, Seen, Dir, dir_tells, dir_told}
use Rattle.thm_sent.proofs.Follows.{ended_b, Held, Told, Follows, or-none, or_left, or_right, or_cases}
use Rattle.thm_sent.proofs.Slots.{slot_of}
use mathlib.Core.Logic.{◌⊎◌, inl, inr}
use lib.Dec.{ltb}
use Rattle.cursor.specs.Cursor.{cursor_at}
use Rattle.cdc.specs.declared.Decoded.TheVariants.{Good}
use Rattle.cdc.specs.Cdc.{decode_of}
use Rattle.cdc.proofs.RoundTrip.{reads_back}
use Rattle.conn_record.specs.declared.Identity.{Identity}
use Rattle.conn_answer.specs.declared.Outcome.{Outcome}
use Rattle.conn_answer.specs.Outcome.{told_of, told_in, used_in}
use Rattle.thm_order.proofs.Slots.{open_in}
use Rattle.thm_sent.proofs.Sends.{stands_at}

-- what the engine need not say: D, C or A sent; up to which position and how many messages were heard, and whether D or C
pub record Hidden : Type 0 where
  pub ended : Bool
  pub seen : Seen

abbrev pub out_of : End → Plain → Hidden → Out
out_of e p h = record { took = e.took; pos = p.outward; marks = p.coming; ended = h.ended }

abbrev pub in_of : Names → End → Plain → Hidden → In
in_of n e p h =
    record {
      place = record { opened = e.opened; elem = element_in e.group n.slot; put = e.put };
      coming = e.coming;
      marks = p.coming;
      read = e.read;
      pos = p.inward;
      mute = p.mute;
      seen = h.seen;
    }

-- an end's record is spoken of by these
pub record Known : Type 0 where
  pub outward : Outward
  pub inward : Inward
  pub mute : Bool
  pub ended : Bool
  pub over : Bool

abbrev pub known_of : Plain → Hidden → Known
known_of p h = record { outward = p.outward; inward = p.inward; mute = p.mute; ended = h.ended; over = h.seen.over }

-- n: this end's names; m: the other's; N: the other's element size. What its open was given
pub record Matched (n m : Names) (N own peer : ℕ) (r : Remote) : Type 0 where
  pub own_is : own ≡ n.own
  pub peer_is : peer ≡ m.own
  pub size_is : r.size ≡ N
  pub index_is : r.index ≡ m.slot
  pub is_1 : r.link1 ≡ m.reach 1
  pub is_2 : r.link2 ≡ m.reach 2
  pub is_3 : r.link3 ≡ m.reach 3
  pub is_4 : r.link4 ≡ m.reach 4

-- d: data bytes of this end's element; d': of the other's
module _ (n m : Names) (d d' : ℕ) where
  -- the connection's record at this end
  pub record AtRec (w : Known) (c : Record) : Type 0 where
    pub matched : Matched n m (d' + 4) c.id.own c.id.peer c.remote
    pub out_now : OutwardIs d' w.outward c.outbound
    pub in_now : InwardIs d w.inward c.inbound
    pub ended_is : ended_b c.marks ≡ w.ended
    pub over-is : marked c.marks.heard ≡ true → w.over ≡ true
    pub mute_is : c.marks.abort ≡ w.mute

  -- before that open
  pub record Unopened (w : Known) : Type 0 where
    pub none_out : w.outward ≡ plain_begun.outward
    pub none_in : w.inward ≡ plain_begun.inward
    pub not_mute : w.mute ≡ false
    pub not_ended : w.ended ≡ false

  pub record AtEnd (g : Group) (opened : Bool) (w : Known) : Type 0 where
    pub sound : Sound g
    pub N_is : g.N ≡ d + 4
    pub rec : opened ≡ true → OpenAt g n.slot → AtRec w (record_of_all g n.slot)
    pub before : opened ≡ false → Unopened w

-- on another link
pub moved_rec : {n m : Names} {d d' : ℕ} {w : Known} {c c' : Record} → ButLink c c' → AtRec n m d d' w c → AtRec n m d d' w c'
moved_rec {n} {m} {d} {d'} {w} {c} {c'} b a =
    record {
      matched =
          subst (λ (x : (ℕ × ℕ × Remote)). Matched n m (d' + 4) x.0 x.1 x.2)
          (λ i. (sym b.own i, sym b.peer i, sym b.remote i)) a.matched;
      out_now = subst (OutwardIs d' w.outward) (sym b.outbound) a.out_now;
      in_now = subst (InwardIs d w.inward) (sym b.inbound) a.in_now;
      ended_is = ap ended_b b.marks ∙ a.ended_is;
      over-is = λ z. a.over-is (ap (λ (x : Marks). marked x.heard) (sym b.marks) ∙ z);
      mute_is = ap (λ (x : Marks). x.abort) b.marks ∙ a.mute_is;
    }

-- BOTH ENDS
pub record Pair (n m : Names) (d d' : ℕ) (e f : End) (p q : Plain) (h k : Hidden) : Type 0 where
  pub at_e : AtEnd n m d d' e.group e.opened (known_of p h)
  pub at_f : AtEnd m n d' d f.group f.opened (known_of q k)
  pub to_f : Dir d' d m (out_of e p h) (in_of m f q k)
  pub to_e : Dir d d' n (out_of f q k) (in_of n e p h)

pub swap : {n m : Names} {d d' : ℕ} {e f : End} {p q : Plain} {h k : Hidden} → Pair n m d d' e f p q h k → Pair m n d' d f e q p k h
swap w = record { at_e = w.at_f; at_f = w.at_e; to_f = w.to_e; to_e = w.to_f }

-- A CALL AT AN END WHERE THE CONNECTION IS OPEN
pub record Act : Type 0 where
  pub n : Names
  pub m : Names
  pub d : ℕ
  pub d' : ℕ
  pub full : 0 < d
  pub full' : 0 < d'
  pub e : End
  pub f : End
  pub p : Plain
  pub q : Plain
  pub h : Hidden
  pub k : Hidden
  pub pair : Pair n m d d' e f p q h k
  pub opened : e.opened ≡ true
  pub is_open : OpenAt e.group n.slot
  pub call : Call

-- the record, what is known of it, and the group that the call leaves
abbrev pub rec_of : Act → Record
rec_of a = record_of_all a.e.group a.n.slot

abbrev pub elem_of : Act → List ℕ
elem_of a = element_in a.e.group a.n.slot

abbrev pub at_of : (a : Act) → AtRec a.n a.m a.d a.d' (known_of a.p a.h) (rec_of a)
at_of a = a.pair.at_e.rec a.opened a.is_open

pub held : (a : Act) → Held a.d a.d' (rec_of a) a.p.outward a.p.inward
held a =
    let w = a.pair in
    let f = w.to_f.order in
    let e = w.to_e.order in
    record {
      full = a.full;
      full' = a.full';
      out = (at_of a).out_now;
      inn = (at_of a).in_now;
      size' = (at_of a).matched.size_is;
      coherent =
          subst (λ (x : ℕ). coherent_b x (rec_of a) ≡ true) w.at_e.N_is
          (slot_of a.e.group w.at_e.sound a.n.slot a.is_open).coherent;
      R_Q = omega (arith, f);
      Q_R = f.Q_R;
      C_P = e.C_P;
      P_C = omega (arith, e);
      W_P = e.W_P;
    }

abbrev pub next_of : Act → Group
next_of a = next a.e.group a.call

pub next_sound : (a : Act) → Sound (next_of a)
next_sound a = sound_next a.e.group a.pair.at_e.sound a.call

pub next_N : (a : Act) → (next_of a).N ≡ a.d + 4
next_N a = (kept_sizes a.e.group a.pair.at_e.sound a.call).1 ∙ a.pair.at_e.N_is

-- what it leaves of both ends and both engines, and that this is again a pair
pub record Next (a : Act) (e' f' : End) (p' q' : Plain) : Type 0 where
  pub hidden : Hidden
  pub pair : Pair a.n a.m a.d a.d' e' f' p' q' hidden a.k

abbrev pub After : Act → Answer → Aim → Type 0
After a said aim =
    let g = a.e.group in
    let done = plain_does a.d' a.p said.says aim in
    Next a (with_group (acted a.n a.e said aim) (next_of a))
    (with_coming a.f (a.f.coming ++ hands_over (length a.e.took) (rec_of a).id.link said (moves_over a.n g a.call) aim))
    (plain_mine done said aim) (plain_theirs done a.q said (tells_in a.n g a.call) aim)

-- BEFORE IT TELLS: c1 is the record that its message tells; e1, p1 and h1 what it leaves of the end, and `items` the bytes that it hands
-- over
module _ (a : Act) where
  open a use {n, m, d, d', e, f, p, q, h, k}

  pub record Stays (p1 : Plain) (h1 : Hidden) (c1 : Record) : Type 0 where
    pub out_now : OutwardIs d' p1.outward c1.outbound
    pub in_now : InwardIs d p1.inward c1.inbound
    pub over-is : marked c1.marks.heard ≡ true → h1.seen.over ≡ true

  pub record Mid (e1 : End) (items : List Item) (p1 : Plain) (h1 : Hidden) (c1 : Record) (o : Outcome) : Type 0 where
    pub follows : Follows (rec_of a) c1 o
    pub Q_is : c1.outbound.producer ≡ cursor_at d' p1.outward.Q
    pub C_is : c1.inbound.consumer ≡ cursor_at d p1.inward.C
    pub urgent_is : c1.marks.abort ≡ false → c1.outbound.urgent.standing ≡ ltb p1.outward.R p1.outward.U
    pub left : (o.after ≡ zero_record) ⊎ ((o.after ≡ cond o.made (told_of c1) c1) × Stays p1 h1 c1)
    pub mute_same : p1.mute ≡ p.mute
    pub made_same : p1.outward.made ≡ p.outward.made
    pub ended_same : h1.ended ≡ h.ended
    pub to_f : Dir d' d m (out_of e1 p1 h1) (in_of m (with_coming f (f.coming ++ items)) q k)
    pub to_e : Dir d d' n (out_of f q k) (in_of n (with_group e1 (next_of a)) p1 h1)

  -- a call that leaves c1 in positions, told or not, or nothing
  module _ (e1 : End) (items : List Item) {p1 : Plain} {h1 : Hidden} {c1 : Record} {o : Outcome} where
    pub mid_by : Follows (rec_of a) c1 o → Stays p1 h1 c1 → p1.mute ≡ p.mute → p1.outward.made ≡ p.outward.made → h1.ended ≡ h.ended
        → Dir d' d m (out_of e1 p1 h1) (in_of m (with_coming f (f.coming ++ items)) q k)
        → Dir d d' n (out_of f q k) (in_of n (with_group e1 (next_of a)) p1 h1) → Mid e1 items p1 h1 c1 o
    mid_by g s mute made ended to_f to_e =
        record {
          follows = g;
          Q_is = s.out_now.Q_is;
          C_is = s.in_now.C_is;
          urgent_is = λ z. stands_at s.out_now;
          left = by g.goes.left;
          mute_same = mute;
          made_same = made;
          ended_same = ended;
          to_f = to_f;
          to_e = to_e;
        }
      where
        by : (o.after ≡ zero_record) ⊎ (o.after ≡ cond o.made (told_of c1) c1)
            → (o.after ≡ zero_record) ⊎ ((o.after ≡ cond o.made (told_of c1) c1) × Stays p1 h1 c1)
        by (inl z) = inl z
        by (inr z) = inr (z, s)

  -- nothing handed over
  pub no_items : (e1 : End) (p1 : Plain) (h1 : Hidden) → Dir d' d m (out_of e1 p1 h1) (in_of m f q k)
      → Dir d' d m (out_of e1 p1 h1) (in_of m (with_coming f (f.coming ++ [])) q k)
  no_items e1 p1 h1 w =
      subst (λ (l : List Item). Dir d' d m (out_of e1 p1 h1) (in_of m (with_coming f l) q k)) (sym (append-nil f.coming)) w

module _ (a : Act) {e1 : End} {items : List Item} {p1 : Plain} {h1 : Hidden} {c1 : Record} {o : Outcome} (mid : Mid a e1 items p1 h1 c1 o)
    (opened1 : e1.opened ≡ true) (record_is : record_of_all (next_of a) a.n.slot ≡ o.after) where
  open a use {n, m, d, d', e, f, p, q, h, k, pair}

  abbrev there : End
  there = with_group e1 (next_of a)

  not-zero : OpenAt (next_of a) n.slot → o.after ≡ zero_record → ⊥
  unfolding zero_record
  not-zero w z =
      false≢true (ap (λ (r : Record). r.id.opened) (sym (record_is ∙ z)) ∙ (open_in (next_of a).S (next_of a).table n.slot w).is_open)

  -- the record left is c1 told, or c1
  at-end : (p2 : Plain) (h2 : Hidden) (t : Bool) → o.made ≡ t → (Stays a p1 h1 c1 → AtRec n m d d' (known_of p2 h2) (cond t (told_of c1) c1))
      → AtEnd n m d d' (next_of a) e1.opened (known_of p2 h2)
  at-end p2 h2 t z f =
      record {
        sound = next_sound a;
        N_is = next_N a;
        rec = λ y w. subst (AtRec n m d d' (known_of p2 h2)) (sym record_is) (go w mid.left);
        before = λ y. absurd (false≢true (sym y ∙ opened1));
      }
    where
      go : OpenAt (next_of a) n.slot → (o.after ≡ zero_record) ⊎ ((o.after ≡ cond o.made (told_of c1) c1) × Stays a p1 h1 c1)
          → AtRec n m d d' (known_of p2 h2) o.after
      go w (inl z) = absurd (not-zero w z)
      go w (inr l) = subst (AtRec n m d d' (known_of p2 h2)) (sym (l.0 ∙ ap (λ (t : Bool). cond t (told_of c1) c1) z)) (f l.1)

  matched_now : Matched n m (d' + 4) c1.id.own c1.id.peer c1.remote
  matched_now =
      subst (λ (r : Remote). Matched n m (d' + 4) c1.id.own c1.id.peer r) (sym mid.follows.kept.same_remote)
      (subst (λ (i : Identity). Matched n m (d' + 4) i.own i.peer (rec_of a).remote) (sym mid.follows.kept.same_id)
      (at_of a).matched)

  -- NO MESSAGE IS MADE
  silent : o.made ≡ false → Pair n m d d' there (with_coming f (f.coming ++ (items ++ []))) p1 q h1 k
  silent made =
      record {
        at_e = at-end p1 h1 false made kept;
        at_f = pair.at_f;
        to_f =
            subst (λ (l : List Item). Dir d' d m (out_of e1 p1 h1) (in_of m (with_coming f (f.coming ++ l)) q k)) (sym (append-nil items))
            mid.to_f;
        to_e = mid.to_e;
      }
    where
      kept : Stays a p1 h1 c1 → AtRec n m d d' (known_of p1 h1) c1
      kept s =
          let same = mid.follows.quiet made in
          record {
            matched = matched_now;
            out_now = s.out_now;
            in_now = s.in_now;
            ended_is = (λ i. marked (same.1 i) || same.0 i) ∙ (at_of a).ended_is ∙ sym mid.ended_same;
            over-is = s.over-is;
            mute_is = same.0 ∙ (at_of a).mute_is ∙ sym mid.mute_same;
          }

  -- A MESSAGE IS MADE
  module _ (made : o.made ≡ true) where
    said : Told c1 o.message
    said = mid.follows.tells made

    decoded : decode_of o.message ≡ Good said.m
    decoded = ap decode_of said.is ∙ reads_back said.m

    abbrev aborts : Bool
    aborts = aborts_b (decode_of o.message)

    abbrev p2 : Plain
    p2 = plain_told p1 aborts

    abbrev q2 : Plain
    q2 = plain_reaches q (told_mark p1)

    abbrev h2 : Hidden
    h2 = record { ended = ended_b c1.marks; seen = h1.seen }

    next_was : c1.outbound.next ≡ (p1.outward.made + 1) % 65536
    next_was = mid.follows.kept.same_next ∙ (at_of a).out_now.next_number_is ∙ ap (λ (x : ℕ). (x + 1) % 65536) (sym mid.made_same)

    ended_up : h1.ended ≡ true → ended_b c1.marks ≡ true
    ended_up z = by (or_cases (marked (rec_of a).marks.sent) (rec_of a).marks.abort ((at_of a).ended_is ∙ sym mid.ended_same ∙ z))
      where
        by : (marked (rec_of a).marks.sent ≡ true) ⊎ ((rec_of a).marks.abort ≡ true) → ended_b c1.marks ≡ true
        by (inl y) = or_left c1.marks.abort (mid.follows.kept.sent_up_lem y)
        by (inr y) = or_right (marked c1.marks.sent) (mid.follows.kept.abort_up y)

    mute_now : c1.marks.abort ≡ p1.mute || aborts
    mute_now = go p1.mute refl
      where
        go : (t : Bool) → p1.mute ≡ t → c1.marks.abort ≡ t || aborts
        go true z = mid.follows.kept.abort_up ((at_of a).mute_is ∙ sym mid.mute_same ∙ z)
        go false z = sym (ap aborts_b decoded ∙ said.alike.abort_is)

    told_rec : Stays a p1 h1 c1 → AtRec n m d d' (known_of p2 h2) (told_of c1)
    unfolding told_of told_in used_in plain_told
    told_rec s =
        let o = s.out_now in
        let i = s.in_now in
        record {
          matched = matched_now;
          out_now = record { Q_is = o.Q_is; R_is = o.R_is; U_is = o.U_is; next_number_is = omega (arith, next_was) };
          in_now = record { P_is = i.P_is; C_is = i.C_is; T_is = i.C_is; W_is = i.W_is; last_number_is = i.last_number_is };
          ended_is = refl;
          over-is = s.over-is;
          mute_is = mute_now;
        }

    telling : Pair n m d d' there (with_coming f (f.coming ++ (items ++ (message o.message ∷ [])))) p2 q2 h2 k
    unfolding plain_told
    telling =
        let alike = said.alike in
        record {
          at_e = at-end p2 h2 true made told_rec;
          at_f = pair.at_f;
          to_f =
              subst (λ (l : List Item). Dir d' d m (out_of e1 p2 h2) (in_of m (with_coming f l) q2 k))
              (append_assoc f.coming items (message o.message ∷ []))
              (dir_tells mid.to_f o.message (told_mark p1) (p1.outward.made + 1) (ended_b c1.marks) refl ended_up
              (record {
                bears =
                    record {
                      m = said.m;
                      decoded = decoded;
                      producer_is = alike.producer_is ∙ mid.Q_is;
                      consumer_is = alike.consumer_is ∙ mid.C_is;
                      taken_is = refl;
                      sequence_is = alike.sequence_is ∙ next_was;
                      number_is = refl;
                      failover_is = alike.failover_is;
                      not_abort = λ z. absurd (false≢true z);
                      token_is_lem = alike.token_is_lem ∙ matched_now.peer_is;
                      urgent_is = λ z. alike.urgent_is ∙ mid.urgent_is (sym alike.abort_is ∙ z);
                    };
                last =
                    λ z. (
                      (λ i. (sym alike.done_is i || sym alike.closed_is i) || sym alike.abort_is i) ∙ z,
                      sym
                          mid.to_f.Q_is,
                    );
              }));
          to_e = dir_told mid.to_e (told_mark p1) (p1.mute || aborts) refl refl (λ z. (or-none p1.mute aborts z).0);
        }

  pub finished : Next a there (with_coming f (f.coming ++ (items ++ cond o.made (message o.message ∷ []) [])))
      (cond o.made (plain_told p1 (aborts_b (decode_of o.message))) p1) (cond o.made (plain_reaches q (told_mark p1)) q)
  finished = go o.made refl
    where
      go : (t : Bool) → o.made ≡ t
          → Next a there (with_coming f (f.coming ++ (items ++ cond t (message o.message ∷ []) [])))
          (cond t (plain_told p1 (aborts_b (decode_of o.message))) p1) (cond t (plain_reaches q (told_mark p1)) q)
      go true made = record { hidden = h2 made; pair = telling made }
      go false made = record { hidden = h1; pair = silent made }

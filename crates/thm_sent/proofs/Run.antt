-- An event before that open, and that open; one event at either end, opened or not; and all events of a list. Assumes nothing.
use mathlib.Core.Path.{◌≡◌, refl, sym, ap, ◌∙◌, subst}
use mathlib.Core.Bool.{true, false, false≢true, Bool, cond}
use mathlib.Core.List.{[], ◌∷◌, List}
use Prim.Native.Nat.{ℕ, ◌+◌, ◌<◌}
use native.Mathlib.Nat.{zero-mod, zero-div}
use lib.Dec.{eqb}
use borrow.Author.Tests.{eqb-true}
use Rattle.cursor.specs.Cursor.{cursor_at, data_of}
use Rattle.conn_record.specs.declared.Record.{Record}
use Rattle.conn_record.specs.declared.RToken.{RToken}
use Rattle.conn_record.specs.declared.Opening as Given
use Rattle.conn_record.specs.Connection.{opened_record, start_cursor}
use Rattle.conn_record.proofs.Laws.{and_left, and_right, holds}
use Rattle.group_table.specs.Table.{slot_b}
use Rattle.group_rules.specs.Rules.{Group, Call, on, hear, manage, open_slot, free_slot, link_change, link_message, link_send, sample, Answer, answer}
use Rattle.group_rules.specs.Rules.{next, record_of_all, element_in}
use Rattle.thm_order.proofs.Slots.{open_is}
use Rattle.thm_safety.specs.Statement.{OpenAt, accepted_b}
use Rattle.thm_safety.proofs.Invariant.{Sound, sizes}
use Rattle.thm_safety.proofs.Sound.{sound_next, kept_sizes, sound_fresh, sound_leaves}
use Rattle.thm_sent.specs.Books.{Names, End, Side, near, far, Two, pick, other_side, both, Event, calls_at, said_at, Aim, elsewhere, aim_of}
use Rattle.thm_sent.specs.Books.{tells_in, Origin, begun, both_begun, called, reached}
use Rattle.thm_sent.specs.OnlySent.{same_token, match_b, opens_b, waited, Asking, aim_at, mine_after, theirs_after, after, course, Throughout}
use Rattle.thm_sent.specs.OnlySent.{FromFresh, AsLeft, Met, TakenIn, NotTurnedAway}
use Rattle.thm_sent.specs.Plain.{Plain, Outward, Inward, OutwardIs, InwardIs, plain_begun, plain_does, plain_mine, plain_theirs, plain_after}
use Rattle.thm_sent.specs.Plain.{plain_course}
use Rattle.thm_sent.proofs.Direction.{dir_waits, Dir}
use Rattle.thm_sent.proofs.Slots.{open_turned}
use Rattle.thm_sent.proofs.Pair.{Hidden, Known, known_of, Matched, AtRec, Unopened, Pair, out_of, in_of, AtEnd, swap, Act}
use Rattle.thm_sent.proofs.Pair.{After}
use mathlib.Core.Option.{some}
use native.Mathlib.Omega.{arith}
use lib.ListN.{get_elem?}
use Rattle.thm_order.specs.Statement.{Made, one_made}
use Rattle.thm_refusals.proofs.Answers.{clash}
use Rattle.thm_sent.specs.Reuse.{OwnOpen}
use Rattle.thm_sent.proofs.Way.{there}
use Rattle.thm_sent.proofs.Step.{Come, Asked, any_come}

same_token_lem : (a b : RToken) → same_token a b ≡ true → a ≡ b
same_token_lem a b e =
    let k = eqb-true a.key b.key (and_left (eqb a.key b.key) _ e) in
    let s = eqb-true a.base b.base (and_right (eqb a.key b.key) _ e) in
    λ i. record { key = k i; base = s i }

-- that open leaves the opened record there, and the slot open
module _ (n m : Names) (N : ℕ) (a : Answer) (g : Group) (s : Sound g) where
  pub record OpenedNow (c : Call) : Type 0 where
    pub given : Given.Opening
    pub match : Matched n m N given.own given.peer given.remote
    pub record_is : record_of_all (next g c) n.slot ≡ opened_record given
    pub is_open : OpenAt (next g c) n.slot

  opened_slot : (o : Given.Opening) → Matched n m N o.own o.peer o.remote
      → accepted_b (answer g (manage (open_slot n.slot o))).says ≡ true
      → OpenedNow (manage (open_slot n.slot o))
  unfolding opened_record
  opened_slot o match took =
      let c = manage (open_slot n.slot o) in
      let op = open_turned g s o n.slot took in
      record {
        given = o;
        match = match;
        record_is = op.record_is;
        is_open =
            open_is (next g c).S (next g c).table n.slot (ap (λ (x : ℕ). slot_b x n.slot) (kept_sizes g s c).0 ∙ op.facts.slot)
            (ap (λ (r : Record). r.id.opened) op.record_is);
      }

  pub opened_now : (c : Call) → a ≡ answer g c → opens_b n m N c a ≡ true → OpenedNow c
  unfolding opens_b match_b
  opened_now (on k q) a-is e = absurd (false≢true e)
  opened_now (hear b) a-is e = absurd (false≢true e)
  opened_now (manage (open_slot k o)) a-is e =
      let r = o.remote in
      let t =
      holds
      (eqb k n.slot
      ∷ eqb o.own n.own
      ∷ eqb o.peer m.own
      ∷ eqb o.link n.link
      ∷ eqb r.size N
      ∷ eqb r.index m.slot
      ∷ same_token r.link1 (m.reach 1)
      ∷ same_token r.link2 (m.reach 2)
      ∷ same_token r.link3 (m.reach 3)
      ∷ same_token r.link4 (m.reach 4)
      ∷ [])
      (and_right (accepted_b a.says) _ e)
      in
      let slot = eqb-true k n.slot (t 0) in
      subst (λ (j : ℕ). OpenedNow (manage (open_slot j o))) (sym slot)
      (opened_slot o
      (record {
        own_is = eqb-true o.own n.own (t 1);
        peer_is = eqb-true o.peer m.own (t 2);
        size_is = eqb-true r.size N (t 4);
        index_is = eqb-true r.index m.slot (t 5);
        is_1 = same_token_lem r.link1 (m.reach 1) (t 6);
        is_2 = same_token_lem r.link2 (m.reach 2) (t 7);
        is_3 = same_token_lem r.link3 (m.reach 3) (t 8);
        is_4 = same_token_lem r.link4 (m.reach 4) (t 9);
      })
      ((λ i. accepted_b (answer g (manage (open_slot (sym slot i) o))).says) ∙ ap (λ (x : Answer). accepted_b x.says) (sym a-is)
      ∙ and_left (accepted_b a.says) _ e))
  opened_now (manage (free_slot k)) a-is e = absurd (false≢true e)
  opened_now (manage (link_change l up b)) a-is e = absurd (false≢true e)
  opened_now (manage (link_message l b out)) a-is e = absurd (false≢true e)
  opened_now (manage (link_send l k vs b)) a-is e = absurd (false≢true e)
  opened_now (manage (sample l ms)) a-is e = absurd (false≢true e)

-- the opened record, in positions
cursor_0 : (d : ℕ) → start_cursor ≡ cursor_at d 0
unfolding cursor_at
cursor_0 d = rw (zero-mod d, zero-div d)

opened_rec : {n m : Names} {d d' : ℕ} {w : Known} (o : Given.Opening) → Unopened n m d d' w
    → Matched n m (d' + 4) o.own o.peer o.remote
    → AtRec n m d d' w (opened_record o)
unfolding opened_record
opened_rec {d = d} {d' = d'} o u match =
    record {
      matched = match;
      out_now =
          subst (λ (x : Outward). OutwardIs d' x (opened_record o).outbound) (sym u.none_out)
          (record { Q_is = cursor_0 d'; R_is = cursor_0 d'; U_is = refl; next_number_is = refl });
      in_now =
          subst (λ (x : Inward). InwardIs d x (opened_record o).inbound) (sym u.none_in)
          (record { P_is = cursor_0 d; C_is = cursor_0 d; T_is = cursor_0 d; W_is = refl; last_number_is = refl });
      ended_is = sym u.not_ended;
      over-is = λ z. absurd (false≢true z);
      mute_is = sym u.not_mute;
    }

module _ {n m : Names} {d d' : ℕ} {e f : End} {p q : Plain} {h k : Hidden} (w : Pair n m d d' e f p q h k) (shut : e.opened ≡ false)
    (c : Call) (a : Answer)
    (a-is : a ≡ answer e.group c) where
  pub waits_pair : Pair n m d d' (waited n m e f.group.N c a) f p q h k
  unfolding waited
  waits_pair =
      record {
        at_e =
            record {
              sound = sound_next e.group w.at_e.sound c;
              N_is = (kept_sizes e.group w.at_e.sound c).1 ∙ w.at_e.N_is;
              rec = λ z o. now z;
              before = λ z. w.at_e.before shut;
            };
        at_f = w.at_f;
        to_f = w.to_f;
        to_e =
            dir_waits w.to_e (record {
              opened = opens_b n m f.group.N c a;
              elem = element_in (next e.group c) n.slot;
              put = e.put;
            }) shut;
      }
    where
      now : opens_b n m f.group.N c a ≡ true → AtRec n m d d' (known_of p h) (record_of_all (next e.group c) n.slot)
      now z =
          let x = opened_now n m f.group.N a e.group w.at_e.sound c a-is z in
          subst (AtRec n m d d' (known_of p h)) (sym x.record_is)
          (opened_rec x.given (w.at_e.before shut)
          (subst (λ (N : ℕ). Matched n m N x.given.own x.given.peer x.given.remote) w.at_f.N_is x.match))

-- BOTH ENDS, seen from a side
abbrev pub PairAt : Two Names → Two ℕ → Two End → Two Plain → Two Hidden → Side → Type 0
PairAt names ds ends plains hs s =
    let o = other_side s in
    Pair (pick s names) (pick o names) (pick s ds) (pick o ds) (pick s ends) (pick o ends) (pick s plains) (pick o plains) (pick s hs)
    (pick o hs)

module _ {names : Two Names} {ds : Two ℕ} where
  pub from_near : {ends : Two End} {plains : Two Plain} {hs : Two Hidden} (s : Side) → PairAt names ds ends plains hs near
      → PairAt names ds ends plains hs s
  from_near near w = w
  from_near far w = swap w

  pub to_near : (s : Side) {e f : End} {p q : Plain} {h k : Hidden}
      → Pair (pick s names) (pick (other_side s) names) (pick s ds) (pick (other_side s) ds) e f p q h k
      → PairAt names ds (both s e f) (both s p q) (both s h k) near
  to_near near w = w
  to_near far w = swap w

-- ONE EVENT, at side s
module _ (names : Two Names) (ds : Two ℕ) (full : (s : Side) → 0 < pick s ds) (ends : Two End) (plains : Two Plain) (hs : Two Hidden)
    (w : PairAt names ds ends plains hs near) (v : Event) where
  abbrev s : Side
  s = v.side

  abbrev o : Side
  o = other_side v.side

  pub record Stepped : Type 0 where
    pub hidden : Hidden
    pub pair : PairAt names ds (after names ends v) (plain_after names ends plains v) (both s hidden (pick o hs)) near
    pub taken : NotTurnedAway names ends v

  abbrev aim : Aim
  aim = aim_of (pick s names) v.call

  -- by whether that open was made; x: the other element's data bytes
  abbrev Left : Bool → ℕ → Hidden → Type 0
  Left t x h =
      let n = pick s names in
      let e = pick s ends in
      let f = pick o ends in
      let done = plain_does x (pick s plains) v.said.says aim in
      PairAt names ds
      (both s (cond t (called n e v.call v.said) (waited n (pick o names) e f.group.N v.call v.said))
      (cond t (reached n e v.call v.said f) f))
      (both s (cond t (plain_mine done v.said aim) (pick s plains))
      (cond t (plain_theirs done (pick o plains) v.said (tells_in n e.group v.call) aim) (pick o plains)))
      (both s h (pick o hs)) near

  module _ (a-is : v.said ≡ answer (pick s ends).group v.call) (met : Met OwnOpen names ends v) where
    mine : PairAt names ds ends plains hs s
    mine = from_near s w

    left_by : (t : Bool) → (pick s ends).opened ≡ t → (h : Hidden) → Left t (pick o ds) h → TakenIn v.said (cond t aim elsewhere)
        → Stepped
    unfolding after plain_after mine_after theirs_after
    left_by t z h l taken =
        let x : pick o ds ≡ data_of (pick o ends).group.N = omega (arith, mine.at_f.N_is) in
        record {
          hidden = h;
          pair = subst (λ (t : Bool). Left t (data_of (pick o ends).group.N) h) (sym z) (subst (λ (y : ℕ). Left t y h) x l);
          taken = subst (λ (t : Bool). TakenIn v.said (cond t aim elsewhere)) (sym z) taken;
        }

    abbrev act : (pick s ends).opened ≡ true → Act
    act z =
        record {
          n = pick s names;
          m = pick o names;
          d = pick s ds;
          d' = pick o ds;
          full = full s;
          full' = full o;
          e = pick s ends;
          f = pick o ends;
          p = pick s plains;
          q = pick o plains;
          h = pick s hs;
          k = pick o hs;
          pair = mine;
          opened = z;
          is_open = met.is_open z;
          call = v.call;
        }

    opened_step : (pick s ends).opened ≡ true → Stepped
    unfolding called reached
    opened_step z = by (any_come (act z) (subst (Asked (act z)) (ap (λ (t : Bool). cond t aim elsewhere) z) here))
      where
        here : Asked (act z) (aim_at names ends v)
        here = record { up = met.link_active; owed_all = met.no_others; performed = met.performed_before; first = met.heard_in_order }

        so : After (act z) v.said aim → TakenIn v.said aim → Stepped
        so x taken = left_by true z x.hidden (to_near s x.pair) taken

        by : Come (act z) aim → Stepped
        by come =
            so (subst (λ (x : Answer). After (act z) x aim) (sym a-is) come.goal)
            (subst (λ (x : Answer). TakenIn x aim) (sym a-is) come.taken)

    pub event_step : Stepped
    event_step = go (pick s ends).opened refl
      where
        go : (t : Bool) → (pick s ends).opened ≡ t → Stepped
        go true z = opened_step z
        go false z = left_by false z (pick s hs) (to_near s (waits_pair mine z v.call v.said a-is)) tt

-- ALL EVENTS. Each group's calls were made on it as last left
abbrev pub Mades : Two End → List Event → Type 0
Mades ends es = (t : Side) → (end : Group) × Made (pick t ends).group (calls_at t es) (said_at t es) end

pub made_first : {g end : Group} {c : Call} {cs : List Call} {a : Answer} {said : List Answer} → Made g (c ∷ cs) (a ∷ said) end
    → (a ≡ answer g c) × Made (next g c) cs said end
made_first {end = end} {cs = cs} {said = said} (one_made d m) = (d.answered, subst (λ (h : Group). Made h cs said end) d.left m)

-- the groups after an event
pub mine_group : (n m : Names) (e f : End) (c : Call) (a : Answer) → (mine_after n m e f c a).group ≡ next e.group c
unfolding mine_after called waited
mine_group n m e f c a = go e.opened
  where
    go : (t : Bool) → (cond t (called n e c a) (waited n m e f.group.N c a)).group ≡ next e.group c
    go true = refl
    go false = refl

pub theirs_group : (n : Names) (e f : End) (c : Call) (a : Answer) → (theirs_after n e f c a).group ≡ f.group
unfolding theirs_after reached
theirs_group n e f c a = go e.opened
  where
    go : (t : Bool) → (cond t (reached n e c a f) f).group ≡ f.group
    go true = refl
    go false = refl

module _ (names : Two Names) (ends : Two End) where
  pub mades_after : (v : Event) (es : List Event) → Mades ends (v ∷ es)
      → (v.said ≡ answer (pick v.side ends).group v.call) × Mades (after names ends v) es
  unfolding after calls_at said_at
  mades_after v es m = go v.side v.call v.said m
    where
      go : (s : Side) (c : Call) (a : Answer) → Mades ends (record { side = s; call = c; said = a } ∷ es)
          → (a ≡ answer (pick s ends).group c) × Mades (after names ends (record { side = s; call = c; said = a })) es
      go near c a m =
          let x = made_first (m near).1 in (
            x.0,
            λ t. elim t as (λ (k : Side). (end : Group)
                × Made (pick k (after names ends (record { side = near; call = c; said = a }))).group (calls_at k es) (said_at k es) end) [
                  | near ↦ (
                    (m near).0,
                    subst (λ (g : Group). Made g (calls_at near es) (said_at near es) (m near).0)
                        (sym (mine_group _ _ _ ends.at_far c a)) x.1,
                  )
                  | far ↦ (
                    (m far).0,
                    subst (λ (g : Group). Made g (calls_at far es) (said_at far es) (m far).0)
                        (sym (theirs_group names.at_near ends.at_near ends.at_far c a)) (m far).1,
                  )
                ],
          )
      go far c a m =
          let x = made_first (m far).1 in (
            x.0,
            λ t. elim t as (λ (k : Side). (end : Group)
                × Made (pick k (after names ends (record { side = far; call = c; said = a }))).group (calls_at k es) (said_at k es) end) [
                  | near ↦ (
                    (m near).0,
                    subst (λ (g : Group). Made g (calls_at near es) (said_at near es) (m near).0)
                        (sym (theirs_group names.at_far ends.at_far ends.at_near c a)) (m near).1,
                  )
                  | far ↦ (
                    (m far).0,
                    subst (λ (g : Group). Made g (calls_at far es) (said_at far es) (m far).0)
                        (sym (mine_group _ _ _ ends.at_near c a)) x.1,
                  )
                ],
          )

-- what each event keeps (K), and what is so at each (R), where P is asked at each
module _ (names : Two Names) (P R : Asking) (K : Two End → Two Plain → Type 0)
    (one : (ends : Two End) (plains : Two Plain) (v : Event) → K ends plains → v.said ≡ answer (pick v.side ends).group v.call → P
    names ends v
    → K (after names ends v) (plain_after names ends plains v) × R names ends v) where
  pub over_all : (es : List Event) (ends : Two End) (plains : Two Plain) → K ends plains → Mades ends es → Throughout P names ends es
      → K (course names ends es) (plain_course names ends plains es) × Throughout R names ends es
  unfolding course plain_course Throughout
  over_all [] ends plains k m t = (k, tt)
  over_all (v ∷ es) ends plains k m t =
      let x = mades_after names ends v es m in
      let y = one ends plains v k x.0 t.0 in
      let z = over_all es (after names ends v) (plain_after names ends plains v) y.0 x.1 t.1 in
      (z.0, (y.1, z.1))

-- THE BEGINNING
abbrev nothing_yet : Hidden
nothing_yet = record { ended = false; seen = record { x = 0; s = 0; over = false } }

abbrev pub both_hidden : Two Hidden
both_hidden = record { at_near = nothing_yet; at_far = nothing_yet }

abbrev pub both_plain : Two Plain
both_plain = record { at_near = plain_begun; at_far = plain_begun }

start_dir : (d d' : ℕ) (n : Names) (g h : Group)
    → Dir d d' n (out_of (begun g) plain_begun nothing_yet) (in_of n (begun h) plain_begun nothing_yet)
start_dir d d' n g h =
    record {
      Q_is = refl;
      order = omega arith;
      chain = omega arith;
      P_x = omega arith;
      caught_up = λ e. (refl, refl);
      way = there;
      over-is = λ e. absurd (false≢true e);
      unread = λ z l m. absurd (omega (arith, m));
      got_is = refl;
      read = record { holds_are = refl; each = λ j o e. absurd (no_origin j o e); many = refl };
    }
  where
    no_origin : (j : ℕ) (o : Origin) → get_elem? {A = Origin} [] j ≡ some o → ⊥
    no_origin j o e = clash (cc)

pub sound_of : (g : Group) → FromFresh g → Sound g
sound_of g w = subst Sound w.3 (sound_leaves w.2 w.0 (sound_fresh w.0 w.1))

module _ (names : Two Names) (g h : Group) {es : List Event} (w : AsLeft g h es) where
  abbrev pub datas : Two ℕ
  datas = record { at_near = data_of g.N; at_far = data_of h.N }

  pub full_of : (s : Side) → 0 < pick s datas
  full_of near = omega (arith, (sizes g (sound_of g w.near_fresh)).least)
  full_of far = omega (arith, (sizes h (sound_of h w.far_fresh)).least)

  start_end : (n m : Names) (d d' : ℕ) (g : Group) → Sound g → g.N ≡ d + 4 → AtEnd n m d d' g false (known_of plain_begun nothing_yet)
  start_end n m d d' g s z =
      record {
        sound = s;
        N_is = z;
        rec = λ e o. absurd (false≢true e);
        before = λ e. record { none_out = refl; none_in = refl; not_mute = refl; not_ended = refl };
      }

  pub begun_pair : PairAt names datas (both_begun g h) both_plain both_hidden near
  begun_pair =
      let n = names.at_near in
      let m = names.at_far in
      let d = data_of g.N in
      let d' = data_of h.N in
      record {
        at_e = start_end n m d d' g (sound_of g w.near_fresh) (omega (arith, full_of near));
        at_f = start_end m n d' d h (sound_of h w.far_fresh) (omega (arith, full_of far));
        to_f = start_dir d' d m g h;
        to_e = start_dir d d' n h g;
      }

  pub begun_mades : Mades (both_begun g h) es
  begun_mades near = (w.near_end, w.near_made)
  begun_mades far = (w.far_end, w.far_made)

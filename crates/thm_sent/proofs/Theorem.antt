-- Only what was sent; no one is turned away; the cursors are those of the plain engine; nothing is lost; and beginnings meet the premises
-- too. Over every list of events that meets the premises. Assumes nothing.
use mathlib.Core.Path.{◌≡◌, refl, sym, ap, ◌∙◌}
use mathlib.Core.Bool.{Bool, true, false, cond}
use mathlib.Core.List.{List, [], ◌∷◌, ◌++◌}
use Prim.Native.Nat.{ℕ, ◌-◌, ◌<◌}
use native.Mathlib.Omega.{arith}
use lib.ListN.{take}
use lib.Seq.{take_all}
use Rattle.cursor.specs.Cursor.{gap_of}
use Rattle.cursor.proofs.Positions.{gap_at}
use Rattle.conn_receive.specs.Receive.{unread_of}
use Rattle.group_rules.specs.Rules.{Group, answer}
use Rattle.thm_order.specs.Statement.{Made, none_made, one_made}
use Rattle.thm_refusals.proofs.Answers.{clash}
use Rattle.thm_sent.specs.Books.{Side, near, far, Two, pick, same_side, Event, calls_at, said_at, Names, Item, End, both_begun}
use Rattle.thm_sent.specs.OnlySent.{Asking, after, course, Throughout, StillOpen, OpenIf, Met, Premises, OnlySent, OnlyWhatWasSent}
use Rattle.thm_sent.specs.OnlySent.{BeginningsToo, NotTurnedAway, NoOneTurnedAway}
use Rattle.thm_sent.specs.Plain as Engine
use Rattle.thm_sent.specs.Plain.{Plain, Mark, plain_after, plain_course_of, CursorsArePlain}
use Rattle.thm_sent.specs.Reuse.{OwnOpen, UntilEach, OnlySentUntilEach, AllRead, NothingLost}
use Rattle.thm_sent.proofs.Way.{Way, there, a_byte, a_message, way_carries}
use Rattle.thm_sent.proofs.Direction.{got_long}
use Rattle.thm_sent.proofs.Pair.{Hidden, Pair, swap}
use Rattle.thm_sent.proofs.Run.{PairAt, event_step, over_all, both_hidden, both_plain, datas, full_of, begun_pair}
use Rattle.thm_sent.proofs.Run.{begun_mades}

-- ALL EVENTS
module _ (names : Two Names) (g h : Group) (es : List Event) (w : UntilEach names g h es) where
  abbrev ds : Two ℕ
  ds = datas names g h w.as_left

  abbrev Kept : Two End → Two Plain → Type 0
  Kept ends plains = (hs : Two Hidden) × PairAt names ds ends plains hs near

  one : (ends : Two End) (plains : Two Plain) (v : Event) → Kept ends plains → v.said ≡ answer (pick v.side ends).group v.call
      → Met OwnOpen names ends v
      → Kept (after names ends v) (plain_after names ends plains v) × NotTurnedAway names ends v
  one ends plains v k a-is met =
      let x = event_step names ds (full_of names g h w.as_left) ends plains k.0 k.1 v a-is met in ((_, x.pair), x.taken)

  pub ran : Kept (course names (both_begun g h) es) (plain_course_of names (both_begun g h) es)
      × Throughout NotTurnedAway names (both_begun g h) es
  ran =
      over_all names (Met OwnOpen) NotTurnedAway Kept one es (both_begun g h) both_plain (both_hidden, begun_pair names g h w.as_left)
      (begun_mades names g h w.as_left) w.throughout

  pub both_ends : Kept (course names (both_begun g h) es) (plain_course_of names (both_begun g h) es)
  both_ends = ran.0

-- OF ONE DIRECTION
only_sent_by : {n m : Names} {d d' : ℕ} {e f : End} {p q : Plain} {h k : Hidden} → Pair n m d d' e f p q h k → OnlySent e f
only_sent_by {f = f} w =
    let x = w.to_e in
    record {
      first_so_many = x.got_is ∙ ap (λ (j : ℕ). take j f.took) (sym (got_long x));
      from_element = x.read.holds_are;
      within_data = λ i o a. let y = x.read.each i o a in (y.0, omega (arith, y.1, w.at_e.N_is));
      where_put = λ i o a. (x.read.each i o a).2;
    }

at_end_by : {n m : Names} {d d' : ℕ} {e f : End} {p q : Plain} {h k : Hidden} → Pair n m d d' e f p q h k → Engine.AtEnd d d' n e p
at_end_by w =
    record {
      outward = λ o z. (w.at_e.rec o z).out_now;
      inward = λ o z. (w.at_e.rec o z).in_now;
      taken = w.to_f.Q_is;
      given = got_long w.to_e;
      messages = way_carries w.to_e.way;
    }

pub only_sent_until_each : OnlySentUntilEach
only_sent_until_each names g h es w =
    let x = (both_ends names g h es w).1 in ((only_sent_by x, only_sent_by (swap x)), (ran names g h es w).1)

-- LISTS
throughout_map : (P R : Asking) (names : Two Names) → ((ends : Two End) (v : Event) → P names ends v → R names ends v)
    → (es : List Event) (ends : Two End)
    → Throughout P names ends es → Throughout R names ends es
unfolding Throughout
throughout_map P R names f [] ends t = tt
throughout_map P R names f (v ∷ es) ends t = (f ends v t.0, throughout_map P R names f es (after names ends v) t.1)

pub throughout_both : (P R : Asking) (names : Two Names) (es : List Event) (ends : Two End) → Throughout P names ends es
    → Throughout R names ends es
    → Throughout (λ names ends v. P names ends v × R names ends v) names ends es
unfolding Throughout
throughout_both P R names [] ends t u = tt
throughout_both P R names (v ∷ es) ends t u = ((t.0, u.0), throughout_both P R names es (after names ends v) t.1 u.1)

throughout_begins : (P : Asking) (names : Two Names) (es rest : List Event) (ends : Two End) → Throughout P names ends (es ++ rest)
    → Throughout P names ends es
unfolding Throughout
throughout_begins P names [] rest ends t = tt
throughout_begins P names (v ∷ es) rest ends t = (t.0, throughout_begins P names es rest (after names ends v) t.1)

made_begins : (s : Side) (es rest : List Event) (g end : Group) → Made g (calls_at s (es ++ rest)) (said_at s (es ++ rest)) end
    → (mid : Group) × Made g (calls_at s es) (said_at s es) mid
unfolding calls_at said_at
made_begins s [] rest g end m = (g, none_made)
made_begins s (e ∷ es) rest g end m = go (same_side s e.side) (λ h w. made_begins s es rest h end w) m
  where
    go : (t : Bool)
        → ((h : Group) → Made h (calls_at s (es ++ rest)) (said_at s (es ++ rest)) end → (mid : Group) × Made h (calls_at s es) (said_at s es)
        mid)
        → Made g (cond t (e.call ∷ calls_at s (es ++ rest)) (calls_at s (es ++ rest)))
        (cond t (e.said ∷ said_at s (es ++ rest)) (said_at s (es ++ rest))) end
        → (mid : Group) × Made g (cond t (e.call ∷ calls_at s es) (calls_at s es)) (cond t (e.said ∷ said_at s es) (said_at s es)) mid
    go true more (one_made {h = h} d m) = let r = more h m in (r.0, one_made d r.1)
    go false more m = more g m

-- THE REQUEST'S PREMISES: the slot open at both ends is open at each
pub until_each : (names : Two Names) (g h : Group) (es : List Event) → Premises names g h es → UntilEach names g h es
until_each names g h es w =
    record { as_left = w.as_left; throughout = throughout_map (Met StillOpen) (Met OwnOpen) names own es (both_begun g h) w.throughout }
  where
    at : (s : Side) (ends : Two End) → OpenIf names.at_near ends.at_near × OpenIf names.at_far ends.at_far
        → OpenIf (pick s names) (pick s ends)
    at near ends t = t.0
    at far ends t = t.1

    own : (ends : Two End) (v : Event) → Met StillOpen names ends v → Met OwnOpen names ends v
    own ends v t = let is_open = at v.side ends t.is_open in search

pub only_what_was_sent : OnlyWhatWasSent
only_what_was_sent names g h es w = (only_sent_until_each names g h es (until_each names g h es w)).0

pub no_one_turned_away : NoOneTurnedAway
no_one_turned_away names g h es w = (only_sent_until_each names g h es (until_each names g h es w)).1

pub cursors_are_plain : CursorsArePlain
cursors_are_plain names g h es w =
    let x = (both_ends names g h es (until_each names g h es w)).1 in
    record { near_is = at_end_by x; far_is = at_end_by (swap x); to_far = x.to_f.order; to_near = x.to_e.order }

-- NOTHING IS LOST
way_end : {d d' : ℕ} {n : Names} {S : ℕ → Type 0} {took : List ℕ} {ended : Bool} {y t x s : ℕ} {l : List Item} {ms : List Mark}
    → Way d d' n S took ended y t x s l ms
    → l ≡ [] → x ≡ y
way_end there e = refl
way_end (a_byte b w) e = clash (cc)
way_end (a_message m w) e = clash (cc)

all_read_by : {n m : Names} {d d' : ℕ} {e f : End} {p q : Plain} {h k : Hidden} → 0 < d → Pair n m d d' e f p q h k → AllRead n e f
unfolding unread_of
all_read_by {d = d} {e = e} {f = f} {p = p} {q = q} full w o z live none-coming none-unread =
    let at = w.at_e.rec o z in
    let x = w.to_e in
    let end = way_end x.way none-coming in
    let four : e.group.N - 4 ≡ d = omega (arith, w.at_e.N_is) in
    let gap : p.inward.P - p.inward.C ≡ 0 =
    sym (gap_at d full p.inward.C p.inward.P x.order.C_P (omega (arith, x.order)))
    ∙ sym (λ i. gap_of (four i) (at.in_now.C_is i) (at.in_now.P_is i))
    ∙ none-unread
    in
    let all : p.inward.C ≡ q.outward.Q = omega (arith, gap, x.order.C_P, (x.caught_up (sym at.mute_is ∙ live)).0, end) in
    x.got_is ∙ ap (λ (j : ℕ). take j f.took) all ∙ take_all q.outward.Q f.took (omega (arith, x.Q_is))

pub nothing_lost : NothingLost
nothing_lost names g h es w =
    let v = until_each names g h es w in
    let x = (both_ends names g h es v).1 in
    (all_read_by (full_of names g h v.as_left near) x, all_read_by (full_of names g h v.as_left far) (swap x))

-- BEGINNINGS
pub beginnings_too : BeginningsToo
beginnings_too names g h es rest w =
    let a = w.as_left in
    let mn = made_begins near es rest g a.near_end a.near_made in
    let mf = made_begins far es rest h a.far_end a.far_made in
    record {
      as_left =
          record {
            near_fresh = a.near_fresh;
            far_fresh = a.far_fresh;
            near_end = mn.0;
            far_end = mf.0;
            near_made = mn.1;
            far_made = mf.1;
          };
      throughout = throughout_begins (Met StillOpen) names es rest (both_begun g h) w.throughout;
    }

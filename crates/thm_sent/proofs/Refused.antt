-- Refused calls may stand among the events: they leave the group, and no byte is taken or read by them. Assumes nothing.
use mathlib.Core.Path.{◌≡◌, refl, sym, ap, ◌∙◌, subst}
use mathlib.Core.Bool.{Bool, true, false, ◌&&◌, cond}
use mathlib.Core.List.{List, ◌∷◌, ◌++◌, append-nil}
use Prim.Native.Nat.{ℕ}
use lib.ListN.{length, take}
use Rattle.group_rules.specs.Rules.{Group, Call, on, hear, manage, open_slot, free_slot, link_change, link_message, link_send, sample, Says, refusal}
use Rattle.group_rules.specs.Rules.{Answer, answer, next}
use Rattle.thm_order.specs.Statement.{Made, one_made}
use Rattle.thm_refusals.proofs.Refusals.{refused_keeps}
use Rattle.thm_safety.specs.Statement.{accepted_b}
use Rattle.thm_positions.specs.Positions.{read_in}
use Rattle.thm_sent.specs.Books.{Side, near, far, Two, pick, other_side, both, Event, Names, Aim, sends, places, reads, finishes, hears}
use Rattle.thm_sent.specs.Books.{elsewhere, aim_of, same_side, calls_at, said_at, taken_by, End, both_begun, with_group, acted, called, reached}
use Rattle.thm_sent.specs.OnlySent.{match_b, opens_b, waited, mine_after, theirs_after, after, course}
use Rattle.thm_sent.specs.Reuse.{UntilEach, Without, both_end, keeps, strikes, SameBooks, RefusedMayStand}
use Rattle.thm_sent.proofs.Run.{Mades, made_first, mades_after, begun_mades}
use Rattle.thm_sent.proofs.Theorem.{only_sent_until_each}

-- A REFUSED CALL leaves the group
stays : (g : Group) (c : Call) {a : Answer} (k : ℕ) → a ≡ answer g c → a.says ≡ refusal k → next g c ≡ g
stays g c k a-is e = (refused_keeps g c k (ap (λ (x : Answer). x.says) (sym a-is) ∙ e)).0

-- so the calls that are left were made, with the same answers
made_left : (s : Side) {es rest : List Event} → Without es rest → (g : Group) {end : Group} → Made g (calls_at s es) (said_at s es) end
    → Made g (calls_at s rest) (said_at s rest) end
unfolding calls_at said_at
made_left s both_end g m = m
made_left s (keeps {e = e} {es = es} {rest = rest} w) g {end} m = go (same_side s e.side) (λ h. made_left s w h) m
  where
    go : (t : Bool) → ((h : Group) → Made h (calls_at s es) (said_at s es) end → Made h (calls_at s rest) (said_at s rest) end)
        → Made g (cond t (e.call ∷ calls_at s es) (calls_at s es)) (cond t (e.said ∷ said_at s es) (said_at s es)) end
        → Made g (cond t (e.call ∷ calls_at s rest) (calls_at s rest)) (cond t (e.said ∷ said_at s rest) (said_at s rest)) end
    go true more (one_made {h = h} d m) = one_made d (more h m)
    go false more m = more g m
made_left s (strikes {e = e} {es = es} {rest = rest} k why w) g {end} m = go (same_side s e.side) (λ h. made_left s w h) m
  where
    go : (t : Bool) → ((h : Group) → Made h (calls_at s es) (said_at s es) end → Made h (calls_at s rest) (said_at s rest) end)
        → Made g (cond t (e.call ∷ calls_at s es) (calls_at s es)) (cond t (e.said ∷ said_at s es) (said_at s es)) end
        → Made g (calls_at s rest) (said_at s rest) end
    go true more m =
        let d = made_first m in
        more g (subst (λ (h : Group). Made h (calls_at s es) (said_at s es) end) (stays g e.call k d.0 why) d.1)
    go false more m = more g m

-- BOOKS
same_then : {d e f : End} → SameBooks d e → SameBooks e f → SameBooks d f
same_then x y =
    record {
      group_is = x.group_is ∙ y.group_is;
      opened_is = x.opened_is ∙ y.opened_is;
      took_is = x.took_is ∙ y.took_is;
      got_is = x.got_is ∙ y.got_is;
    }

same_self : (e : End) → SameBooks e e
same_self e = search

no_open : (n m : Names) (N : ℕ) (c : Call) (a : Answer) → accepted_b a.says ≡ false → opens_b n m N c a ≡ false
unfolding opens_b
no_open n m N (on k q) a e = refl
no_open n m N (hear b) a e = refl
no_open n m N (manage (open_slot k o)) a e = ap (λ (t : Bool). t && match_b n m N k o) e
no_open n m N (manage (free_slot k)) a e = refl
no_open n m N (manage (link_change l up b)) a e = refl
no_open n m N (manage (link_message l b out)) a e = refl
no_open n m N (manage (link_send l k vs b)) a e = refl
no_open n m N (manage (sample l ms)) a e = refl

module _ (n m : Names) (c : Call) (a : Answer) where
  -- what a call takes and reads is told by its answer
  acted_same : {e e' : End} (x : Aim) → SameBooks e e'
      → SameBooks (with_group (acted n e a x) (next e.group c)) (with_group (acted n e' a x) (next e'.group c))
  acted_same {e} {e'} x y = by x
    where
      g : next e.group c ≡ next e'.group c
      g = ap (λ (z : Group). next z c) y.group_is

      by : (x : Aim) → SameBooks (with_group (acted n e a x) (next e.group c)) (with_group (acted n e' a x) (next e'.group c))
      by (sends u b) =
          let t = ap (λ (l : List ℕ). l ++ take (taken_by a.says) b) y.took_is in
          record { group_is = g; opened_is = y.opened_is; took_is = t; got_is = y.got_is }
      by (places at b) = search
      by (reads out) =
          let r = ap (λ (l : List ℕ). l ++ take (read_in a.says) a.out) y.got_is in
          record { group_is = g; opened_is = y.opened_is; took_is = y.took_is; got_is = r }
      by finishes = search
      by (hears b) = search
      by elsewhere = search

  -- refused, nothing
  acted_none : (e : End) (k : ℕ) → next e.group c ≡ e.group → a.says ≡ refusal k → (x : Aim)
      → SameBooks (with_group (acted n e a x) (next e.group c)) e
  acted_none e k g why x = by x
    where
      by : (x : Aim) → SameBooks (with_group (acted n e a x) (next e.group c)) e
      by (sends u b) =
          record {
            group_is = g;
            opened_is = refl;
            took_is = ap (λ (s : Says). e.took ++ take (taken_by s) b) why ∙ append-nil e.took;
            got_is = refl;
          }
      by (places at b) = search
      by (reads out) =
          record {
            group_is = g;
            opened_is = refl;
            took_is = refl;
            got_is = ap (λ (s : Says). e.read.got ++ take (read_in s) a.out) why ∙ append-nil e.read.got;
          }
      by finishes = search
      by (hears b) = search
      by elsewhere = search

  -- ONE EVENT at e; f is the other end. Kept in both lists
  kept_mine : {e f e' f' : End} → SameBooks e e' → SameBooks f f' → SameBooks (mine_after n m e f c a) (mine_after n m e' f' c a)
  unfolding mine_after called waited
  kept_mine {e} {f} {e'} {f'} x y = go e.opened e'.opened x.opened_is
    where
      same : (t : Bool)
          → SameBooks (cond t (called n e c a) (waited n m e f.group.N c a))
          (cond t (called n e' c a) (waited n m e' f'.group.N c a))
      same true = acted_same (aim_of n c) x
      same false =
          record {
            group_is = ap (λ (g : Group). next g c) x.group_is;
            opened_is = ap (λ (g : Group). opens_b n m g.N c a) y.group_is;
            took_is = x.took_is;
            got_is = x.got_is;
          }

      go : (t u : Bool) → t ≡ u
          → SameBooks (cond t (called n e c a) (waited n m e f.group.N c a))
          (cond u (called n e' c a) (waited n m e' f'.group.N c a))
      go t u z =
          subst (λ (u : Bool). SameBooks (cond t (called n e c a) (waited n m e f.group.N c a))
          (cond u (called n e' c a) (waited n m e' f'.group.N c a))) z (same t)

  -- struck from one
  struck_mine : (e f : End) (k : ℕ) → a ≡ answer e.group c → a.says ≡ refusal k → SameBooks (mine_after n m e f c a) e
  unfolding mine_after called waited
  struck_mine e f k a-is why = go e.opened refl
    where
      go : (t : Bool) → e.opened ≡ t → SameBooks (cond t (called n e c a) (waited n m e f.group.N c a)) e
      go true z = acted_none e k (stays e.group c k a-is why) why (aim_of n c)
      go false z =
          record {
            group_is = stays e.group c k a-is why;
            opened_is = no_open n m f.group.N c a (ap accepted_b why) ∙ sym z;
            took_is = refl;
            got_is = refl;
          }

  theirs : (e f : End) → SameBooks (theirs_after n e f c a) f
  unfolding theirs_after reached
  theirs e f = go e.opened
    where
      go : (t : Bool) → SameBooks (cond t (reached n e c a f) f) f
      go true = search
      go false = same_self f

-- ALL EVENTS
abbrev SameBoth : Two End → Two End → Type 0
SameBoth ends left = (s : Side) → SameBooks (pick s ends) (pick s left)

same_back : {e f : End} → SameBooks e f → SameBooks f e
same_back x = record { group_is = sym x.group_is; opened_is = sym x.opened_is; took_is = sym x.took_is; got_is = sym x.got_is }

module _ (names : Two Names) where
  both_same : (s : Side) {e f e' f' : End} → SameBooks e e' → SameBooks f f' → SameBoth (both s e f) (both s e' f')
  both_same near x y near = x
  both_same near x y far = y
  both_same far x y near = y
  both_same far x y far = x

  both_from : (s : Side) {e f : End} (left : Two End) → SameBooks e (pick s left) → SameBooks f (pick (other_side s) left)
      → SameBoth (both s e f) left
  both_from near left x y near = x
  both_from near left x y far = y
  both_from far left x y near = y
  both_from far left x y far = x

  same_books : {es rest : List Event} → Without es rest → (ends left : Two End) → SameBoth ends left → Mades ends es
      → SameBoth (course names ends es) (course names left rest)
  unfolding course after
  same_books both_end ends left w m = w
  same_books (keeps {e = e} {es = es} x) ends left w m =
      let s = e.side in
      let o = other_side s in
      let n = pick s names in
      same_books x (after names ends e) (after names left e)
      (both_same s (kept_mine n (pick o names) e.call e.said (w s) (w o))
      (same_then (theirs n n e.call e.said (pick s ends) (pick o ends))
      (same_then (w o) (same_back (theirs n n e.call e.said (pick s left) (pick o left))))))
      (mades_after names ends e es m).1
  same_books (strikes {e = e} {es = es} k why x) ends left w m =
      let s = e.side in
      let o = other_side s in
      let n = pick s names in
      let d = mades_after names ends e es m in
      same_books x (after names ends e) left
      (both_from s left (same_then (struck_mine n (pick o names) e.call e.said (pick s ends) (pick o ends) k d.0 why) (w s))
      (same_then (theirs n n e.call e.said (pick s ends) (pick o ends)) (w o)))
      d.1

pub refused_may_stand : RefusedMayStand
refused_may_stand names g h es rest w =
    let l = w.as_left in
    let start = both_begun g h in
    let met : UntilEach names g h rest =
    record {
      as_left =
          record {
            near_fresh = l.near_fresh;
            far_fresh = l.far_fresh;
            near_end = l.near_end;
            far_end = l.far_end;
            near_made = made_left near w.without g l.near_made;
            far_made = made_left far w.without h l.far_made;
          };
      throughout = w.throughout;
    }
    in
    let same = same_books names w.without start start (λ s. same_self (pick s start)) (begun_mades names g h l) in
    let only = only_sent_until_each names g h rest met in
    record {
      met = met;
      near_same = same near;
      far_same = same far;
      near_only = carried (same near).got_is (same far).took_is only.0.0.first_so_many;
      far_only = carried (same far).got_is (same near).took_is only.0.1.first_so_many;
    }
  where
    carried : {got got' took took' : List ℕ} → got ≡ got' → took ≡ took' → got' ≡ take (length got') took' → got ≡ take (length got) took
    carried p q e = p ∙ e ∙ sym (λ i. take (length (p i)) (q i))

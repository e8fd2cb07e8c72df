-- Lists of events, each call answered by the rules on the group as last left; and the premises of request 2026-14 as tests, which imply
-- them. Two groups of two slots, elements of 8 bytes. Assumes nothing.
use mathlib.Core.Path.{◌≡◌, refl, sym, ap, ◌∙◌, subst}
use mathlib.Core.Bool.{Bool, true, false, ◌&&◌, ◌||◌, not, cond, false≢true}
use mathlib.Core.List.{List, [], ◌∷◌}
use Prim.Native.Nat.{ℕ, zero, suc, ◌+◌, ◌*◌, ◌<◌}
use native.Mathlib.Omega.{arith}
use lib.Dec.{eqb}
use lib.ListN.{replicate, length, get_or}
use borrow.Author.Tests.{eqb-true}
use Rattle.cdc.specs.Cdc.{decode_of, encode_of}
use Rattle.conn_record.specs.declared.Opening.{Opening}
use Rattle.conn_record.specs.declared.RToken.{RToken}
use Rattle.conn_record.specs.declared.Remote.{Remote}
use Rattle.conn_record.proofs.Laws.{and_left, and_right}
use Rattle.group_rules.specs.Rules.{Group, Call, on, hear, manage, open_slot, free_slot, link_change, link_message, link_send, sample, Answer, answer}
use Rattle.group_rules.specs.Rules.{link_of}
use Rattle.thm_order.specs.Statement.{Made, none_made, one_made, leaves}
use Rattle.thm_order.proofs.Witness.{a_group, a_fresh_group}
use Rattle.thm_sent.specs.Books.{Side, near, far, Two, pick, same_side, Event, calls_at, said_at, Names, Aim, sends, places, reads, finishes}
use Rattle.thm_sent.specs.Books.{hears, elsewhere, Item, owed, message, lands_in, End, both_begun}
use Rattle.thm_sent.specs.OnlySent.{Asking, aim_at, IfComes, AllPerformed, OwedIn, here, later, FirstIs, after, course, Throughout}
use Rattle.thm_sent.specs.OnlySent.{OpenThere, OpenIf, StillOpen, AsLeft, Met, Premises}
use Rattle.thm_sent.specs.Reuse.{OwnOpen, UntilEach, NotFreed}
use Rattle.thm_sent.proofs.Run.{mine_group, theirs_group}

-- a call at a side; or the first message under way to it is heard
pub data Step : Type 0 where
  does : Side → Call → Step
  hears_at : Side → Step

abbrev pub first_of : List Item → List ℕ
first_of [] = []
first_of (owed o ∷ l) = first_of l
first_of (message b ∷ l) = b

abbrev pub event_of : Two End → Step → Event
event_of ends (does s c) = record { side = s; call = c; said = answer (pick s ends).group c }
event_of ends (hears_at s) =
    let c = hear (first_of (pick s ends).coming) in record { side = s; call = c; said = answer (pick s ends).group c }

abbrev pub happened : Two Names → Two End → List Step → List Event
happened names ends [] = []
happened names ends (x ∷ l) = let v = event_of ends x in v ∷ happened names (after names ends v) l

-- as last left, whatever is called
answered : (ends : Two End) (x : Step) → (event_of ends x).said ≡ answer (pick (event_of ends x).side ends).group (event_of ends x).call
answered ends (does s c) = refl
answered ends (hears_at s) = refl

made : (names : Two Names) (l : List Step) (ends : Two End) (t : Side)
    → let es = happened names ends l in
    Made (pick t ends).group (calls_at t es) (said_at t es) (pick t (course names ends es)).group
unfolding calls_at said_at course after
made names [] ends t = none_made
made names (x ∷ l) ends t =
    let v = event_of ends x in go v.side v.call v.said (answered ends x) t (made names l (after names ends v) t)
  where
    go : (s : Side) (c : Call) (a : Answer) → a ≡ answer (pick s ends).group c
        → (t : Side) {cs : List Call} {said : List Answer} {end : Group}
        → Made (pick t (after names ends (record { side = s; call = c; said = a }))).group cs said end
        → Made (pick t ends).group (cond (same_side t s) (c ∷ cs) cs) (cond (same_side t s) (a ∷ said) said) end
    go near c a z near m =
        one_made (record { answered = z; left = mine_group names.at_near names.at_far ends.at_near ends.at_far c a }) m
    go near c a z far {cs} {said} {end} m =
        subst (λ (g : Group). Made g cs said end) (theirs_group names.at_near ends.at_near ends.at_far c a) m
    go far c a z near {cs} {said} {end} m =
        subst (λ (g : Group). Made g cs said end) (theirs_group names.at_far ends.at_far ends.at_near c a) m
    go far c a z far m =
        one_made (record { answered = z; left = mine_group names.at_far names.at_near ends.at_far ends.at_near c a }) m

abbrev pub start : Two End
start = both_begun a_group a_group

pub as_left : (names : Two Names) (l : List Step) → AsLeft a_group a_group (happened names start l)
unfolding leaves
as_left names l =
    record {
      near_fresh = (a_group, a_fresh_group, [], refl);
      far_fresh = (a_group, a_fresh_group, [], refl);
      near_end = _;
      far_end = _;
      near_made = made names l start near;
      far_made = made names l start far;
    }

-- THE PREMISES AS TESTS
abbrev comes_b : (ℕ → List ℕ → Bool) → (List ℕ → Bool) → Aim → Bool
comes_b p h (sends u b) = true
comes_b p h (places at b) = p at b
comes_b p h (reads out) = true
comes_b p h finishes = true
comes_b p h (hears b) = h b
comes_b p h elsewhere = true

comes_by : {P : ℕ → List ℕ → Type 0} {H : List ℕ → Type 0} (p : ℕ → List ℕ → Bool) (h : List ℕ → Bool)
    → ((at : ℕ) (b : List ℕ) → p at b ≡ true → P at b)
    → ((b : List ℕ) → h b ≡ true → H b) → (aim : Aim) → comes_b p h aim ≡ true → IfComes P H aim
comes_by p h f g (sends u b) e = tt
comes_by p h f g (places at b) e = f at b e
comes_by p h f g (reads out) e = tt
comes_by p h f g finishes e = tt
comes_by p h f g (hears b) e = g b e
comes_by p h f g elsewhere e = tt

abbrev performed_b : List Item → Bool
performed_b [] = true
performed_b (owed o ∷ l) = o.performed && performed_b l
performed_b (message m ∷ l) = true

performed_by : (l : List Item) → performed_b l ≡ true → AllPerformed l
performed_by [] e = tt
performed_by (owed o ∷ l) e = (and_left o.performed (performed_b l) e, performed_by l (and_right o.performed (performed_b l) e))
performed_by (message m ∷ l) e = tt

abbrev owed_b : Names → ℕ → ℕ → ℕ → List Item → Bool
owed_b n N x v [] = false
owed_b n N x v (owed o ∷ l) = (lands_in n N x 1 o && eqb o.byte v) || owed_b n N x v l
owed_b n N x v (message m ∷ l) = owed_b n N x v l

owed_by : (n : Names) (N x v : ℕ) (l : List Item) → owed_b n N x v l ≡ true → OwedIn n N x v l
owed_by n N x v [] e = absurd (false≢true e)
owed_by n N x v (owed o ∷ l) e = go (lands_in n N x 1 o && eqb o.byte v) refl e (owed_by n N x v l)
  where
    go : (t : Bool) → lands_in n N x 1 o && eqb o.byte v ≡ t → t || owed_b n N x v l ≡ true → (owed_b n N x v l ≡ true → OwedIn n N x v l)
        → OwedIn n N x v (owed o ∷ l)
    go true z e more = here (and_left (lands_in n N x 1 o) _ z) (eqb-true o.byte v (and_right (lands_in n N x 1 o) _ z))
    go false z e more = later (more e)
owed_by n N x v (message m ∷ l) e = later (owed_by n N x v l e)

abbrev each_b : Names → ℕ → List Item → ℕ → List ℕ → Bool
each_b n N l at [] = true
each_b n N l at (v ∷ b) = owed_b n N at v l && each_b n N l (suc at) b

each_by : (n : Names) (N : ℕ) (l : List Item) (at : ℕ) (b : List ℕ) → each_b n N l at b ≡ true → (i : ℕ) → i < length b
    → OwedIn n N (at + i) (get_or b i 0) l
each_by n N l at [] e i h = absurd (omega arith)
each_by n N l at (v ∷ b) e zero h =
    let z : at + 0 ≡ at = omega arith in rw z (owed_by n N at v l (and_left (owed_b n N at v l) _ e))
each_by n N l at (v ∷ b) e (suc i) h =
    let z : at + suc i ≡ suc at + i = omega arith in rw z (each_by n N l (suc at) b (and_right (owed_b n N at v l) _ e) i (omega arith))

abbrev same_bytes_of : List ℕ → List ℕ → Bool
same_bytes_of [] [] = true
same_bytes_of [] (y ∷ b) = false
same_bytes_of (x ∷ a) [] = false
same_bytes_of (x ∷ a) (y ∷ b) = eqb x y && same_bytes_of a b

same_by : (a b : List ℕ) → same_bytes_of a b ≡ true → a ≡ b
same_by [] [] e = refl
same_by [] (y ∷ b) e = absurd (false≢true e)
same_by (x ∷ a) [] e = absurd (false≢true e)
same_by (x ∷ a) (y ∷ b) e =
    let h = eqb-true x y (and_left (eqb x y) _ e) in
    let t = same_by a b (and_right (eqb x y) _ e) in
    λ i. h i ∷ t i

abbrev is_first_b : List ℕ → List Item → Bool
is_first_b b [] = false
is_first_b b (owed o ∷ l) = is_first_b b l
is_first_b b (message m ∷ l) = same_bytes_of b m

first_by : (b : List ℕ) (l : List Item) → is_first_b b l ≡ true → FirstIs b l
first_by b [] e = absurd (false≢true e)
first_by b (owed o ∷ l) e = first_by b l e
first_by b (message m ∷ l) e = ap decode_of (same_by b m e)

abbrev open_if_b : Names → End → Bool
open_if_b n e = not e.opened || OpenThere n e

open_by : (n : Names) (e : End) → open_if_b n e ≡ true → OpenIf n e
open_by n e z o = subst (λ (t : Bool). not t || OpenThere n e ≡ true) o z

-- which end must be open: both, or its own
abbrev pub both_b : Two Names → Two End → Event → Bool
both_b names ends v = open_if_b names.at_near ends.at_near && open_if_b names.at_far ends.at_far

abbrev pub own_b : Two Names → Two End → Event → Bool
own_b names ends v = open_if_b (pick v.side names) (pick v.side ends)

pub both_by : (names : Two Names) (ends : Two End) (v : Event) → both_b names ends v ≡ true → StillOpen names ends v
both_by names ends v e = (
  open_by names.at_near ends.at_near (and_left (open_if_b names.at_near ends.at_near) _ e),
  open_by names.at_far ends.at_far (and_right (open_if_b names.at_near ends.at_near) _ e),
)

pub own_by : (names : Two Names) (ends : Two End) (v : Event) → own_b names ends v ≡ true → OwnOpen names ends v
own_by names ends v e = open_by (pick v.side names) (pick v.side ends) e

module _ (Open : Asking) (open_b : Two Names → Two End → Event → Bool)
    (by : (names : Two Names) (ends : Two End) (v : Event) → open_b names ends v ≡ true → Open names ends v) (names : Two Names) where
  abbrev met_b : Two End → Event → Bool
  met_b ends v =
      let e = pick v.side ends in
      let n = pick v.side names in
      open_b names ends v
      && comes_b (λ at b. link_of e.group n.slot && each_b n e.group.N e.coming at b)
      (λ b. link_of e.group n.slot && (performed_b e.coming && is_first_b b e.coming)) (aim_at names ends v)

  met_by : (ends : Two End) (v : Event) → met_b ends v ≡ true → Met Open names ends v
  met_by ends v z =
      let e = pick v.side ends in
      let n = pick v.side names in
      let l = link_of e.group n.slot in
      let c = and_right (open_b names ends v) _ z in
      record {
        is_open = by names ends v (and_left (open_b names ends v) _ z);
        link_active = comes_by _ _ (λ at b y. and_left l _ y) (λ b y. and_left l _ y) (aim_at names ends v) c;
        no_others = comes_by _ _ (λ at b y. each_by n e.group.N e.coming at b (and_right l _ y)) (λ b y. tt) (aim_at names ends v) c;
        performed_before =
            comes_by _ _ (λ at b y. tt) (λ b y. performed_by e.coming (and_left (performed_b e.coming) _ (and_right l _ y)))
            (aim_at names ends v) c;
        heard_in_order =
            comes_by _ _ (λ at b y. tt) (λ b y. first_by b e.coming (and_right (performed_b e.coming) _ (and_right l _ y)))
            (aim_at names ends v) c;
      }

  abbrev pub throughout_b : Two End → List Event → Bool
  throughout_b ends [] = true
  throughout_b ends (v ∷ es) = met_b ends v && throughout_b (after names ends v) es

  pub throughout_by : (es : List Event) (ends : Two End) → throughout_b ends es ≡ true → Throughout (Met Open) names ends es
  unfolding Throughout
  throughout_by [] ends e = tt
  throughout_by (v ∷ es) ends e =
      (met_by ends v (and_left (met_b ends v) _ e), throughout_by es (after names ends v) (and_right (met_b ends v) _ e))

pub met_both : (names : Two Names) (l : List Step) → throughout_b StillOpen both_b both_by names start (happened names start l) ≡ true
    → Premises names a_group a_group (happened names start l)
met_both names l e =
    record { as_left = as_left names l; throughout = throughout_by StillOpen both_b both_by names (happened names start l) start e }

pub met_each : (names : Two Names) (l : List Step) → throughout_b OwnOpen own_b own_by names start (happened names start l) ≡ true
    → UntilEach names a_group a_group (happened names start l)
met_each names l e =
    record { as_left = as_left names l; throughout = throughout_by OwnOpen own_b own_by names (happened names start l) start e }

-- no slot is freed
abbrev frees_b : Call → Bool
frees_b (on k q) = false
frees_b (hear b) = false
frees_b (manage (open_slot k o)) = false
frees_b (manage (free_slot k)) = true
frees_b (manage (link_change l up b)) = false
frees_b (manage (link_message l b out)) = false
frees_b (manage (link_send l k vs b)) = false
frees_b (manage (sample l ms)) = false

abbrev pub unfreed_b : List Event → Bool
unfreed_b [] = true
unfreed_b (v ∷ es) = not (frees_b v.call) && unfreed_b es

pub unfreed_by : (s : Side) (names : Two Names) (es : List Event) (ends : Two End) → unfreed_b es ≡ true
    → Throughout (NotFreed s) names ends es
unfolding Throughout
unfreed_by s names [] ends e = tt
unfreed_by s names (v ∷ es) ends e = (
  λ o z c. absurd (false≢true (sym (ap (λ (x : Call). not (frees_b x)) c) ∙ and_left (not (frees_b v.call)) _ e)),
  unfreed_by s names es (after names ends v) (and_right (not (frees_b v.call)) _ e),
)

-- TWO CONNECTIONS. Near: slot 1; far: slot 2. Each memory has a key and a base of its own on each link of the other
abbrev near_reach : ℕ → RToken
near_reach l = record { key = 100 + l; base = 1000 * l }

abbrev far_reach : ℕ → RToken
far_reach l = record { key = 200 + l; base = 5000 + 1000 * l }

-- near's own token and link, and far's
abbrev pub named : ℕ → ℕ → ℕ → ℕ → Two Names
named own link own' link' =
    record {
      at_near = record { slot = 1; own = own; link = link; reach = near_reach };
      at_far = record { slot = 2; own = own'; link = link'; reach = far_reach };
    }

abbrev given : ℕ → ℕ → ℕ → ℕ → (ℕ → RToken) → Opening
given own peer link index r =
    let remote : Remote = record { size = 8; index = index; link1 = r 1; link2 = r 2; link3 = r 3; link4 = r 4 } in
    record { own = own; peer = peer; link = link; remote = remote }

abbrev pub opens_both : ℕ → ℕ → ℕ → ℕ → List Step
opens_both own link own' link' =
    does near (manage (open_slot 1 (given own own' link 2 far_reach))) ∷ does far (manage (open_slot 2 (given own' own link' 1 near_reach)))
    ∷ []

-- link l, with a buffer for two messages
abbrev pub set_link : Side → ℕ → Bool → Step
set_link s l up = does s (manage (link_change l up (replicate 88 0)))

-- the first: tokens 7 and 9, links 1 and 2
abbrev pub names : Two Names
names = named 7 1 9 2

abbrev pub opens : List Step
opens = set_link near 1 true ∷ set_link far 2 true ∷ opens_both 7 1 9 2

-- the same calls, as steps
abbrev pub again : List Event → List Step
again [] = []
again (v ∷ es) = does v.side v.call ∷ again es

-- a message without D, C or A, with F or not, by its number, token, and both cursors' offsets, no lap done
abbrev pub msg : ℕ → ℕ → ℕ → ℕ → Bool → List ℕ
msg number token p c f =
    encode_of (record {
      sequence = number;
      token = token;
      producer = record { offset = p; wrap = 0 };
      consumer = record { offset = c; wrap = 0 };
      flags =
          record {
            blocked = false;
            pending = false;
            urgent = false;
            request = false;
            failover = f;
            done = false;
            closed = false;
            abort = false;
          };
    })

-- The theorems of specs/Statements.
-- Assumes nothing.
use mathlib.Core.Path.{◌≡◌, ◌∙◌, refl, ap, sym, subst}
use mathlib.Core.Bool.{Bool, true, false, ◌&&◌, not, cond}
use mathlib.Core.List.{List, [], ◌∷◌}
use Prim.Native.Nat.{ℕ, zero, suc, ◌+◌, ◌-◌, ◌≤◌, ◌<◌, min}
use native.Mathlib.Omega.{arith}
use lib.Dec.{eqb, ltb, leb}
use lib.ListN.{length, set, replicate}
use lib.Seq.{get_or-set_same, get_or-set_other}
use borrow.Author.Tests.{eqb-true, leb-false, ltb-true, lt-ltb}
use Rattle.link_message.specs.declared.Kind.{Kind}
use Rattle.link_exchange.specs.declared.Exchange.{Exchange}
use Rattle.link_exchange.specs.declared.Waiting.{Waiting}
use Rattle.link_exchange.specs.declared.Queue.{Queue}
use Rattle.link_exchange.specs.declared.Fate.TheVariants.{Taken}
use Rattle.link_exchange.specs.declared.Touch.{Touch}
use Rattle.link_exchange.specs.declared.Touch.TheVariants.{Nothing, Up, Down, All}
use Rattle.link_exchange.specs.declared.Said.{Said}
use Rattle.link_exchange.specs.Exchange.{no_exchange, due_b, went_on, due_touch, empty_queue, full_b, queued, without_oldest, most_waiting, no_waiting, place_in, runs_over, sort_of, ends_b}
use Rattle.link_exchange.specs.Fates.{arriving_of, fate_at, fate_number, or_denied, fate_of, taken_exchange, taken_touch, sent_touch}
use Rattle.group_table.specs.declared.Links.{Links}
use Rattle.group_table.specs.Table.{link_in, link_set}
use Rattle.link_calls.specs.declared.Settled.{Settled}
use Rattle.link_calls.specs.declared.Heard.{Heard}
use Rattle.link_calls.specs.declared.Sent.{Sent}
use Rattle.link_message.specs.Layouts.{encode_of}
use Rattle.link_calls.specs.Calls.{touched, settled_of, unchanged, change_touch, changed_of, message_refusal, optional_b, send_refusal, no_reply, message_work, heard_work, nothing_heard, heard_of, heard_in, fate_no, sent_work, sent_of, sent_in}
use Rattle.thm_links.specs.Statements.{Call, does, next, RoleStays, LinksTouched, Refused, RefusedKeeps, Behind, FirstTaken, Emptied, Order, KeepsOrder, AtMostFour, NoneOverDown, Idle, AllEnds, EndsDown, Confirmed, BecomesActive, Deleted, Told, HeardDown, GoesDown}
use Rattle.thm_links.specs.Statements.Call.{change, message, send}
use Rattle.thm_links.specs.Statements.Order.{kept, behind, first_taken, emptied}
use Rattle.thm_links.specs.Statements.HeardDown.{replied, told}

pub pick : {A : Type 0} (P : A → Type 0) (b : Bool) (x y : A) → P x → P y → P (cond b x y)
pick P true x y p q = p
pick P false x y p q = q

-- each call leaves all as it was, or is settled
module _ (P : Settled → Type 0) (g : Links) (keeps : P (unchanged g)) where
  pub change_cases : (l : ℕ) (up : Bool) → P (settled_of g g.exchange (change_touch l up) g.queue false) → P (changed_of g l up)
  unfolding changed_of
  change_cases l up h =
      pick P (link_in l) (settled_of g g.exchange (change_touch l up) g.queue false) (unchanged g) h keeps

  pub heard_cases : (l : ℕ) (b : List ℕ)
      → P (message_work g l b (heard_in g b) (due_b g.exchange l (heard_in g b)) (fate_no g l (heard_in g b))) → P (heard_of g l b).settled
  unfolding heard_of heard_work nothing_heard
  heard_cases l b h =
      let m = heard_in g b in
      let f = fate_no g l m in
      let j = message_refusal g l b m f in
      pick (λ (r : Heard). P r.settled) (eqb j 0 && not (optional_b b)) (heard_work g l b m (due_b g.exchange l m) f) (nothing_heard g j) h keeps

  pub sent_cases : (l : ℕ) (k : Kind) (vs : List ℕ)
      → P (sent_work g l (sent_in g k vs) (due_b g.exchange l (sent_in g k vs))) → P (sent_of g l k vs).settled
  unfolding sent_of
  sent_cases l k vs h =
      let m = sent_in g k vs in
      let due = due_b g.exchange l m in
      let j = send_refusal g l m due in
      pick (λ (r : Sent). P r.settled) (eqb j 0) (record { refusal = 0; message = encode_of k vs; settled = sent_work g l m due })
      (record { refusal = j; message = no_reply; settled = unchanged g }) h keeps

-- of all that is settled alike
every_call : (P : Settled → Type 0) (g : Links) → P (unchanged g)
    → ((x : Exchange) (t : Touch) (q : Queue) (due : Bool) → P (settled_of g x t q due)) → (c : Call) → P (does g c)
unfolding message_work sent_work
every_call P g u s (change l up) = change_cases P g u l up (s _ _ _ _)
every_call P g u s (message l b) = heard_cases P g u l b (s _ _ _ _)
every_call P g u s (send l k vs) = sent_cases P g u l k vs (s _ _ _ _)

set_role : (g : Links) (l : ℕ) (up : Bool) → (link_set g l up).role ≡ g.role
unfolding link_set
set_role g l true = refl
set_role g l false = refl

pub touched_role : (g : Links) (t : Touch) → (touched g t).role ≡ g.role
unfolding touched
touched_role g Nothing = refl
touched_role g (Up l) = set_role g l true
touched_role g (Down l) = set_role g l false
touched_role g All = set_role _ 4 false ∙ set_role _ 3 false ∙ set_role _ 2 false ∙ set_role g 1 false

pub role_stays : RoleStays
unfolding unchanged settled_of
role_stays g c = every_call (λ s. s.after.role ≡ g.role) g refl (λ x t q due. touched_role g t) c

pub links_touched : LinksTouched
unfolding unchanged settled_of touched
links_touched g c =
    every_call
    (λ s. (s.after.active ≡ (touched g s.touch).active) × (s.after.gauges ≡ (touched g s.touch).gauges)) g (refl, refl)
    (λ x t q due. (refl, refl)) c

-- an exchange that ended is run over no link
none_over : (l : ℕ) → runs_over no_exchange l ≡ false
unfolding runs_over
none_over l = refl

ended_not : (x : Exchange) (l : ℕ) (b : Bool) → runs_over x l ≡ b → runs_over (cond b no_exchange x) l ≡ false
ended_not x l true e = none_over l
ended_not x l false e = e

settled_over : (g : Links) (x : Exchange) (t : Touch) (q : Queue) (due : Bool) (l : ℕ) → t ≡ Down l
    → runs_over (settled_of g x t q due).after.exchange l ≡ false
unfolding settled_of ends_b
settled_over g x Nothing q due l e = let z : ◌≡◌ {A = ℕ} 0 1 = cc in absurd (omega arith)
settled_over g x (Up k) q due l e = let z : ◌≡◌ {A = ℕ} 0 1 = cc in absurd (omega arith)
settled_over g x (Down k) q due l e =
    let s : k ≡ l = cc in
    ap (λ (j : ℕ). runs_over (cond (runs_over x k) no_exchange x) j) (sym s) ∙ ended_not x k (runs_over x k) refl
settled_over g x All q due l e = let z : ◌≡◌ {A = ℕ} 0 1 = cc in absurd (omega arith)

pub none_over_down : NoneOverDown
unfolding unchanged settled_of
none_over_down g c l =
    every_call (λ s. s.touch ≡ Down l → runs_over s.after.exchange l ≡ false) g
    (λ e. let z : ◌≡◌ {A = ℕ} 0 1 = cc in absurd (omega arith)) (λ x t q due e. settled_over g x t q due l e) c

-- what ends is idle
none_waits : (due : Bool) (a : Bool) → (due && (a && ltb 0 empty_queue.count)) ≡ false
unfolding empty_queue
none_waits true true = refl
none_waits true false = refl
none_waits false true = refl
none_waits false false = refl

pub settled_idle : (g : Links) (x : Exchange) (t : Touch) (q : Queue) (due : Bool) → ends_b x t ≡ true → Idle (settled_of g x t q due).after
unfolding settled_of
settled_idle g x t q due e =
    record {
      ended = ap (λ (b : Bool). cond b no_exchange x) e;
      empty =
          ap
          (λ (b : Bool).
          cond (due && (eqb x.stage 0 && ltb 0 (cond b empty_queue q).count)) (without_oldest (cond b empty_queue q)) (cond b empty_queue q))
          e
          ∙ ap (λ (b : Bool). cond b (without_oldest empty_queue) empty_queue) (none_waits due (eqb x.stage 0));
    }

all_ended : (g : Links) (x : Exchange) (t : Touch) (q : Queue) (due : Bool) → t ≡ All → Idle (settled_of g x t q due).after
unfolding ends_b
all_ended g x t q due e = settled_idle g x t q due (ap (ends_b x) e)

pub all_ends : AllEnds
unfolding unchanged settled_of
all_ends g c =
    every_call (λ s. s.touch ≡ All → Idle s.after) g (λ e. let z : ◌≡◌ {A = ℕ} 0 1 = cc in absurd (omega arith))
    (λ x t q due e. all_ended g x t q due e) c

pub down_ended : (g : Links) (l : ℕ) → runs_over g.exchange l ≡ true → Idle (settled_of g g.exchange (change_touch l false) g.queue false).after
unfolding change_touch ends_b
down_ended g l r = settled_idle g g.exchange (change_touch l false) g.queue false r

pub ends_down : EndsDown
unfolding unchanged settled_of
ends_down g l r =
    change_cases (λ s. s.touch ≡ Down l → Idle s.after) g (λ e. let z : ◌≡◌ {A = ℕ} 0 1 = cc in absurd (omega arith)) l false
    (λ e. down_ended g l r)

-- becoming active
due_up : (x : Exchange) (l : ℕ) → due_touch x ≡ Up l → (x.stage ≡ 4) × (x.w ≡ l)
unfolding due_touch
due_up x l e = go (eqb x.stage 4) refl (eqb x.stage 5) e
  where
    go : (a : Bool) → eqb x.stage 4 ≡ a → (b : Bool) → cond a (Up x.w) (cond b (Down x.w) Nothing) ≡ Up l → (x.stage ≡ 4) × (x.w ≡ l)
    go true h b f = let s : x.w ≡ l = cc in (eqb-true x.stage 4 h, s)
    go false h true f = let z : ◌≡◌ {A = ℕ} 0 1 = cc in absurd (omega arith)
    go false h false f = let z : ◌≡◌ {A = ℕ} 0 1 = cc in absurd (omega arith)

taken_up_never : (m : Said) (f l : ℕ) → taken_touch m f ≡ Up l → ⊥
unfolding taken_touch
taken_up_never m f l e = go (eqb (arriving_of m) 4 && eqb f 0) (eqb (arriving_of m) 5 && eqb f 0) e
  where
    go : (a b : Bool) → cond a (Down m.link) (cond b All Nothing) ≡ Up l → ⊥
    go true b f = let z : ◌≡◌ {A = ℕ} 0 1 = cc in omega arith
    go false true f = let z : ◌≡◌ {A = ℕ} 0 1 = cc in omega arith
    go false false f = let z : ◌≡◌ {A = ℕ} 0 1 = cc in omega arith

sent_up_never : (m : Said) (l : ℕ) → sent_touch m ≡ Up l → ⊥
unfolding sent_touch
sent_up_never m l e = go (eqb m.kind 0x04 && m.a) e
  where
    go : (a : Bool) → cond a All Nothing ≡ Up l → ⊥
    go true f = let z : ◌≡◌ {A = ℕ} 0 1 = cc in omega arith
    go false f = let z : ◌≡◌ {A = ℕ} 0 1 = cc in omega arith

confirmed : (g : Links) (L : ℕ) (m : Said) (l : ℕ) (t : Touch) (d : Bool) → due_b g.exchange L m ≡ d
    → (t ≡ Up l → ⊥) → cond d (due_touch g.exchange) t ≡ Up l → Confirmed g L m l
confirmed g L m l t true h n e = let u = due_up g.exchange l e in record { due = h; stage = u.0; named = u.1 }
confirmed g L m l t false h n e = absurd (n e)

changed_up : (L l : ℕ) (up : Bool) → change_touch L up ≡ Up l → (L ≡ l) × (up ≡ true)
unfolding change_touch
changed_up L l true e = let s : L ≡ l = cc in (s, refl)
changed_up L l false e = let z : ◌≡◌ {A = ℕ} 0 1 = cc in absurd (omega arith)

pub becomes_active : BecomesActive
unfolding unchanged settled_of message_work sent_work
becomes_active g (change L up) l =
    change_cases (λ s. s.touch ≡ Up l → (L ≡ l) × (up ≡ true)) g (λ e. let z : ◌≡◌ {A = ℕ} 0 1 = cc in absurd (omega arith)) L up
    (λ e. changed_up L l up e)
becomes_active g (message L b) l =
    heard_cases (λ s. s.touch ≡ Up l → Confirmed g L (heard_in g b) l) g (λ e. let z : ◌≡◌ {A = ℕ} 0 1 = cc in absurd (omega arith)) L b
    (λ e. confirmed g L (heard_in g b) l _ _ refl (λ f. taken_up_never (heard_in g b) _ l f) e)
becomes_active g (send L k vs) l =
    sent_cases (λ s. s.touch ≡ Up l → Confirmed g L (sent_in g k vs) l) g (λ e. let z : ◌≡◌ {A = ℕ} 0 1 = cc in absurd (omega arith)) L k vs
    (λ e. confirmed g L (sent_in g k vs) l _ _ refl (λ f. sent_up_never (sent_in g k vs) l f) e)

-- going down
pub due_down : (x : Exchange) (l : ℕ) → due_touch x ≡ Down l → (x.stage ≡ 5) × (x.w ≡ l)
unfolding due_touch
due_down x l e = go (eqb x.stage 4) (eqb x.stage 5) refl e
  where
    go : (a b : Bool) → eqb x.stage 5 ≡ b → cond a (Up x.w) (cond b (Down x.w) Nothing) ≡ Down l → (x.stage ≡ 5) × (x.w ≡ l)
    go true b h f = let z : ◌≡◌ {A = ℕ} 0 1 = cc in absurd (omega arith)
    go false true h f = let s : x.w ≡ l = cc in (eqb-true x.stage 5 h, s)
    go false false h f = let z : ◌≡◌ {A = ℕ} 0 1 = cc in absurd (omega arith)

and_first : (a c : Bool) → (a && c) ≡ true → a ≡ true
and_first true c e = refl
and_first false c e = e

pub taken_down : (m : Said) (f l : ℕ) → taken_touch m f ≡ Down l → Told m l
unfolding taken_touch
taken_down m f l e = go (eqb (arriving_of m) 4 && eqb f 0) refl (eqb (arriving_of m) 5 && eqb f 0) e
  where
    go : (a : Bool) → (eqb (arriving_of m) 4 && eqb f 0) ≡ a → (b : Bool) → cond a (Down m.link) (cond b All Nothing) ≡ Down l → Told m l
    go true h b f = let s : m.link ≡ l = cc in record { line = eqb-true _ 4 (and_first (eqb (arriving_of m) 4) _ h); named = s }
    go false h true f = let z : ◌≡◌ {A = ℕ} 0 1 = cc in absurd (omega arith)
    go false h false f = let z : ◌≡◌ {A = ℕ} 0 1 = cc in absurd (omega arith)

pub sent_down_never : (m : Said) (l : ℕ) → sent_touch m ≡ Down l → ⊥
unfolding sent_touch
sent_down_never m l e = go (eqb m.kind 0x04 && m.a) e
  where
    go : (a : Bool) → cond a All Nothing ≡ Down l → ⊥
    go true f = let z : ◌≡◌ {A = ℕ} 0 1 = cc in omega arith
    go false f = let z : ◌≡◌ {A = ℕ} 0 1 = cc in omega arith

heard_down : (g : Links) (L : ℕ) (m : Said) (f l : ℕ) (d : Bool) → due_b g.exchange L m ≡ d
    → cond d (due_touch g.exchange) (taken_touch m f) ≡ Down l → HeardDown g L m l
heard_down g L m f l true h e = let u = due_down g.exchange l e in replied (record { due = h; stage = u.0; named = u.1 })
heard_down g L m f l false h e = told (taken_down m f l e)

sent_down : (g : Links) (L : ℕ) (m : Said) (l : ℕ) (d : Bool) → due_b g.exchange L m ≡ d
    → cond d (due_touch g.exchange) (sent_touch m) ≡ Down l → Deleted g L m l
sent_down g L m l true h e = let u = due_down g.exchange l e in record { due = h; stage = u.0; named = u.1 }
sent_down g L m l false h e = absurd (sent_down_never m l e)

changed_down : (L l : ℕ) (up : Bool) → change_touch L up ≡ Down l → (L ≡ l) × (up ≡ false)
unfolding change_touch
changed_down L l true e = let z : ◌≡◌ {A = ℕ} 0 1 = cc in absurd (omega arith)
changed_down L l false e = let s : L ≡ l = cc in (s, refl)

pub goes_down : GoesDown
unfolding unchanged settled_of message_work sent_work
goes_down g (change L up) l =
    change_cases (λ s. s.touch ≡ Down l → (L ≡ l) × (up ≡ false)) g (λ e. let z : ◌≡◌ {A = ℕ} 0 1 = cc in absurd (omega arith)) L up
    (λ e. changed_down L l up e)
goes_down g (message L b) l =
    heard_cases (λ s. s.touch ≡ Down l → HeardDown g L (heard_in g b) l) g (λ e. let z : ◌≡◌ {A = ℕ} 0 1 = cc in absurd (omega arith)) L b
    (λ e. heard_down g L (heard_in g b) _ l _ refl e)
goes_down g (send L k vs) l =
    sent_cases (λ s. s.touch ≡ Down l → Deleted g L (sent_in g k vs) l) g (λ e. let z : ◌≡◌ {A = ℕ} 0 1 = cc in absurd (omega arith)) L k vs
    (λ e. sent_down g L (sent_in g k vs) l _ refl e)

-- the queue
data Course (q : Queue) (b : List Waiting) : Queue → Type 0 where
  stays : Course q b q
  one_behind : (m : Waiting) → b ≡ m ∷ [] → ltb q.count 4 ≡ true → Course q b (record { count = q.count + 1; places = set q.places q.count m })
  one_taken : ltb 0 q.count ≡ true → Course q b (without_oldest q)
  none_left : Course q b empty_queue

takes_order : (q : Queue) (b : List Waiting) (ended a due : Bool)
    → Course q b (cond (due && (a && ltb 0 (cond ended empty_queue q).count)) (without_oldest (cond ended empty_queue q)) (cond ended empty_queue q))
takes_order q b true a due = subst (λ (z : Bool). Course q b (cond z (without_oldest empty_queue) empty_queue)) (sym (none_waits due a)) none_left
takes_order q b false a due = go due a (ltb 0 q.count) refl
  where
    go : (due a z : Bool) → ltb 0 q.count ≡ z → Course q b (cond (due && (a && z)) (without_oldest q) q)
    go true true true e = one_taken e
    go true true false e = stays
    go true false z e = stays
    go false a z e = stays

queued_course : (q : Queue) (m : Waiting) → Course q (m ∷ []) (queued q m)
unfolding queued full_b
queued_course q m = go (leb 4 q.count) refl
  where
    go : (z : Bool) → leb 4 q.count ≡ z → Course q (m ∷ []) (cond z q (record { count = q.count + 1; places = set q.places q.count m }))
    go true e = stays
    go false e = one_behind m refl (lt-ltb q.count 4 (omega (arith, leb-false 4 q.count e)))

-- what is due is taken
due_taken : (g : Links) (l : ℕ) (m : Said) → due_b g.exchange l m ≡ true → fate_no g l m ≡ 0
unfolding fate_of
due_taken g l m h = ap (λ (d : Bool). fate_number (cond d Taken (or_denied m (fate_at (arriving_of m) (sort_of g.exchange))))) h

heard_order : (g : Links) (l : ℕ) (b : List ℕ) (m : Said) (due : Bool) (f : ℕ) → (due ≡ true → f ≡ 0)
    → Course g.queue (record { link = l; bytes = b } ∷ []) (message_work g l b m due f).after.queue
unfolding message_work settled_of
heard_order g l b m true f h =
    let x = went_on g.exchange m in
    subst
    (λ (k : ℕ).
    Course g.queue (record { link = l; bytes = b } ∷ [])
    (settled_of g x (due_touch g.exchange) (cond (eqb k 1) (queued g.queue (record { link = l; bytes = b })) g.queue) true).after.queue)
    (sym (h refl)) (takes_order g.queue _ (ends_b x (due_touch g.exchange)) (eqb x.stage 0) true)
heard_order g l b m false f h =
    pick (Course g.queue _) (ends_b (taken_exchange g.exchange l m f) (taken_touch m f)) empty_queue _ none_left
    (pick (Course g.queue _) (eqb f 1) (queued g.queue (record { link = l; bytes = b })) g.queue (queued_course g.queue _) stays)

settled_order : (g : Links) (x : Exchange) (t : Touch) (due : Bool) → Course g.queue [] (settled_of g x t g.queue due).after.queue
unfolding settled_of
settled_order g x t due = takes_order g.queue [] (ends_b x t) (eqb x.stage 0) due

kept_order : (g : Links) (b : List Waiting) → Course g.queue b (unchanged g).after.queue
unfolding unchanged
kept_order g b = stays

-- the message that a call may put into the queue
abbrev own : Call → List Waiting
own (change l up) = []
own (message l b) = record { link = l; bytes = b } ∷ []
own (send l k vs) = []

goes : (g : Links) (c : Call) → Course g.queue (own c) (next g c).queue
unfolding sent_work
goes g (change L up) = change_cases (λ s. Course g.queue [] s.after.queue) g (kept_order g []) L up (settled_order g _ _ false)
goes g (message L b) =
    heard_cases (λ s. Course g.queue (own (message L b)) s.after.queue) g (kept_order g _) L b
    (heard_order g L b (heard_in g b) _ _ (due_taken g L (heard_in g b)))
goes g (send L k vs) = sent_cases (λ s. Course g.queue [] s.after.queue) g (kept_order g []) L k vs (settled_order g _ _ _)

is_behind : (q : Queue) (m : Waiting) → length q.places ≡ 4 → ltb q.count 4 ≡ true
    → Behind q m (record { count = q.count + 1; places = set q.places q.count m })
is_behind q m four e =
    record {
      one_more = refl;
      last = get_or-set_same q.places q.count m _ (omega (arith, four, ltb-true q.count 4 e));
      others = λ i n. get_or-set_other q.places q.count i m _ (λ p. n p);
    }

is_first : (q : Queue) → ltb 0 q.count ≡ true → FirstTaken q (without_oldest q)
unfolding without_oldest
is_first q e = record { one_less = omega (arith, ltb-true 0 q.count e); up_by_one = up; last_zero = refl }
  where
    up : (i : ℕ) → i < 3 → place_in (record { count = min q.count 4 - 1; places = place_in q 1 ∷ place_in q 2 ∷ place_in q 3 ∷ no_waiting ∷ [] }) i ≡ place_in q (i + 1)
    up zero h = refl
    up (suc zero) h = refl
    up (suc (suc zero)) h = refl
    up (suc (suc (suc i))) h = absurd (omega (arith, h))

is_empty : Emptied empty_queue
unfolding empty_queue
is_empty = record { none = refl; zeros = zeros }
  where
    zeros : (i : ℕ) → i < 4 → place_in (record { count = 0; places = replicate 4 no_waiting }) i ≡ no_waiting
    zeros zero h = refl
    zeros (suc zero) h = refl
    zeros (suc (suc zero)) h = refl
    zeros (suc (suc (suc zero))) h = refl
    zeros (suc (suc (suc (suc i)))) h = absurd (omega (arith, h))

first-is : (m w : Waiting) → ◌≡◌ {A = List Waiting} (w ∷ []) (m ∷ []) → m ≡ w
first-is m w e = cc

pub keeps_order : KeepsOrder
keeps_order g c four = at c (next g c).queue (goes g c)
  where
    at : (c : Call) (r : Queue) → Course g.queue (own c) r → Order g.queue c r
    at c r stays = kept refl
    at (change l up) r (one_behind m e h) = let z : ◌≡◌ {A = ℕ} 0 1 = cc in absurd (omega arith)
    at (message l b) r (one_behind m e h) = behind l b refl (subst (λ (w : Waiting). Behind g.queue w r) (first-is m (record { link = l; bytes = b }) e) (is_behind g.queue m four h))
    at (send l k vs) r (one_behind m e h) = let z : ◌≡◌ {A = ℕ} 0 1 = cc in absurd (omega arith)
    at c r (one_taken e) = first_taken (is_first g.queue e)
    at c r none_left = emptied is_empty

order_four : (p : Queue) (b : List Waiting) (q : Queue) → Course p b q → p.count ≤ most_waiting → q.count ≤ most_waiting
unfolding without_oldest empty_queue
order_four p b q stays h = h
order_four p b q (one_behind m e f) h = omega (arith, ltb-true p.count 4 f)
order_four p b q (one_taken e) h = omega arith
order_four p b q none_left h = omega arith

pub at_most_four : AtMostFour
at_most_four g c h = order_four g.queue _ _ (goes g c) h

-- a refused call
heard_refused : (g : Links) (r : Heard) (t : Bool) (w : Heard) (j : ℕ) → w.refusal ≡ 0 → r ≡ cond t w (nothing_heard g j)
    → Refused g r.refusal r.settled
unfolding nothing_heard unchanged
heard_refused g r true w j z e = record { kept = λ n. absurd (n (ap (λ (h : Heard). h.refusal) e ∙ z)) }
heard_refused g r false w j z e = record { kept = λ n. ap (λ (h : Heard). h.settled.after) e }

pub refused_keeps : RefusedKeeps
unfolding heard_of sent_of heard_work unchanged
refused_keeps g l b k vs =
    let m = heard_in g b in
    let f = fate_no g l m in
    let j = message_refusal g l b m f in
    let n = sent_in g k vs in
    let due = due_b g.exchange l n in
    let i = send_refusal g l n due in (
      heard_refused g _ (eqb j 0 && not (optional_b b)) (heard_work g l b m (due_b g.exchange l m) f) j refl refl,
      go (eqb i 0) i (record { refusal = 0; message = encode_of k vs; settled = sent_work g l n due }) refl,
    )
  where
    go : (t : Bool) (i : ℕ) (w : Sent) → w.refusal ≡ 0
        → Refused g (cond t w (record { refusal = i; message = no_reply; settled = unchanged g })).refusal
        (cond t w (record { refusal = i; message = no_reply; settled = unchanged g })).settled
    go true i w z = record { kept = λ x. absurd (x z) }
    go false i w z = record { kept = λ x. refl }

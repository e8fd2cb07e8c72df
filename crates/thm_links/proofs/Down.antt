-- What takes links down, of specs/Course: it does. Assumes nothing.
use Prim.Native.Nat.{ℕ, zero, suc, ◌<◌}
use mathlib.Core.Path.{◌≡◌, ◌∙◌, refl, ap, sym}
use mathlib.Core.Bool.{Bool, true, false, ◌&&◌, ◌||◌, not, cond}
use mathlib.Core.List.{List, [], ◌∷◌}
use native.Mathlib.Omega.{arith}
use lib.Dec.{eqb, leb}
use lib.ListN.{get_or, set}
use borrow.Author.Tests.{eqb-true, leb-true, eq-eqb}
use Rattle.link_message.specs.Llc.{class_of, optional}
use Rattle.link_message.specs.declared.Kind.{Kind}
use Rattle.link_message.specs.Layouts.{code_of, kind_of, named_b, read_of, encode_of}
use Rattle.link_message.proofs.Named.{kinds_named}
use Rattle.link_exchange.specs.declared.Exchange.{Exchange}
use Rattle.link_exchange.specs.declared.Fate.TheVariants.{Taken, Denied}
use Rattle.link_exchange.specs.declared.Touch.{Touch}
use Rattle.link_exchange.specs.declared.Touch.TheVariants.{Down, All}
use Rattle.link_exchange.specs.declared.Said.{Said}
use Rattle.link_exchange.specs.Exchange.{said_of, stages, due_b, due_touch, sort_of}
use Rattle.link_exchange.specs.Fates.{arriving_of, fates, fate_at, fate_number, is_fate, bad_mtu, fate_of, taken_touch, sent_touch}
use Rattle.group_table.specs.declared.Links.{Links}
use Rattle.group_table.specs.Table.{link_in, active_b, with_link, link_set}
use Rattle.link_calls.specs.declared.Settled.{Settled}
use Rattle.link_calls.specs.declared.Sent.{Sent}
use Rattle.link_calls.specs.Calls.{no_fields, first, fields_in, touched, settled_of, unchanged, optional_b, message_refusal, heard_in, fate_no, message_work, heard_work, nothing_heard, heard_of, send_refusal, sent_work, sent_in, sent_of, no_reply}
use Rattle.thm_links.specs.Statements.{Call, does, next}
use Rattle.thm_links.specs.Statements.Call.{message, send}
use Rattle.thm_links.specs.Course.{GroupDown, WholeGroup, AllDownByA, ServersDelete, DownByServer, DownByReply}
use Rattle.thm_links.proofs.Theorems.{links_touched, all_ends}

clash : {A : Type 0} → ◌≡◌ {A = ℕ} 0 1 → A
clash e = absurd (omega (arith, e))

and_first : (a c : Bool) → (a && c) ≡ true → a ≡ true
and_first true c e = refl
and_first false c e = e

and_second : (a c : Bool) → (a && c) ≡ true → c ≡ true
and_second true c e = e
and_second false c e = let z : false ≡ true = e in clash (cc)

-- A LINK SET DOWN is down, and others stay down
set_there : (l : List Bool) (i : ℕ) → get_or (set l i false) i false ≡ false
set_there [] zero = refl
set_there [] (suc i) = refl
set_there (x ∷ l) zero = refl
set_there (x ∷ l) (suc i) = set_there l i

set_stays : (l : List Bool) (i j : ℕ) → get_or l j false ≡ false → get_or (set l i false) j false ≡ false
set_stays [] zero j e = e
set_stays [] (suc i) j e = e
set_stays (x ∷ l) zero zero e = refl
set_stays (x ∷ l) zero (suc j) e = e
set_stays (x ∷ l) (suc i) zero e = e
set_stays (x ∷ l) (suc i) (suc j) e = set_stays l i j e

down_there : (g : Links) (l : ℕ) → active_b (link_set g l false).active l ≡ false
unfolding active_b link_set with_link
down_there g zero = refl
down_there g (suc i) = set_there g.active i

down_stays : (g : Links) (k l : ℕ) → active_b g.active l ≡ false → active_b (link_set g k false).active l ≡ false
unfolding active_b link_set with_link
down_stays g zero l e = e
down_stays g (suc i) zero e = refl
down_stays g (suc i) (suc j) e = set_stays g.active i j e

past : (l : ℕ) {A : Type 0} → 4 < l → link_in l ≡ true → A
past l h e = absurd (omega (arith, h, leb-true l 4 (and_second (leb 1 l) (leb l 4) e)))

all_down_lem : (g : Links) (l : ℕ) → link_in l ≡ true → active_b (touched g All).active l ≡ false
unfolding touched
all_down_lem g zero e = let z : false ≡ true = e in clash (cc)
all_down_lem g (suc zero) e = down_stays _ 4 1 (down_stays _ 3 1 (down_stays _ 2 1 (down_there g 1)))
all_down_lem g (suc (suc zero)) e = down_stays _ 4 2 (down_stays _ 3 2 (down_there _ 2))
all_down_lem g (suc (suc (suc zero))) e = down_stays _ 4 3 (down_there _ 3)
all_down_lem g (suc (suc (suc (suc zero)))) e = down_there _ 4
all_down_lem g (suc (suc (suc (suc (suc l))))) e = past (suc (suc (suc (suc (suc l))))) (omega arith) e

-- WHAT A DELETE LINK IS. Its first byte is 04, so it is not optional
first_04 : (b : List ℕ) → code_of (fields_in b).kind ≡ 0x04 → first b ≡ 0x04
unfolding fields_in no_fields
first_04 b e = go (named_b (first b)) (sym (kinds_named (first b))) e
  where
    go : (n : Bool) → eqb (code_of (kind_of (first b))) (first b) ≡ n
        → code_of (cond n (record { named = true; kind = kind_of (first b); values = read_of (kind_of (first b)) b }) no_fields).kind ≡ 0x04
        → first b ≡ 0x04
    go true h e = sym (eqb-true _ _ h) ∙ e
    go false h e = let z : ◌≡◌ {A = ℕ} 1 4 = e in absurd (omega (arith, z))

heard_04 : (g : Links) (b : List ℕ) → (heard_in g b).kind ≡ 0x04 → first b ≡ 0x04
unfolding said_of
heard_04 g b e = first_04 b e

not_optional : (b : List ℕ) → first b ≡ 0x04 → optional_b b ≡ false
unfolding optional_b class_of
not_optional b e = ap (λ (x : ℕ). eqb (class_of x) optional) e

-- a request with kind 04 is never due
and_off : (a : Bool) → (a && false) ≡ false
and_off true = refl
and_off false = refl

not_due : (x : Exchange) (l : ℕ) (m : Said) → m.kind ≡ 0x04 → m.reply ≡ false → due_b x l m ≡ false
unfolding due_b stages
not_due x l m k r = simp (k, r, and_off)

-- its line of the table
line_5 : (m : Said) → m.kind ≡ 0x04 → m.reply ≡ false → m.a ≡ true → arriving_of m ≡ 5
unfolding arriving_of
line_5 m k r a = simp (k, r, a)

line_4 : (m : Said) → m.kind ≡ 0x04 → m.reply ≡ false → m.a ≡ false → m.client ≡ false → arriving_of m ≡ 4
unfolding arriving_of
line_4 m k r a c = simp (k, r, a, c)

-- THE SORT is one of four
sort_is : (P : ℕ → Type 0) (x : Exchange) → P 0 → (sort_of x ≡ 1 → P 1) → (sort_of x ≡ 2 → P 2) → P 3 → P (sort_of x)
unfolding sort_of
sort_is P x idle adds deletes keys = go (eqb x.stage 0) (leb x.stage 4) (eqb x.stage 5) adds deletes
  where
    go : (a b c : Bool) → (◌≡◌ {A = ℕ} (cond a 0 (cond b 1 (cond c 2 3))) 1 → P 1) → (◌≡◌ {A = ℕ} (cond a 0 (cond b 1 (cond c 2 3))) 2 → P 2)
        → P (cond a 0 (cond b 1 (cond c 2 3)))
    go true b c f h = idle
    go false true c f h = f refl
    go false false true f h = h refl
    go false false false f h = keys

-- the fate of a request with A is taken, whatever runs
fate_5 : (x : Exchange) (l : ℕ) (m : Said) → m.kind ≡ 0x04 → m.reply ≡ false → m.a ≡ true → fate_number (fate_of x l m) ≡ 0
unfolding fate_of bad_mtu fate_at fates
fate_5 x l m k r a =
    (λ i. fate_number (cond (not_due x l m k r i) Taken (cond ((eqb (line_5 m k r a i) 2 && not (leb 1 m.mtu && leb m.mtu 5)) && is_fate (fate_at (line_5 m k r a i) (sort_of x)) Taken) Denied (fate_at (line_5 m k r a i) (sort_of x)))))
    ∙ sort_is (λ s. fate_number (fate_at 5 s) ≡ 0) x refl (λ e. refl) (λ e. refl) refl

-- the server's, where neither an add nor a delete runs
fate_4 : (g : Links) (l : ℕ) (m : Said) → ServersDelete g m → fate_number (fate_of g.exchange l m) ≡ 0
unfolding fate_of bad_mtu fate_at fates
fate_4 g l m d =
    let k = d.is_04 in
    let r = d.request in
    let e = line_4 m k r d.not-all d.from_the_server in
    (λ i. fate_number (cond (not_due g.exchange l m k r i) Taken (cond ((eqb (e i) 2 && not (leb 1 m.mtu && leb m.mtu 5)) && is_fate (fate_at (e i) (sort_of g.exchange)) Taken) Denied (fate_at (e i) (sort_of g.exchange)))))
    ∙ sort_is (λ s. fate_number (fate_at 4 s) ≡ 0) g.exchange refl (λ z. absurd (d.not_adding z)) (λ z. absurd (d.not_deleting z)) refl

-- WHAT IS HEARD and not refused is settled
heard_is : (g : Links) (l : ℕ) (b : List ℕ) → (heard_of g l b).refusal ≡ 0 → optional_b b ≡ false
    → (heard_of g l b).settled ≡ message_work g l b (heard_in g b) (due_b g.exchange l (heard_in g b)) (fate_no g l (heard_in g b))
unfolding heard_of heard_work nothing_heard
heard_is g l b = go (eqb j 0) (optional_b b) refl
  where
    m : Said
    m = heard_in g b

    f : ℕ
    f = fate_no g l m

    j : ℕ
    j = message_refusal g l b m f

    go : (z o : Bool) → eqb j 0 ≡ z
        → (cond (z && not o) (heard_work g l b m (due_b g.exchange l m) f) (nothing_heard g j)).refusal ≡ 0 → o ≡ false
        → (cond (z && not o) (heard_work g l b m (due_b g.exchange l m) f) (nothing_heard g j)).settled
        ≡ message_work g l b m (due_b g.exchange l m) f
    go true false e h p = refl
    go true true e h p = clash (cc)
    go false o e h p = let z : false ≡ true = sym e ∙ eq-eqb j 0 h in clash (cc)

sent_is : (g : Links) (l : ℕ) (k : Kind) (vs : List ℕ) → (sent_of g l k vs).refusal ≡ 0
    → (sent_of g l k vs).settled ≡ sent_work g l (sent_in g k vs) (due_b g.exchange l (sent_in g k vs))
unfolding sent_of
sent_is g l k vs = go (eqb j 0) refl
  where
    m : Said
    m = sent_in g k vs

    due : Bool
    due = due_b g.exchange l m

    j : ℕ
    j = send_refusal g l m due

    go : (z : Bool) → eqb j 0 ≡ z
        → (cond {A = Sent} z (record { refusal = 0; message = encode_of k vs; settled = sent_work g l m due })
        (record { refusal = j; message = no_reply; settled = unchanged g })
        ).refusal
        ≡ 0
        → (cond {A = Sent} z (record { refusal = 0; message = encode_of k vs; settled = sent_work g l m due })
        (record { refusal = j; message = no_reply; settled = unchanged g })
        ).settled
        ≡ sent_work g l m due
    go true e h = refl
    go false e h = let z : false ≡ true = sym e ∙ eq-eqb j 0 h in clash (cc)

-- what each does to the links
touch_5 : (m : Said) (f : ℕ) → arriving_of m ≡ 5 → f ≡ 0 → taken_touch m f ≡ All
unfolding taken_touch
touch_5 m f e z = simp (e, z)

touch_4 : (m : Said) (f : ℕ) → arriving_of m ≡ 4 → f ≡ 0 → taken_touch m f ≡ Down m.link
unfolding taken_touch
touch_4 m f e z = simp (e, z)

touch_sent : (m : Said) → m.kind ≡ 0x04 → m.a ≡ true → sent_touch m ≡ All
unfolding sent_touch
touch_sent m k a = simp (k, a)

not_due_touch : (g : Links) (l : ℕ) (b : List ℕ) (m : Said) (due : Bool) (f : ℕ) → due ≡ false → (message_work g l b m due f).touch ≡ taken_touch m f
unfolding message_work settled_of
not_due_touch g l b m due f e = ap (λ (d : Bool). cond d (due_touch g.exchange) (taken_touch m f)) e

sent_not_due : (g : Links) (l : ℕ) (m : Said) (due : Bool) → due ≡ false → (sent_work g l m due).touch ≡ sent_touch m
unfolding sent_work settled_of
sent_not_due g l m due e = ap (λ (d : Bool). cond d (due_touch g.exchange) (sent_touch m)) e

due_touch_lem : (g : Links) (l : ℕ) (b : List ℕ) (m : Said) (due : Bool) (f : ℕ) → due ≡ true → (message_work g l b m due f).touch ≡ due_touch g.exchange
unfolding message_work settled_of
due_touch_lem g l b m due f e = ap (λ (d : Bool). cond d (due_touch g.exchange) (taken_touch m f)) e

-- all four
group_down : (g : Links) (c : Call) → (does g c).touch ≡ All → GroupDown (next g c)
group_down g c t =
    record {
      all = λ l h. ap (λ (a : List Bool). active_b a l) ((links_touched g c).0 ∙ ap (λ (u : Touch). (touched g u).active) t) ∙ all_down_lem g l h;
      idle = all_ends g c t;
    }

pub all_down_by_a : AllDownByA
all_down_by_a g l b k vs = (heard, sent)
  where
    heard : (heard_of g l b).refusal ≡ 0 → WholeGroup (heard_in g b) → GroupDown (next g (message l b))
    heard r (is, rq, a) =
        let m = heard_in g b in
        group_down g (message l b)
        (ap (λ (s : Settled). s.touch) (heard_is g l b r (not_optional b (heard_04 g b is)))
        ∙ not_due_touch g l b m _ _ (not_due g.exchange l m is rq)
        ∙ touch_5 m _ (line_5 m is rq a) (fate_5 g.exchange l m is rq a))

    sent : (sent_of g l k vs).refusal ≡ 0 → WholeGroup (sent_in g k vs) → GroupDown (next g (send l k vs))
    sent r (is, rq, a) =
        let m = sent_in g k vs in
        group_down g (send l k vs)
        (ap (λ (s : Settled). s.touch) (sent_is g l k vs r) ∙ sent_not_due g l m _ (not_due g.exchange l m is rq) ∙ touch_sent m is a)

-- one
one_down : (g : Links) (c : Call) (l : ℕ) → (does g c).touch ≡ Down l → active_b (next g c).active l ≡ false
unfolding touched
one_down g c l t =
    ap (λ (a : List Bool). active_b a l) ((links_touched g c).0 ∙ ap (λ (u : Touch). (touched g u).active) t) ∙ down_there g l

pub down_by_server : DownByServer
down_by_server g l b r d =
    let m = heard_in g b in
    one_down g (message l b) m.link
    (ap (λ (s : Settled). s.touch) (heard_is g l b r (not_optional b (heard_04 g b d.is_04)))
    ∙ not_due_touch g l b m _ _ (not_due g.exchange l m d.is_04 d.request)
    ∙ touch_4 m _ (line_4 m d.is_04 d.request d.not-all d.from_the_server) (fate_4 g l m d))

touch_due : (x : Exchange) → x.stage ≡ 5 → due_touch x ≡ Down x.w
unfolding due_touch
touch_due x e = simp e

-- at stage 5 what is due is a DELETE LINK
or_off : (a : Bool) → (a || false) ≡ a
or_off true = refl
or_off false = refl

due_at_5 : (x : Exchange) (l : ℕ) (m : Said) → x.stage ≡ 5
    → due_b x l m ≡ (eqb m.kind 4 && (m.reply && (m.heard && (eqb l x.v && (not m.a && eqb m.link x.w)))))
unfolding due_b stages
due_at_5 x l m e = simp (e, or_off)

due_04 : (x : Exchange) (l : ℕ) (m : Said) → x.stage ≡ 5 → due_b x l m ≡ true → m.kind ≡ 0x04
due_04 x l m e h = eqb-true m.kind 4 (and_first _ _ (sym (due_at_5 x l m e) ∙ h))

pub down_by_reply : DownByReply
down_by_reply g l b r s d =
    let m = heard_in g b in
    one_down g (message l b) g.exchange.w
    (ap (λ (s : Settled). s.touch) (heard_is g l b r (not_optional b (heard_04 g b (due_04 g.exchange l m s d))))
    ∙ due_touch_lem g l b m _ _ d
    ∙ touch_due g.exchange s)

-- At most one exchange runs, what ends it, and what takes all links down. Assumes nothing.
use mathlib.Core.Path.{◌≡◌, ◌∙◌, refl, ap, sym, subst}
use mathlib.Core.Bool.{Bool, true, false, ◌&&◌, ◌||◌, not, cond}
use mathlib.Core.List.{List}
use Prim.Native.Nat.{ℕ}
use native.Mathlib.Omega.{arith}
use lib.Dec.{eqb, leb}
use borrow.Author.Tests.{eqb-true, ne_eqb}
use Rattle.link_message.specs.declared.Kind.{Kind}
use Rattle.link_message.specs.Layouts.{encode_of}
use Rattle.link_exchange.specs.declared.Exchange.{Exchange}
use Rattle.link_exchange.specs.declared.Queue.{Queue}
use Rattle.link_exchange.specs.declared.Fate.TheVariants.{Taken, Denied}
use Rattle.link_exchange.specs.declared.Touch.{Touch}
use Rattle.link_exchange.specs.declared.Touch.TheVariants.{Nothing, Up, Down, All}
use Rattle.link_exchange.specs.declared.Said.{Said}
use Rattle.link_exchange.specs.Exchange.{no_exchange, add, sort_of, due_b, next_stage, went_on, due_touch, empty_queue, queued, runs_over, ends_b}
use Rattle.link_exchange.specs.Fates.{arriving_of, fates, fate_at, fate_number, is_fate, bad_mtu, fate_of, outside_b, started, taken_exchange, taken_touch, may_send, sent_exchange, sent_touch}
use Rattle.group_table.specs.declared.Links.{Links}
use Rattle.group_table.specs.Table.{link_in}
use Rattle.link_calls.specs.declared.Settled.{Settled}
use Rattle.link_calls.specs.declared.Sent.{Sent}
use Rattle.link_calls.specs.Calls.{settled_of, unchanged, change_touch, down_b, message_work, heard_in, fate_no, no_reply, send_refusal, sent_work, sent_of, sent_in}
use Rattle.thm_links.specs.Statements.{Call, Idle}
use Rattle.thm_links.specs.Statements.Call.{change, message, send}
use Rattle.thm_links.specs.Course.{Own, Begins, takes_down, Course, OneExchange, would_begin, NoSecond, due_in, EndsByAny, LeftAlone, OthersAlone, AllGoDown}
use Rattle.thm_links.specs.Course.Course.{stays, goes_on, ends, begins, replaced}
use Rattle.thm_links.specs.Course.Begins.{adding, deleting, confirming, confirming_more, withdrawing}
use Rattle.thm_links.proofs.Theorems.{change_cases, heard_cases, sent_cases, due_down, taken_down, sent_down_never, settled_idle, down_ended}

clash : {A : Type 0} → ◌≡◌ {A = ℕ} 0 1 → A
clash e = absurd (omega (arith, e))

-- WHAT IS SETTLED
ends_down : (x : Exchange) (t : Touch) → ends_b x t ≡ true → takes_down t ≡ true
unfolding ends_b
ends_down x Nothing e = clash (cc)
ends_down x (Up l) e = clash (cc)
ends_down x (Down l) e = refl
ends_down x All e = refl

settled_course : (g : Links) (c : Call) (x : Exchange) (t : Touch) (q : Queue) (due : Bool) → Course g c t x
    → Course g c (settled_of g x t q due).touch (settled_of g x t q due).after.exchange
unfolding settled_of
settled_course g c x t q due h = go (ends_b x t) refl
  where
    go : (z : Bool) → ends_b x t ≡ z → Course g c t (cond z no_exchange x)
    go true e = ends (ends_down x t e)
    go false e = h

kept_course : (g : Links) (c : Call) → Course g c (unchanged g).touch (unchanged g).after.exchange
unfolding unchanged
kept_course g c = stays

-- an 02 request from the server is taken where none runs, or in an rkey
abbrev fate_of_line : Bool → Bool → ℕ → ℕ → ℕ
fate_of_line due bad k sort = fate_number (cond due Taken (cond (bad && is_fate (fate_at k sort) Taken) Denied (fate_at k sort)))

taken_begins : (g : Links) (c : Call) (t : Touch) (l : ℕ) (m : Said) (bad : Bool) → Own g c l m → m.kind ≡ 0x02
    → fate_of_line false bad 2 (sort_of g.exchange) ≡ 0 → Course g c t (started 1 l m.link)
unfolding sort_of fate_at fates
taken_begins g c t l m bad own k h = go (eqb s 0) (leb s 4) (eqb s 5) bad refl refl refl h
  where
    s : ℕ
    s = g.exchange.stage

    go : (a b d bad : Bool) → eqb s 0 ≡ a → leb s 4 ≡ b → eqb s 5 ≡ d
        → fate_of_line false bad 2 (cond a 0 (cond b 1 (cond d 2 3))) ≡ 0 → Course g c t (started 1 l m.link)
    go true b d bad ea eb ec e = begins l m (started 1 l m.link) own (eqb-true s 0 ea) (adding k)
    go false true d true ea eb ec e = clash (omega (arith, e))
    go false true d false ea eb ec e = clash (omega (arith, e))
    go false false true true ea eb ec e = clash (omega (arith, e))
    go false false true false ea eb ec e = clash (omega (arith, e))
    go false false false bad ea eb ec e = replaced l m own (simp (ea, eb, ec)) k

-- the server's ADD LINK is one
line_2 : (m : Said) → arriving_of m ≡ 2 → m.kind ≡ 0x02
unfolding arriving_of
line_2 m e = go (eqb m.kind 7) m.reply (eqb m.kind 1) (eqb m.kind 2) m.client (eqb m.kind 4) m.a
    (eqb m.kind 6 || eqb m.kind 8) (eqb m.kind 9) refl e
  where
    go : (t r o w c f a s n : Bool) → eqb m.kind 2 ≡ w
        → ◌≡◌ {A = ℕ}
        (cond t 9 (cond r 10 (cond o 0 (cond w (cond c 1 2) (cond f (cond a 5 (cond c 3 4)) (cond s (cond c 6 7) (cond n 8 10)))))))
        2
        → m.kind ≡ 0x02
    go true r o w c f a s n h e = clash (omega (arith, e))
    go false true o w c f a s n h e = clash (omega (arith, e))
    go false false true w c f a s n h e = clash (omega (arith, e))
    go false false false true c f a s n h e = eqb-true m.kind 2 h
    go false false false false c true true s n h e = clash (omega (arith, e))
    go false false false false true true false s n h e = clash (omega (arith, e))
    go false false false false false true false s n h e = clash (omega (arith, e))
    go false false false false true false a true n h e = clash (omega (arith, e))
    go false false false false false false a true n h e = clash (omega (arith, e))
    go false false false false c false a false true h e = clash (omega (arith, e))
    go false false false false c false a false false h e = clash (omega (arith, e))

taken_course : (g : Links) (c : Call) (t : Touch) (l : ℕ) (m : Said) → Own g c l m → due_b g.exchange l m ≡ false
    → Course g c t (taken_exchange g.exchange l m (fate_no g l m))
unfolding taken_exchange fate_of
taken_course g c t l m own d = go (eqb (arriving_of m) 2) refl (eqb (fate_no g l m) 0) refl
  where
    go : (s : Bool) → eqb (arriving_of m) 2 ≡ s → (z : Bool) → eqb (fate_no g l m) 0 ≡ z
        → Course g c t (cond (s && z) (started 1 l m.link) g.exchange)
    go false es z et = stays
    go true es false et = stays
    go true es true et =
        taken_begins g c t l m (bad_mtu m) own (line_2 m (eqb-true _ 2 es))
        ((λ i. fate_of_line (sym d i) (bad_mtu m) (sym (eqb-true (arriving_of m) 2 es) i) (sort_of g.exchange)) ∙ eqb-true _ 0 et)

heard_course : (g : Links) (l : ℕ) (b : List ℕ)
    → let s = message_work g l b (heard_in g b) (due_b g.exchange l (heard_in g b)) (fate_no g l (heard_in g b)) in
    Course g (message l b) s.touch s.after.exchange
unfolding message_work
heard_course g l b = settled_course g (message l b) _ _ _ _ (go (due_b g.exchange l m) refl)
  where
    m : Said
    m = heard_in g b

    go : (d : Bool) → due_b g.exchange l m ≡ d
        → Course g (message l b) (cond (due_b g.exchange l m) (due_touch g.exchange) (taken_touch m (fate_no g l m)))
        (cond d (went_on g.exchange m) (taken_exchange g.exchange l m (fate_no g l m)))
    go true e = goes_on l m (refl, refl) e
    go false e = taken_course g (message l b) _ l m (refl, refl) e

-- WHAT MAY BE SENT, by its parts
abbrev may_b : Bool → ℕ → Bool → Bool → Bool → Bool → Bool
may_b reply kind a client adds none =
    not reply
    && (eqb kind 0x07
    || (eqb kind 0x04 && (a || client)
    || (eqb kind 0x02 && (client && not adds) || (none && (eqb kind 0x02 || (eqb kind 0x04 || (eqb kind 0x06 || eqb kind 0x09)))))))

may_6 : (reply a client adds none : Bool) → may_b reply 6 a client adds none ≡ true → none ≡ true
may_6 true a client adds none e = clash (cc)
may_6 false a client adds true e = refl
may_6 false a client adds false e = e

may_9 : (reply a client adds none : Bool) → may_b reply 9 a client adds none ≡ true → none ≡ true
may_9 true a client adds none e = clash (cc)
may_9 false a client adds true e = refl
may_9 false a client adds false e = e

may_2 : (reply a adds none : Bool) → may_b reply 2 a false adds none ≡ true → none ≡ true
may_2 true a adds none e = clash (cc)
may_2 false a adds true e = refl
may_2 false a adds false e = e

may_4 : (reply adds none : Bool) → may_b reply 4 false false adds none ≡ true → none ≡ true
may_4 true adds none e = clash (cc)
may_4 false adds true e = refl
may_4 false adds false e = e

-- what it begins, it begins where none runs
begun : (g : Links) (c : Call) (t : Touch) (l : ℕ) (m : Said) → Own g c l m → may_send g.exchange m ≡ true
    → Course g c t (sent_exchange g.exchange l m)
unfolding may_send sent_exchange
begun g c t l m own may = two m.kind refl (eqb m.kind 2) m.client refl refl
  where
    x : Exchange
    x = g.exchange

    z : Bool
    z = eqb x.stage 0

    none : z ≡ true → (y : Exchange) → Begins l m y → Course g c t y
    none e y h = begins l m y own (eqb-true x.stage 0 e) h

    adds : Bool
    adds = eqb (sort_of x) add

    at : (k : ℕ) (a c : Bool) → m.kind ≡ k → m.a ≡ a → m.client ≡ c → may_b m.reply k a c adds z ≡ true
    at k a c ek ea ec = (λ i. may_b m.reply (sym ek i) (sym ea i) (sym ec i) adds z) ∙ may

    six : (n : Bool) → leb m.num 2 ≡ n → m.kind ≡ 6 → Begins l m (started (cond n 6 7) l 0)
    six true e k = confirming k e
    six false e k = confirming_more k e

    rest : (k : ℕ) → m.kind ≡ k → (s n : Bool) → eqb k 6 ≡ s → eqb k 9 ≡ n
        → Course g c t (cond s (started (cond (leb m.num 2) 6 7) l 0) (cond n (started 11 l 0) x))
    rest k e true n es en =
        none (may_6 m.reply m.a m.client adds z (at 6 m.a m.client (e ∙ eqb-true k 6 es) refl refl)) _
        (six (leb m.num 2) refl (e ∙ eqb-true k 6 es))
    rest k e false true es en =
        none (may_9 m.reply m.a m.client adds z (at 9 m.a m.client (e ∙ eqb-true k 9 en) refl refl)) _
        (withdrawing (e ∙ eqb-true k 9 en))
    rest k e false false es en = stays

    four : (k : ℕ) → m.kind ≡ k → (f a d : Bool) → eqb k 4 ≡ f → m.a ≡ a → m.client ≡ d
        → Course g c t
        (cond (f && not (a || d)) (started 5 l m.link) (cond (eqb k 6) (started (cond (leb m.num 2) 6 7) l 0) (cond (eqb k 9) (started 11 l 0) x)))
    four k e true false false ef ea ec =
        none (may_4 m.reply adds z (at 4 false false (e ∙ eqb-true k 4 ef) ea ec)) _ (deleting (e ∙ eqb-true k 4 ef))
    four k e true true d ef ea ec = rest k e (eqb k 6) (eqb k 9) refl refl
    four k e true false true ef ea ec = rest k e (eqb k 6) (eqb k 9) refl refl
    four k e false a d ef ea ec = rest k e (eqb k 6) (eqb k 9) refl refl

    two : (k : ℕ) → m.kind ≡ k → (w d : Bool) → eqb k 2 ≡ w → m.client ≡ d
        → Course g c t
        (cond (w && not d) (started 1 l m.link)
        (cond (eqb k 4 && not (m.a || d)) (started 5 l m.link)
        (cond (eqb k 6) (started (cond (leb m.num 2) 6 7) l 0) (cond (eqb k 9) (started 11 l 0) x))))
    two k e true false et ec =
        none (may_2 m.reply m.a adds z (at 2 m.a false (e ∙ eqb-true k 2 et) refl ec)) _ (adding (e ∙ eqb-true k 2 et))
    two k e true true et ec = four k e (eqb k 4) m.a true refl refl ec
    two k e false d et ec = four k e (eqb k 4) m.a d refl refl ec

-- a send that is not refused was due, or may be sent
allowed : (known down outside ok : Bool) → ◌≡◌ {A = ℕ} (cond (not known) 13 (cond down 6 (cond outside 14 (cond (not ok) 15 0)))) 0 → ok ≡ true
allowed true false false true e = refl
allowed true false false false e = clash (omega (arith, e))
allowed true false true ok e = clash (omega (arith, e))
allowed true true outside ok e = clash (omega (arith, e))
allowed false down outside ok e = clash (omega (arith, e))

sent_course : (g : Links) (l : ℕ) (k : Kind) (vs : List ℕ)
    → Course g (send l k vs) (sent_of g l k vs).settled.touch (sent_of g l k vs).settled.after.exchange
unfolding sent_of sent_work unchanged send_refusal
sent_course g l k vs = go (eqb j 0) refl
  where
    m : Said
    m = sent_in g k vs

    c : Call
    c = send l k vs

    d : Bool
    d = due_b g.exchange l m

    j : ℕ
    j = send_refusal g l m d

    on : (t : Touch) (d : Bool) → due_b g.exchange l m ≡ d → (d || may_send g.exchange m) ≡ true
        → Course g c t (cond d (went_on g.exchange m) (sent_exchange g.exchange l m))
    on t true e h = goes_on l m (refl, refl) e
    on t false e h = begun g c t l m (refl, refl) h

    result : Bool → Settled
    result z =
        (cond {A = Sent} z (record { refusal = 0; message = encode_of k vs; settled = sent_work g l m d })
        (record { refusal = j; message = no_reply; settled = unchanged g })
        ).settled

    go : (z : Bool) → eqb j 0 ≡ z → Course g c (result z).touch (result z).after.exchange
    go true e =
        settled_course g c (cond d (went_on g.exchange m) (sent_exchange g.exchange l m)) (cond d (due_touch g.exchange) (sent_touch m)) g.queue d
        (on _ d refl (allowed (link_in l) (down_b g l m.kind) (outside_b m) (d || may_send g.exchange m) (eqb-true j 0 e)))
    go false e = stays

pub one_exchange : OneExchange
one_exchange g (change l up) =
    change_cases (λ s. Course g (change l up) s.touch s.after.exchange) g (kept_course g _) l up
    (settled_course g (change l up) g.exchange _ _ false stays)
one_exchange g (message l b) =
    heard_cases (λ s. Course g (message l b) s.touch s.after.exchange) g (kept_course g _) l b (heard_course g l b)
one_exchange g (send l k vs) = sent_course g l k vs

-- NO SECOND
barred : (reply a client adds : Bool) (kind : ℕ)
    → (not reply && (eqb kind 0x06 || (eqb kind 0x09 || (not client && (eqb kind 0x02 || (eqb kind 0x04 && not a)))))) ≡ true
    → may_b reply kind a client adds false ≡ false
barred true a client adds kind h = refl
barred false a client adds kind h = go (eqb kind 6) refl (eqb kind 9) refl (eqb kind 2) refl (eqb kind 4) refl client a h
  where
    at : (k : ℕ) → kind ≡ k → (c a : Bool) → may_b false k a c adds false ≡ false → may_b false kind a c adds false ≡ false
    at k e c a r = ap (λ (i : ℕ). may_b false i a c adds false) e ∙ r

    go : (s : Bool) → eqb kind 6 ≡ s → (n : Bool) → eqb kind 9 ≡ n → (t : Bool) → eqb kind 2 ≡ t → (f : Bool) → eqb kind 4 ≡ f
        → (c a : Bool) → (s || (n || (not c && (t || (f && not a))))) ≡ true → may_b false kind a c adds false ≡ false
    go true es n en t et f ef c a e = at 6 (eqb-true kind 6 es) c a refl
    go false es true en t et f ef c a e = at 9 (eqb-true kind 9 en) c a refl
    go false es false en true et f ef false a e = at 2 (eqb-true kind 2 et) false a refl
    go false es false en false et true ef false false e = at 4 (eqb-true kind 4 ef) false false refl
    go false es false en t et f ef true a e = let z : false ≡ true = e in clash (cc)
    go false es false en false et true ef false true e = let z : false ≡ true = e in clash (cc)
    go false es false en false et false ef false a e = let z : false ≡ true = e in clash (cc)

may_barred : (x : Exchange) (m : Said) → (x.stage ≡ 0 → ⊥) → would_begin m ≡ true → may_send x m ≡ false
unfolding may_send
may_barred x m n h =
    ap (λ (z : Bool). may_b m.reply m.kind m.a m.client (eqb (sort_of x) add) z) (ne_eqb x.stage 0 n)
    ∙ barred m.reply m.a m.client (eqb (sort_of x) add) m.kind h

pub no_second : NoSecond
unfolding sent_of send_refusal
no_second g l k vs n h d i u o = simp (i, u, o, d, may_barred g.exchange (sent_in g k vs) n h)

-- WHAT ENDS IT
five_ends : (x : Exchange) (m : Said) → x.stage ≡ 5 → went_on x m ≡ no_exchange
unfolding went_on next_stage
five_ends x m e = simp e

-- where what is left of the stages is none
none_left : (g : Links) (t : Touch) (q : Queue) (due : Bool) → (settled_of g no_exchange t q due).after.exchange ≡ no_exchange
unfolding settled_of
none_left g t q due = go (ends_b no_exchange t)
  where
    go : (b : Bool) → cond b no_exchange no_exchange ≡ no_exchange
    go true = refl
    go false = refl

-- by what a due message does
due_ended : (g : Links) (m : Said) (q : Queue) (l : ℕ) → due_touch g.exchange ≡ Down l
    → (settled_of g (went_on g.exchange m) (due_touch g.exchange) q true).after.exchange ≡ no_exchange
due_ended g m q l e =
    ap (λ (x : Exchange). (settled_of g x (due_touch g.exchange) q true).after.exchange) (five_ends g.exchange m (due_down g.exchange l e).0)
    ∙ none_left g _ q true

-- by an 04 from the server, which begins none
kept_exchange : (x : Exchange) (l : ℕ) (m : Said) (f : ℕ) → arriving_of m ≡ 4 → taken_exchange x l m f ≡ x
unfolding taken_exchange
kept_exchange x l m f e = simp e

told_ended : (g : Links) (L : ℕ) (m : Said) (f : ℕ) (q : Queue) (l : ℕ) → taken_touch m f ≡ Down l → runs_over g.exchange l ≡ true
    → Idle (settled_of g (taken_exchange g.exchange L m f) (taken_touch m f) q false).after
unfolding ends_b
told_ended g L m f q l e r =
    settled_idle g _ (taken_touch m f) q false
    ((λ i. ends_b (kept_exchange g.exchange L m f (taken_down m f l e).line i) (e i)) ∙ r)

record EndsSo (g : Links) (due : Bool) (s : Settled) : Type 0 where
  ended : s.after.exchange ≡ no_exchange
  emptied : due ≡ false → s.after.queue ≡ empty_queue

idle_so : (g : Links) (due : Bool) (s : Settled) → Idle s.after → EndsSo g due s
idle_so g due s h = record { ended = h.ended; emptied = λ e. h.empty }

unchanged_not : (g : Links) (l : ℕ) → (unchanged g).touch ≡ Down l → ⊥
unfolding unchanged
unchanged_not g l e = clash (cc)

settled_touch : (g : Links) (x : Exchange) (t : Touch) (q : Queue) (due : Bool) → (settled_of g x t q due).touch ≡ t
unfolding settled_of
settled_touch g x t q due = refl

heard_ended : (g : Links) (L : ℕ) (b : List ℕ) (m : Said) (f l : ℕ) (d : Bool) → runs_over g.exchange l ≡ true
    → (message_work g L b m d f).touch ≡ Down l → EndsSo g d (message_work g L b m d f)
unfolding message_work
heard_ended g L b m f l true r e =
    record { ended = due_ended g m _ l (sym (settled_touch g _ _ _ true) ∙ e); emptied = λ z. clash (cc) }
heard_ended g L b m f l false r e = idle_so g false _ (told_ended g L m f _ l (sym (settled_touch g _ _ _ false) ∙ e) r)

sent_ended : (g : Links) (L : ℕ) (m : Said) (l : ℕ) (d : Bool) → (sent_work g L m d).touch ≡ Down l → EndsSo g d (sent_work g L m d)
unfolding sent_work
sent_ended g L m l true e =
    record { ended = due_ended g m _ l (sym (settled_touch g _ _ _ true) ∙ e); emptied = λ z. clash (cc) }
sent_ended g L m l false e = absurd (sent_down_never m l (sym (settled_touch g _ _ _ false) ∙ e))

changed_is : (L l : ℕ) → change_touch L false ≡ Down l → L ≡ l
unfolding change_touch
changed_is L l e = cc

up_is_not : (L l : ℕ) → change_touch L true ≡ Down l → ⊥
unfolding change_touch
up_is_not L l e = clash (cc)

pub ends_by_any : EndsByAny
ends_by_any g (change L false) l t r =
    let s =
    change_cases (λ s. s.touch ≡ Down l → EndsSo g false s) g (λ e. absurd (unchanged_not g l e)) L false
    (λ e. idle_so g false _ (down_ended g L (ap (runs_over g.exchange) (changed_is L l (sym (settled_touch g _ _ _ false) ∙ e)) ∙ r)))
    t
    in
    record { ended = s.ended; emptied = s.emptied }
ends_by_any g (change L true) l t r =
    let s =
    change_cases (λ s. s.touch ≡ Down l → EndsSo g false s) g (λ e. absurd (unchanged_not g l e)) L true
    (λ e. absurd (up_is_not L l (sym (settled_touch g _ _ _ false) ∙ e)))
    t
    in
    record { ended = s.ended; emptied = s.emptied }
ends_by_any g (message L b) l t r =
    let s =
    heard_cases (λ s. s.touch ≡ Down l → EndsSo g (due_in g (message L b)) s) g (λ e. absurd (unchanged_not g l e)) L b
    (λ e. heard_ended g L b (heard_in g b) _ l _ r e)
    t
    in
    record { ended = s.ended; emptied = s.emptied }
ends_by_any g (send L k vs) l t r =
    let s =
    sent_cases (λ s. s.touch ≡ Down l → EndsSo g (due_in g (send L k vs)) s) g (λ e. absurd (unchanged_not g l e)) L k vs
    (λ e. sent_ended g L (sent_in g k vs) l _ e)
    t
    in
    record { ended = s.ended; emptied = s.emptied }

-- another link
settled_alone : (g : Links) (l : ℕ) → runs_over g.exchange l ≡ false
    → LeftAlone g (settled_of g g.exchange (Down l) g.queue false).after
unfolding settled_of ends_b
settled_alone g l r = record { same_exchange = simp r; same_queue = simp r }

-- an 04 from the server leaves both as they are
taken_fate : (m : Said) (f l : ℕ) → taken_touch m f ≡ Down l → f ≡ 0
unfolding taken_touch
taken_fate m f l e = go (eqb (arriving_of m) 4) (eqb f 0) (eqb (arriving_of m) 5) refl e
  where
    go : (a z b : Bool) → eqb f 0 ≡ z → cond (a && z) (Down m.link) (cond (b && z) All Nothing) ≡ Down l → f ≡ 0
    go a true b h e = eqb-true f 0 h
    go true false true h e = clash (cc)
    go true false false h e = clash (cc)
    go false false true h e = clash (cc)
    go false false false h e = clash (cc)

work_alone : (g : Links) (L : ℕ) (b : List ℕ) (m : Said) (f l : ℕ) → taken_touch m f ≡ Down l → runs_over g.exchange l ≡ false
    → LeftAlone g (message_work g L b m false f).after
unfolding message_work
work_alone g L b m f l e r =
    subst (λ (s : Settled). LeftAlone g s.after)
    (sym (λ i. settled_of g (kept_exchange g.exchange L m f (taken_down m f l e).line i) (e i) (cond (eqb (taken_fate m f l e i) 1) (queued g.queue (record { link = L; bytes = b })) g.queue) false))
    (settled_alone g l r)

change_alone : (g : Links) (L l : ℕ) → change_touch L false ≡ Down l → runs_over g.exchange l ≡ false
    → LeftAlone g (settled_of g g.exchange (change_touch L false) g.queue false).after
change_alone g L l e r =
    subst (λ (t : Touch). LeftAlone g (settled_of g g.exchange t g.queue false).after) (sym e) (settled_alone g l r)

heard_alone : (g : Links) (L : ℕ) (b : List ℕ) (m : Said) (f l : ℕ) (d : Bool) → d ≡ false → runs_over g.exchange l ≡ false
    → (message_work g L b m d f).touch ≡ Down l → LeftAlone g (message_work g L b m d f).after
unfolding message_work
heard_alone g L b m f l true z r e = clash (cc)
heard_alone g L b m f l false z r e = work_alone g L b m f l (sym (settled_touch g _ _ _ false) ∙ e) r

sent_alone : (g : Links) (L : ℕ) (m : Said) (l : ℕ) (d : Bool) → d ≡ false → (sent_work g L m d).touch ≡ Down l → ⊥
unfolding sent_work
sent_alone g L m l true z e = clash (cc)
sent_alone g L m l false z e = sent_down_never m l (sym (settled_touch g _ _ _ false) ∙ e)

pub others_alone : OthersAlone
others_alone g (change L true) l t r d =
    change_cases (λ s. s.touch ≡ Down l → LeftAlone g s.after) g (λ e. absurd (unchanged_not g l e)) L true
    (λ e. absurd (up_is_not L l (sym (settled_touch g _ _ _ false) ∙ e))) t
others_alone g (change L false) l t r d =
    change_cases (λ s. s.touch ≡ Down l → LeftAlone g s.after) g (λ e. absurd (unchanged_not g l e)) L false
    (λ e. change_alone g L l (sym (settled_touch g _ _ _ false) ∙ e) r) t
others_alone g (message L b) l t r d =
    heard_cases (λ s. s.touch ≡ Down l → LeftAlone g s.after) g (λ e. absurd (unchanged_not g l e)) L b
    (heard_alone g L b (heard_in g b) _ l _ d r) t
others_alone g (send L k vs) l t r d =
    sent_cases (λ s. s.touch ≡ Down l → LeftAlone g s.after) g (λ e. absurd (unchanged_not g l e)) L k vs
    (λ e. absurd (sent_alone g L (sent_in g k vs) l _ d e)) t

-- ALL FOUR
due_not_all : (x : Exchange) → due_touch x ≡ All → ⊥
unfolding due_touch
due_not_all x e = go (eqb x.stage 4) (eqb x.stage 5) e
  where
    go : (a b : Bool) → cond a (Up x.w) (cond b (Down x.w) Nothing) ≡ All → ⊥
    go true b f = clash (cc)
    go false true f = clash (cc)
    go false false f = clash (cc)

and_first : (a c : Bool) → (a && c) ≡ true → a ≡ true
and_first true c e = refl
and_first false c e = e

and_second : (a c : Bool) → (a && c) ≡ true → c ≡ true
and_second true c e = e
and_second false c e = clash (cc)

taken_all : (m : Said) (f : ℕ) → taken_touch m f ≡ All → arriving_of m ≡ 5
unfolding taken_touch
taken_all m f e = go (eqb (arriving_of m) 4 && eqb f 0) (eqb (arriving_of m) 5 && eqb f 0) refl e
  where
    go : (a b : Bool) → (eqb (arriving_of m) 5 && eqb f 0) ≡ b → cond a (Down m.link) (cond b All Nothing) ≡ All → arriving_of m ≡ 5
    go true b h e = clash (cc)
    go false true h e = eqb-true (arriving_of m) 5 (and_first _ (eqb f 0) h)
    go false false h e = clash (cc)

sent_all : (m : Said) → sent_touch m ≡ All → (m.kind ≡ 0x04) × (m.a ≡ true)
unfolding sent_touch
sent_all m e = go (eqb m.kind 0x04 && m.a) refl e
  where
    go : (a : Bool) → (eqb m.kind 0x04 && m.a) ≡ a → cond a All Nothing ≡ All → (m.kind ≡ 0x04) × (m.a ≡ true)
    go true h e = (eqb-true m.kind 0x04 (and_first _ m.a h), and_second (eqb m.kind 0x04) m.a h)
    go false h e = clash (cc)

unchanged_not_all : (g : Links) → (unchanged g).touch ≡ All → ⊥
unfolding unchanged
unchanged_not_all g e = clash (cc)

heard_all : (g : Links) (L : ℕ) (b : List ℕ) (m : Said) (f : ℕ) (d : Bool) → (message_work g L b m d f).touch ≡ All → arriving_of m ≡ 5
unfolding message_work
heard_all g L b m f true e = absurd (due_not_all g.exchange (sym (settled_touch g _ _ _ true) ∙ e))
heard_all g L b m f false e = taken_all m f (sym (settled_touch g _ _ _ false) ∙ e)

sent_all_by : (g : Links) (L : ℕ) (m : Said) (d : Bool) → (sent_work g L m d).touch ≡ All → (m.kind ≡ 0x04) × (m.a ≡ true)
unfolding sent_work
sent_all_by g L m true e = absurd (due_not_all g.exchange (sym (settled_touch g _ _ _ true) ∙ e))
sent_all_by g L m false e = sent_all m (sym (settled_touch g _ _ _ false) ∙ e)

change_not_all : (L : ℕ) (up : Bool) → change_touch L up ≡ All → ⊥
unfolding change_touch
change_not_all L true e = clash (cc)
change_not_all L false e = clash (cc)

pub all_go_down : AllGoDown
all_go_down g (change L up) =
    change_cases (λ s. s.touch ≡ All → ⊥) g (unchanged_not_all g) L up (λ e. change_not_all L up (sym (settled_touch g _ _ _ false) ∙ e))
all_go_down g (message L b) =
    heard_cases (λ s. s.touch ≡ All → arriving_of (heard_in g b) ≡ 5) g (λ e. absurd (unchanged_not_all g e)) L b
    (λ e. heard_all g L b (heard_in g b) _ _ e)
all_go_down g (send L k vs) =
    sent_cases (λ s. s.touch ≡ All → ((sent_in g k vs).kind ≡ 0x04) × ((sent_in g k vs).a ≡ true)) g (λ e. absurd (unchanged_not_all g e)) L k vs
    (λ e. sent_all_by g L (sent_in g k vs) _ e)

-- Two ends that add a link stay in step. Assumes nothing.
use mathlib.Core.Path.{◌≡◌, ◌∙◌, refl, ap, sym, subst}
use mathlib.Core.Bool.{Bool, true, false, ◌&&◌, ◌||◌, not, cond}
use mathlib.Core.List.{List}
use Prim.Native.Nat.{ℕ, ◌≤◌}
use native.Mathlib.Omega.{arith}
use lib.Dec.{eqb, leb}
use lib.ListN.{length, get_or}
use borrow.Author.Tests.{eqb-true, eqb-false, eq-eqb, ne_eqb, leb-true}
use Rattle.layout.specs.Layout.{bits_of, number_of, gather, lay_out, written_of}
use Rattle.link_message.specs.Llc.{class_of}
use Rattle.link_message.specs.declared.Kind.{Kind}
use Rattle.link_message.specs.declared.Kind.TheVariants.{ConfirmLink, AddLink, AddLinkContinuation, DeleteLink, ConfirmRkey, TestLink, ConfirmRkeyContinuation, DeleteRkey}
use Rattle.link_message.specs.Layouts.{code_of, mark, kind_of, named_b, rows_of, encode_of, filled, read_of, reduced_of}
use Rattle.link_message.proofs.RoundTrip.{written}
use Rattle.link_exchange.specs.declared.Role.{Role}
use Rattle.link_exchange.specs.declared.Role.TheVariants.{Client, Server}
use Rattle.link_exchange.specs.declared.Exchange.{Exchange}
use Rattle.link_exchange.specs.declared.Queue.{Queue}
use Rattle.link_exchange.specs.declared.Fate.TheVariants.{Taken}
use Rattle.link_exchange.specs.declared.Touch.{Touch}
use Rattle.link_exchange.specs.declared.Touch.TheVariants.{Nothing, Up, Down, All}
use Rattle.link_exchange.specs.declared.Said.{Said}
use Rattle.link_exchange.specs.Exchange.{client_b, said_of, add, sort_of, adding_b, stages, due_b, next_stage, went_on, due_touch, full_b}
use Rattle.link_exchange.specs.Fates.{arriving_of, fates, fate_at, fate_number, bad_mtu, or_denied, fate_of, acts_b, outside_b, started, taken_exchange, taken_touch, may_send, sent_exchange, sent_touch}
use Rattle.group_table.specs.declared.Links.{Links}
use Rattle.group_table.specs.Table.{link_in, active_b, with_link, link_set}
use Rattle.link_calls.specs.declared.Fields.{Fields}
use Rattle.link_calls.specs.declared.Settled.{Settled}
use Rattle.link_calls.specs.declared.Heard.{Heard}
use Rattle.link_calls.specs.declared.Sent.{Sent}
use Rattle.link_calls.specs.Calls.{first, no_fields, fields_in, touched, settled_of, unchanged, down_b, optional_b, message_b, message_refusal, message_work, heard_of, heard_work, nothing_heard, heard_in, fate_no, no_reply, send_refusal, sent_work, sent_of, sent_in}
use Rattle.thm_links.specs.Course.{other_role, InStep, bytes_of, sent_end, heard_end, HeardInStep, AddInStep, AddBegins, SameLinksAdded}
use Rattle.thm_links.specs.Course.Adding.{done, first_sends, second_sends}
use Rattle.thm_links.proofs.Theorems.{touched_role}

clash : {A : Type 0} → ◌≡◌ {A = ℕ} 0 1 → A
clash e = absurd (omega (arith, e))

-- WHAT IS WRITTEN, AS IT IS HEARD
first_written : (k : Kind) (vs : List ℕ) → get_or (encode_of k vs) 0 0 ≡ code_of k
unfolding encode_of written_of gather lay_out rows_of bits_of number_of
first_written ConfirmLink vs = refl
first_written AddLink vs = refl
first_written AddLinkContinuation vs = refl
first_written DeleteLink vs = refl
first_written ConfirmRkey vs = refl
first_written TestLink vs = refl
first_written ConfirmRkeyContinuation vs = refl
first_written DeleteRkey vs = refl

second_written : (k : Kind) (vs : List ℕ) → get_or (encode_of k vs) 1 0 ≡ mark
unfolding encode_of written_of gather lay_out rows_of bits_of number_of
second_written ConfirmLink vs = refl
second_written AddLink vs = refl
second_written AddLinkContinuation vs = refl
second_written DeleteLink vs = refl
second_written ConfirmRkey vs = refl
second_written TestLink vs = refl
second_written ConfirmRkeyContinuation vs = refl
second_written DeleteRkey vs = refl

-- of a kind's byte 0
record Code (k : Kind) : Type 0 where
  kind : kind_of (code_of k) ≡ k
  named : named_b (code_of k) ≡ true
  needed : eqb (class_of (code_of k)) 3 ≡ false

code : (k : Kind) → Code k
unfolding kind_of named_b class_of
code ConfirmLink = record { kind = refl; named = refl; needed = refl }
code AddLink = record { kind = refl; named = refl; needed = refl }
code AddLinkContinuation = record { kind = refl; named = refl; needed = refl }
code DeleteLink = record { kind = refl; named = refl; needed = refl }
code ConfirmRkey = record { kind = refl; named = refl; needed = refl }
code TestLink = record { kind = refl; named = refl; needed = refl }
code ConfirmRkeyContinuation = record { kind = refl; named = refl; needed = refl }
code DeleteRkey = record { kind = refl; named = refl; needed = refl }

abbrev fields_by : Bool → Kind → List ℕ → Fields
fields_by named k vs = cond named (record { named = true; kind = k; values = vs }) no_fields

values_written : (k : Kind) (vs : List ℕ) → read_of k (encode_of k vs) ≡ reduced_of k vs
unfolding read_of reduced_of
values_written k vs = ap filled (written k vs).back

fields_written : (k : Kind) (vs : List ℕ) → fields_in (encode_of k vs) ≡ fields_by true k (reduced_of k vs)
unfolding fields_in
fields_written k vs =
    let b = encode_of k vs in
    (λ i. fields_by (named_b (first_written k vs i)) (kind_of (first_written k vs i)) (read_of (kind_of (first_written k vs i)) b))
    ∙ (λ i. fields_by ((code k).named i) ((code k).kind i) (read_of ((code k).kind i) b))
    ∙ (λ i. fields_by true k (values_written k vs i))

-- a message as the other end hears it
abbrev as_heard : Said → Said
as_heard m =
    record {
      kind = m.kind;
      heard = true;
      client = m.client;
      reply = m.reply;
      z = m.z;
      a = m.a;
      link = m.link;
      num = m.num;
      mtu = m.mtu;
    }

said_other : (r : Role) (k : Kind) (vs : List ℕ) → said_of (other_role r) true k vs ≡ as_heard (said_of r false k vs)
unfolding said_of
said_other Client k vs = refl
said_other Server k vs = refl

-- IN AN ADD a line looks at whom a message is from, and not at who hears it
stage_low : (s : ℕ) → ◌≡◌ {A = ℕ} (cond (eqb s 0) 0 (cond (leb s 4) 1 (cond (eqb s 5) 2 3))) 1 → s ≤ 4
stage_low s e = go (eqb s 0) (leb s 4) (eqb s 5) refl e
  where
    go : (a b c : Bool) → leb s 4 ≡ b → ◌≡◌ {A = ℕ} (cond a 0 (cond b 1 (cond c 2 3))) 1 → s ≤ 4
    go true b c h e = clash (omega (arith, e))
    go false true c h e = leb-true s 4 h
    go false false true h e = clash (omega (arith, e))
    go false false false h e = clash (omega (arith, e))

due_heard : (x : Exchange) (l : ℕ) (m : Said) → sort_of x ≡ add → due_b x l (as_heard m) ≡ due_b x l m
unfolding due_b stages sort_of
due_heard x l m e =
    let h = stage_low x.stage e in
    rw (
      ne_eqb x.stage 5 (λ p. omega (arith, p, h)),
      ne_eqb x.stage 6 (λ p. omega (arith, p, h)),
      ne_eqb x.stage 7 (λ p. omega (arith, p, h)),
      ne_eqb x.stage 8 (λ p. omega (arith, p, h)),
      ne_eqb x.stage 9 (λ p. omega (arith, p, h)),
      ne_eqb x.stage 10 (λ p. omega (arith, p, h)),
      ne_eqb x.stage 11 (λ p. omega (arith, p, h)),
    )

went_heard : (x : Exchange) (m : Said) → went_on x (as_heard m) ≡ went_on x m
unfolding went_on next_stage
went_heard x m = refl

outside_heard : (m : Said) → outside_b (as_heard m) ≡ outside_b m
unfolding outside_b acts_b
outside_heard m = refl

-- THE LINKS of two ends that have the same active
set_active : (g : Links) (l : ℕ) (up : Bool) → (link_set g l up).active ≡ with_link g.active l up
unfolding link_set
set_active g l true = refl
set_active g l false = refl

set_same : (a b : Links) (l : ℕ) (up : Bool) → b.active ≡ a.active → (link_set b l up).active ≡ (link_set a l up).active
set_same a b l up e = set_active b l up ∙ ap (λ (x : List Bool). with_link x l up) e ∙ sym (set_active a l up)

touched_same : (a b : Links) (t : Touch) → b.active ≡ a.active → (touched b t).active ≡ (touched a t).active
unfolding touched
touched_same a b Nothing e = e
touched_same a b (Up l) e = set_same a b l true e
touched_same a b (Down l) e = set_same a b l false e
touched_same a b All e =
    set_same _ _ 4 false (set_same _ _ 3 false (set_same _ _ 2 false (set_same a b 1 false e)))

-- what is settled alike leaves them in step
settled_step : (a b : Links) → InStep a b → (x : Exchange) (t : Touch) (p q : Queue) (due : Bool)
    → InStep (settled_of a x t p due).after (settled_of b x t q due).after
unfolding settled_of
settled_step a b s x t p q due =
    record {
      opposite = touched_role b t ∙ s.opposite ∙ ap other_role (sym (touched_role a t));
      same_active = touched_same a b t s.same_active;
      same_exchange = refl;
    }

-- A SEND THAT IS NOT REFUSED
record Free (is_in_range down outside : Bool) : Type 0 where
  known : is_in_range ≡ true
  up : down ≡ false
  inside : outside ≡ false

free : (is_in_range down outside ok : Bool) → ◌≡◌ {A = ℕ} (cond (not is_in_range) 13 (cond down 6 (cond outside 14 (cond (not ok) 15 0)))) 0
    → Free is_in_range down outside
free true false false ok e = record { known = refl; up = refl; inside = refl }
free true false true ok e = clash (omega (arith, e))
free true true outside ok e = clash (omega (arith, e))
free false down outside ok e = clash (omega (arith, e))

abbrev sent_by : Links → ℕ → Kind → List ℕ → Sent
sent_by a l k vs =
    record { refusal = 0; message = encode_of k vs; settled = sent_work a l (sent_in a k vs) (due_b a.exchange l (sent_in a k vs)) }

record SendIs (a : Links) (l : ℕ) (k : Kind) (vs : List ℕ) : Type 0 where
  is : sent_of a l k vs ≡ sent_by a l k vs
  free_of : Free (link_in l) (down_b a l (code_of k)) (outside_b (sent_in a k vs))

send_is : (a : Links) (l : ℕ) (k : Kind) (vs : List ℕ) → (sent_of a l k vs).refusal ≡ 0 → SendIs a l k vs
unfolding sent_of send_refusal said_of
send_is a l k vs h = let w = go (eqb j 0) refl h in record { is = w.0; free_of = w.1 }
  where
    m : Said
    m = sent_in a k vs

    d : Bool
    d = due_b a.exchange l m

    j : ℕ
    j = send_refusal a l m d

    refused : Sent
    refused = record { refusal = j; message = no_reply; settled = unchanged a }

    go : (t : Bool) → eqb j 0 ≡ t → (cond t (sent_by a l k vs) refused).refusal ≡ 0
        → (cond t (sent_by a l k vs) refused ≡ sent_by a l k vs) × Free (link_in l) (down_b a l (code_of k)) (outside_b m)
    go true e h = (refl, free (link_in l) (down_b a l (code_of k)) (outside_b m) (d || may_send a.exchange m) (eqb-true j 0 e))
    go false e h = absurd (eqb-false j 0 e h)

-- WHERE IT IS HEARD
module _ (a b : Links) (s : InStep a b) (l : ℕ) (k : Kind) (vs : List ℕ) (sends : SendIs a l k vs) where
  abbrev m : Said
  m = sent_in a k vs

  abbrev bytes : List ℕ
  bytes = encode_of k vs

  said_is : heard_in b bytes ≡ as_heard m
  said_is =
      (λ i. said_of (s.opposite i) true (fields_written k vs i).kind (fields_written k vs i).values) ∙ said_other a.role k (reduced_of k vs)

  down_is : down_b b l (first bytes) ≡ false
  unfolding down_b
  down_is =
      (λ i. not (active_b (s.same_active i) l || adding_b (s.same_exchange i) l && eqb (first_written k vs i) 0x01)) ∙ sends.free_of.up

  outside_is : outside_b (heard_in b bytes) ≡ false
  outside_is = ap outside_b said_is ∙ outside_heard m ∙ sends.free_of.inside

  long : eqb (length bytes) 44 ≡ true
  long = eq-eqb _ _ (written k vs).size

  needed : optional_b bytes ≡ false
  unfolding optional_b
  needed = ap (λ (c : ℕ). eqb (class_of c) 3) (first_written k vs) ∙ (code k).needed

  is_message : message_b bytes ≡ true
  unfolding message_b
  is_message =
      (λ i. named_b (first_written k vs i) && eqb (second_written k vs i) mark) ∙ ap (λ (n : Bool). n && true) (code k).named

  abbrev number : Bool → Bool → Bool → Bool → Bool → Bool → ℕ → ℕ
  number known down long optional message outside f =
      cond (not known) 13
      (cond down 6
      (cond (not long) 4
      (cond optional 0
      (cond (not message) 4
      (cond ((eqb f 0 || eqb f 1) && outside) 14
      (cond (eqb f 1 && full_b b.queue) 15 0))))))

  abbrev heard_by : ℕ → Bool → Bool → ℕ → Heard
  heard_by j optional due f = cond (eqb j 0 && not optional) (heard_work b l bytes (heard_in b bytes) due f) (nothing_heard b j)

  bytes_are : bytes_of a l k vs ≡ bytes
  bytes_are = ap (λ (r : Sent). r.message) sends.is

  -- a message that is taken
  module _ (due : Bool) (due_is : due_b b.exchange l (heard_in b bytes) ≡ due) (fate_is : fate_no b l (heard_in b bytes) ≡ 0) where
    no_refusal : message_refusal b l bytes (heard_in b bytes) (fate_no b l (heard_in b bytes)) ≡ 0
    unfolding message_refusal
    no_refusal =
        λ i. number (sends.free_of.known i) (down_is i) (long i) (needed i) (is_message i) (outside_is i) (fate_is i)

    heard_is : heard_of b l bytes ≡ heard_work b l bytes (heard_in b bytes) due 0
    unfolding heard_of
    heard_is = λ i. heard_by (no_refusal i) (needed i) (due_is i) (fate_is i)

    heard_allowed : (heard_of b l (bytes_of a l k vs)).refusal ≡ 0
    unfolding heard_work
    heard_allowed = ap (λ (y : List ℕ). (heard_of b l y).refusal) bytes_are ∙ ap (λ (h : Heard). h.refusal) heard_is

    heard_left : heard_end a b l k vs ≡ (message_work b l bytes (heard_in b bytes) due 0).after
    unfolding heard_work
    heard_left =
        ap (λ (y : List ℕ). (heard_of b l y).settled.after) bytes_are ∙ ap (λ (h : Heard). h.settled.after) heard_is

    sent_left : due_b a.exchange l m ≡ due → sent_end a l k vs ≡ (sent_work a l m due).after
    sent_left e =
        ap (λ (r : Sent). r.settled.after) sends.is ∙ ap (λ (d : Bool). (sent_work a l m d).after) e

    -- what is settled alike at both ends
    stepped : (x : Exchange) (t : Touch) → due_b a.exchange l m ≡ due → sent_work a l m due ≡ settled_of a x t a.queue due
        → message_work b l bytes (heard_in b bytes) due 0 ≡ settled_of b x t b.queue due → HeardInStep a b l k vs
    stepped x t d e f =
        record {
          allowed = heard_allowed;
          in_step =
              subst (λ (y : Links). InStep y (heard_end a b l k vs)) (sym (sent_left d ∙ ap (λ (w : Settled). w.after) e))
              (subst (InStep (settled_of a x t a.queue due).after) (sym (heard_left ∙ ap (λ (w : Settled). w.after) f))
              (settled_step a b s x t a.queue b.queue due));
        }

-- IN AN ADD
pub add_in_step : AddInStep
unfolding sent_work message_work fate_of
add_in_step a b s l k vs o =
    stepped a b s l k vs sends true due fate (went_on a.exchange n) (due_touch a.exchange) o.due refl
    ((λ i. settled_of b (went_on (s.same_exchange i) (said i)) (due_touch (s.same_exchange i)) b.queue true)
    ∙ ap (λ (y : Exchange). settled_of b y (due_touch a.exchange) b.queue true) (went_heard a.exchange n))
  where
    n : Said
    n = sent_in a k vs

    sends : SendIs a l k vs
    sends = send_is a l k vs o.allowed

    said : heard_in b (encode_of k vs) ≡ as_heard n
    said = said_is a b s l k vs sends

    due : due_b b.exchange l (heard_in b (encode_of k vs)) ≡ true
    due = (λ i. due_b (s.same_exchange i) l (said i)) ∙ due_heard a.exchange l n o.adds ∙ o.due

    fate : fate_no b l (heard_in b (encode_of k vs)) ≡ 0
    fate =
        ap
        (λ (d : Bool).
        fate_number
        (cond d Taken
        (or_denied (heard_in b (encode_of k vs)) (fate_at (arriving_of (heard_in b (encode_of k vs))) (sort_of b.exchange)))))
        due

-- ITS BEGINNING
none_due : (x : Exchange) (l : ℕ) (m : Said) → x.stage ≡ 0 → due_b x l m ≡ false
unfolding due_b stages
none_due x l m e =
    rw (
      ne_eqb x.stage 1 (λ p. omega (arith, p, e)),
      ne_eqb x.stage 2 (λ p. omega (arith, p, e)),
      ne_eqb x.stage 3 (λ p. omega (arith, p, e)),
      ne_eqb x.stage 4 (λ p. omega (arith, p, e)),
      ne_eqb x.stage 5 (λ p. omega (arith, p, e)),
      ne_eqb x.stage 6 (λ p. omega (arith, p, e)),
      ne_eqb x.stage 7 (λ p. omega (arith, p, e)),
      ne_eqb x.stage 8 (λ p. omega (arith, p, e)),
      ne_eqb x.stage 9 (λ p. omega (arith, p, e)),
      ne_eqb x.stage 10 (λ p. omega (arith, p, e)),
      ne_eqb x.stage 11 (λ p. omega (arith, p, e)),
    )

no_sort : (x : Exchange) → x.stage ≡ 0 → sort_of x ≡ 0
unfolding sort_of
no_sort x e = simp e

-- an 02 request from the server
record ServerAdds (m : Said) : Type 0 where
  kind : m.kind ≡ 0x02
  reply : m.reply ≡ false
  client : m.client ≡ false

arrives : (m : Said) → ServerAdds m → arriving_of m ≡ 2
unfolding arriving_of
arrives m s = simp (s.kind, s.reply, s.client)

sent_begins : (x : Exchange) (l : ℕ) (m : Said) → ServerAdds m → sent_exchange x l m ≡ started 1 l m.link
unfolding sent_exchange
sent_begins x l m s = simp (s.kind, s.client)

sent_leaves : (m : Said) → ServerAdds m → sent_touch m ≡ Nothing
unfolding sent_touch
sent_leaves m s = simp s.kind

taken_fate : (x : Exchange) (l : ℕ) (m : Said) → x.stage ≡ 0 → ServerAdds m → (leb 1 m.mtu && leb m.mtu 5) ≡ true
    → fate_number (fate_of x l m) ≡ 0
unfolding fate_of bad_mtu fate_at fates
taken_fate x l m e s h = simp (none_due x l m e, arrives m s, no_sort x e, h)

taken_begins : (x : Exchange) (l : ℕ) (m : Said) → ServerAdds m → taken_exchange x l m 0 ≡ started 1 l m.link
unfolding taken_exchange
taken_begins x l m s = simp (arrives m s)

taken_leaves : (m : Said) → ServerAdds m → taken_touch m 0 ≡ Nothing
unfolding taken_touch
taken_leaves m s = simp (arrives m s)

server_adds : (a : Links) (vs : List ℕ) → a.role ≡ Server → (sent_in a AddLink vs).reply ≡ false → ServerAdds (sent_in a AddLink vs)
unfolding said_of
server_adds a vs r h = record { kind = refl; reply = h; client = ap (λ (x : Role). client_b x) r }

pub add_begins : AddBegins
unfolding sent_work message_work
add_begins a b s r e l vs h mtu ok =
    stepped a b s l AddLink vs sends false none fate (started 1 l n.link) Nothing (none_due a.exchange l n e)
    (λ i. settled_of a (sent_begins a.exchange l n adds i) (sent_leaves n adds i) a.queue false)
    ((λ i. settled_of b (taken_exchange b.exchange l (said i) 0) (taken_touch (said i) 0) b.queue false)
    ∙ (λ i. settled_of b (taken_begins b.exchange l (as_heard n) heard_adds i) (taken_leaves (as_heard n) heard_adds i) b.queue false))
  where
    n : Said
    n = sent_in a AddLink vs

    adds : ServerAdds n
    adds = server_adds a vs r h

    heard_adds : ServerAdds (as_heard n)
    heard_adds = record { kind = adds.kind; reply = adds.reply; client = adds.client }

    sends : SendIs a l AddLink vs
    sends = send_is a l AddLink vs ok

    said : heard_in b (encode_of AddLink vs) ≡ as_heard n
    said = said_is a b s l AddLink vs sends

    idle : b.exchange.stage ≡ 0
    idle = ap (λ (x : Exchange). x.stage) s.same_exchange ∙ e

    none : due_b b.exchange l (heard_in b (encode_of AddLink vs)) ≡ false
    none = none_due b.exchange l (heard_in b (encode_of AddLink vs)) idle

    fate : fate_no b l (heard_in b (encode_of AddLink vs)) ≡ 0
    fate = ap (λ (m : Said). fate_number (fate_of b.exchange l m)) said ∙ taken_fate b.exchange l (as_heard n) idle heard_adds mtu

-- either way round
other_other : (r : Role) → other_role (other_role r) ≡ r
other_other Client = refl
other_other Server = refl

turned : (a b : Links) → InStep a b → InStep b a
turned a b s =
    record {
      opposite = sym (ap other_role s.opposite ∙ other_other a.role);
      same_active = sym s.same_active;
      same_exchange = sym s.same_exchange;
    }

pub same_links_added : SameLinksAdded
same_links_added a b c d s done = s
same_links_added a b c d s (first_sends l k vs o rest) =
    same_links_added (sent_end a l k vs) (heard_end a b l k vs) c d (add_in_step a b s l k vs o).in_step rest
same_links_added a b c d s (second_sends l k vs o rest) =
    same_links_added (heard_end b a l k vs) (sent_end b l k vs) c d
    (turned (sent_end b l k vs) (heard_end b a l k vs) (add_in_step b a (turned a b s) l k vs o).in_step) rest

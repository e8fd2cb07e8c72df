-- Request 2026-05, "Proved", of the call.
-- Assumes nothing.
use Rattle.std.specs.Prelude.{Option, Some, None, Err}
use Prim.Native.Nat.{ℕ, suc, ◌/◌, ◌≤◌, ◌<◌}
use mathlib.Core.Path.{◌≡◌, ◌∙◌, refl, ap, sym, subst}
use mathlib.Core.Logic.{◌⊎◌, inl, inr}
use mathlib.Core.Bool.{Bool, true, false, ◌&&◌, cond}
use mathlib.Core.List.{List, []}
use native.Mathlib.Omega.{arith}
use lib.ListN.{length}
use lib.Dec.{eqb, leb}
use Rattle.layout.specs.Layout.{number_at}
use borrow.Author.Tests.{ne_eqb, le-leb, leb-true, leb-false, eqb-true, eqb-false}
use Rattle.layout.proofs.Bits.{and_left, and_right}
use Rattle.setup_read.specs.declared.Kind.{Kind}
use Rattle.setup_read.specs.declared.Kind.TheVariants.{Proposal, Accept, Confirm, Decline}
use Rattle.setup_read.specs.declared.Message.{Message}
use Rattle.setup_read.specs.Codes.{bytes_of_code, code_of, no_code}
use Rattle.setup_read.specs.Clc.{type_of, begins_b, message_b, kind_of, kind_in, message_of, message_in, read_of, tidy_of}
use Rattle.setup_read.specs.Places.{decline_at, endpoint_at}
use Rattle.setup_read.proofs.Codes.{code_most, size_back, small}
use Rattle.setup_read.proofs.Messages.{is_message, endpoint_size, kind_in_lem, kind_none, read_kind, decline_of}
use Rattle.setup_read.proofs.Reading.{accept_read, confirm_read}
use Rattle.setup.specs.declared.Settings.{Settings}
use Rattle.setup.specs.declared.Due.{Due}
use Rattle.setup.specs.declared.Arguments.{Arguments}
use Rattle.setup.specs.declared.Answer.{Answer}
use Rattle.setup.specs.declared.Refusal.TheVariants.{Uncoded, NoMessage, NotDue}
use Rattle.setup.specs.Setup.{due_type, Outcome, answers, our_proposal, ours, our_accept, our_confirm, our_decline, arguments_of, silent, saying, plain}
use Rattle.setup.specs.Setup.{opens, declines, taken_b, answered_of, heard_of, setup_of}
use Rattle.setup.specs.Statements.{Typed, said, Says, StartEqual, HeardDecline, EveryMessage, first, second, third, fourth}
use Rattle.setup.specs.Statements.{AnswersDue, TooLarge, Declined, opened_with_of, Exchange, ServerDeclined, ClientDeclined}
use Rattle.setup.proofs.Ours.{Fine, accept_fine, confirm_fine, decline_fine, proposal_fine, say_back, say_kind, says, accept_tidy}
use Rattle.setup.proofs.Ours.{confirm_tidy, decline_tidy}

proposal_type : (s : Settings) → type_of (our_proposal s).kind < 4
unfolding our_proposal
proposal_type s = omega arith

-- another kind's type
pub not_decline : (k : Kind) → (k ≡ Decline → ⊥) → (1 ≤ type_of (Some k)) × (type_of (Some k) < 4)
not_decline Proposal h = (omega arith, omega arith)
not_decline Accept h = (omega arith, omega arith)
not_decline Confirm h = (omega arith, omega arith)
not_decline Decline h = absurd (h refl)

-- what is due has a type
pub due_some : (d : Due) → eqb (due_type (Some d)) 0 ≡ false
due_some Due.Proposal = refl
due_some Due.Accept = refl
due_some Due.Confirm = refl

pub start_equal : StartEqual
unfolding setup_of
start_equal s a b = refl

-- with N coded: the start, and what is heard
module _ (s : Settings) (h : code_of s.size < no_code) (l : List ℕ) where
  coded : eqb (code_of s.size) no_code ≡ false
  coded = ne_eqb (code_of s.size) no_code (λ e. omega arith)

  start_is : setup_of s None l ≡ saying (our_proposal s) plain
  unfolding setup_of
  start_is = simp coded

  hears : (due : Option Due) → 1 ≤ due_type due → setup_of s due l ≡ heard_of s (due_type due) (read_of l)
  unfolding setup_of
  hears None g = absurd (omega arith)
  hears (Some Due.Proposal) g = simp coded
  hears (Some Due.Accept) g = simp coded
  hears (Some Due.Confirm) g = simp coded

-- what is heard, by its kind
module _ (s : Settings) (m : Message) where
  heard_decline : (d : ℕ) → m.kind ≡ Some Decline → heard_of s d m ≡ silent (declines m.diagnosis)
  unfolding heard_of
  heard_decline d e = simp e

  heard_proposal : m.kind ≡ Some Proposal → heard_of s 1 m ≡ saying (our_accept s) plain
  unfolding heard_of answered_of
  heard_proposal e = simp e

  heard_accept : m.kind ≡ Some Accept → taken_b m.code ≡ true → heard_of s 2 m ≡ saying (our_confirm s) (opens s m)
  unfolding heard_of answered_of
  heard_accept e t = simp (e, t)

  heard_large_accept : m.kind ≡ Some Accept → taken_b m.code ≡ false → heard_of s 2 m ≡ saying (our_decline s) (declines 1)
  unfolding heard_of answered_of
  heard_large_accept e t = simp (e, t)

  heard_confirm : m.kind ≡ Some Confirm → taken_b m.code ≡ true → heard_of s 3 m ≡ silent (opens s m)
  unfolding heard_of answered_of
  heard_confirm e t = simp (e, t)

  heard_large_confirm : m.kind ≡ Some Confirm → taken_b m.code ≡ false → heard_of s 3 m ≡ saying (our_decline s) (declines 1)
  unfolding heard_of answered_of
  heard_large_confirm e t = simp (e, t)

pub heard_a_decline : HeardDecline
unfolding decline_at
heard_a_decline s due l h g k =
    hears s h l due g
    ∙ ap (heard_of s (due_type due)) (decline_of l k)
    ∙ heard_decline s (decline_at l) (due_type due) refl

-- codes 0 to 2 are taken, and no others
pub taken_small : (c : ℕ) → c ≤ 2 → taken_b c ≡ true
unfolding taken_b
taken_small c h = let b = (small c).1 h in λ i. le-leb 1 (bytes_of_code c) b.0 i && le-leb (bytes_of_code c) 65540 b.1 i

pub taken_only : (c : ℕ) → taken_b c ≡ true → c ≤ 2
unfolding taken_b
taken_only c e =
    (small c).0
    (leb-true 1 (bytes_of_code c) (and_left (leb 1 (bytes_of_code c)) _ e), leb-true (bytes_of_code c) 65540 (and_right (leb 1 (bytes_of_code c)) _ e))

taken_large : (c : ℕ) → 3 ≤ c → taken_b c ≡ false
taken_large c h = go (taken_b c) refl
  where
    go : (b : Bool) → taken_b c ≡ b → taken_b c ≡ false
    go true e = absurd (omega (arith, taken_only c e))
    go false e = e

-- the arguments of an open on the other end's Accept or Confirm
opened_with : (x y : Settings) (k : Kind) (f : Bool) → code_of y.size < no_code → arguments_of x (ours k f y) ≡ opened_with_of x y
unfolding arguments_of ours opened_with_of
opened_with x y k f h =
    λ i.
    record {
      slot = x.slot;
      own = x.own;
      token = y.own;
      link = x.link;
      size = size_back y.size h i;
      index = y.slot;
      key1 = cond (eqb x.link 1) y.key x.key1;
      base1 = cond (eqb x.link 1) y.base x.base1;
      key2 = cond (eqb x.link 2) y.key x.key2;
      base2 = cond (eqb x.link 2) y.base x.base2;
      key3 = cond (eqb x.link 3) y.key x.key3;
      base3 = cond (eqb x.link 3) y.base x.base3;
      key4 = cond (eqb x.link 4) y.key x.key4;
      base4 = cond (eqb x.link 4) y.base x.base4;
    }

-- the exchange, with both N coded
module _ (c s : Settings) (l : List ℕ) (tc : Typed c) (ts : Typed s) (hc : code_of c.size < no_code) (hs : code_of s.size < no_code) where
  first-is : first c l ≡ saying (our_proposal c) plain
  unfolding first
  first-is = start_is c hc l

  second_is : second c s l ≡ saying (our_accept s) plain
  unfolding second tidy_of message_of our_proposal
  second_is =
      let p = proposal_fine c tc in
      hears s hs (said (first c l)) (Some Due.Proposal) (omega arith)
      ∙ ap (λ (a : Answer). heard_of s 1 (read_of (said a))) first-is
      ∙ ap (heard_of s 1) (say_back (our_proposal c) p.fit p.short plain)
      ∙ heard_proposal s (tidy_of (our_proposal c)) refl

  -- what c hears, and what it answers
  heard_of_accept : third c s l ≡ heard_of c 2 (our_accept s)
  unfolding third
  heard_of_accept =
      let p = accept_fine s ts hs in
      hears c hc (said (second c s l)) (Some Due.Accept) (omega arith)
      ∙ ap (λ (a : Answer). heard_of c 2 (read_of (said a))) second_is
      ∙ ap (heard_of c 2) (say_back (our_accept s) p.fit p.short plain ∙ accept_tidy s)

  third_opens : code_of s.size ≤ 2 → third c s l ≡ saying (our_confirm c) (answers (Some (opened_with_of c s)) None)
  unfolding ours
  third_opens h =
      heard_of_accept
      ∙ heard_accept c (our_accept s) refl (taken_small (code_of s.size) h)
      ∙ ap (λ (x : Arguments). saying (our_confirm c) (answers (Some x) None)) (opened_with c s Accept s.first hs)

  third_declines : 3 ≤ code_of s.size → third c s l ≡ saying (our_decline c) (declines 1)
  unfolding ours
  third_declines h = heard_of_accept ∙ heard_large_accept c (our_accept s) refl (taken_large (code_of s.size) h)

  -- what s hears of c's Confirm, and of its Decline
  heard_of_confirm : code_of s.size ≤ 2 → fourth c s l ≡ heard_of s 3 (our_confirm c)
  unfolding fourth
  heard_of_confirm h =
      let p = confirm_fine c tc hc in
      hears s hs (said (third c s l)) (Some Due.Confirm) (omega arith)
      ∙ ap (λ (a : Answer). heard_of s 3 (read_of (said a))) (third_opens h)
      ∙ ap (heard_of s 3) (say_back (our_confirm c) p.fit p.short _ ∙ confirm_tidy c)

  heard_of_decline : 3 ≤ code_of s.size → fourth c s l ≡ silent (declines 1)
  unfolding fourth our_decline
  heard_of_decline h =
      let p = decline_fine c tc in
      hears s hs (said (third c s l)) (Some Due.Confirm) (omega arith)
      ∙ ap (λ (a : Answer). heard_of s 3 (read_of (said a))) (third_declines h)
      ∙ ap (heard_of s 3) (say_back (our_decline c) p.fit p.short (declines 1) ∙ decline_tidy c)
      ∙ heard_decline s (our_decline c) 3 refl

-- what was said is of its kind, with its outcome
said_kind : (a : Answer) (m : Message) (o : Outcome) → Fine m → a ≡ saying m o → kind_in (said a) ≡ m.kind
said_kind a m o p e = ap (λ (x : Answer). kind_in (said x)) e ∙ say_kind m p.fit p.short o

said_outcome : (a : Answer) (m : Message) (o : Outcome) → a ≡ saying m o → a.outcome ≡ o
unfolding saying
said_outcome a m o e = ap (λ (x : Answer). x.outcome) e

coded_small : (n : ℕ) → n ≤ 2 → n < no_code
coded_small n h = omega arith

pub exchange : Exchange
unfolding our_proposal ours
exchange c s l tc ts kc ks =
    let hc = coded_small (code_of c.size) kc in
    let hs = coded_small (code_of s.size) ks in
    let e1 = first-is c s l tc ts hc hs in
    let e2 = second_is c s l tc ts hc hs in
    let e3 = third_opens c s l tc ts hc hs ks in
    record {
      proposal = said_kind _ (our_proposal c) _ (proposal_fine c tc) e1;
      start = said_outcome _ (our_proposal c) _ e1;
      accept = said_kind _ (our_accept s) _ (accept_fine s ts hs) e2;
      answer = said_outcome _ (our_accept s) _ e2;
      confirm = said_kind _ (our_confirm c) _ (confirm_fine c tc hc) e3;
      client = said_outcome _ (our_confirm c) _ e3;
      server =
          heard_of_confirm c s l tc ts hc hs ks
          ∙ heard_confirm s (our_confirm c) refl (taken_small (code_of c.size) kc)
          ∙ ap (λ (x : Arguments). silent (answers (Some x) None)) (opened_with s c Confirm false hc);
    }

pub server_declined : ServerDeclined
unfolding our_decline
server_declined c s l tc ts hc low high =
    let hs : code_of s.size < no_code = omega arith in
    let e3 = third_declines c s l tc ts hc hs low in
    record {
      declined = said_kind _ (our_decline c) _ (decline_fine c tc) e3;
      client = said_outcome _ (our_decline c) _ e3;
      server = heard_of_decline c s l tc ts hc hs low;
    }

pub client_declined : ClientDeclined
unfolding our_decline ours
client_declined c s l tc ts low high ks =
    let hc : code_of c.size < no_code = omega arith in
    let hs = coded_small (code_of s.size) ks in
    let e4 : fourth c s l ≡ saying (our_decline s) (declines 1) =
    heard_of_confirm c s l tc ts hc hs ks ∙ heard_large_confirm s (our_confirm c) refl (taken_large (code_of c.size) low) in
    record { declined = said_kind _ (our_decline s) _ (decline_fine s ts) e4; server = said_outcome _ (our_decline s) _ e4 }

-- every message answered is one of ours, by what is due
abbrev One : Settings → Option Due → Answer → Type 0
One s due a = (a.count ≡ 0) ⊎ AnswersDue s due a

either : (s : Settings) (due : Option Due) (t : Bool) (a b : Answer) → One s due a → One s due b → One s due (cond t a b)
either s due true a b x y = x
either s due false a b x y = y

none_said : (s : Settings) (due : Option Due) (o : Outcome) → One s due (silent o)
unfolding silent
none_said s due o = inl refl

module _ (s : Settings) (t : Typed s) (h : code_of s.size < no_code) where
  proposal_said : (o : Outcome) → Says (saying (our_proposal s) o) (our_proposal s)
  proposal_said o = let p = proposal_fine s t in says (our_proposal s) p.fit p.short o

  accept_said : (o : Outcome) → Says (saying (our_accept s) o) (our_accept s)
  accept_said o = let p = accept_fine s t h in says (our_accept s) p.fit p.short o

  confirm_said : (o : Outcome) → Says (saying (our_confirm s) o) (our_confirm s)
  confirm_said o = let p = confirm_fine s t h in says (our_confirm s) p.fit p.short o

  pub decline_said : (o : Outcome) → Says (saying (our_decline s) o) (our_decline s)
  decline_said o = let p = decline_fine s t in says (our_decline s) p.fit p.short o

  answered_said : (due : Option Due) (m : Message) → 1 ≤ due_type due → One s due (answered_of s m (due_type due))
  unfolding answered_of
  answered_said None m g = absurd (omega arith)
  answered_said (Some Due.Proposal) m g = inr (accept_said plain)
  answered_said (Some Due.Accept) m g =
      either s (Some Due.Accept) (taken_b m.code) _ _ (inr (inl (confirm_said (opens s m)))) (inr (inr (decline_said (declines 1))))
  answered_said (Some Due.Confirm) m g =
      either s (Some Due.Confirm) (taken_b m.code) _ _ (none_said s (Some Due.Confirm) (opens s m)) (inr (decline_said (declines 1)))

  heard_said : (due : Option Due) (m : Message) → 1 ≤ due_type due → One s due (heard_of s (due_type due) m)
  unfolding heard_of
  heard_said due m g =
      either s due (eqb (type_of m.kind) 0) _ _ (none_said s due (Err NoMessage))
      (either s due (eqb (type_of m.kind) 4) _ _ (none_said s due (declines m.diagnosis))
      (either s due (eqb (type_of m.kind) (due_type due)) _ _ (answered_said due m g) (none_said s due (Err NotDue))))

  due_said : (due : Option Due) (l : List ℕ) → One s due (setup_of s due l)
  due_said None l = subst (One s None) (sym (start_is s h l)) (inr (proposal_said plain))
  due_said (Some Due.Proposal) l =
      subst (One s (Some Due.Proposal)) (sym (hears s h l (Some Due.Proposal) (omega arith))) (heard_said (Some Due.Proposal) (read_of l) (omega arith))
  due_said (Some Due.Accept) l =
      subst (One s (Some Due.Accept)) (sym (hears s h l (Some Due.Accept) (omega arith))) (heard_said (Some Due.Accept) (read_of l) (omega arith))
  due_said (Some Due.Confirm) l =
      subst (One s (Some Due.Confirm)) (sym (hears s h l (Some Due.Confirm) (omega arith))) (heard_said (Some Due.Confirm) (read_of l) (omega arith))

below : (n : ℕ) → n ≤ no_code → eqb n no_code ≡ false → n < no_code
below n h e = let ne : n ≡ no_code → ⊥ = eqb-false n no_code e in go (leb (suc n) no_code) refl ne
  where
    go : (b : Bool) → leb (suc n) no_code ≡ b → (n ≡ no_code → ⊥) → n < no_code
    go true f ne = leb-true (suc n) no_code f
    go false f ne = absurd (ne (omega (arith, leb-false (suc n) no_code f)))

uncoded : (s : Settings) (due : Option Due) (l : List ℕ) → eqb (code_of s.size) no_code ≡ true → setup_of s due l ≡ silent (Err Uncoded)
unfolding setup_of
uncoded s due l e = simp e

-- N has no code, or one
pub by_code : (s : Settings) (due : Option Due) (l : List ℕ) → (setup_of s due l ≡ silent (Err Uncoded)) ⊎ (code_of s.size < no_code)
by_code s due l = go (eqb (code_of s.size) no_code) refl
  where
    go : (b : Bool) → eqb (code_of s.size) no_code ≡ b → (setup_of s due l ≡ silent (Err Uncoded)) ⊎ (code_of s.size < no_code)
    go true e = inl (uncoded s due l e)
    go false e = inr (below (code_of s.size) (code_most s.size) e)

pub every_message : EveryMessage
every_message s due l t = go (by_code s due l)
  where
    go : (setup_of s due l ≡ silent (Err Uncoded)) ⊎ (code_of s.size < no_code) → One s due (setup_of s due l)
    go (inl e) = subst (One s due) (sym e) (none_said s due (Err Uncoded))
    go (inr h) = due_said s t h due l

-- DECLINED BY US EXACTLY WHEN
clash : {A : Type 0} (x y : Option Kind) → type_of x < type_of y → x ≡ y → A
clash x y h e = absurd (omega (arith, h, ap type_of e))

-- what is read of an Accept or a Confirm
endpoint_code : (l : List ℕ) (k : Option Kind) → 2 ≤ type_of k → type_of k ≤ 3 → kind_in l ≡ k → (read_of l).code ≡ number_at l 50 1 / 16
unfolding kind_of endpoint_at
endpoint_code l k low high e = go (message_b l) refl
  where
    typed : (t : ℕ) → Some (kind_of t) ≡ k → (t ≡ 1 → ⊥) × (t ≡ 4 → ⊥)
    typed t c = ((λ one. absurd (omega (arith, low, ap type_of (sym c ∙ ap (λ (n : ℕ). Some (kind_of n)) one)))), (λ four. absurd (omega (arith, high, ap type_of (sym c ∙ ap (λ (n : ℕ). Some (kind_of n)) four)))))

    read : (j : Option Kind) → j ≡ k → length l ≡ 68 → kind_in l ≡ j → (read_of l).code ≡ number_at l 50 1 / 16
    read None c n i = absurd (omega (arith, low, ap type_of c))
    read (Some Proposal) c n i = absurd (omega (arith, low, ap type_of c))
    read (Some Accept) c n i = ap (λ (m : Message). m.code) (read_kind l (Some Accept) i ∙ accept_read l (omega (arith, n)))
    read (Some Confirm) c n i = ap (λ (m : Message). m.code) (read_kind l (Some Confirm) i ∙ confirm_read l (omega (arith, n)))
    read (Some Decline) c n i = absurd (omega (arith, high, ap type_of c))

    go : (b : Bool) → message_b l ≡ b → (read_of l).code ≡ number_at l 50 1 / 16
    go true m =
        let c = sym (kind_in_lem l (number_at l 4 1) m refl) ∙ e in
        let n = typed (number_at l 4 1) c in
        read k refl (endpoint_size l (is_message l m).sized n.0 n.1) e
    go false m = absurd (omega (arith, low, ap type_of (sym (kind_none l m) ∙ e)))

read_type : (l : List ℕ) → (read_of l).kind ≡ kind_in l
unfolding read_of message_in message_of
read_type l = refl

no_bytes : message_b [] ≡ false
unfolding message_b begins_b
no_bytes = refl

silent_kind : (o : Outcome) → kind_in (said (silent o)) ≡ None
unfolding silent
silent_kind o = kind_none [] no_bytes

module _ (s : Settings) (due : Option Due) (l : List ℕ) (t : Typed s) where
  -- then it is a Decline
  declined_is : TooLarge s due l → setup_of s due l ≡ saying (our_decline s) (declines 1)
  declined_is x = go x.heard
    where
      go : ((due ≡ Some Due.Accept) × (kind_in l ≡ Some Accept)) ⊎ ((due ≡ Some Due.Confirm) × (kind_in l ≡ Some Confirm))
          → setup_of s due l ≡ saying (our_decline s) (declines 1)
      go (inl a) =
          let c = endpoint_code l (Some Accept) (omega arith) (omega arith) a.1 in
          ap (λ (d : Option Due). setup_of s d l) a.0
          ∙ hears s x.coded l (Some Due.Accept) (omega arith)
          ∙ heard_large_accept s (read_of l) (read_type l ∙ a.1) (taken_large (read_of l).code (omega (arith, c, x.code)))
      go (inr a) =
          let c = endpoint_code l (Some Confirm) (omega arith) (omega arith) a.1 in
          ap (λ (d : Option Due). setup_of s d l) a.0
          ∙ hears s x.coded l (Some Due.Confirm) (omega arith)
          ∙ heard_large_confirm s (read_of l) (read_type l ∙ a.1) (taken_large (read_of l).code (omega (arith, c, x.code)))

  -- a Decline comes of nothing else
  not_silent : {A : Type 0} (o : Outcome) → kind_in (said (silent o)) ≡ Some Decline → A
  not_silent o e = clash None (Some Decline) (omega arith) (sym (silent_kind o) ∙ e)

  not_said : {A : Type 0} (m : Message) (o : Outcome) → Fine m → type_of m.kind < 4 → kind_in (said (saying m o)) ≡ Some Decline → A
  not_said m o p h e = absurd (omega (arith, h, ap type_of (sym (say_kind m p.fit p.short o) ∙ e)))

  module _ (h : code_of s.size < no_code) where
    tested : (m : Message) (d : ℕ) (none declined due_is one taken two : Bool)
        → kind_in
        (said
        (cond none (silent (Err NoMessage))
        (cond declined (silent (declines m.diagnosis))
        (cond due_is
        (cond one (saying (our_accept s) plain)
        (cond taken (cond two (saying (our_confirm s) (opens s m)) (silent (opens s m))) (saying (our_decline s) (declines 1))))
        (silent (Err NotDue))))))
        ≡ Some Decline
        → (due_is ≡ true) × (one ≡ false) × (taken ≡ false)
    unfolding ours
    tested m d true b c e f g x = not_silent _ x
    tested m d false true c e f g x = not_silent _ x
    tested m d false false false e f g x = not_silent _ x
    tested m d false false true true f g x = not_said (our_accept s) _ (accept_fine s t h) (omega arith) x
    tested m d false false true false true true x = not_said (our_confirm s) _ (confirm_fine s t h) (omega arith) x
    tested m d false false true false true false x = not_silent _ x
    tested m d false false true false false g x = (refl, refl, refl)

    by_tests : (d : ℕ) (m : Message) → kind_in (said (heard_of s d m)) ≡ Some Decline
        → (eqb (type_of m.kind) d ≡ true) × (eqb d 1 ≡ false) × (taken_b m.code ≡ false)
    unfolding heard_of answered_of
    by_tests d m x =
        tested m d (eqb (type_of m.kind) 0) (eqb (type_of m.kind) 4) (eqb (type_of m.kind) d) (eqb d 1) (taken_b m.code) (eqb d 2) x

    large : (c : ℕ) → taken_b c ≡ false → 3 ≤ c
    large c e = go (leb 3 c) refl
      where
        go : (b : Bool) → leb 3 c ≡ b → 3 ≤ c
        go true f = leb-true 3 c f
        go false f = let u : true ≡ false = sym (taken_small c (omega (arith, leb-false 3 c f))) ∙ e in let z : ◌≡◌ {A = ℕ} 0 1 = cc in absurd (omega arith)

    kind_of_lem : (k j : Option Kind) → eqb (type_of k) (type_of j) ≡ true → 2 ≤ type_of j → type_of j ≤ 3 → k ≡ j
    kind_of_lem k j e a b = go k j (eqb-true (type_of k) (type_of j) e) a b
      where
        go : (k j : Option Kind) → type_of k ≡ type_of j → 2 ≤ type_of j → type_of j ≤ 3 → k ≡ j
        go (Some Accept) (Some Accept) e a b = refl
        go (Some Confirm) (Some Confirm) e a b = refl
        go None j e a b = absurd (omega (arith, e, a))
        go (Some Proposal) j e a b = absurd (omega (arith, e, a))
        go (Some Decline) j e a b = absurd (omega (arith, e, b))
        go (Some Accept) None e a b = absurd (omega (arith, e))
        go (Some Accept) (Some Proposal) e a b = absurd (omega (arith, e))
        go (Some Accept) (Some Confirm) e a b = absurd (omega (arith, e))
        go (Some Accept) (Some Decline) e a b = absurd (omega (arith, e))
        go (Some Confirm) None e a b = absurd (omega (arith, e))
        go (Some Confirm) (Some Proposal) e a b = absurd (omega (arith, e))
        go (Some Confirm) (Some Accept) e a b = absurd (omega (arith, e))
        go (Some Confirm) (Some Decline) e a b = absurd (omega (arith, e))

    -- of an Accept or a Confirm that was due
    of_due : (j : Option Kind) → 2 ≤ type_of j → type_of j ≤ 3 → kind_in (said (heard_of s (type_of j) (read_of l))) ≡ Some Decline
        → (kind_in l ≡ j) × (3 ≤ number_at l 50 1 / 16)
    of_due j a b x =
        let y = by_tests (type_of j) (read_of l) x in
        let k = kind_of_lem (kind_in l) j (ap (λ (k : Option Kind). eqb (type_of k) (type_of j)) (sym (read_type l)) ∙ y.0) a b in
        let c = endpoint_code l j a b k in
        (k, omega (arith, c, large (read_of l).code y.2))

  from_decline : kind_in (said (setup_of s due l)) ≡ Some Decline → TooLarge s due l
  from_decline x = go (by_code s due l)
    where
      by_due : (h : code_of s.size < no_code) (d : Option Due) → due ≡ d → kind_in (said (setup_of s d l)) ≡ Some Decline → TooLarge s due l
      by_due h None e y =
          let z = ap (λ (a : Answer). kind_in (said a)) (sym (start_is s h l)) ∙ y in
          not_said (our_proposal s) plain (proposal_fine s t) (proposal_type s) z
      by_due h (Some Due.Proposal) e y =
          let z = ap (λ (a : Answer). kind_in (said a)) (sym (hears s h l (Some Due.Proposal) (omega arith))) ∙ y in
          let u : true ≡ false = (by_tests h 1 (read_of l) z).1 in
          let n : ◌≡◌ {A = ℕ} 0 1 = cc in
          absurd (omega arith)
      by_due h (Some Due.Accept) e y =
          let z = ap (λ (a : Answer). kind_in (said a)) (sym (hears s h l (Some Due.Accept) (omega arith))) ∙ y in
          let r = of_due h (Some Accept) (omega arith) (omega arith) z in
          record { coded = h; heard = inl (e, r.0); code = r.1 }
      by_due h (Some Due.Confirm) e y =
          let z = ap (λ (a : Answer). kind_in (said a)) (sym (hears s h l (Some Due.Confirm) (omega arith))) ∙ y in
          let r = of_due h (Some Confirm) (omega arith) (omega arith) z in
          record { coded = h; heard = inr (e, r.0); code = r.1 }

      go : (setup_of s due l ≡ silent (Err Uncoded)) ⊎ (code_of s.size < no_code) → TooLarge s due l
      go (inl e) = not_silent (Err Uncoded) (ap (λ (a : Answer). kind_in (said a)) (sym e) ∙ x)
      go (inr h) = by_due h due refl x

pub declined : Declined
unfolding our_decline
declined s due l t =
    record {
      exactly = (from_decline s due l t, (λ x. said_kind _ (our_decline s) _ (decline_fine s t) (declined_is s due l t x)));
      so =
          λ x. (
            said_outcome _ (our_decline s) _ (declined_is s due l t x),
            subst (λ (a : Answer). Says a (our_decline s)) (sym (declined_is s due l t x)) (decline_said s t x.coded (declines 1)),
          );
    }

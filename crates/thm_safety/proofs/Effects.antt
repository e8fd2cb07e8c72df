-- What a call does to a group, however that came about: it refuses; or acts on the links; or a gauge has a sample more; or one turn is put
-- back in the slot on which the call acts. All else that is said of calls one by one goes by these cases; a further call is a clause more of
-- `effect`. Assumes nothing.
use mathlib.Core.Path.{◌≡◌, refl, sym}
use mathlib.Core.Bool.{Bool, true, false, false≢true, not, cond, ◌&&◌, ◌||◌}
use mathlib.Core.List.{List, []}
use Prim.Native.Nat.{ℕ, zero, suc, ◌≤◌}
use native.Mathlib.Omega.{arith}
use lib.Dec.{leb, eqb, eqb-suc-zero}
use borrow.Author.Tests.{eqb-true, eqb-false, not-false}
use Rattle.cdc.specs.declared.Message.{Message}
use Rattle.cdc.specs.declared.Decoded.{Decoded}
use Rattle.cdc.specs.declared.Decoded.TheVariants.{Good, Malformed}
use Rattle.cdc.specs.Cdc.{decode_of}
use Rattle.element.specs.Element.{fresh_element}
use Rattle.conn_record.specs.Connection.{zero_record, remote_ok, coherent_b}
use Rattle.gauge.specs.declared.Gauge.{Gauge}
use Rattle.gauge.specs.Gauge.{most_ms, sampled_of}
use Rattle.conn_record.specs.declared.Opening as Given
use Rattle.conn_record.specs.Connection.{opened_record}
use Rattle.group_table.specs.Table.{link_in}
use Rattle.group_rules.specs.Rules.{plain_turn, bad_opening, Group, Request, open_slot, free_slot, link_change, link_message, link_send, sample, Call, on, hear, manage, Says, refusal, torn, link_changed, link_heard, link_sent, Turn, request_turn, hear_turn, Done, does, refuses, put_turn, record_of_all, element_in, link_of, sizes_ok, out_of, on_does, holder_of, hear_at, hear_message, hear_does, open_refusal, open_does, free_refusal, free_does, lent_ok, link_refusal, fails_over, link_does, link_message_does, link_send_does, links_of, with_links, healthy, sample_refusal, sample_does}
use Rattle.group_table.specs.Table.{slot_b, open_b, active_b, gauge_at, find_from, gauge_set}
use Rattle.group_table.specs.declared.Links.{Links}
use Rattle.link_message.specs.declared.Kind.{Kind}
use Rattle.link_message.specs.Layouts.{encode_of}
use Rattle.link_exchange.specs.declared.Said.{Said}
use Rattle.link_exchange.specs.Exchange.{due_b}
use Rattle.link_calls.specs.declared.Heard.{Heard}
use Rattle.link_calls.specs.declared.Sent.{Sent}
use Rattle.link_calls.specs.Calls.{no_reply, unchanged, optional_b, message_refusal, heard_in, fate_no, heard_work, nothing_heard, heard_of, send_refusal, sent_work, sent_in, sent_of}
use Rattle.thm_links.specs.Statements as Link
use Rattle.thm_links.specs.Statements.{Call as LinkCall}
use Rattle.thm_order.proofs.Slots.{found_open}
use Rattle.thm_safety.specs.Statement.{OpenAt, own_of}
use Rattle.thm_refusals.specs.Refusals.{lent_out}
use Rattle.thm_safety.specs.Links.{call_of, relinked}
use Rattle.conn_answer.specs.Outcome.{no_message}
use Rattle.thm_refusals.proofs.Answers.{clash}

-- the turn of an accepted open, and that of an accepted free
abbrev pub open_turn : Group → Given.Opening → Turn
open_turn g given = plain_turn (opened_record given) (fresh_element g.N)

abbrev pub free_turn : Group → ℕ → Turn
free_turn g k = plain_turn zero_record (element_in g k)

-- the turn t of slot k is what the call c does there
pub data Acts (g : Group) (c : Call) (k : ℕ) (t : Turn) : Type 0 where
  asks : (q : Request) → c ≡ on k q → OpenAt g k → t ≡ request_turn g.N (link_of g k) (record_of_all g k) (element_in g k) q → Acts g c k t
  hears : (b : List ℕ) (m : Message) → c ≡ hear b → decode_of b ≡ Good m → holder_of g m.token ≡ k → OpenAt g k → own_of g k ≡ m.token
      → t ≡ hear_turn g.N (link_of g k) (record_of_all g k) (element_in g k) m → Acts g c k t
  opens : (given : Given.Opening) → c ≡ manage (open_slot k given) → open_refusal g k given ≡ 0
      → t ≡ open_turn g given → Acts g c k t
  frees : c ≡ manage (free_slot k) → free_refusal g k ≡ 0 → t ≡ free_turn g k → Acts g c k t

-- what a call on the links says where it is not refused
pub record Quiet (says : Says) : Type 0 where
  pub not_refused : (n : ℕ) → says ≡ refusal n → ⊥
  pub not_torn : says ≡ torn → ⊥

-- what an accepted sample does
abbrev pub gauge_after : Group → ℕ → ℕ → Gauge
gauge_after g l ms = sampled_of (gauge_at g.gauges l) ms

abbrev pub resampled : Group → ℕ → ℕ → Done
resampled g l ms =
    record { answer = healthy (gauge_after g l ms); group = with_links g (gauge_set (links_of g) l (gauge_after g l ms)) }

-- refusal 3 is given for an open record that is not coherent
abbrev pub Incoherent : Group → ℕ → Type 0
Incoherent g n = n ≡ 3 → (k : ℕ) × OpenAt g k × (coherent_b g.N (record_of_all g k) ≡ false)

pub data Effect (g : Group) (c : Call) (x : Done) : Type 0 where
  refuses_it : (n : ℕ) → Incoherent g n → x ≡ refuses g n (lent_out c) → Effect g c x
  links_it : (k : LinkCall) (b : List ℕ) → c ≡ call_of k b → Quiet x.answer.says → x.group ≡ relinked g k → Effect g c x
  samples_it : (l ms : ℕ) → c ≡ manage (sample l ms) → sample_refusal g.links l ms ≡ 0 → x ≡ resampled g l ms → Effect g c x
  puts_turn : (k : ℕ) (t : Turn) → sizes_ok g ≡ true → Acts g c k t → x ≡ put_turn g k t → Effect g c x

-- WHAT AN ACCEPTED OPEN, AND AN ACCEPTED FREE, WERE TESTED FOR
past : (t : Bool) (x y : ℕ) → cond t (suc x) y ≡ 0 → (t ≡ false) × (y ≡ 0)
past true x y e = absurd (omega (arith, e))
past false x y e = (refl, e)

neither : (a b : Bool) → a || b ≡ false → (a ≡ false) × (b ≡ false)
neither true b e = absurd (false≢true (sym e))
neither false b e = (refl, e)

pub record Openable (g : Group) (k : ℕ) (given : Given.Opening) : Type 0 where
  pub sizes : sizes_ok g ≡ true
  pub slot : slot_b g.S k ≡ true
  pub was_closed : (record_of_all g k).id.opened ≡ false
  pub own_some : 1 ≤ given.own
  pub peer_some : 1 ≤ given.peer
  pub remote_ok_lem : remote_ok given.remote ≡ true
  pub link_in_lem : link_in given.link ≡ true

pub record Freeable (g : Group) (k : ℕ) : Type 0 where
  pub sizes : sizes_ok g ≡ true
  pub is_open : OpenAt g k
  pub aborted : (record_of_all g k).marks.abort ≡ true

module _ (g : Group) (k : ℕ) where
  pub open_facts : (given : Given.Opening) → open_refusal g k given ≡ 0 → Openable g k given
  unfolding open_refusal
  open_facts given e =
      let a = past (not (sizes_ok g)) 0 _ e in
      let b = past (not (slot_b g.S k)) 1 _ a.1 in
      let c = past (record_of_all g k).id.opened 9 _ b.1 in
      let d = past (bad_opening given) 11 _ c.1 in
      let x = past (not (link_in given.link)) 12 _ d.1 in
      let u = neither (eqb given.own 0) _ d.0 in
      let v = neither (eqb given.peer 0) _ u.1 in
      let own_some : given.own ≡ 0 → ⊥ = eqb-false given.own 0 u.0 in
      let peer_some : given.peer ≡ 0 → ⊥ = eqb-false given.peer 0 v.0 in
      record {
        sizes = not-false (sizes_ok g) a.0;
        slot = not-false (slot_b g.S k) b.0;
        was_closed = c.0;
        own_some = omega (arith, own_some);
        peer_some = omega (arith, peer_some);
        remote_ok_lem = not-false (remote_ok given.remote) v.1;
        link_in_lem = not-false (link_in given.link) x.0;
      }

  pub free_facts : free_refusal g k ≡ 0 → Freeable g k
  unfolding free_refusal
  free_facts e =
      let a = past (not (sizes_ok g)) 0 _ e in
      let b = past (not (open_b g.S g.table k)) 1 _ a.1 in
      let c = past (not (coherent_b g.N (record_of_all g k))) 2 _ b.1 in
      let d = past (not (record_of_all g k).marks.abort) 6 _ c.1 in
      record {
        sizes = not-false (sizes_ok g) a.0;
        is_open = not-false (open_b g.S g.table k) b.0;
        aborted = not-false (record_of_all g k).marks.abort d.0;
      }

-- REFUSAL 3
record Number (g : Group) (n : ℕ) : Type 0 where
  incoherent : Incoherent g n

or_else : (g : Group) (t : Bool) (x y : ℕ) → Number g x → Number g y → Number g (cond t x y)
or_else g true x y h k = h
or_else g false x y h k = k

number : (g : Group) (n : ℕ) → eqb n 3 ≡ false → Number g n
number g n h = record { incoherent = λ e. absurd (eqb-false n 3 h e) }

open_3 : (g : Group) (k : ℕ) (given : Given.Opening) → Number g (open_refusal g k given)
unfolding open_refusal
open_3 g k given = search (or_else, number) depth 12

free_3 : (g : Group) (k : ℕ) → Incoherent g (free_refusal g k)
unfolding free_refusal
free_3 g k = (or_else g (not (sizes_ok g)) 1 _ (number g 1 refl) (go (open_b g.S g.table k) (coherent_b g.N (record_of_all g k)) refl refl)).incoherent
  where
    go : (o h : Bool) → open_b g.S g.table k ≡ o → coherent_b g.N (record_of_all g k) ≡ h
        → Number g (cond (not o) 2 (cond (not h) 3 (cond (not (record_of_all g k).marks.abort) 7 0)))
    go false h o e = number g 2 refl
    go true false o e = record { incoherent = λ p. (k, o, e) }
    go true true o e = or_else g (not (record_of_all g k).marks.abort) 7 0 (number g 7 refl) (number g 0 refl)

-- EVERY CALL
-- what an accepted sample was tested for
pub sample_facts : (links : List Bool) (l ms : ℕ) → sample_refusal links l ms ≡ 0 → (link_in l ≡ true) × (leb ms most_ms ≡ true)
unfolding sample_refusal
sample_facts links l ms e =
    let a = past (not (link_in l)) 12 _ e in
    let b = past (not (active_b links l)) 5 _ a.1 in
    let d = past (not (leb ms most_ms)) 16 0 b.1 in
    (not-false (link_in l) a.0, not-false (leb ms most_ms) d.0)

-- sample's refusals are 13, 6 and 17
sample_3 : (links : List Bool) (l ms : ℕ) → eqb (sample_refusal links l ms) 3 ≡ false
unfolding sample_refusal
sample_3 links l ms = go (not (link_in l)) (not (active_b links l)) (not (leb ms most_ms))
  where
    go : (a b d : Bool) → eqb (cond a 13 (cond b 6 (cond d 17 0))) 3 ≡ false
    go true b d = refl
    go false true d = refl
    go false false true = refl
    go false false false = refl

-- link message's refusals are 13, 6, 4, 14 and 15, link send's 13, 6, 14 and 15
record Not3 (n : ℕ) : Type 0 where
  is : eqb n 3 ≡ false

either_3 : (t : Bool) (x y : ℕ) → Not3 x → Not3 y → Not3 (cond t x y)
either_3 true x y h k = h
either_3 false x y h k = k

this_3 : (n : ℕ) → eqb n 3 ≡ false → Not3 n
this_3 n e = record { is = e }

message_3 : (ls : Links) (l : ℕ) (b : List ℕ) → eqb (heard_of ls l b).refusal 3 ≡ false
unfolding heard_of heard_work nothing_heard message_refusal
message_3 ls l b = (go (eqb j 0 && not (optional_b b))).is
  where
    m : Said
    m = heard_in ls b

    j : ℕ
    j = message_refusal ls l b m (fate_no ls l m)

    number_3 : Not3 j
    number_3 = search (either_3, this_3) depth 12

    go : (t : Bool)
        → Not3 (cond t (heard_work ls l b m (due_b ls.exchange l m) (fate_no ls l m)) (nothing_heard ls j)).refusal
    go true = this_3 0 refl
    go false = number_3

send_3 : (ls : Links) (l : ℕ) (k : Kind) (vs : List ℕ) → eqb (sent_of ls l k vs).refusal 3 ≡ false
unfolding sent_of send_refusal
send_3 ls l k vs = (go (eqb j 0)).is
  where
    m : Said
    m = sent_in ls k vs

    due : Bool
    due = due_b ls.exchange l m

    j : ℕ
    j = send_refusal ls l m due

    number_3 : Not3 j
    number_3 = search (either_3, this_3) depth 12

    go : (t : Bool)
        → Not3
        (cond {A = Sent} t (record { refusal = 0; message = encode_of k vs; settled = sent_work ls l m due })
        (record { refusal = j; message = no_reply; settled = unchanged ls })
        ).refusal
    go true = this_3 0 refl
    go false = number_3

-- and 1 first
change_3 : (l : ℕ) → eqb (cond (link_in l) 0 13) 3 ≡ false
change_3 l = (either_3 (link_in l) 0 13 (this_3 0 refl) (this_3 13 refl)).is

lent_3 : (g : Group) (b : List ℕ) (j : ℕ) → eqb j 3 ≡ false → eqb (link_refusal g b j) 3 ≡ false
unfolding link_refusal
lent_3 g b j e = (either_3 (lent_ok g b) j 1 (this_3 j e) (this_3 1 refl)).is

module _ (g : Group) where
  not3 : (n : ℕ) → eqb n 3 ≡ false → Incoherent g n
  not3 n h = (number g n h).incoherent

  asked : (k : ℕ) (q : Request) (s o : Bool) → sizes_ok g ≡ s → open_b g.S g.table k ≡ o
      → Effect g (on k q)
      (cond s
      (cond o (put_turn g k (request_turn g.N (link_of g k) (record_of_all g k) (element_in g k) q)) (refuses g 2 (out_of q)))
      (refuses g 1 (out_of q)))
  asked k q true true h o = puts_turn k _ h (asks q refl o refl) refl
  asked k q true false h o = refuses_it 2 (not3 2 refl) refl
  asked k q false o h p = refuses_it 1 (not3 1 refl) refl

  -- the slot that a token finds is open and has it
  pub holder_open : (token i : ℕ) → holder_of g token ≡ suc i → OpenAt g (suc i) × (own_of g (suc i) ≡ token)
  holder_open token i e = go (eqb token 0) e
    where
      go : (z : Bool) → cond z 0 (find_from g.table token g.S) ≡ suc i → OpenAt g (suc i) × (own_of g (suc i) ≡ token)
      go true p = absurd (omega (arith, p))
      go false p = found_open g.S g.table token i p

  heard : (b : List ℕ) → sizes_ok g ≡ true → (d : Decoded) → decode_of b ≡ d → Effect g (hear b) (hear_message g d)
  unfolding hear_at
  heard b s (Good m) e = go (holder_of g m.token) refl
    where
      go : (k : ℕ) → holder_of g m.token ≡ k → Effect g (hear b) (hear_at g m k)
      go zero p = refuses_it 5 (not3 5 refl) refl
      go (suc i) p = let w = holder_open m.token i p in puts_turn (suc i) _ s (hears b m refl e p w.0 w.1 refl) (rw (eqb-suc-zero i))
  heard b s Malformed e = refuses_it 4 (not3 4 refl) refl

  pub effect : (c : Call) → Effect g c (does g c)
  unfolding on_does hear_does open_does free_does fails_over link_does link_message_does link_send_does sample_does
  effect (on k q) = asked k q (sizes_ok g) (open_b g.S g.table k) refl refl
  effect (hear b) = go (sizes_ok g) refl
    where
      go : (s : Bool) → sizes_ok g ≡ s → Effect g (hear b) (cond s (hear_message g (decode_of b)) (refuses g 1 []))
      go true s = heard b s (decode_of b) refl
      go false s = refuses_it 1 (not3 1 refl) refl
  effect (manage (open_slot k given)) = go (eqb (open_refusal g k given) 0) refl
    where
      go : (z : Bool) → eqb (open_refusal g k given) 0 ≡ z
          → Effect g (manage (open_slot k given))
          (cond z (put_turn g k (open_turn g given)) (refuses g (open_refusal g k given) []))
      go true e =
          let no = eqb-true (open_refusal g k given) 0 e in
          puts_turn k _ (open_facts g k given no).sizes (opens given refl no refl) refl
      go false e = refuses_it (open_refusal g k given) (open_3 g k given).incoherent refl
  effect (manage (free_slot k)) = go (eqb (free_refusal g k) 0) refl
    where
      go : (z : Bool) → eqb (free_refusal g k) 0 ≡ z
          → Effect g (manage (free_slot k)) (cond z (put_turn g k (free_turn g k)) (refuses g (free_refusal g k) []))
      go true e = let no = eqb-true (free_refusal g k) 0 e in puts_turn k _ (free_facts g k no).sizes (frees refl no refl) refl
      go false e = refuses_it (free_refusal g k) (free_3 g k) refl
  effect (manage (link_change l up b)) = go (eqb (link_refusal g b (cond (link_in l) 0 13)) 0)
    where
      go : (z : Bool)
          → Effect g (manage (link_change l up b))
          (cond z (fails_over g (Link.next (links_of g) (LinkCall.change l up)) b link_changed false no_message)
          (refuses g (link_refusal g b (cond (link_in l) 0 13)) b))
      go true = links_it (LinkCall.change l up) b refl (record { not_refused = λ n e. clash (cc); not_torn = λ e. clash (cc) }) refl
      go false = refuses_it _ (not3 _ (lent_3 g b _ (change_3 l))) refl
  effect (manage (link_message l bytes b)) = go (eqb (link_refusal g b (heard_of (links_of g) l bytes).refusal) 0)
    where
      h : Heard
      h = heard_of (links_of g) l bytes

      go : (z : Bool)
          → Effect g (manage (link_message l bytes b))
          (cond z (fails_over g (Link.next (links_of g) (LinkCall.message l bytes)) b (link_heard h.fields h.fate h.settled.up) h.replies h.reply)
          (refuses g (link_refusal g b h.refusal) b))
      go true = links_it (LinkCall.message l bytes) b refl (record { not_refused = λ n e. clash (cc); not_torn = λ e. clash (cc) }) refl
      go false = refuses_it _ (not3 _ (lent_3 g b _ (message_3 (links_of g) l bytes))) refl
  effect (manage (link_send l k vs b)) = go (eqb (link_refusal g b (sent_of (links_of g) l k vs).refusal) 0)
    where
      h : Sent
      h = sent_of (links_of g) l k vs

      go : (z : Bool)
          → Effect g (manage (link_send l k vs b))
          (cond z (fails_over g (Link.next (links_of g) (LinkCall.send l k vs)) b (link_sent h.settled.up) true h.message)
          (refuses g (link_refusal g b h.refusal) b))
      go true = links_it (LinkCall.send l k vs) b refl (record { not_refused = λ n e. clash (cc); not_torn = λ e. clash (cc) }) refl
      go false = refuses_it _ (not3 _ (lent_3 g b _ (send_3 (links_of g) l k vs))) refl
  effect (manage (sample l ms)) = go (eqb (sample_refusal g.links l ms) 0) refl
    where
      never_3 : Incoherent g (sample_refusal g.links l ms)
      never_3 = not3 _ (sample_3 g.links l ms)

      go : (z : Bool) → eqb (sample_refusal g.links l ms) 0 ≡ z
          → Effect g (manage (sample l ms)) (cond z (resampled g l ms) (refuses g (sample_refusal g.links l ms) []))
      go true e = samples_it l ms refl (eqb-true (sample_refusal g.links l ms) 0 e) refl
      go false e = refuses_it (sample_refusal g.links l ms) never_3 refl

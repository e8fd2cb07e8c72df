-- The claims about gauges: who changes one, what it holds, and that no call of document 01 reads one. Assumes nothing.
use Prim.Native.Nat.{ℕ, zero, suc, ◌*◌, ◌≤◌}
use mathlib.Core.Path.{◌≡◌, refl, sym, ap, ◌∙◌, subst}
use mathlib.Core.Logic.{◌⊎◌, inl, inr}
use mathlib.Core.Bool.{Bool, true, false, ◌&&◌, ◌||◌, not, cond, and-false, and-true}
use mathlib.Core.List.{List, [], ◌∷◌, ◌++◌}
use native.Mathlib.Nat.{mul-le-mul_right}
use native.Mathlib.Omega.{arith}
use lib.Dec.{leb, ltb, eqb}
use lib.ListN.{length}
use lib.IntN.{pos}
use lib.Ieee.{binary64, of_int}
use borrow.Author.Tests.{ne_eqb, eqb-true, eqb-false, leb-true}
use Rattle.cdc.specs.declared.Decoded.{Decoded}
use Rattle.cdc.specs.declared.Decoded.TheVariants.{Good, Malformed}
use Rattle.cdc.specs.Cdc.{decode_of}
use Rattle.gauge.specs.declared.Gauge.{Gauge}
use Rattle.gauge.specs.Gauge.{most_ms, cleared_of, late_at, sampled_of, after, next_whole, whole_from, Samples}
use Rattle.gauge.proofs.Exact.{of_whole, through_eight, late_whole}
use Rattle.conn_record.proofs.Laws.{and_left, and_right}
use Rattle.conn_record.specs.declared.Opening.{Opening}
use Rattle.link_message.specs.declared.Kind.{Kind}
use Rattle.link_message.specs.Layouts.{encode_of}
use Rattle.link_exchange.specs.declared.Exchange.{Exchange}
use Rattle.link_exchange.specs.declared.Waiting.{Waiting}
use Rattle.link_exchange.specs.declared.Queue.{Queue}
use Rattle.link_exchange.specs.declared.Fate.{Fate}
use Rattle.link_exchange.specs.declared.Fate.TheVariants.{Taken, Dropped}
use Rattle.link_exchange.specs.declared.Touch.{Touch}
use Rattle.link_exchange.specs.declared.Touch.TheVariants.{Nothing, Up, Down, All}
use Rattle.link_exchange.specs.declared.Said.{Said}
use Rattle.link_exchange.specs.Exchange.{client_b, said_of, due_b, empty_queue, oldest, ends_b}
use Rattle.link_exchange.specs.Fates.{fate_named}
use Rattle.link_calls.specs.declared.Fields.{Fields}
use Rattle.link_calls.specs.declared.TakenUp.{TakenUp}
use Rattle.link_calls.specs.declared.Settled.{Settled}
use Rattle.link_calls.specs.declared.Heard.{Heard}
use Rattle.link_calls.specs.declared.Sent.{Sent}
use Rattle.link_calls.specs.Calls.{no_fields, fields_in, touched, up_taken, none_up, taken_up, settled_of, unchanged, change_touch, changed_of, down_b as linkDownB, optional_b, message_refusal, heard_in, fate_no, message_work, no_reply, heard_work, nothing_heard, heard_of, send_refusal, sent_work, sent_in, sent_of}
use Rattle.thm_links.specs.Statements as Link
use Rattle.thm_links.specs.Statements.{Call as LinkCall}
use Rattle.thm_links.proofs.Theorems.{links_touched}
use Rattle.group_table.specs.declared.Links.{Links}
use Rattle.group_table.specs.Table.{open_b, link_in, active_b, gauge_at, with_link, with_gauge, gauge_set, link_set}
use Rattle.group_table.proofs.Laws.{gauge_set_same, gauge_set_other, gauge_cleared, with_gauge_length}
use Rattle.group_rules.specs.Rules.{Group, open_slot, free_slot, link_change, link_message, link_send, sample, Call, on, hear, manage, link_heard, link_sent, healthy, Turn, Done, does, next, refuses, put_turn, out_of, sizes_ok, on_does, hear_at, hear_message, hear_does, open_refusal, open_does, free_refusal, free_does, link_does, link_message_does, link_send_does, sample_refusal, sample_does, links_of, with_links, Fresh, Says, lent_ok, link_refusal, fails_over}
use Rattle.thm_order.specs.Statement.{leaves}
use Rattle.thm_changes.specs.Numbers.{refused_b}
use Rattle.thm_safety.specs.Links.{call_of, relinked}
use Rattle.link_failover.specs.Failover.{plan_of, moved_all, messages_of, count_of, buffer_left}
use Rattle.thm_changes.specs.Gauges.{Regauges, by_sample, by_link_down, GaugesBySampleAndLinkDown, Document01, SameButGauges, GaugesUnread, down_b, unless_down, heard_after, heard_from, samples, Holding, GaugeHolds, MeanExact, LateExact}
use Rattle.thm_safety.proofs.Effects.{Effect, refuses_it, links_it, samples_it, puts_turn, effect, sample_facts, gauge_after}
use Rattle.thm_safety.proofs.Links.{link_calls_leave}
use Rattle.thm_refusals.proofs.Answers.{clash}

-- 1. WHO CHANGES A GAUGE
kept_up : (ls : Links) (l : ℕ) → (link_set ls l true).gauges ≡ ls.gauges
unfolding link_set
kept_up ls l = refl

lost_down : (ls : Links) (l : ℕ) → (link_set ls l false).gauges ≡ with_gauge ls.gauges l cleared_of
unfolding link_set
lost_down ls l = refl

pub gauges_by_sample_and_link_down : GaugesBySampleAndLinkDown
unfolding refuses put_turn
gauges_by_sample_and_link_down g c = go (does g c) refl (effect g c)
  where
    go : (x : Done) → does g c ≡ x → Effect g c x → (x.group.gauges ≡ g.gauges) ⊎ Regauges g c
    go x q (refuses_it n h e) = inl (ap (λ (d : Done). d.group.gauges) e)
    go x q (links_it k b p a e) =
        inr (by_link_down k b p (ap (λ (d : Done). d.group.gauges) q ∙ ap (λ (h : Group). h.gauges) e ∙ (links_touched (links_of g) k).1))
    go x q (samples_it l ms p z e) =
        inr (by_sample l ms p (ap (λ (d : Done). d.answer.says) (q ∙ e)) (ap (λ (d : Done). d.group.gauges) (q ∙ e)))
    go x q (puts_turn k t s a e) = inl (ap (λ (d : Done). d.group.gauges) e)

-- 2. NO CALL OF DOCUMENT 01 READS ONE. Of links that differ in gauges alone
record SameLinks (x y : Links) : Type 0 where
  same_active : x.active ≡ y.active
  same_role : x.role ≡ y.role
  same_exchange : x.exchange ≡ y.exchange
  same_queue : x.queue ≡ y.queue

abbrev regauged : Links → List Gauge → Links
regauged ls q = record { active = ls.active; gauges = q; role = ls.role; exchange = ls.exchange; queue = ls.queue }

record SettledAlike (x y : Settled) : Type 0 where
  same_up : x.up ≡ y.up
  same_after : SameLinks x.after y.after

set_alike : (x y : Links) (l : ℕ) (up : Bool) → SameLinks x y → SameLinks (link_set x l up) (link_set y l up)
unfolding link_set
set_alike x y l true s =
    record {
      same_active = ap (λ (a : List Bool). with_link a l true) s.same_active;
      same_role = s.same_role;
      same_exchange = s.same_exchange;
      same_queue = s.same_queue;
    }
set_alike x y l false s =
    record {
      same_active = ap (λ (a : List Bool). with_link a l false) s.same_active;
      same_role = s.same_role;
      same_exchange = s.same_exchange;
      same_queue = s.same_queue;
    }

touched_alike : (x y : Links) (t : Touch) → SameLinks x y → SameLinks (touched x t) (touched y t)
unfolding touched
touched_alike x y Nothing s = s
touched_alike x y (Up l) s = set_alike x y l true s
touched_alike x y (Down l) s = set_alike x y l false s
touched_alike x y All s =
    set_alike _ _ 4 false (set_alike _ _ 3 false (set_alike _ _ 2 false (set_alike x y 1 false s)))

up_alike : (x y : Links) (w : Waiting) → SameLinks x y → taken_up x w ≡ taken_up y w
unfolding taken_up up_taken
up_alike x y w s =
    let f = fields_in w.bytes in
    λ i.
    record {
      some = true;
      link = w.link;
      fields = f;
      fate =
          cond
          (f.named
          && (not (client_b (s.same_role i))
          && (not (said_of (s.same_role i) true f.kind f.values).reply
          && (eqb (said_of (s.same_role i) true f.kind f.values).kind 0x02
          || eqb (said_of (s.same_role i) true f.kind f.values).kind 0x04
          && (not (said_of (s.same_role i) true f.kind f.values).a
          && active_b (s.same_active i) (said_of (s.same_role i) true f.kind f.values).link)))))
          Taken Dropped;
    }

module _ (ls : Links) (q : List Gauge) where
  same_links : SameLinks ls (regauged ls q)
  same_links = record { same_active = refl; same_role = refl; same_exchange = refl; same_queue = refl }

  kept_alike : SettledAlike (unchanged ls) (unchanged (regauged ls q))
  unfolding unchanged
  kept_alike = record { same_up = refl; same_after = same_links }

  settled_alike : (x : Exchange) (t : Touch) (w : Queue) (due : Bool)
      → SettledAlike (settled_of ls x t w due) (settled_of (regauged ls q) x t w due)
  unfolding settled_of
  settled_alike x t w due =
      let s = touched_alike ls (regauged ls q) t same_links in
      let rest = cond (ends_b x t) empty_queue w in
      record {
        same_up =
            ap (λ (u : TakenUp). cond (due && (eqb x.stage 0 && ltb 0 rest.count)) u none_up)
            (up_alike (touched ls t) (touched (regauged ls q) t) (oldest rest) s);
        same_after = record { same_active = s.same_active; same_role = s.same_role; same_exchange = refl; same_queue = refl };
      }

  pick : (t : Bool) (x y u v : Settled) → SettledAlike x y → SettledAlike u v → SettledAlike (cond t x u) (cond t y v)
  pick true x y u v h k = h
  pick false x y u v h k = k

  change_alike : (l : ℕ) (up : Bool) → SettledAlike (changed_of ls l up) (changed_of (regauged ls q) l up)
  unfolding changed_of
  change_alike l up = pick (link_in l) _ _ _ _ (settled_alike ls.exchange (change_touch l up) ls.queue false) kept_alike

  record HeardAlike (x y : Heard) : Type 0 where
    same_answer : ◌≡◌ {A = ℕ × Fields × Fate × TakenUp × Bool × List ℕ}
        (x.refusal, x.fields, x.fate, x.settled.up, x.replies, x.reply)
        (y.refusal, y.fields, y.fate, y.settled.up, y.replies, y.reply)
    same_after : SameLinks x.settled.after y.settled.after

  heard_alike : (l : ℕ) (b : List ℕ) → HeardAlike (heard_of ls l b) (heard_of (regauged ls q) l b)
  unfolding heard_of heard_work nothing_heard message_work message_refusal linkDownB
  heard_alike l b = go (eqb j 0 && not (optional_b b))
    where
      m : Said
      m = heard_in ls b

      f : ℕ
      f = fate_no ls l m

      due : Bool
      due = due_b ls.exchange l m

      j : ℕ
      j = message_refusal ls l b m f

      work : SettledAlike (message_work ls l b m due f) (message_work (regauged ls q) l b m due f)
      work = settled_alike _ _ _ due

      go : (t : Bool)
          → HeardAlike (cond t (heard_work ls l b m due f) (nothing_heard ls j))
          (cond t (heard_work (regauged ls q) l b m due f) (nothing_heard (regauged ls q) j))
      go true =
          record {
            same_answer =
                λ i.
                (0, fields_in b, fate_named f, work.same_up i, (heard_work ls l b m due f).replies, (heard_work ls l b m due f).reply);
            same_after = work.same_after;
          }
      go false = record { same_answer = λ i. (j, no_fields, Dropped, kept_alike.same_up i, false, no_reply); same_after = kept_alike.same_after }

  record SentAlike (x y : Sent) : Type 0 where
    same_answer : ◌≡◌ {A = ℕ × TakenUp × List ℕ} (x.refusal, x.settled.up, x.message) (y.refusal, y.settled.up, y.message)
    same_after : SameLinks x.settled.after y.settled.after

  sent_alike : (l : ℕ) (k : Kind) (vs : List ℕ) → SentAlike (sent_of ls l k vs) (sent_of (regauged ls q) l k vs)
  unfolding sent_of sent_work send_refusal linkDownB
  sent_alike l k vs = go (eqb j 0)
    where
      m : Said
      m = sent_in ls k vs

      due : Bool
      due = due_b ls.exchange l m

      j : ℕ
      j = send_refusal ls l m due

      work : SettledAlike (sent_work ls l m due) (sent_work (regauged ls q) l m due)
      work = settled_alike _ _ _ due

      go : (t : Bool)
          → SentAlike
          (cond t (record { refusal = 0; message = encode_of k vs; settled = sent_work ls l m due })
          (record { refusal = j; message = no_reply; settled = unchanged ls }))
          (cond t (record { refusal = 0; message = encode_of k vs; settled = sent_work (regauged ls q) l m due })
          (record { refusal = j; message = no_reply; settled = unchanged (regauged ls q) }))
      go true = record { same_answer = λ i. (0, work.same_up i, encode_of k vs); same_after = work.same_after }
      go false = record { same_answer = λ i. (j, kept_alike.same_up i, no_reply); same_after = kept_alike.same_after }

-- What is done to two groups that differ in gauges alone
record Alike (x y : Done) : Type 0 where
  said : x.answer ≡ y.answer
  left : SameButGauges x.group y.group

by_test : (t : Bool) (x y u v : Done) → Alike x y → Alike u v → Alike (cond t x u) (cond t y v)
by_test true x y u v h k = h
by_test false x y u v h k = k

module _ (g : Group) (q : List Gauge) where
  -- the group with other gauges
  abbrev other : Group
  other = with_links g (record { active = g.links; gauges = q; role = g.role; exchange = g.exchange; queue = g.queue })

  same : SameButGauges g other
  same =
      record {
        same_S = refl;
        same_N = refl;
        same_table = refl;
        same_links = refl;
        same_role = refl;
        same_exchange = refl;
        same_queue = refl;
        same_memory = refl;
      }

  refused : (n : ℕ) (out : List ℕ) → Alike (refuses g n out) (refuses other n out)
  unfolding refuses
  refused n out = record { said = refl; left = same }

  turned : (k : ℕ) (t : Turn) → Alike (put_turn g k t) (put_turn other k t)
  unfolding put_turn
  turned k t =
      record {
        said = refl;
        left =
            record {
              same_S = refl;
              same_N = refl;
              same_table = refl;
              same_links = refl;
              same_role = refl;
              same_exchange = refl;
              same_queue = refl;
              same_memory = refl;
            };
      }

  heard : (d : Decoded) → Alike (hear_message g d) (hear_message other d)
  unfolding hear_at
  heard (Good m) = search (by_test, refused, turned)
  heard Malformed = refused 4 []

  -- what is done to the links, and what moves then
  linked : (b : List ℕ) (s : ℕ → Says) (m : Bool) (w : List ℕ) (x y : Links) → SameLinks x y → Alike (fails_over g x b s m w) (fails_over other y b s m w)
  unfolding fails_over
  linked b s m w x y h =
      record {
        said =
            λ i.
            record {
              says = s (count_of g.N (plan_of g.links (h.same_active i)) g.table);
              made = m;
              message = w;
              out = buffer_left (messages_of g.N (plan_of g.links (h.same_active i)) g.table) b;
            };
        left =
            record {
              same_S = refl;
              same_N = refl;
              same_table = λ i. moved_all g.N (plan_of g.links (h.same_active i)) g.table;
              same_links = h.same_active;
              same_role = h.same_role;
              same_exchange = h.same_exchange;
              same_queue = h.same_queue;
              same_memory = refl;
            };
      }

  message : (l : ℕ) (bytes b : List ℕ) → Alike (link_message_does g l bytes b) (link_message_does other l bytes b)
  unfolding link_message_does link_refusal
  message l bytes b =
      let h = heard_of (links_of g) l bytes in
      let e = heard_alike (links_of g) q l bytes in
      subst
      (λ (x : ℕ × Fields × Fate × TakenUp × Bool × List ℕ).
      Alike (link_message_does g l bytes b)
      (cond (eqb (cond (lent_ok g b) x.0 1) 0)
      (fails_over other (heard_of (links_of other) l bytes).settled.after b (link_heard x.1 x.2 x.3) x.4 x.5)
      (refuses other (cond (lent_ok g b) x.0 1) b)))
      e.same_answer
      (by_test (eqb (cond (lent_ok g b) h.refusal 1) 0) _ _ _ _ (linked b _ _ _ _ _ e.same_after) (refused (cond (lent_ok g b) h.refusal 1) b))

  sending : (l : ℕ) (k : Kind) (vs b : List ℕ) → Alike (link_send_does g l k vs b) (link_send_does other l k vs b)
  unfolding link_send_does link_refusal
  sending l k vs b =
      let h = sent_of (links_of g) l k vs in
      let e = sent_alike (links_of g) q l k vs in
      subst
      (λ (x : ℕ × TakenUp × List ℕ).
      Alike (link_send_does g l k vs b)
      (cond (eqb (cond (lent_ok g b) x.0 1) 0)
      (fails_over other (sent_of (links_of other) l k vs).settled.after b (link_sent x.1) true x.2)
      (refuses other (cond (lent_ok g b) x.0 1) b)))
      e.same_answer
      (by_test (eqb (cond (lent_ok g b) h.refusal 1) 0) _ _ _ _ (linked b _ _ _ _ _ e.same_after) (refused (cond (lent_ok g b) h.refusal 1) b))

  alike : (c : Call) → Document01 c → Alike (does g c) (does other c)
  unfolding on_does hear_does open_refusal open_does free_refusal free_does link_does link_refusal
  alike (on k r) d =
      by_test (sizes_ok g) _ _ _ _ (by_test (open_b g.S g.table k) _ _ _ _ (turned k _) (refused 2 (out_of r))) (refused 1 (out_of r))
  alike (hear b) d = by_test (sizes_ok g) _ _ _ _ (heard (decode_of b)) (refused 1 [])
  alike (manage (open_slot k o)) d = by_test (eqb (open_refusal g k o) 0) _ _ _ _ (turned k _) (refused (open_refusal g k o) [])
  alike (manage (free_slot k)) d = by_test (eqb (free_refusal g k) 0) _ _ _ _ (turned k _) (refused (free_refusal g k) [])
  alike (manage (link_change l up b)) d =
      let j : ℕ = cond (lent_ok g b) (cond (link_in l) 0 13) 1 in
      by_test (eqb j 0) _ _ _ _ (linked b _ _ _ _ _ (change_alike (links_of g) q l up).same_after) (refused j b)
  alike (manage (link_message l bytes b)) d = message l bytes b
  alike (manage (link_send l k vs b)) d = sending l k vs b
  alike (manage (sample l ms)) d = absurd d

pub gauges_unread : GaugesUnread
gauges_unread g h c d s = rw (sym is) (a.said, a.left)
  where
    is : other g h.gauges ≡ h
    is =
        λ i.
        record {
          S = s.same_S i;
          N = s.same_N i;
          table = s.same_table i;
          links = s.same_links i;
          gauges = h.gauges;
          role = s.same_role i;
          exchange = s.same_exchange i;
          queue = s.same_queue i;
          memory = s.same_memory i;
        }

    a : Alike (does g c) (does (other g h.gauges) c)
    a = alike g h.gauges c d

-- 3. WHAT A GAUGE HOLDS
after_one : (q : Gauge) (ns : List ℕ) (ms : ℕ) → after q (ns ++ ms ∷ []) ≡ sampled_of (after q ns) ms
unfolding after
after_one q [] ms = refl
after_one q (n ∷ ns) ms = after_one (sampled_of q n) ns ms

-- open and free are no calls on the links
no_open : (i : LinkCall) (b : List ℕ) (k : ℕ) (o : Opening) → manage (open_slot k o) ≡ call_of i b → ⊥
no_open (LinkCall.change l up) b k o e = clash (cc)
no_open (LinkCall.message l bytes) b k o e = clash (cc)
no_open (LinkCall.send l h vs) b k o e = clash (cc)

no_free : (i : LinkCall) (b : List ℕ) (k : ℕ) → manage (free_slot k) ≡ call_of i b → ⊥
no_free (LinkCall.change l up) b k e = clash (cc)
no_free (LinkCall.message l bytes) b k e = clash (cc)
no_free (LinkCall.send l h vs) b k e = clash (cc)

-- what a gauge holds, and that there are four
record Holds (g : Group) (l : ℕ) (ns : List ℕ) : Type 0 where
  four : length g.gauges ≡ 4
  is : Holding (gauge_at g.gauges l) ns
  each : Samples ns

samples_one : (ns : List ℕ) (ms : ℕ) → ms ≤ most_ms → Samples ns → Samples (ns ++ ms ∷ [])
samples_one [] ms h s = (h, tt)
samples_one (n ∷ ns) ms h s = (s.0, samples_one ns ms h s.1)

-- with one sample more; the first is taken whatever else the gauge holds
one_more : (ns : List ℕ) (q : Gauge) (ms : ℕ) → Holding q ns → Holding (sampled_of q ms) (ns ++ ms ∷ [])
unfolding sampled_of after
one_more [] q ms h = rw h
one_more (n ∷ ns) q ms h = ap (λ (x : Gauge). sampled_of x ms) h ∙ sym (after_one cleared_of (n ∷ ns) ms)

-- four gauges that are cleared
all_cleared : (q : List Gauge) → length q ≡ 4 → (l : ℕ)
    → gauge_at (with_gauge (with_gauge (with_gauge (with_gauge q 1 cleared_of) 2 cleared_of) 3 cleared_of) 4 cleared_of) l ≡ cleared_of
unfolding gauge_at with_gauge
all_cleared [] e l = absurd (omega (arith, e))
all_cleared (a ∷ []) e l = absurd (omega (arith, e))
all_cleared (a ∷ b ∷ []) e l = absurd (omega (arith, e))
all_cleared (a ∷ b ∷ c ∷ []) e l = absurd (omega (arith, e))
all_cleared (a ∷ b ∷ c ∷ d ∷ []) e zero = refl
all_cleared (a ∷ b ∷ c ∷ d ∷ []) e (suc zero) = refl
all_cleared (a ∷ b ∷ c ∷ d ∷ []) e (suc (suc zero)) = refl
all_cleared (a ∷ b ∷ c ∷ d ∷ []) e (suc (suc (suc zero))) = refl
all_cleared (a ∷ b ∷ c ∷ d ∷ []) e (suc (suc (suc (suc zero)))) = refl
all_cleared (a ∷ b ∷ c ∷ d ∷ []) e (suc (suc (suc (suc (suc l))))) = refl
all_cleared (a ∷ b ∷ c ∷ d ∷ x ∷ q) e l = absurd (omega (arith, e))

module _ (g : Group) (l : ℕ) (ns : List ℕ) (w : Holds g l ns) where
  as_it_was : (h : Group) (z : List ℕ) → h.gauges ≡ g.gauges → z ≡ ns → Holds h l z
  as_it_was h z e f =
      rw f
      (record {
        four = ap length e ∙ w.four;
        is = subst (λ (q : Gauge). Holding q ns) (sym (ap (λ (q : List Gauge). gauge_at q l) e)) w.is;
        each = w.each;
      })

  -- the links are touched
  touched_holds : (h : Group) (t : Touch) → h.gauges ≡ (touched (links_of g) t).gauges → Holds h l (cond (down_b t l) [] ns)
  unfolding after touched
  touched_holds h Nothing e = as_it_was h ns e refl
  touched_holds h (Up k) e = as_it_was h ns (e ∙ kept_up (links_of g) k) refl
  touched_holds h (Down k) e = go (eqb k l) refl
    where
      down : h.gauges ≡ with_gauge g.gauges k cleared_of
      down = e ∙ lost_down (links_of g) k

      four : length h.gauges ≡ 4
      four = ap length down ∙ with_gauge_length g.gauges k cleared_of ∙ w.four

      go : (t : Bool) → eqb k l ≡ t → Holds h l (cond t [] ns)
      go true f =
          record {
            four = four;
            is =
                ap (λ (q : List Gauge). (gauge_at q l).count) (down ∙ ap (λ i. with_gauge g.gauges i cleared_of) (eqb-true k l f))
                ∙ ap (λ (q : Gauge). q.count) (gauge_cleared g.gauges l);
            each = tt;
          }
      go false f =
          record {
            four = four;
            is =
                subst (λ (q : Gauge). Holding q ns)
                (sym
                (ap (λ (q : List Gauge). gauge_at q l) down
                ∙ gauge_set_other g.gauges k l cleared_of (λ p. eqb-false k l f (sym p))))
                w.is;
            each = w.each;
          }
  touched_holds h All e =
      record {
        four =
            ap length down
            ∙ with_gauge_length _ 4 cleared_of
            ∙ with_gauge_length _ 3 cleared_of
            ∙ with_gauge_length _ 2 cleared_of
            ∙ with_gauge_length _ 1 cleared_of
            ∙ w.four;
        is =
            ap (λ (q : List Gauge). (gauge_at q l).count) down
            ∙ ap (λ (q : Gauge). q.count) (all_cleared g.gauges w.four l);
        each = tt;
      }
    where
      down : h.gauges ≡ with_gauge (with_gauge (with_gauge (with_gauge g.gauges 1 cleared_of) 2 cleared_of) 3 cleared_of) 4 cleared_of
      down =
          e
          ∙ lost_down _ 4
          ∙ ap (λ (q : List Gauge). with_gauge q 4 cleared_of) (lost_down _ 3)
          ∙ ap (λ (q : List Gauge). with_gauge (with_gauge q 3 cleared_of) 4 cleared_of) (lost_down _ 2)
          ∙ ap (λ (q : List Gauge). with_gauge (with_gauge (with_gauge q 2 cleared_of) 3 cleared_of) 4 cleared_of) (lost_down (links_of g) 1)

  -- a call on the links
  links_hold : (k : LinkCall) (b : List ℕ) → Holds (next g (call_of k b)) l (cond (lent_ok g b) (unless_down g l ns k) ns)
  links_hold k b = go (lent_ok g b) (ap (λ (h : Group). h.gauges) (link_calls_leave g k b))
    where
      go : (ok : Bool) → (next g (call_of k b)).gauges ≡ (cond ok (relinked g k) g).gauges → Holds (next g (call_of k b)) l (cond ok (unless_down g l ns k) ns)
      go true e = touched_holds (next g (call_of k b)) (Link.does (links_of g) k).touch (e ∙ (links_touched (links_of g) k).1)
      go false e = as_it_was (next g (call_of k b)) ns e refl

  -- link k has one sample more
  sampled_one : (h : Group) (k ms : ℕ) → link_in k ≡ true → leb ms most_ms ≡ true
      → h.gauges ≡ with_gauge g.gauges k (gauge_after g k ms) → Holds h l (cond (eqb k l) (ns ++ ms ∷ []) ns)
  sampled_one h k ms i r e = go (eqb k l) refl
    where
      four : length h.gauges ≡ 4
      four = ap length e ∙ with_gauge_length g.gauges k (gauge_after g k ms) ∙ w.four

      low : 1 ≤ k
      low = leb-true 1 k (and_left (leb 1 k) (leb k 4) i)

      high : k ≤ 4
      high = leb-true k 4 (and_right (leb 1 k) (leb k 4) i)

      this : gauge_at h.gauges k ≡ sampled_of (gauge_at g.gauges k) ms
      this =
          ap (λ (q : List Gauge). gauge_at q k) e
          ∙ gauge_set_same g.gauges k (gauge_after g k ms) low (omega (arith, high, w.four))

      go : (t : Bool) → eqb k l ≡ t → Holds h l (cond t (ns ++ ms ∷ []) ns)
      go true f =
          let s = eqb-true k l f in
          record {
            four = four;
            is =
                subst (λ (q : Gauge). Holding q (ns ++ ms ∷ [])) (sym (rw s at this)) (one_more ns (gauge_at g.gauges l) ms w.is);
            each = samples_one ns ms (leb-true ms most_ms r) w.each;
          }
      go false f =
          record {
            four = four;
            is =
                subst (λ (q : Gauge). Holding q ns)
                (sym
                (ap (λ (q : List Gauge). gauge_at q l) e
                ∙ gauge_set_other g.gauges k l (gauge_after g k ms) (λ p. eqb-false k l f (sym p))))
                w.is;
            each = w.each;
          }

  -- a sample, refused or not
  sample_holds : (k ms : ℕ) → Holds (next g (manage (sample k ms))) l (heard_after g l ns (manage (sample k ms)))
  unfolding sample_does refuses
  sample_holds k ms = go (eqb (sample_refusal g.links k ms) 0) refl
    where
      q : Gauge
      q = gauge_after g k ms

      done : Bool → Done
      done t = cond t (record { answer = healthy q; group = with_links g (gauge_set (links_of g) k q) }) (refuses g (sample_refusal g.links k ms) [])

      go : (t : Bool) → eqb (sample_refusal g.links k ms) 0 ≡ t
          → Holds (done t).group l (cond (eqb k l && not (refused_b (done t).answer.says)) (ns ++ ms ∷ []) ns)
      go true e =
          let f = sample_facts g.links k ms (eqb-true _ 0 e) in
          rw (and-true (eqb k l)) (sampled_one (done true).group k ms f.0 f.1 refl)
      go false e = as_it_was g _ refl (ap (λ t. cond t (ns ++ ms ∷ []) ns) (and-false (eqb k l)))

  -- a call that is neither
  other_holds : (c : Call) → ((k : LinkCall) (b : List ℕ) → c ≡ call_of k b → ⊥) → ((k ms : ℕ) → c ≡ manage (sample k ms) → ⊥) → Holds (next g c) l ns
  other_holds c a b = go (gauges_by_sample_and_link_down g c)
    where
      go : ((next g c).gauges ≡ g.gauges) ⊎ Regauges g c → Holds (next g c) l ns
      go (inl e) = as_it_was (next g c) ns e refl
      go (inr (by_sample k ms p q e)) = absurd (b k ms p)
      go (inr (by_link_down k b p e)) = absurd (a k b p)

  call_holds : (c : Call) → Holds (next g c) l (heard_after g l ns c)
  call_holds (on k q) = other_holds (on k q) (λ i b e. clash (cc)) (λ i ms e. clash (cc))
  call_holds (hear b) = other_holds (hear b) (λ i b e. clash (cc)) (λ i ms e. clash (cc))
  call_holds (manage (open_slot k o)) = other_holds (manage (open_slot k o)) (λ i b e. no_open i b k o e) (λ i ms e. clash (cc))
  call_holds (manage (free_slot k)) = other_holds (manage (free_slot k)) (λ i b e. no_free i b k e) (λ i ms e. clash (cc))
  call_holds (manage (link_change k up b)) = links_hold (LinkCall.change k up) b
  call_holds (manage (link_message k bytes b)) = links_hold (LinkCall.message k bytes) b
  call_holds (manage (link_send k i vs b)) = links_hold (LinkCall.send k i vs) b
  call_holds (manage (sample k ms)) = sample_holds k ms

list_holds : (cs : List Call) (g : Group) (l : ℕ) (ns : List ℕ) → Holds g l ns → Holds (leaves g cs) l (heard_from g l ns cs)
unfolding leaves heard_from
list_holds [] g l ns w = w
list_holds (c ∷ cs) g l ns w = list_holds cs (next g c) l _ (call_holds g l ns w c)

all_hold : (g : Group) → Fresh g → length g.gauges ≡ 4 → (cs : List Call) (l : ℕ) → Holds (leaves g cs) l (samples g cs l)
unfolding after
all_hold g f h cs l = list_holds cs g l [] (record { four = h; is = f.unheard l; each = tt })

pub gauge_holds : GaugeHolds
gauge_holds g f h cs l = (all_hold g f h cs l).is

pub mean_exact : MeanExact
mean_exact g f h cs l n ns e short =
    let w = all_hold g f h cs l in
    let s : Samples (n ∷ ns) = rw e at w.each in
    let v = (through_eight cleared_of n ns refl short s).mean in
    let is : gauge_at (leaves g cs).gauges l ≡ after cleared_of (n ∷ ns) = subst (Holding (gauge_at (leaves g cs).gauges l)) e w.is in
    rw is v

-- the whole number stays below the most milliseconds
whole_most : (ns : List ℕ) (w : ℕ) → w ≤ 60000 * 2097152 → Samples ns → whole_from w ns ≤ 60000 * 2097152
unfolding whole_from
whole_most [] w h s = h
whole_most (n ∷ ns) w h s = whole_most ns (next_whole w n) (next_most w n h s.0) s.1
  where
    next_most : (w n : ℕ) → w ≤ 60000 * 2097152 → n ≤ most_ms → next_whole w n ≤ 60000 * 2097152
    next_most w n h k = omega arith

-- a sample that is not the first
later_late : (q : Gauge) (s : ℕ) → (q.count ≡ 0 → ⊥) → (sampled_of q s).late ≡ late_at q.mean (of_int binary64 (pos s))
unfolding sampled_of
later_late q s h = rw (ne_eqb q.count 0 h)

pub late_exact : LateExact
late_exact g f h cs l n ns e short s most =
    let w = all_hold g f h cs l in
    let each : Samples (n ∷ ns) = rw e at w.each in
    let v = through_eight cleared_of n ns refl short each in
    let some : (after cleared_of (n ∷ ns)).count ≡ 0 → ⊥ = λ z. absurd (omega (arith, v.count, z)) in
    let most_whole = whole_most ns (n * 2097152) (mul-le-mul_right 2097152 each.0) each.1 in
    let is : gauge_at (leaves g cs).gauges l ≡ after cleared_of (n ∷ ns) = subst (Holding (gauge_at (leaves g cs).gauges l)) e w.is in
    rw is
    (later_late (after cleared_of (n ∷ ns)) s some
    ∙ late_whole (after cleared_of (n ∷ ns)).mean (of_int binary64 (pos s)) (whole_from (n * 2097152) ns) s most_whole v.mean (of_whole s most))

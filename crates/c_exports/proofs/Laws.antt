-- Why each exported call's contract follows from those of the functions that it calls. Assumes nothing.
use Prim.Native.Nat.{ℕ}
use mathlib.Core.Path.{◌≡◌, refl, sym, ap, ◌∙◌, subst}
use mathlib.Core.Bool.{Bool, true, false, cond}
use mathlib.Core.List.{List, [], ◌∷◌}
use lib.ListN.{replicate}
use Rattle.link_exchange.specs.declared.Exchange.{Exchange}
use Rattle.link_exchange.specs.declared.Queue.{Queue}
use Rattle.link_exchange.specs.Exchange.{no_exchange, empty_queue}
use Rattle.gauge.specs.declared.Gauge.{Gauge}
use Rattle.gauge.specs.Gauge.{cleared_of}
use Rattle.conn_record.specs.declared.Record.{Record}
use Rattle.conn_answer.specs.declared.Placing.{Placing}
use Rattle.conn_answer.specs.Outcome.{no_message}
use Rattle.gauge.specs.declared.Health.{Health}
use Rattle.gauge.specs.declared.Health.TheVariants.{Unheard, Steady, Late}
use Rattle.group_calls.specs.Calls.{reads_b}
use Rattle.group_desk.specs.declared.Management.TheVariants.{Sample}
use Rattle.group_table.specs.declared.Links.{Links}
use Rattle.group_table.specs.declared.Answered.{Answered}
use Rattle.group_rules.specs.Rules.{Group, Says, Answer, Did, next, group_of, answer_of, links_of}
use Rattle.group_rules.specs.Rules.{sample_does, sample_refusal, refuses}
use Rattle.group_rules.specs.Rules as Rules
use Rattle.group_make.specs.declared.Command.{Command}
use Rattle.group_make.specs.declared.Command.TheVariants.{On, Hear, Manage}
use Rattle.group_make.specs.Group.{call_of, out_left, OutKept}
use Rattle.c_call.specs.declared.FlatCommand.{FlatCommand}
use Rattle.c_call.specs.declared.FlatAnswer.{FlatAnswer}
use Rattle.c_call.specs.declared.FlatLinks.{FlatLinks}
use Rattle.c_call.specs.Flat.{role_of, links_in, flat_links, known_b, named_of, command_of, bare, with_placings, with_health, flat_says, flat_of, unknown_by}
use Rattle.c_call.specs.Flat.{told_of, out_after, CallMade}
use Rattle.c_call.proofs.Theorem.{links_back, flat_back, server_back}
use Rattle.group_fresh.specs.Fresh.{down_links}

-- THE NUMBER. A known one names its call, an unknown one a call that changes nothing
known_command : (q : FlatCommand) → known_b q ≡ true → command_of q ≡ named_of q
unfolding command_of
known_command q h = simp h

unknown_command : (q : FlatCommand) → known_b q ≡ false → command_of q ≡ Manage (Sample 0 0)
unfolding command_of
unknown_command q h = simp h

known_told : (q : FlatCommand) (links : FlatLinks) (a : Answered) → known_b q ≡ true → told_of q links a ≡ flat_of (answer_of a []) a.links
unfolding told_of
known_told q links a h = simp h

unknown_told : (q : FlatCommand) (links : FlatLinks) (a : Answered) → known_b q ≡ false → told_of q links a ≡ unknown_by links
unfolding told_of
unknown_told q links a h = simp h

idle-keeps : (g : Group) (b out : List ℕ) → next g (call_of (Manage (Sample 0 0)) b out) ≡ g
unfolding sample_does sample_refusal refuses
idle-keeps g b out = refl

-- THE ANSWER holds the links that the call left
bare_links : (said number n : ℕ) (made : Bool) (message : List ℕ) (links : FlatLinks) → (bare said number n made message links).links ≡ links
unfolding bare
bare_links said number n made message links = refl

placed_links : (ps : List Placing) (f : FlatAnswer) → (with_placings ps f).links ≡ f.links
placed_links [] f = refl
placed_links (p ∷ []) f = refl
placed_links (p ∷ q ∷ ps) f = refl

healthy_links : (h : Health) (f : FlatAnswer) → (with_health h f).links ≡ f.links
healthy_links Unheard f = refl
healthy_links (Steady m) f = refl
healthy_links (Late m w) f = refl

flat_links_lem : (s : Says) (made : Bool) (message : List ℕ) (links : FlatLinks) → (flat_says s made message links).links ≡ links
flat_links_lem (Rules.refusal k) made message links = bare_links 1 k 0 made message links
flat_links_lem Rules.accepted made message links = bare_links 2 0 0 made message links
flat_links_lem (Rules.sent n ps) made message links = placed_links ps _ ∙ bare_links 3 0 n made message links
flat_links_lem (Rules.gathered n ps) made message links = bare_links 4 0 n made message links
flat_links_lem (Rules.was_read_of n) made message links = bare_links 5 0 n made message links
flat_links_lem Rules.torn made message links = bare_links 6 0 0 made message links
flat_links_lem (Rules.heard moved state) made message links = bare_links 7 0 0 made message links
flat_links_lem Rules.reset made message links = bare_links 8 0 0 made message links
flat_links_lem (Rules.sampled h) made message links = healthy_links h _ ∙ bare_links 9 0 0 made message links
flat_links_lem (Rules.link_heard fields fate up n) made message links = bare_links 13 0 0 made message links
flat_links_lem (Rules.link_sent up n) made message links = bare_links 14 0 0 made message links
flat_links_lem (Rules.link_changed n) made message links = bare_links 15 0 0 made message links

-- and handed in again they are those
left_in : (s : Says) (made : Bool) (message : List ℕ) (links : Links)
    → links_in (flat_says s made message (flat_links links)).links ≡ links
left_in s made message links = ap links_in (flat_links_lem s made message (flat_links links)) ∙ links_back links

-- THE OUT BYTES are the answer's in a read, and stay in any other call
on_out : (reads : Bool) (out left told : List ℕ)
    → cond reads left [] ≡ told → (reads ≡ false → left ≡ out) → left ≡ cond reads told out
on_out true out left told h kept = h
on_out false out left told h kept = kept refl

out_law : (c : Command) (out left told : List ℕ) → out_left c left ≡ told → OutKept c out left → left ≡ out_after c told out
out_law (On k q) out left told h kept = on_out (reads_b q) out left told h kept
out_law Hear out left told h kept = kept
out_law (Manage d) out left told h kept = kept

-- A FRESH GROUP'S LINKS, from their parts
pub down_is : (server : Bool) (g : Gauge) (x : Exchange) (q : Queue) → g ≡ cleared_of → x ≡ no_exchange → q ≡ empty_queue
    → let f : FlatLinks =
    record { active = replicate 4 false; gauges = replicate 4 g; server = server; exchange = x; queue = q } in
    f ≡ flat_links (down_links (role_of server))
unfolding down_links
down_is server g x q hg hx hq =
    λ i. record {
      active = replicate 4 false;
      gauges = replicate 4 (hg i);
      server = sym (server_back server) i;
      exchange = hx i;
      queue = hq i;
    }

-- ONE CALL
pub fordlinnet_make_returns : (s n : ℕ) (m : List ℕ) (t : List Record) (links : FlatLinks) (q : FlatCommand) (b out : List ℕ)
    → (own : Links) → own ≡ links_in links
    → (c : Command) → c ≡ command_of q → (a : Answered) (l : List ℕ) (z : List Record) (left : List ℕ)
    → Did (group_of s n t own m) (call_of c b out) (answer_of a (out_left c left)) (group_of s n z a.links l) × OutKept c out left
    → (r : FlatAnswer) → r ≡ told_of q links a
    → CallMade (group_of s n t (links_in links) m) q b out r (group_of s n z (links_in r.links) l) left
fordlinnet_make_returns s n m t links q b out own ho c hc a l z left e r hr =
    record {
      answered =
          λ h. let p = known h in
          hr ∙ known_told q links a h ∙ (λ i. flat_of (p.0.answered i) (links_of (p.0.left i)));
      next_left =
          λ h. ap (λ (w : FlatAnswer). group_of s n z (links_in w.links) l) (hr ∙ known_told q links a h)
          ∙ ap (λ (w : Links). group_of s n z w l) (left_in (Rules.says_of a.reply) a.made a.message a.links)
          ∙ (known h).0.left;
      out_is_left =
          λ h. let p = known h in
          out_law (named_of q) out left _ (ap (λ (w : Answer). w.out) p.0.answered) p.1;
      unknown =
          λ h. let p = unknown' h in
          let same : group_of s n z a.links l ≡ group = p.0.left ∙ idle-keeps group b out in (
            hr ∙ unknown_told q links a h ∙ sym (ap unknown_by (flat_back links)),
            (λ i. group_of s n (same i).table (links_in (left_links h i)) (same i).memory),
            p.1,
          );
    }
  where
    group : Group
    group = group_of s n t (links_in links) m

    Answers : Links → Command → Type 0
    Answers w x = Did (group_of s n t w m) (call_of x b out) (answer_of a (out_left x left)) (group_of s n z a.links l) × OutKept x out left

    in_group : Answers (links_in links) c
    in_group = subst (λ (w : Links). Answers w c) ho e

    known : known_b q ≡ true → Answers (links_in links) (named_of q)
    known h = subst (Answers (links_in links)) (hc ∙ known_command q h) in_group

    unknown' : known_b q ≡ false → Answers (links_in links) (Manage (Sample 0 0))
    unknown' h = subst (Answers (links_in links)) (hc ∙ unknown_command q h) in_group

    left_links : known_b q ≡ false → r.links ≡ links
    left_links h = ap (λ (w : FlatAnswer). w.links) (hr ∙ unknown_told q links a h) ∙ bare_links 0 0 0 false no_message links

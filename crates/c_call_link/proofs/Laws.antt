-- Why the answer that is told is the rules' answer in numbers, and what an unknown number leaves. Assumes nothing.
use Prim.Native.Nat.{ℕ, ◌*◌, ◌%◌, ◌≤◌}
use mathlib.Core.Path.{◌≡◌, refl}
use mathlib.Core.Bool.{Bool, true, false, cond}
use mathlib.Core.List.{List, [], ◌∷◌}
use native.Mathlib.Omega.{arith}
use lib.Dec.{eqb, leb}
use lib.ListN.{length}
use Rattle.link_exchange.specs.declared.Fate.{Fate}
use Rattle.gauge.specs.declared.Health.TheVariants.{Unheard, Steady, Late}
use Rattle.conn_record.specs.declared.Record.{Record}
use Rattle.conn_record.proofs.Laws.{and_left}
use Rattle.conn_answer.specs.declared.Placings.TheVariants.{Nowhere, One, Two}
use Rattle.conn_answer.specs.declared.Reply.{Reply}
use Rattle.conn_answer.specs.declared.Reply.TheVariants.{Refused, Accepted, Sent, Read, Torn, Reset, Heard, Sampled}
use Rattle.conn_answer.specs.Outcome.{no_message}
use Rattle.group_table.specs.declared.Links.{Links}
use Rattle.group_table.proofs.Laws.{sizes_facts}
use Rattle.link_failover.specs.declared.Plan.{Plan}
use Rattle.link_failover.specs.Failover.{plan_of, tells_b, count_of, one}
use Rattle.link_calls.specs.declared.Fields.{Fields}
use Rattle.link_calls.specs.declared.TakenUp.{TakenUp}
use Rattle.link_calls.specs.Calls.{changed_of}
use Rattle.group_rules.specs.Rules as Rules
use Rattle.group_rules.specs.Rules.{Group, Says, Done, answer, links_of, sizes_ok, lent_ok, link_refusal, fails_over, refuses}
use Rattle.group_rules.specs.Rules.{link_does, link_message_does, link_send_does}
use Rattle.group_link.specs.declared.LinkCommand.{LinkCommand}
use Rattle.group_link.specs.declared.LinkCommand.TheVariants.{Change, Message, Send}
use Rattle.group_link.specs.declared.LinkDone.{LinkDone}
use Rattle.group_link.specs.LinkDesk.{call_of, answer_in}
use Rattle.c_call.specs.declared.FlatLinks.{FlatLinks}
use Rattle.c_call.specs.Flat.{bare, flat_links}
use Rattle.c_call_link.specs.FlatLink.{fate_number, flat_fields, no_flat_fields, link_bare, link_named, link_says, link_of, link_told}

-- HOW MANY. A count is at most the table's length, and so at most 255
abbrev pub counted : Says → ℕ
counted (Rules.refusal k) = 0
counted Rules.accepted = 0
counted (Rules.sent n ps) = 0
counted (Rules.gathered n ps) = 0
counted (Rules.was_read_of n) = 0
counted Rules.torn = 0
counted (Rules.heard moved state) = 0
counted Rules.reset = 0
counted (Rules.sampled health) = 0
counted (Rules.link_changed n) = n
counted (Rules.link_heard f fate up n) = n
counted (Rules.link_sent up n) = n

one_most : (b : Bool) → one b ≤ 1
one_most true = omega arith
one_most false = omega arith

count_short : (N : ℕ) (p : Plan) (t : List Record) → count_of N p t ≤ length t
unfolding count_of
count_short N p [] = omega arith
count_short N p (c ∷ t) = omega (arith, one_most (tells_b N p c), count_short N p t)

module _ (g : Group) (b : List ℕ) (links : Links) (made : Bool) (message : List ℕ) (j : ℕ)
    (says : ℕ → Says) (counts : (n : ℕ) → counted (says n) ≡ n) where
  abbrev done : ℕ → Done
  done k = cond (eqb k 0) (fails_over g links b says made message) (refuses g k b)

  done_few : counted (done (link_refusal g b j)).answer.says ≤ 255
  unfolding link_refusal fails_over refuses
  done_few = go (lent_ok g b) refl
    where
      either : (t : Bool) (k : ℕ) → length g.table ≤ 255
          → counted (cond t (fails_over g links b says made message) (refuses g k b)).answer.says ≤ 255
      either true k h =
          let p : Plan = plan_of g.links links.active in
          omega (arith, h, counts (count_of g.N p g.table), count_short g.N p g.table)
      either false k h = omega arith

      go : (ok : Bool) → lent_ok g b ≡ ok → counted (done (cond ok j 1)).answer.says ≤ 255
      go true e =
          let ok = and_left (sizes_ok g) (leb (44 * g.S) (length b)) e in
          let s = sizes_facts g.S g.N (length g.memory) (length g.table) ok in
          either (eqb j 0) j (omega (arith, s.count_is, s.s_most))
      go false e = omega arith

pub few : (g : Group) (c : LinkCommand) (bytes vs b : List ℕ) → counted (answer g (call_of c bytes vs b)).says ≤ 255
unfolding link_does link_message_does link_send_does
few g (Change l up) bytes vs b = done_few g b _ _ _ _ Rules.link_changed (λ n. refl)
few g (Message l) bytes vs b = done_few g b _ _ _ _ (Rules.link_heard _ _ _) (λ n. refl)
few g (Send l k) bytes vs b = done_few g b _ _ _ _ (Rules.link_sent _) (λ n. refl)

-- THE ANSWER. What the call names stands in the place of "accepted", whichever reply there is
small : (n : ℕ) → n ≤ 255 → n % 4294967296 ≡ n
small n h = omega (arith, h)

abbrev made_of : Reply → Bool → List ℕ → Links → Fields → Fate → TakenUp → ℕ → LinkDone
made_of reply made message links fields fate up count =
    record {
      answer = record { reply = reply; made = made; message = message; links = links };
      fields = fields;
      fate = fate;
      up = up;
      count = count;
    }

module _ (left : List ℕ) (made : Bool) (message : List ℕ) (links : Links) (fields : Fields) (fate : Fate) (up : TakenUp) (count : ℕ) where
  abbrev by : Reply → LinkDone
  by reply = made_of reply made message links fields fate up count

  abbrev Tells : LinkCommand → Reply → Type 0
  Tells c reply =
      counted (answer_in c (by reply) left).says ≤ 255 → link_told c (by reply) ≡ link_of (answer_in c (by reply) left) links

  told_accepted : (c : LinkCommand) → Tells c Accepted
  unfolding link_told bare
  told_accepted (Change l up') h = λ i. link_bare 15 0 (small count h i) made message (flat_links links)
  told_accepted (Message l) h =
      λ i. link_named 13 (fate_number fate) (flat_fields fields) up (small count h i) made message (flat_links links)
  told_accepted (Send l k) h = λ i. link_named 14 0 no_flat_fields up (small count h i) made message (flat_links links)

  told_by_lem : (c : LinkCommand) (reply : Reply) → Tells c reply
  unfolding link_told bare
  told_by_lem c (Refused k) h = refl
  told_by_lem c Accepted h = told_accepted c h
  told_by_lem c (Sent n Nowhere) h = refl
  told_by_lem c (Sent n (One p)) h = refl
  told_by_lem c (Sent n (Two p q)) h = refl
  told_by_lem c (Read n) h = refl
  told_by_lem c Torn h = refl
  told_by_lem c Reset h = refl
  told_by_lem c (Heard moved state) h = refl
  told_by_lem c (Sampled Unheard) h = refl
  told_by_lem c (Sampled (Steady m)) h = refl
  told_by_lem c (Sampled (Late m w)) h = refl

pub told_is : (c : LinkCommand) (d : LinkDone) (left : List ℕ) → counted (answer_in c d left).says ≤ 255
    → link_told c d ≡ link_of (answer_in c d left) d.answer.links
told_is c d left h =
    told_by_lem left d.answer.made d.answer.message d.answer.links d.fields d.fate d.up d.count c d.answer.reply h

-- it holds the links that the call left
pub said_links : (s : Says) (made : Bool) (message : List ℕ) (links : FlatLinks) → (link_says s made message links).links ≡ links
said_links (Rules.refusal k) made message links = refl
said_links (Rules.link_changed n) made message links = refl
said_links (Rules.link_heard f fate up n) made message links = refl
said_links (Rules.link_sent up n) made message links = refl
said_links Rules.accepted made message links = refl
said_links (Rules.sent n ps) made message links = refl
said_links (Rules.gathered n ps) made message links = refl
said_links (Rules.was_read_of n) made message links = refl
said_links Rules.torn made message links = refl
said_links (Rules.heard moved state) made message links = refl
said_links Rules.reset made message links = refl
said_links (Rules.sampled health) made message links = refl

-- AN UNKNOWN NUMBER. Link change of link 0 is refused
pub record Idle (g : Group) (b : List ℕ) (d : Done) : Type 0 where
  pub kept : d.group ≡ g
  pub out_kept : d.answer.out ≡ b

pub idle : (g : Group) (b : List ℕ) → Idle g b (link_does g 0 false b)
unfolding link_does link_refusal refuses
idle g b = go (lent_ok g b)
  where
    left : ℕ → Done
    left j = cond (eqb j 0) (fails_over g (changed_of (links_of g) 0 false).after b Rules.link_changed false no_message) (refuses g j b)

    go : (ok : Bool) → Idle g b (left (cond ok 13 1))
    go true = record { kept = refl; out_kept = refl }
    go false = record { kept = refl; out_kept = refl }

-- What the parts of a call on the links give is what the rules say. Assumes nothing.
use Prim.Native.Nat.{ℕ, ◌*◌, ◌/◌, ◌≤◌}
use mathlib.Core.Path.{◌≡◌, refl, sym, ap, ◌∙◌}
use mathlib.Core.Bool.{Bool, true, false, ◌&&◌, not, cond}
use mathlib.Core.List.{List}
use native.Mathlib.Omega.{arith}
use lib.Dec.{eqb, leb}
use lib.ListN.{length}
use borrow.Author.Tests.{leb-true}
use Rattle.link_message.specs.declared.Kind.{Kind}
use Rattle.link_message.specs.Layouts.{encode_of}
use Rattle.link_exchange.specs.Exchange.{due_b}
use Rattle.conn_record.specs.declared.Record.{Record}
use Rattle.conn_record.proofs.Laws.{and_left, and_right}
use Rattle.conn_answer.specs.declared.Reply.TheVariants.{Refused, Accepted}
use Rattle.conn_answer.specs.Outcome.{no_message}
use Rattle.group_table.specs.declared.Links.{Links}
use Rattle.group_table.specs.Table.{link_in}
use Rattle.group_table.proofs.Laws.{sizes_facts}
use Rattle.link_failover.specs.declared.Plan.{Plan}
use Rattle.link_failover.specs.Failover.{plan_of, moved_all, messages_of, count_of, buffer_left, Told, standing, told_all}
use Rattle.link_failover.proofs.Still.{still_moved, still_told, same_still}
use Rattle.link_failover.proofs.Buffer.{all_told, messages_long}
use Rattle.link_calls.specs.declared.Heard.{Heard}
use Rattle.link_calls.specs.declared.Sent.{Sent}
use Rattle.link_calls.specs.Calls.{unchanged, changed_of, optional_b, message_refusal, heard_in, fate_no, no_reply, heard_work, nothing_heard, heard_of, send_refusal, sent_work, sent_in, sent_of}
use Rattle.group_rules.specs.Rules.{Group, Says, link_changed, link_heard, link_sent, Done, does, refuses, Did, links_of, group_of, sizes_ok, lent_ok, link_refusal, fails_over, link_does, link_message_does, link_send_does}
use Rattle.group_link.specs.declared.LinkCommand.{LinkCommand}
use Rattle.group_link.specs.declared.LinkCommand.TheVariants.{Change, Message, Send}
use Rattle.group_link.specs.declared.Work.{Work}
use Rattle.group_link.specs.declared.Values.{Values}
use Rattle.group_link.specs.declared.LinkDone.{LinkDone}
use Rattle.group_link.specs.LinkDesk.{reply_by, work_of, lent_b, lent_of, done_by, call_of, names, naming, answer_in}

-- what a refused one leaves and makes
record Nothing (ls after : Links) (made : Bool) (message : List ℕ) : Type 0 where
  kept : after ≡ ls
  none : made ≡ false
  zeros : message ≡ no_message

heard_nothing : (ls : Links) (l : ℕ) (b : List ℕ) → eqb (heard_of ls l b).refusal 0 ≡ false
    → Nothing ls (heard_of ls l b).settled.after (heard_of ls l b).replies (heard_of ls l b).reply
unfolding heard_of heard_work nothing_heard unchanged no_reply
heard_nothing ls l b = go (eqb j 0 && not (optional_b b))
  where
    j : ℕ
    j = message_refusal ls l b (heard_in ls b) (fate_no ls l (heard_in ls b))

    h : Bool → Heard
    h t =
        cond t (heard_work ls l b (heard_in ls b) (due_b ls.exchange l (heard_in ls b)) (fate_no ls l (heard_in ls b))) (nothing_heard ls j)

    go : (t : Bool) → eqb (h t).refusal 0 ≡ false → Nothing ls (h t).settled.after (h t).replies (h t).reply
    go true e = let z : ◌≡◌ {A = ℕ} 0 1 = cc in absurd (omega arith)
    go false e = record { kept = refl; none = refl; zeros = refl }

sent_nothing : (ls : Links) (l : ℕ) (k : Kind) (vs : List ℕ) → eqb (sent_of ls l k vs).refusal 0 ≡ false
    → Nothing ls (sent_of ls l k vs).settled.after (eqb (sent_of ls l k vs).refusal 0) (sent_of ls l k vs).message
unfolding sent_of unchanged no_reply
sent_nothing ls l k vs = go (eqb j 0)
  where
    due : Bool
    due = due_b ls.exchange l (sent_in ls k vs)

    j : ℕ
    j = send_refusal ls l (sent_in ls k vs) due

    h : Bool → Sent
    h t =
        cond t (record { refusal = 0; message = encode_of k vs; settled = sent_work ls l (sent_in ls k vs) due })
        (record { refusal = j; message = no_reply; settled = unchanged ls })

    go : (t : Bool) → eqb (h t).refusal 0 ≡ false → Nothing ls (h t).settled.after (eqb (h t).refusal 0) (h t).message
    go true e = let z : ◌≡◌ {A = ℕ} 0 1 = cc in absurd (omega arith)
    go false e = record { kept = refl; none = e; zeros = refl }

-- the same of each call
change_nothing : (ls : Links) (l : ℕ) (up : Bool) → eqb (cond (link_in l) 0 13) 0 ≡ false → Nothing ls (changed_of ls l up).after false no_message
unfolding changed_of unchanged
change_nothing ls l up = go (link_in l) refl
  where
    go : (t : Bool) → link_in l ≡ t → eqb (cond t 0 13) 0 ≡ false → Nothing ls (changed_of ls l up).after false no_message
    go true f e = let z : ◌≡◌ {A = ℕ} 0 1 = cc in absurd (omega arith)
    go false f e = record { kept = rw f; none = refl; zeros = refl }

-- in a group g, with the buffer b: W is what the call c does to the links, and names `says` of the count
module _ (g : Group) (b : List ℕ) (c : LinkCommand) (W : Work) (says : ℕ → Says) (makes : Bool)
    (named : (k : ℕ) → names c (done_by W k) ≡ says (k / 44))
    (fair : eqb W.refusal 0 ≡ true → W.made ≡ makes)
    (nothing : eqb W.refusal 0 ≡ false → Nothing (links_of g) W.links W.made W.message) where
  abbrev done : ℕ → Done
  done j = cond (eqb j 0) (fails_over g W.links b says makes W.message) (refuses g j b)

  abbrev plan : Work → Plan
  plan w = plan_of g.links w.links.active

  abbrev told : Work → Told
  told w = told_all g.N (plan w) g.table b

  record Result (w : Work) (d : Done) : Type 0 where
    answered : answer_in c (done_by w (told w).at) (told w).buffer ≡ d.answer
    left : group_of g.S g.N (moved_all g.N (plan w) g.table) w.links g.memory ≡ d.group

  -- links as they were: nothing moves
  refused : (w : Work) (j : ℕ) → w.refusal ≡ j → eqb j 0 ≡ false → w.links ≡ links_of g → w.made ≡ false → w.message ≡ no_message → Result w (refuses g j b)
  unfolding refuses done_by reply_by
  refused w j e f kept none zeros =
      let q : plan w ≡ plan_of g.links g.links = ap (λ (l : Links). plan_of g.links l.active) kept in
      let p : Plan = plan_of g.links g.links in
      let s = same_still g.links in
      let z : told w ≡ standing 0 b = ap (λ (x : Plan). told_all g.N x g.table b) q ∙ sym (still_told p g.N g.table (standing 0 b) s) in
      let r : reply_by w.refusal ≡ Refused j = ap reply_by e ∙ ap (λ (t : Bool). cond t Accepted (Refused j)) f in
      record {
        answered = λ i. record { says = naming (names c (done_by w (z i).at)) (r i); made = none i; message = zeros i; out = (z i).buffer };
        left =
            λ i.
            group_of g.S g.N ((ap (λ (x : Plan). moved_all g.N x g.table) q ∙ sym (still_moved p g.N g.table s)) i) (kept i) g.memory;
      }

  -- the buffer holds a message for each slot
  room : lent_ok g b ≡ true → 44 * length g.table ≤ length b
  room e =
      let s = sizes_facts g.S g.N (length g.memory) (length g.table) (and_left (sizes_ok g) (leb (44 * g.S) (length b)) e) in
      let k = leb-true (44 * g.S) (length b) (and_right (sizes_ok g) (leb (44 * g.S) (length b)) e) in
      omega (arith, s.count_is, k)

  accepted : lent_ok g b ≡ true → eqb W.refusal 0 ≡ true → Result W (fails_over g W.links b says makes W.message)
  unfolding fails_over done_by reply_by
  accepted ok f =
      let p = plan W in
      let M = messages_of g.N p g.table in
      let z : told W ≡ standing (length M) (buffer_left M b) = all_told g.N p g.table b (room ok) in
      let count : length M / 44 ≡ count_of g.N p g.table = by_44 (length M) (count_of g.N p g.table) (messages_long g.N p g.table) in
      let s : names c (done_by W (told W).at) ≡ says (count_of g.N p g.table) =
      ap (λ (x : Told). names c (done_by W x.at)) z ∙ named (length M) ∙ ap says count in
      record {
        answered =
            λ i.
            record {
              says = naming (s i) (cond (f i) Accepted (Refused W.refusal));
              made = fair f i;
              message = W.message;
              out = (z i).buffer;
            };
        left = refl;
      }
    where
      by_44 : (m k : ℕ) → m ≡ 44 * k → m / 44 ≡ k
      by_44 m k e = omega (arith, e)

  result : (ok : Bool) → lent_ok g b ≡ ok → Result (lent_of ok (links_of g) W) (done (link_refusal g b W.refusal))
  unfolding link_refusal lent_of
  result false e = rw e (refused _ 1 refl refl refl refl refl)
  result true e = rw e (go (eqb W.refusal 0) refl)
    where
      go : (t : Bool) → eqb W.refusal 0 ≡ t → Result W (cond t (fails_over g W.links b says makes W.message) (refuses g W.refusal b))
      go true f = accepted e f
      go false f = let n = nothing f in refused W W.refusal refl f n.kept n.none n.zeros

-- EACH CALL
module _ (g : Group) (bytes vs b : List ℕ) where
  abbrev work : LinkCommand → Work
  work c = work_of (links_of g) c bytes vs

  record Gives (c : LinkCommand) (w : Work) : Type 0 where
    answered : answer_in c (done_by w (told_all g.N (plan_of g.links w.links.active) g.table b).at)
        (told_all g.N (plan_of g.links w.links.active) g.table b).buffer
        ≡ (does g (call_of c bytes vs b)).answer
    left : group_of g.S g.N (moved_all g.N (plan_of g.links w.links.active) g.table) w.links g.memory
        ≡ (does g (call_of c bytes vs b)).group

  gives : (c : LinkCommand) → Gives c (lent_of (lent_ok g b) (links_of g) (work c))
  unfolding link_does link_message_does link_send_does work_of done_by
  gives (Change l up) =
      let r = result g b (Change l up) (work (Change l up)) link_changed false (λ k. refl) (λ e. refl) (change_nothing (links_of g) l up) (lent_ok g b) refl in
      record { answered = r.answered; left = r.left }
  gives (Message l) =
      let h = heard_of (links_of g) l bytes in
      let r =
      result g b (Message l) (work (Message l)) (link_heard h.fields h.fate h.settled.up) h.replies (λ k. refl) (λ e. refl)
      (heard_nothing (links_of g) l bytes) (lent_ok g b) refl in
      record { answered = r.answered; left = r.left }
  gives (Send l k) =
      let h = sent_of (links_of g) l k vs in
      let r =
      result g b (Send l k) (work (Send l k)) (link_sent h.settled.up) true (λ j. refl) (λ e. e)
      (sent_nothing (links_of g) l k vs) (lent_ok g b) refl in
      record { answered = r.answered; left = r.left }

-- AS THE CODE GIVES IT
module _ (s n : ℕ) (m : List ℕ) (t : List Record) (links : Links) (c : LinkCommand) (bytes : List ℕ) (given : Values) (b : List ℕ) where
  pub make_returns : (w : Work) → w ≡ lent_of (lent_b s n (length m) (length t) (length b)) links (work_of links c bytes given.values)
      → (p : Plan) → p ≡ plan_of links.active w.links.active
      → (k : ℕ) (u : List Record) (d : List ℕ) → (u ≡ moved_all n p t) × ((k ≡ (told_all n p t b).at) × (d ≡ (told_all n p t b).buffer))
      → (r : LinkDone) → r ≡ done_by w k
      → Did (group_of s n t links m) (call_of c bytes given.values b) (answer_in c r d) (group_of s n u r.answer.links m)
  unfolding lent_b done_by
  make_returns w we p pe k u d e r re =
      let g : Group = group_of s n t links m in
      let W : Work = lent_of (lent_ok g b) links (work_of links c bytes given.values) in
      let x = gives g bytes given.values b c in
      let q : p ≡ plan_of links.active W.links.active = pe ∙ ap (λ (y : Work). plan_of links.active y.links.active) we in
      let k' : k ≡ (told_all n (plan_of links.active W.links.active) t b).at = e.1.0 ∙ ap (λ (y : Plan). (told_all n y t b).at) q in
      let d' : d ≡ (told_all n (plan_of links.active W.links.active) t b).buffer = e.1.1 ∙ ap (λ (y : Plan). (told_all n y t b).buffer) q in
      let r' : r ≡ done_by W (told_all n (plan_of links.active W.links.active) t b).at = re ∙ (λ i. done_by (we i) (k' i)) in
      record {
        answered = (λ i. answer_in c (r' i) (d' i)) ∙ x.answered;
        left = (λ i. group_of s n ((e.0 ∙ ap (λ (y : Plan). moved_all n y t) q) i) (r' i).answer.links m) ∙ x.left;
      }

-- Claim 4 of specs/Resilience: the messages with F. Assumes nothing.
use Prim.Native.Nat.{ℕ, zero, suc, ◌+◌, ◌*◌, ◌≤◌}
use mathlib.Core.Path.{◌≡◌, refl, sym, ap, ◌∙◌, subst}
use mathlib.Core.Bool.{Bool, true, false, false≢true, ◌&&◌, not, cond}
use mathlib.Core.Option.{some}
use mathlib.Core.List.{List, [], ◌∷◌, ◌++◌, append_assoc}
use native.Mathlib.Omega.{arith}
use lib.Dec.{eqb}
use lib.ListN.{length, take, drop, get_or, get_elem?, length-append, length-drop}
use lib.Seq.{take_at, drop-append-add}
use borrow.Author.Tests.{leb-true, not-true}
use Rattle.cdc.specs.Cdc.{encode_of, decode_of}
use Rattle.cdc.proofs.RoundTrip.{reads_back, encode_length}
use Rattle.conn_record.specs.declared.Record.{Record}
use Rattle.conn_record.specs.Connection.{zero_record}
use Rattle.conn_answer.specs.Outcome.{message_of, no_message}
use Rattle.group_table.specs.declared.Links.{Links}
use Rattle.group_table.specs.Table.{link_in, record_at}
use Rattle.link_calls.specs.Calls.{heard_of, sent_of}
use Rattle.link_failover.specs.declared.Plan.{Plan}
use Rattle.link_failover.specs.Failover.{plan_of, tells_b, failover_of, told_of, messages_of, one, count_of, buffer_left}
use Rattle.link_failover.proofs.Buffer.{messages_long}
use Rattle.thm_links.specs.Statements.{Call as LinkCall}
use Rattle.group_rules.specs.Rules.{Group, Says, link_changed, Done, does, Answer, refuses, record_of_all, links_of, sizes_ok, lent_ok}
use Rattle.group_rules.specs.Rules.{link_refusal, fails_over, link_does, link_message_does, link_send_does}
use Rattle.thm_order.specs.Statement.{At}
use Rattle.thm_order.proofs.Slots.{sizes_in}
use Rattle.thm_order.proofs.Records.{and_both}
use Rattle.thm_refusals.proofs.Answers.{clash}
use Rattle.thm_safety.specs.Links.{call_of}
use Rattle.thm_failover.specs.Resilience.{moves_in, tells_in, count_in, message_f, tellers_from, tellers, message_at, Tells, TheMessages}
use Rattle.thm_failover.proofs.Moves.{moves_same, none_moves}

-- WHAT THE THREE CALLS ANSWER: refused, or by failover's definitions
data Gave (g : Group) (b : List ℕ) (x : Done) : Type 0 where
  nothing : x.group ≡ g → count_in x.answer.says ≡ 0 → x.answer.out ≡ b → Gave g b x
  counted : lent_ok g b ≡ true → count_in x.answer.says ≡ count_of g.N (plan_of g.links x.group.links) g.table
      → x.answer.out ≡ buffer_left (messages_of g.N (plan_of g.links x.group.links) g.table) b → Gave g b x

gave : (g : Group) (ls : Links) (b : List ℕ) (says : ℕ → Says) (made : Bool) (m : List ℕ) (j : ℕ) → ((n : ℕ) → count_in (says n) ≡ n)
    → Gave g b (cond (eqb (link_refusal g b j) 0) (fails_over g ls b says made m) (refuses g (link_refusal g b j) b))
unfolding refuses fails_over link_refusal
gave g ls b says made m j named = go (lent_ok g b) (eqb (link_refusal g b j) 0) refl refl
  where
    go : (t z : Bool) → lent_ok g b ≡ t → eqb (cond (lent_ok g b) j 1) 0 ≡ z
        → Gave g b (cond z (fails_over g ls b says made m) (refuses g (link_refusal g b j) b))
    go t false e f = nothing refl refl refl
    go true true e f = counted e (named _) refl
    go false true e f = absurd (false≢true (sym (ap (λ (x : Bool). eqb (cond x j 1) 0) e) ∙ f))

call_gave : (g : Group) (c : LinkCall) (b : List ℕ) → Gave g b (does g (call_of c b))
unfolding link_does link_message_does link_send_does
call_gave g (LinkCall.change l up) b = gave g _ b link_changed false no_message (cond (link_in l) 0 13) (λ n. refl)
call_gave g (LinkCall.message l bytes) b = gave g _ b _ _ _ (heard_of (links_of g) l bytes).refusal (λ n. refl)
call_gave g (LinkCall.send l k vs) b = gave g _ b _ _ _ (sent_of (links_of g) l k vs).refusal (λ n. refl)

-- THE MESSAGES OF SLOTS
abbrev bytes_of : Group → List ℕ → List ℕ
bytes_of g [] = []
bytes_of g (k ∷ ks) = encode_of (message_f (record_of_all g k)) ++ bytes_of g ks

number_at_lem : (g : Group) (ks rest : List ℕ) (i k : ℕ) → At ks i k → message_at (bytes_of g ks ++ rest) i ≡ encode_of (message_f (record_of_all g k))
number_at_lem g [] rest i k e = clash (cc)
number_at_lem g (j ∷ ks) rest zero k e =
    let s : j ≡ k = cc in
    let m : List ℕ = encode_of (message_f (record_of_all g j)) in
    ap (take 44) (append_assoc m (bytes_of g ks) rest) ∙ take_at m (bytes_of g ks ++ rest) 44 (encode_length _)
    ∙ ap (λ (z : ℕ). encode_of (message_f (record_of_all g z))) s
number_at_lem g (j ∷ ks) rest (suc i) k e =
    let m : List ℕ = encode_of (message_f (record_of_all g j)) in
    let lm : length m ≡ 44 = encode_length (message_f (record_of_all g j)) in
    let a : 44 * suc i ≡ length m + 44 * i = omega (arith, lm) in
    ap (take 44)
    ((λ z. drop (a z) (append_assoc m (bytes_of g ks) rest z)) ∙ drop-append-add m (bytes_of g ks ++ rest) (44 * i))
    ∙ number_at_lem g ks rest i k e

-- BY SLOT AND BY RECORD
module _ (g h : Group) where
  abbrev p : Plan
  p = plan_of g.links h.links

  tells_same : sizes_ok g ≡ true → (k : ℕ) → tells_b g.N p (record_of_all g k) ≡ tells_in g h k
  unfolding tells_b
  tells_same ok k = ap (λ (x : Bool). x && not (record_of_all g k).marks.abort) (moves_same g h ok k)

  -- one that tells did not send A
  message_same : (k : ℕ) → tells_in g h k ≡ true → failover_of (record_of_all g k) ≡ message_f (record_of_all g k)
  unfolding failover_of message_of
  message_same k e =
      let a = not-true (record_of_all g k).marks.abort (and_both (moves_in g h k) _ e).1 in
      λ i.
      record {
        sequence = (message_f (record_of_all g k)).sequence;
        token = (record_of_all g k).id.peer;
        producer = (record_of_all g k).outbound.producer;
        consumer = (record_of_all g k).inbound.consumer;
        flags =
            record {
              blocked = (record_of_all g k).outbound.blocked;
              pending = (record_of_all g k).outbound.urgent.standing;
              urgent = (record_of_all g k).outbound.urgent.standing;
              request = false;
              failover = true;
              done = (record_of_all g k).marks.sent.done;
              closed = (record_of_all g k).marks.sent.closed;
              abort = a i;
            };
      }

  record Same (t : List Record) (ks : List ℕ) : Type 0 where
    count : count_of g.N p t ≡ length ks
    bytes : messages_of g.N p t ≡ bytes_of g ks

  same_all : sizes_ok g ≡ true → (t : List Record) (i : ℕ) → ((j : ℕ) → get_or t j zero_record ≡ record_of_all g (suc (j + i)))
      → Same t (tellers_from g h (suc i) (length t))
  unfolding count_of messages_of told_of tellers_from
  same_all ok [] i at = record { count = refl; bytes = refl }
  same_all ok (c ∷ t) i at = go (tells_in g h (suc i)) refl (same_all ok t (suc i) (λ j. at (suc j) ∙ later j))
    where
      this : c ≡ record_of_all g (suc i)
      this = let e : suc (0 + i) ≡ suc i = omega arith in at 0 ∙ ap (record_of_all g) e

      later : (j : ℕ) → record_of_all g (suc (suc j + i)) ≡ record_of_all g (suc (j + suc i))
      later j = let e : suc (suc j + i) ≡ suc (j + suc i) = omega arith in ap (record_of_all g) e

      tell : (b : Bool) → tells_in g h (suc i) ≡ b → tells_b g.N p c ≡ b
      tell b e = ap (tells_b g.N p) this ∙ tells_same ok (suc i) ∙ e

      go : (b : Bool) → tells_in g h (suc i) ≡ b → Same t (tellers_from g h (suc (suc i)) (length t))
          → Same (c ∷ t) (cond b (suc i ∷ tellers_from g h (suc (suc i)) (length t)) (tellers_from g h (suc (suc i)) (length t)))
      go true e s =
          record {
            count =
                let z : 1 + count_of g.N p t ≡ suc (count_of g.N p t) = omega arith in
                ap (λ (x : Bool). one x + count_of g.N p t) (tell true e) ∙ z ∙ ap suc s.count;
            bytes =
                (λ z. cond (tell true e z) (encode_of (failover_of c)) [] ++ s.bytes z)
                ∙ ap (λ m. encode_of m ++ bytes_of g (tellers_from g h (suc (suc i)) (length t)))
                (ap failover_of this ∙ message_same (suc i) e);
          }
      go false e s =
          record {
            count =
                let z : 0 + count_of g.N p t ≡ count_of g.N p t = omega arith in
                ap (λ (x : Bool). one x + count_of g.N p t) (tell false e) ∙ z ∙ s.count;
            bytes = λ z. cond (tell false e z) (encode_of (failover_of c)) [] ++ s.bytes z;
          }

  -- none tells
  pub none_tell : ((k : ℕ) → moves_in g h k ≡ false) → (k n : ℕ) → tellers_from g h k n ≡ []
  unfolding tellers_from
  none_tell still k zero = refl
  none_tell still k (suc n) = go (moves_in g h k) (still k) (none_tell still (suc k) n)
    where
      go : (b : Bool) → b ≡ false → tellers_from g h (suc k) n ≡ []
          → cond (b && not (record_of_all g k).marks.abort) (k ∷ tellers_from g h (suc k) n) (tellers_from g h (suc k) n) ≡ []
      go true e r = absurd (false≢true (sym e))
      go false e r = r

-- at most one for a record
count_most : (n : ℕ) (p : Plan) (t : List Record) → count_of n p t ≤ length t
unfolding count_of
count_most n p [] = omega arith
count_most n p (c ∷ t) = go (tells_b n p c) (count_most n p t)
  where
    go : (b : Bool) → count_of n p t ≤ length t → one b + count_of n p t ≤ suc (length t)
    go true h = omega (arith, h)
    go false h = omega (arith, h)

-- THE CLAIM
module _ (g h : Group) (b : List ℕ) where
  told_all_lem : sizes_ok g ≡ true → (a : Answer) → lent_ok g b ≡ true
      → count_in a.says ≡ count_of g.N (plan_of g.links h.links) g.table
      → a.out ≡ buffer_left (messages_of g.N (plan_of g.links h.links) g.table) b → Tells g h a b
  unfolding buffer_left record_at
  told_all_lem ok a lent c o =
      record {
        counts = c ∙ s.count;
        each = λ i k e. ap (λ l. decode_of (message_at l i)) out ∙ ap decode_of (number_at_lem g ks (drop (length m) b) i k e) ∙ reads_back _;
        as_long =
            let e = length-append m (drop (length m) b) in
            let f = length-drop (length m) b in
            ap length o ∙ omega (arith, e, f, long, fits, most, many);
        rest =
            let e : 44 * length ks ≡ length m + 0 = omega (arith, long, s.count) in
            let f : length m ≡ 44 * length ks = omega (arith, long, s.count) in
            (λ z. drop (e z) (o z)) ∙ drop-append-add m (drop (length m) b) 0 ∙ ap (λ n. drop n b) f;
      }
    where
      many : length g.table ≡ g.S
      many = (sizes_in g.S g.N (length g.memory) (length g.table) ok).counted

      ks : List ℕ
      ks = tellers g h

      m : List ℕ
      m = messages_of g.N (plan_of g.links h.links) g.table

      s : Same g h g.table (tellers g h)
      s =
          subst (λ n. Same g h g.table (tellers_from g h 1 n)) many
          (same_all g h ok g.table 0 (λ j. let e : j ≡ j + 0 = omega arith in ap (λ n. get_or g.table n zero_record) e))

      out : a.out ≡ bytes_of g ks ++ drop (length m) b
      out = o ∙ ap (λ l. l ++ drop (length m) b) s.bytes

      long : length m ≡ 44 * count_of g.N (plan_of g.links h.links) g.table
      long = messages_long g.N (plan_of g.links h.links) g.table

      most : count_of g.N (plan_of g.links h.links) g.table ≤ length g.table
      most = count_most g.N (plan_of g.links h.links) g.table

      fits : 44 * g.S ≤ length b
      fits = leb-true (44 * g.S) (length b) (and_both (sizes_ok g) _ lent).1

pub the_messages : TheMessages
the_messages g c b = go (does g (call_of c b)) (call_gave g c b)
  where
    go : (x : Done) → Gave g b x → Tells g x.group x.answer b
    go x (nothing e n o) =
        let z : tellers g x.group ≡ [] = ap (tellers g) e ∙ none_tell g g (none_moves g) 1 g.S in
        record {
          counts = n ∙ ap length (sym z);
          each = λ i k a. clash (let y : get_elem? {A = ℕ} [] i ≡ some k = ap (λ l. get_elem? l i) (sym z) ∙ a in cc);
          as_long = ap length o;
          rest = ap (drop (44 * length (tellers g x.group))) o;
        }
    go x (counted lent n o) = told_all_lem g x.group b (and_both (sizes_ok g) _ lent).0 x.answer lent n o

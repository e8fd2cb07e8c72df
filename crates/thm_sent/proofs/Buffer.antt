-- The message that a move hands over stands in the buffer that the call was lent, after the messages of the slots before. Assumes nothing.
use mathlib.Core.Path.{◌≡◌, refl, sym, ap, ◌∙◌, subst}
use mathlib.Core.Logic.{◌⊎◌, inl, inr}
use mathlib.Core.Bool.{Bool, true, false, ◌&&◌, not, cond, false≢true}
use mathlib.Core.List.{List, [], ◌∷◌, ◌++◌, append_assoc}
use Prim.Native.Nat.{ℕ, zero, suc, ◌+◌, ◌-◌, ◌*◌}
use native.Mathlib.Omega.{arith}
use lib.Dec.{ltb, eqb}
use lib.ListN.{length, take, drop, get_or}
use lib.Seq.{take_at, drop-append-add}
use Rattle.cdc.specs.Cdc.{encode_of}
use Rattle.cdc.proofs.RoundTrip.{encode_length}
use Rattle.conn_record.specs.declared.Record.{Record}
use Rattle.conn_record.specs.Connection.{zero_record, coherent_b}
use Rattle.group_table.specs.declared.Links.{Links}
use Rattle.group_table.specs.Table.{link_in, active_b, record_at}
use Rattle.link_calls.specs.Calls.{changed_of, heard_of, sent_of}
use Rattle.conn_answer.specs.Outcome.{no_message}
use Rattle.link_failover.specs.declared.Plan.{Plan}
use Rattle.link_failover.specs.Failover.{target_of, plan_of, gone_b, moves_b, tells_b, failover_of, told_of, messages_of, one, count_of, buffer_left}
use Rattle.thm_links.specs.Statements.{Call as LinkCall}
use Rattle.group_rules.specs.Rules.{Group, Call, Says, link_changed, link_heard, link_sent, links_of, Done, does, next, record_of_all, refuses}
use Rattle.group_rules.specs.Rules.{fails_over, link_refusal, link_does, link_message_does, link_send_does}
use Rattle.thm_safety.specs.Links.{call_of, KeepsLinks}
use Rattle.thm_safety.proofs.Links.{others_keep}
use Rattle.thm_sent.specs.Books.{Names}
use Rattle.thm_sent.specs.Reuse.{InTheBuffer}

-- where the links stay nothing is told
same_silent : (N : ℕ) (a : List Bool) (c : Record) → tells_b N (plan_of a a) c ≡ false
unfolding tells_b moves_b gone_b plan_of
same_silent N a c = go (ltb 0 (target_of a)) c.id.opened (active_b a c.id.link) (coherent_b N c) (not c.marks.abort)
  where
    go : (t o x k m : Bool) → ((t && (o && (x && not x))) && k) && m ≡ false
    go false o x k m = refl
    go true false x k m = refl
    go true true true k m = refl
    go true true false k m = refl

module _ (N : ℕ) (p : Plan) where
  none_told : tells_b N p zero_record ≡ false
  unfolding tells_b moves_b zero_record
  none_told = go (ltb 0 p.target)
    where
      go : (t : Bool)
          → ((t && (false && gone_b p zero_record.id.link)) && coherent_b N zero_record) && not zero_record.marks.abort ≡ false
      go true = refl
      go false = refl

  told_long : (c : Record) → length (told_of N p c) ≡ 44 * one (tells_b N p c)
  unfolding told_of
  told_long c = go (tells_b N p c)
    where
      go : (t : Bool) → length (cond t (encode_of (failover_of c)) []) ≡ 44 * one t
      go true = encode_length (failover_of c)
      go false = refl

  first_in_lem : (m : List ℕ) (c : Record) (rest : List ℕ) → tells_b N p c ≡ true
      → take 44 ((told_of N p c ++ m) ++ rest) ≡ encode_of (failover_of c)
  unfolding told_of
  first_in_lem m c rest e =
      ap (take 44) (ap (λ (t : Bool). (cond t (encode_of (failover_of c)) [] ++ m) ++ rest) e ∙ append_assoc (encode_of (failover_of c)) m rest)
      ∙ take_at (encode_of (failover_of c)) (m ++ rest) 44 (encode_length (failover_of c))

  stands : (t : List Record) (i : ℕ) (rest : List ℕ) → tells_b N p (get_or t i zero_record) ≡ true
      → take 44 (drop (44 * count_of N p (take i t)) (messages_of N p t ++ rest)) ≡ encode_of (failover_of (get_or t i zero_record))
  unfolding messages_of count_of
  stands [] i rest e = absurd (false≢true (sym none_told ∙ e))
  stands (c ∷ t) zero rest e = first_in_lem (messages_of N p t) c rest e
  stands (c ∷ t) (suc i) rest e =
      let l = told_long c in
      let far : 44 * (one (tells_b N p c) + count_of N p (take i t)) ≡ length (told_of N p c) + 44 * count_of N p (take i t) =
      omega (arith, l)
      in
      ap (take 44)
      ((λ j. drop (far j) (append_assoc (told_of N p c) (messages_of N p t) rest j))
      ∙ drop-append-add (told_of N p c) (messages_of N p t ++ rest) (44 * count_of N p (take i t)))
      ∙ stands t i rest e

  stands_at : (t : List Record) (k : ℕ) (rest : List ℕ) → tells_b N p (record_at t k) ≡ true
      → take 44 (drop (44 * count_of N p (take (k - 1) t)) (messages_of N p t ++ rest)) ≡ encode_of (failover_of (record_at t k))
  unfolding record_at
  stands_at t zero rest e = absurd (false≢true (sym none_told ∙ e))
  stands_at t (suc i) rest e = let less : suc i - 1 ≡ i = omega arith in rw less (stands t i rest e)

module _ (n : Names) (g : Group) where
  -- where the message stands in the buffer that a call leaves
  abbrev Found : Done → Type 0
  Found d =
      take 44 (drop (44 * count_of g.N (plan_of g.links d.group.links) (take (n.slot - 1) g.table)) d.answer.out)
      ≡ encode_of (failover_of (record_of_all g n.slot))

  record Stands (d : Done) : Type 0 where
    is : tells_b g.N (plan_of g.links d.group.links) (record_of_all g n.slot) ≡ true → Found d

  either : (t : Bool) (links : Links) (b : List ℕ) (says : ℕ → Says) (made : Bool) (message : List ℕ) (j : ℕ)
      → Stands (cond t (fails_over g links b says made message) (refuses g j b))
  unfolding fails_over refuses buffer_left
  either true links b says made message j =
      record { is = λ e. stands_at g.N (plan_of g.links links.active) g.table n.slot _ e }
  either false links b says made message j =
      record { is = λ e. absurd (false≢true (sym (same_silent g.N g.links (record_of_all g n.slot)) ∙ e)) }

  linked : (k : LinkCall) (b : List ℕ) → Stands (does g (call_of k b))
  unfolding link_does link_message_does link_send_does
  linked (LinkCall.change l up) b =
      let j = link_refusal g b (cond (link_in l) 0 13) in
      either (eqb j 0) (changed_of (links_of g) l up).after b link_changed false no_message j
  linked (LinkCall.message l bytes) b =
      let x = heard_of (links_of g) l bytes in
      let j = link_refusal g b x.refusal in
      either (eqb j 0) x.settled.after b (link_heard x.fields x.fate x.settled.up) x.replies x.reply j
  linked (LinkCall.send l k vs) b =
      let x = sent_of (links_of g) l k vs in
      let j = link_refusal g b x.refusal in
      either (eqb j 0) x.settled.after b (link_sent x.settled.up) true x.message j

pub in_the_buffer : InTheBuffer
in_the_buffer n g c e = go (others_keep g c)
  where
    go : KeepsLinks g (next g c) ⊎ ((k : LinkCall) × (b : List ℕ) × (c ≡ call_of k b)) → Found n g (does g c)
    go (inl z) =
        absurd (false≢true (sym (same_silent g.N g.links (record_of_all g n.slot))
        ∙ ap (λ (l : List Bool). tells_b g.N (plan_of g.links l) (record_of_all g n.slot)) (sym z.same_links) ∙ e))
    go (inr z) = (subst (λ (x : Call). Stands n g (does g x)) (sym z.2) (linked n g z.0 z.1)).is e

-- Claim 6 of specs/Resilience: validation. Assumes nothing.
use Prim.Native.Nat.{ℕ, zero, suc, ◌+◌, ◌%◌, ◌<◌}
use mathlib.Core.Path.{◌≡◌, refl, sym, ap, ◌∙◌, subst}
use mathlib.Core.Bool.{Bool, true, false, false≢true, cond}
use mathlib.Core.List.{List, [], ◌∷◌, ◌++◌, append-nil}
use native.Mathlib.Omega.{arith}
use lib.Dec.{eqb}
use lib.ListN.{length, length-append}
use borrow.Author.Tests.{eq-eqb, eqb-true, ne_eqb}
use Rattle.cdc.specs.declared.Message.{Message}
use Rattle.cdc.specs.declared.Decoded.TheVariants.{Good}
use Rattle.cdc.specs.Cdc.{decode_of}
use Rattle.closing.specs.declared.State.TheVariants.{PeerAbortWait}
use Rattle.closing.specs.Closing.{state_of, abort_sent}
use Rattle.conn_record.specs.declared.Record.{Record}
use Rattle.conn_record.specs.Connection.{coherent_b, refusal_of, marks_to}
use Rattle.conn_answer.specs.declared.Reply.TheVariants.{Accepted as Accepts, Heard}
use Rattle.conn_answer.specs.declared.Outcome.{Outcome}
use Rattle.conn_answer.specs.Outcome.{outcome_of, refused_of}
use Rattle.conn_hear.specs.Heard.{next_b}
use Rattle.conn_hear.specs.Hear.{aborted_of, ruled_of, validated_of, followed_of, hear_of}
use Rattle.conn_finish.specs.Finish.{abort_of}
use Rattle.group_rules.specs.Rules.{Group, abort, on, hear, turn_of, request_turn, hear_turn, Done, does, put_turn, record_of_all, element_in}
use Rattle.group_rules.specs.Rules.{link_of, sizes_ok, holder_of}
use Rattle.thm_order.specs.Statement.{leaves}
use Rattle.thm_refusals.proofs.Refusals.{memory_back, table_back}
use Rattle.thm_safety.specs.Statement.{OpenAt}
use Rattle.thm_safety.proofs.OnSlot.{on_open, hear_open}
use Rattle.thm_safety.proofs.Invariant.{Sound, no_slot_0}
use Rattle.thm_safety.proofs.Sound.{sound_fresh, sound_leaves}
use Rattle.thm_safety.proofs.Theorem.{tokens_apart}
use Rattle.thm_failover.specs.Resilience.{message_f, made, took, Accepted, Aborted, Agree, Validated, Validation}
use Rattle.thm_failover.proofs.Counts.{counting}

-- ONE SLOT. A message with F and no A, heard on a coherent record that did not send A, over an active link
module _ (n : ℕ) (c : Record) (m : Message) (ok : coherent_b n c ≡ true) (a : c.marks.abort ≡ false) where
  may : (f : Bool) → f ≡ false → refusal_of n true c f ≡ 0
  unfolding refusal_of
  may f e = (λ i. cond (ok i) (cond true (cond (e i) 7 0) 6) 3)

  validated : m.flags.abort ≡ false → m.flags.failover ≡ true → hear_of n true c m ≡ validated_of c m
  unfolding hear_of followed_of
  validated x f =
      (λ i. cond (eqb (may false refl i) 0) (cond (x i) (aborted_of c) (followed_of n c m)) (refused_of (may false refl i) c))
      ∙ (λ i.
      cond (a i) (outcome_of (Heard 0 PeerAbortWait) false c)
      (cond (f i) (validated_of c m) (cond (next_b c m) (ruled_of n c m) (refused_of 16 c))))

  -- abort is not refused there
  aborts : abort_of n true c ≡ outcome_of Accepts true (marks_to c (abort_sent c.marks))
  unfolding abort_of
  aborts =
      let no = may c.marks.abort a in
      λ i. cond (eqb (no i) 0) (outcome_of Accepts true (marks_to c (abort_sent c.marks))) (refused_of (no i) c)

-- THE GROUP
module _ (h : Group) (ok : sizes_ok h ≡ true) (i : ℕ) (o : OpenAt h (suc i)) where
  abbrev k : ℕ
  k = suc i

  abbrev put : Outcome → Done
  put x = put_turn h k (turn_of x (element_in h k) [])

module _ (h : Group) (s : Sound h) (i : ℕ) (o : OpenAt h (suc i)) (a : (record_of_all h (suc i)).marks.abort ≡ false)
    (up : link_of h (suc i) ≡ true) (b : List ℕ) (m : Message) (d : decode_of b ≡ Good m) (e : holder_of h m.token ≡ suc i)
    (x : m.flags.abort ≡ false) (f : m.flags.failover ≡ true) where
  abbrev c : Record
  c = record_of_all h (suc i)

  abbrev sizes : sizes_ok h ≡ true
  sizes = s.good.sizes

  hear_is : does h (hear b) ≡ put h sizes i o (validated_of c m)
  unfolding hear_turn
  hear_is =
      hear_open h sizes (suc i) o b m d e
      ∙ ap (λ (t : Bool). put h sizes i o (hear_of h.N t c m)) up
      ∙ ap (put h sizes i o) (validated h.N c m (s.coherent i o) a x f)

  abort_is : does h (on (suc i) abort) ≡ put h sizes i o (outcome_of Accepts true (marks_to c (abort_sent c.marks)))
  unfolding request_turn
  abort_is =
      on_open h (suc i) abort sizes o
      ∙ ap (λ (t : Bool). put h sizes i o (abort_of h.N t c)) up
      ∙ ap (put h sizes i o) (aborts h.N c m (s.coherent i o) a)

  same_number : m.sequence ≡ c.inbound.last → does h (hear b) ≡ put h sizes i o (outcome_of (Heard 0 (state_of c.marks)) false c)
  unfolding validated_of
  same_number q =
      hear_is
      ∙ ap
      (λ (t : Bool).
      put h sizes i o
      (cond t (outcome_of (Heard 0 (state_of c.marks)) false c)
      (outcome_of (Heard 0 PeerAbortWait) true (marks_to c (abort_sent c.marks)))))
      (eq-eqb m.sequence c.inbound.last q)

  other_number : (m.sequence ≡ c.inbound.last → ⊥)
      → does h (hear b) ≡ put h sizes i o (outcome_of (Heard 0 PeerAbortWait) true (marks_to c (abort_sent c.marks)))
  unfolding validated_of
  other_number q =
      hear_is
      ∙ ap
      (λ (t : Bool).
      put h sizes i o
      (cond t (outcome_of (Heard 0 (state_of c.marks)) false c)
      (outcome_of (Heard 0 PeerAbortWait) true (marks_to c (abort_sent c.marks)))))
      (ne_eqb m.sequence c.inbound.last q)

  accepted_one : m.sequence ≡ c.inbound.last → Accepted h (hear b) (suc i)
  unfolding put_turn turn_of outcome_of
  accepted_one q =
      let is = same_number q in
      record {
        says = ap (λ (z : Done). z.answer.says) is;
        none_made = ap (λ (z : Done). z.answer.made) is;
        kept = ap (λ (z : Done). z.group) is ∙ back;
      }
    where
      back : (put h sizes i o (outcome_of (Heard 0 (state_of c.marks)) false c)).group ≡ h
      back = rw (table_back h.table (suc i), memory_back h.memory h.N (suc i))

  aborted_one : (m.sequence ≡ c.inbound.last → ⊥) → Aborted h (hear b) (suc i)
  unfolding put_turn turn_of outcome_of
  aborted_one q =
      let is = other_number q in
      let ab = abort_is in
      record {
        says = ap (λ (z : Done). z.answer.says) is;
        one_made = ap (λ (z : Done). z.answer.made) is;
        abort_made = ap (λ (z : Done). z.answer.message) is ∙ sym (ap (λ (z : Done). z.answer.message) ab);
        same_as_abort = ap (λ (z : Done). z.group) is ∙ sym (ap (λ (z : Done). z.group) ab);
        abort_says = ap (λ (z : Done). z.answer.says) ab;
      }

  -- by the counts, where the message carries the one and the record keeps the other
  validated_by : (made took : List (List ℕ)) → m.sequence ≡ length made % 65536 → c.inbound.last ≡ length took % 65536
      → Validated h (hear b) (suc i) made took
  validated_by made took p q =
      record {
        exactly = (λ w. agree w, λ z. accepted_one (p ∙ z ∙ sym q));
        else_aborts = λ z. aborted_one (λ y. z (sym p ∙ y ∙ q));
        in_order =
            λ missing e less. (
              λ w. none_missing missing e less (agree w),
              λ z. accepted_one (p ∙ ap (λ (l : List (List ℕ)). length l % 65536) (e ∙ all missing z) ∙ sym q),
            );
        again = λ w. subst (λ (z : Group). Accepted z (hear b) (suc i)) (sym w.kept) w;
      }
    where
      agree : Accepted h (hear b) (suc i) → Agree made took
      agree w = go (eqb m.sequence c.inbound.last) refl
        where
          go : (t : Bool) → eqb m.sequence c.inbound.last ≡ t → Agree made took
          go true z = sym p ∙ eqb-true m.sequence c.inbound.last z ∙ q
          go false z =
              absurd
              (false≢true
              (sym w.none_made ∙ (aborted_one (λ y. false≢true (sym z ∙ eq-eqb m.sequence c.inbound.last y))).one_made))

      all : (missing : List (List ℕ)) → missing ≡ [] → took ++ missing ≡ took
      all missing z = ap (λ (l : List (List ℕ)). took ++ l) z ∙ append-nil took

      none_missing : (missing : List (List ℕ)) → made ≡ took ++ missing → length missing < 65536 → Agree made took → missing ≡ []
      none_missing [] e less z = refl
      none_missing (x ∷ r) e less z =
          let l : length made ≡ length took + length (x ∷ r) = ap length e ∙ length-append took (x ∷ r) in
          let n : length (x ∷ r) ≡ suc (length r) = refl in
          absurd (omega (arith, l, less, z, n))

pub validation : Validation
validation g₁ g₂ f₁ f₂ cs₁ cs₂ j zero w b d = absurd (no_slot_0 (leaves g₂ cs₂) w.hearer_open)
validation g₁ g₂ f₁ f₂ cs₁ cs₂ j (suc i) w b d =
    let h = leaves g₂ cs₂ in
    let s = sound_leaves cs₂ g₂ (sound_fresh g₂ f₂) in
    let m = message_f (record_of_all (leaves g₁ cs₁) j) in
    validated_by h s i w.hearer_open w.hearer_not_A w.hearer_linked b m d
    ((tokens_apart g₂ f₂ cs₂).the_only (suc i) m.token w.hearer_open (sym w.tokens)) refl refl
    (made g₁ cs₁ j) (took g₂ cs₂ (suc i))
    (counting g₁ f₁ cs₁ j w.sender_open).F_carries
    ((counting g₂ f₂ cs₂ (suc i) w.hearer_open).last_number_is w.hearer_not_A)

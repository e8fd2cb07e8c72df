-- A store into an element, and a ring read of one: what the element's functions do is what the rules say. Assumes nothing.
use Prim.Native.Nat.{ℕ, ◌+◌, ◌-◌, ◌≤◌}
use mathlib.Core.Path.{◌≡◌, refl, sym, ap, ◌∙◌}
use mathlib.Core.Bool.{Bool, true, false, cond}
use mathlib.Core.List.{List, [], ◌∷◌}
use mathlib.Core.Logic.{◌⊎◌, inl, inr}
use native.Mathlib.Nat.{add-zero}
use native.Mathlib.Omega.{arith}
use native.Mathlib.Decide.{dec_le}
use lib.ListN.{length, take-append-drop}
use Rattle.cursor.specs.declared.Cursor.{Cursor}
use Rattle.cursor.proofs.Laws.{range_is, good_most}
use Rattle.closing.specs.Closing.{abort_sent}
use Rattle.element.specs.Element.{part, splice, stored_of, unread}
use Rattle.element.specs.Element as Element
use Rattle.element.proofs.Others.{put_back, splice-length, splice_part}
use Rattle.element.proofs.Calls.{Readable, stored_in, stored_out, read_in_lem}
use Rattle.conn_record.specs.declared.Record.{Record}
use Rattle.conn_answer.specs.declared.Reply.{Reply}
use Rattle.conn_answer.specs.declared.Reply.TheVariants.{Refused, Accepted, Sent, Read, Torn, Reset, Heard, Sampled}
use Rattle.conn_record.specs.Connection.{coherent_b, marks_to}
use Rattle.conn_record.proofs.Laws.{coherent_facts}
use Rattle.conn_answer.proofs.Laws.{refused_reply, outcome_reply}
use Rattle.conn_receive.specs.Receive.{read_of, unread_of, torn_of}
use Rattle.conn_receive.proofs.Laws.{read_most, read_cases}
use Rattle.group_rules.specs.Rules.{placed_in, read_into}
use Rattle.group_calls.specs.Receiving.{stores_b, copied_of}

-- A STORE. No bytes change nothing
splice_none : (l : List ℕ) (a : ℕ) → splice l a [] ≡ l
unfolding splice
splice_none l a = rw add-zero (take-append-drop a l)

stored_none : (m : List ℕ) (at : ℕ) → stored_of m at [] ≡ m
stored_none m at =
    elim (dec_le (at + 0) (length m)) [
      | yes h ↦ stored_in m at [] (omega arith) h ∙ splice_none m at
      | no h ↦ stored_out m at [] (λ p. h p.1)
    ]

pub stored_length : (m : List ℕ) (at : ℕ) (b : List ℕ) → length (stored_of m at b) ≡ length m
stored_length m at b =
    elim (dec_le (length b) 65536) [
      | yes h ↦
          elim (dec_le (at + length b) (length m)) [
            | yes k ↦ ap length (stored_in m at b h k) ∙ splice-length m b at k
            | no k ↦ ap length (stored_out m at b (λ p. k p.1))
          ]
      | no h ↦ ap length (stored_out m at b (λ p. h p.0))
    ]

-- where the bytes lie in the data, the element with them is put back
pub store_in : (m b : List ℕ) (base n at : ℕ) → base + n ≤ length m → n ≤ 65540 → (length b ≡ 0) ⊎ ((4 ≤ at) × (at + length b ≤ n))
    → stored_of m (base + at) b ≡ splice m base (splice (part m base n) at b)
store_in m [] base n at inside most h =
    stored_none m (base + at) ∙ sym (ap (splice m base) (splice_none (part m base n) at) ∙ put_back m base n inside)
store_in m (x ∷ b) base n at inside most (inl h) = absurd (omega arith)
store_in m (x ∷ b) base n at inside most (inr h) =
    let low = h.0 in
    let high = h.1 in
    stored_in m (base + at) (x ∷ b) (omega arith) (omega arith) ∙ splice_part m (x ∷ b) base n at inside high

-- what stores bytes is accepted
pub stores_is : (r : Reply) → stores_b r ≡ true → r ≡ Accepted
stores_is (Refused k) e = cc
stores_is Accepted e = refl
stores_is (Sent n p) e = cc
stores_is (Read n) e = cc
stores_is Torn e = cc
stores_is (Heard moved state) e = cc
stores_is Reset e = cc
stores_is (Sampled q) e = cc

pub placed_not : (r : Reply) (e : List ℕ) (at : ℕ) (b : List ℕ) → stores_b r ≡ false → placed_in r e at b ≡ e
placed_not (Refused k) e at b h = refl
placed_not Accepted e at b h = cc
placed_not (Sent k p) e at b h = refl
placed_not (Read n) e at b h = refl
placed_not Torn e at b h = refl
placed_not (Heard moved state) e at b h = refl
placed_not Reset e at b h = refl
placed_not (Sampled q) e at b h = refl

-- A RING READ. A count of 0 leaves out as it was
same_ways : {A : Type 0} (z : Bool) (x : A) → cond z x x ≡ x
same_ways true x = refl
same_ways false x = refl

pub read_none : (m : List ℕ) (base size at : ℕ) (out : List ℕ) → Element.read_of m base size at 0 out ≡ out
unfolding Element.read_of unread
read_none m base size at out = same_ways (Element.reads m base size at 0 out) out

pub read_into_lem : (r : Reply) (cur : Cursor) (m : List ℕ) (base n : ℕ) (out : List ℕ)
    → ((j : ℕ) → r ≡ Read j → Readable m base n cur.offset j out)
    → Element.read_of m base n cur.offset (copied_of r) out ≡ read_into r cur (part m base n) out
read_into_lem (Refused k) cur m base n out h = read_none m base n cur.offset out
read_into_lem Accepted cur m base n out h = read_none m base n cur.offset out
read_into_lem (Sent k p) cur m base n out h = read_none m base n cur.offset out
read_into_lem (Read j) cur m base n out h = read_in_lem m base n cur.offset j out (h j refl)
read_into_lem Torn cur m base n out h = read_none m base n cur.offset out
read_into_lem (Heard moved state) cur m base n out h = read_none m base n cur.offset out
read_into_lem Reset cur m base n out h = read_none m base n cur.offset out
read_into_lem (Sampled q) cur m base n out h = read_none m base n cur.offset out

-- what a read names is of a coherent record
read_coherent : (n : ℕ) (active : Bool) (c : Record) (intact : Bool) (room j : ℕ) → (read_of n active c intact room).reply ≡ Read j
    → coherent_b n c ≡ true
unfolding torn_of
read_coherent n active c intact room j =
    read_cases n active c intact room (λ o. o.reply ≡ Read j → coherent_b n c ≡ true)
    (λ k r. let bad : ◌≡◌ {A = ℕ} 0 1 = cc (refused_reply k c) in absurd (omega arith))
    (λ i r. let bad : ◌≡◌ {A = ℕ} 0 1 = cc (outcome_reply Torn true (marks_to c (abort_sent c.marks))) in absurd (omega arith))
    (λ g r. g)

pub readable : (m : List ℕ) (base n : ℕ) (active : Bool) (c : Record) (intact : Bool) (out : List ℕ) (j : ℕ) → base + n ≤ length m
    → 8 ≤ n → n ≤ 65540 → (read_of n active c intact (length out)).reply ≡ Read j → Readable m base n c.inbound.consumer.offset j out
unfolding unread_of
readable m base n active c intact out j inside least most e =
    let f = coherent_facts n c (read_coherent n active c intact (length out) j e) in
    let r = range_is n c.inbound.consumer f.c_range in
    let u = read_most n active c intact (length out) j e in
    let g = good_most (n - 4) c.inbound.consumer c.inbound.producer f.cp_good in
    record { inside = inside; most = most; low = r.0; high = r.1; room = u.1; count = omega (arith, u.0) }

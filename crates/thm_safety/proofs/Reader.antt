-- What a read hands out: the bytes of its own element from C on, each at an offset in the data. Assumes nothing.
use mathlib.Core.Path.{◌≡◌, sym, ap, ◌∙◌}
use mathlib.Core.List.{List, ◌++◌}
use Prim.Native.Nat.{ℕ, zero, suc, ◌+◌, ◌-◌, ◌<◌, ◌≤◌}
use native.Mathlib.Omega.{arith}
use native.Mathlib.Decide.{dec_lt}
use lib.ListN.{length, take, drop, get_or, get_or-append, length-append}
use borrow.Author.Tests.{lt-ltb, le-ltb}
use Rattle.cursor.proofs.Laws.{range_is, good_most}
use Rattle.element.specs.Element.{intact_b, ring_from, unread}
use Rattle.element.proofs.Others.{unread_length, unread_at}
use Rattle.conn_answer.specs.declared.Reply.{Reply}
use Rattle.conn_answer.specs.declared.Reply.TheVariants.{Refused, Accepted, Sent, Read, Torn, Reset, Heard, Sampled}
use Rattle.conn_record.proofs.Laws.{Coherent, coherent_facts}
use Rattle.conn_receive.specs.Receive.{read_of, unread_of}
use Rattle.conn_receive.proofs.Laws.{read_most}
use Rattle.group_rules.specs.Rules.{Group, read, on, was_read_of, says_of, read_into, turn_of, request_turn, answer, record_of_all, element_in, link_of}
use Rattle.thm_order.proofs.Slots.{open_in, element_long}
use Rattle.thm_safety.specs.Statement.{OpenAt, offset_c, offset_from}
use Rattle.thm_refusals.proofs.Answers.{clash}
use Rattle.thm_safety.proofs.Invariant.{Sound, sizes, no_slot_0}
use Rattle.thm_safety.proofs.OnSlot.{on_was_open, on_answer}
use Rattle.cursor.specs.Cursor.{gap_of}

read_is : (r : Reply) (n : ℕ) → says_of r ≡ was_read_of n → r ≡ Read n
read_is (Refused k) n e = clash (cc)
read_is Accepted n e = clash (cc)
read_is (Sent m p) n e = clash (cc)
read_is (Read m) n e = let p : m ≡ n = cc in ap Read p
read_is Torn n e = clash (cc)
read_is (Heard moved state) n e = clash (cc)
read_is Reset n e = clash (cc)
read_is (Sampled q) n e = clash (cc)

-- no call on slot 0 reads
pub not_slot_0 : (h : Group) → Sound h → (n : ℕ) (out : List ℕ) → (answer h (on 0 (read out))).says ≡ was_read_of n → ⊥
not_slot_0 h s n out e =
    let o = on_was_open h 0 (read out) s.good.sizes (λ m r. clash (cc)) in
    no_slot_0 h o

module _ (h : Group) (s : Sound h) (j n : ℕ) (out : List ℕ) (says : (answer h (on (suc j) (read out))).says ≡ was_read_of n) where
  abbrev e : List ℕ
  e = element_in h (suc j)

  abbrev at : ℕ
  at = offset_c h (suc j)

  pub read_open : OpenAt h (suc j)
  read_open = on_was_open h (suc j) (read out) s.good.sizes (λ m r. clash (cc))

  replied : (read_of h.N (link_of h (suc j)) (record_of_all h (suc j)) (intact_b e) (length out)).reply ≡ Read n
  unfolding request_turn turn_of
  replied =
      let a = ap (λ a. a.says) (on_answer h (suc j) (read out) s.good.sizes read_open) in
      read_is _ n (sym a ∙ says)

  pub read_out : (answer h (on (suc j) (read out))).out ≡ take n (ring_from e at) ++ drop n out
  unfolding request_turn turn_of unread
  read_out =
      ap (λ a. a.out) (on_answer h (suc j) (read out) s.good.sizes read_open)
      ∙ ap (λ r. read_into r (record_of_all h (suc j)).inbound.consumer e out) replied

  facts : Coherent h.N (record_of_all h (suc j))
  facts = coherent_facts h.N (record_of_all h (suc j)) (s.coherent j read_open)

  long : length e ≡ h.N
  long = element_long h.N h.S h.memory (sizes h s).whole j (open_in h.S h.table (suc j) read_open).high

  fits : n + 4 ≤ h.N
  unfolding unread_of
  fits =
      let i = (record_of_all h (suc j)).inbound in
      let most = read_most h.N (link_of h (suc j)) (record_of_all h (suc j)) (intact_b e) (length out) n replied in
      let d = good_most (h.N - 4) i.consumer i.producer facts.cp_good in
      omega (arith, most.0, d, (sizes h s).least)

  low : 4 ≤ at
  low = (range_is h.N (record_of_all h (suc j)).inbound.consumer facts.c_range).0

  high : at < h.N
  high = (range_is h.N (record_of_all h (suc j)).inbound.consumer facts.c_range).1

  -- no more than is unread
  pub read_most_unread : n ≤ gap_of (h.N - 4) (record_of_all h (suc j)).inbound.consumer (record_of_all h (suc j)).inbound.producer
  unfolding unread_of
  read_most_unread = (read_most h.N (link_of h (suc j)) (record_of_all h (suc j)) (intact_b e) (length out) n replied).0

  pub read_room : n ≤ length (answer h (on (suc j) (read out))).out
  unfolding unread
  read_room =
      let size = unread_length e at low (omega (arith, high, long)) n (omega (arith, fits, long)) in
      omega (arith, ap length read_out, length-append (take n (ring_from e at)) (drop n out), size)

  module _ (i : ℕ) (l : i < n) where
    pub within_data : 4 ≤ offset_from h.N at i
    within_data =
        elim (dec_lt (at + i) h.N) [
          | yes p ↦ rw (lt-ltb (at + i) h.N p) (omega (arith, low))
          | no p ↦ rw (le-ltb (at + i) h.N (omega arith)) (omega arith)
        ]

    pub read_byte : get_or (answer h (on (suc j) (read out))).out i 0 ≡ get_or e (offset_from h.N at i) 0
    unfolding unread
    read_byte =
        let up : at < length e = omega (arith, high, long) in
        let room : n + 4 ≤ length e = omega (arith, fits, long) in
        let size = unread_length e at low up n room in
        ap (λ o. get_or o i 0) read_out
        ∙ get_or-append (unread e at n) (drop n out) 0 i (omega (arith, size))
        ∙ unread_at e at low up 0 n i room l
        ∙ ap (λ m. get_or e (offset_from m at i) 0) long

-- what is handed out has room
pub read_fits : (h : Group) → Sound h → (k n : ℕ) (out : List ℕ) → (answer h (on k (read out))).says ≡ was_read_of n
    → n ≤ length (answer h (on k (read out))).out
read_fits h s zero n out e = absurd (not_slot_0 h s n out e)
read_fits h s (suc j) n out e = read_room h s j n out e

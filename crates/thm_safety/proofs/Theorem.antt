-- The claims of specs/Statement over lists of calls. Assumes nothing.
use mathlib.Core.Path.{◌≡◌, sym, ap, ◌∙◌, subst₂}
use mathlib.Core.Logic.{◌⊎◌, inl, inr}
use mathlib.Core.Bool.{true, false≢true}
use mathlib.Core.List.{List, ◌++◌}
use Prim.Native.Nat.{ℕ, zero, suc, ◌<◌}
use native.Mathlib.Omega.{arith}
use lib.ListN.{take, drop, get_or}
use borrow.Author.Tests.{ne_eqb}
use Rattle.element.specs.Element.{intact_b, ring_from}
use Rattle.conn_record.specs.Connection.{coherent_b}
use Rattle.conn_record.proofs.Laws.{coherent_facts}
use Rattle.group_table.specs.Table.{slot_b}
use Rattle.group_rules.specs.Rules.{Group, read, Call, on, was_read_of, answer, record_of_all, element_in, holder_of, Fresh}
use Rattle.thm_order.specs.Statement.{leaves}
use Rattle.thm_order.proofs.Slots.{slot_in, open_in, found_open, open_found}
use Rattle.thm_safety.specs.Statement.{OpenAt, own_of, offset_c, Apart, TokensApart, AlwaysCoherent, AlwaysIntact, held, held_from, Stored, Unstored, offset_from, Handed, NoStaleBytes, NobodyElses}
use Rattle.thm_safety.proofs.Invariant.{no_slot_0, Sound}
use Rattle.thm_safety.proofs.Calls.{call_does}
use Rattle.thm_safety.proofs.Sound.{sound_fresh, sound_leaves, leaves_sizes}
use Rattle.thm_safety.proofs.Held.{held_leaves, fresh_zeros}
use Rattle.thm_safety.proofs.Bytes.{unstored, stored, From, unopened, since_open, from_calls, still_closed}
use Rattle.thm_safety.proofs.Own.{own_touched, own_seen}
use Rattle.thm_safety.proofs.Reader.{not_slot_0, read_open, read_out, within_data, read_byte}

-- what is shown of slots from 1 on holds of every open slot
module _ (h : Group) (P : ℕ → Type 0) where
  each_open : ((i : ℕ) → OpenAt h (suc i) → P (suc i)) → (k : ℕ) → OpenAt h k → P k
  each_open f zero o = absurd (no_slot_0 h o)
  each_open f (suc i) o = f i o

-- 1. Tokens apart
module _ (h : Group) (s : Sound h) where
  no_two : (j k : ℕ) → OpenAt h j → OpenAt h k → own_of h j ≡ own_of h k → j ≡ k
  no_two zero k o p e = absurd (no_slot_0 h o)
  no_two (suc i) zero o p e = absurd (no_slot_0 h p)
  no_two (suc i) (suc j) o p e = ap suc (s.good.apart i j o p e)

  pub the_only : (i token : ℕ) → OpenAt h (suc i) → own_of h (suc i) ≡ token → holder_of h token ≡ suc i
  the_only i token o e =
      let f = coherent_facts h.N (record_of_all h (suc i)) (s.coherent i o) in
      let w = open_found h.S h.table i o in
      let x = found_open h.S h.table (own_of h (suc i)) w.0 w.1 in
      let one = s.good.apart w.0 i x.0 o x.1 in
      rw (← e, ne_eqb (own_of h (suc i)) 0 (λ z. omega (arith, z, f.own_nonzero))) (w.1 ∙ ap suc one)

  apart : Apart h
  apart =
      record {
        no_two = no_two;
        the_only = λ k token. each_open h (λ i. own_of h i ≡ token → holder_of h token ≡ i) (λ i. the_only i token) k;
      }

pub tokens_apart : TokensApart
tokens_apart g f cs = apart (leaves g cs) (sound_leaves cs g (sound_fresh g f))

-- 2. Coherent
pub always_coherent : AlwaysCoherent
always_coherent g f cs =
    let h = leaves g cs in
    let s = sound_leaves cs g (sound_fresh g f) in
    record { every_open = each_open h (λ k. coherent_b h.N (record_of_all h k) ≡ true) s.coherent; never_3 = λ c. (call_does h s c).not_3 }

-- 3. Intact
pub always_intact : AlwaysIntact
always_intact g f cs =
    let h = leaves g cs in
    let s = sound_leaves cs g (sound_fresh g f) in
    record { every_open = each_open h (λ k. intact_b (element_in h k) ≡ true) s.intact; never_torn = λ c. (call_does h s c).not_torn }

-- 4. No stale bytes
module _ (g : Group) (f : Fresh g) (cs : List Call) where
  s : Sound (leaves g cs)
  s = sound_leaves cs g (sound_fresh g f)

  abbrev h : Group
  h = leaves g cs

  exactly : (k : ℕ) → slot_b g.S k ≡ true → element_in h k ≡ held g cs k
  exactly zero l = absurd (omega (arith, slot_in g.S 0 l))
  exactly (suc j) l =
      held_leaves cs g (sound_fresh g f) j
      ∙ ap (λ e. held_from g e cs (suc j)) (fresh_zeros g f (sound_fresh g f) j (slot_in g.S (suc j) l).1)

  -- a slot that is open after the calls is a slot of g
  slot : (j : ℕ) → OpenAt h (suc j) → slot_b g.S (suc j) ≡ true
  slot j o = rw (leaves_sizes cs g (sound_fresh g f)).0 at (open_in h.S h.table (suc j) o).slot

  -- the slot was opened by one of the calls, since it is open now
  since : (j x v : ℕ) → OpenAt h (suc j) → From g cs (suc j) x (get_or (element_in g (suc j)) x 0) v
      → Stored g cs (suc j) x v ⊎ Unstored g cs (suc j) x v
  since j x v o (unopened u w) = absurd (false≢true (sym (f.closed (suc j)) ∙ still_closed cs g (sound_fresh g f) j u o))
  since j x v o (since_open i p u (unstored n e)) =
      inr (record { opening = i; open_last = record { opened = p; last = u }; none_since = n; zero_byte = e })
  since j x v o (since_open i p u (stored n l w e q)) =
      inl
      (record {
        opening = i;
        open_last = record { opened = p; last = u };
        storing = n;
        since = l;
        covers = w;
        byte = e;
        latest = q;
      })

  module _ (j n : ℕ) (out : List ℕ) (e : (answer h (on (suc j) (read out))).says ≡ was_read_of n) where
    abbrev now : List ℕ
    now = (answer h (on (suc j) (read out))).out

    open_now : OpenAt h (suc j)
    open_now = read_open h s j n out e

    bytes : now ≡ take n (ring_from (held g cs (suc j)) (offset_c h (suc j))) ++ drop n out
    bytes = read_out h s j n out e ∙ ap (λ l. take n (ring_from l (offset_c h (suc j))) ++ drop n out) (exactly (suc j) (slot j open_now))

    each : (i : ℕ) → i < n → let x = offset_from g.N (offset_c h (suc j)) i in Stored g cs (suc j) x (get_or now i 0) ⊎ Unstored g cs (suc j) x (get_or now i 0)
    each i l =
        let x = offset_from h.N (offset_c h (suc j)) i in
        let inside = (slot_in g.S (suc j) (slot j open_now)).1 in
        let origin = from_calls cs g (sound_fresh g f) j x inside (within_data h s j n out e i l) in
        subst₂
        (λ m v. let y = offset_from m (offset_c h (suc j)) i in Stored g cs (suc j) y v ⊎ Unstored g cs (suc j) y v)
        (leaves_sizes cs g (sound_fresh g f)).1
        (sym (read_byte h s j n out e i l)) (since j x (get_or (element_in h (suc j)) x 0) open_now origin)

  reads : (k n : ℕ) (out : List ℕ) → (answer h (on k (read out))).says ≡ was_read_of n → Handed g cs h k n out (answer h (on k (read out))).out
  reads zero n out e = absurd (not_slot_0 h s n out e)
  reads (suc j) n out e = record { bytes = bytes j n out e; each = each j n out e }

pub no_stale_bytes : NoStaleBytes
no_stale_bytes g f cs = record { exactly = exactly g f cs; reads = reads g f cs }

-- 5. Nobody else's
pub nobody_elses : NobodyElses
nobody_elses = (
  λ g f cs. own_touched (leaves g cs) (sound_leaves cs g (sound_fresh g f)),
  λ g₁ g₂ f₁ f₂ cs₁ cs₂ k w q.
      let s₁ = sound_leaves cs₁ g₁ (sound_fresh g₁ f₁) in
      let s₂ = sound_leaves cs₂ g₂ (sound_fresh g₂ f₂) in
      own_seen (leaves g₁ cs₁) (leaves g₂ cs₂) s₁ s₂ k w q,
)

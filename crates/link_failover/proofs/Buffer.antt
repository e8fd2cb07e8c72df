-- In a buffer of 44 bytes a record or more, what the code writes is the messages in slot order at the front, and the rest stays.
-- Assumes nothing.
use Prim.Native.Nat.{ℕ, zero, suc, ◌+◌, ◌-◌, ◌*◌, ◌≤◌, ◌<◌}
use mathlib.Core.Path.{◌≡◌, refl, sym, ap, ◌∙◌}
use mathlib.Core.Bool.{Bool, true, false, cond}
use mathlib.Core.List.{List, [], ◌∷◌, ◌++◌, append_assoc, append-nil}
use native.Mathlib.Omega.{arith}
use lib.ListN.{length, take, drop, length-append, length-drop}
use lib.Seq.{take_at, drop-append-add, drop-drop}
use Rattle.cdc.specs.Cdc.{encode_of}
use Rattle.cdc.proofs.RoundTrip.{encode_length}
use Rattle.layout.specs.Layout.{laid_at}
use Rattle.layout.proofs.Places.{laid_in}
use Rattle.conn_record.specs.declared.Record.{Record}
use Rattle.link_failover.specs.declared.Plan.{Plan}
use Rattle.link_failover.specs.Failover.{tells_b, failover_of, told_of, messages_of, one, count_of, buffer_left, Told, standing, told_by, told_from, told_all}
use Rattle.link_failover.proofs.Laws.{told_silent, told_laid}

-- m laid between what is written and what is not
laid_after : (front rest m : List ℕ) (at : ℕ) → length front ≡ at → length m ≤ length rest
    → laid_at (front ++ rest) at m ≡ (front ++ m) ++ drop (length m) rest
laid_after front rest m at e h =
    let long : length (front ++ rest) ≡ at + length rest = length-append front rest ∙ ap (λ (k : ℕ). k + length rest) e in
    laid_in (front ++ rest) m at (omega (arith, long, h))
    ∙ (λ i. take_at front rest at e i ++ (m ++ (ap (λ (k : ℕ). drop (k + length m) (front ++ rest)) (sym e) ∙ drop-append-add front rest (length m)) i))
    ∙ sym (append_assoc front m (drop (length m) rest))

module _ (n : ℕ) (p : Plan) where
  told_none : (c : Record) → tells_b n p c ≡ false → told_of n p c ≡ []
  unfolding told_of
  told_none c e = simp e

  told_some : (c : Record) → tells_b n p c ≡ true → told_of n p c ≡ encode_of (failover_of c)
  unfolding told_of
  told_some c e = simp e

  told_step : (c : Record) (t : List Record) (s : Told) → told_from n p (c ∷ t) s ≡ told_from n p t (told_by n p c s)
  unfolding told_from
  told_step c t s = refl

  messages_step : (c : Record) (t : List Record) → messages_of n p (c ∷ t) ≡ told_of n p c ++ messages_of n p t
  unfolding messages_of
  messages_step c t = refl

  count_step : (c : Record) (t : List Record) → count_of n p (c ∷ t) ≡ one (tells_b n p c) + count_of n p t
  unfolding count_of
  count_step c t = refl

  -- the front is written, the rest is not
  abbrev Filled : List Record → Type 0
  Filled t =
      (front rest : List ℕ) (at : ℕ) → length front ≡ at → 44 * length t ≤ length rest
      → told_from n p t (standing at (front ++ rest)) ≡ standing (at + length (messages_of n p t)) (front ++ buffer_left (messages_of n p t) rest)

  filled_none : Filled []
  unfolding told_from messages_of buffer_left
  filled_none front rest at e h = let z : at ≡ at + 0 = omega arith in λ i. standing (z i) (front ++ rest)

  module _ (c : Record) (t : List Record) (ih : Filled t) (front rest : List ℕ) (at : ℕ) (e : length front ≡ at) (h : 44 * length (c ∷ t) ≤ length rest) where
    abbrev M : List ℕ
    M = messages_of n p t

    filled_silent : tells_b n p c ≡ false
        → told_from n p (c ∷ t) (standing at (front ++ rest))
        ≡ standing (at + length (messages_of n p (c ∷ t))) (front ++ buffer_left (messages_of n p (c ∷ t)) rest)
    filled_silent f =
        let z : messages_of n p (c ∷ t) ≡ M = messages_step c t ∙ ap (λ (x : List ℕ). x ++ M) (told_none c f) in
        told_step c t (standing at (front ++ rest))
        ∙ ap (told_from n p t) (told_silent n p c at (front ++ rest) f)
        ∙ ih front rest at e (omega (arith, h))
        ∙ ap (λ (x : List ℕ). standing (at + length x) (front ++ buffer_left x rest)) (sym z)

    filled_told : tells_b n p c ≡ true
        → told_from n p (c ∷ t) (standing at (front ++ rest))
        ≡ standing (at + length (messages_of n p (c ∷ t))) (front ++ buffer_left (messages_of n p (c ∷ t)) rest)
    unfolding buffer_left
    filled_told f =
        let m : List ℕ = encode_of (failover_of c) in
        let lm : length m ≡ 44 = encode_length (failover_of c) in
        let long : length (front ++ rest) ≡ at + length rest = length-append front rest ∙ ap (λ (k : ℕ). k + length rest) e in
        let lf : length (front ++ m) ≡ at + 44 = length-append front m ∙ (λ i. e i + lm i) in
        let ld : length (drop (length m) rest) ≡ length rest - 44 = length-drop (length m) rest ∙ ap (λ (k : ℕ). length rest - k) lm in
        let z : messages_of n p (c ∷ t) ≡ m ++ M = messages_step c t ∙ ap (λ (x : List ℕ). x ++ M) (told_some c f) in
        let lz : length (m ++ M) ≡ length m + length M = length-append m M in
        let a : at + 44 + length M ≡ at + length (m ++ M) = omega (arith, lz, lm) in
        let b : (front ++ m) ++ (M ++ drop (length M) (drop (length m) rest)) ≡ front ++ ((m ++ M) ++ drop (length (m ++ M)) rest) =
        append_assoc front m (M ++ drop (length M) (drop (length m) rest))
        ∙ ap (λ (x : List ℕ). front ++ (m ++ (M ++ x))) (drop-drop (length M) (length m) rest ∙ ap (λ (k : ℕ). drop k rest) (sym lz))
        ∙ ap (λ (x : List ℕ). front ++ x) (sym (append_assoc m M (drop (length (m ++ M)) rest))) in
        told_step c t (standing at (front ++ rest))
        ∙ ap (told_from n p t)
        (told_laid n p c at (front ++ rest) f (omega (arith, long, h))
        ∙ ap (standing (at + 44)) (laid_after front rest m at e (omega (arith, lm, h))))
        ∙ ih (front ++ m) (drop (length m) rest) (at + 44) lf (omega (arith, ld, h))
        ∙ (λ i. standing (a i) (b i))
        ∙ ap (λ (x : List ℕ). standing (at + length x) (front ++ (x ++ drop (length x) rest))) (sym z)

    filled_next : told_from n p (c ∷ t) (standing at (front ++ rest))
        ≡ standing (at + length (messages_of n p (c ∷ t))) (front ++ buffer_left (messages_of n p (c ∷ t)) rest)
    filled_next = go (tells_b n p c) refl
      where
        go : (b : Bool) → tells_b n p c ≡ b
            → told_from n p (c ∷ t) (standing at (front ++ rest))
            ≡ standing (at + length (messages_of n p (c ∷ t))) (front ++ buffer_left (messages_of n p (c ∷ t)) rest)
        go true f = filled_told f
        go false f = filled_silent f

  filled : (t : List Record) → Filled t
  filled [] = filled_none
  filled (c ∷ t) = λ front rest at e h. filled_next c t (filled t) front rest at e h

  -- THE WHOLE BUFFER
  pub all_told : (t : List Record) (b : List ℕ) → 44 * length t ≤ length b
      → told_all n p t b ≡ standing (length (messages_of n p t)) (buffer_left (messages_of n p t) b)
  all_told t b h = filled t [] b 0 refl h ∙ (let z : 0 + length (messages_of n p t) ≡ length (messages_of n p t) = omega arith in ap (λ (k : ℕ). standing k (buffer_left (messages_of n p t) b)) z)

  messages_none : length (messages_of n p []) ≡ 44 * count_of n p []
  unfolding messages_of count_of
  messages_none = refl

  -- 44 bytes a message
  pub messages_long : (t : List Record) → length (messages_of n p t) ≡ 44 * count_of n p t
  messages_long [] = messages_none
  messages_long (c ∷ t) = go (tells_b n p c) refl (messages_long t)
    where
      go : (b : Bool) → tells_b n p c ≡ b → length (messages_of n p t) ≡ 44 * count_of n p t → length (messages_of n p (c ∷ t)) ≡ 44 * count_of n p (c ∷ t)
      go true f ih =
          let z = ap length (messages_step c t ∙ ap (λ (x : List ℕ). x ++ messages_of n p t) (told_some c f)) ∙ length-append (encode_of (failover_of c)) (messages_of n p t) in
          let k : count_of n p (c ∷ t) ≡ 1 + count_of n p t = count_step c t ∙ ap (λ (x : Bool). one x + count_of n p t) f in
          z ∙ omega (arith, ih, k, encode_length (failover_of c))
      go false f ih =
          let z = ap length (messages_step c t ∙ ap (λ (x : List ℕ). x ++ messages_of n p t) (told_none c f)) in
          let k : count_of n p (c ∷ t) ≡ 0 + count_of n p t = count_step c t ∙ ap (λ (x : Bool). one x + count_of n p t) f in
          z ∙ omega (arith, ih, k)

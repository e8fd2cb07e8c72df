-- Small laws of the calls.
-- Assumes nothing.
use mathlib.Core.Path.{◌≡◌, ◌∙◌, refl, ap, sym}
use mathlib.Core.Bool.{Bool, true, false, ◌&&◌, not, cond}
use mathlib.Core.List.{List}
use Prim.Native.Nat.{ℕ, ◌*◌, ◌<◌}
use native.Mathlib.Omega.{arith}
use lib.ListN.{length, get_or}
use lib.Seq.{take_all}
use Rattle.layout.specs.Layout.{spread, gather, bytes_at}
use Rattle.layout.proofs.Bits.{are_bytes_lem, gather_spread, spread-length}
use Rattle.link_exchange.specs.declared.Fate.{Fate}
use Rattle.link_exchange.specs.declared.Fate.TheVariants.{Taken, Queued, Denied, Dropped}
use Rattle.link_exchange.specs.declared.Said.{Said}
use Rattle.link_exchange.specs.Fates.{fate_named, fate_number}
use Rattle.group_table.specs.declared.Links.{Links}
use Rattle.group_table.specs.Table.{link_in}
use Rattle.link_calls.specs.Calls.{first, down_b, message_refusal}
use lib.Dec.{eqb}
use borrow.Author.Tests.{eqb-true}

pub fate_back : (f : Fate) → fate_named (fate_number f) ≡ f
unfolding fate_named
fate_back Taken = refl
fate_back Queued = refl
fate_back Denied = refl
fate_back Dropped = refl

-- all bytes of a list
pub whole_bytes : (l : List ℕ) → ((i : ℕ) → get_or l i 0 < 256) → length l ≡ 44 → bytes_at l 0 44 ≡ l
unfolding bytes_at
whole_bytes l h e =
    ap (gather 44) (take_all (8 * 44) (spread l) (omega (arith, spread-length l)))
    ∙ ap (λ (n : ℕ). gather n (spread l)) (sym e)
    ∙ gather_spread l (are_bytes_lem l h)

-- a message that is not refused is 44 bytes
third : (a d e : Bool) (rest : ℕ) → cond a 13 (cond d 6 (cond (not e) 4 rest)) ≡ 0 → e ≡ true
third true d e rest h = absurd (omega arith)
third false true e rest h = absurd (omega arith)
third false false true rest h = refl
third false false false rest h = absurd (omega arith)

and_first : (a c : Bool) → (a && c) ≡ true → a ≡ true
and_first true c e = refl
and_first false c e = e

pub long_enough : (g : Links) (l : ℕ) (b : List ℕ) (m : Said) (f j : ℕ) (opt : Bool) → j ≡ message_refusal g l b m f
    → (eqb j 0 && not opt) ≡ true → length b ≡ 44
unfolding message_refusal
long_enough g l b m f j opt en t =
    let z : j ≡ 0 = eqb-true j 0 (and_first (eqb j 0) (not opt) t) in
    eqb-true (length b) 44 (third (not (link_in l)) (down_b g l (first b)) (eqb (length b) 44) _ (sym en ∙ z))

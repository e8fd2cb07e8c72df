-- Laws of lists that several modules use. Assumes nothing.
use mathlib.Core.Path.{◌≡◌, refl, sym, ap, ◌∙◌}
use mathlib.Core.List.{List, [], ◌∷◌, ◌++◌}
use Prim.Native.Nat.{ℕ, zero, suc, ◌+◌, ◌-◌, ◌≤◌, ◌<◌}
use native.Mathlib.Omega.{arith}
use lib.ListN.{length, take, get_or, get_elem?, replicate, take-append-drop}
use lib.Seq.{get_or-take, get_or-append-add}
use Rattle.element.specs.Element.{splice}
use Rattle.element.proofs.Others.{splice_in}

pub same_byte : (l m : List ℕ) (x : ℕ) → length l ≡ length m → get_or l x 0 ≡ get_or m x 0 → get_elem? l x ≡ get_elem? m x
same_byte [] [] x e p = refl
same_byte [] (b ∷ m) x e p = absurd (omega (arith, e))
same_byte (a ∷ l) [] x e p = absurd (omega (arith, e))
same_byte (a ∷ l) (b ∷ m) zero e p = cc
same_byte (a ∷ l) (b ∷ m) (suc x) e p = same_byte l m x (omega (arith, e)) p

pub zero_at : (n i : ℕ) → get_or {A = ℕ} (replicate n 0) i 0 ≡ 0
zero_at zero i = refl
zero_at (suc n) zero = refl
zero_at (suc n) (suc i) = zero_at n i

pub splice_none : (e b : List ℕ) (at : ℕ) → length b ≡ 0 → splice e at b ≡ e
unfolding splice
splice_none e [] at z = let p : at + 0 ≡ at = omega arith in rw p (take-append-drop at e)
splice_none e (x ∷ b) at z = absurd (omega (arith, z))

-- a byte that was spliced in
pub splice_at : (e b : List ℕ) (at x : ℕ) → at + length b ≤ length e → at ≤ x → x < at + length b
    → get_or (splice e at b) x 0 ≡ get_or b (x - at) 0
splice_at e b at x fits l m =
    let i : at + (x - at) ≡ x = omega arith in
    ap (λ z. get_or (splice e at b) z 0) (sym i) ∙ splice_in 0 e b at fits (x - at) (omega arith)

-- byte number y of a list of h bytes with the first n of o behind it
pub taken_at : (l o : List ℕ) (h n y : ℕ) → length l ≡ h → h ≤ y → y < h + n → get_or (l ++ take n o) y 0 ≡ get_or o (y - h) 0
taken_at l o h n y e low high =
    let at : length l + (y - h) ≡ y = omega arith in
    ap (λ z. get_or (l ++ take n o) z 0) (sym at)
    ∙ get_or-append-add l (take n o) (y - h) 0
    ∙ get_or-take n o (y - h) 0 (omega arith)

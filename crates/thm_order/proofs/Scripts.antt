-- A list of numbers cut at those that pass a test: the spans between desk calls. Assumes nothing.
use mathlib.Core.Path.{◌≡◌, refl, sym, ap, ◌∙◌}
use mathlib.Core.Bool.{Bool, true, false, false≢true}
use mathlib.Core.List.{List, [], ◌∷◌, ◌++◌}
use Prim.Native.Nat.{ℕ}
use Rattle.thm_order.proofs.Lists.{sift, keep}

-- a last span; or a span, the desk call that ends it, and what follows
pub data Script : Type 0 where
  last : List ℕ → Script
  cut : List ℕ → ℕ → Script → Script

abbrev pub before : ℕ → Script → Script
before i (last s) = last (i ∷ s)
before i (cut s d r) = cut (i ∷ s) d r

abbrev pub cut_if : Bool → ℕ → Script → Script
cut_if true i r = cut [] i r
cut_if false i r = before i r

abbrev pub script : (ℕ → Bool) → List ℕ → Script
script manage [] = last []
script manage (i ∷ s) = cut_if (manage i) i (script manage s)

abbrev pub flat : Script → List ℕ
flat (last s) = s
flat (cut s d r) = s ++ d ∷ flat r

pub flat_script : (manage : ℕ → Bool) (s : List ℕ) → flat (script manage s) ≡ s
flat_script manage [] = refl
flat_script manage (i ∷ s) = go (manage i) (script manage s) (flat_script manage s)
  where
    go : (t : Bool) (r : Script) → flat r ≡ s → flat (cut_if t i r) ≡ i ∷ s
    go true r e = ap (λ u. i ∷ u) e
    go false (last u) e = ap (λ u. i ∷ u) e
    go false (cut u d r) e = ap (λ u. i ∷ u) e

abbrev pub sift_all : (ℕ → Bool) → Script → Script
sift_all q (last s) = last (sift q s)
sift_all q (cut s d r) = cut (sift q s) d (sift_all q r)

-- Where desk calls pass the sieve, to sift a list is to sift its spans.
pub script_sift : (manage q : ℕ → Bool) → ((i : ℕ) → manage i ≡ true → q i ≡ true) → (s : List ℕ) → script manage (sift q s) ≡ sift_all q (script manage s)
script_sift manage q h [] = refl
script_sift manage q h (i ∷ s) = go (manage i) refl (q i) refl (script manage s) (script_sift manage q h s)
  where
    go : (t : Bool) → manage i ≡ t → (u : Bool) → q i ≡ u → (r : Script) → script manage (sift q s) ≡ sift_all q r
        → script manage (keep u i (sift q s)) ≡ sift_all q (cut_if t i r)
    go true e true f r p = rw (e, p)
    go true e false f r p = absurd (false≢true (sym f ∙ h i e))
    go false e true f (last v) p = rw (e, f, p)
    go false e true f (cut v d r) p = rw (e, f, p)
    go false e false f (last v) p = rw f p
    go false e false f (cut v d r) p = rw f p

-- the parts of a script
abbrev pub span_of : Script → List ℕ
span_of (last s) = s
span_of (cut s d r) = s

abbrev pub manage_of : Script → ℕ → ℕ
manage_of (last s) n = n
manage_of (cut s d r) n = d

abbrev pub rest_of : Script → Script
rest_of (last s) = last s
rest_of (cut s d r) = r

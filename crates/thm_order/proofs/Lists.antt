-- Lists of numbers: membership, a sieve, lists that are sorted by a relation, and the numbers below n. Assumes nothing.
use mathlib.Core.Path.{◌≡◌, refl, sym, ap, ◌∙◌}
use mathlib.Core.Logic.{◌⊎◌, inl, inr}
use mathlib.Core.Bool.{Bool, true, false}
use mathlib.Core.Option
use mathlib.Core.Option.{some}
use mathlib.Core.List.{List, [], ◌∷◌, map}
use Prim.Native.Nat.{ℕ, zero, suc, ◌<◌, zero-le, suc-le-suc}
use native.Mathlib.Nat.{le_of_suc-le-suc, not-suc-le-zero}
use native.Mathlib.Omega.{arith}
use lib.ListN.{length, get_or, get_elem?}

-- x stands in the list
abbrev pub In : ℕ → List ℕ → Type 0
In x [] = ⊥
In x (y ∷ ys) = (x ≡ y) ⊎ In x ys

-- the elements that pass the test
abbrev pub keep : Bool → ℕ → List ℕ → List ℕ
keep true x xs = x ∷ xs
keep false x xs = xs

abbrev pub sift : (ℕ → Bool) → List ℕ → List ℕ
sift q [] = []
sift q (x ∷ xs) = keep (q x) x (sift q xs)

pub in_sift : (q : ℕ → Bool) (x : ℕ) (l : List ℕ) → In x (sift q l) → In x l × (q x ≡ true)
in_sift q x [] h = absurd h
in_sift q x (y ∷ ys) h = go (λ m. in_sift q x ys m) (q y) refl h
  where
    go : (In x (sift q ys) → In x ys × (q x ≡ true)) → (b : Bool) → q y ≡ b → In x (keep b y (sift q ys)) → In x (y ∷ ys) × (q x ≡ true)
    go rec true e (inl p) = (inl p, rw p e)
    go rec true e (inr m) = let r = rec m in (inr r.0, r.1)
    go rec false e m = let r = rec m in (inr r.0, r.1)

pub to_sift : (q : ℕ → Bool) (x : ℕ) (l : List ℕ) → In x l → q x ≡ true → In x (sift q l)
to_sift q x [] h e = absurd h
to_sift q x (y ∷ ys) (inl p) e = rw (← p) (rw e (inl refl))
to_sift q x (y ∷ ys) (inr m) e = go (to_sift q x ys m e) (q y)
  where
    go : In x (sift q ys) → (b : Bool) → In x (keep b y (sift q ys))
    go m true = inr m
    go m false = m

-- every element of the list stands in the relation with x; each element stands in the relation with every later one
abbrev pub Below : (ℕ → ℕ → Type 0) → ℕ → List ℕ → Type 0
Below R x l = (y : ℕ) → In y l → R x y

abbrev pub Sorted : (ℕ → ℕ → Type 0) → List ℕ → Type 0
Sorted R [] = Unit {0}
Sorted R (x ∷ xs) = Below R x xs × Sorted R xs

pub sorted_sift : (R : ℕ → ℕ → Type 0) (q : ℕ → Bool) (l : List ℕ) → Sorted R l → Sorted R (sift q l)
sorted_sift R q [] s = tt
sorted_sift R q (x ∷ xs) s = go (sorted_sift R q xs s.1) (q x)
  where
    go : Sorted R (sift q xs) → (b : Bool) → Sorted R (keep b x (sift q xs))
    go r true = (λ y m. s.0 y (in_sift q y xs m).0, r)
    go r false = r

pub sorted_by : (R Q : ℕ → ℕ → Type 0) (l : List ℕ) → ((x y : ℕ) → In x l → In y l → R x y → Q x y) → Sorted R l → Sorted Q l
sorted_by R Q [] f s = tt
sorted_by R Q (x ∷ xs) f s = (λ y m. f x y (inl refl) (inr m) (s.0 y m), sorted_by R Q xs (λ a b p q. f a b (inr p) (inr q)) s.1)

pub in_map : (f : ℕ → ℕ) (x : ℕ) (l : List ℕ) → In x (map f l) → (y : ℕ) × In y l × (x ≡ f y)
in_map f x [] h = absurd h
in_map f x (y ∷ ys) (inl p) = (y, inl refl, p)
in_map f x (y ∷ ys) (inr m) = let r = in_map f x ys m in (r.0, inr r.1, r.2)

pub to_map : (f : ℕ → ℕ) (x : ℕ) (l : List ℕ) → In x l → In (f x) (map f l)
to_map f x [] h = absurd h
to_map f x (y ∷ ys) (inl p) = inl (ap f p)
to_map f x (y ∷ ys) (inr m) = inr (to_map f x ys m)

pub sorted_map : (R : ℕ → ℕ → Type 0) (f : ℕ → ℕ) (l : List ℕ) → Sorted (λ x y. R (f x) (f y)) l → Sorted R (map f l)
sorted_map R f [] s = tt
sorted_map R f (x ∷ xs) s = (λ y m. let r = in_map f y xs m in rw r.2 (s.0 r.0 r.1), sorted_map R f xs s.1)

-- Two lists with the same elements, each sorted by how a measure grows, are one list.
pub sorted_unique : (w : ℕ → ℕ) (l m : List ℕ) → Sorted (λ x y. w x < w y) l → Sorted (λ x y. w x < w y) m
    → ((x : ℕ) → In x l → In x m) → ((x : ℕ) → In x m → In x l) → l ≡ m
sorted_unique w [] [] s t f g = refl
sorted_unique w [] (y ∷ ys) s t f g = absurd (g y (inl refl))
sorted_unique w (x ∷ xs) [] s t f g = absurd (f x (inl refl))
sorted_unique w (x ∷ xs) (y ∷ ys) s t f g = rw (same (f x (inl refl)) (g y (inl refl))) (ap (λ l. y ∷ l) (sorted_unique w xs ys s.1 t.1 (λ z h. forth z h (f z (inr h))) (λ z h. back z h (g z (inr h)))))
  where
    same : In x (y ∷ ys) → In y (x ∷ xs) → x ≡ y
    same (inl p) q = p
    same (inr p) (inl q) = sym q
    same (inr p) (inr q) = absurd (omega (arith, s.0 y q, t.0 x p))

    head : x ≡ y
    head = same (f x (inl refl)) (g y (inl refl))

    forth : (z : ℕ) → In z xs → In z (y ∷ ys) → In z ys
    forth z h (inl p) = absurd (omega (arith, s.0 z h, ap w (p ∙ sym head)))
    forth z h (inr m) = m

    back : (z : ℕ) → In z ys → In z (x ∷ xs) → In z xs
    back z h (inl p) = absurd (omega (arith, t.0 z h, ap w (p ∙ head)))
    back z h (inr m) = m

-- the numbers below n
abbrev pub upto : ℕ → List ℕ
upto zero = []
upto (suc n) = zero ∷ map suc (upto n)

pub in_upto : (n x : ℕ) → In x (upto n) → x < n
in_upto zero x h = absurd h
in_upto (suc n) x (inl p) = omega arith
in_upto (suc n) x (inr m) = let r = in_map suc x (upto n) m in omega (arith, in_upto n r.0 r.1, r.2)

pub to_upto : (n x : ℕ) → x < n → In x (upto n)
to_upto zero x h = absurd (not-suc-le-zero h)
to_upto (suc n) zero h = inl refl
to_upto (suc n) (suc x) h = inr (to_map suc x (upto n) (to_upto n x (le_of_suc-le-suc h)))

pub sorted_upto : (n : ℕ) → Sorted (λ x y. x < y) (upto n)
sorted_upto zero = tt
sorted_upto (suc n) = (λ y m. let r = in_map suc y (upto n) m in omega (arith, r.2), sorted_map (λ x y. x < y) suc (upto n) (sorted_by (λ x y. x < y) (λ x y. suc x < suc y) (upto n) (λ x y p q h. suc-le-suc h) (sorted_upto n)))

-- an element by its number
module _ {A B : Type 0} where
  pub at_map : (f : A → B) (l : List A) (i : ℕ) → get_elem? (map f l) i ≡ Option.map f (get_elem? l i)
  at_map f [] i = refl
  at_map f (x ∷ xs) zero = refl
  at_map f (x ∷ xs) (suc i) = at_map f xs i

pub at_upto : (n x : ℕ) → x < n → get_elem? (upto n) x ≡ some x
at_upto zero x h = absurd (not-suc-le-zero h)
at_upto (suc n) zero h = refl
at_upto (suc n) (suc x) h = rw (at_map suc (upto n) x, at_upto n x (le_of_suc-le-suc h))

module _ {A : Type 0} where
  -- an element by its number, or past the end a given one
  pub at_get_or : (l : List A) (i : ℕ) (d : A) → i < length l → get_elem? l i ≡ some (get_or l i d)
  at_get_or [] i d h = absurd (not-suc-le-zero h)
  at_get_or (x ∷ xs) zero d h = refl
  at_get_or (x ∷ xs) (suc i) d h = at_get_or xs i d (le_of_suc-le-suc h)

  pub is_in_range : (l : List A) (i : ℕ) (a : A) → get_elem? l i ≡ some a → i < length l
  is_in_range [] i a e = let z : ◌≡◌ {A = ℕ} 0 1 = cc in absurd (omega arith)
  is_in_range (x ∷ xs) zero a e = suc-le-suc zero-le
  is_in_range (x ∷ xs) (suc i) a e = suc-le-suc (is_in_range xs i a e)

  -- two lists as long as each other with the same elements by number
  pub same_list : (l m : List A) → length l ≡ length m → ((i : ℕ) → i < length l → get_elem? l i ≡ get_elem? m i) → l ≡ m
  same_list [] [] e h = refl
  same_list [] (y ∷ ys) e h = absurd (omega arith)
  same_list (x ∷ xs) [] e h = absurd (omega arith)
  same_list (x ∷ xs) (y ∷ ys) e h = rw (same_list xs ys (omega arith) (λ i k. h (suc i) (suc-le-suc k))) (ap (λ a. a ∷ ys) one)
    where
      top : some x ≡ some y
      top = h zero (suc-le-suc zero-le)

      one : x ≡ y
      one = cc top

  pub length_map' : (f : ℕ → A) (l : List ℕ) → length (map f l) ≡ length l
  length_map' f [] = refl
  length_map' f (x ∷ xs) = ap suc (length_map' f xs)

  pub map_suc : (f : ℕ → A) (l : List ℕ) → map f (map suc l) ≡ map (λ i. f (suc i)) l
  map_suc f [] = refl
  map_suc f (x ∷ xs) = ap (λ t. f (suc x) ∷ t) (map_suc f xs)

  -- a list is its elements by number
  pub by_number : (l : List A) (d : A) → map (λ i. get_or l i d) (upto (length l)) ≡ l
  by_number [] d = refl
  by_number (x ∷ xs) d = ap (λ t. x ∷ t) (map_suc (λ i. get_or (x ∷ xs) i d) (upto (length xs)) ∙ by_number xs d)

pub length_upto : (n : ℕ) → length (upto n) ≡ n
length_upto zero = refl
length_upto (suc n) = ap suc (length_map' suc (upto n) ∙ length_upto n)

-- What a call does, by what its tests find. Assumes nothing.
use mathlib.Core.Path.{◌≡◌, sym, ap, ◌∙◌}
use mathlib.Core.Bool.{true, false}
use Prim.Native.Nat.{ℕ, ◌<◌}
use lib.Dec.{ltb}
use lib.ListN.{set}
use borrow.Author.Tests.{ltb-true}
use Rattle.std.proofs.Common.{Some, None}
use Rattle.pool.specs.Pool.{Books, size_b, sound_b, fits_b, lowest, given_out_b, Call, Says, block, returned, Done, refuses, takes, gives_back_of, does, Did}
use Rattle.pool.proofs.Every.{lowest_at}
use Rattle.pool.proofs.Sound.{both}

pub did : (b : Books) (c : Call) (d : Done) {a : Says} {after : Books} → does b c ≡ d → a ≡ d.says → after ≡ d.books → Did b c a after
did b c d e p q = record { answered = p ∙ ap (λ (x : Done). x.says) (sym e); left = q ∙ ap (λ (x : Done). x.books) (sym e) }

module _ (b : Books) (n : ℕ) where
  pub takes_3 : sound_b b ≡ false → takes b n ≡ refuses b 3
  unfolding takes
  takes_3 s = rw s

  pub takes_18 : sound_b b ≡ true → size_b n ≡ false → takes b n ≡ refuses b 18
  unfolding takes
  takes_18 s z = rw (s, z)

  pub takes_19 : sound_b b ≡ true → size_b n ≡ true → lowest (fits_b b n) 0 64 ≡ None → takes b n ≡ refuses b 19
  unfolding takes
  takes_19 s z e = rw (s, z, e)

  pub takes_at : (i : ℕ) → sound_b b ≡ true → size_b n ≡ true → lowest (fits_b b n) 0 64 ≡ Some i
      → takes b n ≡ record { says = block i; books = set b i n }
  unfolding takes
  takes_at i s z e = rw (s, z, e)

module _ (b : Books) (i n : ℕ) where
  pub gives_3 : sound_b b ≡ false → gives_back_of b i n ≡ refuses b 3
  unfolding gives_back_of
  gives_3 s = rw s

  pub gives_20 : sound_b b ≡ true → given_out_b b i n ≡ false → gives_back_of b i n ≡ refuses b 20
  unfolding gives_back_of
  gives_20 s g = rw (s, g)

  pub gives_back : sound_b b ≡ true → given_out_b b i n ≡ true → gives_back_of b i n ≡ record { says = returned; books = set b i 0 }
  unfolding gives_back_of
  gives_back s g = rw (s, g)

-- what is found, and what was given out, lies in the pool
pub found_below : (b : Books) (n i : ℕ) → lowest (fits_b b n) 0 64 ≡ Some i → i < 64
found_below b n i e = (lowest_at (fits_b b n) 0 64 i e).high

pub given_below : (b : Books) (i n : ℕ) → given_out_b b i n ≡ true → i < 64
unfolding given_out_b
given_below b i n e = ltb-true i 64 (both (ltb i 64) _ e).0

-- The code's tables, each at all of its entries by one computation.
-- Assumes nothing.
use mathlib.Core.Path.{◌≡◌, ◌∙◌, refl, ap, sym}
use mathlib.Core.List.{List, [], ◌++◌, map}
use Prim.Native.Nat.{ℕ, ◌+◌, ◌≤◌, ◌<◌}
use native.Mathlib.Omega.{arith}
use lib.ListN.{length, get_or, drop, get_or-append, get_or-map}
use lib.Seq.{get_or-drop}
use Rattle.link_message.specs.declared.Kind.{Kind}
use Rattle.link_message.specs.declared.Kind.TheVariants.{ConfirmLink, AddLink, AddLinkContinuation, DeleteLink, ConfirmRkey, TestLink, ConfirmRkeyContinuation, DeleteRkey}
use Rattle.link_message.specs.declared.Place.{Place}
use Rattle.link_message.specs.declared.Row.{Row}
use Rattle.link_message.specs.Layouts.{place, table_of, start_row, count_of, no_place, most_rows}

-- the counts of rows
pub count_is : (k : Kind) → length (table_of k) ≡ count_of k
unfolding table_of
count_is ConfirmLink = refl
count_is AddLink = refl
count_is AddLinkContinuation = refl
count_is DeleteLink = refl
count_is ConfirmRkey = refl
count_is TestLink = refl
count_is ConfirmRkeyContinuation = refl
count_is DeleteRkey = refl

pub count_most : (k : Kind) → count_of k ≤ most_rows
count_most ConfirmLink = omega arith
count_most AddLink = omega arith
count_most AddLinkContinuation = omega arith
count_most DeleteLink = omega arith
count_most ConfirmRkey = omega arith
count_most TestLink = omega arith
count_most ConfirmRkeyContinuation = omega arith
count_most DeleteRkey = omega arith

pub row_below : (k : Kind) (i : ℕ) → i < count_of k → start_row k + i < 71
row_below ConfirmLink i h = omega arith
row_below AddLink i h = omega arith
row_below AddLinkContinuation i h = omega arith
row_below DeleteLink i h = omega arith
row_below ConfirmRkey i h = omega arith
row_below TestLink i h = omega arith
row_below ConfirmRkeyContinuation i h = omega arith
row_below DeleteRkey i h = omega arith

-- the rows, kind after kind
unfoldable pub all_rows : List Place
all_rows =
    table_of ConfirmLink ++ table_of AddLink ++ table_of AddLinkContinuation ++ table_of DeleteLink ++ table_of ConfirmRkey ++ table_of TestLink
    ++ table_of ConfirmRkeyContinuation ++ table_of DeleteRkey

-- what follows a kind's rows
later : Kind → List Place
later ConfirmLink =
    table_of AddLink ++ table_of AddLinkContinuation ++ table_of DeleteLink ++ table_of ConfirmRkey ++ table_of TestLink
    ++ table_of ConfirmRkeyContinuation ++ table_of DeleteRkey
later AddLink =
    table_of AddLinkContinuation ++ table_of DeleteLink ++ table_of ConfirmRkey ++ table_of TestLink ++ table_of ConfirmRkeyContinuation
    ++ table_of DeleteRkey
later AddLinkContinuation =
    table_of DeleteLink ++ table_of ConfirmRkey ++ table_of TestLink ++ table_of ConfirmRkeyContinuation ++ table_of DeleteRkey
later DeleteLink = table_of ConfirmRkey ++ table_of TestLink ++ table_of ConfirmRkeyContinuation ++ table_of DeleteRkey
later ConfirmRkey = table_of TestLink ++ table_of ConfirmRkeyContinuation ++ table_of DeleteRkey
later TestLink = table_of ConfirmRkeyContinuation ++ table_of DeleteRkey
later ConfirmRkeyContinuation = table_of DeleteRkey
later DeleteRkey = []

starts : (k : Kind) → drop (start_row k) all_rows ≡ table_of k ++ later k
unfolding all_rows table_of later
starts ConfirmLink = refl
starts AddLink = refl
starts AddLinkContinuation = refl
starts DeleteLink = refl
starts ConfirmRkey = refl
starts TestLink = refl
starts ConfirmRkeyContinuation = refl
starts DeleteRkey = refl

pub rows_right : (t : List Place) (k : Kind) (at i : ℕ) → t ≡ all_rows → at ≡ start_row k + i → i < count_of k
    → get_or t at no_place ≡ get_or (table_of k) i no_place
rows_right t k at i e s h =
    (λ j. get_or (e j) (s j) no_place)
    ∙ sym (get_or-drop (start_row k) all_rows i no_place)
    ∙ ap (λ (l : List Place). get_or l i no_place) (starts k)
    ∙ get_or-append (table_of k) (later k) no_place i (omega (arith, count_is k))

-- the rows of bytes
abbrev pub row_of : Place → Row
row_of p = record { 0 = p.0; 1 = p.1; 2 = p.2; 3 = p.3 }

abbrev place_in : Row → Place
place_in r = place r.0 r.1 r.2 r.3

pub place_right : (k : Kind) (at i a b c d : ℕ) → a ≡ (get_or (map row_of all_rows) at (row_of no_place)).0
    → b ≡ (get_or (map row_of all_rows) at (row_of no_place)).1 → c ≡ (get_or (map row_of all_rows) at (row_of no_place)).2
    → d ≡ (get_or (map row_of all_rows) at (row_of no_place)).3 → at ≡ start_row k + i → i < count_of k → place a b c d ≡ get_or (table_of k) i no_place
place_right k at i a b c d p q r s f h =
    (λ j. place (p j) (q j) (r j) (s j)) ∙ ap place_in (get_or-map row_of all_rows at no_place) ∙ rows_right all_rows k at i refl f h

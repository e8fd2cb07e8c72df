-- Laws of one piece, as the code cuts it. Assumes nothing.
use mathlib.Core.Path.{◌≡◌, refl, sym, ap, ◌∙◌}
use mathlib.Core.List.{List, []}
use Prim.Native.Nat.{ℕ, ◌+◌, ◌-◌, ◌≤◌, ◌<◌, min}
use native.Mathlib.Omega.{arith}
use native.Mathlib.Nat.{add-sub_cancel_left}
use native.Mathlib.Decide.{dec_le}
use borrow.Author.Tests.{lt-ltb, le-ltb}
use lib.ListN.{length, take, drop, length-take, length-drop, drop_of_length-le}
use lib.Seq.{take_all}
use Rattle.cursor.specs.declared.Cursor.{Cursor}
use Rattle.conn_gather.specs.Pieces.{allowed_of, bytes_of, place_of, further}

-- no more than a list has can be taken or dropped of it
pub take_least : (m : ℕ) (xs : List ℕ) → take (min m (length xs)) xs ≡ take m xs
take_least m xs =
    elim (dec_le m (length xs)) [
      | yes h ↦ let e : min m (length xs) ≡ m = omega arith in rw e
      | no h ↦ take_all (min m (length xs)) xs (omega arith) ∙ sym (take_all m xs (omega arith))
    ]

drop_least : (m : ℕ) (xs : List ℕ) → drop (min m (length xs)) xs ≡ drop m xs
drop_least m xs =
    elim (dec_le m (length xs)) [
      | yes h ↦ let e : min m (length xs) ≡ m = omega arith in rw e
      | no h ↦ drop_of_length-le xs {i = min m (length xs)} (omega arith) ∙ sym (drop_of_length-le xs {i = m} (omega arith))
    ]

part_is : (xs : List ℕ) (s m l : ℕ) → l ≡ min m (length xs - s) → take (s + l - s) (drop s xs) ≡ take m (drop s xs)
part_is xs s m l e =
    ap (λ (x : ℕ). take x (drop s xs)) (add-sub_cancel_left s l ∙ e ∙ ap (min m) (sym (length-drop s xs))) ∙ take_least m (drop s xs)

pub part_long : (xs : List ℕ) (s l m n : ℕ) → l ≤ m → m ≤ n → length (take (s + l - s) xs) ≤ n
part_long xs s l m n h i = omega (arith, length-take (s + l - s) xs)

-- what the code has: `most` by n and the room, l by the buffer
module _ (h b : List ℕ) (N' : ℕ) (q : Cursor) (n k most l : ℕ) (em : most ≡ allowed_of N' q n k) where
  pub of_head : k < length h → l ≡ min most (length h - k) → take (k + l - k) (drop k h) ≡ bytes_of h b N' q n k
  unfolding bytes_of
  of_head i e = part_is h k most l e ∙ rw (em, lt-ltb k (length h) i)

  pub of_body : (s : ℕ) → length h ≤ k → s ≡ min (k - length h) (length b) → l ≡ min most (length b - s)
      → take (s + l - s) (drop s b) ≡ bytes_of h b N' q n k
  unfolding bytes_of
  of_body s i es e =
      part_is b s most l e
      ∙ ap (λ (x : ℕ). take most (drop x b)) es
      ∙ ap (take most) (drop_least (k - length h) b)
      ∙ rw (em, le-ltb k (length h) i)

-- and where it lies
pub in_head : (h b : ℕ) (x y : ℕ × ℕ) (k : ℕ) → k < h → further k x ≡ place_of h b x y k
in_head h b x y k i = rw (lt-ltb k h i)

pub in_body : (h b : ℕ) (x y : ℕ × ℕ) (k s : ℕ) → h ≤ k → s ≡ min (k - h) b → further s y ≡ place_of h b x y k
in_body h b x y k s i e = rw (le-ltb k h i, e)

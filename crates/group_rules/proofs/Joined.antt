-- A gather is a send of the joined bytes, but that it names pieces: it leaves the same group. Assumes nothing.
use mathlib.Core.Path.{◌≡◌, refl}
use mathlib.Core.Bool.{Bool, true, false, cond}
use mathlib.Core.List.{List, [], ◌++◌}
use Prim.Native.Nat.{ℕ}
use Rattle.conn_gather.specs.Pieces.{pieces_of}
use Rattle.group_table.specs.Table.{open_b}
use Rattle.group_rules.specs.Rules.{Group, send, gather, on, answer_in_pieces, Turn, turn_of, request_turn, Done, answer, next, refuses, put_turn, on_does, sizes_ok, record_of_all, element_in, link_of}

module _ (g : Group) (k : ℕ) (h b : List ℕ) where
  abbrev tested : Bool → Bool → Turn → Done
  tested t u w = cond t (cond u (put_turn g k w) (refuses g 2 [])) (refuses g 1 [])

  abbrev plain : Turn
  plain = request_turn g.N (link_of g k) (record_of_all g k) (element_in g k) (send (h ++ b))

  abbrev pieced : Turn
  pieced = request_turn g.N (link_of g k) (record_of_all g k) (element_in g k) (gather h b)

  pub joined_left : next g (on k (gather h b)) ≡ next g (on k (send (h ++ b)))
  unfolding on_does request_turn put_turn turn_of refuses
  joined_left = go (sizes_ok g) (open_b g.S g.table k)
    where
      go : (t u : Bool) → (tested t u pieced).group ≡ (tested t u plain).group
      go true true = refl
      go true false = refl
      go false u = refl

  pub joined_says : answer g (on k (gather h b)) ≡ answer_in_pieces (pieces_of (record_of_all g k) h b) (answer g (on k (send (h ++ b))))
  unfolding on_does request_turn put_turn turn_of refuses
  joined_says = go (sizes_ok g) (open_b g.S g.table k)
    where
      go : (t u : Bool) → (tested t u pieced).answer ≡ answer_in_pieces (pieces_of (record_of_all g k) h b) (tested t u plain).answer
      go true true = refl
      go true false = refl
      go false u = refl

-- `text_gather::piece` meets its contract: a piece is no longer than what is left of n. Assumes nothing.
use Rattle.std.proofs.Common.{◌≡◌, ◌-◌, ◌≤◌, ℕ, List, length, arith, length-take}
use Rattle.cursor.specs.declared.Cursor.{Cursor}
use Rattle.conn_gather.specs.Pieces.{rest_of, allowed_of, bytes_of}
use Rattle.text_gather.proofs.piece.Goals as goal

short : (h b : List ℕ) (size : ℕ) (q : Cursor) (n k : ℕ) (p : List ℕ) → p ≡ bytes_of h b size q n k → length p ≤ n - k
unfolding bytes_of
short h b size q n k p e = rw e (omega (arith, length-take (allowed_of size q n k) (rest_of h b k)))

pub returns : goal.returns
returns c = short _ _ _ _ _ _ _ c.piece-part.ensures.part.0

-- A piece of a gather, cut from the placings of the send of the joined bytes where the head ends. Assumes nothing.
use Rattle.std.specs.Prelude.{ℕ, zero, suc, ◌+◌, ◌-◌, ◌%◌, ◌^◌, min, cond, List, [], ◌∷◌, length, take, drop, ◌==◌, nat_lt}
use Rattle.conn_answer.specs.declared.Placing.{Placing}
use Rattle.conn_gather.specs.Pieces.{Piece, unless_empty}
use Rattle.plan_gather.specs.declared.GatherAnswer.{GatherAnswer}
use Rattle.plan_gather.specs.declared.Joined.{Joined}
use Rattle.plan_gather.specs.declared.GatherPiece.{GatherPiece}

-- the placing that has byte k; after all bytes taken, the empty one where Q is
abbrev pub placing_with : Joined → ℕ → Placing
placing_with r k = cond (nat_lt k r.sent.first.len) r.sent.first (cond (nat_lt k r.sent.taken) r.sent.second r.last)

-- of `left` bytes from byte k on, those in byte k's own buffer: the head as long as it lasts, then the body
abbrev pub bound_of : ℕ → ℕ → ℕ → ℕ
bound_of head k left = cond (nat_lt k head) (min left (head - k)) left

-- the placing's part from byte k on, up to the end of that buffer: 0 is the head, 1 the body (exact: the placing has byte k, or is empty
-- at k, and its addresses have 64 bits)
unfoldable pub cut_at : ℕ → ℕ → Placing → GatherPiece
cut_at head k p =
    let ahead = k - p.start in
    record {
      buffer = cond (nat_lt k head) 0 1;
      start = cond (nat_lt k head) k (k - head);
      len = bound_of head k (p.len - ahead);
      key = p.key;
      address = (p.address + ahead) % 2 ^ 64;
    }

-- THE NEXT PIECE, where the head has `head` bytes and the pieces before held k
unfoldable pub piece_in : Joined → ℕ → ℕ → GatherPiece
piece_in r head k = let at = min k r.sent.taken in cut_at head at (placing_with r at)

-- none, all zeros, where nothing is left
abbrev pub no_piece : GatherPiece
no_piece = record { buffer = 0; start = 0; len = 0; key = 0; address = 0 }

unfoldable pub piece_or_none : Joined → ℕ → ℕ → GatherPiece
piece_or_none a head k = cond (nat_lt k a.sent.taken) (piece_in a head k) no_piece

-- THE ANSWER: three pieces, one after the other (exact: two are no more bytes than were taken). There are no more: `few`, in
-- pieces/specs/Statement.antt
unfoldable pub in_pieces : Joined → ℕ → GatherAnswer
in_pieces a head =
    let n = a.sent.taken in
    let first = piece_or_none a head 0 in
    let second = piece_or_none a head first.len in
    record {
      refusal = a.sent.refusal;
      made = a.sent.made;
      taken = n;
      first = first;
      second = second;
      third = piece_or_none a head (n - (n - first.len - second.len));
      last = a.last;
    }

-- as the rules name it: with its bytes
abbrev pub bytes_in : List ℕ → List ℕ → GatherPiece → List ℕ
bytes_in head body p = take p.len (drop p.start (cond (p.buffer == 0) head body))

abbrev pub shown_at : Joined → List ℕ → List ℕ → ℕ → Piece
shown_at r head body k =
    let p = piece_in r (length head) k in
    record { key = p.key; address = p.address; bytes = bytes_in head body p }

-- one after the other, the first `most` of them, up to an empty one
unfoldable pub handed_out_of : ℕ → Joined → List ℕ → List ℕ → ℕ → List Piece
handed_out_of zero r head body k = []
handed_out_of (suc most) r head body k =
    let p = shown_at r head body k in
    p ∷ unless_empty p.bytes (handed_out_of most r head body (k + length p.bytes))

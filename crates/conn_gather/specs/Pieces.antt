-- Document 02, 2026-08: the pieces of a head and a body that are sent as if joined, head first.
-- Assumes nothing.
use Rattle.std.specs.Prelude.{ℕ, zero, suc, ◌+◌, ◌-◌, min, cond, List, [], ◌∷◌, ltb, length, take, drop}
use Rattle.cursor.specs.declared.Cursor.{Cursor}
use Rattle.cursor.specs.Cursor.{step_of}
use Rattle.flow.specs.declared.Stretch.{Stretch}
use Rattle.conn_record.specs.declared.Record.{Record}
use Rattle.conn_send.specs.Transmit.{placing_of}

-- A piece for the card to write: the peer's memory key, an address, and its bytes
pub record Piece : Type 0 where
  pub key : ℕ
  pub address : ℕ
  pub bytes : List ℕ

-- The pieces before have the first k bytes. Its buffer from there on: the head's rest, or, after the head, the body's (exact: the head
-- has no more than k bytes there)
abbrev pub rest_of : List ℕ → List ℕ → ℕ → List ℕ
rest_of head body k = cond (ltb k (length head)) (drop k head) (drop (k - length head) body)

-- its offset in the peer's element: where Q is after k bytes
abbrev pub offset_of : ℕ → Cursor → ℕ → ℕ
offset_of N' q k = (step_of N' q k).offset

-- as long as n and the room before the element's end allow (exact in a send: k is at most n, and Q is in range)
abbrev pub allowed_of : ℕ → Cursor → ℕ → ℕ → ℕ
allowed_of N' q n k = min (n - k) (N' - offset_of N' q k)

-- and its buffer
unfoldable pub bytes_of : List ℕ → List ℕ → ℕ → Cursor → ℕ → ℕ → List ℕ
bytes_of head body N' q n k = take (allowed_of N' q n k) (rest_of head body k)

-- `len` bytes there
abbrev pub stretch_of : Record → ℕ → ℕ → Stretch
stretch_of rec k len = record { offset = offset_of rec.remote.size rec.outbound.producer k; start = k; len = len }

-- the next piece, of n bytes taken by the record that has Q before the send
unfoldable pub piece_of : Record → List ℕ → List ℕ → ℕ → ℕ → Piece
piece_of rec head body n k =
    let b = bytes_of head body rec.remote.size rec.outbound.producer n k in
    let p = placing_of rec (stretch_of rec k (length b)) in
    record { key = p.key; address = p.address; bytes = b }

-- after an empty one comes none
abbrev pub unless_empty : List ℕ → List Piece → List Piece
unless_empty [] rest = []
unless_empty (x ∷ b) rest = rest

-- one after the other, the first `most` of them
unfoldable pub pieces_from : ℕ → Record → List ℕ → List ℕ → ℕ → ℕ → List Piece
pieces_from zero rec head body n k = []
pieces_from (suc most) rec head body n k =
    let p = piece_of rec head body n k in
    p ∷ unless_empty p.bytes (pieces_from most rec head body n (k + length p.bytes))

-- all of them: n bytes make no more than n, and the empty one
abbrev pub pieces_of : Record → List ℕ → List ℕ → ℕ → List Piece
pieces_of rec head body n = pieces_from (n + 1) rec head body n 0

-- WHAT THE CODE ANSWERS. Where a piece lies in memory, its buffers being at h and b: in the head from its byte k on, or in the body (at its
-- end, where k is beyond). A place is a block of memory and an offset in it
abbrev pub further : ℕ → ℕ × ℕ → ℕ × ℕ
further k p = (p.0, k + p.1)

abbrev pub place_of : ℕ → ℕ → ℕ × ℕ → ℕ × ℕ → ℕ → ℕ × ℕ
place_of head body h b k = cond (ltb k head) (further k h) (further (min (k - head) body) b)

-- Document 02, 2026-08: what holds of the pieces of every send of a head and a body. Proved in proofs/Theorem.antt.
-- Assumes nothing.
use Rattle.std.specs.Prelude.{ℕ, ◌+◌, ◌≤◌, ◌≡◌, true, List, [], ◌∷◌, ◌++◌, length, take, drop}
use Rattle.cursor.specs.Cursor.{data_of, in_range, step_of}
use Rattle.conn_answer.specs.declared.Placing.{Placing}
use Rattle.conn_answer.specs.declared.Placings.{Placings}
use Rattle.conn_answer.specs.declared.Placings.TheVariants.{Nowhere, One, Two}
use Rattle.conn_record.specs.declared.Record.{Record}
use Rattle.flow.specs.Flow.{stretches_of}
use Rattle.conn_record.specs.Connection.{remote_ok}
use Rattle.conn_send.specs.Transmit.{rtoken_of, element_start, placing_of, placing_at, placings_of}
use Rattle.conn_gather.specs.Pieces.{Piece, stretch_of, pieces_of}

-- n of the joined bytes are taken by a record with Q in range, and are no more than the peer's element has data bytes: so it is in every
-- send that is accepted
pub record Takes (rec : Record) (head body : List ℕ) (n : ℕ) : Type 0 where
  pub is_in_range : in_range rec.remote.size rec.outbound.producer ≡ true
  pub fits : n ≤ data_of rec.remote.size
  pub offered : n ≤ length (head ++ body)

-- the bytes of pieces, joined
abbrev pub joined : List Piece → List ℕ
joined [] = []
joined (p ∷ ps) = p.bytes ++ joined ps

-- What the card writes, byte for byte: each byte of a piece at the address after the one before
pub record Write : Type 0 where
  pub key : ℕ
  pub address : ℕ
  pub byte : ℕ

unfoldable pub writes_at : ℕ → ℕ → List ℕ → List Write
writes_at key at [] = []
writes_at key at (x ∷ b) = record { key = key; address = at; byte = x } ∷ writes_at key (at + 1) b

abbrev pub writes_of : List Piece → List Write
writes_of [] = []
writes_of (p ∷ ps) = writes_at p.key p.address p.bytes ++ writes_of ps

-- and what it writes for a send's placings of the bytes b
abbrev pub placing_writes : List ℕ → Placing → List Write
placing_writes b p = writes_at p.key p.address (take p.len (drop p.start b))

abbrev pub send_writes : List ℕ → Placings → List Write
send_writes b Nowhere = []
send_writes b (One p) = placing_writes b p
send_writes b (Two p q) = placing_writes b p ++ placing_writes b q

abbrev pub NoneEmpty : List Piece → Type 0
NoneEmpty [] = Unit
NoneEmpty (p ∷ ps) = (1 ≤ length p.bytes) × NoneEmpty ps

-- At most three pieces, none of them empty; after the last an empty one, at the new Q. Joined, they are the first n bytes of head and body
-- joined. Their addresses run on from Q and wrap as a send's placings do: the card writes the same bytes to the same places, in the
-- same order, as for the placings of a plain send of the joined bytes
pub record Gathers (rec : Record) (head body : List ℕ) (n : ℕ) : Type 0 where
  pub pieces : List Piece
  pub last : Piece
  pub handed : pieces_of rec head body n ≡ pieces ++ (last ∷ [])
  pub few : length pieces ≤ 3
  pub none_empty : NoneEmpty pieces
  pub empty : last.bytes ≡ []
  pub own_key : last.key ≡ (rtoken_of rec).key
  pub at_new_q : last.address ≡ element_start rec + (step_of rec.remote.size rec.outbound.producer n).offset
  pub whole : joined pieces ≡ take n (head ++ body)
  pub same-places :
      writes_of pieces ≡ send_writes (head ++ body) (placings_of rec (stretches_of rec.remote.size rec.outbound.producer n))

abbrev pub GatherPieces : Type 0
GatherPieces = (rec : Record) (head body : List ℕ) (n : ℕ) → Takes rec head body n → Gathers rec head body n

-- What the code hands out is that piece's place: exact for a record whose peer and Q are in range, as every coherent one's are
abbrev pub PlacesExactly : Type 0
PlacesExactly =
    (rec : Record) (k len : ℕ) → remote_ok rec.remote ≡ true → in_range rec.remote.size rec.outbound.producer ≡ true
    → placing_at rec (stretch_of rec k len) ≡ placing_of rec (stretch_of rec k len)

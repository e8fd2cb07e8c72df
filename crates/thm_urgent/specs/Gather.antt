-- Document 02, 2026-08: what a send of a head and a body does, on any group. Proved in proofs/Gather.antt.
-- Assumes nothing.
use Rattle.std.specs.Prelude.{◌≡◌, false, List, [], ◌∷◌, ◌++◌, ℕ, ◌+◌}
use Rattle.flow.specs.Flow.{stretches_of}
use Rattle.cursor.specs.Cursor.{step_of}
use Rattle.conn_record.specs.declared.Record.{Record}
use Rattle.conn_send.specs.Transmit.{rtoken_of, element_start, placings_of}
use Rattle.conn_gather.specs.Pieces.{Piece, pieces_of}
use Rattle.conn_gather.specs.Statement.{Gathers}
use Rattle.group_rules.specs.Rules.{Group, Call, on, send, gather, refusal, sent, gathered, placing_list, answer_in_pieces, answer, next, record_of_all}
use Rattle.thm_urgent.specs.Urgent.{Waits}

-- Refusals, n, record and message equal those of a plain send of the joined bytes: the group that it leaves is that send's, and so is the
-- answer, with pieces in the place of placings
pub record AsSend (g : Group) (k : ℕ) (head body : List ℕ) : Type 0 where
  pub left : next g (on k (gather head body)) ≡ next g (on k (send (head ++ body)))
  pub answered :
      answer g (on k (gather head body)) ≡ answer_in_pieces (pieces_of (record_of_all g k) head body) (answer g (on k (send (head ++ body))))

abbrev pub GatherIsSend : Type 0
GatherIsSend = (g : Group) (k : ℕ) (head body : List ℕ) → AsSend g k head body

-- Where it takes n bytes, what `Gathers` says holds of its pieces: at most three, none empty; then the empty one, at the new Q; joined, the
-- first n bytes; at the places where the plain send would put them
pub record InPieces (g : Group) (k : ℕ) (head body : List ℕ) (n : ℕ) (ps : List Piece) : Type 0 where
  pub named : ps ≡ pieces_of (record_of_all g k) head body n
  pub pieces : Gathers (record_of_all g k) head body n
  pub new-q :
      step_of (record_of_all g k).remote.size (record_of_all g k).outbound.producer n
      ≡ (record_of_all (next g (on k (gather head body))) k).outbound.producer
  pub plain :
      (answer g (on k (send (head ++ body)))).says
      ≡ sent n
      (placing_list (placings_of (record_of_all g k) (stretches_of (record_of_all g k).remote.size (record_of_all g k).outbound.producer n)))

abbrev pub GatheredInPieces : Type 0
GatheredInPieces =
    (g : Group) (k : ℕ) (head body : List ℕ) (n : ℕ) (ps : List Piece) → (answer g (on k (gather head body))).says ≡ gathered n ps
    → InPieces g k head body n ps

-- While an urgent place of our own stands (2026-04), one that is not refused takes 0 bytes, names no piece but the empty one, at Q, makes
-- no message, and changes nothing
abbrev pub empty_at_q : Record → Piece
empty_at_q rec = record { key = (rtoken_of rec).key; address = element_start rec + rec.outbound.producer.offset; bytes = [] }

pub record Waiting (g : Group) (k : ℕ) (c : Call) : Type 0 where
  pub takes_none : (answer g c).says ≡ gathered 0 (empty_at_q (record_of_all g k) ∷ [])
  pub tells_none : (answer g c).made ≡ false
  pub changes_none : next g c ≡ g

abbrev pub GatherWaits : Type 0
GatherWaits =
    (g : Group) (k : ℕ) (head body : List ℕ) → Waits g k → ((n : ℕ) → (answer g (on k (gather head body))).says ≡ refusal n → ⊥)
    → Waiting g k (on k (gather head body))

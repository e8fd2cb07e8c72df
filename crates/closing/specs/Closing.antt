-- Document 01, "State names": the state, from the marks.
-- Assumes nothing.
use Rattle.std.specs.Prelude.{ℕ, ◌+◌, Bool, true, false, ◌&&◌, ◌||◌, not, cond, eqb}
use Rattle.closing.specs.declared.Side.{Side}
use Rattle.closing.specs.declared.Marks.{Marks}
use Rattle.closing.specs.declared.State.{State}
use Rattle.closing.specs.declared.State.TheVariants.{Active, PeerCloseWait1, PeerCloseWait2, AppCloseWait1, AppCloseWait2, PeerAbortWait, Closed}

-- a C counts as its side's mark with or without D
abbrev pub marked : Side → Bool
marked s = s.done || s.closed

-- both sides marked: both C, Closed; C sent only, PeerCloseWait2; C heard only, AppCloseWait2; D each, PeerCloseWait2 if ours came
-- first, else AppCloseWait2
abbrev pub both_marked : Marks → State
both_marked m =
    cond (m.sent.closed && m.heard.closed) Closed
    (cond m.sent.closed PeerCloseWait2
    (cond m.heard.closed AppCloseWait2
    (cond m.first PeerCloseWait2 AppCloseWait2)))

-- no mark, Active; only ours, PeerCloseWait1; only heard, AppCloseWait1
unfoldable pub close_state_of : Marks → State
close_state_of m =
    cond (marked m.sent)
    (cond (marked m.heard) (both_marked m) PeerCloseWait1)
    (cond (marked m.heard) AppCloseWait1 Active)

-- abort sent, PeerAbortWait
unfoldable pub state_of : Marks → State
state_of m = cond m.abort PeerAbortWait (close_state_of m)

-- the states' numbers in the table
abbrev pub number_of : State → ℕ
number_of Active = 0
number_of PeerCloseWait1 = 1
number_of PeerCloseWait2 = 2
number_of AppCloseWait1 = 3
number_of AppCloseWait2 = 4
number_of PeerAbortWait = 5
number_of Closed = 6

-- the state of a number
unfoldable pub state_at : ℕ → State
state_at k =
    cond (eqb k 0) Active
    (cond (eqb k 1) PeerCloseWait1
    (cond (eqb k 2) PeerCloseWait2
    (cond (eqb k 3) AppCloseWait1
    (cond (eqb k 4) AppCloseWait2
    (cond (eqb k 5) PeerAbortWait Closed)))))

-- the five marks packed: D sent 16, C sent 8, D heard 4, C heard 2, ours first 1
unfoldable pub packed_of : Marks → ℕ
packed_of m =
    cond m.sent.done 16 0 + cond m.sent.closed 8 0 + cond m.heard.done 4 0 + cond m.heard.closed 2 0 + cond m.first 1 0

-- sending D or C: the mark "ours first" is set with our first D or C if none was heard
abbrev pub first_of : Marks → Bool
first_of m = m.first || not (marked m.sent || marked m.heard)

unfoldable pub done_sent : Marks → Marks
done_sent m = record { sent = record { done = true; closed = m.sent.closed }; heard = m.heard; first = first_of m; abort = m.abort }

unfoldable pub closed_sent : Marks → Marks
closed_sent m = record { sent = record { done = m.sent.done; closed = true }; heard = m.heard; first = first_of m; abort = m.abort }

unfoldable pub abort_sent : Marks → Marks
abort_sent m = record { sent = m.sent; heard = m.heard; first = m.first; abort = true }

-- a D or C mark once heard stays
unfoldable pub marks_heard : Marks → Bool → Bool → Marks
marks_heard m d c =
    record { sent = m.sent; heard = record { done = m.heard.done || d; closed = m.heard.closed || c }; first = m.first; abort = m.abort }

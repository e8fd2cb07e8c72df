-- Request 2026-01, part 2: each of the twelve lines of stages, with what is due, and what is not by one field: its kind, its reply bit, its
-- sender, the link that it comes over, what it carries. Assumes nothing.
use Rattle.std.specs.Prelude.{ℕ, List, [], ◌∷◌, ◌++◌, map}
use Rattle.link_exchange.specs.declared.Role.{Role}
use Rattle.link_exchange.specs.declared.Role.TheVariants.{Client, Server}
use Rattle.link_exchange.specs.declared.Exchange.{Exchange}
use Rattle.group_rules.specs.Rules.{Group}
use Rattle.rows_links.specs.Rows.{Msg, ask, re, m01, m02, m03, m04, m06, m08, m09, at, idle, laid, to, without2}
use Rattle.rows_links.specs.Rows.{without3, with3, dropped, taken, queued, taken_with, sent, refused, also, Row, hears, sends, Right}

-- over a link, a message
pub record Off : Type 0 where
  pub over : ℕ
  pub message : Msg

abbrev off : ℕ → Msg → Off
off l m = record { over = l; message = m }

abbrev not_heard : Role → Exchange → Off → Row
not_heard r x o = hears (laid r x) o.over o.message dropped

abbrev not_sent : Role → Exchange → Off → Row
not_sent r x o = sends (laid r x) o.over o.message (refused 15)

-- A line of an add: what is due from one role goes on the same heard by the other and sent by it; the other way round, and each of those
-- that are off, it is dropped when heard, and not sent
abbrev add_line : Role → Role → Exchange → ℕ → Msg → (Group → Group) → List Off → List Row
add_line by from x l m on offs =
    hears (laid by x) l m (also on taken)
    ∷ sends (laid from x) l m (also on sent)
    ∷ hears (laid from x) l m dropped
    ∷ sends (laid by x) l m (refused 15)
    ∷ (map (not_heard by x) offs ++ map (not_sent from x) offs)

abbrev from_client : Exchange → ℕ → Msg → (Group → Group) → List Off → List Row
from_client = add_line Server Client

abbrev from_server : Exchange → ℕ → Msg → (Group → Group) → List Off → List Row
from_server = add_line Client Server

-- A line of what is due from the peer, at either role: heard, it goes on; it is not sent; those that are off are dropped
abbrev peer_line : Role → Exchange → Msg → (Group → Group) → List Off → List Row
peer_line r x m on offs = hears (laid r x) 1 m (also on taken) ∷ sends (laid r x) 1 m (refused 15) ∷ map (not_heard r x) offs

abbrev from_peer : Exchange → Msg → (Group → Group) → List Off → List Row
from_peer x m on offs = peer_line Server x m on offs ++ peer_line Client x m on offs

-- and of what is due from us
abbrev our_line : Role → Exchange → Msg → (Group → Group) → List Off → List Row
our_line r x m on offs = sends (laid r x) 1 m (also on sent) ∷ map (not_sent r x) offs

abbrev from_us : Exchange → Msg → (Group → Group) → List Off → List Row
from_us x m on offs = our_line Server x m on offs ++ our_line Client x m on offs

-- not due, but taken by the table of fates: the stage stays
abbrev answered : Exchange → Msg → Msg → List Row
answered x m b = hears (laid Server x) 1 m (taken_with b) ∷ hears (laid Client x) 1 m (taken_with b) ∷ []

-- heard over link 1 at other stages than its own
abbrev at13 : Role → Msg → ℕ → Row
at13 r m s = hears (laid r (at s 1 3)) 1 m dropped

abbrev elsewhere : Role → Msg → List ℕ → List Row
elsewhere r m stages = map (at13 r m) stages

-- and the links are others
abbrev ended : (Group → Group) → Group → Group
ended links g = links (to idle g)

unfoldable pub rows : List (List Row)
rows =
    -- 1: 02 reply with Z, or = w, from client over v
    from_client (at 1 1 3) 1 (m02 re 0 0 3 5) (to (at 2 1 3))
    (off 1 (m03 re 3) ∷ off 1 (m02 ask 0 0 3 5) ∷ off 2 (m02 re 0 0 3 5) ∷ off 1 (m02 re 0 0 4 5) ∷ [])
    ∷ from_client (at 1 1 3) 1 (m02 re 1 2 4 0) (to idle) (off 2 (m02 re 1 2 4 0) ∷ off 2 (m02 re 1 2 3 0) ∷ [])
    -- 2: 03 request = w from server over v
    ∷ from_server (at 2 1 3) 1 (m03 ask 3) (to (at 3 1 3))
    (off 1 (m01 ask 3) ∷ off 1 (m03 re 3) ∷ off 2 (m03 ask 3) ∷ off 1 (m03 ask 4) ∷ [])
    -- 2: 01 request = w from server over w, which is down or active
    ∷ from_server (at 2 1 3) 3 (m01 ask 3) (to (at 4 1 3)) (off 3 (m01 re 3) ∷ off 1 (m01 ask 3) ∷ off 3 (m01 ask 4) ∷ [])
    ∷ from_server (at 2 1 2) 2 (m01 ask 2) (to (at 4 1 2))
    (off 2 (m03 ask 2) ∷ off 2 (m01 re 2) ∷ off 1 (m01 ask 2) ∷ off 2 (m01 ask 1) ∷ [])
    -- 3: 03 reply = w from client over v
    ∷ from_client (at 3 1 3) 1 (m03 re 3) (to (at 2 1 3))
    (off 1 (m02 re 0 0 3 5) ∷ off 1 (m03 ask 3) ∷ off 2 (m03 re 3) ∷ off 1 (m03 re 4) ∷ [])
    -- 4: 01 reply = w from client over w: w becomes active
    ∷ from_client (at 4 1 3) 3 (m01 re 3) (ended with3) (off 3 (m01 ask 3) ∷ off 1 (m01 re 3) ∷ off 3 (m01 re 4) ∷ [])
    ∷ from_client (at 4 1 2) 2 (m01 re 2) (to idle)
    (off 2 (m03 re 2) ∷ off 2 (m02 re 0 0 2 5) ∷ off 2 (m01 ask 2) ∷ off 1 (m01 re 2) ∷ [])
    -- 5: 04 reply without A = w from peer over v: w goes down
    ∷ from_peer (at 5 1 2) (m04 re 0 2 0) (ended without2)
    (off 1 (m03 re 2) ∷ off 2 (m04 re 0 2 0) ∷ off 1 (m04 re 1 2 0) ∷ off 1 (m04 re 0 1 0) ∷ [])
    ∷ from_peer (at 5 1 3) (m04 re 0 3 0x00100000) (ended without3) (off 1 (m02 re 0 0 3 5) ∷ [])
    ∷ (hears (laid Server (at 5 1 2)) 1 (m04 ask 0 2 0) queued ∷ hears (laid Client (at 5 1 2)) 1 (m04 ask 0 2 0) dropped ∷ [])
    -- 6: 06 reply from peer over v
    ∷ from_peer (at 6 1 0) (m06 re 0 0 4) (to idle) (off 1 (m08 re 0 4) ∷ off 1 (m09 re 0 0) ∷ off 2 (m06 re 0 0 4) ∷ [])
    ∷ from_peer (at 6 1 0) (m06 re 1 1 4) (to idle) []
    ∷ answered (at 6 1 0) (m06 ask 0 0 4) (m06 re 0 0 4)
    -- 7: 06 reply from peer over v
    ∷ from_peer (at 7 1 0) (m06 re 0 0 4) (to (at 8 1 0)) (off 1 (m08 re 0 4) ∷ off 1 (m09 re 0 0) ∷ off 2 (m06 re 0 0 4) ∷ [])
    ∷ from_peer (at 7 1 0) (m06 re 1 1 4) (to idle) []
    ∷ answered (at 7 1 0) (m06 ask 0 0 4) (m06 re 0 0 4)
    -- 8: 08 request from us over v; num up to 3, or above
    ∷ from_us (at 8 1 0) (m08 ask 0 3) (to (at 9 1 0))
    (off 1 (m06 ask 0 0 3) ∷ off 1 (m08 re 0 3) ∷ off 2 (m08 ask 0 3) ∷ off 1 (m09 ask 0 0) ∷ [])
    ∷ from_us (at 8 1 0) (m08 ask 0 0) (to (at 9 1 0)) []
    ∷ from_us (at 8 1 0) (m08 ask 0 4) (to (at 10 1 0)) []
    ∷ from_us (at 8 1 0) (m08 ask 0 131) (to (at 10 1 0)) []
    ∷ from_us (at 8 1 0) (m08 ask 0 255) (to (at 10 1 0)) []
    ∷ answered (at 8 1 0) (m08 ask 0 3) (m08 re 0 3)
    -- 9: 08 reply from peer over v
    ∷ from_peer (at 9 1 0) (m08 re 0 4) (to idle) (off 1 (m06 re 0 0 4) ∷ off 1 (m09 re 0 0) ∷ off 2 (m08 re 0 4) ∷ [])
    ∷ from_peer (at 9 1 0) (m08 re 1 4) (to idle) []
    ∷ answered (at 9 1 0) (m08 ask 0 4) (m08 re 0 4)
    -- 10: 08 reply from peer over v
    ∷ from_peer (at 10 1 0) (m08 re 0 4) (to (at 8 1 0)) (off 1 (m06 re 0 0 4) ∷ off 1 (m09 re 0 0) ∷ off 2 (m08 re 0 4) ∷ [])
    ∷ from_peer (at 10 1 0) (m08 re 1 4) (to idle) []
    ∷ answered (at 10 1 0) (m08 ask 0 4) (m08 re 0 4)
    -- 11: 09 reply from peer over v
    ∷ from_peer (at 11 1 0) (m09 re 0 0) (to idle) (off 1 (m08 re 0 4) ∷ off 1 (m06 re 0 0 4) ∷ off 2 (m09 re 0 0) ∷ [])
    ∷ from_peer (at 11 1 0) (m09 re 1 0x80) (to idle) []
    ∷ answered (at 11 1 0) (m09 ask 0 0) (m09 re 0 0)
    -- none of these looks at w
    ∷ from_peer (at 6 1 3) (m06 re 0 0 4) (to idle) []
    ∷ from_peer (at 7 1 3) (m06 re 0 0 4) (to (at 8 1 3)) []
    ∷ from_us (at 8 1 3) (m08 ask 0 3) (to (at 9 1 3)) []
    ∷ from_us (at 8 1 3) (m08 ask 0 4) (to (at 10 1 3)) []
    ∷ from_peer (at 9 1 3) (m08 re 0 4) (to idle) []
    ∷ from_peer (at 10 1 3) (m08 re 0 4) (to (at 8 1 3)) []
    ∷ from_peer (at 11 1 3) (m09 re 0 0) (to idle) []
    -- at every other stage they are not due
    ∷ elsewhere Server (m02 re 0 0 3 5) (0 ∷ 2 ∷ 3 ∷ 4 ∷ 5 ∷ 6 ∷ 7 ∷ 8 ∷ 9 ∷ 10 ∷ 11 ∷ [])
    ∷ elsewhere Client (m03 ask 3) (0 ∷ 1 ∷ 3 ∷ 4 ∷ 5 ∷ 6 ∷ 7 ∷ 8 ∷ 9 ∷ 10 ∷ 11 ∷ [])
    ∷ elsewhere Server (m03 re 3) (0 ∷ 1 ∷ 2 ∷ 4 ∷ 5 ∷ 6 ∷ 7 ∷ 8 ∷ 9 ∷ 10 ∷ 11 ∷ [])
    ∷ elsewhere Server (m04 re 0 3 0) (0 ∷ 1 ∷ 2 ∷ 3 ∷ 4 ∷ 6 ∷ 7 ∷ 8 ∷ 9 ∷ 10 ∷ 11 ∷ [])
    ∷ elsewhere Client (m06 re 0 0 2) (0 ∷ 1 ∷ 2 ∷ 3 ∷ 4 ∷ 5 ∷ 8 ∷ 9 ∷ 10 ∷ 11 ∷ [])
    ∷ elsewhere Server (m08 re 0 2) (0 ∷ 1 ∷ 2 ∷ 3 ∷ 4 ∷ 5 ∷ 6 ∷ 7 ∷ 8 ∷ 11 ∷ [])
    ∷ elsewhere Client (m09 re 0 0) (0 ∷ 1 ∷ 2 ∷ 3 ∷ 4 ∷ 5 ∷ 6 ∷ 7 ∷ 8 ∷ 9 ∷ 10 ∷ [])
    ∷ []

abbrev pub RowsRight : Type 0
RowsRight = Right rows

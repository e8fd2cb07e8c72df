-- Request 2026-01, parts 2 and 4: the queue, first in first out, and taking up. Assumes nothing.
use Rattle.std.specs.Prelude.{ℕ, true, false, List, [], ◌∷◌}
use Rattle.link_exchange.specs.declared.Role.{Role}
use Rattle.link_exchange.specs.declared.Role.TheVariants.{Client, Server}
use Rattle.link_exchange.specs.declared.Exchange.{Exchange}
use Rattle.link_exchange.specs.declared.Waiting.{Waiting}
use Rattle.link_exchange.specs.declared.Queue.{Queue}
use Rattle.link_exchange.specs.declared.Fate.{Fate}
use Rattle.link_exchange.specs.declared.Fate.TheVariants.{Taken, Queued, Dropped}
use Rattle.link_calls.specs.declared.TakenUp.{TakenUp}
use Rattle.rows_links.specs.Rows.{Msg, ask, re, m01, m02, m03, m04, m06, m07, m08, m09, from, at, idle, heard, unheard, place, free}
use Rattle.rows_links.specs.Rows.{waits, nobody, laid, to, waiting, linked, without2, with3, no_fields, silent, taken, taken_with, sent}
use Rattle.rows_links.specs.Rows.{also, up, taken_up, sent_up, Row, hears, sends, Right}

-- four that wait
abbrev a : Msg
a = m04 ask 0 2 0x00010000

abbrev b : Msg
b = m02 ask 0 0 3 5

abbrev c : Msg
c = m04 ask 0 1 0x00030000

abbrev d : Msg
d = m01 ask 3

abbrev in2 : Msg → Waiting
in2 m = place 2 m.heard

abbrev four : ℕ → Queue
four n = waits n (in2 a) (in2 b) (in2 c) (in2 d)

abbrev alone : Waiting → Queue
alone w = waits 1 w free free free

-- heard at stage 6, a CONFIRM RKEY's reply ends the exchange: of a queue one is taken up, and a queue is left
abbrev takes : Role → Queue → TakenUp → Queue → Row
takes r q u rest = hears (waiting q (laid r (at 6 1 0))) 1 (m06 re 0 0 2) (also (to idle) (also (waiting rest) (taken_up u)))

-- the only one, which waited with link 2, has this fate
abbrev fate : Role → Msg → Fate → Row
fate r m f = takes r (alone (in2 m)) (up 2 m f) nobody

-- bytes that have no fields
abbrev unnamed : List ℕ → Row
unnamed bytes = takes Server (alone (place 2 bytes)) (record { some = true; link = 2; fields = no_fields; fate = Dropped }) nobody

-- the one that waits is taken up, since a message heard over link 1 ends an exchange
abbrev ended_by : Exchange → Msg → Row
ended_by x m = hears (waiting (alone (in2 b)) (laid Server x)) 1 m (also (waiting nobody) (also (to idle) (taken_up (up 2 b Taken))))

-- DELETE LINK is queued by an add, behind those that wait
abbrev queues : Queue → Queue → Row
queues q r = hears (waiting q (laid Server (at 1 1 3))) 2 a (also (waiting r) (silent Queued))

unfoldable pub rows : List Row
rows =
    -- "queueing writes place count + 1"
    queues (waits 0 (in2 d) (in2 d) (in2 d) (in2 d)) (waits 1 (in2 a) (in2 d) (in2 d) (in2 d))
    ∷ queues (waits 1 (in2 d) (in2 c) (in2 b) (in2 d)) (waits 2 (in2 d) (in2 a) (in2 b) (in2 d))
    ∷ queues (waits 2 (in2 d) (in2 c) (in2 b) (in2 d)) (waits 3 (in2 d) (in2 c) (in2 a) (in2 d))
    ∷ queues (waits 3 (in2 d) (in2 c) (in2 b) (in2 d)) (waits 4 (in2 d) (in2 c) (in2 b) (in2 a))
    -- "taking the oldest moves places 2 to 4 up by one and writes place 4 zeros"; "above 4 counts as 4"
    ∷ takes Server (waits 2 (in2 a) (in2 b) free free) (up 2 a Taken) (waits 1 (in2 b) free free free)
    ∷ takes Server (waits 2 (in2 b) (in2 a) free free) (up 2 b Taken) (waits 1 (in2 a) free free free)
    ∷ takes Server (waits 3 (in2 c) (in2 a) (in2 b) free) (up 2 c Taken) (waits 2 (in2 a) (in2 b) free free)
    ∷ takes Server (four 4) (up 2 a Taken) (waits 3 (in2 b) (in2 c) (in2 d) free)
    ∷ takes Server (four 5) (up 2 a Taken) (waits 3 (in2 b) (in2 c) (in2 d) free)
    ∷ takes Server (four 255) (up 2 a Taken) (waits 3 (in2 b) (in2 c) (in2 d) free)
    ∷ takes Server (four 1) (up 2 a Taken) (waits 0 (in2 b) (in2 c) (in2 d) free)
    ∷ takes Server (alone (place 4 b.heard)) (up 4 b Taken) nobody
    -- none waits, or the stage is not brought to 0, or the message was not due: none is taken up
    ∷ hears (waiting (four 0) (laid Server (at 6 1 0))) 1 (m06 re 0 0 2) (also (to idle) taken)
    ∷ hears (waiting (four 2) (laid Server (at 1 1 3))) 1 (m02 re 0 0 3 5) (also (to (at 2 1 3)) taken)
    ∷ hears (waiting (four 2) (laid Server idle)) 2 (m07 ask) (taken_with (m07 re))
    ∷ hears (waiting (four 2) (laid Server idle)) 2 b taken
    ∷ sends (waiting (four 2) (laid Server idle)) 2 (m07 ask) sent
    -- its fate: an 02 request, at the server
    ∷ fate Server (m02 ask 0 0 3 5) Taken
    ∷ fate Server (m02 ask 1 0 0 0) Taken
    ∷ fate Server (m02 re 0 0 3 5) Dropped
    ∷ fate Client (m02 ask 0 0 3 5) Dropped
    -- an 04 request without A whose link is active, at the server
    ∷ fate Server (m04 ask 0 1 0) Taken
    ∷ fate Server (m04 ask 0 3 0) Dropped
    ∷ fate Server (m04 ask 0 4 0) Dropped
    ∷ fate Server (m04 ask 0 0 0) Dropped
    ∷ fate Server (m04 ask 0 5 0) Dropped
    ∷ fate Server (m04 ask 1 2 0) Dropped
    ∷ fate Server (m04 re 0 2 0) Dropped
    ∷ fate Client (m04 ask 0 2 0) Dropped
    -- all else
    ∷ fate Server (m01 ask 2) Dropped
    ∷ fate Server (m03 ask 2) Dropped
    ∷ fate Server (m06 ask 0 0 2) Dropped
    ∷ fate Server (m07 ask) Dropped
    ∷ fate Server (m08 ask 0 3) Dropped
    ∷ fate Server (m09 ask 0 0) Dropped
    ∷ fate Client (m01 ask 2) Dropped
    ∷ unnamed (0x05 ∷ from 1 43)
    ∷ unnamed (0x80 ∷ from 1 43)
    ∷ unnamed (0x00 ∷ from 1 43)
    -- a link that is active after the call's own work, or is not
    ∷ hears (waiting (alone (in2 (m04 ask 0 3 0))) (laid Server (at 4 1 3))) 3 (m01 re 3)
    (also with3 (also (waiting nobody) (also (to idle) (taken_up (up 2 (m04 ask 0 3 0) Taken)))))
    ∷ hears (waiting (alone (in2 a)) (laid Server (at 5 1 2))) 1 (m04 re 0 2 0)
    (also without2 (also (waiting nobody) (also (to idle) (taken_up (up 2 a Dropped)))))
    -- "a delete run over the very link it deletes has ended by its reply, and the queue stands"
    ∷ hears (waiting (waits 2 (in2 c) (in2 a) free free) (laid Server (at 5 1 1))) 1 (m04 re 0 1 0)
    (also (linked (false ∷ true ∷ false ∷ false ∷ []) (unheard ∷ heard ∷ heard ∷ heard ∷ []))
    (also (waiting (alone (in2 a))) (also (to idle) (taken_up (up 2 c Dropped)))))
    -- a message that is sent ends an exchange, too
    ∷ sends (waiting (four 4) (laid Client (at 1 1 3))) 1 (m02 re 1 2 3 0)
    (also (waiting (waits 3 (in2 b) (in2 c) (in2 d) free)) (also (to idle) (sent_up (up 2 a Dropped))))
    ∷ sends (waiting (alone (in2 d)) (laid Client (at 4 1 3))) 3 (m01 re 3)
    (also with3 (also (waiting nobody) (also (to idle) (sent_up (up 2 d Dropped)))))
    -- so does each last stage
    ∷ ended_by (at 1 1 3) (m02 re 1 2 3 0)
    ∷ ended_by (at 7 1 0) (m06 re 1 1 4)
    ∷ ended_by (at 9 1 0) (m08 re 0 3)
    ∷ ended_by (at 10 1 0) (m08 re 1 4)
    ∷ ended_by (at 11 1 0) (m09 re 0 0)
    ∷ []

abbrev pub RowsRight : Type 0
RowsRight = Right (rows ∷ [])

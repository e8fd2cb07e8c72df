-- Request 2026-01, parts 3 and 4: each line of the table of fates in each of its four columns, with the reply. A link message goes through
-- `answer` and `next` of a group. Assumes nothing.
use Rattle.std.specs.Prelude.{ℕ, List, [], ◌∷◌}
use Rattle.link_exchange.specs.declared.Role.{Role}
use Rattle.link_exchange.specs.declared.Role.TheVariants.{Client, Server}
use Rattle.rows_links.specs.Rows.{Msg, ask, re, m01, m02, m03, m04, m06, m07, m08, m09, at, idle, laid, to, without2, without3}
use Rattle.rows_links.specs.Rows.{all_down, Comes, dropped, taken, queued, taken_with, denied_with, also, Row, hears, Right}

-- heard over link 2: with none, with an add, a delete and an rkey over link 1
abbrev across : Role → Msg → Comes → Comes → Comes → Comes → List Row
across r m a b c d =
    hears (laid r idle) 2 m a ∷ hears (laid r (at 1 1 3)) 2 m b ∷ hears (laid r (at 5 1 3)) 2 m c ∷ hears (laid r (at 6 1 0)) 2 m d ∷ []

-- the same at every stage: 0, 1 to 4, 5, 6 to 11
abbrev throughout : Role → Msg → Comes → Comes → Comes → Comes → List Row
throughout r m a b c d =
    hears (laid r (at 0 1 3)) 2 m a ∷ hears (laid r (at 1 1 3)) 2 m b ∷ hears (laid r (at 2 1 3)) 2 m b ∷ hears (laid r (at 3 1 3)) 2 m b
    ∷ hears (laid r (at 4 1 3)) 2 m b ∷ hears (laid r (at 5 1 3)) 2 m c ∷ hears (laid r (at 6 1 3)) 2 m d ∷ hears (laid r (at 7 1 3)) 2 m d
    ∷ hears (laid r (at 8 1 3)) 2 m d ∷ hears (laid r (at 9 1 3)) 2 m d ∷ hears (laid r (at 10 1 3)) 2 m d
    ∷ hears (laid r (at 11 1 3)) 2 m d ∷ []

-- the reasons of a DELETE LINK: operator initiated, and unknown link
abbrev operator : ℕ
operator = 0x00020000

abbrev unknown : ℕ
unknown = 0x00100000

-- an add of link 3 begins over link 2
abbrev begins : Comes
begins = also (to (at 1 2 3)) taken

abbrev ends : Comes
ends = also all_down taken

-- the replies to DELETE LINK for link 2, which is active, and for link 3
abbrev deletes2 : Comes
deletes2 = also without2 (taken_with (m04 re 0 2 0))

abbrev deletes3 : Comes
deletes3 = also without3 (taken_with (m04 re 0 3 unknown))

-- to CONFIRM RKEY and its CONTINUATION, with num
abbrev yes06 : ℕ → Comes
yes06 num = taken_with (m06 re 0 0 num)

abbrev no06 : ℕ → Comes
no06 num = denied_with (m06 re 1 1 num)

abbrev yes08 : ℕ → Comes
yes08 num = taken_with (m08 re 0 num)

abbrev no08 : ℕ → Comes
no08 num = denied_with (m08 re 1 num)

abbrev yes09 : Comes
yes09 = taken_with (m09 re 0 0)

abbrev yes07 : Comes
yes07 = taken_with (m07 re)

-- to ADD LINK with an mtu
abbrev no02 : ℕ → Comes
no02 mtu = denied_with (m02 re 1 2 3 mtu)

-- what the server hears is from the client. A reply says Z 0, C 0 and mask 0 whatever was heard
unfoldable pub rows : List (List Row)
rows =
    -- 01 request
    across Server (m01 ask 2) dropped dropped dropped queued
    ∷ across Client (m01 ask 2) dropped dropped dropped queued
    -- 02 request from client
    ∷ across Server (m02 ask 0 0 3 5) taken dropped queued queued
    -- whatever its mtu
    ∷ across Server (m02 ask 0 0 3 0) taken dropped queued queued
    ∷ across Server (m02 ask 0 0 3 6) taken dropped queued queued
    -- 02 request from server; its mtu is 1 to 5
    ∷ across Client (m02 ask 0 0 3 5) begins dropped dropped begins
    ∷ across Client (m02 ask 0 0 3 1) begins dropped dropped begins
    ∷ across Client (m02 ask 0 1 3 0) (no02 0) dropped dropped (no02 0)
    ∷ across Client (m02 ask 0 1 3 6) (no02 6) dropped dropped (no02 6)
    ∷ across Client (m02 ask 0 1 3 15) (no02 15) dropped dropped (no02 15)
    -- 04 request without A from client; its link is active, is down
    ∷ across Server (m04 ask 0 2 operator) taken queued queued queued
    ∷ across Server (m04 ask 0 3 operator) (taken_with (m04 re 0 3 unknown)) queued queued queued
    -- 04 request without A from server
    ∷ across Client (m04 ask 0 2 operator) deletes2 dropped dropped deletes2
    ∷ across Client (m04 ask 0 3 operator) deletes3 dropped dropped deletes3
    -- 04 request with A
    ∷ across Server (m04 ask 1 0 operator) ends ends ends ends
    ∷ across Client (m04 ask 1 0 operator) ends ends ends ends
    -- 06, 08 request from client
    ∷ across Server (m06 ask 0 0 2) (yes06 2) (no06 2) (no06 2) (yes06 2)
    ∷ across Server (m06 ask 1 1 3) (yes06 3) (no06 3) (no06 3) (yes06 3)
    ∷ across Server (m08 ask 0 3) (yes08 3) (no08 3) (no08 3) (yes08 3)
    ∷ across Server (m08 ask 1 4) (yes08 4) (no08 4) (no08 4) (yes08 4)
    -- 06, 08 request from server
    ∷ across Client (m06 ask 1 1 2) (yes06 2) dropped dropped (yes06 2)
    ∷ across Client (m08 ask 1 3) (yes08 3) dropped dropped (yes08 3)
    -- 09 request
    ∷ across Server (m09 ask 1 0xA0) yes09 dropped dropped yes09
    ∷ across Client (m09 ask 1 0xA0) yes09 dropped dropped yes09
    -- 07
    ∷ across Server (m07 ask) yes07 yes07 yes07 yes07
    ∷ across Client (m07 ask) yes07 yes07 yes07 yes07
    ∷ across Server (m07 re) taken taken taken taken
    ∷ across Client (m07 re) taken taken taken taken
    -- all else: 03 requests; replies other than 07
    ∷ across Server (m03 ask 3) dropped dropped dropped dropped
    ∷ across Client (m03 ask 3) dropped dropped dropped dropped
    ∷ across Server (m01 re 3) dropped dropped dropped dropped
    ∷ across Client (m01 re 3) dropped dropped dropped dropped
    ∷ across Server (m02 re 0 0 3 5) dropped dropped dropped dropped
    ∷ across Client (m02 re 0 0 3 5) dropped dropped dropped dropped
    ∷ across Server (m03 re 3) dropped dropped dropped dropped
    ∷ across Client (m03 re 3) dropped dropped dropped dropped
    ∷ across Server (m04 re 0 2 0) dropped dropped dropped dropped
    ∷ across Client (m04 re 0 2 0) dropped dropped dropped dropped
    ∷ across Server (m04 re 1 2 0) dropped dropped dropped dropped
    ∷ across Client (m04 re 1 2 0) dropped dropped dropped dropped
    ∷ across Server (m06 re 0 0 2) dropped dropped dropped dropped
    ∷ across Client (m06 re 0 0 2) dropped dropped dropped dropped
    ∷ across Server (m08 re 0 3) dropped dropped dropped dropped
    ∷ across Client (m08 re 0 3) dropped dropped dropped dropped
    ∷ across Server (m09 re 0 0) dropped dropped dropped dropped
    ∷ across Client (m09 re 0 0) dropped dropped dropped dropped
    -- every stage
    ∷ throughout Server (m02 ask 0 0 3 5) taken dropped queued queued
    ∷ throughout Server (m06 ask 0 0 2) (yes06 2) (no06 2) (no06 2) (yes06 2)
    ∷ []

abbrev pub RowsRight : Type 0
RowsRight = Right rows

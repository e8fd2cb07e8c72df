-- Request 2026-01, part 5: every kind of request and reply, sent by either role with none running, an add, a delete and an rkey: what may
-- be sent, the bytes, and what it begins. Assumes nothing.
use Rattle.std.specs.Prelude.{List, [], ◌∷◌, replicate}
use Rattle.link_exchange.specs.declared.Role.{Role}
use Rattle.link_exchange.specs.declared.Role.TheVariants.{Client, Server}
use Rattle.link_exchange.specs.declared.Exchange.{Exchange}
use Rattle.rows_links.specs.Rows.{Msg, ask, re, m01, m02, m03, m04, m06, m07, m08, m09, at, idle, laid, to, all_down, Comes, sent}
use Rattle.rows_links.specs.Rows.{refused, also, Row, sends, sends_as, Right}

-- sent over link 2: with none, with an add, a delete and an rkey over link 1
abbrev across : Role → Msg → Comes → Comes → Comes → Comes → List Row
across r m a b c d =
    sends (laid r idle) 2 m a ∷ sends (laid r (at 1 1 3)) 2 m b ∷ sends (laid r (at 5 1 3)) 2 m c ∷ sends (laid r (at 6 1 0)) 2 m d ∷ []

-- the same at every stage: 0, 1 to 4, 5, 6 to 11
abbrev throughout : Role → Msg → Comes → Comes → Comes → Comes → List Row
throughout r m a b c d =
    sends (laid r (at 0 1 3)) 2 m a ∷ sends (laid r (at 1 1 3)) 2 m b ∷ sends (laid r (at 2 1 3)) 2 m b ∷ sends (laid r (at 3 1 3)) 2 m b
    ∷ sends (laid r (at 4 1 3)) 2 m b ∷ sends (laid r (at 5 1 3)) 2 m c ∷ sends (laid r (at 6 1 3)) 2 m d ∷ sends (laid r (at 7 1 3)) 2 m d
    ∷ sends (laid r (at 8 1 3)) 2 m d ∷ sends (laid r (at 9 1 3)) 2 m d ∷ sends (laid r (at 10 1 3)) 2 m d
    ∷ sends (laid r (at 11 1 3)) 2 m d ∷ []

abbrev barred : Comes
barred = refused 15

abbrev begins : Exchange → Comes
begins x = also (to x) sent

abbrev ends : Comes
ends = also all_down sent

unfoldable pub rows : List (List Row)
rows =
    -- 07 request; 04 request with A: always
    across Server (m07 ask) sent sent sent sent
    ∷ across Client (m07 ask) sent sent sent sent
    ∷ across Server (m04 ask 1 0 0x00020000) ends ends ends ends
    ∷ across Client (m04 ask 1 0 0x00020000) ends ends ends ends
    -- 04 request without A: client's always, server's at stage 0
    ∷ across Client (m04 ask 0 2 0x00020000) sent sent sent sent
    ∷ across Server (m04 ask 0 2 0x00020000) (begins (at 5 2 2)) barred barred barred
    -- 02 request: client's where the sort is not add, server's at stage 0
    ∷ across Client (m02 ask 0 0 3 5) sent barred sent sent
    ∷ across Server (m02 ask 0 0 3 5) (begins (at 1 2 3)) barred barred barred
    -- 06 request; 09 request: at stage 0
    ∷ across Server (m06 ask 0 0 2) (begins (at 6 2 0)) barred barred barred
    ∷ across Client (m06 ask 0 0 2) (begins (at 6 2 0)) barred barred barred
    ∷ across Server (m06 ask 0 0 3) (begins (at 7 2 0)) barred barred barred
    ∷ across Client (m06 ask 0 0 3) (begins (at 7 2 0)) barred barred barred
    ∷ across Server (m09 ask 0 0) (begins (at 11 2 0)) barred barred barred
    ∷ across Client (m09 ask 0 0) (begins (at 11 2 0)) barred barred barred
    -- no others that are not due
    ∷ across Server (m01 ask 3) barred barred barred barred
    ∷ across Client (m01 ask 3) barred barred barred barred
    ∷ across Server (m03 ask 3) barred barred barred barred
    ∷ across Client (m03 ask 3) barred barred barred barred
    ∷ across Server (m08 ask 0 3) barred barred barred barred
    ∷ across Client (m08 ask 0 3) barred barred barred barred
    -- "replying unasked"
    ∷ across Server (m01 re 3) barred barred barred barred
    ∷ across Client (m01 re 3) barred barred barred barred
    ∷ across Server (m02 re 0 0 3 5) barred barred barred barred
    ∷ across Client (m02 re 0 0 3 5) barred barred barred barred
    ∷ across Server (m02 re 1 2 3 0) barred barred barred barred
    ∷ across Client (m02 re 1 2 3 0) barred barred barred barred
    ∷ across Server (m03 re 3) barred barred barred barred
    ∷ across Client (m03 re 3) barred barred barred barred
    ∷ across Server (m04 re 0 2 0) barred barred barred barred
    ∷ across Client (m04 re 0 2 0) barred barred barred barred
    ∷ across Server (m04 re 1 2 0) barred barred barred barred
    ∷ across Client (m04 re 1 2 0) barred barred barred barred
    ∷ across Server (m06 re 0 0 2) barred barred barred barred
    ∷ across Client (m06 re 0 0 2) barred barred barred barred
    ∷ across Server (m07 re) barred barred barred barred
    ∷ across Client (m07 re) barred barred barred barred
    ∷ across Server (m08 re 0 3) barred barred barred barred
    ∷ across Client (m08 re 0 3) barred barred barred barred
    ∷ across Server (m09 re 0 0) barred barred barred barred
    ∷ across Client (m09 re 0 0) barred barred barred barred
    -- every stage
    ∷ throughout Client (m02 ask 0 0 3 5) sent barred sent sent
    ∷ throughout Server (m09 ask 0 0) (begins (at 11 2 0)) barred barred barred
    ∷ throughout Client (m06 ask 0 0 0) (begins (at 6 2 0)) barred barred barred
    ∷ throughout Server (m02 ask 0 0 4 0) (begins (at 1 2 4)) barred barred barred
    ∷ throughout Server (m04 ask 0 1 0) (begins (at 5 2 1)) barred barred barred
    ∷ across Server (m06 ask 0 0 130) (begins (at 7 2 0)) barred barred barred
    -- values are cut to their rows' bits, missing ones 0, surplus ones ignored
    ∷ (sends_as (laid Server idle) 2 (m04 ask 0 1 0x00020000) (2 ∷ 4 ∷ 3 ∷ 257 ∷ 0x700020000 ∷ replicate 8 9) (begins (at 5 2 1)) ∷ [])
    ∷ (sends_as (laid Server (at 1 1 3)) 2 (m07 ask) (2 ∷ 0x0405060708090A0B ∷ 0x10C0D0E0F10111213 ∷ []) sent ∷ [])
    ∷ (sends_as (laid Server idle) 2 (m07 re) (3 ∷ []) barred ∷ [])
    ∷ (sends_as (laid Server idle) 2 (m04 ask 0 0 0) [] (refused 14) ∷ [])
    ∷ []

abbrev pub RowsRight : Type 0
RowsRight = Right rows

-- Request 2026-01, parts 4 and 5: the refusals of link message and link send, 13, 6, 4, 14 and 15, each met and missed, in their order; and
-- 1 before them. Assumes nothing.
use Rattle.std.specs.Prelude.{ℕ, true, List, [], ◌∷◌}
use Rattle.link_exchange.specs.declared.Role.TheVariants.{Client, Server}
use Rattle.link_message.specs.declared.Kind.TheVariants.{TestLink}
use Rattle.link_exchange.specs.declared.Fate.TheVariants.{Queued}
use Rattle.group_rules.specs.Rules.{Group, link_change, link_message, link_send}
use Rattle.rows_links.specs.Rows.{Msg, ask, re, m01, m02, m03, m04, m06, m07, zeros, from, at, idle, place, waits, laid, to, waiting}
use Rattle.rows_links.specs.Rows.{all_down, dropped, taken, queued, taken_with, denied_with, sent, refused, also, silent, Row, hears}
use Rattle.rows_links.specs.Rows.{hears_bytes, sends, lent_less, optional, Right}

-- four places, of which n are counted
abbrev counted : ℕ → Group → Group
counted n = waiting (waits n (place 1 (from 11 44)) (place 2 (from 12 44)) (place 3 (from 13 44)) (place 4 (from 14 44)))

-- queued in the fourth place
abbrev fourth : Msg → Group → Group
fourth m = waiting (waits 4 (place 1 (from 11 44)) (place 2 (from 12 44)) (place 3 (from 13 44)) (place 2 m.heard))

unfoldable pub rows : List Row
rows =
    -- 13, before 6 and 4
    hears_bytes (laid Server idle) 0 [] (refused 13)
    ∷ hears_bytes (laid Server idle) 5 [] (refused 13)
    ∷ sends (laid Server idle) 0 (m07 ask) (refused 13)
    ∷ sends (laid Server idle) 5 (m04 ask 0 0 0) (refused 13)
    -- 6, but not for 01 on the link being added; before 4 and 14
    ∷ hears_bytes (laid Server idle) 3 [] (refused 6)
    ∷ hears (laid Server (at 1 1 3)) 3 (m03 ask 3) (refused 6)
    ∷ hears_bytes (laid Server (at 1 1 3)) 3 [] (refused 6)
    ∷ hears (laid Server (at 1 1 4)) 3 (m01 ask 3) (refused 6)
    ∷ hears (laid Server (at 0 1 3)) 3 (m01 ask 3) (refused 6)
    ∷ hears (laid Server (at 5 1 3)) 3 (m01 re 3) (refused 6)
    ∷ hears (laid Server (at 6 1 3)) 3 (m01 re 3) (refused 6)
    ∷ hears (laid Server (at 1 3 4)) 3 (m01 re 3) (refused 6)
    ∷ hears (laid Server (at 1 1 3)) 3 (m01 ask 4) dropped
    ∷ hears (laid Server (at 2 1 3)) 3 (m01 ask 4) dropped
    ∷ hears (laid Server (at 3 1 3)) 3 (m01 ask 4) dropped
    ∷ hears (laid Server (at 4 1 3)) 3 (m01 ask 4) dropped
    ∷ sends (laid Server idle) 3 (m04 ask 0 0 0) (refused 6)
    ∷ sends (laid Server (at 1 1 3)) 3 (m07 ask) (refused 6)
    ∷ sends (laid Server (at 5 1 3)) 3 (m01 ask 3) (refused 6)
    ∷ sends (laid Server (at 1 1 3)) 3 (m01 ask 3) (refused 15)
    ∷ sends (laid Server (at 1 1 3)) 3 (m01 ask 5) (refused 14)
    -- 4 for the length, also on the link being added, and of optional messages
    ∷ hears_bytes (laid Server idle) 1 [] (refused 4)
    ∷ hears_bytes (laid Server (at 2 1 3)) 3 (0x01 ∷ []) (refused 4)
    ∷ hears_bytes (laid Server idle) 1 (0x07 ∷ 0x2C ∷ zeros 41) (refused 4)
    ∷ hears_bytes (laid Server idle) 1 (0x07 ∷ 0x2C ∷ zeros 43) (refused 4)
    ∷ hears_bytes (laid Server idle) 1 (0x80 ∷ zeros 42) (refused 4)
    -- optional: no fields, dropped
    ∷ hears_bytes (laid Server (at 1 1 3)) 1 (0x80 ∷ zeros 43) optional
    ∷ hears_bytes (laid Client idle) 1 (0xBF ∷ 0x2C ∷ from 2 42) optional
    -- 4 for a first byte that names no message, and a second that is not 2C
    ∷ hears_bytes (laid Server idle) 1 (0x00 ∷ 0x2C ∷ zeros 42) (refused 4)
    ∷ hears_bytes (laid Server idle) 1 (0x05 ∷ 0x2C ∷ zeros 42) (refused 4)
    ∷ hears_bytes (laid Server idle) 1 (0x0A ∷ 0x2C ∷ zeros 42) (refused 4)
    ∷ hears_bytes (laid Server idle) 1 (0x7F ∷ 0x2C ∷ zeros 42) (refused 4)
    ∷ hears_bytes (laid Server idle) 1 (0xC0 ∷ 0x2C ∷ zeros 42) (refused 4)
    ∷ hears_bytes (laid Server idle) 1 (0xFE ∷ 0x2C ∷ zeros 42) (refused 4)
    ∷ hears_bytes (laid Server idle) 1 (0x01 ∷ 0x2B ∷ zeros 42) (refused 4)
    ∷ hears_bytes (laid Server idle) 1 (0x02 ∷ 0x2B ∷ zeros 42) (refused 4)
    ∷ hears_bytes (laid Server idle) 1 (0x03 ∷ 0x2B ∷ zeros 42) (refused 4)
    ∷ hears_bytes (laid Server idle) 1 (0x04 ∷ 0x2B ∷ zeros 42) (refused 4)
    ∷ hears_bytes (laid Server idle) 1 (0x06 ∷ 0x2B ∷ zeros 42) (refused 4)
    ∷ hears_bytes (laid Server idle) 1 (0x07 ∷ 0x2B ∷ zeros 42) (refused 4)
    ∷ hears_bytes (laid Server idle) 1 (0x08 ∷ 0x2B ∷ zeros 42) (refused 4)
    ∷ hears_bytes (laid Server idle) 1 (0x09 ∷ 0x2B ∷ zeros 42) (refused 4)
    -- 14 of a heard 01, where it is queued
    ∷ hears (laid Server (at 6 1 0)) 2 (m01 ask 0) (refused 14)
    ∷ hears (laid Server (at 6 1 0)) 2 (m01 ask 5) (refused 14)
    ∷ hears (laid Server (at 6 1 0)) 2 (m01 ask 1) queued
    ∷ hears (laid Server (at 6 1 0)) 2 (m01 ask 4) queued
    ∷ hears (laid Server idle) 2 (m01 ask 0) dropped
    ∷ hears (laid Server (at 6 1 0)) 2 (m01 re 0) dropped
    -- of an 02: from the server, not a denied one
    ∷ hears (laid Client idle) 2 (m02 ask 0 0 0 5) (refused 14)
    ∷ hears (laid Client idle) 2 (m02 ask 0 0 5 5) (refused 14)
    ∷ hears (laid Client idle) 2 (m02 ask 1 0 5 5) (refused 14)
    ∷ hears (laid Client idle) 2 (m02 ask 0 0 1 5) (also (to (at 1 2 1)) taken)
    ∷ hears (laid Client idle) 2 (m02 ask 0 0 4 5) (also (to (at 1 2 4)) taken)
    ∷ hears (laid Client idle) 2 (m02 ask 0 0 0 6) (denied_with (m02 re 1 2 0 6))
    ∷ hears (laid Client (at 1 1 3)) 2 (m02 ask 0 0 5 5) dropped
    -- not from the client
    ∷ hears (laid Server idle) 2 (m02 ask 0 0 0 5) taken
    ∷ hears (laid Server idle) 2 (m02 ask 0 0 5 5) taken
    ∷ hears (laid Server (at 5 1 3)) 2 (m02 ask 0 0 0 5) queued
    ∷ hears (laid Server (at 5 1 3)) 2 (m02 ask 0 0 5 5) queued
    -- a reply, not with Z
    ∷ hears (laid Server (at 1 1 0)) 1 (m02 re 0 0 0 5) (refused 14)
    ∷ hears (laid Server (at 1 1 5)) 1 (m02 re 0 0 5 5) (refused 14)
    ∷ hears (laid Server (at 1 1 0)) 1 (m02 re 1 1 0 5) (also (to idle) taken)
    ∷ hears (laid Server (at 1 1 5)) 1 (m02 re 1 1 5 5) (also (to idle) taken)
    -- of an 03
    ∷ hears (laid Client (at 2 1 0)) 1 (m03 ask 0) (refused 14)
    ∷ hears (laid Client (at 2 1 5)) 1 (m03 ask 5) (refused 14)
    ∷ hears (laid Server (at 3 1 0)) 1 (m03 re 0) (refused 14)
    ∷ hears (laid Server (at 3 1 5)) 1 (m03 re 5) (refused 14)
    ∷ hears (laid Client (at 2 1 3)) 1 (m03 ask 0) dropped
    -- of an 04, not with A
    ∷ hears (laid Server idle) 2 (m04 ask 0 0 0) (refused 14)
    ∷ hears (laid Server idle) 2 (m04 ask 0 5 0) (refused 14)
    ∷ hears (laid Server idle) 2 (m04 ask 0 130 0) (refused 14)
    ∷ hears (laid Server idle) 2 (m04 ask 0 255 0) (refused 14)
    ∷ hears (laid Client idle) 2 (m04 ask 0 0 0) (refused 14)
    ∷ hears (laid Client idle) 2 (m04 ask 0 5 0) (refused 14)
    ∷ hears (laid Server (at 1 1 3)) 2 (m04 ask 0 0 0) (refused 14)
    ∷ hears (laid Server (at 1 1 3)) 2 (m04 ask 0 5 0) (refused 14)
    ∷ hears (laid Server (at 1 1 3)) 2 (m04 ask 0 4 0) queued
    ∷ hears (laid Server (at 5 1 0)) 1 (m04 re 0 0 0) (refused 14)
    ∷ hears (laid Server (at 5 1 5)) 1 (m04 re 0 5 0) (refused 14)
    ∷ hears (laid Server idle) 2 (m04 ask 1 5 0) (also all_down taken)
    ∷ hears (laid Client idle) 2 (m04 ask 1 5 0) (also all_down taken)
    ∷ hears (laid Client (at 1 1 3)) 2 (m04 ask 0 5 0) dropped
    -- 14 of a sent 01, 03 and 04, by kind alone, before 15
    ∷ sends (laid Server idle) 2 (m01 ask 0) (refused 14)
    ∷ sends (laid Server idle) 2 (m01 ask 5) (refused 14)
    ∷ sends (laid Server idle) 2 (m01 re 0) (refused 14)
    ∷ sends (laid Server idle) 2 (m01 re 5) (refused 14)
    ∷ sends (laid Server idle) 2 (m03 ask 0) (refused 14)
    ∷ sends (laid Server idle) 2 (m03 ask 5) (refused 14)
    ∷ sends (laid Server idle) 2 (m03 re 0) (refused 14)
    ∷ sends (laid Server idle) 2 (m03 re 5) (refused 14)
    ∷ sends (laid Server idle) 2 (m04 ask 0 0 0) (refused 14)
    ∷ sends (laid Server idle) 2 (m04 ask 0 5 0) (refused 14)
    ∷ sends (laid Client idle) 2 (m04 ask 0 0 0) (refused 14)
    ∷ sends (laid Client idle) 2 (m04 ask 0 5 0) (refused 14)
    ∷ sends (laid Server idle) 2 (m04 re 0 0 0) (refused 14)
    ∷ sends (laid Server idle) 2 (m04 re 0 5 0) (refused 14)
    ∷ sends (laid Server idle) 2 (m04 re 1 0 0) (refused 15)
    ∷ sends (laid Client idle) 2 (m04 ask 1 5 0) (also all_down sent)
    ∷ sends (laid Server (at 1 1 3)) 2 (m04 ask 0 5 0) (refused 14)
    -- of an 02, but not the client's request, nor a reply with Z
    ∷ sends (laid Server idle) 2 (m02 ask 0 0 0 5) (refused 14)
    ∷ sends (laid Server idle) 2 (m02 ask 0 0 5 5) (refused 14)
    ∷ sends (laid Server idle) 2 (m02 ask 1 0 5 5) (refused 14)
    ∷ sends (laid Server idle) 2 (m02 ask 0 0 4 5) (also (to (at 1 2 4)) sent)
    ∷ sends (laid Client idle) 2 (m02 ask 0 0 0 5) sent
    ∷ sends (laid Client idle) 2 (m02 ask 0 0 5 5) sent
    ∷ sends (laid Client (at 1 1 3)) 2 (m02 ask 0 0 5 5) (refused 15)
    ∷ sends (laid Client idle) 2 (m02 re 0 0 0 5) (refused 14)
    ∷ sends (laid Client idle) 2 (m02 re 0 0 5 5) (refused 14)
    ∷ sends (laid Client idle) 2 (m02 re 1 1 0 5) (refused 15)
    ∷ sends (laid Client idle) 2 (m02 re 1 1 5 5) (refused 15)
    ∷ sends (laid Client (at 1 1 3)) 1 (m02 re 1 1 5 5) (also (to idle) sent)
    -- 15: queued, and four wait or more; after 14
    ∷ hears (counted 4 (laid Server (at 1 1 3))) 2 (m04 ask 0 2 0) (refused 15)
    ∷ hears (counted 5 (laid Server (at 6 1 0))) 2 (m02 ask 0 0 3 5) (refused 15)
    ∷ hears (counted 255 (laid Server (at 6 1 0))) 2 (m01 ask 3) (refused 15)
    ∷ hears (counted 4 (laid Server (at 1 1 3))) 2 (m04 ask 0 5 0) (refused 14)
    -- not where three wait, nor for other fates
    ∷ hears (counted 3 (laid Server (at 1 1 3))) 2 (m04 ask 0 2 0) (also (fourth (m04 ask 0 2 0)) (silent Queued))
    ∷ hears (counted 4 (laid Server (at 1 1 3))) 2 (m07 ask) (taken_with (m07 re))
    ∷ hears (counted 4 (laid Server (at 1 1 3))) 2 (m06 ask 0 0 2) (denied_with (m06 re 1 1 2))
    ∷ hears (counted 4 (laid Server (at 1 1 3))) 2 (m02 ask 0 0 3 5) dropped
    ∷ hears (counted 4 (laid Server (at 1 1 3))) 1 (m02 re 0 0 3 5) (also (to (at 2 1 3)) taken)
    -- 1: a buffer of less than 44 bytes, first of all
    ∷ lent_less (laid Server idle) (link_message 0 [])
    ∷ lent_less (laid Server idle) (link_message 2 (m07 ask).heard)
    ∷ lent_less (laid Server idle) (link_send 5 TestLink [])
    ∷ lent_less (laid Server idle) (link_send 2 TestLink [])
    ∷ lent_less (laid Server idle) (link_change 5 true)
    ∷ lent_less (laid Server idle) (link_change 1 true)
    ∷ []

abbrev pub RowsRight : Type 0
RowsRight = Right (rows ∷ [])

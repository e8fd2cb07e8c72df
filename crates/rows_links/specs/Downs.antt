-- Request 2026-01, part 6: which links go down, what that ends, and what it leaves alone. Assumes nothing.
use Rattle.std.specs.Prelude.{ℕ, true, false, List, [], ◌∷◌}
use Rattle.link_exchange.specs.declared.Role.{Role}
use Rattle.link_exchange.specs.declared.Role.TheVariants.{Client, Server}
use Rattle.link_exchange.specs.declared.Exchange.{Exchange}
use Rattle.group_rules.specs.Rules.{Group}
use Rattle.rows_links.specs.Rows.{ask, re, m04, from, at, idle, heard, unheard, place, waits, nobody, laid, to, waiting, linked}
use Rattle.rows_links.specs.Rows.{without2, without3, with3, all_down, taken, taken_with, sent, also, Row, hears, sends, changes}
use Rattle.rows_links.specs.Rows.{changes_not, Right}

-- two wait
abbrev busy : Role → Exchange → Group
busy r x = waiting (waits 2 (place 1 (from 11 44)) (place 2 (from 12 44)) (place 3 (from 13 44)) (place 4 (from 14 44))) (laid r x)

abbrev ended : Group → Group
ended g = to idle (waiting nobody g)

abbrev without1 : Group → Group
without1 = linked (false ∷ true ∷ false ∷ false ∷ []) (unheard ∷ heard ∷ heard ∷ heard ∷ [])

abbrev without4 : Group → Group
without4 = linked (true ∷ true ∷ false ∷ false ∷ []) (heard ∷ heard ∷ heard ∷ unheard ∷ [])

abbrev with4 : Group → Group
with4 = linked (true ∷ true ∷ false ∷ true ∷ []) (heard ∷ heard ∷ heard ∷ heard ∷ [])

-- link change sets a link down: the exchange goes on, or it ends
abbrev stays : Exchange → ℕ → (Group → Group) → Row
stays x l links = changes (busy Server x) l false (links (busy Server x))

abbrev ends_it : Exchange → ℕ → (Group → Group) → Row
ends_it x l links = changes (busy Server x) l false (links (ended (busy Server x)))

unfoldable pub rows : List Row
rows =
    -- an add is run over v and over w, as long as it runs
    ends_it (at 1 1 3) 1 without1
    ∷ stays (at 1 1 3) 2 without2
    ∷ ends_it (at 1 1 3) 3 without3
    ∷ stays (at 1 1 3) 4 without4
    ∷ ends_it (at 2 1 3) 1 without1
    ∷ stays (at 2 1 3) 2 without2
    ∷ ends_it (at 2 1 3) 3 without3
    ∷ ends_it (at 3 1 3) 1 without1
    ∷ stays (at 3 1 3) 2 without2
    ∷ ends_it (at 3 1 3) 3 without3
    ∷ ends_it (at 4 1 3) 1 without1
    ∷ stays (at 4 1 3) 2 without2
    ∷ ends_it (at 4 1 3) 3 without3
    -- all else over v alone
    ∷ ends_it (at 5 1 3) 1 without1
    ∷ stays (at 5 1 3) 3 without3
    ∷ ends_it (at 6 1 3) 1 without1
    ∷ stays (at 6 1 3) 3 without3
    ∷ ends_it (at 7 1 3) 1 without1
    ∷ stays (at 7 1 3) 3 without3
    ∷ ends_it (at 8 1 3) 1 without1
    ∷ stays (at 8 1 3) 3 without3
    ∷ ends_it (at 9 1 3) 1 without1
    ∷ stays (at 9 1 3) 3 without3
    ∷ ends_it (at 10 1 3) 1 without1
    ∷ stays (at 10 1 3) 3 without3
    ∷ ends_it (at 11 1 3) 1 without1
    ∷ stays (at 11 1 3) 3 without3
    -- none runs
    ∷ stays (at 0 1 3) 1 without1
    ∷ stays (at 0 1 3) 3 without3
    -- a link becomes active
    ∷ changes (busy Server (at 1 1 3)) 1 true (busy Server (at 1 1 3))
    ∷ changes (busy Server (at 1 1 3)) 3 true (with3 (busy Server (at 1 1 3)))
    ∷ changes (busy Client (at 6 1 3)) 4 true (with4 (busy Client (at 6 1 3)))
    -- no link
    ∷ changes_not (busy Server (at 1 1 0)) 0 false
    ∷ changes_not (busy Server (at 1 1 5)) 5 false
    ∷ changes_not (busy Server (at 1 1 5)) 5 true
    -- the server's 04, heard by a client in an rkey
    ∷ hears (busy Client (at 6 1 0)) 2 (m04 ask 0 1 0) (also without1 (also ended (taken_with (m04 re 0 1 0))))
    ∷ hears (busy Client (at 6 1 2)) 2 (m04 ask 0 2 0) (also without2 (taken_with (m04 re 0 2 0)))
    ∷ hears (busy Client (at 11 3 0)) 2 (m04 ask 0 3 0) (also without3 (also ended (taken_with (m04 re 0 3 0x00100000))))
    ∷ hears (busy Client (at 0 2 2)) 1 (m04 ask 0 2 0) (also without2 (taken_with (m04 re 0 2 0)))
    -- sent by a server, it takes no link down
    ∷ sends (laid Server idle) 1 (m04 ask 0 2 0) (also (to (at 5 1 2)) sent)
    -- an 04 with A, heard or sent, at every sort and with none
    ∷ hears (busy Server (at 0 1 3)) 2 (m04 ask 1 0 0x00010000) (also all_down taken)
    ∷ sends (busy Server (at 0 1 3)) 2 (m04 ask 1 0 0x00010000) (also all_down sent)
    ∷ hears (busy Server (at 2 1 3)) 2 (m04 ask 1 0 0x00010000) (also all_down taken)
    ∷ sends (busy Server (at 2 1 3)) 2 (m04 ask 1 0 0x00010000) (also all_down sent)
    ∷ hears (busy Server (at 5 1 2)) 2 (m04 ask 1 0 0x00010000) (also all_down taken)
    ∷ sends (busy Server (at 5 1 2)) 2 (m04 ask 1 0 0x00010000) (also all_down sent)
    ∷ hears (busy Server (at 8 1 0)) 2 (m04 ask 1 0 0x00010000) (also all_down taken)
    ∷ sends (busy Server (at 8 1 0)) 2 (m04 ask 1 0 0x00010000) (also all_down sent)
    ∷ hears (busy Client (at 0 1 3)) 2 (m04 ask 1 0 0x00010000) (also all_down taken)
    ∷ sends (busy Client (at 0 1 3)) 2 (m04 ask 1 0 0x00010000) (also all_down sent)
    ∷ hears (busy Client (at 2 1 3)) 2 (m04 ask 1 0 0x00010000) (also all_down taken)
    ∷ sends (busy Client (at 2 1 3)) 2 (m04 ask 1 0 0x00010000) (also all_down sent)
    ∷ hears (busy Client (at 5 1 2)) 2 (m04 ask 1 0 0x00010000) (also all_down taken)
    ∷ sends (busy Client (at 5 1 2)) 2 (m04 ask 1 0 0x00010000) (also all_down sent)
    ∷ hears (busy Client (at 8 1 0)) 2 (m04 ask 1 0 0x00010000) (also all_down taken)
    ∷ sends (busy Client (at 8 1 0)) 2 (m04 ask 1 0 0x00010000) (also all_down sent)
    ∷ []

abbrev pub RowsRight : Type 0
RowsRight = Right (rows ∷ [])

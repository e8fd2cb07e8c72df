-- Link change, and failover by it (document 01; requests 2026-01, 2026-10 and 2026-13): one link is set, one that is set down loses its
-- gauge; every open, coherent connection on a link that went down moves to the lowest active one, and makes one message with F, its last
-- number sent. Assumes nothing.
use Rattle.std.specs.Prelude.{ℕ, Bool, true, false, List, [], ◌∷◌, ◌++◌, pos}
use Rattle.std.specs.Float.{fin}
use Rattle.gauge.specs.declared.Gauge.{Gauge}
use Rattle.link_exchange.specs.declared.Role.TheVariants.{Server}
use Rattle.conn_record.specs.declared.Record.{Record}
use Rattle.group_rules.specs.Rules.{Group, link_change, manage, refusal, link_changed}
use Rattle.rows_conn.specs.Rows.{from, zeros, wire, no_urgent, urgent_at, marked, none, who, inw, outw, rec, peer, P, C, T, Q, R, ins}
use Rattle.rows_conn.specs.Rows.{outs, conn, other, shut, gauge, running, queue, waits, grouped, element2, memory, done, Row, Right}

-- A GROUP with no exchange and none that waits: the table, the links, the gauges
abbrev idle : List Record → List Bool → List Gauge → Group
idle t l g =
    record {
      S = 3;
      N = 14;
      table = t;
      links = l;
      gauges = g;
      role = Server;
      exchange = record { stage = 0; v = 0; w = 0 };
      queue = record { count = 0; places = waits 0 0 ∷ waits 0 0 ∷ waits 0 0 ∷ waits 0 0 ∷ [] };
      memory = memory element2;
    }

abbrev cleared : Gauge
cleared = record { mean = fin false 0 (pos 0); worst = fin false 0 (pos 0); count = 0; late = false }

-- each with its own gauge, but for one that is cleared
abbrev all : List Gauge
all = gauge 1 ∷ gauge 3 ∷ gauge 5 ∷ gauge 7 ∷ []

abbrev but1 : List Gauge
but1 = cleared ∷ gauge 3 ∷ gauge 5 ∷ gauge 7 ∷ []

abbrev but2 : List Gauge
but2 = gauge 1 ∷ cleared ∷ gauge 5 ∷ gauge 7 ∷ []

abbrev but3 : List Gauge
but3 = gauge 1 ∷ gauge 3 ∷ cleared ∷ gauge 7 ∷ []

abbrev but4 : List Gauge
but4 = gauge 1 ∷ gauge 3 ∷ gauge 5 ∷ cleared ∷ []

-- lent n bytes, and the messages that stand at the front
abbrev changes : Group → ℕ → Bool → List ℕ → ℕ → List ℕ → Group → Row
changes g l up b n out h = record { group = g; call = manage (link_change l up b); comes = done (link_changed n) false (zeros 44) out h }

-- nothing moves: the buffer stays
abbrev sets : Group → ℕ → Bool → Group → Row
sets g l up h = changes g l up (from 1 132) 0 (from 1 132) h

abbrev refused_with : Group → ℕ → Bool → List ℕ → ℕ → Row
refused_with g l up b k = record { group = g; call = manage (link_change l up b); comes = done (refusal k) false (zeros 44) b g }

-- CONNECTIONS on a link: the one of the tables; one with everything on; one with a next number; one that sent A
abbrev on_link : ℕ → Record
on_link l = rec (who 0x0A0B0C0D 0x11223344 l) peer ins outs none

abbrev laden : ℕ → Record
laden l =
    rec (who 0x0E0E0E0E 0x99AABBCC l) peer (inw P C T 0x7788 true true (urgent_at 7 0)) (outw Q R 0x5566 true (urgent_at 19 0x89EF))
    (marked true true true false true false)

abbrev next_is : ℕ → ℕ → Record
next_is l n = rec (who 0x0E0E0E0E 0x99AABBCC l) peer ins (outw Q R n false no_urgent) none

abbrev marks : ℕ → Bool → Bool → Record
marks l d c = rec (who 0x0E0E0E0E 0x99AABBCC l) peer ins outs (marked d c false false true false)

abbrev a_sent : ℕ → Record
a_sent l = rec (who 0x0F0F0F0F 0x0D0D0D0D l) peer ins outs (marked false false true false false true)

-- not coherent: its peer token is 0; and closed by its mark
abbrev broken : ℕ → Record
broken l = rec (who 0x0F0F0F0F 0 l) peer ins outs none

abbrev closed : ℕ → Record
closed l =
    record { id = record { opened = false; own = 7; peer = 8; link = l }; remote = peer; inbound = ins; outbound = outs; marks = none }

-- the connection's message: number 5565, F
abbrev F : List ℕ
F = wire 0xFE2C_5565_11223344_0000_89F0_00000006_0000_0000_00000005_0800

-- slot 2 alone on a link that goes down, the other slots closed: it moves
abbrev moves : ℕ → List Bool → List Bool → List Gauge → ℕ → Row
moves l before after gauges target =
    changes (idle (closed l ∷ on_link l ∷ closed l ∷ []) before all) l false (from 1 132) 1 (F ++ from 45 88)
    (idle (closed l ∷ on_link target ∷ closed l ∷ []) after gauges)

unfoldable pub rows : List Row
rows =
    -- LINK CHANGE. 1 by the buffer, of 44 x 3 bytes, and by the memory; then 13
    refused_with (idle (closed 1 ∷ closed 1 ∷ closed 1 ∷ []) (true ∷ true ∷ true ∷ true ∷ []) all) 5 true (from 1 131) 1
    ∷ refused_with (grouped 3 14 (other ∷ conn ∷ shut ∷ []) (true ∷ true ∷ true ∷ true ∷ []) (from 1 41)) 5 false (from 1 132) 1
    ∷ refused_with (idle (closed 1 ∷ closed 1 ∷ closed 1 ∷ []) (true ∷ true ∷ true ∷ true ∷ []) all) 5 true (from 1 132) 13
    ∷ refused_with (idle (closed 1 ∷ closed 1 ∷ closed 1 ∷ []) (true ∷ true ∷ true ∷ true ∷ []) all) 0 false (from 1 133) 13
    -- up: one link, and nothing else; a connection that is stranded on it stays
    ∷ sets (idle (on_link 2 ∷ closed 1 ∷ laden 4 ∷ []) (false ∷ false ∷ false ∷ false ∷ []) all) 1 true
    (idle (on_link 2 ∷ closed 1 ∷ laden 4 ∷ []) (true ∷ false ∷ false ∷ false ∷ []) all)
    ∷ sets (idle (on_link 2 ∷ closed 1 ∷ laden 4 ∷ []) (false ∷ false ∷ false ∷ false ∷ []) all) 2 true
    (idle (on_link 2 ∷ closed 1 ∷ laden 4 ∷ []) (false ∷ true ∷ false ∷ false ∷ []) all)
    ∷ sets (idle (on_link 2 ∷ closed 1 ∷ laden 4 ∷ []) (false ∷ false ∷ false ∷ false ∷ []) all) 3 true
    (idle (on_link 2 ∷ closed 1 ∷ laden 4 ∷ []) (false ∷ false ∷ true ∷ false ∷ []) all)
    ∷ sets (idle (on_link 2 ∷ closed 1 ∷ laden 4 ∷ []) (true ∷ false ∷ true ∷ false ∷ []) all) 4 true
    (idle (on_link 2 ∷ closed 1 ∷ laden 4 ∷ []) (true ∷ false ∷ true ∷ true ∷ []) all)
    -- down: its gauge goes, also where it was down already; connections on a link that was down stay, though others are active
    ∷ sets (idle (on_link 2 ∷ closed 1 ∷ laden 4 ∷ []) (true ∷ false ∷ true ∷ true ∷ []) all) 2 false
    (idle (on_link 2 ∷ closed 1 ∷ laden 4 ∷ []) (true ∷ false ∷ true ∷ true ∷ []) but2)
    ∷ sets (idle (on_link 2 ∷ closed 1 ∷ laden 4 ∷ []) (true ∷ false ∷ true ∷ true ∷ []) all) 3 false
    (idle (on_link 2 ∷ closed 1 ∷ laden 4 ∷ []) (true ∷ false ∷ false ∷ true ∷ []) but3)
    -- an exchange over link 1 and a message that waits stay where another link goes down
    ∷ sets (grouped 3 14 (other ∷ conn ∷ shut ∷ []) (true ∷ false ∷ true ∷ true ∷ []) (memory element2)) 4 false
    (record {
      S = 3;
      N = 14;
      table = other ∷ conn ∷ shut ∷ [];
      links = true ∷ false ∷ true ∷ false ∷ [];
      gauges = but4;
      role = Server;
      exchange = running;
      queue = queue;
      memory = memory element2;
    })
    -- THE TARGET is the lowest active link, of the links after the call
    ∷ moves 1 (true ∷ true ∷ true ∷ true ∷ []) (false ∷ true ∷ true ∷ true ∷ []) but1 2
    ∷ moves 1 (true ∷ false ∷ true ∷ true ∷ []) (false ∷ false ∷ true ∷ true ∷ []) but1 3
    ∷ moves 1 (true ∷ false ∷ false ∷ true ∷ []) (false ∷ false ∷ false ∷ true ∷ []) but1 4
    ∷ moves 2 (true ∷ true ∷ true ∷ true ∷ []) (true ∷ false ∷ true ∷ true ∷ []) but2 1
    ∷ moves 2 (false ∷ true ∷ true ∷ true ∷ []) (false ∷ false ∷ true ∷ true ∷ []) but2 3
    ∷ moves 3 (false ∷ false ∷ true ∷ true ∷ []) (false ∷ false ∷ false ∷ true ∷ []) but3 4
    ∷ moves 4 (true ∷ true ∷ true ∷ true ∷ []) (true ∷ true ∷ true ∷ false ∷ []) but4 1
    ∷ moves 4 (false ∷ true ∷ true ∷ true ∷ []) (false ∷ true ∷ true ∷ false ∷ []) but4 2
    ∷ moves 4 (false ∷ false ∷ true ∷ true ∷ []) (false ∷ false ∷ true ∷ false ∷ []) but4 3
    -- none is active after: all stay
    ∷ sets (idle (on_link 2 ∷ laden 2 ∷ a_sent 2 ∷ []) (false ∷ true ∷ false ∷ false ∷ []) all) 2 false
    (idle (on_link 2 ∷ laden 2 ∷ a_sent 2 ∷ []) (false ∷ false ∷ false ∷ false ∷ []) but2)
    -- WHO MOVES: in slot order; every field of the record but its link stays, T too; one that sent A moves and tells nothing
    ∷ changes (idle (on_link 2 ∷ a_sent 2 ∷ laden 2 ∷ []) (false ∷ true ∷ false ∷ true ∷ []) all) 2 false (from 1 133) 2
    (F ++ (wire 0xFE2C_5565_99AABBCC_0000_89F0_00000006_0000_0000_00000005_E8C0 ++ from 89 45))
    (idle (on_link 4 ∷ a_sent 4 ∷ laden 4 ∷ []) (false ∷ false ∷ false ∷ true ∷ []) but2)
    -- D alone, C alone
    ∷ changes (idle (marks 2 true false ∷ closed 2 ∷ marks 2 false true ∷ []) (true ∷ true ∷ false ∷ false ∷ []) all) 2 false (from 1 132) 2
    (wire 0xFE2C_5565_99AABBCC_0000_89F0_00000006_0000_0000_00000005_0880
    ++ (wire 0xFE2C_5565_99AABBCC_0000_89F0_00000006_0000_0000_00000005_0840 ++ from 89 44))
    (idle (marks 1 true false ∷ closed 2 ∷ marks 1 false true ∷ []) (true ∷ false ∷ false ∷ false ∷ []) but2)
    -- three tell; the numbers before 1, before 0
    ∷ changes (idle (next_is 3 1 ∷ next_is 3 0 ∷ on_link 3 ∷ []) (true ∷ true ∷ true ∷ true ∷ []) all) 3 false (from 1 132) 3
    (wire 0xFE2C_0000_99AABBCC_0000_89F0_00000006_0000_0000_00000005_0800
    ++ (wire 0xFE2C_FFFF_99AABBCC_0000_89F0_00000006_0000_0000_00000005_0800 ++ F))
    (idle (next_is 1 1 ∷ next_is 1 0 ∷ on_link 1 ∷ []) (true ∷ true ∷ false ∷ true ∷ []) but3)
    -- those on other links stay, and one that is not coherent, and a closed one
    ∷ changes (idle (on_link 4 ∷ laden 3 ∷ broken 4 ∷ []) (true ∷ true ∷ true ∷ true ∷ []) all) 4 false (from 1 132) 1 (F ++ from 45 88)
    (idle (on_link 1 ∷ laden 3 ∷ broken 4 ∷ []) (true ∷ true ∷ true ∷ false ∷ []) but4)
    ∷ []

abbrev pub RowsRight : Type 0
RowsRight = Right rows

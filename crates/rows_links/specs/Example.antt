-- Request 2026-01, part 10: "a server with link 1 active", its seven lines, each through `answer` and `next` of the group that the line
-- before it left; two messages that wait, and are taken up in turn; and TEST LINK. Assumes nothing.
use Rattle.std.specs.Prelude.{ℕ, ◌-◌, ◌≡◌, true, false, List, [], ◌∷◌, ◌++◌, replicate}
use Rattle.link_message.specs.declared.Kind.{Kind}
use Rattle.link_message.specs.declared.Kind.TheVariants.{ConfirmLink, AddLink, DeleteLink, ConfirmRkey, TestLink}
use Rattle.link_exchange.specs.declared.Role.TheVariants.{Client, Server}
use Rattle.link_exchange.specs.declared.Exchange.{Exchange}
use Rattle.link_exchange.specs.declared.Queue.{Queue}
use Rattle.link_exchange.specs.declared.Fate.TheVariants.{Taken, Queued, Denied}
use Rattle.link_calls.specs.declared.Fields.{Fields}
use Rattle.group_rules.specs.Rules.{Group, Management, link_message, link_send, manage, refusal, link_heard, link_sent, Done, answer, next}
use Rattle.rows_links.specs.Rows.{ask, re, m02, m04, m06, zeros, octets, at, idle, heard, place, free, waits, nobody, grouped, laid}
use Rattle.rows_links.specs.Rows.{lent, done, none_up, fields_of, up}

-- what each call answers and leaves, one after the other
unfoldable pub played : Group → List Management → List Done
played g [] = []
played g (c ∷ rest) = record { answer = answer g (manage c); group = next g (manage c) } ∷ played (next g (manage c)) rest

-- n bytes, as the page writes them, and zeros to byte 43
abbrev line : ℕ → ℕ → List ℕ
line n x = octets n x ++ zeros (44 - n)

-- the page's values, and zeros to the twelfth
abbrev fields : Kind → List ℕ → Fields
fields k v = record { named = true; kind = k; values = v }

abbrev sends : ℕ → Kind → List ℕ → Management
sends l k vs = link_send l k vs lent

abbrev hears : ℕ → List ℕ → Management
hears l b = link_message l b lent

-- a server with link 1 active, and the exchange and queue that a line leaves
abbrev server : Exchange → Queue → Group
server x q = grouped Server x q (true ∷ false ∷ false ∷ false ∷ []) (replicate 4 heard)

abbrev delete : List ℕ
delete = line 7 0x042C0020020002

abbrev asked : Fields
asked = fields DeleteLink (0 ∷ 0 ∷ 1 ∷ 2 ∷ 131072 ∷ zeros 7)

abbrev one : Queue
one = waits 1 (place 1 delete) free free free

unfoldable pub example : List Management
example =
    sends 1 AddLink (0 ∷ 0 ∷ 0 ∷ 2199023255553 ∷ 18338657682652659712 ∷ 1 ∷ 9 ∷ 2 ∷ 5 ∷ 77 ∷ [])
    ∷ sends 1 AddLink (0 ∷ 0 ∷ 0 ∷ 0 ∷ 0 ∷ 0 ∷ 0 ∷ 3 ∷ 5 ∷ 0 ∷ [])
    ∷ hears 1 delete
    ∷ hears 1 (line 9 0x062C00000100000005)
    ∷ hears 1 (octets 4 0x022C0080 ++ (zeros 22 ++ (octets 5 0x000041_02_05 ++ zeros 13)))
    ∷ sends 2 ConfirmLink (0 ∷ 0 ∷ 0 ∷ 0 ∷ 0 ∷ 2 ∷ 0 ∷ 4 ∷ [])
    ∷ hears 2 (octets 4 0x012C0080 ++ (zeros 25 ++ (octets 6 0x02_00000000_04 ++ zeros 9)))
    ∷ []

unfoldable pub expected : List Done
expected =
    done (link_sent none_up 0) true (line 34 0x022C0000020000000001FE800000000000000000000000000001000009020500004D)
    (server (at 1 1 2) nobody)
    ∷ done (refusal 15) false (zeros 44) (server (at 1 1 2) nobody)
    ∷ done (link_heard asked Queued none_up 0) false (zeros 44) (server (at 1 1 2) one)
    ∷ done (link_heard (fields ConfirmRkey (0 ∷ 0 ∷ 0 ∷ 1 ∷ 5 ∷ zeros 7)) Denied none_up 0) true (line 9 0x062C00B00100000005)
    (server (at 1 1 2) one)
    ∷ done (link_heard (fields AddLink (1 ∷ 0 ∷ 0 ∷ 0 ∷ 0 ∷ 0 ∷ 65 ∷ 2 ∷ 5 ∷ 0 ∷ zeros 2)) Taken none_up 0) false (zeros 44)
    (server (at 2 1 2) one)
    ∷ done (link_sent none_up 0) true (octets 4 0x012C0000 ++ (zeros 25 ++ (octets 6 0x02_00000000_04 ++ zeros 9))) (server (at 4 1 2) one)
    ∷ done
    (link_heard (fields ConfirmLink (1 ∷ 0 ∷ 0 ∷ 0 ∷ 0 ∷ 2 ∷ 0 ∷ 4 ∷ zeros 4)) Taken
    (record { some = true; link = 1; fields = asked; fate = Taken }) 0)
    false (zeros 44)
    (grouped Server idle nobody (true ∷ true ∷ false ∷ false ∷ []) (replicate 4 heard))
    ∷ []

abbrev pub ExampleRight : Type 0
ExampleRight = played (server idle nobody) example ≡ expected

-- FIRST IN, FIRST OUT. A server with its own CONFIRM RKEY running over link 1 hears an 04 over link 2 and an 02 over link 1; the reply to
-- it, and to its next one, takes one up
abbrev first : List ℕ
first = (m04 ask 0 2 0x00010000).heard

abbrev second : List ℕ
second = (m02 ask 0 0 3 5).heard

unfoldable pub turns : List Management
turns =
    hears 2 first
    ∷ hears 1 second
    ∷ hears 1 (m06 re 0 0 2).heard
    ∷ sends 2 ConfirmRkey (m06 ask 0 0 1).values
    ∷ hears 2 (m06 re 1 1 1).heard
    ∷ []

abbrev server6 : Exchange → Queue → Group
server6 x q = grouped Server x q (true ∷ true ∷ false ∷ false ∷ []) (replicate 4 heard)

unfoldable pub in_turn : List Done
in_turn =
    done (link_heard (fields_of (m04 ask 0 2 0x00010000)) Queued none_up 0) false (zeros 44)
    (server6 (at 6 1 0) (waits 1 (place 2 first) free free free))
    ∷ done (link_heard (fields_of (m02 ask 0 0 3 5)) Queued none_up 0) false (zeros 44)
    (server6 (at 6 1 0) (waits 2 (place 2 first) (place 1 second) free free))
    ∷ done (link_heard (fields_of (m06 re 0 0 2)) Taken (up 2 (m04 ask 0 2 0x00010000) Taken) 0) false (zeros 44)
    (server6 idle (waits 1 (place 1 second) free free free))
    ∷ done (link_sent none_up 0) true (m06 ask 0 0 1).written (server6 (at 6 2 0) (waits 1 (place 1 second) free free free))
    ∷ done (link_heard (fields_of (m06 re 1 1 1)) Taken (up 1 (m02 ask 0 0 3 5) Taken) 0) false (zeros 44) (server6 idle nobody)
    ∷ []

abbrev pub TurnsRight : Type 0
TurnsRight = played (laid Server (at 6 1 0)) turns ≡ in_turn

-- TEST LINK is answered with the same 16 bytes; what stands behind them is not looked at
unfoldable pub tests : List Management
tests = hears 1 (octets 4 0x072C0000 ++ (octets 16 0x0102030405060708090A0B0C0D0E0F10 ++ replicate 24 0xFF)) ∷ []

abbrev client : Group
client = grouped Client idle nobody (true ∷ false ∷ false ∷ false ∷ []) (replicate 4 heard)

unfoldable pub tested : List Done
tested =
    done (link_heard (fields TestLink (0 ∷ 0x0102030405060708 ∷ 0x090A0B0C0D0E0F10 ∷ zeros 9)) Taken none_up 0) true
    (line 20 0x072C0080_0102030405060708090A0B0C0D0E0F10) client
    ∷ []

abbrev pub TestLinkRight : Type 0
TestLinkRight = played client tests ≡ tested

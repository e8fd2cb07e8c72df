-- Request 2026-04's rows: scenarios 5 and 6 with each message byte for byte (their slips: DECISIONS D21), and the edges of urgent places.
-- They are played as those of `Vectors` are, by `answer` and `next`. proofs/Urgent has their one theorem. Assumes nothing.
use Rattle.std.specs.Prelude.{ℕ, ◌+◌, ◌*◌, ◌^◌, ◌≡◌, true, false, List, [], ◌∷◌, map}
use Rattle.std.proofs.Math.Option.{none}
use Rattle.cursor.specs.declared.Cursor.{Cursor}
use Rattle.closing.specs.declared.State.TheVariants.{Active}
use Rattle.element.specs.Element.{fresh_element}
use Rattle.conn_record.specs.declared.Record.{Record}
use Rattle.conn_record.specs.Connection.{no_place, place_at}
use Rattle.group_rules.specs.Rules.{Group, send, urgent, read, abort, on, refusal, accepted, sent, was_read_of, heard}
use Rattle.rows_calls.specs.Vectors.{cur, start, inwards, outwards, unmarked, token_a, token_b, laid, a_group, host_a, host_b, bytes}
use Rattle.rows_calls.specs.Vectors.{placing, gives, slot, Vector, plays, found, hears, told}

-- A's messages of scenarios 5 and 6 with the 500 urgent bytes, P and U on, and with the 1,000 after them; B's that tell up to an offset:
-- the wrap number and the sequence number are left open
abbrev pub a_urgent : ℕ → ℕ → ℕ
a_urgent w s = 0xFE2C_0000_01020304_0000_0000_000005DC_0000_0000_00000004_6000 + s * 256 ^ 22 + w * 256 ^ 14

abbrev pub a_after : ℕ → ℕ → ℕ
a_after w s = 0xFE2C_0000_01020304_0000_0000_000009C4_0000_0000_00000004_0000 + s * 256 ^ 22 + w * 256 ^ 14

abbrev pub b1000 : ℕ → ℕ → ℕ
b1000 w s = 0xFE2C_0000_0A0B0C0D_0000_0000_00000004_0000_0000_000003E8_0000 + s * 256 ^ 22 + w * 256 ^ 6

abbrev pub b1500 : ℕ → ℕ → ℕ
b1500 w s = 0xFE2C_0000_0A0B0C0D_0000_0000_00000004_0000_0000_000005DC_0000 + s * 256 ^ 22 + w * 256 ^ 6

-- scenario 6's hosts: a full element, and B told
abbrev pub shut_a : Record
shut_a =
    laid token_a token_b 10000 (inwards start start start)
    (record { producer = cur 1000 2; consumer = cur 1000 1; next = 1; blocked = true; urgent = no_place }) unmarked

-- A, once the 500 bytes are sent
abbrev pub waiting_a : Record
waiting_a =
    laid token_a token_b 10000
    (record { producer = start; consumer = start; told = start; last = 1; blocked = false; request = false; urgent = no_place })
    (record { producer = cur 1500 2; consumer = cur 1000 2; next = 3; blocked = false; urgent = place_at (cur 1500 2) }) unmarked

abbrev pub shut_b : Record
shut_b =
    laid token_b token_a 10000
    (record { producer = cur 1000 2; consumer = cur 1000 1; told = cur 1000 1; last = 0; blocked = true; request = false; urgent = no_place })
    (outwards start start) unmarked

-- a connection with an urgent place of its own at a cursor, R at (5,0) and Q at (7,0); and with one in its element, C at (5,0), P at (7,0)
abbrev pub own_at : Cursor → Group
own_at u =
    a_group 1 8
    (laid token_a token_b 8 (inwards start start start)
    (record { producer = cur 7 0; consumer = cur 5 0; next = 1; blocked = false; urgent = place_at u }) unmarked
    ∷ [])
    (fresh_element 8)

abbrev pub theirs_at : Cursor → Group
theirs_at u =
    a_group 1 8
    (laid token_b token_a 8
    (record { producer = cur 7 0; consumer = cur 5 0; told = start; last = 0; blocked = false; request = false; urgent = place_at u })
    (outwards start start) unmarked
    ∷ [])
    (fresh_element 8)

-- THE ROWS.
unfoldable pub urgents : List Vector
urgents =
    -- SCENARIO 5. Both stand at (1000,1); A sends 500 urgent bytes: P and U are on, and nothing is sent until they are read
    plays (host_a 10000 (cur 1000 1) (cur 1000 1))
    (gives (on 1 (urgent (bytes 500))) (sent 500 (placing 1000 0 500 ∷ [])) (told (a_urgent 1 1))
    ∷ gives (on 1 (send (bytes 1000))) (sent 0 []) none
    ∷ gives (on 1 (urgent (bytes 1))) (sent 0 []) none
    ∷ gives (hears (b1000 1 1)) (heard 0 Active) none
    ∷ gives (on 1 (send (bytes 1000))) (sent 0 []) none
    ∷ gives (hears (b1500 1 2)) (heard 0 Active) none
    ∷ gives (on 1 (send (bytes 1000))) (sent 1000 (placing 1500 0 1000 ∷ [])) (told (a_after 1 2))
    ∷ [])
    -- B makes one message when it hears of them and one when they are read, whatever the window; the 1,000 bytes need none
    ∷ plays (host_b 10000 (cur 1000 1) (cur 1000 1) (cur 1000 1))
    (gives (hears (a_urgent 1 1)) (heard 500 Active) (told (b1000 1 1))
    ∷ gives (on 1 (read (bytes 10000))) (was_read_of 500) (told (b1500 1 2))
    ∷ gives (hears (a_after 1 2)) (heard 1000 Active) none
    ∷ gives (on 1 (read (bytes 10000))) (was_read_of 1000) none
    ∷ [])
    -- a read that stops a byte before them is not told, the next is
    ∷ plays (host_b 100 start start start)
    (gives (hears 0xFE2C_0001_01020304_0000_0000_00000007_0000_0000_00000004_6000) (heard 3 Active)
    (told 0xFE2C_0001_0A0B0C0D_0000_0000_00000004_0000_0000_00000004_0000)
    ∷ gives (on 1 (read (bytes 2))) (was_read_of 2) none
    ∷ gives (on 1 (read [])) (was_read_of 0) none
    ∷ gives (on 1 (read (bytes 2))) (was_read_of 1) (told 0xFE2C_0002_0A0B0C0D_0000_0000_00000004_0000_0000_00000007_0000)
    ∷ [])
    -- SCENARIO 6. The window is closed: 500 urgent bytes are cut short at 0, and a message with P and no U tells it, B told or not
    ∷ plays (a_group 1 8 (shut_a ∷ []) (fresh_element 8))
    (gives (on 1 (urgent (bytes 500))) (sent 0 []) (told 0xFE2C_0001_01020304_0000_0002_000003E8_0000_0000_00000004_C000)
    ∷ gives (hears (b1000 2 1)) (heard 0 Active) none
    ∷ gives (on 1 (urgent (bytes 500))) (sent 500 (placing 1000 0 500 ∷ [])) (told (a_urgent 2 2))
    ∷ gives (on 1 (send (bytes 1000))) (sent 0 []) none
    ∷ slot 1 waiting_a
    ∷ [])
    ∷ plays (a_group 1 8 (waiting_a ∷ []) (fresh_element 8))
    (gives (hears (b1000 2 2)) (heard 0 Active) none
    ∷ gives (hears (b1500 2 3)) (heard 0 Active) none
    ∷ gives (on 1 (send (bytes 1000))) (sent 1000 (placing 1500 0 1000 ∷ [])) (told (a_after 2 3))
    ∷ [])
    -- B does not look at P
    ∷ plays (a_group 1 10000 (shut_b ∷ []) (fresh_element 10000))
    (gives (hears 0xFE2C_0001_01020304_0000_0002_000003E8_0000_0000_00000004_C000) (heard 0 Active) none
    ∷ gives (on 1 (read (bytes 10000))) (was_read_of 9996) (told (b1000 2 1))
    ∷ gives (hears (a_urgent 2 2)) (heard 500 Active) (told (b1000 2 2))
    ∷ gives (on 1 (read (bytes 10000))) (was_read_of 500) (told (b1500 2 3))
    ∷ gives (hears (a_after 2 3)) (heard 1000 Active) none
    ∷ gives (on 1 (read (bytes 10000))) (was_read_of 1000) none
    ∷ [])
    -- URGENT PLACES. An urgent send that is cut short at 4 of 6 sets none: no later message has P, and a plain send goes on
    ∷ plays (host_a 8 (cur 7 0) (cur 7 0))
    (gives (on 1 (urgent (bytes 6))) (sent 4 (placing 7 0 1 ∷ placing 4 1 3 ∷ []))
    (told 0xFE2C_0001_01020304_0000_0001_00000007_0000_0000_00000004_C000)
    ∷ gives (on 1 (urgent [])) (sent 0 []) none
    ∷ gives (hears 0xFE2C_0001_0A0B0C0D_0000_0000_00000004_0000_0001_00000005_0000) (heard 0 Active) none
    ∷ gives (on 1 (send (bytes 2))) (sent 2 (placing 7 0 1 ∷ placing 4 1 1 ∷ []))
    (told 0xFE2C_0002_01020304_0000_0002_00000005_0000_0000_00000004_0000)
    ∷ [])
    -- while one stands an abort message has P and U too; U without a moved P does nothing; with U and R one message is made
    ∷ plays (host_a 10000 (cur 1000 1) (cur 1000 1))
    (gives (on 1 (urgent (bytes 500))) (sent 500 (placing 1000 0 500 ∷ [])) (told (a_urgent 1 1))
    ∷ gives (on 1 abort) accepted (told (a_urgent 1 2 + 0x20))
    ∷ [])
    ∷ plays (host_b 8 start start start)
    (gives (hears 0xFE2C_0001_01020304_0000_0000_00000004_0000_0000_00000004_6000) (heard 0 Active) none ∷ [])
    ∷ plays (host_b 8 (cur 5 0) (cur 5 0) start)
    (gives (hears 0xFE2C_0001_01020304_0000_0000_00000007_0000_0000_00000004_7000) (heard 2 Active)
    (told 0xFE2C_0001_0A0B0C0D_0000_0000_00000004_0000_0000_00000005_0000)
    ∷ [])
    -- one that stands lies after R up to Q, or 3; likewise after C up to P
    ∷ plays (own_at (cur 5 0)) (gives (on 1 (send [])) (refusal 3) none ∷ [])
    ∷ plays (own_at (cur 6 0)) (gives (on 1 (send [])) (sent 0 []) none ∷ [])
    ∷ plays (own_at (cur 7 0)) (gives (on 1 (send [])) (sent 0 []) none ∷ [])
    ∷ plays (own_at (cur 4 1)) (gives (on 1 (send [])) (refusal 3) none ∷ [])
    ∷ plays (own_at (cur 8 0)) (gives (on 1 (send [])) (refusal 3) none ∷ [])
    ∷ plays (theirs_at (cur 5 0)) (gives (on 1 (read [])) (refusal 3) none ∷ [])
    ∷ plays (theirs_at (cur 6 0)) (gives (on 1 (read [])) (was_read_of 0) none ∷ [])
    ∷ plays (theirs_at (cur 7 0)) (gives (on 1 (read [])) (was_read_of 0) none ∷ [])
    ∷ plays (theirs_at (cur 4 1)) (gives (on 1 (read [])) (refusal 3) none ∷ [])
    -- and one before Q is passed by a byte, or reached
    ∷ plays (own_at (cur 6 0))
    (gives (hears 0xFE2C_0001_0A0B0C0D_0000_0000_00000004_0000_0000_00000006_0000) (heard 0 Active) none
    ∷ gives (on 1 (send (bytes 1))) (sent 1 (placing 7 0 1 ∷ [])) (told 0xFE2C_0001_01020304_0000_0001_00000004_0000_0000_00000004_0000)
    ∷ [])
    ∷ []

abbrev pub UrgentRight : Type 0
UrgentRight = map found urgents ≡ urgents

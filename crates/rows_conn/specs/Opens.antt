-- Open (document 01; requests 2026-06 and 2026-09): "zeroes the element, writes the eye catcher, sets all cursors to offset 4, wrap 0,
-- next sequence 1, last heard 0, marks off". Refusals: 1, 2, 10, 12, 13, 6, 11, each row with the faults that are tested later. Sample
-- (request 2026-10): 13, 6, 17. Assumes nothing.
use Rattle.std.specs.Prelude.{ℕ, Bool, true, false, List, [], ◌∷◌, ◌++◌, pos, Float}
use Rattle.std.specs.Float.{fin, binary64}
use Rattle.std.specs.Float.Ieee.{of_bits}
use Rattle.gauge.specs.declared.Gauge.{Gauge}
use Rattle.gauge.specs.declared.Health.TheVariants.{Steady}
use Rattle.link_exchange.specs.declared.Role.TheVariants.{Server}
use Rattle.conn_record.specs.declared.Record.{Record}
use Rattle.conn_record.specs.declared.Remote.{Remote}
use Rattle.group_rules.specs.Rules.{Group, Call, open_slot, sample, manage, accepted, sampled}
use Rattle.rows_conn.specs.Rows.{from, zeros, cur, rtoken, no_urgent, none, who, far, inw, outw, rec, key1, key2, key3, key4, conn}
use Rattle.rows_conn.specs.Rows.{other, shut, with_me, gauge, running, queue, grouped, element2, memory, links13, group, Row}
use Rattle.rows_conn.specs.Rows.{silent, refused, Right}

abbrev asks : ℕ → ℕ → ℕ → ℕ → Remote → Call
asks k own peer l r = manage (open_slot k (record { own = own; peer = peer; link = l; remote = r }))

abbrev theirs : Remote
theirs = far 300 200 key4 key1 key2 key3

-- slot 3, which was closed and held another record and bytes 29 to 42: the whole record, and its element, N 14
abbrev opened : ℕ → ℕ → ℕ → Remote → Record
opened own peer l r =
    rec (who own peer l) r (inw (cur 4 0) (cur 4 0) (cur 4 0) 0 false false no_urgent) (outw (cur 4 0) (cur 4 0) 1 false no_urgent) none

abbrev third : List Bool → Record → List ℕ → Group
third l c e = grouped 3 14 (other ∷ conn ∷ c ∷ []) l (from 1 14 ++ (element2 ++ e))

abbrev eyed : List ℕ
eyed = 0xE2 ∷ 0xD4 ∷ 0xC3 ∷ 0xD9 ∷ zeros 10

abbrev opens_on : List Bool → ℕ → ℕ → ℕ → Remote → Row
opens_on l own peer k r = silent (third l shut (from 29 14)) (asks 3 own peer k r) accepted (third l (opened own peer k r) eyed)

abbrev up : List Bool
up = true ∷ true ∷ true ∷ true ∷ []

abbrev down : List Bool
down = false ∷ false ∷ false ∷ false ∷ []

-- 12, with a link that is none; 6 and 11 would be next
abbrev twelve : ℕ → ℕ → Remote → Row
twelve own peer r = refused (third down shut (from 29 14)) (asks 3 own peer 5 r) 12

-- an own token that slot 2 holds
abbrev taken : ℕ
taken = 0x0A0B0C0D

abbrev sized : ℕ → ℕ → Remote
sized size index = far size index key1 key2 key3 key4

-- index 5 and N' 20: the last byte is base + 99
abbrev based : ℕ → ℕ → ℕ → ℕ → Remote
based a b c d = far 20 5 (rtoken 1 a) (rtoken 2 b) (rtoken 3 c) (rtoken 4 d)

-- a memory of 41 bytes
abbrev short : Group
short = grouped 3 14 (other ∷ conn ∷ shut ∷ []) links13 (from 1 41)

abbrev opens : List Row
opens =
    -- on each link, it alone active; tokens that a closed slot holds, or an open one as its peer's, are free
    opens_on (true ∷ false ∷ false ∷ false ∷ []) 0x21222324 0x31323334 1 theirs
    ∷ opens_on (false ∷ true ∷ false ∷ false ∷ []) 0x0C0C0C0C 0x0A0B0C0D 2 theirs
    ∷ opens_on (false ∷ false ∷ true ∷ false ∷ []) 0x11223344 0x0D0D0D0D 3 theirs
    ∷ opens_on (false ∷ false ∷ false ∷ true ∷ []) 1 1 4 theirs
    -- the edges of N', of the index and of the bases
    ∷ opens_on up 0xFFFFFFFF 0xFFFFFFFF 1 (sized 8 1)
    ∷ opens_on up 0xFFFFFFFF 0xFFFFFFFF 1 (sized 65540 255)
    ∷ opens_on up 5 6 1 (based 0xFFFFFFFFFFFFFF9C 2 3 4)
    ∷ opens_on up 5 6 1 (based 1 0xFFFFFFFFFFFFFF9C 3 4)
    ∷ opens_on up 5 6 1 (based 1 2 0xFFFFFFFFFFFFFF9C 4)
    ∷ opens_on up 5 6 1 (based 1 2 3 0xFFFFFFFFFFFFFF9C)
    -- 1, 2
    ∷ refused short (asks 0 0 0 5 (sized 7 0)) 1
    ∷ refused (group conn) (asks 0 0 0 5 (sized 7 0)) 2
    ∷ refused (group conn) (asks 4 0 0 5 (sized 7 0)) 2
    -- 10: open, coherent or not
    ∷ refused (group conn) (asks 2 0 0 5 (sized 7 0)) 10
    ∷ refused (group (with_me (who 0 0 0))) (asks 2 0 0 5 (sized 7 0)) 10
    -- 12: a zero token, N', the index, the last byte on each link
    ∷ twelve 0 5 theirs
    ∷ twelve taken 0 theirs
    ∷ twelve taken 5 (sized 7 5)
    ∷ twelve taken 5 (sized 65541 5)
    ∷ twelve taken 5 (sized 20 0)
    ∷ twelve taken 5 (sized 20 256)
    ∷ twelve taken 5 (based 0xFFFFFFFFFFFFFF9D 2 3 4)
    ∷ twelve taken 5 (based 1 0xFFFFFFFFFFFFFF9D 3 4)
    ∷ twelve taken 5 (based 1 2 0xFFFFFFFFFFFFFF9D 4)
    ∷ twelve taken 5 (based 1 2 3 0xFFFFFFFFFFFFFF9D)
    -- 13, 6, 11
    ∷ refused (third down shut (from 29 14)) (asks 3 taken 5 0 theirs) 13
    ∷ refused (third down shut (from 29 14)) (asks 3 taken 5 5 theirs) 13
    ∷ refused (third (false ∷ true ∷ true ∷ true ∷ []) shut (from 29 14)) (asks 3 taken 5 1 theirs) 6
    ∷ refused (third (true ∷ true ∷ true ∷ false ∷ []) shut (from 29 14)) (asks 3 taken 5 4 theirs) 6
    ∷ refused (third up shut (from 29 14)) (asks 3 taken 5 1 theirs) 11
    ∷ refused (third up shut (from 29 14)) (asks 3 0x01010101 5 1 theirs) 11
    ∷ refused (grouped 3 14 (other ∷ shut ∷ conn ∷ []) up (memory element2)) (asks 2 taken 5 1 theirs) 11
    ∷ []

-- SAMPLES. Links 1 and 3 are active; link 3 has no sample yet. Its first, 100, is its mean and its worst; the other gauges stay, and S,
-- N, the memory and the table are not looked at
abbrev hundred : Float
hundred = of_bits binary64 0x4059000000000000

abbrev gauged : List ℕ → Gauge → Group
gauged m q =
    record {
      S = 3;
      N = 14;
      table = other ∷ conn ∷ shut ∷ [];
      links = links13;
      gauges = gauge 1 ∷ gauge 3 ∷ q ∷ gauge 7 ∷ [];
      role = Server;
      exchange = running;
      queue = queue;
      memory = m;
    }

abbrev cleared : Gauge
cleared = record { mean = fin false 0 (pos 0); worst = fin false 0 (pos 0); count = 0; late = false }

abbrev once : Gauge
once = record { mean = hundred; worst = hundred; count = 1; late = false }

-- 100 and then 420: the mean is 140, and 420 is not above 4 x 100 + 20
abbrev mean140 : Float
mean140 = of_bits binary64 0x4061800000000000

abbrev again : Gauge
again = record { mean = mean140; worst = of_bits binary64 0x407A400000000000; count = 2; late = false }

-- 60,000 is the most
abbrev most : Float
most = of_bits binary64 0x40ED4C0000000000

abbrev longest : Gauge
longest = record { mean = most; worst = most; count = 1; late = false }

abbrev samples : List Row
samples =
    silent (gauged (memory element2) cleared) (manage (sample 3 100)) (sampled (Steady hundred)) (gauged (memory element2) once)
    ∷ silent (gauged (memory element2) once) (manage (sample 3 420)) (sampled (Steady mean140)) (gauged (memory element2) again)
    ∷ silent (gauged (memory element2) cleared) (manage (sample 3 60000)) (sampled (Steady most)) (gauged (memory element2) longest)
    ∷ silent (gauged [] cleared) (manage (sample 3 100)) (sampled (Steady hundred)) (gauged [] once)
    ∷ refused (group conn) (manage (sample 0 60001)) 13
    ∷ refused (group conn) (manage (sample 5 60001)) 13
    ∷ refused (group conn) (manage (sample 2 60001)) 6
    ∷ refused (group conn) (manage (sample 4 60001)) 6
    ∷ refused (group conn) (manage (sample 3 60001)) 17
    ∷ []

unfoldable pub rows : List Row
rows = opens ++ samples

abbrev pub RowsRight : Type 0
RowsRight = Right rows

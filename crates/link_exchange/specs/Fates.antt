-- Request 2026-01, parts 3 to 5: exchange against arriving message, and what may be sent.
-- Assumes nothing.
use Rattle.std.specs.Prelude.{ℕ, Bool, true, false, ◌&&◌, ◌||◌, not, cond, List, [], ◌∷◌, get_or, leb, eqb}
use Rattle.link_exchange.specs.declared.Exchange.{Exchange}
use Rattle.link_exchange.specs.declared.Fate.{Fate}
use Rattle.link_exchange.specs.declared.Fate.TheVariants.{Taken, Queued, Denied, Dropped}
use Rattle.link_exchange.specs.declared.Touch.{Touch}
use Rattle.link_exchange.specs.declared.Touch.TheVariants.{Nothing, Up, Down, All}
use Rattle.link_exchange.specs.declared.Said.{Said}
use Rattle.link_exchange.specs.Exchange.{none, add, no_exchange, sort_of, due_b, went_on, due_touch}

-- the table's lines, by number
unfoldable pub arriving_of : Said → ℕ
arriving_of m =
    cond (eqb m.kind 0x07) 9
    (cond m.reply 10
    (cond (eqb m.kind 0x01) 0
    (cond (eqb m.kind 0x02) (cond m.client 1 2)
    (cond (eqb m.kind 0x04) (cond m.a 5 (cond m.client 3 4))
    (cond (eqb m.kind 0x06 || eqb m.kind 0x08) (cond m.client 6 7)
    (cond (eqb m.kind 0x09) 8 10))))))

-- an empty place is dropped
abbrev □ : Fate
□ = Dropped

-- columns none, add, delete, rkey
unfoldable pub fates : List (List Fate)
fates =
    (□ ∷ □ ∷ □ ∷ Queued ∷ [])  -- 0: 01 request
    ∷ (Taken ∷ □ ∷ Queued ∷ Queued ∷ [])  -- 1: 02 request from client
    ∷ (Taken ∷ □ ∷ □ ∷ Taken ∷ [])  -- 2: 02 request from server
    ∷ (Taken ∷ Queued ∷ Queued ∷ Queued ∷ [])  -- 3: 04 request without A from client
    ∷ (Taken ∷ □ ∷ □ ∷ Taken ∷ [])  -- 4: 04 request without A from server
    ∷ (Taken ∷ Taken ∷ Taken ∷ Taken ∷ [])  -- 5: 04 request with A
    ∷ (Taken ∷ Denied ∷ Denied ∷ Taken ∷ [])  -- 6: 06, 08 request from client
    ∷ (Taken ∷ □ ∷ □ ∷ Taken ∷ [])  -- 7: 06, 08 request from server
    ∷ (Taken ∷ □ ∷ □ ∷ Taken ∷ [])  -- 8: 09 request
    ∷ (Taken ∷ Taken ∷ Taken ∷ Taken ∷ [])  -- 9: 07
    ∷ (□ ∷ □ ∷ □ ∷ □ ∷ [])  -- 10: all else
    ∷ []

unfoldable pub fate_at : ℕ → ℕ → Fate
fate_at k sort = get_or (get_or fates k []) sort Dropped

-- the fates' numbers
abbrev pub fate_number : Fate → ℕ
fate_number Taken = 0
fate_number Queued = 1
fate_number Denied = 2
fate_number Dropped = 3

unfoldable pub fate_named : ℕ → Fate
fate_named k = cond (eqb k 0) Taken (cond (eqb k 1) Queued (cond (eqb k 2) Denied Dropped))

abbrev pub is_fate : Fate → Fate → Bool
is_fate a b = eqb (fate_number a) (fate_number b)

-- "02 from server, mtu 0 or above 5: nothing; the fate is denied"
unfoldable pub bad_mtu : Said → Bool
bad_mtu m = eqb (arriving_of m) 2 && not (leb 1 m.mtu && leb m.mtu 5)

abbrev pub or_denied : Said → Fate → Fate
or_denied m f = cond (bad_mtu m && is_fate f Taken) Denied f

-- "the fate is taken if the message is due, else the table's"
unfoldable pub fate_of : Exchange → ℕ → Said → Fate
fate_of x l m = cond (due_b x l m) Taken (or_denied m (fate_at (arriving_of m) (sort_of x)))

-- 14. "The link field of 01, 02, 03 and 04, but not of an 02 request from the client, an 02 reply with Z or an 04 with A"
unfoldable pub acts_b : Said → Bool
acts_b m =
    eqb m.kind 0x01
    || (eqb m.kind 0x02 && not (m.reply && m.z || (not m.reply && m.client))
    || (eqb m.kind 0x03
    || (eqb m.kind 0x04 && not m.a)))

unfoldable pub outside_b : Said → Bool
outside_b m = acts_b m && not (leb 1 m.link && leb m.link 4)

-- what a message does that is not due: to the exchange, and to the links
abbrev pub started : ℕ → ℕ → ℕ → Exchange
started s l w = record { stage = s; v = l; w = w }

-- f: its fate's number
unfoldable pub taken_exchange : Exchange → ℕ → Said → ℕ → Exchange
taken_exchange x l m f = cond (eqb (arriving_of m) 2 && eqb f (fate_number Taken)) (started 1 l m.link) x

unfoldable pub taken_touch : Said → ℕ → Touch
taken_touch m f =
    cond (eqb (arriving_of m) 4 && eqb f (fate_number Taken)) (Down m.link)
    (cond (eqb (arriving_of m) 5 && eqb f (fate_number Taken)) All Nothing)

-- 15. What may be sent that is not due: "07 request; 04 request with A; client's 04 request without A: always"; "client's 02 request: sort
-- not add"; "server's 02 request, server's 04 request without A, 06 request, 09 request: stage 0"
unfoldable pub may_send : Exchange → Said → Bool
may_send x m =
    not m.reply
    && (eqb m.kind 0x07
    || (eqb m.kind 0x04 && (m.a || m.client)
    || (eqb m.kind 0x02 && (m.client && not (eqb (sort_of x) add))
    || (eqb x.stage 0
    && (eqb m.kind 0x02 || (eqb m.kind 0x04 || (eqb m.kind 0x06 || eqb m.kind 0x09)))))))

-- the exchange that it begins
unfoldable pub sent_exchange : Exchange → ℕ → Said → Exchange
sent_exchange x l m =
    cond (eqb m.kind 0x02 && not m.client) (started 1 l m.link)
    (cond (eqb m.kind 0x04 && not (m.a || m.client)) (started 5 l m.link)
    (cond (eqb m.kind 0x06) (started (cond (leb m.num 2) 6 7) l 0)
    (cond (eqb m.kind 0x09) (started 11 l 0) x)))

unfoldable pub sent_touch : Said → Touch
sent_touch m = cond (eqb m.kind 0x04 && m.a) All Nothing

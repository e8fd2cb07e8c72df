-- The replay format's lines of 2026-01 and 2026-13 that are no calls: which links each leaves, of the links l and the bytes read with the
-- line; and what is read for a call. Assumes nothing.
use Rattle.std.specs.Prelude.{ℕ, ◌+◌, ◌*◌, min, Bool, Option, Some, None, List, [], ◌∷◌}
use Rattle.layout.specs.Layout.{number_at, bytes_at}
use Rattle.link_exchange.specs.declared.Role as Roles
use Rattle.link_exchange.specs.declared.Waiting.{Waiting}
use Rattle.link_exchange.specs.declared.Queue as Queues
use Rattle.group_table.specs.declared.Links.{Links}
use Rattle.group_table.specs.Table.{exchange_set}
use Rattle.text_link_read.specs.declared.LinkLine.{LinkLine}
use Rattle.text_link_read.specs.declared.LinkLine.TheVariants.{Role, States, Exchange, Queue}

-- twelve values of eight bytes each
abbrev pub values_in : List ℕ → List ℕ
values_in b =
    number_at b 0 8 ∷ number_at b 8 8 ∷ number_at b 16 8 ∷ number_at b 24 8 ∷ number_at b 32 8 ∷ number_at b 40 8 ∷ number_at b 48 8
    ∷ number_at b 56 8 ∷ number_at b 64 8 ∷ number_at b 72 8 ∷ number_at b 80 8 ∷ number_at b 88 8 ∷ []

-- a link and 44 bytes; a count and four of these
abbrev pub waiting_in : List ℕ → ℕ → Waiting
waiting_in b at = record { link = number_at b at 1; bytes = bytes_at b (at + 1) 44 }

abbrev pub queue_in : List ℕ → Queues.Queue
queue_in b = record { count = number_at b 0 1; places = waiting_in b 1 ∷ waiting_in b 46 ∷ waiting_in b 91 ∷ waiting_in b 136 ∷ [] }

abbrev pub role_set : Links → Roles.Role → Links
role_set l r = record { active = l.active; gauges = l.gauges; role = r; exchange = l.exchange; queue = l.queue }

-- the states of links 1 to 4
abbrev pub states_set : Links → Bool → Bool → Bool → Bool → Links
states_set l a b c d =
    record { active = a ∷ b ∷ c ∷ d ∷ []; gauges = l.gauges; role = l.role; exchange = l.exchange; queue = l.queue }

-- each lays in what it names
abbrev pub left_of : Links → List ℕ → LinkLine → Links
left_of l given (Role r) = role_set l r
left_of l given (States a b c d) = states_set l a b c d
left_of l given (Exchange x) = exchange_set l x l.queue
left_of l given Queue = exchange_set l l.exchange (queue_in given)

-- the buffer of a call: ROOM bytes, or 44 a slot of at most 300
abbrev pub room_of : ℕ → Option ℕ → ℕ
room_of s None = 44 * min s 300
room_of s (Some n) = n

-- What the calls of management are made of. Assumes nothing.
use Rattle.std.specs.Prelude.{ℕ, List}
use Rattle.conn_record.specs.declared.Record.{Record}
use Rattle.group_table.specs.declared.Links.{Links}
use Rattle.group_rules.specs.Rules as Rules
use Rattle.group_rules.specs.Promises.{Shown, open_record, free_record, sample_record}
use Rattle.conn_record.specs.declared.Opening.{Opening}
use Rattle.group_calls.specs.declared.View.{View}
use Rattle.group_desk.specs.declared.Management.{Management}
use Rattle.group_desk.specs.declared.Management.TheVariants as Calls

-- the rules' call that the code's names
abbrev pub management_of : Management → Rules.Management
management_of (Calls.Open k given) = Rules.Management.open_slot k given
management_of (Calls.Free k) = Rules.Management.free_slot k
management_of (Calls.Sample l ms) = Rules.Management.sample l ms

-- the own token that an open looks for; 0 for none
abbrev pub token_of : Management → ℕ
token_of (Calls.Open k given) = given.own
token_of (Calls.Free k) = 0
token_of (Calls.Sample l ms) = 0

-- the slot whose record it may change; 0 for none
abbrev pub slot_of_all : Management → ℕ
slot_of_all (Calls.Open k given) = k
slot_of_all (Calls.Free k) = k
slot_of_all (Calls.Sample l ms) = 0

-- what each answers and leaves, of what it is given
abbrev pub manage_record : ℕ → ℕ → List ℕ → ℕ → Links → ℕ → Record → Management → Shown
manage_record s n m count links holder c (Calls.Open k given) = open_record s n m count links holder k c given
manage_record s n m count links holder c (Calls.Free k) = free_record s n m count links k c
manage_record s n m count links holder c (Calls.Sample l ms) = sample_record s n m links c l ms

-- the same of a view
abbrev pub open_view : View → List ℕ → ℕ → ℕ → Opening → Shown
open_view v m holder k given = open_record v.s v.n m v.count v.links holder k v.rec given

abbrev pub free_view : View → List ℕ → ℕ → Shown
free_view v m k = free_record v.s v.n m v.count v.links k v.rec

abbrev pub manage_view : View → List ℕ → ℕ → Management → Shown
manage_view v m holder call = manage_record v.s v.n m v.count v.links holder v.rec call

-- Any one call of the code as the rules' call, and what `make` is made of. Assumes nothing.
use Rattle.std.specs.Prelude.{ℕ, ◌≡◌, List, []}
use Rattle.conn_record.specs.declared.Record.{Record}
use Rattle.group_table.specs.declared.Links.{Links}
use Rattle.group_calls.specs.Calls.{request_of, token_in}
use Rattle.group_calls.specs.Calls as Calls
use Rattle.group_calls.specs.declared.View.{View}
use Rattle.group_desk.specs.Management.{management_of, manage_record}
use Rattle.group_desk.specs.Management as Management
use Rattle.group_rules.specs.Rules.{Call}
use Rattle.group_rules.specs.Promises.{Shown, on_record, hear_record}
use Rattle.group_make.specs.declared.Command.{Command}
use Rattle.group_make.specs.declared.Command.TheVariants.{On, Hear, Manage}

-- the call that a command names, with what is lent
abbrev pub call_of : Command → List ℕ → List ℕ → Call
call_of (On k q) b out = Call.on k (request_of q b out)
call_of Hear b out = Call.hear b
call_of (Manage d) b out = Call.manage (management_of d)

-- the token that it looks for; 0 for none
abbrev pub token_of : Command → List ℕ → ℕ
token_of (On k q) b = 0
token_of Hear b = token_in b
token_of (Manage d) b = Management.token_of d

-- the slot whose record it may change, where the slot `holder` has the token; 0 for none
abbrev pub slot_of_all : Command → ℕ → ℕ
slot_of_all (On k q) holder = k
slot_of_all Hear holder = holder
slot_of_all (Manage d) holder = Management.slot_of_all d

-- the out buffer is a read's alone, and any other call leaves it as it was
abbrev pub out_left : Command → List ℕ → List ℕ
out_left (On k q) left = Calls.out_left q left
out_left Hear left = []
out_left (Manage d) left = []

abbrev pub OutKept : Command → List ℕ → List ℕ → Type 0
OutKept (On k q) out left = Calls.OutKept q out left
OutKept Hear out left = left ≡ out
OutKept (Manage d) out left = left ≡ out

-- what it answers and leaves, of the record that it is shown
abbrev pub command_record : ℕ → ℕ → List ℕ → ℕ → Links → ℕ → Record → Command → List ℕ → List ℕ → Shown
command_record s n m count links holder c (On k q) b out = on_record s n m count links k c (request_of q b out)
command_record s n m count links holder c Hear b out = hear_record s n m count links holder c b
command_record s n m count links holder c (Manage d) b out = manage_record s n m count links holder c d

-- the same of a view
abbrev pub command_view : View → List ℕ → ℕ → Command → List ℕ → List ℕ → Shown
command_view v m holder w b out = command_record v.s v.n m v.count v.links holder v.rec w b out

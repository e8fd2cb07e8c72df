-- What the calls of a connection are made of. Assumes nothing.
use Rattle.std.specs.Prelude.{ℕ, ◌≡◌, Bool, true, false, cond, List, [], eqb}
use Rattle.cdc.specs.declared.Message.{Message}
use Rattle.cdc.specs.declared.Decoded.{Decoded}
use Rattle.cdc.specs.declared.Decoded.TheVariants.{Good, Malformed}
use Rattle.cdc.specs.Cdc.{decode_of}
use Rattle.conn_record.specs.declared.Record.{Record}
use Rattle.conn_hear.specs.Hear.{hear_of}
use Rattle.group_table.specs.declared.Links.{Links}
use Rattle.group_table.specs.declared.Turned.{Turned}
use Rattle.group_table.specs.Table.{active_b, settled_by}
use Rattle.group_rules.specs.Rules as Rules
use Rattle.group_rules.specs.Promises.{Shown, on_record, hear_record}
use Rattle.group_calls.specs.declared.View.{View}
use Rattle.group_calls.specs.declared.Request.{Request}
use Rattle.group_calls.specs.declared.Request.TheVariants as Requests

-- what a request on slot k, and a message for the slot k, answer and leave of what a call is given
abbrev pub on_view : View → List ℕ → ℕ → Rules.Request → Shown
on_view v m k q = on_record v.s v.n m v.count v.links k v.rec q

abbrev pub hear_view : View → List ℕ → ℕ → List ℕ → Shown
hear_view v m k b = hear_record v.s v.n m v.count v.links k v.rec b

-- the rules' request that the code's names, with what is lent
abbrev pub request_of : Request → List ℕ → List ℕ → Rules.Request
request_of Requests.Send b out = Rules.Request.send b
request_of Requests.Urgent b out = Rules.Request.urgent b
request_of (Requests.Place at) b out = Rules.Request.place at b
request_of Requests.Read b out = Rules.Request.read out
request_of Requests.Shutdown b out = Rules.Request.shutdown
request_of Requests.Close b out = Rules.Request.close
request_of Requests.Abort b out = Rules.Request.abort

-- the out buffer is a read's alone
abbrev pub reads_b : Request → Bool
reads_b Requests.Send = false
reads_b Requests.Urgent = false
reads_b (Requests.Place at) = false
reads_b Requests.Read = true
reads_b Requests.Shutdown = false
reads_b Requests.Close = false
reads_b Requests.Abort = false

abbrev pub out_left : Request → List ℕ → List ℕ
out_left q left = cond (reads_b q) left []

-- any other call leaves it as it was
abbrev pub OutKept : Request → List ℕ → List ℕ → Type 0
OutKept q out left = reads_b q ≡ false → left ≡ out

-- the token of a message; 0 where the bytes are none
abbrev pub token_is : Decoded → ℕ
token_is (Good m) = m.token
token_is Malformed = 0

unfoldable pub token_in : List ℕ → ℕ
token_in b = token_is (decode_of b)

-- a message for the slot `holder`, whose record is c; 5: none holds its token
unfoldable pub heard_by : ℕ → Links → ℕ → Record → Message → Turned
heard_by n l holder c m = settled_by (cond (eqb holder 0) 5 0) l c (hear_of n (active_b l.active c.id.link) c m)

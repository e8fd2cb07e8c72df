-- What the lines of a replay that are calls leave of its group. Assumes nothing.
use Rattle.std.specs.Prelude.{ℕ, ◌≡◌, Option, false, List, ◌++◌, length, take, drop, replicate}
use Rattle.link_exchange.specs.declared.Role.TheVariants.{Client}
use Rattle.link_exchange.specs.Exchange.{no_exchange, empty_queue}
use Rattle.gauge.specs.Gauge.{cleared_of}
use Rattle.conn_record.specs.Connection.{zero_record}
use Rattle.group_table.specs.declared.Links.{Links}
use Rattle.group_make.specs.declared.Command.{Command}
use Rattle.group_make.specs.declared.Made.{Made}
use Rattle.group_make.specs.Rows as Rows
use Rattle.text_gather.specs.declared.GatherMade.{GatherMade}
use Rattle.text_gather.specs.GatherText as Gather
use Rattle.group_link.specs.declared.LinkCommand.{LinkCommand}
use Rattle.text_link.specs.LinkText.{values_in, room_of}
use Rattle.group_link.specs.declared.LinkMade.{LinkMade}
use Rattle.group_link.specs.LinkRows as LinkRows
use Rattle.setup.specs.declared.Settings.{Settings}
use Rattle.text_stream.specs.declared.output.Output.{Output}
use Rattle.text_state.specs.declared.World.{World}
use Rattle.text_state.specs.World.{table_to, links_to, output_to}

-- the links of a fresh group: every link down, every gauge cleared; a client, no exchange, none that waits
unfoldable pub no_links : Links
no_links =
    record {
      active = replicate 4 false;
      gauges = replicate 4 cleared_of;
      role = Client;
      exchange = no_exchange;
      queue = empty_queue;
    }

-- a fresh group: every slot all zeros, and such links
unfoldable pub fresh_of : ℕ → ℕ → ℕ → ℕ → List ℕ → Settings → Output → World
fresh_of s n len count books settings output =
    record {
      s = s;
      n = n;
      len = len;
      table = replicate 300 zero_record;
      count = count;
      links = no_links;
      books = books;
      settings = settings;
      output = output;
    }

-- only the table, the links and what is printed changed
abbrev pub Turned : World → World → Type 0
Turned w r = r ≡ output_to (links_to (table_to w r.table) r.links) r.output

-- the call, on a memory m with b beside it and the out buffer out, left m as l and out as `left`
pub record Called (w : World) (c : Command) (m b out : List ℕ) (r : World) (l left : List ℕ) : Type 0 where
  pub made : Made
  pub did : Rows.OnRows w.table w.count w.s w.n m w.links c b out made l left
  pub table : r.table ≡ made.table
  pub links : r.links ≡ made.answer.links
  pub turned : Turned w r

-- the same, lent LEN bytes of m, `count` of b and `room` of out, these all A5; the bytes after them stay
pub record Lent (w : World) (c : Command) (count room : ℕ) (m b out : List ℕ) (r : World) (m' out' : List ℕ) : Type 0 where
  pub l : List ℕ
  pub left : List ℕ
  pub called : Called w c (take w.len m) (take count b) (replicate (length (take room out)) 165) r l left
  pub memory : m' ≡ l ++ drop w.len m
  pub rest : out' ≡ left ++ drop room out

-- a head h and a body b, sent from a slot
pub record Gathered (w : World) (slot : ℕ) (m h b : List ℕ) (r : World) : Type 0 where
  pub made : GatherMade
  pub did : Gather.OnRows w.table w.count w.s w.n m w.links slot h b made
  pub table : r.table ≡ made.table
  pub links : r.links ≡ made.gathered.answer.links
  pub turned : Turned w r

-- a call on links, with bytes b or values vs beside it, that left the buffer out as `left`
pub record LinkCalled (w : World) (c : LinkCommand) (m b vs out : List ℕ) (r : World) (left : List ℕ) : Type 0 where
  pub made : LinkMade
  pub did : LinkRows.OnRows w.table w.count w.s w.n m w.links c b vs out made left
  pub table : r.table ≡ made.table
  pub links : r.links ≡ made.done.answer.links
  pub turned : Turned w r

-- the same, lent LEN bytes of m, `count` of b or the values there, and its room of out, all A5; the bytes after it stay
pub record LinkLent (w : World) (c : LinkCommand) (count : ℕ) (room : Option ℕ) (m b out : List ℕ) (r : World) (out' : List ℕ) : Type 0 where
  pub left : List ℕ
  pub called :
      LinkCalled w c (take w.len m) (take count b) (values_in b) (replicate (length (take (room_of w.s room) out)) 165) r left
  pub rest : out' ≡ left ++ drop (room_of w.s room) out

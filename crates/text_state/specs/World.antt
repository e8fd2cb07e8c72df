-- The group of a replay: one setter for each field that a line changes. What a line leaves is these, one after the other.
-- Assumes nothing.
use Rattle.std.specs.Prelude.{ℕ, min, cond, List, leb}
use Rattle.conn_record.specs.declared.Record.{Record}
use Rattle.group_table.specs.declared.Links.{Links}
use Rattle.group_table.specs.Table.{with_record}
use Rattle.setup.specs.declared.Settings.{Settings}
use Rattle.text_stream.specs.declared.output.Output.{Output}
use Rattle.text_state.specs.declared.World.{World}

-- a line keeps S, N, LEN and COUNT
abbrev pub line_to : World → List Record → Links → List ℕ → Settings → Output → World
line_to w t l b s o =
    record { s = w.s; n = w.n; len = w.len; table = t; count = w.count; links = l; books = b; settings = s; output = o }

abbrev pub table_to : World → List Record → World
table_to w t = line_to w t w.links w.books w.settings w.output

abbrev pub links_to : World → Links → World
links_to w l = line_to w w.table l w.books w.settings w.output

abbrev pub books_to : World → List ℕ → World
books_to w b = line_to w w.table w.links b w.settings w.output

abbrev pub settings_to : World → Settings → World
settings_to w s = line_to w w.table w.links w.books s w.output

abbrev pub output_to : World → Output → World
output_to w o = line_to w w.table w.links w.books w.settings o

-- a record laid into a slot from 1 to COUNT; a replayed table has at most 300 rows
unfoldable pub laid_in_of : List Record → ℕ → ℕ → Record → List Record
laid_in_of t count slot c = cond (leb slot (min count 300)) (with_record t slot c) t

-- Why a line is bad; `None` for a line that is not. Assumes nothing.
use Rattle.std.specs.Prelude.{ℕ, ◌-◌, cond, ◌&&◌, leb, Option, None, Some, Result, Ok, Err}
use Rattle.text_stream.specs.declared.why.Why.{Why}
use Rattle.text_lines.specs.declared.Line.{Line}

-- a slot that is none of the table's: outside 1 to COUNT, of which a replayed table has at most 300
abbrev pub no_slot_of : ℕ → ℕ → Option Why
no_slot_of slot count = cond (leb 1 slot && (leb slot count && leb slot 300)) None (Some Why.Slot)

-- bytes that do not lie within the memory
abbrev pub outside_of : ℕ → ℕ → ℕ → Option Why
outside_of at n len = cond (leb at len && leb n (len - at)) None (Some Why.Memory)

-- a line that does not parse has its reason; three others are bad by what they meet
abbrev pub why_of : Result Line Why → ℕ → ℕ → Option Why
why_of (Err w) count len = Some w
why_of (Ok (Line.Record slot c)) count len = no_slot_of slot count
why_of (Ok (Line.Poke at n)) count len = outside_of at n len
why_of (Ok (Line.Memory at n)) count len = outside_of at n len
why_of (Ok Line.Skipped) count len = None
why_of (Ok Line.Table) count len = None
why_of (Ok (Line.Group s n l k)) count len = None
why_of (Ok (Line.Call c k room)) count len = None
why_of (Ok (Line.Gather slot h b)) count len = None
why_of (Ok (Line.Health link)) count len = None
why_of (Ok (Line.Gauge link g)) count len = None
why_of (Ok (Line.Pool p)) count len = None
why_of (Ok (Line.Setup l)) count len = None
why_of (Ok (Line.Link l)) count len = None
why_of (Ok (Line.LinkCall c k room)) count len = None

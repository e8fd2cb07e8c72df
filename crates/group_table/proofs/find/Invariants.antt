-- The search's invariant: what is left of it finds what the whole finds.
use Rattle.std.proofs.Common.{length, ◌≡◌}
use Rattle.group_table.specs.Table.{holds_b, find_from}
use Rattle.group_table.proofs.SlotsLaws.{rest}
use Rattle.group_table.proofs.find.Given as goal

abbrev pub invariant-loop-i : goal.invariant-loop-i
invariant-loop-i l = rest (holds_b l.token) l.table (length l.table) l.i ≡ find_from l.table l.token (length l.table)

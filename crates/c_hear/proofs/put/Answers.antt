-- `c_hear::put` meets its contract. Assumes nothing.
use mathlib.Core.Path.{sym}
use Rattle.group_table.proofs.Laws.{record_kept}
use Rattle.c_hear.specs.TableLeft.{table_left}
use Rattle.c_hear.proofs.put.Goals as goal

pub returns-then-t : goal.returns-then-t
unfolding table_left
returns-then-t c = simp (c.put_record.ensures, c.ended.ensures, c.record_at-rec.ensures, c.if-t.true)

pub returns-then-t-2 : goal.returns-then-t-2
unfolding table_left
returns-then-t-2 c = simp (c.put_record-then-t-2.ensures, c.left.ensures, c.record_at-rec.ensures, c.if-t.false, c.if-t-2.true)

pub returns-else-t-2 : goal.returns-else-t-2
unfolding table_left
returns-else-t-2 c = simp (c.if-t.false, c.if-t-2.false) (sym (record_kept _ _))
